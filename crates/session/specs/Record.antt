-- The session record, and when it is sound (document 01, Begin and Play; 02, CR 3).
use Rattle.std.specs.Prelude.{ℕ, ◌≤◌, Bool, ◌&&◌, List, ◌≡◌, eqb, leb, take}
use Rattle.board.specs.Fewest.{fewest}
use Rattle.board.specs.Held.{holds_position, HoldsPosition}
use Rattle.board.specs.Task.{limit}
use Rattle.session.specs.Counts.{play_limit, counts_agree, marks_agree, Account}
use Rattle.session.specs.declared.record.Session.{Session}

-- The positions of a record: its first n bytes.
abbrev pub start_of : Session → List ℕ
start_of s = take s.n s.start

abbrev pub goal_of : Session → List ℕ
goal_of s = take s.n s.goal

abbrev pub current_of : Session → List ℕ
current_of s = take s.n s.current

-- The fewest from its start to its goal, and from where it stands.
abbrev pub first_of : Session → ℕ
first_of s = fewest (start_of s) (goal_of s)

abbrev pub now_of : Session → ℕ
now_of s = fewest (current_of s) (goal_of s)

-- The test that n is at most 60, used bytes are at most 2 and unused bytes 0.
unfoldable pub positions_held : Session → Bool
positions_held s =
    leb s.n limit
    && (holds_position s.n s.start
    && (holds_position s.n s.goal
    && holds_position s.n s.current))

-- The test that a record is sound: its positions are, its counts add up, its fumbles are few enough, what remains is the fewest from where
-- it stands, and its marks account for the way there.
unfoldable pub sound : Session → Bool
sound s =
    positions_held s
    && (counts_agree s.counts
    && (leb s.fumbles play_limit
    && (eqb s.remaining (now_of s)
    && marks_agree s.counts (now_of s) (first_of s))))

-- The same as propositions. The laws `positions_exactly` and `sound_exactly` (proofs/Soundness) say that the tests pass exactly here.
pub record PositionsHeld (s : Session) : Type 0 where
  pub few : s.n ≤ limit
  pub start : HoldsPosition s.n s.start
  pub goal : HoldsPosition s.n s.goal
  pub current : HoldsPosition s.n s.current

pub record Sound (s : Session) : Type 0 where
  pub positions : PositionsHeld s
  pub account : Account s.counts (now_of s) (first_of s)
  pub fumbles : s.fumbles ≤ play_limit
  pub remaining : s.remaining ≡ now_of s
