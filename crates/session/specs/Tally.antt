-- The tally (document 01, "What demand 3 speaks of"; 02, CR 3): a plain account kept beside a session, fed the task and the calls, and
-- nothing of the record.
use Rattle.std.specs.Prelude.{ℕ, ◌+◌, List, [], ◌∷◌}
use Rattle.board.specs.Fewest.{fewest}
use Rattle.board.specs.Legal.{legal_check}
use Rattle.board.specs.Move.{Move, moved}
use Rattle.board.specs.Reply.{Reply, refused, answer, ◌>>◌, Check, check}
use Rattle.board.specs.Task.{start, goal}
use Rattle.session.specs.Counts.{no_plays, mark_of, counted, fumble, full, figures_of}
use Rattle.session.specs.declared.counting.Counts.{Counts}
use Rattle.session.specs.declared.counting.Figures.{Figures}
use Rattle.session.specs.declared.counting.Mark.{Mark}

-- A call on the record: a play with its from and to, or a report.
pub data Call : Type 0 where
  play : Move → Call
  report : Call

-- What a call that is not refused says: a mark, or a report's figures.
pub data Said : Type 0 where
  marked : Mark → Said
  reports : Figures → Said

-- A position, the counts, the fumbles and what remains.
pub record Tally : Type 0 where
  pub position : List ℕ
  pub counts : Counts
  pub fumbles : ℕ
  pub remaining : ℕ

-- At first the start, all counts and the fumbles 0, and what remains the fewest from start to goal.
abbrev pub fresh : List ℕ → Tally
fresh t = record { position = start t; counts = no_plays; fumbles = 0; remaining = fewest (start t) (goal t) }

-- A play is refused with the first that applies: 11, then 3, 8 and 9, read on the tally's position.
unfoldable pub tally_check : Tally → Move → Check
tally_check y m = do
  check (full y.counts y.fumbles) 11
  legal_check y.position m

-- Its mark: the fewest to the goal before the move less the same after it.
unfoldable pub tally_mark : List ℕ → Tally → Move → Mark
tally_mark t y m = mark_of (fewest y.position (goal t)) (fewest (moved y.position m) (goal t))

-- The tally after an accepted play: the disc has moved, the play is counted, and what remains is set anew.
abbrev pub played_tally : List ℕ → Tally → Move → Mark → Tally
played_tally t y m k =
    record {
      position = moved y.position m;
      counts = counted y.counts k;
      fumbles = y.fumbles;
      remaining = fewest (moved y.position m) (goal t);
    }

-- After one refused with k: its fumbles alone may rise.
abbrev pub refused_tally : Tally → ℕ → Tally
refused_tally y k =
    record { position = y.position; counts = y.counts; fumbles = y.fumbles + fumble k; remaining = y.remaining }

-- The one or the other, as the check says.
abbrev pub tally_or : Check → Tally → Tally → Tally
tally_or (refused k) after before = refused_tally before k
tally_or (answer u) after before = after

-- What the tally replies to a call.
unfoldable pub tally_reply : List ℕ → Tally → Call → Reply Said
tally_reply t y (play m) = do
  tally_check y m
  answer (marked (tally_mark t y m))
tally_reply t y report =
    answer (reports (figures_of y.counts (fewest y.position (goal t)) (fewest (start t) (goal t))))

-- The tally after it.
unfoldable pub tallied : List ℕ → Tally → Call → Tally
tallied t y (play m) = tally_or (tally_check y m) (played_tally t y m (tally_mark t y m)) y
tallied t y report = y

-- Over a list of calls: the replies in turn, and the tally at the end.
unfoldable pub tally_replies : List ℕ → Tally → List Call → List (Reply Said)
tally_replies t y [] = []
tally_replies t y (c ∷ cs) = tally_reply t y c ∷ tally_replies t (tallied t y c) cs

unfoldable pub tally_after : List ℕ → Tally → List Call → Tally
tally_after t y [] = y
tally_after t y (c ∷ cs) = tally_after t (tallied t y c) cs
