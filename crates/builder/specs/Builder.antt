-- The builder, and when it is sound (02, CR 9).
use Rattle.std.specs.Prelude.{ℕ, ◌≤◌, ◌<◌, Bool, ◌&&◌, List, [], ◌∷◌, ◌≡◌, eqb, leb, length, get_or, take, replicate}
use Rattle.board.specs.Fewest.{same}
use Rattle.board.specs.Held.{holds_position, HoldsPosition}
use Rattle.board.specs.Reply.{answer}
use Rattle.board.specs.Task.{limit}
use Rattle.plan.specs.Answer.{gather_answer}
use Rattle.builder.specs.Lengths.{gathers}
use Rattle.builder.specs.declared.record.Builder.{Builder}

-- At first no discs and 0s.
abbrev pub empty : Builder
empty = record { n = 0; position = replicate limit 0; lengths = 0 ∷ 0 ∷ 0 ∷ [] }

-- The position of a builder: its first n bytes.
abbrev pub position_of : Builder → List ℕ
position_of b = take b.n b.position

-- The length that it holds for target i.
abbrev pub length_for : Builder → ℕ → ℕ
length_for b i = get_or b.lengths i 0

-- The test that a builder is sound: it holds a position within the limits of a record, and the three lengths of that position.
unfoldable pub sound : Builder → Bool
sound b =
    eqb (length b.position) limit
    && (leb b.n limit
    && (holds_position b.n b.position
    && same b.lengths (gathers (position_of b))))

-- The same as a proposition; `sized` and `three` are what the types in the code say. The law `sound_exactly` (proofs/Holding) says that the
-- test passes exactly here.
pub record Sound (b : Builder) : Type 0 where
  pub sized : length b.position ≡ limit
  pub three : length b.lengths ≡ 3
  pub few : b.n ≤ limit
  pub holds : HoldsPosition b.n b.position
  pub own : (i : ℕ) → i < 3 → gather_answer (position_of b) i ≡ answer (length_for b i)
