-- A position as a record holds it: an array of `limit` bytes, the unused ones 0 (document 01, Begin and Play).
use Rattle.std.specs.Prelude.{ℕ, ◌-◌, ◌≤◌, ◌<◌, Bool, true, ◌&&◌, List, [], ◌∷◌, ◌++◌, ◌≡◌, eqb, length, get_or, take, drop, replicate}
use Rattle.board.specs.Position.{well_formed}
use Rattle.board.specs.Task.{limit}

-- The array of a position.
abbrev pub padded : List ℕ → List ℕ
padded p = p ++ replicate (limit - length p) 0

-- The test that all bytes are 0.
unfoldable pub all_zero : List ℕ → Bool
all_zero [] = true
all_zero (b ∷ p) = eqb b 0 && all_zero p

-- The test that the array a holds a position of n discs: used bytes are at most 2, unused bytes 0.
unfoldable pub holds_position : ℕ → List ℕ → Bool
holds_position n a = well_formed (take n a) && all_zero (drop n a)

-- The same as a proposition. The law `holds_exactly` (proofs/Arrays) says that the test passes exactly here.
pub record HoldsPosition (n : ℕ) (a : List ℕ) : Type 0 where
  pub used : (d : ℕ) → d < n → get_or a d 0 ≤ 2
  pub unused : (d : ℕ) → n ≤ d → get_or a d 0 ≡ 0
