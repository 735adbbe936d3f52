-- All positions of n discs, and all ordered pairs of them (02, CR 10).
use Rattle.std.specs.Prelude.{ℕ, zero, suc, ◌≡◌, length}
use mathlib.Core.List.{List, [], ◌∷◌, ◌++◌, map, product}
use Rattle.board.specs.Position.{WellFormed}

-- p is a position of n discs.
pub record IsPosition (n : ℕ) (p : List ℕ) : Type 0 where
  pub size : length p ≡ n
  pub formed : WellFormed p

-- A position with a new largest disc on peg i.
abbrev pub with_largest : ℕ → List ℕ → List ℕ
with_largest i p = p ++ (i ∷ [])

-- All positions of n discs: the largest disc on each of the three pegs, and the smaller ones in each of their positions.
unfoldable pub positions : ℕ → List (List ℕ)
positions zero = [] ∷ []
positions (suc n) =
    map (with_largest 0) (positions n) ++ map (with_largest 1) (positions n) ++ map (with_largest 2) (positions n)

-- All ordered pairs of them, a start and a goal each.
abbrev pub pairs : ℕ → List (List ℕ × List ℕ)
pairs n = product (positions n) (positions n)
