-- The wears of the discs below the one that crosses, without the list of moves. `p d` and `q d` are the pegs of disc d + 1 at the start and
-- at the goal.
use Rattle.std.specs.Prelude.{ℕ, zero, suc, ◌+◌, ◌^◌, ◌≤◌, ◌<◌, cond, List, [], ◌∷◌, ◌++◌, eqb, length}
use Rattle.board.specs.Peg.{third}
use Rattle.plan.specs.Inner.Together.{added}
use Rattle.wear.specs.declared.writing.Gaps.{Gaps}

-- 1 where a disc on peg i is not on its target j, else 0.
abbrev pub off_target : ℕ → ℕ → ℕ
off_target i j = cond (eqb i j) 0 1

-- How often disc k + 1 moves: once in each gap between two moves of larger discs, and before and after them where it is not on its target.
abbrev pub moves_of : (ℕ → ℕ) → (ℕ → ℕ) → ℕ → ℕ → ℕ → ℕ → ℕ
moves_of p q k i j gaps = gaps + off_target (p k) i + off_target (q k) j

-- The wears of discs 1 to k, where disc k has the targets i and j. Each of its moves is one gap more for the smaller ones.
unfoldable pub wears_below : (ℕ → ℕ) → (ℕ → ℕ) → ℕ → ℕ → ℕ → ℕ → List ℕ
wears_below p q zero i j gaps = []
wears_below p q (suc k) i j gaps =
    wears_below p q k (third i (p k)) (third j (q k)) (gaps + moves_of p q k i j gaps) ++ (moves_of p q k i j gaps ∷ [])

-- They can be written: the discs and their entries are there, their targets are pegs, and the gaps, which in the end are `added`, fit 64
-- bits.
pub record Writable (s t : List ℕ) (k : ℕ) (above : Gaps) (out : List ℕ) : Type 0 where
  pub there : k ≤ length s
  pub first_peg : above.first < 3
  pub last_peg : above.last < 3
  pub fits : added s t k above.first above.last above.between < 2 ^ 64
  pub room : k ≤ length out
