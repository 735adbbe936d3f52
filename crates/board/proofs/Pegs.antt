-- Laws of pegs and of the third peg of two.
use Prim.Native.Nat.{ℕ, ◌+◌, ◌-◌, ◌<◌}
use mathlib.Core.Bool.{Bool, true, false, cond}
use mathlib.Core.Logic.{◌≢◌}
use mathlib.Core.Path.{◌≡◌, refl, sym}
use native.Mathlib.Omega.{arith}
use borrow.Author.Tests.{eqb-true, eqb-false, eq-eqb, ne_eqb}
use lib.Dec.{eqb}
use Rattle.board.specs.Peg.{third}

-- The third peg of a peg and itself is that peg.
pub third_same : (i : ℕ) → third i i ≡ i
unfolding third
third_same i = rw (eq-eqb i i refl)

-- The third peg of two that differ is what they leave of 3.
pub third_else : (i j : ℕ) → i ≢ j → third i j ≡ 3 - (i + j)
unfolding third
third_else i j h = rw (ne_eqb i j h)

-- A fact holds of the third peg if it holds of i where i is j, and of what they leave of 3 where not.
pub third_cases : (P : ℕ → Type 0) (i j : ℕ) → (i ≡ j → P i) → (i ≢ j → P (3 - (i + j))) → P (third i j)
unfolding third
third_cases P i j same other = go (eqb i j) (eqb-true i j) (eqb-false i j)
  where
    go : (t : Bool) → (t ≡ true → i ≡ j) → (t ≡ false → i ≢ j) → P (cond t i (3 - (i + j)))
    go true eq ne = same (eq refl)
    go false eq ne = other (ne refl)

-- The third peg of a peg and any other is a peg.
pub third_peg : (i j : ℕ) → i < 3 → third i j < 3
third_peg i j hi = third_cases (λ k. k < 3) i j (λ e. hi) (λ n. omega arith)

-- The order of the two pegs makes no difference.
pub third_comm : (i j : ℕ) → third i j ≡ third j i
third_comm i j = third_cases (λ k. k ≡ third j i) i j
    (λ e. rw e (sym (third_same j)))
    (λ n. rw (third_else j i (λ e. n (sym e))) (omega arith))
