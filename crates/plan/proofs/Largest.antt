-- Laws of the largest disc that moves, for any number of discs.
use Prim.Native.Nat.{ℕ, zero, suc, ◌-◌, ◌≤◌, ◌<◌}
use mathlib.Core.Path.{◌≡◌, ◌∙◌, ap, refl, sym}
use mathlib.Core.Logic.{◌≢◌}
use native.Mathlib.Decide.{ℕ_discrete}
use native.Mathlib.Omega.{arith}
use borrow.Author.Tests.{eq-eqb, ne_eqb}
use Rattle.plan.specs.Plan.{largest, lengths_of, way_of, plan_by}

-- Of no discs none moves.
pub largest_none : (p q : ℕ → ℕ) → largest p q 0 ≡ 0
unfolding largest
largest_none p q = refl

-- Disc k + 1 stays: the largest is among the smaller ones.
pub largest_stays : (p q : ℕ → ℕ) (k : ℕ) → p k ≡ q k → largest p q (suc k) ≡ largest p q k
unfolding largest
largest_stays p q k e = rw (eq-eqb (p k) (q k) e)

-- Disc k + 1 moves: it is the largest.
pub largest_moves : (p q : ℕ → ℕ) (k : ℕ) → p k ≢ q k → largest p q (suc k) ≡ suc k
unfolding largest
largest_moves p q k n = rw (ne_eqb (p k) (q k) n)

-- Disc m moves: it is the largest.
pub largest_here : (p q : ℕ → ℕ) (m : ℕ) → 0 < m → p (m - 1) ≢ q (m - 1) → largest p q m ≡ m
largest_here p q m h n =
    let up : m ≡ suc (m - 1) = omega arith in ap (largest p q) up ∙ largest_moves p q (m - 1) n ∙ sym up

-- Disc m stays: the largest is among the smaller ones.
pub largest_less : (p q : ℕ → ℕ) (m : ℕ) → 0 < m → p (m - 1) ≡ q (m - 1) → largest p q m ≡ largest p q (m - 1)
largest_less p q m h e = let up : m ≡ suc (m - 1) = omega arith in ap (largest p q) up ∙ largest_stays p q (m - 1) e

-- The largest is one of the discs.
pub largest_le : (p q : ℕ → ℕ) (n : ℕ) → largest p q n ≤ n
largest_le p q zero = omega (arith, largest_none p q)
largest_le p q (suc k) =
    elim (ℕ_discrete (p k) (q k)) [
      | yes e ↦ omega (arith, largest_stays p q k e, largest_le p q k)
      | no n ↦ omega (arith, largest_moves p q k n)
    ]

-- The plan where disc m is the largest that moves.
pub plan_moving : (n : ℕ) (p q : ℕ → ℕ) (m : ℕ) → m ≢ 0
    → plan_by n p q m
    ≡ record { discs = n; largest = m; from = p (m - 1); to = q (m - 1); way = way_of (lengths_of p q (m - 1)) }
unfolding plan_by
plan_moving n p q zero h = absurd (h refl)
plan_moving n p q (suc k) h = let less : suc k - 1 ≡ k = omega arith in rw less
