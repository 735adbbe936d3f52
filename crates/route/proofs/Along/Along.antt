-- Laws of the pegs along a gathering, by its largest disc.
use Prim.Native.Nat.{ℕ, zero, suc, ◌-◌, ◌≤◌, ◌<◌, ◌^◌}
use mathlib.Core.Path.{◌≡◌, refl}
use mathlib.Core.Bool.{Bool, true, false, cond}
use mathlib.Core.Logic.{◌≢◌}
use native.Mathlib.Omega.{arith}
use borrow.Author.Tests.{eq-eqb, ne_eqb, lt-ltb, le-ltb, le-leb, lt-leb}
use lib.Dec.{eqb, ltb, leb}
use Rattle.board.specs.Peg.{third}
use Rattle.board.proofs.Pegs.{third_peg}
use Rattle.plan.proofs.Gathering.{Pegs}
use Rattle.route.specs.Inner.Along.{along}

module _ (p : ℕ → ℕ) (k j r d : ℕ) where
  -- The largest disc is on its target: the smaller ones keep that target.
  pub along_home : p k ≡ j → along p (suc k) j r d ≡ along p k j r d
  unfolding along
  along_home e = rw (eq-eqb (p k) j e)

  -- The largest disc has yet to move: the smaller ones are on their way to the third peg.
  pub along_before : p k ≢ j → 2 ^ k ≤ r → along p (suc k) j r d ≡ along p k (third j (p k)) (r - 2 ^ k) d
  unfolding along
  along_before n h = rw (ne_eqb (p k) j n, le-leb (2 ^ k) r h)

  -- The largest disc has moved: the smaller ones follow it as a tower.
  pub along_after_below : p k ≢ j → r < 2 ^ k → d < k → along p (suc k) j r d ≡ along (λ _. third j (p k)) k j r d
  unfolding along
  along_after_below n h l = rw (ne_eqb (p k) j n, lt-leb (2 ^ k) r h, ne_eqb d k (omega arith), lt-ltb d k l)

-- The largest disc has moved: it is on its target.
pub along_after_here : (p : ℕ → ℕ) (k j r : ℕ) → p k ≢ j → r < 2 ^ k → along p (suc k) j r k ≡ j
unfolding along
along_after_here p k j r n h = rw (ne_eqb (p k) j n, lt-leb (2 ^ k) r h, eq-eqb k k refl)

-- What holds of both arms of a test holds of the outcome.
both : (P : ℕ → Type 0) {a b : ℕ} (t : Bool) → P a → P b → P (cond t a b)
both P true ha hb = ha
both P false ha hb = hb

-- The larger discs stay.
pub along_above : (p : ℕ → ℕ) (k j r d : ℕ) → k ≤ d → along p k j r d ≡ p d
unfolding along
along_above p zero j r d h = refl
along_above p (suc k) j r d h =
    rw (ne_eqb d k (omega arith), le-ltb d k (omega arith))
    (both (λ x. x ≡ p d) (eqb (p k) j) (along_above p k j r d (omega arith))
    (both (λ x. x ≡ p d) (leb (2 ^ k) r) (along_above p k (third j (p k)) (r - 2 ^ k) d (omega arith)) refl))

-- Every disc is on a peg all along.
pub along_pegs : (p : ℕ → ℕ) → Pegs p → (k j r : ℕ) → j < 3 → Pegs (along p k j r)
unfolding along
along_pegs p hp zero j r hj d = hp d
along_pegs p hp (suc k) j r hj d =
    let z = third_peg j (p k) hj in
    both (λ x. x < 3) (eqb (p k) j) (along_pegs p hp k j r hj d)
    (both (λ x. x < 3) (leb (2 ^ k) r) (along_pegs p hp k (third j (p k)) (r - 2 ^ k) z d)
    (both (λ x. x < 3) (eqb d k) hj
    (both (λ x. x < 3) (ltb d k) (along_pegs (λ _. third j (p k)) (λ _. z) k j r hj d) (hp d))))

-- Only the pegs of the discs that are gathered count, and the disc's own.
pub along_cong : (k : ℕ) (u v : ℕ → ℕ) (j r d : ℕ) → ((e : ℕ) → e < k → u e ≡ v e) → u d ≡ v d → along u k j r d ≡ along v k j r d
unfolding along
along_cong zero u v j r d same here = here
along_cong (suc k) u v j r d same here =
    rw (
      same k (omega arith),
      along_cong k u v j r d (λ e l. same e (omega arith)) here,
      along_cong k u v (third j (v k)) (r - 2 ^ k) d (λ e l. same e (omega arith)) here,
      here,
    )
