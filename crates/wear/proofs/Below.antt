-- The wears of the discs below the one that crosses.
use Prim.Native.Nat.{ℕ, zero, suc, ◌+◌, ◌*◌, ◌-◌, ◌<◌, ◌^◌}
use mathlib.Core.List.{List}
use mathlib.Core.Path.{◌≡◌, refl}
use native.Mathlib.Nat.{add-mul, mul_left_comm, mul-one}
use native.Mathlib.Omega.{arith}
use Rattle.board.specs.Peg.{third}
use Rattle.board.proofs.Pegs.{third_peg}
use Rattle.plan.proofs.Gathering.{Pegs}
use Rattle.route.specs.Route.{gathering}
use Rattle.route.specs.declared.answer.DiscMove.{DiscMove}
use Rattle.wear.specs.Inner.Below.{off_target, moves_of, wears_below}
use Rattle.wear.specs.Wear.{wear, wears}
use Rattle.wear.proofs.Gatherings.{gathering_largest, gathering_smaller}

-- Twice the gaps and two tests, times a power.
gaps_times : (g a b w : ℕ) → (g + (g + a + b)) * w ≡ g * (2 * w) + a * w + b * w
gaps_times g a b w =
    omega (arith, add-mul g (g + a + b) w, add-mul (g + a) b w, add-mul g a w, mul_left_comm g 2 w)

-- A disc of a list moves as often as in the gathering of the start, in that of the goal, and as a tower of k discs in each gap.
abbrev pub Counted : (ℕ → ℕ) → (ℕ → ℕ) → ℕ → ℕ → ℕ → ℕ → List DiscMove → ℕ → Type 0
Counted p q k i j gaps ms d =
    wear (suc d) ms ≡ gaps * 2 ^ (k - suc d) + wear (suc d) (gathering p k i) + wear (suc d) (gathering q k j)

module _ (p q : ℕ → ℕ) (hp : Pegs p) (hq : Pegs q) (ms : List DiscMove) where
  -- The largest of k + 1 such discs.
  counted_largest : (k i j gaps : ℕ) → Counted p q (suc k) i j gaps ms k → moves_of p q k i j gaps ≡ wear (suc k) ms
  counted_largest k i j gaps h =
      let none : suc k - suc k ≡ 0 = omega arith in
      let here : wear (suc k) ms ≡ gaps * 2 ^ 0 + off_target (p k) i + off_target (q k) j = rw (none, gathering_largest p k i, gathering_largest q k j) at h in
      omega (arith, mul-one gaps)

  -- A smaller one, with the gaps that the largest leaves.
  counted_smaller : (k i j gaps d : ℕ) → i < 3 → j < 3 → d < k → Counted p q (suc k) i j gaps ms d
      → Counted p q k (third i (p k)) (third j (q k)) (gaps + moves_of p q k i j gaps) ms d
  counted_smaller k i j gaps d hi hj l h =
      let more : suc k - suc d ≡ suc (k - suc d) = omega arith in
      let power : 2 ^ suc (k - suc d) ≡ 2 * 2 ^ (k - suc d) = omega arith in
      let there = rw (more, power, gathering_smaller p k i d (hp k) hi l, gathering_smaller q k j d (hq k) hj l) at h in
      omega (arith, there, gaps_times gaps (off_target (p k) i) (off_target (q k) j) (2 ^ (k - suc d)))

  -- All of them.
  pub below_counted : (k i j gaps : ℕ) → i < 3 → j < 3 → ((d : ℕ) → d < k → Counted p q k i j gaps ms d) → wears_below p q k i j gaps ≡ wears k ms
  unfolding wears_below wears
  below_counted zero i j gaps hi hj h = refl
  below_counted (suc k) i j gaps hi hj h =
      rw (
        below_counted k (third i (p k)) (third j (q k)) (gaps + moves_of p q k i j gaps) (third_peg i (p k) hi) (third_peg j (q k) hj)
            (λ d l. counted_smaller k i j gaps d hi hj l (h d (omega arith))),
        counted_largest k i j gaps (h k (omega arith)),
      )
