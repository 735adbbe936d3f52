-- The wears of gatherings and of towers, for any number of discs.
use Prim.Native.Nat.{ℕ, zero, suc, ◌+◌, ◌*◌, ◌-◌, ◌<◌, ◌^◌}
use mathlib.Core.List.{◌∷◌}
use mathlib.Core.Logic.{inl, inr}
use mathlib.Core.Path.{◌≡◌, ◌∙◌, refl}
use native.Mathlib.Decide.{ℕ_discrete}
use native.Mathlib.Nat.{one-mul, zero-mul}
use native.Mathlib.Omega.{arith}
use borrow.Author.Tests.{eq-eqb, ne_eqb}
use Rattle.board.specs.Peg.{third}
use Rattle.board.proofs.Pegs.{third_same}
use Rattle.plan.specs.Inner.Three.{Three}
use Rattle.plan.proofs.Three.{three_third, three_swap, three_turn, three_flip, compare_pegs}
use Rattle.route.specs.Route.{carry, gathering}
use Rattle.route.proofs.Gatherings.Gathering.{gathering_none, gathering_home, gathering_apart, gathering_away}
use Rattle.wear.specs.Inner.Below.{off_target}
use Rattle.wear.specs.Wear.{wear}
use Rattle.wear.proofs.Wears.{wear_append, wear_here, wear_other}

-- A gathering of k discs moves none larger.
pub gathering_larger : (p : ℕ → ℕ) (k j d : ℕ) → k < d → wear d (gathering p k j) ≡ 0
gathering_larger p zero j d l = unfold wear in rw (gathering_none p j) refl
gathering_larger p (suc k) j d l =
    elim (ℕ_discrete (p k) j) [
      | yes e ↦ rw (gathering_home p k e) (gathering_larger p k j d (omega arith))
      | no n ↦
          let z = third j (p k) in
          rw (gathering_apart p k j n)
          (omega (
            arith,
            wear_append d (gathering p k z) (carry k (p k) j ∷ gathering (λ _. z) k j),
            wear_other d k (p k) j (gathering (λ _. z) k j) (omega arith),
            gathering_larger p k z d (omega arith),
            gathering_larger (λ _. z) k j d (omega arith),
          ))
    ]

-- The largest moves once, where it is not on its target.
pub gathering_largest : (p : ℕ → ℕ) (k j : ℕ) → wear (suc k) (gathering p (suc k) j) ≡ off_target (p k) j
gathering_largest p k j =
    elim (ℕ_discrete (p k) j) [
      | yes e ↦ rw (gathering_home p k e, eq-eqb (p k) j e) (gathering_larger p k j (suc k) (omega arith))
      | no n ↦
          let z = third j (p k) in
          rw (gathering_apart p k j n, ne_eqb (p k) j n)
          (omega (
            arith,
            wear_append (suc k) (gathering p k z) (carry k (p k) j ∷ gathering (λ _. z) k j),
            wear_here k (p k) j (gathering (λ _. z) k j),
            gathering_larger p k z (suc k) (omega arith),
            gathering_larger (λ _. z) k j (suc k) (omega arith),
          ))
    ]

-- Disc d + 1 of a tower of k discs moves 2 ^ (k − (d + 1)) times: once if it is the largest, else twice as often as in the tower without
-- the largest.
pub tower_wear : (k d : ℕ) {x y z : ℕ} → Three x y z → d < k → wear (suc d) (gathering (λ _. x) k y) ≡ 2 ^ (k - suc d)
tower_wear zero d h l = absurd (omega arith)
tower_wear (suc k) d {x} {y} {z} h l =
    elim (ℕ_discrete d k) [
      | yes e ↦
          let none : suc k - suc k ≡ 0 = omega arith in
          rw (e, none) (gathering_largest (λ _. x) k y ∙ rw (ne_eqb x y h.first_second))
      | no n ↦
          let more : suc k - suc d ≡ suc (k - suc d) = omega arith in
          rw (gathering_away (λ _. x) k refl h, more)
          (omega (
            arith,
            wear_append (suc d) (gathering (λ _. x) k z) (carry k x y ∷ gathering (λ _. z) k y),
            wear_other (suc d) k x y (gathering (λ _. z) k y) (omega arith),
            tower_wear k d (three_flip h) (omega arith),
            tower_wear k d (three_turn (three_flip h)) (omega arith),
          ))
    ]

-- A smaller disc moves as often as in the gathering of the smaller discs, and where the largest crosses also as in the tower that follows
-- it.
pub gathering_smaller : (p : ℕ → ℕ) (k j d : ℕ) → p k < 3 → j < 3 → d < k
    → wear (suc d) (gathering p (suc k) j) ≡ off_target (p k) j * 2 ^ (k - suc d) + wear (suc d) (gathering p k (third j (p k)))
gathering_smaller p k j d hp hj l =
    elim (compare_pegs (p k) j hp hj) [
      | inl e ↦
          rw (gathering_home p k e, e, eq-eqb j j refl, third_same, zero-mul) (omega arith)
      | inr h ↦
          let z = third (p k) j in
          rw (gathering_away p k refl h, three_third (three_swap h), ne_eqb (p k) j h.first_second, one-mul)
          (omega (
            arith,
            wear_append (suc d) (gathering p k z) (carry k (p k) j ∷ gathering (λ _. z) k j),
            wear_other (suc d) k (p k) j (gathering (λ _. z) k j) (omega arith),
            tower_wear k d (three_turn (three_flip h)) l,
          ))
    ]
