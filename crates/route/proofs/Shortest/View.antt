-- What a plan says of its two positions: nothing moves, or a largest disc does.
use Prim.Native.Nat.{ℕ, zero, suc, ◌-◌, ◌≤◌, ◌<◌}
use mathlib.Core.Path.{◌≡◌, ◌∙◌, ap, refl}
use mathlib.Core.List.{List, []}
use mathlib.Core.Logic.{◌≢◌}
use native.Mathlib.Decide.{ℕ_discrete, dec_lt}
use native.Mathlib.Omega.{arith}
use borrow.Author.Tests.{lt-ltb, le-ltb}
use lib.ListN.{length, get_or-eq_default}
use Rattle.board.specs.Position.{peg}
use Rattle.plan.specs.Plan.{largest, lengths_of, way_of, plan_by, plan_of}
use Rattle.plan.specs.declared.answer.Lengths.{Lengths}
use Rattle.plan.specs.declared.answer.Way.TheVariants.{Still, Direct, Detour, Tie}
use Rattle.plan.proofs.Distance.{dist, dist_home}
use Rattle.plan.proofs.Largest.{largest_none, largest_stays, largest_moves}
use Rattle.route.specs.Route.{route_by, route_of}

-- The largest of n discs whose pegs differ: none, or disc k + 1 with all larger ones on their goal pegs.
pub data Largest (p q : ℕ → ℕ) (n : ℕ) : Type 0 where
  none : largest p q n ≡ 0 → ((d : ℕ) → d < n → p d ≡ q d) → Largest p q n
  some : (k : ℕ) → largest p q n ≡ suc k → k < n → p k ≢ q k → ((d : ℕ) → k < d → d < n → p d ≡ q d) → dist p q n ≡ dist p q (suc k) → Largest p q n

pub largest_view : (p q : ℕ → ℕ) (n : ℕ) → Largest p q n
largest_view p q zero = none (largest_none p q) (λ d l. absurd (omega arith))
largest_view p q (suc n) =
    elim (ℕ_discrete (p n) (q n)) [
      | yes e ↦ more e (largest_view p q n)
      | no a ↦ some n (largest_moves p q n a) (omega arith) a (λ d l m. absurd (omega arith)) refl
    ]
  where
    more : p n ≡ q n → Largest p q n → Largest p q (suc n)
    more e (none m h) =
        none (largest_stays p q n e ∙ m) (λ d l. elim (ℕ_discrete d n) [ yes f ↦ rw f e | no g ↦ h d (omega arith) ])
    more e (some k m l a h c) =
        some k (largest_stays p q n e ∙ m) (omega arith) a
        (λ d l m. elim (ℕ_discrete d n) [ yes f ↦ rw f e | no g ↦ h d l (omega arith) ])
        (dist_home p q n e ∙ c)

-- Discs that are not there count as being on peg 0.
pub peg_past : (p : List ℕ) (d : ℕ) → length p ≤ d → peg p d ≡ 0
peg_past p d l = get_or-eq_default p 0 l

-- The way of two lengths, with the order that it stands for.
pub data WayView (l : Lengths) : Type 0 where
  direct_less : way_of l ≡ Direct l → l.direct < l.detour → WayView l
  detour_less : way_of l ≡ Detour l → l.detour < l.direct → WayView l
  equal : way_of l ≡ Tie l → l.direct ≡ l.detour → WayView l

pub way_view : (l : Lengths) → WayView l
unfolding way_of
way_view l =
    elim (dec_lt l.direct l.detour) [
      | yes a ↦ direct_less (rw (lt-ltb l.direct l.detour a)) a
      | no n ↦ elim (dec_lt l.detour l.direct) [
        | yes b ↦ detour_less (rw (le-ltb l.direct l.detour (omega arith), lt-ltb l.detour l.direct b)) b
        | no m ↦ equal (rw (le-ltb l.direct l.detour (omega arith), le-ltb l.detour l.direct (omega arith))) (omega arith)
      ]
    ]

module _ (p q : List ℕ) where
  -- Where nothing moves the plan is still.
  pub plan_still : largest (peg p) (peg q) (length p) ≡ 0 → (plan_of p q).way ≡ Still
  unfolding plan_of plan_by
  plan_still e = rw e

  -- Where disc k + 1 is the largest that moves, the way is that of its two lengths.
  pub plan_moving : (k : ℕ) → largest (peg p) (peg q) (length p) ≡ suc k → (plan_of p q).way ≡ way_of (lengths_of (peg p) (peg q) k)
  unfolding plan_of plan_by
  plan_moving k e = rw e

  -- And the routes are those of disc k + 1.
  pub route_still : (r : ℕ) → largest (peg p) (peg q) (length p) ≡ 0 → route_of p q r ≡ []
  unfolding route_of plan_of plan_by route_by
  route_still r e = rw e

  pub route_moving : (r k : ℕ) → largest (peg p) (peg q) (length p) ≡ suc k
      → route_of p q r ≡ route_by (way_of (lengths_of (peg p) (peg q) k)) (peg p) (peg q) k r
  unfolding route_of plan_of plan_by
  route_moving r k e =
      let less : suc k - 1 ≡ k = omega arith in rw e (ap (λ (i : ℕ). route_by (way_of (lengths_of (peg p) (peg q) k)) (peg p) (peg q) i r) less)
