-- Both ways of the largest disc that moves lead from start to goal, in as many moves as the plan says of them; and their numbers.
use Prim.Native.Nat.{ℕ, suc, ◌-◌, ◌<◌}
use mathlib.Core.List.{List, map}
use mathlib.Core.Logic.{◌≢◌}
use mathlib.Core.Path.{◌≡◌, ◌∙◌, refl}
use native.Mathlib.Omega.{arith}
use lib.ListN.{length}
use lib.Seq.{ext_get_or}
use Rattle.board.specs.Move.{Leads}
use Rattle.board.specs.Peg.{third}
use Rattle.board.specs.Position.{peg, WellFormed}
use Rattle.board.proofs.Formed.{formed_pegs}
use Rattle.plan.specs.Plan.{largest, lengths_of, way_of, plan_by, plan_of, HasLengths}
use Rattle.plan.specs.declared.answer.Lengths.{Lengths}
use Rattle.plan.specs.declared.answer.Way.{Way}
use Rattle.plan.specs.declared.answer.Way.TheVariants.{Still, Direct, Detour, Tie}
use Rattle.plan.proofs.Three.{three}
use Rattle.route.specs.Demand2.{direct_of, detour_of, Ways, Numbered}
use Rattle.route.specs.Route.{plain, after, direct_route, detour_route, route_by, route_of}
use Rattle.route.specs.declared.answer.DiscMove.{DiscMove}
use Rattle.route.proofs.Walks.Walk.{Walk, walk_grow}
use Rattle.route.proofs.Walks.Leading.{walk_leads}
use Rattle.route.proofs.Walks.Routes.{direct_walk, direct_length, detour_walk, detour_length}
use Rattle.route.proofs.Shortest.Routes.{above_home}
use Rattle.route.proofs.Shortest.View.{none, some, largest_view, WayView, direct_less, detour_less, equal, way_view, plan_still, plan_moving}

-- The way of two lengths has these.
way_lengths : (m l : Lengths) → HasLengths (way_of m) l → m ≡ l
way_lengths m l has = at (way_view m)
  where
    at : WayView m → m ≡ l
    at (direct_less e c) = rw e at has
    at (detour_less e c) = rw e at has
    at (equal e c) = rw e at has

-- A still plan has none.
still_none : (w : Way) (l : Lengths) → w ≡ Still → ¬ HasLengths w l
still_none w l e has = rw e at has

module _ (s g : List ℕ) (size : length s ≡ length g) (hs : WellFormed s) (hg : WellFormed g) where
  -- A walk of the largest disc that moves leads from start to goal.
  walk_over : (k : ℕ) → k < length s → (ms : List DiscMove) → Walk (suc k) (peg s) ms (peg g) → Leads s (map plain ms) g
  walk_over k within ms w =
      let l = walk_leads (walk_grow (omega arith) w) s refl (λ d. refl) in
      let ends : after s ms ≡ g = ext_get_or 0 (after s ms) g (l.size ∙ size) (λ d i. l.pegs d) in
      rw ends at l.leads

  -- The largest disc that moves, of a plan with lengths.
  largest_disc : (k : ℕ) → largest (peg s) (peg g) (length s) ≡ suc k → (plan_of s g).largest - 1 ≡ k
  unfolding plan_of plan_by
  largest_disc k m = rw m (omega arith)

  moving_ways : (k : ℕ) → largest (peg s) (peg g) (length s) ≡ suc k → k < length s → peg s k ≢ peg g k
      → ((d : ℕ) → k < d → d < length s → peg s d ≡ peg g d) → (l : Lengths) → lengths_of (peg s) (peg g) k ≡ l → Ways s g l
  moving_ways k m within away home l e =
      let hp = formed_pegs s hs in
      let hq = formed_pegs g hg in
      let z = third (peg s k) (peg g k) in
      let h = three (peg s k) (peg g k) (hp k) (hq k) away in
      let above = above_home s g size k home in
      let disc = largest_disc k m in
      record {
        direct_leads = rw disc (walk_over k within (direct_route (peg s) (peg g) k) (direct_walk (peg s) (peg g) hp hq k z h above));
        direct_long = rw (disc, ← e) (direct_length (peg s) (peg g) hp hq k z h above);
        detour_leads = rw disc (walk_over k within (detour_route (peg s) (peg g) k) (detour_walk (peg s) (peg g) hp hq k z h above));
        detour_long = rw (disc, ← e) (detour_length (peg s) (peg g) hp hq k z h above);
      }

  pub plan_ways : (l : Lengths) → HasLengths (plan_of s g).way l → Ways s g l
  plan_ways l has =
      elim (largest_view (peg s) (peg g) (length s)) [
        | none m home ↦ absurd (still_none _ l (plan_still s g m) has)
        | some k m within away home c ↦ moving_ways k m within away home l (way_lengths _ l (rw (plan_moving s g k m) at has))
      ]

-- The routes are numbered as the way of the plan says.
pub plan_numbered : (s g : List ℕ) → Numbered (plan_of s g).way (route_of s g) (direct_of s g) (detour_of s g)
unfolding route_by route_of
plan_numbered s g = by (plan_of s g).way ((plan_of s g).largest - 1)
  where
    by : (w : Way) (k : ℕ) → Numbered w (route_by w (peg s) (peg g) k) (direct_route (peg s) (peg g) k) (detour_route (peg s) (peg g) k)
    by Still k = refl
    by (Direct l) k = refl
    by (Detour l) k = refl
    by (Tie l) k = (refl, refl)
