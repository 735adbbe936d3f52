-- Our routes are shortest, and every shortest list of legal moves is one of them.
use Prim.Native.Nat.{ℕ, zero, suc, ◌≤◌, ◌<◌, min}
use mathlib.Core.Path.{◌≡◌, ◌∙◌, ap, sym, refl, subst, fun_ext}
use mathlib.Core.Bool.{true, false}
use mathlib.Core.List.{List, [], map}
use mathlib.Core.Logic.{◌≢◌}
use native.Mathlib.Decide.{dec_lt}
use native.Mathlib.Omega.{arith}
use lib.ListN.{length, length-map}
use lib.Seq.{ext_get_or}
use Rattle.board.specs.Peg.{third}
use Rattle.board.specs.Position.{peg, WellFormed}
use Rattle.board.specs.Move.{Move, Leads}
use Rattle.board.proofs.Formed.{formed_pegs}
use Rattle.plan.specs.Plan.{direct, detour, largest, lengths_of, way_of, plan_of, shortest, shortest_way, routes, routes_way}
use Rattle.plan.specs.declared.answer.Lengths.{Lengths}
use Rattle.plan.specs.declared.answer.Way.TheVariants.{Tie}
use Rattle.plan.proofs.Three.{three}
use Rattle.plan.proofs.Gathering.{Pegs}
use Rattle.plan.proofs.Distance.{dist, dist_plan}
use Rattle.plan.proofs.Optimal.{shortest_dist}
use Rattle.route.specs.Route.{plain, after, direct_route, detour_route, route_by, route_of}
use Rattle.route.specs.Inner.Stage.{is_detour}
use Rattle.route.specs.declared.answer.DiscMove.{DiscMove}
use Rattle.route.proofs.Walks.Walk.{Walk, stay, walk_grow}
use Rattle.route.proofs.Walks.Leading.{walk_leads, leads_walk}
use Rattle.route.proofs.Walks.Routes.{direct_walk, direct_length, detour_walk, detour_length}
use Rattle.route.proofs.Shortest.Unique.{Shortest, by_direct, by_detour, ShortestBy, walk_unique}
use Rattle.route.proofs.Shortest.View.{Largest, none, some, largest_view, peg_past, WayView, direct_less, detour_less, equal, way_view, plan_still, plan_moving, route_still, route_moving}

-- Route r of a way is the direct route or the detour, and that one is shortest.
pub data Chosen (l : Lengths) (p q : ℕ → ℕ) (k r : ℕ) : Type 0 where
  goes_direct : route_by (way_of l) p q k r ≡ direct_route p q k → shortest_way (way_of l) ≡ l.direct → is_detour (way_of l) r ≡ false → Chosen l p q k r
  goes_round : route_by (way_of l) p q k r ≡ detour_route p q k → shortest_way (way_of l) ≡ l.detour → is_detour (way_of l) r ≡ true → Chosen l p q k r

pub way_route : (l : Lengths) (p q : ℕ → ℕ) (k r : ℕ) → Chosen l p q k r
unfolding route_by is_detour
way_route l p q k r = at (way_view l)
  where
    tie : (r : ℕ) → way_of l ≡ Tie l → l.direct ≡ l.detour → Chosen l p q k r
    tie zero e same = goes_direct (rw e) (rw e) (rw e)
    tie (suc r) e same = goes_round (rw e) (rw e same) (rw e)

    at : WayView l → Chosen l p q k r
    at (direct_less e c) = goes_direct (rw e) (rw e) (rw e)
    at (detour_less e c) = goes_round (rw e) (rw e) (rw e)
    at (equal e c) = tie r e c

-- A walk from p to q that is as long as the plan says.
pub record ShortWalk (p q : List ℕ) (ms : List DiscMove) : Type 0 where
  pub walk : Walk (length p) (peg p) ms (peg q)
  pub long : length ms ≡ shortest (plan_of p q)

module _ (p q : List ℕ) (same : length p ≡ length q) where
  -- Discs that are not there are alike.
  pub past : (d : ℕ) → length p ≤ d → peg p d ≡ peg q d
  past d l = peg_past p d l ∙ sym (peg_past q d (omega arith))

  -- Where nothing moves, a route is the empty walk.
  still_walk : (r : ℕ) → largest (peg p) (peg q) (length p) ≡ 0 → ((d : ℕ) → d < length p → peg p d ≡ peg q d) → ShortWalk p q (route_of p q r)
  still_walk r m home =
      let here : peg p ≡ peg q = fun_ext λ d. elim (dec_lt d (length p)) [ yes l ↦ home d l | no n ↦ past d (omega arith) ] in
      record {
        walk = rw (route_still p q r m) (subst (λ (v : ℕ → ℕ). Walk (length p) (peg p) [] v) here stay);
        long = rw (route_still p q r m, plan_still p q m);
      }

  -- Larger discs than k + 1 are on their goal pegs, those that are not there too.
  pub above_home : (k : ℕ) → ((d : ℕ) → k < d → d < length p → peg p d ≡ peg q d) → (d : ℕ) → k < d → peg p d ≡ peg q d
  above_home k home d g = elim (dec_lt d (length p)) [ yes i ↦ home d g i | no n ↦ past d (omega arith) ]

  -- Where disc k + 1 is the largest that moves, a route is its direct route or its detour.
  moving_walk : (r k : ℕ) → Pegs (peg p) → Pegs (peg q) → largest (peg p) (peg q) (length p) ≡ suc k → k < length p
      → peg p k ≢ peg q k → ((d : ℕ) → k < d → d < length p → peg p d ≡ peg q d) → ShortWalk p q (route_of p q r)
  moving_walk r k hp hq m l away home =
      let h = three (peg p k) (peg q k) (hp k) (hq k) away in
      let z = third (peg p k) (peg q k) in
      let above = above_home k home in
      elim (way_route (lengths_of (peg p) (peg q) k) (peg p) (peg q) k r) [
        | goes_direct e long d ↦
            record {
              walk = rw (route_moving p q r k m, e) (walk_grow (omega arith) (direct_walk (peg p) (peg q) hp hq k z h above));
              long = rw (route_moving p q r k m, plan_moving p q k m, e, long) (direct_length (peg p) (peg q) hp hq k z h above);
            }
        | goes_round e long d ↦
            record {
              walk = rw (route_moving p q r k m, e) (walk_grow (omega arith) (detour_walk (peg p) (peg q) hp hq k z h above));
              long = rw (route_moving p q r k m, plan_moving p q k m, e, long) (detour_length (peg p) (peg q) hp hq k z h above);
            }
      ]

-- A shortest walk of disc k + 1 is a route of its way.
shortest_route : (p q : ℕ → ℕ) (k : ℕ) {ms : List DiscMove} → p k ≢ q k → Shortest p q k ms
    → (r : ℕ) × (r < routes_way (way_of (lengths_of p q k))) × (ms ≡ route_by (way_of (lengths_of p q k)) p q k r)
unfolding route_by
shortest_route p q k {ms} away s = at s (way_view (lengths_of p q k))
  where
    least : dist p q (suc k) ≡ min (direct p q k) (detour p q k)
    least = dist_plan p q k away

    at : Shortest p q k ms → WayView (lengths_of p q k)
        → (r : ℕ) × (r < routes_way (way_of (lengths_of p q k))) × (ms ≡ route_by (way_of (lengths_of p q k)) p q k r)
    at (by_direct l e) (direct_less w c) = (0, rw w (omega arith), rw w l)
    at (by_direct l e) (detour_less w c) = absurd (omega (arith, least))
    at (by_direct l e) (equal w c) = (0, rw w (omega arith), rw w l)
    at (by_detour l e) (direct_less w c) = absurd (omega (arith, least))
    at (by_detour l e) (detour_less w c) = (0, rw w (omega arith), rw w l)
    at (by_detour l e) (equal w c) = (1, rw w (omega arith), rw w l)

-- Route r of two positions leads from the one to the other in `shortest` moves.
pub record IsRoute (p q : List ℕ) (ms : List DiscMove) : Type 0 where
  pub leads : Leads p (map plain ms) q
  pub ends : after p ms ≡ q
  pub long : length ms ≡ shortest (plan_of p q)

module _ (p q : List ℕ) (same : length p ≡ length q) (hp : WellFormed p) (hq : WellFormed q) where
  -- Every route of a plan is a shortest walk.
  pub route_walk : (r : ℕ) → r < routes (plan_of p q) → ShortWalk p q (route_of p q r)
  route_walk r lt =
      elim (largest_view (peg p) (peg q) (length p)) [
        | none m home ↦ still_walk p q same r m home
        | some k m l away home c ↦ moving_walk p q same r k (formed_pegs p hp) (formed_pegs q hq) m l away home
      ]

  -- A route leads from start to goal, and has `shortest` moves.
  pub route_leads : (r : ℕ) → r < routes (plan_of p q) → IsRoute p q (route_of p q r)
  route_leads r lt =
      let s = route_walk r lt in
      let l = walk_leads s.walk p refl (λ d. refl) in
      let e : after p (route_of p q r) ≡ q = ext_get_or 0 (after p (route_of p q r)) q (l.size ∙ same) (λ d i. l.pegs d) in
      record { leads = rw e at l.leads; ends = e; long = s.long }

  -- A shortest walk is one of our routes.
  walk_route : (ds : List DiscMove) → ShortWalk p q ds → (r : ℕ) × (r < routes (plan_of p q)) × (ds ≡ route_of p q r)
  walk_route ds s =
      at (largest_view (peg p) (peg q) (length p))
      (walk_unique (length p) (formed_pegs p hp) (formed_pegs q hq) s.walk (s.long ∙ shortest_dist p q))
    where
      moving : (k : ℕ) → largest (peg p) (peg q) (length p) ≡ suc k
          → (r : ℕ) × (r < routes_way (way_of (lengths_of (peg p) (peg q) k))) × (ds ≡ route_by (way_of (lengths_of (peg p) (peg q) k)) (peg p) (peg q) k r)
          → (r : ℕ) × (r < routes (plan_of p q)) × (ds ≡ route_of p q r)
      moving k m t = (t.0, rw (plan_moving p q k m) t.1, t.2 ∙ sym (route_moving p q t.0 k m))

      at : Largest (peg p) (peg q) (length p) → ShortestBy (peg p) (peg q) (largest (peg p) (peg q) (length p)) ds
          → (r : ℕ) × (r < routes (plan_of p q)) × (ds ≡ route_of p q r)
      at (none m home) u = (0, rw (plan_still p q m) (omega arith), (rw m at u) ∙ sym (route_still p q 0 m))
      at (some k m l away home c) u = moving k m (shortest_route (peg p) (peg q) k away (rw m at u))

  -- Every list of legal moves that leads from start to goal in `shortest` moves is one of our routes.
  pub route_only : (ms : List Move) → Leads p ms q → length ms ≡ shortest (plan_of p q)
      → (r : ℕ) × (r < routes (plan_of p q)) × (ms ≡ map plain (route_of p q r))
  route_only ms w e =
      let (ds, walk, plainly) = leads_walk hp w in
      let (r, lt, f) = walk_route ds (record { walk = walk; long = sym (length-map ds plain) ∙ ap length plainly ∙ e }) in
      (r, lt, sym plainly ∙ ap (map plain) f)
