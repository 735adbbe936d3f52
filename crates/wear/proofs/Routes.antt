-- The wears of a route, by its plan.
use Prim.Native.Nat.{ℕ, zero, suc, ◌+◌, ◌-◌, ◌≤◌, ◌<◌}
use mathlib.Core.Bool.{Bool, true, false, cond}
use mathlib.Core.List.{List, [], ◌∷◌, ◌++◌}
use mathlib.Core.Logic.{◌≢◌}
use mathlib.Core.Path.{◌≡◌, ◌∙◌, refl, ap}
use native.Mathlib.Omega.{arith}
use lib.ListN.{length, replicate}
use Rattle.board.specs.Peg.{third}
use Rattle.board.specs.Position.{peg}
use Rattle.board.proofs.Formed.{formed_pegs}
use Rattle.plan.specs.Inner.Sound.{Ends}
use Rattle.plan.specs.Plan.{direct, detour, lengths_of, way_of, plan_of, shortest}
use Rattle.plan.specs.declared.answer.Lengths.{Lengths}
use Rattle.plan.specs.declared.answer.Plan.{Plan}
use Rattle.plan.specs.declared.answer.Way.{Way}
use Rattle.plan.specs.declared.answer.Way.TheVariants.{Still, Tie}
use Rattle.plan.proofs.Gathering.{Pegs}
use Rattle.route.specs.Inner.Stage.{is_detour}
use Rattle.route.specs.Route.{direct_route, detour_route, route_of}
use Rattle.route.proofs.Courses.Found.{plan_none, plan_disc}
use Rattle.route.proofs.Courses.Plan.{plan_pegs, plan_largest}
use Rattle.route.proofs.Shortest.Routes.{goes_direct, goes_round, way_route}
use Rattle.route.proofs.Shortest.View.{none, some, largest_view, WayView, direct_less, detour_less, equal, way_view, plan_moving, route_still, route_moving}
use Rattle.wear.specs.Inner.Below.{wears_below}
use Rattle.wear.specs.Request6.{crossings}
use Rattle.wear.specs.Wear.{wear, wears}
use Rattle.wear.proofs.Wears.{wears_unmoved}
use Rattle.wear.proofs.Crossings.{direct_crosses, direct_larger, direct_wears, detour_crosses, detour_larger, detour_wears}

-- How often the disc of a way crosses is told by whether the route is a detour.
crossings_by : (l : Lengths) (r : ℕ) → crossings (way_of l) r ≡ cond (is_detour (way_of l) r) 2 1
unfolding is_detour
crossings_by l r = at (way_view l)
  where
    tie : (r : ℕ) → crossings (Tie l) r ≡ cond (is_detour (Tie l) r) 2 1
    tie zero = refl
    tie (suc r) = refl

    at : WayView l → crossings (way_of l) r ≡ cond (is_detour (way_of l) r) 2 1
    at (direct_less e c) = rw e
    at (detour_less e c) = rw e
    at (equal e c) = rw e (tie r)

-- Disc k + 1 is the largest that moves.
pub record Crosses (s t : List ℕ) (w : Plan) (k : ℕ) : Type 0 where
  pub disc : w.largest ≡ suc k
  pub from : w.from ≡ peg s k
  pub to : w.to ≡ peg t k
  pub away : peg s k ≢ peg t k

-- A route by its plan: no disc moves, or one crosses once, or it crosses twice.
pub data RouteView (s t : List ℕ) (w : Plan) (r : ℕ) : Type 0 where
  rests : w.largest ≡ 0 → route_of s t r ≡ [] → RouteView s t w r
  once : (k : ℕ) → Crosses s t w k → is_detour w.way r ≡ false → crossings w.way r ≡ 1
      → route_of s t r ≡ direct_route (peg s) (peg t) k → shortest w ≡ direct (peg s) (peg t) k → RouteView s t w r
  twice : (k : ℕ) → Crosses s t w k → is_detour w.way r ≡ true → crossings w.way r ≡ 2
      → route_of s t r ≡ detour_route (peg s) (peg t) k → shortest w ≡ detour (peg s) (peg t) k → RouteView s t w r

pub route_view : (s t : List ℕ) {w : Plan} → w ≡ plan_of s t → (r : ℕ) → RouteView s t w r
route_view s t {w} plan r =
    elim (largest_view (peg s) (peg t) (length s)) [
      | none m home ↦ rests (rw plan (plan_none s t m)) (route_still s t r m)
      | some k m b away home c ↦
          let l = lengths_of (peg s) (peg t) k in
          let disc : w.largest ≡ suc k = rw plan (plan_disc s t k m) in
          let way : w.way ≡ way_of l = rw plan (plan_moving s t k m) in
          let less : suc k - 1 ≡ k = omega arith in
          let pegs = rw (plan_disc s t k m, less, ← plan) at (plan_pegs s t (rw (plan_disc s t k m) (omega arith))) in
          let x : Crosses s t w k = record { disc = disc; from = pegs.0; to = pegs.1; away = away } in
          elim (way_route l (peg s) (peg t) k r) [
            | goes_direct route long d ↦
                once k x (rw way d) (rw (way, crossings_by l r, d) refl) (route_moving s t r k m ∙ route) (rw way long)
            | goes_round route long d ↦
                twice k x (rw way d) (rw (way, crossings_by l r, d) refl) (route_moving s t r k m ∙ route) (rw way long)
          ]
    ]

-- The wears of the discs up to the largest that moves, as they are written: on a detour or on a direct route.
abbrev pub moved_wears : Plan → (ℕ → ℕ) → (ℕ → ℕ) → Bool → List ℕ
moved_wears w p q true = wears_below p q (w.largest - 1) w.to w.from 1 ++ (2 ∷ [])
moved_wears w p q false = wears_below p q (w.largest - 1) (third w.from w.to) (third w.from w.to) 0 ++ (1 ∷ [])

module _ (s t : List ℕ) {w : Plan} (plan : w ≡ plan_of s t) (r : ℕ) where
  -- Those of a route are written so.
  pub route_moved : Ends s t → 0 < w.largest → wears w.largest (route_of s t r) ≡ moved_wears w (peg s) (peg t) (is_detour w.way r)
  route_moved ends moves = at (route_view s t plan r)
    where
      hp : Pegs (peg s)
      hp = formed_pegs s ends.start_formed

      hq : Pegs (peg t)
      hq = formed_pegs t ends.goal_formed

      at : RouteView s t w r → wears w.largest (route_of s t r) ≡ moved_wears w (peg s) (peg t) (is_detour w.way r)
      at (rests no-disc e) = absurd (omega arith)
      at (once k x d c e long) =
          let less : suc k - 1 ≡ k = omega arith in
          rw (d, x.disc, x.from, x.to, less, e) (direct_wears (peg s) (peg t) k hp hq)
      at (twice k x d c e long) =
          let less : suc k - 1 ≡ k = omega arith in
          rw (d, x.disc, x.from, x.to, less, e) (detour_wears (peg s) (peg t) k hp hq x.away)

  -- Its largest disc crosses once or twice.
  pub route_largest : 0 < w.largest → wear w.largest (route_of s t r) ≡ crossings w.way r
  route_largest moves =
      elim (route_view s t plan r) [
        | rests no-disc e ↦ absurd (omega arith)
        | once k x d c e long ↦ rw (x.disc, c, e) (direct_crosses (peg s) (peg t) k)
        | twice k x d c e long ↦ rw (x.disc, c, e) (detour_crosses (peg s) (peg t) k)
      ]

  -- Larger discs stay; all do where none moves.
  pub route_larger : (d : ℕ) → w.largest < d → wear d (route_of s t r) ≡ 0
  route_larger d l =
      elim (route_view s t plan r) [
        | rests no-disc e ↦ unfold wear in rw e refl
        | once k x d' c e long ↦ rw e (direct_larger (peg s) (peg t) k d (rw x.disc at l))
        | twice k x d' c e long ↦ rw e (detour_larger (peg s) (peg t) k d (rw x.disc at l))
      ]

  -- A still plan has no disc that moves.
  still_largest : w.way ≡ Still → w.largest ≡ 0
  still_largest still =
      let never = ap (λ (v : Way). crossings v r) still in
      elim (route_view s t plan r) [
        | rests no-disc e ↦ no-disc
        | once k x d c e long ↦ absurd (omega arith)
        | twice k x d c e long ↦ absurd (omega arith)
      ]

  -- So after the entries up to the largest disc there are only zeros.
  pub route_wears : wears (length s) (route_of s t r) ≡ wears w.largest (route_of s t r) ++ replicate (length s - w.largest) 0
  route_wears =
      let few : w.largest ≤ length s = rw plan (plan_largest s t) in
      let all : w.largest + (length s - w.largest) ≡ length s = omega arith in
      rw all at (wears_unmoved (route_of s t r) w.largest route_larger (length s - w.largest))

  -- In a still plan there is nothing else.
  pub route_none : w.way ≡ Still → wears (length s) (route_of s t r) ≡ replicate (length s) 0
  unfolding wears
  route_none still =
      let none : w.largest ≡ 0 = still_largest still in
      let all : length s - 0 ≡ length s = omega arith in
      rw (none, all) at route_wears
