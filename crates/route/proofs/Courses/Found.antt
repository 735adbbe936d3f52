-- The move at an index of a route, and the position after so many of its moves, by the course of the route.
use Prim.Native.Nat.{ℕ, suc, ◌+◌, ◌-◌, ◌≤◌, ◌<◌, ◌^◌}
use mathlib.Core.Path.{◌≡◌, ◌∙◌, sym, refl}
use mathlib.Core.Bool.{Bool, true, false, cond}
use mathlib.Core.List.{List}
use mathlib.Core.Logic.{◌≢◌}
use native.Mathlib.Decide.{dec_lt, dec_le}
use native.Mathlib.Omega.{arith}
use borrow.Author.Tests.{le-leb, lt-leb}
use lib.Dec.{leb}
use lib.ListN.{length, take, get_or}
use lib.Seq.{ext_get_or, length-take-le, get_or-take}
use Rattle.board.specs.Peg.{third}
use Rattle.board.specs.Position.{peg}
use Rattle.board.proofs.Formed.{formed_pegs}
use Rattle.plan.specs.Plan.{largest, lengths_of, way_of, plan_by, plan_of, shortest}
use Rattle.plan.specs.Inner.Sound.{Ends}
use Rattle.plan.specs.Tower.{tower_length}
use Rattle.plan.proofs.Three.{three}
use Rattle.route.specs.Route.{route_of, move_at, after}
use Rattle.route.specs.Inner.Stage.{is_detour, course_by, course_of, after_first, stage_of, stage_move, stage_peg, StageFits}
use Rattle.route.specs.declared.course.Course.{Course}
use Rattle.route.specs.declared.course.Stage.TheVariants.{Shifting, Spreading}
use Rattle.route.proofs.Walks.Leading.{Leading, walk_leads}
use Rattle.route.proofs.Shortest.Routes.{goes_direct, goes_round, way_route, past}
use Rattle.route.proofs.Courses.Stages.{direct_entry, detour_entry, direct_place, detour_place}
use Rattle.route.proofs.Shortest.View.{none, some, largest_view, plan_still, plan_moving, route_moving}
use Rattle.route.proofs.Walks.Walk.{Walk, walk_grow}

-- A still plan has no moving disc.
pub plan_none : (s t : List ℕ) → largest (peg s) (peg t) (length s) ≡ 0 → (plan_of s t).largest ≡ 0
unfolding plan_of plan_by
plan_none s t m = rw m

module _ (s t : List ℕ) (k : ℕ) (m : largest (peg s) (peg t) (length s) ≡ suc k) where
  -- The largest moving disc of the plan.
  pub plan_disc : (plan_of s t).largest ≡ suc k
  unfolding plan_of plan_by
  plan_disc = rw m

  -- The course of a route, direct or not.
  pub course_is : (r : ℕ) (b : Bool) → is_detour (way_of (lengths_of (peg s) (peg t) k)) r ≡ b → course_of s t r ≡ course_by (peg s) (peg t) k b
  unfolding course_of
  course_is r b e = let less : suc k - 1 ≡ k = omega arith in rw (plan_disc, plan_moving s t k m, e, less)

module _ (s t : List ℕ) (e : Ends s t) (k : ℕ) (m : largest (peg s) (peg t) (length s) ≡ suc k) (away : peg s k ≢ peg t k) (r : ℕ) where
  -- The move at an index of a route is that of its stage.
  moving_entry : (i : ℕ) → i < shortest (plan_of s t)
      → move_at (route_of s t r) i ≡ stage_move (peg s) (peg t) (course_of s t r) (stage_of (course_of s t r) i)
  unfolding course_by
  moving_entry i l =
      let hs = formed_pegs s e.start_formed in
      let ht = formed_pegs t e.goal_formed in
      let h = three (peg s k) (peg t k) (hs k) (ht k) away in
      let z = third (peg s k) (peg t k) in
      elim (way_route (lengths_of (peg s) (peg t) k) (peg s) (peg t) k r) [
        | goes_direct f long d ↦
            rw (route_moving s t r k m, f, course_is s t k m r false d)
            (direct_entry (peg s) (peg t) hs ht k z h i (rw (plan_moving s t k m, long) at l))
        | goes_round f long d ↦
            rw (route_moving s t r k m, f, course_is s t k m r true d)
            (detour_entry (peg s) (peg t) hs ht k z h i (rw (plan_moving s t k m, long) at l))
      ]

  -- The first moves of a route lead to the pegs of their stage.
  moving_place : ((d : ℕ) → k < d → peg s d ≡ peg t d) → (i : ℕ) → i ≤ shortest (plan_of s t)
      → Walk (suc k) (peg s) (take i (route_of s t r)) (stage_peg (peg s) (peg t) (course_of s t r) (stage_of (course_of s t r) i))
  unfolding course_by
  moving_place above i l =
      let hs = formed_pegs s e.start_formed in
      let ht = formed_pegs t e.goal_formed in
      let h = three (peg s k) (peg t k) (hs k) (ht k) away in
      let z = third (peg s k) (peg t k) in
      elim (way_route (lengths_of (peg s) (peg t) k) (peg s) (peg t) k r) [
        | goes_direct f long d ↦
            rw (route_moving s t r k m, f, course_is s t k m r false d)
            (direct_place (peg s) (peg t) hs ht k z h above i (rw (plan_moving s t k m, long) at l))
        | goes_round f long d ↦
            rw (route_moving s t r k m, f, course_is s t k m r true d)
            (detour_place (peg s) (peg t) hs ht k z h above i (rw (plan_moving s t k m, long) at l))
      ]

module _ (s t : List ℕ) (e : Ends s t) (r : ℕ) where
  -- Where a move is at an index, it is that of its stage.
  pub route_entry : (i : ℕ) → i < shortest (plan_of s t)
      → move_at (route_of s t r) i ≡ stage_move (peg s) (peg t) (course_of s t r) (stage_of (course_of s t r) i)
  route_entry i l =
      elim (largest_view (peg s) (peg t) (length s)) [
        | none m home ↦ absurd (omega (arith, rw (plan_still s t m) at l))
        | some k m b away home c ↦ moving_entry s t e k m away r i l
      ]

  -- Where a disc moves, the position after so many moves has the pegs of their stage.
  pub route_place : 0 < (plan_of s t).largest → (i : ℕ) → i ≤ shortest (plan_of s t)
      → Leading s (take i (route_of s t r)) (stage_peg (peg s) (peg t) (course_of s t r) (stage_of (course_of s t r) i))
  route_place moves i l =
      elim (largest_view (peg s) (peg t) (length s)) [
        | none m home ↦ absurd (omega (arith, plan_none s t m))
        | some k m b away home c ↦
            let above : (d : ℕ) → k < d → peg s d ≡ peg t d =
            λ d g. elim (dec_lt d (length s)) [ yes f ↦ home d g f | no n ↦ past s t e.same d (omega arith) ] in
            walk_leads (walk_grow (omega arith) (moving_place s t e k m away r above i l)) s refl (λ d. refl)
      ]

-- A plan with moves has a disc that moves.
pub moves_some : (s t : List ℕ) → 0 < shortest (plan_of s t) → 0 < (plan_of s t).largest
moves_some s t l =
    elim (largest_view (peg s) (peg t) (length s)) [
      | none m home ↦ absurd (omega (arith, rw (plan_still s t m) at l))
      | some k m b away home c ↦ omega (arith, plan_disc s t k m)
    ]

-- A plan in which no disc moves has no moves.
pub still_none : (s t : List ℕ) → (plan_of s t).largest ≡ 0 → shortest (plan_of s t) ≡ 0
still_none s t e =
    elim (largest_view (peg s) (peg t) (length s)) [
      | none m home ↦ rw (plan_still s t m)
      | some k m b away home c ↦ absurd (omega (arith, plan_disc s t k m))
    ]

-- The moves of a spreading done are no more than the index.
pub stage_fits : (c : Course) (i : ℕ) → i + 1 < 2 ^ 64 → StageFits (stage_of c i)
unfolding stage_of after_first
stage_fits c i l =
    elim (dec_le i c.first) [
      | yes b ↦ rw (le-leb i c.first b) tt
      | no n ↦ rw (lt-leb i c.first (omega arith)) (later c.detour (i - c.first - 1) (omega arith))
    ]
  where
    later : (b : Bool) (j : ℕ) → j + 1 < 2 ^ 64
        → StageFits (cond b (cond (leb j (tower_length c.disc)) (Shifting (tower_length c.disc - j)) (Spreading (j - tower_length c.disc - 1))) (Spreading j))
    later false j g = g
    later true j g =
        elim (dec_le j (tower_length c.disc)) [
          | yes b ↦ rw (le-leb j (tower_length c.disc) b) tt
          | no n ↦ rw (lt-leb j (tower_length c.disc) (omega arith)) (omega arith)
        ]

-- An array that has the pegs of the stage is, up to n, the position after so many moves.
pub placed : (s t a : List ℕ) → Ends s t → (r i : ℕ) → 0 < (plan_of s t).largest → i ≤ shortest (plan_of s t) → length s ≤ length a
    → ((d : ℕ) → d < length s → get_or a d 0 ≡ stage_peg (peg s) (peg t) (course_of s t r) (stage_of (course_of s t r) i) d)
    → take (length s) a ≡ after s (take i (route_of s t r))
placed s t a e r i moves l room at =
    let w = route_place s t e r moves i l in
    let size : length (take (length s) a) ≡ length s = length-take-le (length s) a room in
    ext_get_or 0 (take (length s) a) (after s (take i (route_of s t r))) (size ∙ sym w.size)
    (λ d g. get_or-take (length s) a d 0 (omega arith) ∙ at d (omega arith) ∙ sym (w.pegs d))

-- Where no disc moves, the position stays the start.
pub placed_still : (s t : List ℕ) (r i : ℕ) → (plan_of s t).largest ≡ 0 → i ≤ shortest (plan_of s t) → after s (take i (route_of s t r)) ≡ s
unfolding after
placed_still s t r i still l =
    let none : i ≡ 0 = omega (arith, still_none s t still) in rw none refl
