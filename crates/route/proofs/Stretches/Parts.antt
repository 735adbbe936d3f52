-- The parts of a route, by its course: each stretch is one part, as often as it has moves.
use Prim.Native.Nat.{ℕ, zero, suc, ◌-◌, ◌<◌}
use mathlib.Core.Bool.{Bool, true, false, cond}
use mathlib.Core.List.{List, [], append-nil}
use mathlib.Core.Logic.{◌≢◌}
use mathlib.Core.Path.{◌≡◌, ◌∙◌, refl}
use native.Mathlib.Omega.{arith}
use lib.ListN.{length}
use Rattle.board.specs.Peg.{third}
use Rattle.board.specs.Position.{peg}
use Rattle.board.proofs.Formed.{formed_pegs}
use Rattle.board.proofs.Pegs.{third_peg}
use Rattle.plan.specs.Gather.{gather}
use Rattle.plan.specs.Plan.{largest, lengths_of, way_of, plan_of}
use Rattle.plan.specs.Inner.Sound.{Ends}
use Rattle.plan.specs.declared.answer.Lengths.{Lengths}
use Rattle.plan.specs.declared.answer.Way.TheVariants.{Tie}
use Rattle.plan.proofs.Gathering.{Pegs}
use Rattle.plan.proofs.Three.{three}
use Rattle.route.specs.Inner.Stage.{is_detour, last_peg, course_by, course_of, course_parts}
use Rattle.route.specs.Part.{direct_stretches, detour_stretches, stretches_by, stretches_of, parts_in, parts_of}
use Rattle.route.proofs.Courses.Found.{plan_none, plan_disc, course_is}
use Rattle.route.proofs.Courses.Stages.{shift_length}
use Rattle.route.proofs.Gatherings.Backwards.{spreading_length}
use Rattle.route.proofs.Gatherings.Gathering.{gathering_length}
use Rattle.route.proofs.Shortest.View.{none, some, largest_view, WayView, direct_less, detour_less, equal, way_view, plan_still, plan_moving}

-- The stretches of a way are those of the detour, or of the direct route.
way_stretches : (l : Lengths) (p q : ℕ → ℕ) (k r : ℕ)
    → stretches_by (way_of l) p q k r ≡ cond (is_detour (way_of l) r) (detour_stretches p q k) (direct_stretches p q k)
unfolding stretches_by is_detour
way_stretches l p q k r = at (way_view l)
  where
    tie : (r : ℕ) → stretches_by (Tie l) p q k r ≡ cond (is_detour (Tie l) r) (detour_stretches p q k) (direct_stretches p q k)
    tie zero = refl
    tie (suc r) = refl

    at : WayView l → stretches_by (way_of l) p q k r ≡ cond (is_detour (way_of l) r) (detour_stretches p q k) (direct_stretches p q k)
    at (direct_less e c) = rw e
    at (detour_less e c) = rw e
    at (equal e c) = rw e (tie r)

-- A route of no moves has none.
pub still_stretches : (s t : List ℕ) (r : ℕ) → largest (peg s) (peg t) (length s) ≡ 0 → stretches_of s t r ≡ []
unfolding stretches_of stretches_by
still_stretches s t r m = rw (plan_still s t m)

-- Those of a route are so too where disc k + 1 is the largest that moves.
pub moving_stretches : (s t : List ℕ) (k r : ℕ) → largest (peg s) (peg t) (length s) ≡ suc k
    → stretches_of s t r
    ≡ cond (is_detour (way_of (lengths_of (peg s) (peg t) k)) r) (detour_stretches (peg s) (peg t) k) (direct_stretches (peg s) (peg t) k)
unfolding stretches_of
moving_stretches s t k r m =
    let less : suc k - 1 ≡ k = omega arith in
    rw (plan_moving s t k m, plan_disc s t k m, less) (way_stretches (lengths_of (peg s) (peg t) k) (peg s) (peg t) k r)

module _ (p q : ℕ → ℕ) (hp : Pegs p) (hq : Pegs q) (k : ℕ) where
  -- The direct route: gathered and spread in as many moves as the gather lengths say.
  direct_parts : parts_in (direct_stretches p q k) ≡ course_parts (course_by p q k false) (gather q k (third (p k) (q k)))
  unfolding parts_in direct_stretches course_parts course_by
  direct_parts =
      let free = third_peg (p k) (q k) (hp k) in
      rw (append-nil, gathering_length p hp k (third (p k) (q k)) free, spreading_length q hq k (third (p k) (q k)) free)

  -- The detour: in between the shift of a tower.
  detour_parts : p k ≢ q k → parts_in (detour_stretches p q k) ≡ course_parts (course_by p q k true) (gather q k (p k))
  unfolding parts_in detour_stretches course_parts course_by
  detour_parts away =
      let h = three (p k) (q k) (hp k) (hq k) away in
      let shift = gathering_length (λ _. q k) (λ _. hq k) k (p k) (hp k) ∙ shift_length p q hp hq k (third (p k) (q k)) h in
      rw (append-nil, gathering_length p hp k (q k) (hq k), shift, spreading_length q hq k (p k) (hp k))

  -- Either.
  course_parts_lem : p k ≢ q k → (b : Bool)
      → parts_in (cond b (detour_stretches p q k) (direct_stretches p q k)) ≡ course_parts (course_by p q k b) (gather q k (last_peg (course_by p q k b)))
  unfolding course_by
  course_parts_lem away false = direct_parts
  course_parts_lem away true = detour_parts away

-- The moves of a course's spreading.
abbrev pub spread_of : List ℕ → List ℕ → ℕ → ℕ
spread_of s t r = gather (peg t) (course_of s t r).disc (last_peg (course_of s t r))

-- The parts of a route are those of its course.
pub route_parts : (s t : List ℕ) → Ends s t → 0 < (plan_of s t).largest → (r : ℕ) → parts_of s t r ≡ course_parts (course_of s t r) (spread_of s t r)
unfolding parts_of course_by
route_parts s t e moves r =
    elim (largest_view (peg s) (peg t) (length s)) [
      | none m home ↦ absurd (omega (arith, plan_none s t m))
      | some k m b away home c ↦
          rw (course_is s t k m r _ refl, moving_stretches s t k r m)
          (course_parts_lem (peg s) (peg t) (formed_pegs s e.start_formed) (formed_pegs t e.goal_formed) k away _)
    ]
