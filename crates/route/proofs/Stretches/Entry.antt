-- The part at an index is that of its stage.
use Prim.Native.Nat.{ℕ, ◌+◌, ◌-◌, ◌<◌}
use mathlib.Core.Bool.{Bool, true, false, cond}
use mathlib.Core.List.{List, ◌∷◌, ◌++◌}
use mathlib.Core.Path.{◌≡◌, ◌∙◌}
use native.Mathlib.Decide.{ℕ_discrete, dec_lt}
use native.Mathlib.Omega.{arith}
use borrow.Author.Tests.{eq-eqb, ne_eqb, le-leb, lt-leb}
use lib.Dec.{leb}
use lib.ListN.{length, replicate, length-append, length-replicate, get_or-replicate}
use Rattle.plan.specs.Inner.Sound.{Ends}
use Rattle.plan.specs.Plan.{plan_of, shortest, routes}
use Rattle.plan.specs.Tower.{tower_length}
use Rattle.route.specs.Inner.Stage.{course_of, course_parts, after_first, stage_of, stage_part}
use Rattle.route.specs.Part.{parts_of, part_at}
use Rattle.route.specs.declared.course.Course.{Course}
use Rattle.route.specs.declared.course.Stage.TheVariants.{Shifting, Spreading}
use Rattle.route.specs.declared.part.Part.{Part}
use Rattle.route.specs.declared.part.Part.TheVariants.{Gather, Cross, Shift, Spread}
use Rattle.route.proofs.Courses.Between.{entry_before, entry_here, entry_after}
use Rattle.route.proofs.Courses.Found.{moves_some}
use Rattle.route.proofs.Courses.Stages.{stage_first, stage_later}
use Rattle.route.proofs.Shortest.Routes.{route_walk}
use Rattle.route.proofs.Stretches.Joined.{parts_length}
use Rattle.route.proofs.Stretches.Parts.{spread_of, route_parts}

-- So many of one part, a crossing, and what follows.
module _ (n : ℕ) (a : Part) (ys : List Part) where
  part_before : (i : ℕ) → i < n → part_at (replicate n a ++ (Cross ∷ ys)) i ≡ a
  part_before i l = entry_before Gather (replicate n a) Cross ys n (length-replicate n a) i l ∙ get_or-replicate n i a Gather l

  part_here : (i : ℕ) → i ≡ n → part_at (replicate n a ++ (Cross ∷ ys)) i ≡ Cross
  part_here = entry_here Gather (replicate n a) Cross ys n (length-replicate n a)

  part_after : (i : ℕ) → n < i → part_at (replicate n a ++ (Cross ∷ ys)) i ≡ part_at ys (i - n - 1)
  part_after = entry_after Gather (replicate n a) Cross ys n (length-replicate n a)

  part_size : length (replicate n a ++ (Cross ∷ ys)) ≡ n + 1 + length ys
  part_size = omega (arith, length-append (replicate n a) (Cross ∷ ys), length-replicate n a)

-- What follows the first crossing where the shift has t moves.
abbrev later : Bool → ℕ → ℕ → List Part
later b t s = replicate (cond b t 0) Shift ++ (replicate (cond b 1 0) Cross ++ replicate s Spread)

later_part : (t s i : ℕ) (b : Bool) → i < length (later b t s)
    → part_at (later b t s) i ≡ stage_part (cond b (cond (leb i t) (Shifting (t - i)) (Spreading (i - t - 1))) (Spreading i))
unfolding stage_part
later_part t s i false l = get_or-replicate s i Spread Gather (omega (arith, length-replicate s Spread))
later_part t s i true l =
    elim (dec_lt i t) [
      | yes b ↦ rw (le-leb i t (omega arith), ne_eqb (t - i) 0 (omega arith)) (part_before t Shift (replicate s Spread) i b)
      | no n ↦ elim (ℕ_discrete i t) [
        | yes e ↦ rw (le-leb i t (omega arith), eq-eqb (t - i) 0 (omega arith)) (part_here t Shift (replicate s Spread) i e)
        | no f ↦ rw (lt-leb i t (omega arith))
            (part_after t Shift (replicate s Spread) i (omega arith)
            ∙ get_or-replicate s (i - t - 1) Spread Gather (omega (arith, part_size t Shift (replicate s Spread), length-replicate s Spread)))
      ]
    ]

-- All along a course.
stage_part_lem : (c : Course) (s i : ℕ) → i < length (course_parts c s) → part_at (course_parts c s) i ≡ stage_part (stage_of c i)
unfolding course_parts stage_part after_first
stage_part_lem c s i l =
    let g = c.first in
    let rest = later c.detour (tower_length c.disc) s in
    elim (dec_lt i g) [
      | yes b ↦ rw (stage_first c i (omega arith), ne_eqb (g - i) 0 (omega arith)) (part_before g Gather rest i b)
      | no n ↦ elim (ℕ_discrete i g) [
        | yes e ↦ rw (stage_first c i (omega arith), eq-eqb (g - i) 0 (omega arith)) (part_here g Gather rest i e)
        | no f ↦ rw (stage_later c i (omega arith))
            (part_after g Gather rest i (omega arith)
            ∙ later_part (tower_length c.disc) s (i - g - 1) c.detour (omega (arith, part_size g Gather rest)))
      ]
    ]

-- All along a route.
pub route_part : (s t : List ℕ) → Ends s t → (r i : ℕ) → r < routes (plan_of s t) → i < shortest (plan_of s t)
    → part_at (parts_of s t r) i ≡ stage_part (stage_of (course_of s t r) i)
route_part s t e r i known l =
    let parts = route_parts s t e (moves_some s t (omega arith)) r in
    let long = (route_walk s t e.same e.start_formed e.goal_formed r known).long in
    let index : i < length (parts_of s t r) = omega (arith, parts_length s t r) in
    rw parts (stage_part_lem (course_of s t r) (spread_of s t r) i (rw parts at index))
