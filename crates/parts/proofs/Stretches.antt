-- The stretches of a course: their parts are those of its moves.
use Prim.Native.Nat.{ℕ, ◌+◌, ◌-◌, ◌≤◌, ◌<◌}
use mathlib.Core.List.{List, [], ◌∷◌, append-nil}
use mathlib.Core.Path.{◌≡◌, ◌∙◌, sym, ap}
use native.Mathlib.Omega.{arith}
use lib.ListN.{length, length-append, length-replicate}
use Rattle.plan.specs.Plan.{shortest}
use Rattle.route.specs.Inner.Stage.{course_of, shift_of, second_of, course_parts}
use Rattle.route.specs.Part.{parts_of}
use Rattle.route.specs.declared.course.Course.{Course}
use Rattle.route.specs.declared.opened.Opened.{Opened}
use Rattle.route.specs.declared.part.Part.{Part}
use Rattle.route.specs.declared.part.Part.TheVariants.{Gather, Cross, Shift, Spread}
use Rattle.route.proofs.Shortest.Routes.{route_walk}
use Rattle.route.proofs.Stretches.Joined.{parts_length}
use Rattle.route.proofs.Stretches.Parts.{spread_of, route_parts}
use Rattle.parts.specs.Inner.Course.{spreads_from, counted_parts}

-- The stretches of a course have its parts.
pub counted_course : (c : Course) (moves : ℕ) {t x s : ℕ} → t ≡ shift_of c → x ≡ second_of c → s ≡ moves - (c.first + 1 + t + x)
    → counted_parts ((Gather, c.first) ∷ (Cross, 1) ∷ (Shift, t) ∷ (Cross, x) ∷ (Spread, s) ∷ []) ≡ course_parts c (moves - spreads_from c)
unfolding counted_parts course_parts
counted_course c moves shift second spread = rw (spread, shift, second, append-nil)

-- They are as many as its moves.
course_length : (c : Course) (s : ℕ) → length (course_parts c s) ≡ spreads_from c + s
unfolding course_parts
course_length c s = simp (length-append, length-replicate) (omega arith)

-- So those of its stretches are.
pub counted_length : (c : Course) {moves : ℕ} (stretches : List (Part × ℕ)) → spreads_from c ≤ moves
    → counted_parts stretches ≡ course_parts c (moves - spreads_from c) → length (counted_parts stretches) ≡ moves
counted_length c {moves} stretches bound parts = rw parts (omega (arith, course_length c (moves - spreads_from c)))

module _ (o : Opened) (moves : 0 < o.plan.largest) {c : Course} (is : c ≡ course_of o.task.start.now o.task.goal.now o.route) where
  -- The moves of the course before its spreading, and those of the spreading, are all of the route of an opened task.
  opened_moves : spreads_from c + spread_of o.task.start.now o.task.goal.now o.route ≡ shortest o.plan
  opened_moves =
      let s = o.task.start.now in
      let t = o.task.goal.now in
      let e = o.task.ends in
      let parts = route_parts s t e (rw o.planned at moves) o.route in
      let long = parts_length s t o.route ∙ (route_walk s t e.same e.start_formed e.goal_formed o.route (rw o.planned at o.known)).long in
      rw (is, o.planned) (sym (course_length (course_of s t o.route) (spread_of s t o.route)) ∙ sym (ap length parts) ∙ long)

  pub opened_bound : spreads_from c ≤ shortest o.plan
  opened_bound = omega (arith, opened_moves)

  -- Its parts are those of the course.
  pub opened_parts : parts_of o.task.start.now o.task.goal.now o.route ≡ course_parts c (shortest o.plan - spreads_from c)
  opened_parts =
      let rest : shortest o.plan - spreads_from c ≡ spread_of o.task.start.now o.task.goal.now o.route = omega (arith, opened_moves) in
      rw (rest, is) (route_parts o.task.start.now o.task.goal.now o.task.ends (rw o.planned at moves) o.route)
