-- What is known of the route of an opened task: its course fits, and its moves, parts and positions are those of the stages of the course.
use Prim.Native.Nat.{ℕ, ◌≤◌, ◌<◌}
use mathlib.Core.List.{List}
use mathlib.Core.Path.{◌≡◌}
use native.Mathlib.Omega.{arith}
use lib.ListN.{length, take, get_or}
use Rattle.board.specs.Position.{peg}
use Rattle.board.specs.Task.{limit}
use Rattle.plan.specs.Plan.{plan_of, shortest}
use Rattle.plan.proofs.Sound.{ends_fit}
use Rattle.route.specs.Inner.Stage.{course_of, stage_of, stage_move, stage_part, stage_peg, CourseFits, StageFits}
use Rattle.route.specs.Part.{parts_of, part_at}
use Rattle.route.specs.Route.{route_of, move_at, after}
use Rattle.route.specs.declared.course.Course.{Course}
use Rattle.route.specs.declared.opened.Opened.{Opened}
use Rattle.route.proofs.Courses.Plan.{course_fits}
use Rattle.route.proofs.Courses.Found.{route_entry, moves_some, stage_fits, placed, placed_still}
use Rattle.route.proofs.Stretches.Entry.{route_part}

module _ (o : Opened) where
  -- Its start and its goal.
  abbrev from : List ℕ
  from = o.task.start.now

  abbrev to : List ℕ
  to = o.task.goal.now

  -- An index below its length is below that of the task's plan.
  index_below : {i : ℕ} → i < shortest o.plan → i < shortest (plan_of from to)
  index_below h = rw o.planned at h

  -- Where there is a move, some disc moves.
  pub largest_some : 0 < shortest o.plan → 0 < o.plan.largest
  largest_some h = rw o.planned (moves_some from to (index_below h))

  -- So one does where there is such an index.
  pub some_moves : {i : ℕ} → i < shortest o.plan → 0 < o.plan.largest
  some_moves h = largest_some (omega (arith, h))

  module _ (moves : 0 < o.plan.largest) {c : Course} (is : c ≡ course_of from to o.route) where
    -- The disc of its course is one of the task's, and its pegs are pegs.
    pub opened_fits : CourseFits c (length from)
    opened_fits = rw is (course_fits from to o.route o.task.ends (rw o.planned at moves))

    pub opened_within : c.disc ≤ limit
    opened_within = omega (arith, opened_fits.disc_there, o.task.ends.within)

  module _ {i : ℕ} (h : i < shortest o.plan) {c : Course} (is : c ≡ course_of from to o.route) where
    -- The moves done at a stage fit, and one more.
    pub opened_stage : StageFits (stage_of c i)
    opened_stage = stage_fits c i (omega (arith, index_below h, ends_fit o.task.ends))

    -- The move at an index is that of its stage.
    pub opened_move : move_at (route_of from to o.route) i ≡ stage_move (peg from) (peg to) c (stage_of c i)
    opened_move = rw is (route_entry from to o.task.ends o.route i (index_below h))

    -- So is its part.
    pub opened_part : part_at (parts_of from to o.route) i ≡ stage_part (stage_of c i)
    opened_part = rw is (route_part from to o.task.ends o.route i (rw o.planned at o.known) (index_below h))

  module _ {i : ℕ} (h : i ≤ shortest o.plan) where
    -- The position at an index has the pegs of its stage.
    pub opened_place : (a : List ℕ) → length from ≤ length a → 0 < o.plan.largest
        → ((d : ℕ) → d < length from → get_or a d 0 ≡ stage_peg (peg from) (peg to) (course_of from to o.route) (stage_of (course_of from to o.route) i) d)
        → take (length from) a ≡ after from (take i (route_of from to o.route))
    opened_place a room moves = placed from to a o.task.ends o.route i (rw o.planned at moves) (rw o.planned at h) room

    -- Where no disc moves it is the start.
    pub opened_still : o.plan.largest ≡ 0 → after from (take i (route_of from to o.route)) ≡ from
    opened_still still = placed_still from to o.route i (rw o.planned at still) (rw o.planned at h)

-- What is known of its course.
pub ruleset opened_course = (largest_some, opened_fits, opened_within, opened_stage, opened_move, opened_part, opened_place)
