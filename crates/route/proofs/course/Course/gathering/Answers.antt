-- The discs below the course's can be gathered at each stage: they are fewer than the task's, and the pegs are pegs.
use native.Mathlib.Omega.{arith}
use Rattle.plan.proofs.Sound.{start_gatherable, goal_gatherable}
use Rattle.route.proofs.Along.Towers.{tower_gatherable}
use Rattle.route.proofs.Courses.Plan.{first_peg_fits, last_peg_fits}
use Rattle.route.proofs.course.Course.gathering.Goals.{in-Gathering, in-Shifting, in-Spreading}
use Rattle.route.proofs.course.Course.gathering.Goals as goal

pub invariant_of-result : goal.invariant_of-result
invariant_of-result c =
    let fits = c.requires.course_fits in
    let ends = c.args.task.now.ends in
    elim c.match-stage.branch [
      | in-Gathering w ↦ rw (w.target-is, w.first_peg.ensures) (record { ready = start_gatherable ends fits.disc_there (first_peg_fits fits) })
      | in-Shifting w ↦ rw (w.target-is, c.requires.tower_value) (record { ready = tower_gatherable _ _ _ fits.to_peg (omega arith) fits.from_peg })
      | in-Spreading w ↦ rw (w.target-is, w.last_peg.ensures) (record { ready = goal_gatherable ends fits.disc_there (last_peg_fits fits) })
    ]
