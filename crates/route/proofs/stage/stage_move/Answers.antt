-- In the shift the gathering is that of a tower.
use mathlib.Core.Path.{◌∙◌}
use mathlib.Core.Logic.{◌≢◌}
use native.Mathlib.Omega.{arith}
use borrow.Author.Tests.{ne_eqb}
use Rattle.route.specs.Inner.Stage.{stage_move}
use Rattle.route.proofs.Along.Towers.{tower_first}
use Rattle.route.proofs.stage.stage_move.Goals as goal

pub returns-in-Shifting : goal.returns-in-Shifting
unfolding stage_move
returns-in-Shifting c =
    let g = rw c.in-Shifting.is at c.gathering-gathering.ensures in
    let some : c.in-Shifting.left ≢ 0 = rw c.in-Shifting.is at c.in-Shifting.left-test.1 in
    rw (c.in-Shifting.is, ne_eqb _ _ some)
    (rw (g.position_value, g.discs_value, g.target_value) at c.move_along-in-Shifting.ensures
    ∙ tower_first _ _ _ _ (omega (arith, c.requires.course_fits.disc_there, c.args.task.now.ends.within)))
