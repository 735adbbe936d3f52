-- Each of the returns is one of the three cases of a disc.
use Rattle.plan.proofs.Fits.{tower_more}
use Rattle.route.proofs.Along.Passing.{tower_or, pass_home, pass_before, pass_after}
use Rattle.route.proofs.passing.pass.Goals as goal

-- The disc is on its target.
pub returns-then-at-goal : goal.returns-then-at-goal
returns-then-at-goal c =
    pass_home _ _ _ _ _ c.requires.gatherable.target c.requires.tower_peg (rw (c.unwrap_or-at.ensures, tower_or) at c.if-at-goal.true)

-- The disc has yet to move.
pub returns-then-last-above : goal.returns-then-last-above
returns-then-last-above c =
    rw (c.third-next.ensures, c.unwrap_or-at.ensures, tower_or, c.length-last.ensures, tower_more)
    (pass_before _ _ _ _ _ c.requires.gatherable.target c.requires.tower_peg (rw (c.unwrap_or-at.ensures, tower_or) at c.if-at-goal.false)
    (rw (c.length-last.ensures, tower_more) at c.if-last-above.true))

-- The disc has moved.
pub returns : goal.returns
returns c =
    rw (c.third-next.ensures, c.unwrap_or-at.ensures, tower_or)
    (pass_after _ _ _ _ _ c.requires.gatherable.target c.requires.tower_peg (rw (c.unwrap_or-at.ensures, tower_or) at c.if-at-goal.false)
    (rw (c.length-last.ensures, tower_more) at c.if-last-above.false))
