-- The last disc whose goal is another peg is the leg's.
use Rattle.std.proofs.Common.{rules}
use Rattle.run.proofs.Steps.{spread_last}
use Rattle.run.proofs.stepper.spread_leg.Goals as goal

pub returns-in-Some : goal.returns-in-Some
returns-in-Some c =
    spread_last c.args.goal.now c.args.k c.args.tower c.in-Some.disc c.requires (search rules) (search rules) (search rules)
