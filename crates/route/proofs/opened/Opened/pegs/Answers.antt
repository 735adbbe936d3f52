-- The pegs are those of the stage of the index.
use mathlib.Core.Path.{◌∙◌}
use native.Mathlib.Omega.{arith}
use borrow.Author.Rules.{rules}
use Rattle.route.proofs.Calls.Routes.{opened_place}
use Rattle.route.proofs.opened.Opened.pegs.Goals as goal

-- A disc moves.
pub returns : goal.returns
returns c =
    opened_place c.args.self.now c.requires _ (search rules) (omega arith)
    (λ d l. c.stage_pegs.ensures d l ∙ rw (c.stage.ensures, c.course-course.ensures))
