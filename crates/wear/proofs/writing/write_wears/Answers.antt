-- Zeros for the discs above the largest that moves, and below them its own and those of the smaller discs.
use mathlib.Core.Path.{◌∙◌}
use native.Mathlib.Omega.{arith}
use Rattle.wear.proofs.Stored.{all_written, none_written}
use Rattle.wear.proofs.writing.write_wears.Goals as goal

-- Some disc moves.
pub returns-then-largest-gt0 : goal.returns-then-largest-gt0
returns-then-largest-gt0 c =
    c.write_moved.ensures
    ∙ all_written _ _ c.args.opened.now.planned _ c.args.out.now c.requires c.discs.ensures (c.fill.ensures.after (λ y e. e))

-- None does.
pub returns-else-largest-gt0 : goal.returns-else-largest-gt0
returns-else-largest-gt0 c =
    none_written _ _ c.args.opened.now.planned _ c.args.out.now c.requires c.discs.ensures (c.fill.ensures.after (λ y e. e)) (omega arith)
