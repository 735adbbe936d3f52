-- As many moves as remain or fit lie ahead of the stepper, which can make and write them.
use mathlib.Core.Path.{◌∙◌}
use native.Mathlib.Omega.{arith}
use Rattle.board.proofs.Formed.{formed_pegs}
use Rattle.run.proofs.Runs.{ready_written, ready_safe}
use Rattle.run.proofs.Starting.{opened_formed, opened_left}
use Rattle.run.proofs.run_from.Goals as goal

pub write_moves-requires-clause-by_index : goal.write_moves-requires-clause-by_index
write_moves-requires-clause-by_index c =
    let o = c.args.opened.now in
    let ends = o.task.ends in λ i h.
    ready_safe _ _ _ _ c.start_at-stepper.ensures ((opened_formed o c.requires).1 ∙ ends.same) (omega (arith, ends.same, ends.within)) ends.goal_formed i
    (omega (arith, opened_left o c.args.first))

pub returns-then-count-gt0-clause-out_after : goal.returns-then-count-gt0-clause-out_after
returns-then-count-gt0-clause-out_after c =
    let o = c.args.opened.now in
    c.write_moves.ensures
    ∙ ready_written _ _ _ _ _ _ (formed_pegs _ o.task.ends.goal_formed) (λ some. c.start_at-stepper.ensures) (omega (arith, opened_left o c.args.first))
