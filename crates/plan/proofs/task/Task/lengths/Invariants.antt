-- Both plans' sums come to the lengths of their two gathers.
use Prim.Native.Nat.{◌+◌}
use Rattle.board.specs.Position.{peg}
use Rattle.plan.specs.Gather.{gather}
use Rattle.plan.proofs.OnePass.{Passing}
use Rattle.plan.proofs.task.Task.lengths.Given as goal

abbrev pub invariant-loop-d : goal.invariant-loop-d
invariant-loop-d l =
    record {
      direct : Passing l.start l.goal l.d l.direct (gather (peg l.start) l.k l.aside + gather (peg l.goal) l.k l.aside);
      detour : Passing l.start l.goal l.d l.detour (gather (peg l.start) l.k l.to + gather (peg l.goal) l.k l.from);
    }
