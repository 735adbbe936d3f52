-- The discs that are passed stay, so the largest that moves is among the others.
use Rattle.std.proofs.Common.{◌≡◌, length}
use Rattle.board.specs.Position.{peg}
use Rattle.plan.specs.Plan.{largest}
use Rattle.plan.proofs.crossing.largest_moving.Given as goal

abbrev pub invariant-loop-k : goal.invariant-loop-k
invariant-loop-k l = largest (peg l.start) (peg l.goal) l.k ≡ largest (peg l.start) (peg l.goal) (length l.start)
