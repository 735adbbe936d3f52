-- What is read fits the buffer, and what is left of it is the measure.
use Rattle.std.proofs.Common.{◌-◌, ◌≤◌, length}
use Rattle.task.proofs.read_full.Given as goal

abbrev pub invariant-loop-done : goal.invariant-loop-done
invariant-loop-done g l = l.done ≤ length l.buffer

abbrev pub decreases-loop-done : goal.decreases-loop-done
decreases-loop-done g l = length l.buffer - l.done
