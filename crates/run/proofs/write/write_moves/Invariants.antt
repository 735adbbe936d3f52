-- `out` has i moves and then what it had, and the pegs, the turn and the leg are those of the stepper after them.
use Prim.Native.Nat.{◌-◌, ◌*◌, ◌≤◌}
use mathlib.Core.List.{◌++◌}
use mathlib.Core.Path.{◌≡◌}
use lib.ListN.{drop}
use Rattle.board.specs.Position.{peg}
use Rattle.run.specs.Inner.Written.{steps_from, step_letters}
use Rattle.run.specs.declared.stepper.Stepper.{Stepper}
use Rattle.run.proofs.write.write_moves.Given as goal

abbrev pub invariant-loop-i : goal.invariant-loop-i
invariant-loop-i l =
    record {
      some : l.i ≤ l.count;
      stepper_after : ◌≡◌ {A = Stepper} (record { pegs = l.pegs; turn = l.turn; leg = l.leg }) (steps_from l.fn.stepper (peg l.goal) l.i);
      written : l.out ≡ step_letters l.fn.stepper (peg l.goal) l.i ++ drop (2 * l.i) l.fn.out;
    }

abbrev pub decreases-loop-i : goal.decreases-loop-i
decreases-loop-i l = l.count - l.i
