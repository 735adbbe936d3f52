-- The discs from d + 1 on can be taken off where all of them can.
use mathlib.Core.Path.{◌≡◌}
use lib.ListN.{drop}
use Rattle.checker.specs.Inner.Stacks.{taken_off}
use Rattle.checker.proofs.taking.take_off.Given as goal

abbrev pub invariant-loop-d : goal.invariant-loop-d
invariant-loop-d l = taken_off l.top l.pegs.beneath l.d (drop l.d l.position) ≡ taken_off l.pegs.top l.pegs.beneath 0 l.position
