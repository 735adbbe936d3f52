-- The loop's invariant: discs 1 to d can be written, and what is left to write, before the entries above, makes up the whole.
use mathlib.Core.List.{◌++◌}
use mathlib.Core.Path.{◌≡◌}
use lib.ListN.{drop}
use Rattle.board.specs.Position.{peg}
use Rattle.wear.specs.Inner.Below.{wears_below, Writable}
use Rattle.wear.proofs.writing.write_smaller.Given as goal

abbrev pub invariant-loop-d : goal.invariant-loop-d
invariant-loop-d l =
    let p = peg l.task.start.now in
    let q = peg l.task.goal.now in
    record {
      ready : Writable l.task.start.now l.task.goal.now l.d l.gaps l.out;
      left : wears_below p q l.d l.gaps.first l.gaps.last l.gaps.between ++ drop l.d l.out ≡ wears_below p q l.k l.initial.gaps.first l.initial.gaps.last l.initial.gaps.between ++ drop l.k l.initial.out;
    }
