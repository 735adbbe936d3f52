-- The lengths are those of the first d discs.
use Rattle.std.proofs.Common.{◌≡◌, take}
use Rattle.builder.specs.Lengths.{gathers}
use Rattle.builder.proofs.lengths.lengths_of.Given as goal

abbrev pub invariant-loop-d : goal.invariant-loop-d
invariant-loop-d l = l.lengths ≡ gathers (take l.d l.peg-items)
