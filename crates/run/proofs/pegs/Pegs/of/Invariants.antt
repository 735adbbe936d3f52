-- The pegs hold the discs after the first d.
use Rattle.run.proofs.Held.{HoldsFrom}
use Rattle.run.proofs.pegs.Pegs.of.Given as goal

abbrev pub invariant-loop-d : goal.invariant-loop-d
invariant-loop-d l = HoldsFrom l.pegs.top l.pegs.beneath l.position l.d
