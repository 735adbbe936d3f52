-- The letters of i moves are stored, and the pegs and the turn are those of the gatherer after them.
use mathlib.Core.Path.{◌≡◌}
use lib.Seq.{sets}
use Rattle.run.specs.Inner.Gatherer.{gatherer, gathers_from, gather_letters}
use Rattle.run.proofs.write.write_gathering.Given as goal

abbrev pub invariant-loop-i : goal.invariant-loop-i
invariant-loop-i l =
    record {
      gatherer_after : gatherer l.pegs l.turn ≡ gathers_from (gatherer l.initial.pegs l.initial.turn) l.i;
      written : l.out ≡ sets l.initial.out 0 (gather_letters (gatherer l.initial.pegs l.initial.turn) l.i);
    }
