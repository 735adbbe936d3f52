-- The terms of one disc more are the next ones.
use Rattle.std.proofs.Common.{add-one}
use Rattle.averages.proofs.TermsFit.{terms_next}
use Rattle.averages.proofs.terms.Terms.of.Goals as goal

pub loop-preserved : goal.loop-preserved
loop-preserved c = rw (add-one, ← terms_next c.loop.counter, ← c.loop.invariant) c.next-terms.ensures
