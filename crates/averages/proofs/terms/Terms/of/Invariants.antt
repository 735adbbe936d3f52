-- The terms are those of k discs.
use Rattle.std.proofs.Common.{◌≡◌}
use Rattle.averages.specs.Terms.{terms_of}
use Rattle.averages.proofs.terms.Terms.of.Given as goal

abbrev pub invariant-loop : goal.invariant-loop
invariant-loop l = l.terms ≡ terms_of l.counter
