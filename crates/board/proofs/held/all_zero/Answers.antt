-- Each byte is 0 where the test passes, and some byte is not where it fails.
use Rattle.std.proofs.Common.{eqb, refl, rules}
use Rattle.std.proofs.lemmas.List.Recursion.{and_is}
use Rattle.board.specs.Held.{all_zero}
use Rattle.board.proofs.held.all_zero.Goals as goal

pub returns : goal.returns
unfolding all_zero
returns c = and_is all_zero (λ b. eqb b 0) refl (λ _ _. refl) c.args.bytes.now 0 _ (search rules) (search rules)
