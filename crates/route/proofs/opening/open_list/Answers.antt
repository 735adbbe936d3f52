-- What is opened for the route is answered where the first index and the room pass.
use native.Mathlib.Omega.{arith}
use Rattle.std.proofs.lemmas.Bool.Decides.{nat_tests}
use Rattle.route.specs.Inner.Open.{list_check, list_answer}
use Rattle.route.proofs.Calls.Opened.{opened_is, opened_length, open_answered}
use Rattle.route.proofs.opening.open_list.Goals as goal

pub returns : goal.returns
unfolding list_answer list_check
returns c =
    let o = open_answered _ _ c.in_ok-opened.ensures in grind (arith, nat_tests, o.passed, opened_is o, opened_length o)
