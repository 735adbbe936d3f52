-- The test so far is that of the bytes so far.
use Rattle.std.proofs.Common.{◌≡◌, ltb, refl, rules, tests}
use Rattle.std.proofs.lemmas.Fn.{fold_over, fronts}
use Rattle.std.proofs.lemmas.Iterator.{YieldsList-from_slice}
use Rattle.std.proofs.lemmas.List.Recursion.{and_push}
use Rattle.board.specs.Position.{well_formed}
use Rattle.board.proofs.position.only_pegs.Goals as goal

pub returns : goal.returns
unfolding well_formed
returns c =
    let given = YieldsList-from_slice {s = c.iter.result} c.args.bytes.now cc in
    fold_over fronts (λ b. b.now) _ (λ p all. all ≡ well_formed p) _
    (λ p all b next f so_far called. search (rules, tests, and_push well_formed (λ x. ltb x 3) refl (λ _ _. refl)))
    c.iter.result c.args.bytes.now _ _ given.runs refl c.fold.ensures.ran
