-- The test of all bytes is the one that recurses over them.
use Rattle.std.proofs.Common.{◌∙◌, ◌&&◌, refl, rules, tests}
use Rattle.std.proofs.lemmas.Iterator.{YieldsList-from_slice}
use Rattle.std.proofs.lemmas.Iterator.Search.{all_from_yields_List}
use Rattle.std.proofs.lemmas.List.Recursion.{same_from_clauses}
use Rattle.std.specs.List.{list_all}
use Rattle.checker.specs.Letters.{is_letter, all_letters}
use Rattle.checker.proofs.letters.only_letters.Goals as goal

pub returns : goal.returns
unfolding all_letters
returns c =
    all_from_yields_List is_letter _ _ _ c.all.ensures.ran (YieldsList-from_slice c.args.bytes.now cc) (λ x b q called. search (rules, tests))
    ∙ same_from_clauses (list_all is_letter) all_letters (λ x rest. is_letter x && rest) refl (λ x xs. refl) (λ x xs. refl) c.args.bytes.now
