-- `text::read::next_after` meets its contract: what may come next is followed from byte to byte.
use Rattle.std.proofs.Common.{rules, tests}
use Rattle.std.proofs.lemmas.Iterator.{YieldsList-from_slice}
use Rattle.std.proofs.lemmas.Iterator.Consumers.{fold_from_yields_List}
use Rattle.text.specs.Reading.{follow}
use Rattle.text.proofs.Reading.{follow_fold}
use Rattle.text.proofs.read.next_after.Goals as goal

pub returns : goal.returns
returns c =
    rw follow_fold
    (fold_from_yields_List _ follow _ _ c.fold.ensures.ran (YieldsList-from_slice c.args.input.now cc) (λ e b f q k. search (rules, tests)))
