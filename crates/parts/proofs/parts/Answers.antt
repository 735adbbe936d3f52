-- What is opened for the list has its letters written.
use mathlib.Core.Path.{◌∙◌}
use Rattle.parts.proofs.Calls.{listed}
use Rattle.parts.proofs.parts.Goals as goal

pub returns : goal.returns
returns c =
    let (said, wrote) = listed _ _ _ _ c.in_ok-opened.ensures in
    rw c.parts_from.ensures.value (record { result_value = said; out_after = rw c.parts_from.ensures.value at c.parts_from.ensures.out_after ∙ wrote })
