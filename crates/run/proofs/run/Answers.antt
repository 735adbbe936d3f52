-- What is opened for the list has its letters written.
use mathlib.Core.Path.{◌∙◌}
use Rattle.run.proofs.Calls.{listed}
use Rattle.run.proofs.run.Goals as goal

pub returns : goal.returns
returns c =
    let (said, wrote) = listed _ _ _ _ c.in_ok-opened.ensures in
    rw c.run_from.ensures.value (record { result_value = said; out_after = rw c.run_from.ensures.value at c.run_from.ensures.out_after ∙ wrote })
