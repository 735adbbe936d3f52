-- The faults of Totals, as propositions (demand 1; 02, CR 10).
use Rattle.std.specs.Prelude.{ℕ, ◌<◌, List, [], ◌∷◌}
use Rattle.board.specs.Fault.{Fault, fault}
use Rattle.averages.specs.Answer.{totals_limit}

-- 20, more than 15 discs.
abbrev pub totals_faults : ℕ → List Fault
totals_faults n = fault 20 (totals_limit < n) ∷ []
