-- The faults of Add and Remove, as propositions (demand 1; 02, CR 9).
use Rattle.std.specs.Prelude.{ℕ, ◌<◌, List, [], ◌∷◌, ◌≡◌}
use Rattle.board.specs.Fault.{Fault, fault}
use Rattle.board.specs.Task.{limit}
use Rattle.builder.specs.Builder.{Sound}
use Rattle.builder.specs.declared.record.Builder.{Builder}

-- Add: 10, not sound; 2, the tower is full already; 3, a peg above 2.
abbrev pub add_faults : Builder → ℕ → List Fault
add_faults b j = fault 10 (¬ Sound b) ∷ fault 2 (b.n ≡ limit) ∷ fault 3 (2 < j) ∷ []

-- Remove: 10, not sound; 19, no disc is there.
abbrev pub remove_faults : Builder → List Fault
remove_faults b = fault 10 (¬ Sound b) ∷ fault 19 (b.n ≡ 0) ∷ []
