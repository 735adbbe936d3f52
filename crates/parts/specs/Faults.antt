-- The faults of Parts, as propositions (demand 1; 02, CR 1).
use Rattle.std.specs.Prelude.{ℕ, ◌<◌, List, [], ◌∷◌, ◌++◌, length}
use Rattle.board.specs.Fault.{Fault, fault}
use Rattle.route.specs.Answer.{length_of}
use Rattle.route.specs.Faults.{route_faults}

-- Task faults; 4; 5, the first index is above the length; 6, moves remain and the buffer is below 1 byte.
abbrev pub parts_faults : List ℕ → ℕ → ℕ → List ℕ → List Fault
parts_faults t r i out = route_faults t r ++ (fault 5 (length_of t < i) ∷ fault 6 ((i < length_of t) × (length out < 1)) ∷ [])
