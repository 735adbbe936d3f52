-- The faults of Wear, as propositions (demand 1; 02, CR 6).
use Rattle.std.specs.Prelude.{ℕ, ◌<◌, List, [], ◌∷◌, ◌++◌, length}
use Rattle.board.specs.Fault.{Fault, fault}
use Rattle.board.specs.Task.{discs}
use Rattle.route.specs.Faults.{route_faults}

-- Task faults; 4; 6, fewer than n entries.
abbrev pub wear_faults : List ℕ → ℕ → List ℕ → List Fault
wear_faults t r out = route_faults t r ++ (fault 6 (length out < discs t) ∷ [])
