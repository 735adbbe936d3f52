-- The faults of Move, Place, Run and Locate, as propositions (demand 1).
use Rattle.std.specs.Prelude.{ℕ, ◌≤◌, ◌<◌, List, [], ◌∷◌, ◌++◌, ◌≢◌, length}
use Rattle.board.specs.Fault.{Fault, fault, AboveTwo, task_faults}
use Rattle.board.specs.Task.{discs}
use Rattle.route.specs.Answer.{length_of, count_of}

-- Task faults; 4, the route number is not below the count of shortest routes.
abbrev pub route_faults : List ℕ → ℕ → List Fault
route_faults t r = task_faults t ++ (fault 4 (count_of t ≤ r) ∷ [])

-- Move: 5, the index is not below the length.
abbrev pub move_faults : List ℕ → ℕ → ℕ → List Fault
move_faults t r i = route_faults t r ++ (fault 5 (length_of t ≤ i) ∷ [])

-- Place: 5, the index is above the length; 6, the buffer is below n bytes.
abbrev pub place_faults : List ℕ → ℕ → ℕ → List ℕ → List Fault
place_faults t r i out = route_faults t r ++ (fault 5 (length_of t < i) ∷ fault 6 (length out < discs t) ∷ [])

-- Run: 5, the first index is above the length; 6, moves remain and the buffer is below 2 bytes.
abbrev pub run_faults : List ℕ → ℕ → ℕ → List ℕ → List Fault
run_faults t r i out = route_faults t r ++ (fault 5 (length_of t < i) ∷ fault 6 ((i < length_of t) × (length out < 2)) ∷ [])

-- Locate: 7, q is not n bytes; 3 for q.
abbrev pub locate_faults : List ℕ → List ℕ → List Fault
locate_faults t q = task_faults t ++ (fault 7 (length q ≢ discs t) ∷ fault 3 (AboveTwo q) ∷ [])
