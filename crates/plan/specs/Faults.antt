-- The faults of Gather and Plan, as propositions (demand 1). Plan's are the task faults.
use Rattle.std.specs.Prelude.{ℕ, ◌<◌, List, [], ◌∷◌, ◌++◌}
use Rattle.board.specs.Fault.{Fault, fault, position_faults}

-- Gather: 2; 3 for a byte or the peg.
abbrev pub gather_faults : List ℕ → ℕ → List Fault
gather_faults p j = position_faults p ++ (fault 3 (2 < j) ∷ [])
