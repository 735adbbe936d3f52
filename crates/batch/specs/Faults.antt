-- The faults of Batch, as propositions (demand 1; 02, CR 5). A task with a byte above 2 is none.
use Rattle.std.specs.Prelude.{ℕ, ◌*◌, ◌<◌, List, [], ◌∷◌, ◌≡◌, length}
use Rattle.board.specs.Fault.{Fault, fault}
use Rattle.board.specs.Task.{limit}
use Rattle.batch.specs.Tasks.{tasks_in}

-- The length is a multiple of 2n; for n = 0, zero.
abbrev pub Whole : ℕ → List ℕ → Type 0
Whole n b = (k : ℕ) × (length b ≡ k * (2 * n))

-- 2, more than 60 discs; 13, the length is not a multiple of 2n; 6, fewer entries than tasks.
abbrev pub batch_faults : ℕ → List ℕ → List ℕ → List Fault
batch_faults n b out = fault 2 (limit < n) ∷ fault 13 (¬ Whole n b) ∷ fault 6 (length out < tasks_in n (length b)) ∷ []
