-- The faults of the task program, as propositions (demand 1).
use Rattle.std.specs.Prelude.{ℕ, ◌<◌, List, [], ◌∷◌, ◌++◌, ◌≢◌, length}
use Rattle.board.specs.Fault.{Fault, fault, AboveTwo}
use Rattle.board.specs.Task.{limit}
use Rattle.text.specs.Input.{Text}

-- 12, the bytes are the text of no two positions; 1, of two of unequal counts; 2, of more than 60 discs; 3, with a digit above 2.
abbrev pub text_faults : List ℕ → List Fault
text_faults b =
    fault 12 (¬ ((s : List ℕ) × (t : List ℕ) × Text b s t))
    ∷ fault 1 ((s : List ℕ) × (t : List ℕ) × Text b s t × (length s ≢ length t))
    ∷ fault 2 ((s : List ℕ) × (t : List ℕ) × Text b s t × (limit < length s))
    ∷ fault 3 ((s : List ℕ) × (t : List ℕ) × Text b s t × AboveTwo (s ++ t))
    ∷ []
