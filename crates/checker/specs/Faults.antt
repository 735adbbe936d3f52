-- The faults of the checker, as propositions (demand 1; 02, CR 7).
use Rattle.std.specs.Prelude.{ℕ, ◌<◌, ◌%◌, List, [], ◌∷◌, ◌++◌, ◌≢◌, ◌⊎◌, ◌≡◌, length, get_or}
use Rattle.board.specs.Fault.{Fault, fault, task_faults}
use Rattle.board.specs.Fewest.{fewest}
use Rattle.board.specs.Move.{Move, Legal, Leads}
use Rattle.board.specs.Task.{start, goal}
use Rattle.route.specs.Ours.{read_moves}

-- The byte is other than A, B, C.
abbrev pub NoLetter : ℕ → Type 0
NoLetter c = (c ≢ 65) × (c ≢ 66) × (c ≢ 67)

-- Odd length, or a byte other than A, B, C.
abbrev pub Unpaired : List ℕ → Type 0
Unpaired l = (length l % 2 ≡ 1) ⊎ ((i : ℕ) × (i < length l) × NoLetter (get_or l i 0))

-- Some move of the list is not legal at its turn: on the position to which those before it lead from p.
pub record Illegal (p : List ℕ) (ms : List Move) : Type 0 where
  pub before : List Move
  pub move : Move
  pub after : List Move
  pub split : ms ≡ before ++ (move ∷ after)
  pub position : List ℕ
  pub turn : Leads p before position
  pub wrong : ¬ Legal position move

-- The list does not lead from p to q, or has more than the fewest moves.
abbrev pub NotShortest : List ℕ → List Move → List ℕ → Type 0
NotShortest p ms q = (¬ Leads p ms q) ⊎ (fewest p q < length ms)

-- The faults of the bytes l as a route from s to g.
abbrev pub letters_faults : List ℕ → List ℕ → List ℕ → List Fault
letters_faults s g l =
    fault 14 (Unpaired l) ∷ fault 15 (Illegal s (read_moves l)) ∷ fault 16 (NotShortest s (read_moves l) g) ∷ []

-- Task faults; 14; 15; 16.
abbrev pub checker_faults : List ℕ → List ℕ → List Fault
checker_faults t l = task_faults t ++ letters_faults (start t) (goal t) l
