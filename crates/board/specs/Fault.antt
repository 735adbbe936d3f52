-- Demand 1 (document 01, "The operations and when each refuses"). The faults of a call are a list, in the order of its checks: each a number
-- and the proposition that the fault is there.
use Rattle.std.specs.Prelude.{ℕ, ◌<◌, ◌%◌, List, [], ◌∷◌, ◌≢◌, ◌⊎◌, ◌↔◌, ◌≡◌, length}
use Rattle.board.specs.Move.{Move, top}
use Rattle.board.specs.Position.{peg}
use Rattle.board.specs.Reply.{Reply, refused, answer}
use Rattle.board.specs.Task.{limit, discs}

pub record Fault : Type 1 where
  pub number : ℕ
  pub there : Type 0

abbrev pub fault : ℕ → Type 0 → Fault
fault k p = record { number = k; there = p }

-- k is the number of the first fault that is there.
abbrev pub First : List Fault → ℕ → Type 0
First [] k = ⊥
First (f ∷ fs) k = (f.there × (k ≡ f.number)) ⊎ ((¬ f.there) × First fs k)

-- No fault is there.
abbrev pub Faultless : List Fault → Type 0
Faultless [] = Unit {0}
Faultless (f ∷ fs) = (¬ f.there) × Faultless fs

-- A reply obeys the faults of its call: it is refused with k exactly when k is the number of the first fault, and with none it is a value.
pub record Obeys {A : Type 0} (fs : List Fault) (r : Reply A) : Type 0 where
  pub refuses : (k : ℕ) → (r ≡ refused k) ↔ First fs k
  pub answers : Faultless fs → (a : A) × (r ≡ answer a)

-- Some byte is above 2.
abbrev pub AboveTwo : List ℕ → Type 0
AboveTwo p = (d : ℕ) × (d < length p) × (2 < peg p d)

-- Task faults.
abbrev pub task_faults : List ℕ → List Fault
task_faults t = fault 1 (length t % 2 ≡ 1) ∷ fault 2 (limit < discs t) ∷ fault 3 (AboveTwo t) ∷ []

-- The faults of a position by itself.
abbrev pub position_faults : List ℕ → List Fault
position_faults p = fault 2 (limit < length p) ∷ fault 3 (AboveTwo p) ∷ []

-- No disc is on the peg.
abbrev pub Empty : List ℕ → ℕ → Type 0
Empty p i = (d : ℕ) → d < length p → peg p d ≢ i

-- The faults of a move on a position.
abbrev pub legal_faults : List ℕ → Move → List Fault
legal_faults p m =
    fault 3 ((2 < m.from) ⊎ (2 < m.to))
    ∷ fault 8 ((m.from ≡ m.to) ⊎ Empty p m.from)
    ∷ fault 9 (top p m.to < top p m.from)
    ∷ []
