-- Request 7 (02, CR 7), said of what the checker answers. Of several faults the earliest speaks: that is demand 1 (`checker_obeys`).
use Rattle.std.specs.Prelude.{ℕ, ◌*◌, ◌<◌, List, [], ◌≢◌, ◌↔◌, ◌≡◌, length, take}
use Rattle.board.specs.Fewest.{fewest}
use Rattle.board.specs.Move.{Leads}
use Rattle.board.specs.Reply.{refused, answer}
use Rattle.board.specs.Task.{start, goal}
use Rattle.route.specs.Answer.{length_of, count_of, task_route, letters, run_answer, run_writes}
use Rattle.route.specs.Ours.{our_route, read_moves}
use Rattle.checker.specs.Answer.{checker_answer}
use Rattle.checker.specs.Faults.{Unpaired}

-- The bytes are letter pairs that, read as moves, lead from s to g in the fewest moves.
pub record ShortestRoute (s g l : List ℕ) : Type 0 where
  pub paired : ¬ Unpaired l
  pub leads : Leads s (read_moves l) g
  pub fewest_moves : length (read_moves l) ≡ fewest s g

-- The bytes are the letters of our route k, which Move answers index by index.
pub record IsOurs (t l : List ℕ) (k : ℕ) : Type 0 where
  pub there : k < count_of t
  pub same : l ≡ letters (task_route t k)
  pub moves : read_moves l ≡ our_route t k (length_of t)

pub record Request7 (t l : List ℕ) : Type 0 where
  -- Accepted exactly if the letters, read as moves, lead from start to goal in the fewest moves.
  pub accepted : ((k : ℕ) × (checker_answer t l ≡ answer k)) ↔ ShortestRoute (start t) (goal t) l
  -- The number answered is k exactly if they are the letters of our route k.
  pub number : (k : ℕ) → (checker_answer t l ≡ answer k) ↔ IsOurs t l k
  -- They are those of one of our routes at most.
  pub only : (j k : ℕ) → IsOurs t l j → IsOurs t l k → j ≡ k
  -- What Run writes in full is accepted, whichever route was taken, with that route's number.
  pub run : (r : ℕ) (out : List ℕ) → run_answer t r 0 out ≡ answer (length_of t)
      → checker_answer t (take (2 * length_of t) (run_writes t r 0 out)) ≡ answer r
  -- The empty list is accepted on a still task, and refused with 16 on any other.
  pub still : start t ≡ goal t → checker_answer t [] ≡ answer 0
  pub moving : start t ≢ goal t → checker_answer t [] ≡ refused 16
