-- What the checker answers (02, CR 7).
use Rattle.std.specs.Prelude.{ℕ, ◌%◌, not, cond, ◌||◌, List, eqb, ltb, length}
use Rattle.board.specs.Fewest.{same, fewest}
use Rattle.board.specs.Reply.{Reply, answer, ◌>>◌, Check, check}
use Rattle.board.specs.Task.{start, goal, task_check}
use Rattle.route.specs.Answer.{task_route, letters}
use Rattle.route.specs.Ours.{read_moves}
use Rattle.checker.specs.Letters.{all_letters}
use Rattle.checker.specs.Moves.{all_legal, leads_to}

-- The faults of the bytes l as a route from s to g: 14, odd length or a byte other than A, B, C; 15, some move is not legal at its turn; 16,
-- the goal is not reached at the end, or it is reached with more than the fewest moves.
unfoldable pub letters_check : List ℕ → List ℕ → List ℕ → Check
letters_check s g l = do
  check (eqb (length l % 2) 1 || not (all_letters l)) 14
  check (not (all_legal s (read_moves l))) 15
  check (not (leads_to s (read_moves l) g) || ltb (fewest s g) (length (read_moves l))) 16

-- Which of our routes, at most two, has these letters: 0 if route 0 has them, else 1. That one of them has them is a theorem.
unfoldable pub route_number : List ℕ → List ℕ → ℕ
route_number t l = cond (same l (letters (task_route t 0))) 0 1

-- The checker: task faults; 14; 15; 16; and then the number of the route.
unfoldable pub checker_answer : List ℕ → List ℕ → Reply ℕ
checker_answer t l = do
  task_check t
  letters_check (start t) (goal t) l
  answer (route_number t l)
