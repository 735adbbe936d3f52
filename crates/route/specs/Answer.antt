-- What Move, Place, Run and Locate answer, and what they leave of a lent buffer (document 01, "The operations and when each refuses").
use Rattle.std.specs.Prelude.{ℕ, ◌+◌, ◌-◌, ◌/◌, min, Bool, not, cond, ◌&&◌, List, [], ◌∷◌, eqb, ltb, length, take, drop, Option, Some, None, Result, Ok, Err}
use Rattle.board.specs.Fewest.{fewest, same}
use Rattle.board.specs.Position.{well_formed}
use Rattle.board.specs.Refusal.{number}
use Rattle.board.specs.Reply.{Reply, refused, answer, ◌>>◌, ◌>>=◌, Check, check, written}
use Rattle.board.specs.declared.refusal.Refusal.{Refusal}
use Rattle.board.specs.Task.{discs, start, goal, task_check}
use Rattle.plan.specs.Plan.{plan_of, shortest, routes}
use Rattle.route.specs.Part.{part_letter, parts_of, part_at}
use Rattle.route.specs.Route.{route_of, move_at, after}
use Rattle.route.specs.declared.answer.DiscMove.{DiscMove}
use Rattle.route.specs.declared.answer.Located.{Located}
use Rattle.route.specs.declared.part.Part.{Part}

-- The length and the count of shortest routes of a task.
abbrev pub length_of : List ℕ → ℕ
length_of t = shortest (plan_of (start t) (goal t))

abbrev pub count_of : List ℕ → ℕ
count_of t = routes (plan_of (start t) (goal t))

-- Route r of a task.
abbrev pub task_route : List ℕ → ℕ → List DiscMove
task_route t r = route_of (start t) (goal t) r

-- Task faults; 4, the route number is not below the count of shortest routes.
unfoldable pub route_check : List ℕ → ℕ → Check
route_check t r = do
  task_check t
  check (not (ltb r (count_of t))) 4

-- What an answer of Move says: disc, from and to.
abbrev pub move_reply : Result (DiscMove × Part) Refusal → Reply DiscMove
move_reply (Ok (m, a)) = answer m
move_reply (Err r) = refused (number r)

-- Move: task faults; 4; 5, the index is not below the length.
unfoldable pub move_answer : List ℕ → ℕ → ℕ → Reply DiscMove
move_answer t r i = do
  route_check t r
  check (not (ltb i (length_of t))) 5
  answer (move_at (task_route t r) i)

-- What an answer of Move says too: the letter of its part (02, CR 1).
abbrev pub part_reply : Result (DiscMove × Part) Refusal → Reply ℕ
part_reply (Ok (m, a)) = answer (part_letter a)
part_reply (Err r) = refused (number r)

-- The part of the same move; refused as the move is.
unfoldable pub part_answer : List ℕ → ℕ → ℕ → Reply ℕ
part_answer t r i = do
  move_answer t r i
  answer (part_letter (part_at (parts_of (start t) (goal t) r) i))

-- Place: task faults; 4; 5, the index is above the length; 6, the buffer is below n bytes.
unfoldable pub place_answer : List ℕ → ℕ → ℕ → List ℕ → Check
place_answer t r i out = do
  route_check t r
  check (ltb (length_of t) i) 5
  check (ltb (length out) (discs t)) 6

-- What Place leaves of the buffer: in its first n bytes the position after i moves.
unfoldable pub place_writes : List ℕ → ℕ → ℕ → List ℕ → List ℕ
place_writes t r i out = written (do place_answer t r i out; answer (after (start t) (take i (task_route t r)))) out

-- Run: task faults; 4; 5, the first index is above the length; 6, moves remain and the buffer is below 2 bytes. As many moves as remain or
-- fit, the lesser.
unfoldable pub run_answer : List ℕ → ℕ → ℕ → List ℕ → Reply ℕ
run_answer t r i out = do
  route_check t r
  check (ltb (length_of t) i) 5
  check (ltb i (length_of t) && ltb (length out) 2) 6
  answer (min (length_of t - i) (length out / 2))

-- A peg in text: A, B, C.
abbrev pub letter : ℕ → ℕ
letter i = 65 + i

-- Each move as two letters, from then to.
unfoldable pub letters : List DiscMove → List ℕ
letters [] = []
letters (m ∷ ms) = letter m.from ∷ letter m.to ∷ letters ms

-- What Run leaves of the buffer: the letters of so many moves from the first index on.
unfoldable pub run_writes : List ℕ → ℕ → ℕ → List ℕ → List ℕ
run_writes t r i out = written (do k ← run_answer t r i out; answer (letters (take k (drop i (task_route t r))))) out

-- Where a position is: at an index of a shortest route, or off.
pub data Where : Type 0 where
  on : (index route : ℕ) → Where
  off : Where

-- What an answer of Locate says.
abbrev pub where_is : Option Located → Where
where_is (Some l) = on l.index l.route
where_is None = off

abbrev pub locate_reply : Result (Option Located) Refusal → Reply Where
locate_reply (Ok found) = answer (where_is found)
locate_reply (Err r) = refused (number r)

-- q is on a shortest route from s to g exactly if the fewest by way of q are the fewest.
unfoldable pub on_route : List ℕ → List ℕ → List ℕ → Bool
on_route s g q = eqb (fewest s q + fewest q g) (fewest s g)

-- Its route is the lowest that has it at its index, which is the fewest to it.
unfoldable pub lowest_route : List ℕ → List ℕ → List ℕ → ℕ
lowest_route s g q = cond (same q (after s (take (fewest s q) (route_of s g 0)))) 0 1

unfoldable pub located_at : List ℕ → List ℕ → List ℕ → Where
located_at s g q = cond (on_route s g q) (on (fewest s q) (lowest_route s g q)) off

-- Locate: task faults; 7, q is not n bytes; 3 for q.
unfoldable pub locate_answer : List ℕ → List ℕ → Reply Where
locate_answer t q = do
  task_check t
  check (not (eqb (length q) (discs t))) 7
  check (not (well_formed q)) 3
  answer (located_at (start t) (goal t) q)
