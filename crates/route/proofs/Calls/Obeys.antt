-- Demand 1 of Move, Place, Run and Locate: each is refused as its faults say and never else, and a refusal leaves the buffer as it stood.
use Prim.Native.Nat.{ℕ, ◌≤◌}
use mathlib.Core.Bool.{true, not}
use mathlib.Core.List.{List}
use mathlib.Core.Logic.{◌≢◌, ◌↔◌}
use mathlib.Core.Path.{◌≡◌}
use borrow.Author.Tests.{eqb-false, ne_eqb, ltb-false, le-ltb, not-true}
use lib.Dec.{eqb, ltb}
use lib.ListN.{length}
use Rattle.board.specs.Fault.{Obeys}
use Rattle.board.specs.Reply.{refused}
use Rattle.board.specs.Task.{discs, start, goal}
use Rattle.board.proofs.Formed.{not_formed}
use Rattle.board.proofs.Obeys.{answer_obeys, check_obeys, then_obeys}
use Rattle.board.proofs.Replies.{then_refused}
use Rattle.board.proofs.Tasks.{task_obeys}
use Rattle.route.specs.Answer.{length_of, move_answer, part_answer, place_answer, place_writes, run_answer, run_writes, locate_answer}
use Rattle.route.specs.Faults.{move_faults, place_faults, run_faults, locate_faults}
use Rattle.route.specs.Part.{part_letter, parts_of, part_at}
use Rattle.route.proofs.Calls.Lists.{below, list_answer_obeys}
use Rattle.route.proofs.Calls.Opened.{route_obeys}

-- A test fails exactly where one number is not below another.
not_below : (a b : ℕ) → (not (ltb a b) ≡ true) ↔ (b ≤ a)
not_below a b = ((λ e. ltb-false a b (not-true (ltb a b) e)), λ h. rw (le-ltb a b h))

-- Two numbers differ exactly where the test fails.
differ : (a b : ℕ) → (not (eqb a b) ≡ true) ↔ (a ≢ b)
differ a b = ((λ e. eqb-false a b (not-true (eqb a b) e)), λ n. rw (ne_eqb a b n))

pub move_obeys : (t : List ℕ) (r i : ℕ) → Obeys (move_faults t r i) (move_answer t r i)
unfolding move_answer
move_obeys t r i = then_obeys (route_obeys t r) (then_obeys (check_obeys _ 5 (not_below i (length_of t))) (answer_obeys _))

-- Its part is refused as it is.
pub part_obeys : (t : List ℕ) (r i : ℕ) → Obeys (move_faults t r i) (part_answer t r i)
unfolding part_answer
part_obeys t r i =
    let move = move_obeys t r i in
    record {
      refuses = λ k. ((λ e. (move.refuses k).0 (then_refused (move_answer t r i) _ e)), λ f. rw ((move.refuses k).1 f));
      answers = λ none. let (m, e) = move.answers none in (part_letter (part_at (parts_of (start t) (goal t) r) i), rw e);
    }

pub place_obeys : (t : List ℕ) (r i : ℕ) (out : List ℕ) → Obeys (place_faults t r i out) (place_answer t r i out)
unfolding place_answer
place_obeys t r i out =
    then_obeys (route_obeys t r)
    (then_obeys (check_obeys _ 5 (below (length_of t) i)) (check_obeys _ 6 (below (length out) (discs t))))

pub run_obeys : (t : List ℕ) (r i : ℕ) (out : List ℕ) → Obeys (run_faults t r i out) (run_answer t r i out)
unfolding run_answer
run_obeys t r i out = list_answer_obeys t r i (length out) 2 _

pub locate_obeys : (t q : List ℕ) → Obeys (locate_faults t q) (locate_answer t q)
unfolding locate_answer
locate_obeys t q =
    then_obeys (task_obeys t)
    (then_obeys (check_obeys _ 7 (differ (length q) (discs t)))
    (then_obeys (check_obeys _ 3 (not_formed q)) (answer_obeys _)))

-- A refused Place leaves the buffer as it stood.
pub place_kept : (t : List ℕ) (r i : ℕ) (out : List ℕ) {k : ℕ} → place_answer t r i out ≡ refused k → place_writes t r i out ≡ out
unfolding place_writes
place_kept t r i out e = rw e

-- So does a refused Run.
pub run_kept : (t : List ℕ) (r i : ℕ) (out : List ℕ) {k : ℕ} → run_answer t r i out ≡ refused k → run_writes t r i out ≡ out
unfolding run_writes
run_kept t r i out e = rw e
