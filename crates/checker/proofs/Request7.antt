-- Request 7 holds of every task without faults and any bytes.
use Prim.Native.Nat.{ℕ, ◌*◌, ◌<◌}
use mathlib.Core.List.{List, []}
use mathlib.Core.Logic.{◌≢◌, inl, inr}
use mathlib.Core.Path.{◌≡◌, ◌∙◌, refl, sym, ap}
use native.Mathlib.Omega.{arith}
use lib.ListN.{length, take}
use lib.Seq.{take_all, take_at}
use Rattle.board.specs.Fault.{Faultless, task_faults}
use Rattle.board.specs.Move.{done}
use Rattle.board.specs.Reply.{refused, answer, pass}
use Rattle.board.specs.Task.{start, goal, task_check}
use Rattle.board.proofs.Leads.{leads_one}
use Rattle.board.proofs.Replies.{answer_same}
use Rattle.board.proofs.Tasks.{faultless_accepted}
use Rattle.plan.proofs.Optimal.{fewest_shortest, fewest_is}
use Rattle.route.specs.Answer.{length_of, count_of, task_route, letters, run_answer, run_writes}
use Rattle.route.specs.Ours.{read_moves}
use Rattle.route.proofs.Calls.Answers.{route_length, route_pegs, run_answered}
use Rattle.route.proofs.Calls.Letters.{letters_read, letters_length}
use Rattle.route.proofs.Calls.Opened.{accepted_routed}
use Rattle.route.proofs.Calls.Ours.{our_route_lem}
use Rattle.route.proofs.Shortest.Distinct.{routes_count}
use Rattle.route.proofs.Shortest.Unique.{none_left}
use Rattle.checker.specs.Answer.{checker_answer}
use Rattle.checker.specs.Faults.{Unpaired}
use Rattle.checker.specs.Request7.{ShortestRoute, IsOurs, Request7}
use Rattle.checker.proofs.Calls.{letters_refuses, shortest_passes, letters_passed, shortest_ours, ends_of, checker_accepts, checker_refuses, ours_accepted, checker_answered}
use Rattle.checker.proofs.Moves.{leads_clear}

module _ (t : List ℕ) (accepted : task_check t ≡ pass) where
  -- The letters of our route k are what Move answers.
  ours : (l : List ℕ) (k : ℕ) → k < count_of t → l ≡ letters (task_route t k) → IsOurs t l k
  ours l k there e =
      let r = accepted_routed t accepted k there in
      record { there = there; same = e; moves = ap read_moves e ∙ letters_read (task_route t k) (route_pegs t k r) ∙ sym (our_route_lem t k r) }

  -- What is accepted is a shortest route.
  is_shortest : (l : List ℕ) → (k : ℕ) × (checker_answer t l ≡ answer k) → ShortestRoute (start t) (goal t) l
  is_shortest l (k, e) = letters_passed (start t) (goal t) l (ends_of t accepted) (checker_answered t l e).1

  -- Of one of our routes it is the number.
  is_number : (l : List ℕ) (k : ℕ) → IsOurs t l k → checker_answer t l ≡ answer k
  is_number l k o = rw o.same (ours_accepted t accepted k o.there)

  -- And what is accepted is one of ours.
  number_is : (l : List ℕ) (k : ℕ) → checker_answer t l ≡ answer k → IsOurs t l k
  number_is l k e =
      let (r, there, same) = shortest_ours (start t) (goal t) l (ends_of t accepted) (is_shortest l (k, e)) in
      let o = ours l r there same in
      let number : r ≡ k = answer_same (sym (is_number l r o) ∙ e) in
      rw number at o

  -- What Run writes in full is the letters of the route.
  run_accepted : (r : ℕ) (out : List ℕ) → run_answer t r 0 out ≡ answer (length_of t)
      → checker_answer t (take (2 * length_of t) (run_writes t r 0 out)) ≡ answer r
  run_accepted r out e =
      let ran = run_answered t r 0 out e in
      let whole : take (length_of t) (task_route t r) ≡ task_route t r = take_all (length_of t) (task_route t r) (omega (arith, route_length t r ran.routed)) in
      let size : length (letters (task_route t r)) ≡ 2 * length_of t = omega (arith, letters_length (task_route t r), route_length t r ran.routed) in
      let wrote : take (2 * length_of t) (run_writes t r 0 out) ≡ letters (task_route t r) =
      rw (ran.wrote, whole) (take_at (letters (task_route t r)) _ (2 * length_of t) size) in
      rw wrote (ours_accepted t accepted r ran.routed.known)

  -- The empty list is that of route 0 of a still task.
  still : start t ≡ goal t → checker_answer t [] ≡ answer 0
  unfolding letters
  still e =
      let s = ends_of t accepted in
      let some : 0 < count_of t = elim (routes_count (start t) (goal t)) [ inl one ↦ omega arith | inr two ↦ omega arith ] in
      let least = (fewest_is (start t) (goal t) s.same s.start_formed s.goal_formed).least [] (rw e done) in
      let none : length_of t ≡ 0 = sym (fewest_shortest (start t) (goal t) s.same s.start_formed s.goal_formed) ∙ omega arith in
      let route : task_route t 0 ≡ [] = none_left (task_route t 0) (route_length t 0 (accepted_routed t accepted 0 some) ∙ none) in
      rw route at (ours_accepted t accepted 0 some)

  -- It does not reach any other goal.
  moving : start t ≢ goal t → checker_answer t [] ≡ refused 16
  unfolding read_moves
  moving n =
      let paired : ¬ Unpaired [] = λ u. elim u [ inl odd ↦ omega arith | inr some ↦ omega (arith, some.1) ] in
      checker_refuses t accepted []
      (sym (letters_refuses (start t) (goal t) [] (inr (paired, inr (leads_clear done, inl (inl (λ w. n (leads_one done w)), refl))))))

-- All of it together.
pub request_7 : (t l : List ℕ) → Faultless (task_faults t) → Request7 t l
request_7 t l clear =
    let accepted = faultless_accepted t clear in
    record {
      accepted = (is_shortest t accepted l, λ r. (_, checker_accepts t accepted l (shortest_passes (start t) (goal t) l r)));
      number = λ k. (number_is t accepted l k, is_number t accepted l k);
      only = λ j k a b. answer_same (sym (is_number t accepted l j a) ∙ is_number t accepted l k b);
      run = run_accepted t accepted;
      still = still t accepted;
      moving = moving t accepted;
    }
