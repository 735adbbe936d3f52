-- What Move, Place, Run, Parts and Wear know once the task faults and the route number are passed.
use Prim.Native.Nat.{ℕ, ◌<◌}
use mathlib.Core.Bool.{not}
use mathlib.Core.List.{List}
use mathlib.Core.Path.{◌≡◌, sym, ap}
use borrow.Author.Tests.{lt-ltb, le-ltb, ltb-true, ltb-false, not-true, not-false}
use lib.Dec.{ltb}
use lib.ListN.{length}
use Rattle.board.specs.Fault.{Obeys}
use Rattle.board.specs.Reply.{refused, answer, pass}
use Rattle.board.specs.Task.{discs, start, goal, task_check}
use Rattle.board.proofs.Obeys.{check_obeys, then_obeys}
use Rattle.board.proofs.Replies.{answer_same, then_answered, then_refused, check_passed}
use Rattle.board.proofs.Tasks.{SoundTask, task_accepted, task_obeys}
use Rattle.plan.specs.Inner.Read.{read_answer}
use Rattle.plan.proofs.Calls.{read_ends}
use Rattle.plan.specs.Plan.{plan_of, shortest}
use Rattle.route.specs.Answer.{length_of, count_of, route_check}
use Rattle.route.specs.Faults.{route_faults}
use Rattle.route.specs.Inner.Open.{Opening, opening, open_answer}

-- A sound task with a route r.
pub record Routed (t : List ℕ) (r : ℕ) : Type 0 where
  pub accepted : task_check t ≡ pass
  pub sound : SoundTask t
  pub known : r < count_of t

-- Of a task that is accepted, each number below the count is a route's.
pub accepted_routed : (t : List ℕ) → task_check t ≡ pass → (r : ℕ) → r < count_of t → Routed t r
accepted_routed t accepted r known = record { accepted = accepted; sound = task_accepted t accepted; known = known }

-- Where the checks pass, there is such.
pub route_passed : (t : List ℕ) (r : ℕ) → route_check t r ≡ pass → Routed t r
unfolding route_check
route_passed t r h =
    let (task, number) = then_answered (task_check t) _ h in
    let below = not-false (ltb r (count_of t)) (check_passed (not (ltb r (count_of t))) 4 number) in
    record { accepted = task; sound = task_accepted t task; known = ltb-true r (count_of t) below }

-- And where there is such, they pass.
pub route_passes : (t : List ℕ) (r : ℕ) → task_check t ≡ pass → r < count_of t → route_check t r ≡ pass
unfolding route_check
route_passes t r accepted known = rw (accepted, lt-ltb r (count_of t) known)

-- What is opened for route r: the checks pass, and these are the task's ends, its plan and the route.
pub record OpenedRoute (t : List ℕ) (r : ℕ) (o : Opening) : Type 0 where
  pub passed : route_check t r ≡ pass
  pub from : o.start ≡ start t
  pub to : o.goal ≡ goal t
  pub plan : o.plan ≡ plan_of (start t) (goal t)
  pub route : o.route ≡ r

pub opening_parts : (t : List ℕ) (r : ℕ) {o : Opening} → route_check t r ≡ pass → o ≡ opening t r → OpenedRoute t r o
opening_parts t r passed same =
    record {
      passed = passed;
      from = ap (λ (o : Opening). o.start) same;
      to = ap (λ (o : Opening). o.goal) same;
      plan = ap (λ (o : Opening). o.plan) same;
      route = ap (λ (o : Opening). o.route) same;
    }

pub open_answered : (t : List ℕ) (r : ℕ) {o : Opening} → answer o ≡ open_answer t r → OpenedRoute t r o
unfolding open_answer
open_answered t r e =
    let (passed, same) = then_answered (route_check t r) _ (sym e) in
    opening_parts t r passed (sym (answer_same same))

-- All of it together.
pub opened_is : {t : List ℕ} {r : ℕ} {o : Opening} → OpenedRoute t r o → o ≡ opening t r
opened_is {t} {r} {o} h =
    let same : ◌≡◌ {A = Opening} (record { start = o.start; goal = o.goal; plan = o.plan; route = o.route }) (opening t r) =
    rw (h.from, h.to, h.plan, h.route) in same

-- The length of its plan is the task's.
pub opened_length : {t : List ℕ} {r : ℕ} {o : Opening} → OpenedRoute t r o → length_of t ≡ shortest o.plan
opened_length h = rw h.plan

-- It has as many discs.
pub opened_discs : {t : List ℕ} {r : ℕ} {o : Opening} → OpenedRoute t r o → length o.start ≡ discs t
opened_discs {t} {r} {o} h = rw h.from (route_passed t r h.passed).sound.start_length

-- A refusal to open it is that of the checks.
pub open_refused : (t : List ℕ) (r : ℕ) {k : ℕ} → refused k ≡ open_answer t r → refused k ≡ route_check t r
unfolding open_answer
open_refused t r e = sym (then_refused (route_check t r) _ (sym e))

-- A task that cannot be read cannot be opened.
pub read_unopened : (t : List ℕ) (r : ℕ) {k : ℕ} → refused k ≡ read_answer t → refused k ≡ open_answer t r
unfolding read_answer open_answer route_check
read_unopened t r e = rw (then_refused (task_check t) _ (sym e))

-- The checks obey the task faults and 4.
pub route_obeys : (t : List ℕ) (r : ℕ) → Obeys (route_faults t r) (route_check t r)
unfolding route_check
route_obeys t r =
    then_obeys (task_obeys t)
    (check_obeys (not (ltb r (count_of t))) 4
    ((λ e. ltb-false r (count_of t) (not-true (ltb r (count_of t)) e)), λ h. rw (le-ltb r (count_of t) h)))

-- How a task is opened.
pub ruleset read_opened = (read_unopened, read_ends)

-- What is known of what is opened.
pub ruleset opens = (open_refused, open_answered, opened_is, opened_length)
