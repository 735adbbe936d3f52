-- What Gather and Plan answer, and when: the laws for whoever calls them.
use Prim.Native.Nat.{ℕ, ◌≤◌, ◌<◌}
use mathlib.Core.List.{List, ◌++◌, append-nil}
use mathlib.Core.Logic.{◌↔◌}
use mathlib.Core.Bool.{true, not}
use mathlib.Core.Path.{◌≡◌, ◌∙◌, sym, ap}
use native.Mathlib.Omega.{arith}
use borrow.Author.Tests.{le-ltb, ltb-true, ltb-false, not-true, not-false}
use lib.Dec.{ltb}
use lib.ListN.{length, replicate}
use Rattle.board.specs.Fault.{Obeys, Faultless, task_faults}
use Rattle.board.specs.Fewest.{Fewest, fewest}
use Rattle.board.specs.Position.{peg, WellFormed}
use Rattle.board.specs.Reply.{refused, answer, pass}
use Rattle.board.specs.Task.{limit, discs, start, goal, task_check, position_check}
use Rattle.board.proofs.Obeys.{answer_obeys, check_obeys, then_obeys}
use Rattle.board.proofs.Replies.{answer_same, then_answered, then_refused, check_answered}
use Rattle.board.proofs.Tasks.{SoundTask, SoundPosition, task_accepted, faultless_accepted, position_accepted, joined_task, joined_accepted, task_obeys, position_obeys}
use Rattle.plan.specs.Answer.{gather_answer, plan_answer}
use Rattle.plan.specs.Faults.{gather_faults}
use Rattle.plan.specs.Gather.{gather}
use Rattle.plan.specs.Plan.{plan_of, shortest}
use Rattle.plan.specs.Inner.Read.{read_answer}
use Rattle.plan.specs.Stacks.{Stacks}
use Rattle.plan.specs.declared.answer.Plan.{Plan}
use Rattle.plan.proofs.Optimal.{fewest_shortest, gather_fewest}

-- Gather is refused as its faults say, and never else (demand 1).
pub gather_obeys : (p : List ℕ) (j : ℕ) → Obeys (gather_faults p j) (gather_answer p j)
unfolding gather_answer
gather_obeys p j =
    let peg_above : (not (ltb j 3) ≡ true) ↔ (2 < j) =
    ((λ e. omega (arith, ltb-false j 3 (not-true (ltb j 3) e))), λ h. rw (le-ltb j 3 (omega arith))) in
    then_obeys (position_obeys p) (then_obeys (check_obeys (not (ltb j 3)) 3 peg_above) (answer_obeys _))

-- So is Plan.
pub plan_obeys : (t : List ℕ) → Obeys (task_faults t) (plan_answer t)
unfolding plan_answer
plan_obeys t = rw (← append-nil (task_faults t)) (then_obeys (task_obeys t) (answer_obeys _))

-- A task without faults is planned by the rules.
pub plan_accepts : (t : List ℕ) → Faultless (task_faults t) → plan_answer t ≡ answer (plan_of (start t) (goal t))
unfolding plan_answer
plan_accepts t none = rw (faultless_accepted t none)

-- A task that cannot be read has no plan.
pub read_refused : (t : List ℕ) {k : ℕ} → refused k ≡ read_answer t → refused k ≡ plan_answer t
unfolding read_answer plan_answer
read_refused t e = rw (then_refused (task_check t) _ (sym e))

-- What a reading says: the task is accepted, and these are its halves.
pub record Read (t s g : List ℕ) : Type 0 where
  pub accepted : task_check t ≡ pass
  pub from : s ≡ start t
  pub to : g ≡ goal t

pub read_ends : (t : List ℕ) {s g : List ℕ} → answer (s, g) ≡ read_answer t → Read t s g
unfolding read_answer
read_ends t {s} {g} e =
    let (accepted, same) = then_answered (task_check t) (answer (start t, goal t)) (sym e) in
    let both = answer_same same in
    record { accepted = accepted; from = sym (ap (λ (e : List ℕ × List ℕ). e.0) both); to = sym (ap (λ (e : List ℕ × List ℕ). e.1) both) }

-- They have as many discs.
pub read_discs : {t s g : List ℕ} → Read t s g → length s ≡ discs t
read_discs {t} o = rw o.from (task_accepted t o.accepted).start_length

-- A task that cannot be read is refused by its check.
pub read_faulty : (t : List ℕ) {k : ℕ} → refused k ≡ read_answer t → refused k ≡ task_check t
unfolding read_answer
read_faulty t e = sym (then_refused (task_check t) _ (sym e))

-- Its plan is that of its ends.
pub read_planned : (t : List ℕ) {s g : List ℕ} → answer (s, g) ≡ read_answer t → answer (plan_of s g) ≡ plan_answer t
unfolding plan_answer
read_planned t e = let o = read_ends t e in rw (o.from, o.to, o.accepted)

-- So is one made of two positions of one size.
pub plan_joined : (p q : List ℕ) → length p ≡ length q → length p ≤ limit → WellFormed p → WellFormed q → plan_answer (p ++ q) ≡ answer (plan_of p q)
unfolding plan_answer
plan_joined p q e few hp hq =
    let (half, from, to) = joined_task p q e in rw (joined_accepted p q e few hp hq, from, to)

-- What an answered plan says: its task is sound, and it is the plan of the rules.
pub record PlanAnswered (t : List ℕ) (p : Plan) : Type 0 where
  pub accepted : task_check t ≡ pass
  pub sound : SoundTask t
  pub plan : plan_of (start t) (goal t) ≡ p

pub plan_answered : (t : List ℕ) {p : Plan} → plan_answer t ≡ answer p → PlanAnswered t p
unfolding plan_answer
plan_answered t e =
    let (accepted, same) = then_answered (task_check t) (answer (plan_of (start t) (goal t))) e in
    record { accepted = accepted; sound = task_accepted t accepted; plan = cc }

-- A refused task is one whose check refuses it, with the same number.
pub plan_refused : (t : List ℕ) {k : ℕ} → plan_answer t ≡ refused k → task_check t ≡ refused k
unfolding plan_answer
plan_refused t e = then_refused (task_check t) _ e

-- The shortest of an answered plan is the fewest from start to goal.
pub plan_fewest : (t : List ℕ) {p : Plan} → plan_answer t ≡ answer p → shortest p ≡ fewest (start t) (goal t)
plan_fewest t e =
    let o = plan_answered t e in
    let s = o.sound in
    rw (← o.plan) (sym (fewest_shortest (start t) (goal t) (s.start_length ∙ sym s.goal_length) s.start_formed s.goal_formed))

-- A length that Gather answers is the rule's, and the fewest that stack the position on the peg.
pub record GatherAnswered (p : List ℕ) (j k : ℕ) : Type 0 where
  pub sound : SoundPosition p
  pub target : j < 3
  pub rule : k ≡ gather (peg p) (length p) j
  pub fewest : Fewest p (replicate (length p) j) k

pub gather_answered : (p : List ℕ) (j : ℕ) {k : ℕ} → gather_answer p j ≡ answer k → GatherAnswered p j k
unfolding gather_answer
gather_answered p j {k} e =
    let (position, rest) = then_answered (position_check p) _ e in
    let (target, same) = check_answered (not (ltb j 3)) 3 _ rest in
    let s = position_accepted p position in
    let hj = ltb-true j 3 (not-false (ltb j 3) target) in
    let rule : gather (peg p) (length p) j ≡ k = cc in
    record { sound = s; target = hj; rule = sym rule; fewest = rw rule at (gather_fewest p j s.formed hj) }

-- Demand 2 of Gather, on every position and peg without faults.
pub stacks : (p : List ℕ) (j : ℕ) → Faultless (gather_faults p j) → Stacks p j
stacks p j none =
    let (k, answered) = (gather_obeys p j).answers none in
    let s = gather_answered p j answered in
    record { moves = k; answered = answered; rule = s.rule; fewest = s.fewest }
