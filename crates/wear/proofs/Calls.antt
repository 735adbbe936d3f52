-- What Wear answers, and when: the laws for whoever calls it.
use Prim.Native.Nat.{ℕ, ◌≤◌, ◌<◌}
use mathlib.Core.List.{List, ◌++◌}
use mathlib.Core.Path.{◌≡◌, refl, sym}
use native.Mathlib.Omega.{arith}
use borrow.Author.Tests.{ltb-false, lt-ltb, le-ltb}
use lib.Dec.{ltb}
use lib.ListN.{length, drop}
use Rattle.board.specs.Fault.{Obeys}
use Rattle.board.specs.Reply.{refused, answer, pass}
use Rattle.board.specs.Task.{limit, discs}
use Rattle.board.proofs.Obeys.{check_obeys, then_obeys}
use Rattle.board.proofs.Replies.{then_answered, check_passed}
use Rattle.plan.specs.Inner.Read.{read_answer}
use Rattle.plan.specs.Plan.{plan_of, routes}
use Rattle.plan.proofs.Calls.{read_ends}
use Rattle.route.specs.Answer.{count_of, route_check}
use Rattle.route.proofs.Calls.Lists.{below}
use Rattle.route.specs.Inner.Open.{Opening, open_answer}
use Rattle.route.proofs.Calls.Opened.{Routed, route_passed, route_passes, route_obeys, open_answered, open_refused, opened_discs, read_unopened}
use Rattle.wear.specs.Answer.{wear_answer, wear_writes}
use Rattle.wear.specs.Faults.{wear_faults}
use Rattle.wear.specs.Wear.{wears_of}
use Rattle.wear.proofs.Wears.{wears_length, wears_sized}

-- Demand 1: Wear is refused as its faults say and never else, and a refusal leaves the buffer as it stood.
pub wear_obeys : (t : List ℕ) (r : ℕ) (out : List ℕ) → Obeys (wear_faults t r out) (wear_answer t r out)
unfolding wear_answer
wear_obeys t r out = then_obeys (route_obeys t r) (check_obeys _ 6 (below (length out) (discs t)))

pub wear_kept : (t : List ℕ) (r : ℕ) (out : List ℕ) {k : ℕ} → wear_answer t r out ≡ refused k → wear_writes t r out ≡ out
unfolding wear_writes
wear_kept t r out e = rw e

-- With a route of that number and an entry for each disc it is accepted.
pub wear_accepts : (t : List ℕ) (r : ℕ) (out : List ℕ) → Routed t r → discs t ≤ length out → wear_answer t r out ≡ pass
unfolding wear_answer
wear_accepts t r out routed room = rw (route_passes t r routed.accepted routed.known, le-ltb (length out) (discs t) room)

-- An accepted Wear: there is the route, of at most `limit` discs, and their wears come before what the buffer, which keeps its size, had.
pub record WearAnswered (t : List ℕ) (r : ℕ) (out : List ℕ) : Type 0 where
  pub routed : Routed t r
  pub within : discs t ≤ limit
  pub room : discs t ≤ length out
  pub wrote : wear_writes t r out ≡ wears_of t r ++ drop (discs t) out
  pub sized : length (wear_writes t r out) ≡ length out

pub wear_answered : (t : List ℕ) (r : ℕ) (out : List ℕ) → wear_answer t r out ≡ pass → WearAnswered t r out
unfolding wear_answer wear_writes
wear_answered t r out e =
    let (passed, late) = then_answered (route_check t r) _ e in
    let routed = route_passed t r passed in
    let room = ltb-false (length out) (discs t) (check_passed (ltb (length out) (discs t)) 6 late) in
    let size : length (wears_of t r) ≡ discs t = wears_length (discs t) _ in
    let wrote : wear_writes t r out ≡ wears_of t r ++ drop (discs t) out = rw (e, size) in
    record {
      routed = routed;
      within = routed.sound.within;
      room = room;
      wrote = wrote;
      sized = rw wrote (wears_sized (discs t) _ out room);
    }

-- A refusal to open the task at the route is Wear's, and nothing is written.
pub unopened : (t : List ℕ) (r : ℕ) (out : List ℕ) {k : ℕ} → refused k ≡ open_answer t r → (refused k ≡ wear_answer t r out) × (out ≡ wear_writes t r out)
unfolding wear_answer wear_writes
unopened t r out e = rw (← open_refused t r e) (refl, refl)

module _ (t : List ℕ) (r : ℕ) (out : List ℕ) {o : Opening} (e : answer o ≡ open_answer t r) where
  -- So is 6 where an entry is missing.
  pub short : length out < length o.start → (refused 6 ≡ wear_answer t r out) × (out ≡ wear_writes t r out)
  unfolding wear_answer wear_writes
  short less =
      let o = open_answered t r e in rw (o.passed, lt-ltb (length out) (discs t) (omega (arith, opened_discs o))) (refl, refl)

  -- Else it accepts, and the wears are written.
  pub written : length o.start ≤ length out → (pass ≡ wear_answer t r out) × (wears_of t r ++ drop (discs t) out ≡ wear_writes t r out)
  written room =
      let o = open_answered t r e in
      let yes = wear_accepts t r out (route_passed t r o.passed) (omega (arith, opened_discs o)) in
      (sym yes, sym (wear_answered t r out yes).wrote)

-- A task that cannot be read has no wears, and nothing is written.
pub unread : (t : List ℕ) (r : ℕ) (out : List ℕ) {k : ℕ} → refused k ≡ read_answer t → (refused k ≡ wear_answer t r out) × (out ≡ wear_writes t r out)
unread t r out e = unopened t r out (read_unopened t r e)

module _ (t : List ℕ) (r : ℕ) (out : List ℕ) {s g : List ℕ} (e : answer (s, g) ≡ read_answer t) where
  -- What is read has the task's routes.
  counted : routes (plan_of s g) ≡ count_of t
  counted = let o = read_ends t e in rw (o.from, o.to)

  -- Without a route of that number it is refused with 4, and nothing is written.
  pub unrouted : routes (plan_of s g) ≤ r → (refused 4 ≡ wear_answer t r out) × (out ≡ wear_writes t r out)
  unfolding route_check open_answer
  unrouted none =
      let o = read_ends t e in
      unopened t r out (rw (o.accepted, le-ltb r (count_of t) (omega (arith, none, counted))))

  -- One with such a route is opened at it.
  pub routed : r < routes (plan_of s g) → answer (record { start = s; goal = g; plan = plan_of s g; route = r }) ≡ open_answer t r
  unfolding open_answer
  routed known =
      let o = read_ends t e in
      rw (o.from, o.to, route_passes t r o.accepted (omega (arith, known, counted)))
