-- What Parts answers, and when: the laws for whoever calls it.
use Prim.Native.Nat.{ℕ, ◌-◌, ◌≤◌, min}
use mathlib.Core.List.{List, ◌++◌, map}
use mathlib.Core.Path.{◌≡◌, ◌∙◌, sym}
use native.Mathlib.Omega.{arith}
use lib.ListN.{length, take, drop, length-take, length-drop, length-map}
use Rattle.board.specs.Fault.{Obeys}
use Rattle.board.specs.Reply.{refused, answer}
use Rattle.board.specs.Task.{start, goal}
use Rattle.board.proofs.Replies.{then_answered}
use Rattle.route.specs.Answer.{length_of}
use Rattle.route.specs.Inner.Open.{Opening, list_check, list_answer}
use Rattle.plan.specs.Plan.{shortest}
use Rattle.route.specs.Part.{part_letter, parts_of}
use Rattle.route.proofs.Annotated.{parts_long}
use Rattle.route.proofs.Calls.Answers.{joined_size}
use Rattle.route.proofs.Calls.Lists.{Listed, list_first, list_answer_obeys, list_passed, list_passes, list_opened, list_refused}
use Rattle.route.proofs.Calls.Opened.{Routed}
use Rattle.parts.specs.Answer.{parts_answer, parts_writes}
use Rattle.parts.specs.Faults.{parts_faults}

-- Demand 1: Parts is refused as its faults say and never else, and a refusal leaves the buffer as it stood.
pub parts_obeys : (t : List ℕ) (r i : ℕ) (out : List ℕ) → Obeys (parts_faults t r i out) (parts_answer t r i out)
unfolding parts_answer
parts_obeys t r i out = list_answer_obeys t r i (length out) 1 _

pub parts_kept : (t : List ℕ) (r i : ℕ) (out : List ℕ) {k : ℕ} → parts_answer t r i out ≡ refused k → parts_writes t r i out ≡ out
unfolding parts_writes
parts_kept t r i out e = rw e

-- What cannot be opened for the list is refused.
pub parts_refuses : (t : List ℕ) (r i : ℕ) (out : List ℕ) {k : ℕ} → refused k ≡ list_answer t r i (length out) 1 → parts_answer t r i out ≡ refused k
unfolding parts_answer
parts_refuses t r i out e =
    list_first t r i (length out) 1 _ ∙ rw (← list_refused t r i (length out) 1 e)

-- At every first index up to the length, into a buffer of a byte or more where moves remain, it answers how many remain or fit.
pub parts_accepts : (t : List ℕ) (r i : ℕ) (out : List ℕ) → Listed t r i (length out) 1 → parts_answer t r i out ≡ answer (min (length_of t - i) (length out))
unfolding parts_answer
parts_accepts t r i out l = list_first t r i (length out) 1 _ ∙ rw (list_passes t r i (length out) 1 l)

-- An answered Parts: the first index is up to the length, and the letters that it counts fit the buffer, which keeps its size.
pub record PartsAnswered (t : List ℕ) (r i : ℕ) (out : List ℕ) (k : ℕ) : Type 0 where
  pub routed : Routed t r
  pub index : i ≤ length_of t
  pub count : k ≡ min (length_of t - i) (length out)
  pub room : k ≤ length out
  pub wrote : parts_writes t r i out ≡ map part_letter (take k (drop i (parts_of (start t) (goal t) r))) ++ drop k out
  pub sized : length (parts_writes t r i out) ≡ length out

pub parts_answered : (t : List ℕ) (r i : ℕ) (out : List ℕ) {k : ℕ} → parts_answer t r i out ≡ answer k → PartsAnswered t r i out k
unfolding parts_answer parts_writes
parts_answered t r i out {k} e =
    let (passed, same) = then_answered (list_check t r i (length out) 1) _ (sym (list_first t r i (length out) 1 _) ∙ e) in
    let l = list_passed t r i (length out) 1 passed in
    let count : min (length_of t - i) (length out) ≡ k = cc in
    let parts = parts_of (start t) (goal t) r in
    let long : length parts ≡ length_of t = parts_long t r l.routed in
    let size : length (map part_letter (take k (drop i parts))) ≡ k =
    omega (arith, length-map (take k (drop i parts)) part_letter, length-take k (drop i parts), length-drop i parts) in
    let room : k ≤ length out = omega arith in
    record {
      routed = l.routed;
      index = l.index;
      count = sym count;
      room = room;
      wrote = rw (e, size);
      sized = rw (e, size) (joined_size (map part_letter (take k (drop i parts))) out k size room);
    }

module _ (t : List ℕ) (r i : ℕ) (out : List ℕ) where
  -- What cannot be opened for the list is refused, and the buffer is as it stood.
  pub unlisted : {k : ℕ} → refused k ≡ list_answer t r i (length out) 1 → (refused k ≡ parts_answer t r i out) × (out ≡ parts_writes t r i out)
  unlisted e = let no = parts_refuses t r i out e in (sym no, sym (parts_kept t r i out no))

  -- What is opened for it has as many letters, and they are written.
  pub listed : {o : Opening} → answer o ≡ list_answer t r i (length out) 1
      → (answer (min (shortest o.plan - i) (length out)) ≡ parts_answer t r i out)
      × (map part_letter (take (min (shortest o.plan - i) (length out)) (drop i (parts_of o.start o.goal o.route)))
      ++ drop (min (shortest o.plan - i) (length out)) out ≡ parts_writes t r i out)
  listed e =
      let o = list_opened t r i (length out) 1 e in
      let yes = parts_accepts t r i out o.listed in
      rw (o.plan, o.from, o.to, o.route) (sym yes, sym (parts_answered t r i out yes).wrote)
