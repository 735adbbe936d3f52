-- What Batch answers, and when: the laws for whoever calls it.
use Prim.Native.Nat.{ℕ, ◌*◌, ◌≤◌}
use mathlib.Core.Bool.{not}
use mathlib.Core.List.{List, ◌++◌}
use mathlib.Core.Path.{◌≡◌, sym}
use native.Mathlib.Omega.{arith}
use borrow.Author.Tests.{eqb-true, ltb-true, ltb-false, lt-ltb, not-false}
use lib.Dec.{eqb, ltb}
use lib.ListN.{length, drop, length-append, length-drop}
use Rattle.board.specs.Fault.{Faultless, Obeys}
use Rattle.board.specs.Reply.{refused, answer}
use Rattle.board.specs.Task.{limit}
use Rattle.board.proofs.Obeys.{answer_obeys, check_obeys, then_obeys}
use Rattle.board.proofs.Replies.{check_answered}
use Rattle.word.specs.Words.{shortest_word}
use Rattle.batch.specs.Answer.{batch_answer, batch_writes}
use Rattle.batch.specs.Faults.{batch_faults}
use Rattle.batch.specs.Tasks.{tasks_in, entries_of}
use Rattle.batch.proofs.Cuts.{cut_length, not_covered}

-- Demand 1: Batch is refused as its faults say and never else, and a refusal leaves the buffer as it stood.
pub batch_obeys : (n : ℕ) (b out : List ℕ) → Obeys (batch_faults n b out) (batch_answer n b out)
unfolding batch_answer
batch_obeys n b out =
    then_obeys (check_obeys (ltb limit n) 2 (ltb-true limit n, lt-ltb limit n))
    (then_obeys (check_obeys (not (eqb (tasks_in n (length b) * (2 * n)) (length b))) 13 (not_covered n b))
    (then_obeys (check_obeys (ltb (length out) (tasks_in n (length b))) 6 (ltb-true (length out) (tasks_in n (length b)), lt-ltb (length out) (tasks_in n (length b))))
    (answer_obeys _)))

pub batch_kept : (n : ℕ) (b out : List ℕ) {k : ℕ} → batch_answer n b out ≡ refused k → batch_writes n b out ≡ out
unfolding batch_writes
batch_kept n b out e = rw e

-- An answered Batch: the tasks are of at most `limit` discs and make up the whole buffer, and their entries, which fit, come before what
-- the buffer had.
pub record BatchAnswered (n : ℕ) (b out : List ℕ) (k : ℕ) : Type 0 where
  pub within : n ≤ limit
  pub count : tasks_in n (length b) ≡ k
  pub whole : length b ≡ k * (2 * n)
  pub room : k ≤ length out
  pub wrote : batch_writes n b out ≡ entries_of n b ++ drop k out
  pub sized : length (batch_writes n b out) ≡ length out

pub batch_answered : (n : ℕ) (b out : List ℕ) {k : ℕ} → batch_answer n b out ≡ answer k → BatchAnswered n b out k
unfolding batch_answer batch_writes
batch_answered n b out {k} e =
    let (few, rest) = check_answered (ltb limit n) 2 _ e in
    let (covered, last) = check_answered (not (eqb (tasks_in n (length b) * (2 * n)) (length b))) 13 _ rest in
    let (fits, same) = check_answered (ltb (length out) (tasks_in n (length b))) 6 _ last in
    let count : tasks_in n (length b) ≡ k = cc in
    let whole = eqb-true (tasks_in n (length b) * (2 * n)) (length b) (not-false _ covered) in
    let room = ltb-false (length out) (tasks_in n (length b)) fits in
    let size = cut_length shortest_word (2 * n) (tasks_in n (length b)) b in
    let wrote : batch_writes n b out ≡ entries_of n b ++ drop k out = rw (e, size, count) in
    record {
      within = ltb-false limit n few;
      count = count;
      whole = rw (← count) (sym whole);
      room = rw (← count) room;
      wrote = wrote;
      sized = rw wrote (omega (arith, length-append (entries_of n b) (drop k out), length-drop k out, size, count, room));
    }

-- Without a fault it answers how many tasks there are.
pub batch_accepts : (n : ℕ) (b out : List ℕ) → Faultless (batch_faults n b out) → batch_answer n b out ≡ answer (tasks_in n (length b))
batch_accepts n b out none =
    let (k, answered) = (batch_obeys n b out).answers none in
    rw (batch_answered n b out answered).count answered

-- Which bytes there are is nothing to the reply, only how many.
pub batch_by_length : (n : ℕ) (b c out : List ℕ) → length c ≡ length b → batch_answer n c out ≡ batch_answer n b out
unfolding batch_answer
batch_by_length n b c out e = rw e
