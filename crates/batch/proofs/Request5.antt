-- Request 5 holds of every call of Batch without faults.
use Prim.Native.Nat.{ℕ, ◌+◌, ◌*◌, ◌-◌, ◌<◌, ◌≤◌, ◌^◌}
use mathlib.Core.List.{List}
use mathlib.Core.Logic.{◌≢◌, inl, inr}
use mathlib.Core.Path.{◌≡◌, ◌∙◌, refl, sym, ap}
use native.Mathlib.Decide.{dec_lt}
use native.Mathlib.Omega.{arith}
use lib.ListN.{length, take, drop, get_or, get_or-append, length-take, length-drop}
use lib.Seq.{drop_at, get_or-drop}
use Rattle.board.specs.Fault.{AboveTwo, Faultless, task_faults}
use Rattle.board.specs.Fewest.{fewest}
use Rattle.board.specs.Position.{WellFormed}
use Rattle.board.specs.Reply.{answer}
use Rattle.board.specs.Task.{limit, discs, start, goal}
use Rattle.board.proofs.Formed.{formed_pegs}
use Rattle.plan.proofs.Calls.{plan_obeys, plan_accepts, plan_fewest}
use Rattle.word.specs.Words.{shortest_word}
use Rattle.batch.specs.Answer.{batch_answer, batch_writes}
use Rattle.batch.specs.Faults.{batch_faults}
use Rattle.batch.specs.Request5.{task_at, entry_at, Beside, Request5}
use Rattle.batch.specs.Tasks.{tasks_in, entries_of}
use Rattle.batch.proofs.Calls.{BatchAnswered, batch_answered, batch_accepts, batch_by_length}
use Rattle.batch.proofs.Cuts.{piece_within, cut_at, cut_length}

module _ {n : ℕ} {b out : List ℕ} {k : ℕ} (o : BatchAnswered n b out k) where
  -- Every task has 2n bytes.
  task_long : (i : ℕ) → i < k → length (task_at n b i) ≡ 2 * n
  task_long i h =
      let ends : 2 * n * i + 2 * n ≤ length b = rw o.whole (piece_within (2 * n) i k h) in
      omega (arith, length-take (2 * n) (drop (2 * n * i) b), length-drop (2 * n * i) b, ends)

  -- Its entry is that of the single call.
  entry : (i : ℕ) → i < k → entry_at n b out i ≡ shortest_word (task_at n b i)
  entry i h =
      let count : tasks_in n (length b) ≡ k = o.count in
      let inside : i < length (entries_of n b) = omega (arith, cut_length shortest_word (2 * n) (tasks_in n (length b)) b) in
      ap (λ (l : List ℕ). get_or l i 0) o.wrote ∙ get_or-append (entries_of n b) (drop k out) 0 i inside
      ∙ cut_at shortest_word (2 * n) (tasks_in n (length b)) b i 0 (omega arith)

  -- What comes after the entries is as it was.
  stay : drop k (batch_writes n b out) ≡ drop k out
  stay = rw o.wrote (drop_at (entries_of n b) (drop k out) k (cut_length shortest_word (2 * n) (tasks_in n (length b)) b ∙ o.count))

  -- Number by number.
  beyond : (i : ℕ) → k ≤ i → entry_at n b out i ≡ get_or out i 0
  beyond i h =
      let at : k + (i - k) ≡ i = omega arith in
      rw at at (sym (get_or-drop k (batch_writes n b out) (i - k) 0) ∙ ap (λ (l : List ℕ). get_or l (i - k) 0) stay ∙ get_or-drop k out (i - k) 0)

-- A buffer of the same length: the reply is the same, and so is the entry of each task that is.
alone : {n : ℕ} {b c out : List ℕ} {k j : ℕ} → BatchAnswered n b out k → batch_answer n b out ≡ answer k → Beside n j b c
    → (batch_answer n c out ≡ answer k) × ((i : ℕ) → i ≢ j → entry_at n c out i ≡ entry_at n b out i)
alone {n} {b} {c} {out} {k} o answered beside =
    let there = batch_by_length n b c out beside.long ∙ answered in
    let other = batch_answered n c out there in (
      there,
      λ i apart. elim (dec_lt i k) [
        | yes h ↦ entry other i h ∙ ap shortest_word (beside.others i apart) ∙ sym (entry o i h)
        | no h ↦ beyond other i (omega arith) ∙ sym (beyond o i (omega arith))
      ],
    )

-- A task of n discs, all on pegs, has no fault.
task_clear : (n : ℕ) (t : List ℕ) → n ≤ limit → length t ≡ 2 * n → WellFormed t → Faultless (task_faults t)
task_clear n t few long formed =
    ((λ odd. omega arith), ((λ many. omega arith), ((λ (d, l, above). omega (arith, formed_pegs t formed d)), tt)))

-- The word of such a task is the fewest moves between its halves.
word_fewest : (n : ℕ) (t : List ℕ) → n ≤ limit → length t ≡ 2 * n → WellFormed t → shortest_word t ≡ fewest (take n t) (drop n t)
word_fewest n t few long formed =
    let half : discs t ≡ n = omega arith in
    let answered = plan_accepts t (task_clear n t few long formed) in
    let same : fewest (start t) (goal t) ≡ fewest (take n t) (drop n t) = rw half in
    rw answered (plan_fewest t answered ∙ same)

-- The word of one with a byte above 2 is 2 ^ 64 − 3.
word_bad : (n : ℕ) (t : List ℕ) → n ≤ limit → length t ≡ 2 * n → AboveTwo t → shortest_word t ≡ 2 ^ 64 - 3
word_bad n t few long above =
    rw (((plan_obeys t).refuses 3).1 (inr ((λ odd. omega arith), inr ((λ many. omega arith), inl (above, refl)))))

-- All of it together.
pub request_5 : (n : ℕ) (b out : List ℕ) → Faultless (batch_faults n b out) → Request5 n b out
request_5 n b out clear =
    let answered = batch_accepts n b out clear in
    let o = batch_answered n b out answered in
    let few = o.within in
    record {
      count = tasks_in n (length b);
      answered = answered;
      whole = o.whole;
      none = λ e. rw e;
      room = o.room;
      entry = entry o;
      fewest_moves = λ i h formed. entry o i h ∙ word_fewest n (task_at n b i) few (task_long o i h) formed;
      bad_byte = λ i h above. entry o i h ∙ word_bad n (task_at n b i) few (task_long o i h) above;
      alone = λ j c beside. alone o answered beside;
      stay = stay o;
      sized = o.sized;
    }
