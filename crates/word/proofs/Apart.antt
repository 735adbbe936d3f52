-- A word tells its reply: no answer is taken for a refusal, nor one refusal for another.
use Prim.Native.Nat.{ℕ, ◌≤◌, ◌<◌, ◌^◌}
use mathlib.Core.List.{List, [], ◌∷◌}
use mathlib.Core.Logic.{inl, inr}
use mathlib.Core.Path.{◌≡◌, refl, sym}
use native.Mathlib.Omega.{arith}
use Rattle.board.specs.Fault.{Fault, First, task_faults}
use Rattle.board.specs.Refusal.{number}
use Rattle.board.specs.Reply.{Reply, refused, answer}
use Rattle.board.specs.Task.{limit}
use Rattle.board.specs.declared.refusal.Refusal.{Refusal}
use Rattle.board.specs.declared.refusal.Refusal.TheVariants as refusal
use Rattle.board.proofs.Replies.{refused_answer, made_refused, made_answered}
use Rattle.plan.specs.Answer.{plan_answer}
use Rattle.plan.specs.Plan.{shortest}
use Rattle.plan.proofs.Calls.{plan_obeys, plan_answered}
use Rattle.plan.proofs.Sound.{task_ends, ends_fit}
use Rattle.word.specs.Words.{word, shortest_reply, shortest_word, last_number, Tells}

-- The refusals have numbers from 1 to 20.
pub number_between : (r : Refusal) → (1 ≤ number r) × (number r ≤ last_number)
number_between refusal.OddLength = omega arith
number_between refusal.TooManyDiscs = omega arith
number_between refusal.NotAPeg = omega arith
number_between refusal.NoSuchRoute = omega arith
number_between refusal.NoSuchIndex = omega arith
number_between refusal.ShortBuffer = omega arith
number_between refusal.WrongSize = omega arith
number_between refusal.NoDisc = omega arith
number_between refusal.SmallerInTheWay = omega arith
number_between refusal.UnsoundRecord = omega arith
number_between refusal.TooManyPlays = omega arith
number_between refusal.BadText = omega arith
number_between refusal.NotWholeTasks = omega arith
number_between refusal.NotLetterPairs = omega arith
number_between refusal.IllegalMove = omega arith
number_between refusal.NotShortest = omega arith
number_between refusal.EmptyTower = omega arith
number_between refusal.TooLargeToTotal = omega arith

-- All numbers of a list of faults are among them.
abbrev pub Numbered : List Fault → Type 0
Numbered [] = Unit {0}
Numbered (f ∷ fs) = (1 ≤ f.number) × (f.number ≤ last_number) × Numbered fs

-- So the number of the first fault is.
pub first_numbered : (fs : List Fault) (k : ℕ) → Numbered fs → First fs k → (1 ≤ k) × (k ≤ last_number)
first_numbered [] k n h = absurd h
first_numbered (f ∷ fs) k n (inl h) = omega (arith, h.1)
first_numbered (f ∷ fs) k n (inr h) = first_numbered fs k n.2 h.1

-- A reply whose refusals have such numbers and whose answers are below 2 ^ 60 is told by its word.
pub word_tells : (r : Reply ℕ) → ((k : ℕ) → r ≡ refused k → (1 ≤ k) × (k ≤ last_number)) → ((n : ℕ) → r ≡ answer n → n < 2 ^ limit) → Tells (word r) r
word_tells (refused j) numbers small =
    let mine = numbers j refl in
    record {
      numbered = numbers;
      refuses = λ k low high. ((λ e. let same : j ≡ k = omega arith in λ i. refused (same i)), λ e. let same : j ≡ k = cc in rw same);
      answers = λ n e. absurd (refused_answer e);
    }
word_tells (answer m) numbers small =
    let mine = small m refl in
    record {
      numbered = numbers;
      refuses = λ k low high. ((λ e. absurd (omega arith)), λ e. absurd (refused_answer (sym e)));
      answers = λ n e. let same : m ≡ n = cc in (same, small n e);
    }

-- What Plan refuses has such a number.
pub plan_numbers : (t : List ℕ) (k : ℕ) → plan_answer t ≡ refused k → (1 ≤ k) × (k ≤ last_number)
plan_numbers t k e = first_numbered (task_faults t) k (omega arith) (((plan_obeys t).refuses k).0 e)

-- The shortest length.
pub shortest_tells : (t : List ℕ) → Tells (shortest_word t) (shortest_reply t)
shortest_tells t =
    word_tells (shortest_reply t) (λ k e. plan_numbers t k (made_refused (plan_answer t) shortest e))
    (λ n e. let (p, answered, same) = made_answered (plan_answer t) shortest e in
    let o = plan_answered t answered in
    rw (← same, ← o.plan) (ends_fit (task_ends o.sound)))
