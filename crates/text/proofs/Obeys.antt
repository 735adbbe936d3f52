-- Demand 1 of the task program: it refuses as its faults say, and never else.
use Prim.Native.Nat.{ℕ, ◌<◌}
use mathlib.Core.Bool.{Bool, true, false, not, false≢true}
use mathlib.Core.List.{List, ◌++◌}
use mathlib.Core.Logic.{◌≢◌, ◌↔◌}
use mathlib.Core.Path.{◌≡◌, refl, sym, ◌∙◌}
use borrow.Author.Tests.{eqb-false, ne_eqb, ltb-true, lt-ltb, not-true, not-false}
use lib.Dec.{eqb}
use lib.ListN.{length}
use Rattle.board.specs.Fault.{AboveTwo, Obeys}
use Rattle.board.specs.Task.{limit}
use Rattle.board.proofs.Formed.{not_formed}
use Rattle.board.proofs.Obeys.{answer_obeys, check_obeys, passed_obeys, then_obeys}
use Rattle.board.proofs.Replies.{check_passed}
use Rattle.text.specs.Answer.{text_answer}
use Rattle.text.specs.Faults.{text_faults}
use Rattle.text.specs.Input.{Text}
use Rattle.text.specs.Reading.{is_text, start_in, goal_in}
use Rattle.text.proofs.Grammar.{text_read, read_text}

-- The test fails exactly on what is no text.
no_text : (b : List ℕ) → (not (is_text b) ≡ true) ↔ (¬ ((s : List ℕ) × (t : List ℕ) × Text b s t))
no_text b = (
  (λ e (s, t, x). false≢true (sym (not-true (is_text b) e) ∙ (text_read b s t x).0)),
  λ none. by (is_text b) refl none,
)
  where
    by : (is : Bool) → is_text b ≡ is → ¬ ((s : List ℕ) × (t : List ℕ) × Text b s t) → not is ≡ true
    by true e none = absurd (none (start_in b, goal_in b, read_text b e))
    by false e none = refl

-- Of a text, a fact of the positions read is a fact of its positions.
read_fact : (b : List ℕ) (P : List ℕ → List ℕ → Type 0) → is_text b ≡ true → P (start_in b) (goal_in b) ↔ ((s : List ℕ) × (t : List ℕ) × Text b s t × P s t)
read_fact b P h = (
  (λ p. (start_in b, goal_in b, read_text b h, p)),
  λ (s, t, x, p). let (_, first, second) = text_read b s t x in rw (first, second) p,
)

-- Two tests agree where one is made of the other.
through : {A B C : Type 0} → A ↔ B → B ↔ C → A ↔ C
through f g = ((λ a. g.0 (f.0 a)), λ c. f.1 (g.1 c))

-- It refuses as its faults say: those after 12 are found on the positions read.
pub text_obeys : (b : List ℕ) → Obeys (text_faults b) (text_answer b)
unfolding text_answer
text_obeys b =
    passed_obeys (check_obeys (not (is_text b)) 12 (no_text b)) (λ passed.
    let is : is_text b ≡ true = not-false (is_text b) (check_passed (not (is_text b)) 12 passed) in
    let differ : (not (eqb (length (start_in b)) (length (goal_in b))) ≡ true) ↔ (length (start_in b) ≢ length (goal_in b)) =
    ((λ e. eqb-false _ _ (not-true _ e)), λ n. rw (ne_eqb _ _ n)) in
    then_obeys (check_obeys _ 1 (through differ (read_fact b (λ s t. length s ≢ length t) is)))
    (then_obeys (check_obeys _ 2 (through (ltb-true _ _, lt-ltb _ _) (read_fact b (λ s t. limit < length s) is)))
    (then_obeys (check_obeys _ 3 (through (not_formed (start_in b ++ goal_in b)) (read_fact b (λ s t. AboveTwo (s ++ t)) is)))
    (answer_obeys _))))
