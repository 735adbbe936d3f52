-- Checks obey the faults that they look for, one after another: the laws by which demand 1 is shown of each call. Before them, laws of
-- tests and the facts that they find.
use Prim.Native.Nat.{ℕ}
use mathlib.Core.Bool.{Bool, true, false, not, ◌||◌, true≢false, false≢true}
use mathlib.Core.List.{List, [], ◌∷◌, ◌++◌}
use mathlib.Core.Logic.{◌⊎◌, inl, inr, ◌↔◌}
use mathlib.Core.Path.{◌≡◌, ◌∙◌, refl, sym}
use borrow.Author.Tests.{not-true}
use Rattle.board.specs.Fault.{Fault, fault, First, Faultless, Obeys}
use Rattle.board.specs.Reply.{Reply, refused, answer, ◌>>◌, Check, pass, check}
use Rattle.board.proofs.Replies.{refused_answer}

-- A test fails exactly where the fact that it finds does not hold.
pub fails : (test : Bool) {P : Type 0} → (test ≡ true) ↔ P → (test ≡ false) ↔ (¬ P)
fails true found = ((λ e. absurd (true≢false e)), λ n. absurd (n (found.0 refl)))
fails false found = ((λ e h. false≢true (found.1 h)), λ n. refl)

-- So its negation passes exactly there.
pub negated : (test : Bool) {P : Type 0} → (test ≡ true) ↔ P → (not test ≡ true) ↔ (¬ P)
negated test found =
    let (fails_there, there-fails) = fails test found in
    ((λ e. fails_there (not-true test e)), λ n. rw (there-fails n))

-- One of two tests passes exactly where one of two facts holds.
pub either : (a b : Bool) {P Q : Type 0} → (a ≡ true) ↔ P → (b ≡ true) ↔ Q → ((a || b) ≡ true) ↔ (P ⊎ Q)
either true b p q = ((λ e. inl (p.0 refl)), λ s. refl)
either false b p q = (
  (λ e. inr (q.0 e)),
  λ s. elim s [ inl h ↦ absurd (true≢false (sym (p.1 h))) | inr h ↦ q.1 h ],
)

-- A value obeys no faults.
pub answer_obeys : {A : Type 0} (a : A) → Obeys [] (answer a)
answer_obeys a = record { refuses = λ k. ((λ e. refused_answer (sym e)), λ f. absurd f); answers = λ none. (a, refl) }

-- A check obeys the fault that its test finds.
pub check_obeys : {P : Type 0} (test : Bool) (k : ℕ) → (test ≡ true) ↔ P → Obeys (fault k P ∷ []) (check test k)
check_obeys true k found =
    record {
      refuses = λ j. ((λ e. inl (found.0 refl, cc)), λ f. elim f [ inl h ↦ cc | inr h ↦ absurd h.1 ]);
      answers = λ none. absurd (none.0 (found.0 refl));
    }
check_obeys false k found =
    record {
      refuses = λ j. ((λ e. absurd (refused_answer (sym e))), λ f. elim f [ inl h ↦ absurd (false≢true (found.1 h.0)) | inr h ↦ absurd h.1 ]);
      answers = λ none. (tt, refl);
    }

-- A first fault and no fault do not go together.
first_none : (fs : List Fault) (k : ℕ) → First fs k → Faultless fs → ⊥
first_none [] k f none = f
first_none (f ∷ fs) k (inl h) none = none.0 h.0
first_none (f ∷ fs) k (inr h) none = first_none fs k h.1 none.1

-- Where no number is the first, there is no fault.
never_first : (fs : List Fault) → ((k : ℕ) → ¬ First fs k) → Faultless fs
never_first [] never = tt
never_first (f ∷ fs) never =
    let clear : ¬ f.there = λ h. never f.number (inl (h, refl)) in
    (clear, never_first fs (λ k h. never k (inr (clear, h))))

-- A value has no fault.
pub answered_faultless : {A : Type 0} {fs : List Fault} {r : Reply A} {a : A} → Obeys fs r → r ≡ answer a → Faultless fs
answered_faultless {fs = fs} o e = never_first fs (λ k f. refused_answer (sym ((o.refuses k).1 f) ∙ e))

-- The first of two lists of faults is in the first list, or in the second where the first has none.
first_append : (fs gs : List Fault) (k : ℕ) → First (fs ++ gs) k → First fs k ⊎ (Faultless fs × First gs k)
first_append [] gs k h = inr (tt, h)
first_append (f ∷ fs) gs k (inl h) = inl (inl h)
first_append (f ∷ fs) gs k (inr h) =
    elim (first_append fs gs k h.1) [ inl a ↦ inl (inr (h.0, a)) | inr b ↦ inr ((h.0, b.0), b.1) ]

append_first : (fs gs : List Fault) (k : ℕ) → First fs k → First (fs ++ gs) k
append_first [] gs k h = absurd h
append_first (f ∷ fs) gs k (inl h) = inl h
append_first (f ∷ fs) gs k (inr h) = inr (h.0, append_first fs gs k h.1)

append_second : (fs gs : List Fault) (k : ℕ) → Faultless fs → First gs k → First (fs ++ gs) k
append_second [] gs k none h = h
append_second (f ∷ fs) gs k none h = inr (none.0, append_second fs gs k none.1 h)

-- Two lists of which together no fault is there have none each.
faultless_append : (fs gs : List Fault) → Faultless (fs ++ gs) → Faultless fs × Faultless gs
faultless_append [] gs none = (tt, none)
faultless_append (f ∷ fs) gs none = let (a, b) = faultless_append fs gs none.1 in ((none.0, a), b)

-- One check after another obeys the faults of both; what follows has to obey its own only where the check passes.
pub passed_obeys : {A : Type 0} {fs gs : List Fault} {v : Check} {r : Reply A} → Obeys fs v → (v ≡ pass → Obeys gs r) → Obeys (fs ++ gs) (v >> r)
passed_obeys {A} {fs} {gs} {v} {r} a b = by v a b
  where
    by : (v : Check) → Obeys fs v → (v ≡ pass → Obeys gs r) → Obeys (fs ++ gs) (v >> r)
    by (refused j) a b =
        let here : First fs j = (a.refuses j).0 refl in
        record {
          refuses = λ k. (
            (λ e. append_first fs gs k (let same : j ≡ k = cc in (a.refuses k).0 (λ i. refused (same i)))),
            λ f. elim (first_append fs gs k f) [
              | inl h ↦ let same : ◌≡◌ {A = Check} (refused j) (refused k) = (a.refuses k).1 h in cc
              | inr h ↦ absurd (first_none fs j here h.0)
            ],
          );
          answers = λ none. absurd (first_none fs j here (faultless_append fs gs none).0);
        }
    by (answer u) a b =
        let never : (k : ℕ) → ¬ First fs k = λ k f. refused_answer (sym ((a.refuses k).1 f)) in
        let clear : Faultless fs = never_first fs never in
        record {
          refuses = λ k. (
            (λ e. append_second fs gs k clear (((b refl).refuses k).0 e)),
            λ f. elim (first_append fs gs k f) [ inl h ↦ absurd (never k h) | inr h ↦ ((b refl).refuses k).1 h.1 ],
          );
          answers = λ none. (b refl).answers (faultless_append fs gs none).1;
        }

pub then_obeys : {A : Type 0} {fs gs : List Fault} {v : Check} {r : Reply A} → Obeys fs v → Obeys gs r → Obeys (fs ++ gs) (v >> r)
then_obeys a b = passed_obeys a (λ passed. b)
