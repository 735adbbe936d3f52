-- Laws of lists of moves: the tests find what they look for.
use Prim.Native.Nat.{ℕ}
use mathlib.Core.Bool.{Bool, true, false, not, ◌&&◌, ◌||◌, and-eq-true_iff, true≢false, false≢true}
use mathlib.Core.List.{List, [], ◌∷◌, ◌++◌}
use mathlib.Core.Logic.{◌↔◌}
use mathlib.Core.Path.{◌≡◌, ◌∙◌, refl, sym}
use borrow.Author.Tests.{ltb-true, lt-ltb, not-true}
use lib.Dec.{ltb}
use lib.ListN.{length}
use Rattle.board.specs.Fewest.{legal, fewest}
use Rattle.board.specs.Move.{Move, Legal, Leads, done, next, moved}
use Rattle.board.proofs.Obeys.{fails, either}
use Rattle.board.proofs.Search.{same_sound, same_refl, legal_sound, legal_complete}
use Rattle.checker.specs.Faults.{Illegal, NotShortest}
use Rattle.checker.specs.Moves.{legal_move, all_legal, leads_to}

-- A move passes the test exactly where it is legal.
legal_exactly : (p : List ℕ) (m : Move) → (legal_move p m ≡ true) ↔ Legal p m
unfolding legal_move
legal_exactly p m = (
  (λ e.
      let (pegs, rest) = (and-eq-true_iff (ltb m.from 3 && ltb m.to 3) (legal p m)).0 e in
      let (from, to) = (and-eq-true_iff (ltb m.from 3) (ltb m.to 3)).0 pegs in
      legal_sound p m (ltb-true _ _ from) (ltb-true _ _ to) rest),
  λ l. rw (lt-ltb _ _ l.from_peg, lt-ltb _ _ l.to_peg) (legal_complete p m l),
)

-- A move that is not legal fails it.
legal_fails : (p : List ℕ) (m : Move) → ¬ Legal p m → legal_move p m ≡ false
legal_fails p m n = (fails (legal_move p m) (legal_exactly p m)).1 n

-- A list of moves that passes the test leads.
test_leads : (p : List ℕ) (ms : List Move) (q : List ℕ) → leads_to p ms q ≡ true → Leads p ms q
unfolding leads_to
test_leads p [] q e = rw (same_sound p q e) done
test_leads p (m ∷ ms) q e =
    let (one, rest) = (and-eq-true_iff (legal_move p m) (leads_to (moved p m) ms q)).0 e in
    next ((legal_exactly p m).0 one) (test_leads (moved p m) ms q rest)

-- One that leads passes it.
leads_test : {p q : List ℕ} {ms : List Move} → Leads p ms q → leads_to p ms q ≡ true
unfolding leads_to
leads_test (done {p = p}) = same_refl p
leads_test (next {p = p} {m = m} l w) = rw ((legal_exactly p m).1 l) (leads_test w)

leads_exactly : (p : List ℕ) (ms : List Move) (q : List ℕ) → (leads_to p ms q ≡ true) ↔ Leads p ms q
leads_exactly p ms q = (test_leads p ms q, leads_test)

-- A list that leads has only moves that are legal at their turn.
leads_legal : {p q : List ℕ} {ms : List Move} → Leads p ms q → all_legal p ms ≡ true
unfolding all_legal
leads_legal done = refl
leads_legal (next {p = p} {m = m} l w) = rw ((legal_exactly p m).1 l) (leads_legal w)

-- A move that is not legal at its turn fails the test of the whole list.
illegal_fails : {p q : List ℕ} {before : List Move} (m : Move) (after : List Move) → Leads p before q → ¬ Legal q m
    → all_legal p (before ++ (m ∷ after)) ≡ false
unfolding all_legal
illegal_fails m after (done {p = p}) n = rw (legal_fails p m n)
illegal_fails m after (next {p = p} {m = k} l w) n = rw ((legal_exactly p k).1 l) (illegal_fails m after w n)

-- A list that fails the test has such a move.
legal_wrong : (p : List ℕ) (ms : List Move) → all_legal p ms ≡ false → Illegal p ms
unfolding all_legal
legal_wrong p [] e = absurd (true≢false e)
legal_wrong p (m ∷ ms) e = at (legal_move p m) refl (λ one. legal_wrong (moved p m) ms (sym (rw one) ∙ e))
  where
    at : (b : Bool) → legal_move p m ≡ b → (legal_move p m ≡ true → Illegal (moved p m) ms) → Illegal p (m ∷ ms)
    at true one rest =
        let f = rest one in
        record {
          before = m ∷ f.before;
          move = f.move;
          after = f.after;
          split = λ i. m ∷ f.split i;
          position = f.position;
          turn = next ((legal_exactly p m).0 one) f.turn;
          wrong = f.wrong;
        }
    at false one rest =
        record {
          before = [];
          move = m;
          after = ms;
          split = refl;
          position = p;
          turn = done;
          wrong = λ l. false≢true (sym one ∙ (legal_exactly p m).1 l);
        }

-- The test of 15 finds a move that is not legal at its turn.
pub illegal_exactly : (p : List ℕ) (ms : List Move) → (not (all_legal p ms) ≡ true) ↔ Illegal p ms
illegal_exactly p ms = (
  (λ e. legal_wrong p ms (not-true (all_legal p ms) e)),
  λ f. let failed : all_legal p ms ≡ false = rw f.split (illegal_fails f.move f.after f.turn f.wrong) in rw failed,
)

-- A list that leads has no such move.
pub leads_clear : {p q : List ℕ} {ms : List Move} → Leads p ms q → ¬ Illegal p ms
leads_clear {p} {q} {ms} w f = false≢true (sym (rw (leads_legal w)) ∙ (illegal_exactly p ms).1 f)

-- A negated test finds that the fact does not hold.
not_exactly : (test : Bool) {P : Type 0} → (test ≡ true) ↔ P → (not test ≡ true) ↔ (¬ P)
not_exactly test found =
    let (none, fail) = fails test found in
    ((λ e. none (not-true test e)), λ n. let failed = fail n in rw failed)

-- The test of 16 finds that the list does not lead to q, or is longer than the fewest.
pub shortest_exactly : (p : List ℕ) (ms : List Move) (q : List ℕ)
    → ((not (leads_to p ms q) || ltb (fewest p q) (length ms)) ≡ true) ↔ NotShortest p ms q
shortest_exactly p ms q =
    either (not (leads_to p ms q)) (ltb (fewest p q) (length ms)) (not_exactly (leads_to p ms q) (leads_exactly p ms q))
    (ltb-true (fewest p q) (length ms), lt-ltb (fewest p q) (length ms))

-- A list that is not said not to lead does lead.
pub leads_stable : (p : List ℕ) (ms : List Move) (q : List ℕ) → ¬ ¬ Leads p ms q → Leads p ms q
leads_stable p ms q n = at (leads_to p ms q) refl
  where
    at : (b : Bool) → leads_to p ms q ≡ b → Leads p ms q
    at true e = (leads_exactly p ms q).0 e
    at false e = absurd (n ((fails (leads_to p ms q) (leads_exactly p ms q)).0 e))
