-- The search of `fewest` is right.
use Prim.Native.Nat.{ℕ, zero, suc, ◌+◌, ◌≤◌, ◌<◌, ◌^◌}
use mathlib.Core.Path.{◌≡◌, refl, sym, ap, ◌∙◌}
use mathlib.Core.Bool.{Bool, true, false, not, ◌||◌, and-eq-true_iff, false≢true, or-true}
use mathlib.Core.List.{List, [], ◌∷◌}
use mathlib.Core.Logic.{◌≢◌}
use native.Mathlib.Omega.{arith}
use borrow.Author.Tests.{ne_eqb, eqb-false, not-true, ltb-true, lt-ltb}
use lib.Dec.{eqb, ltb}
use lib.ListN.{length}
use Rattle.std.proofs.Common.{Decides}
use Rattle.std.proofs.lemmas.Bool.{false_from_ne_true}
use Rattle.std.proofs.lemmas.Bool.Decides.{same_from_decides}
use Rattle.std.proofs.lemmas.Slice.Eq.{bytes_eq-Decides, compares_Decides}
use Rattle.std.specs.Str.{bytes_eq}
use Rattle.board.specs.Move.{Move, Legal, Leads, done, next, top, moved}
use Rattle.board.specs.Fewest.{Fewest, same, legal, any_peg, reaches, first, fewest}

-- Two positions pass the test exactly where they are the same.
pub same_decides : (p q : List ℕ) → Decides (same p q) (p ≡ q)
unfolding same
same_decides = compares_Decides same (record { empty = refl; shorter = λ c q. refl; longer = λ b p. refl; heads = λ b c p q. refl })

-- So the test is that of `==`.
pub same_each : (p q : List ℕ) → same p q ≡ bytes_eq p q
same_each p q = same_from_decides (same p q) _ (same_decides p q) (bytes_eq-Decides p q)

-- Two positions that pass the test are the same.
pub same_sound : (p q : List ℕ) → same p q ≡ true → p ≡ q
same_sound p q = (same_decides p q).0

-- A position passes the test against itself.
pub same_refl : (p : List ℕ) → same p p ≡ true
same_refl p = (same_decides p p).1 refl

-- Two positions that differ fail it.
pub same_apart : (p q : List ℕ) → p ≢ q → same p q ≡ false
same_apart p q n = false_from_ne_true _ (λ e. n (same_sound p q e))

-- A move between pegs that passes the test is legal.
pub legal_sound : (p : List ℕ) (m : Move) → m.from < 3 → m.to < 3 → legal p m ≡ true → Legal p m
unfolding legal
legal_sound p m hf ht e =
    let both = (and-eq-true_iff (not (eqb m.from m.to)) _).0 e in
    let rest = (and-eq-true_iff (ltb (top p m.from) (length p)) _).0 both.1 in
    record {
      from_peg = hf;
      to_peg = ht;
      apart = eqb-false _ _ (not-true _ both.0);
      there = ltb-true _ _ rest.0;
      clear = ltb-true _ _ rest.1;
    }

-- A legal move passes the test.
pub legal_complete : (p : List ℕ) (m : Move) → Legal p m → legal p m ≡ true
unfolding legal
legal_complete p m l = rw (ne_eqb _ _ l.apart, lt-ltb _ _ l.there, lt-ltb _ _ l.clear)

-- A test that passes at some peg passes at a number below 3.
pub any_peg_sound : (f : ℕ → Bool) → any_peg f ≡ true → (i : ℕ) × (i < 3) × (f i ≡ true)
unfolding any_peg
any_peg_sound f = at (f 0) (f 1) (f 2) refl refl refl
  where
    at : (a b c : Bool) → f 0 ≡ a → f 1 ≡ b → f 2 ≡ c → (a || (b || c)) ≡ true → (i : ℕ) × (i < 3) × (f i ≡ true)
    at true b c h₀ h₁ h₂ e = (0, omega arith, h₀)
    at false true c h₀ h₁ h₂ e = (1, omega arith, h₁)
    at false false c h₀ h₁ h₂ e = (2, omega arith, h₂ ∙ e)

-- A test that passes at a number below 3 passes at some peg.
pub any_peg_complete : (f : ℕ → Bool) (i : ℕ) → i < 3 → f i ≡ true → any_peg f ≡ true
unfolding any_peg
any_peg_complete f zero h e = rw e
any_peg_complete f (suc zero) h e = simp (e, or-true)
any_peg_complete f (suc (suc zero)) h e = simp (e, or-true)
any_peg_complete f (suc (suc (suc i))) h e = absurd (omega arith)

-- Where the search says that k moves reach q, there are such moves.
pub reaches_leads : (k : ℕ) (p q : List ℕ) → reaches k p q ≡ true → (ms : List Move) × Leads p ms q × (length ms ≡ k)
unfolding reaches
reaches_leads zero p q e = ([], rw (same_sound p q e) done, refl)
reaches_leads (suc k) p q e =
    let (i, hi, ei) = any_peg_sound _ e in
    let (j, hj, ej) = any_peg_sound _ ei in
    let m : Move = record { from = i; to = j } in
    let both = (and-eq-true_iff (legal p m) (reaches k (moved p m) q)).0 ej in
    let (ms, w, n) = reaches_leads k (moved p m) q both.1 in
    (m ∷ ms, next (legal_sound p m hi hj both.0) w, ap suc n)

-- Where a list of moves leads to q, the search says so of its length.
pub leads_reaches : {p q : List ℕ} {ms : List Move} → Leads p ms q → reaches (length ms) p q ≡ true
unfolding reaches
leads_reaches (done {p = p}) = same_refl p
leads_reaches (next {p = p} {m = m} l w) =
    any_peg_complete _ m.from l.from_peg (any_peg_complete _ m.to l.to_peg (rw (legal_complete p m l) (leads_reaches w)))

-- The first number from k on that passes the test is n, where n is the least that passes and the fuel lasts up to it.
pub first_found :
    (fuel : ℕ) (f : ℕ → Bool) (k n : ℕ) → k ≤ n → n < k + fuel → f n ≡ true → ((j : ℕ) → f j ≡ true → n ≤ j) → first fuel f k ≡ n
unfolding first
first_found zero f k n h lt e least = omega arith
first_found (suc fuel) f k n h lt e least = at (f k) refl (λ h'. first_found fuel f (suc k) n h' (omega arith) e least)
  where
    at : (b : Bool) → f k ≡ b → (k < n → first fuel f (suc k) ≡ n) → elim b [ true ↦ k | false ↦ first fuel f (suc k) ] ≡ n
    at true here after = omega (arith, least k here)
    at false here after = let apart : k ≢ n = λ c. false≢true (sym here ∙ ap f c ∙ e) in after (omega arith)

-- The search finds the fewest number of moves, where that is below the number of positions.
pub fewest_found : (p q : List ℕ) (k : ℕ) → Fewest p q k → k < 3 ^ length p → fewest p q ≡ k
unfolding fewest
fewest_found p q k f h =
    first_found (3 ^ length p) (λ j. reaches j p q) 0 k (omega arith) (omega arith) found least
  where
    found : reaches k p q ≡ true
    found = rw f.some.2 at (leads_reaches f.some.1)

    least : (j : ℕ) → reaches j p q ≡ true → k ≤ j
    least j e = let (ms, w, n) = reaches_leads j p q e in omega (arith, f.least ms w)
