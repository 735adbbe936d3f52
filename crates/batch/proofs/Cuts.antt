-- Laws of tasks laid end to end: which bytes each has, how many there are, and what one more adds.
use Prim.Native.Nat.{ℕ, zero, suc, ◌+◌, ◌*◌, ◌<◌, ◌≤◌}
use mathlib.Core.Bool.{true, not}
use mathlib.Core.List.{List, [], ◌∷◌, ◌++◌, map}
use mathlib.Core.Logic.{◌↔◌}
use mathlib.Core.Path.{◌≡◌, ◌∙◌, refl, sym, ap}
use native.Mathlib.Nat.{mul-zero, mul-suc, mul_comm, mul-le-mul_right, div-mul-le_self, div-eq_of_eq-mul_left}
use native.Mathlib.Omega.{arith}
use borrow.Author.Tests.{eqb-true, eq-eqb, not-true}
use lib.Dec.{eqb}
use lib.ListN.{length, take, drop, set, get_or}
use lib.Seq.{drop-drop}
use Rattle.board.proofs.Lists.{stored}
use Rattle.board.proofs.Obeys.{fails}
use Rattle.batch.specs.Faults.{Whole}
use Rattle.batch.specs.Tasks.{cut, tasks_in}

-- Piece i + 1 is piece i of what comes after the first.
next_piece : (size i : ℕ) (b : List ℕ) → drop (size * i) (drop size b) ≡ drop (size * suc i) b
next_piece size i b = let next : size + size * i ≡ size * suc i = omega (arith, mul-suc size i) in rw (← next) (drop-drop (size * i) size b)

-- Piece i of k lies within them.
pub piece_within : (size i k : ℕ) → i < k → size * i + size ≤ k * size
piece_within size i k h = rw (← mul-suc size i, mul_comm size (suc i)) (mul-le-mul_right size h)

module _ (f : List ℕ → ℕ) (size : ℕ) where
  -- What is made of so many pieces are so many numbers.
  pub cut_length : (k : ℕ) (b : List ℕ) → length (map f (cut size k b)) ≡ k
  unfolding cut
  cut_length zero b = refl
  cut_length (suc k) b = ap suc (cut_length k _)

  -- Number i is made of piece i.
  pub cut_at : (k : ℕ) (b : List ℕ) (i z : ℕ) → i < k → get_or (map f (cut size k b)) i z ≡ f (take size (drop (size * i) b))
  unfolding cut
  cut_at zero b i z h = absurd (omega arith)
  cut_at (suc k) b zero z h = rw (mul-zero size)
  cut_at (suc k) b (suc i) z h = rw (← next_piece size i b) (cut_at k (drop size b) i z (omega arith))

  -- One piece more puts its number at the end.
  cut_more : (k : ℕ) (b : List ℕ) → map f (cut size (suc k) b) ≡ map f (cut size k b) ++ (f (take size (drop (size * k) b)) ∷ [])
  unfolding cut
  cut_more zero b = rw (mul-zero size)
  cut_more (suc k) b = rw (← next_piece size k b) (ap (λ (l : List ℕ). f (take size b) ∷ l) (cut_more k (drop size b)))

  -- So a buffer that holds the numbers of k pieces comes to hold one more.
  pub cut_stored : (k : ℕ) (b o : List ℕ) {out : List ℕ} {v : ℕ} → k < length o → out ≡ map f (cut size k b) ++ drop k o
      → v ≡ f (take size (drop (size * k) b)) → set out k v ≡ map f (cut size (k + 1) b) ++ drop (k + 1) o
  cut_stored k b o h held piece =
      let next : k + 1 ≡ suc k = omega arith in
      let added : map f (cut size (k + 1) b) ≡ map f (cut size k b) ++ (f (take size (drop (size * k) b)) ∷ []) = rw next (cut_more k b) in
      rw (held, piece, added) (stored (map f (cut size k b)) (f (take size (drop (size * k) b)) ∷ []) o k (cut_length k b) (omega arith))

-- The tasks have no more bytes than the buffer.
pub tasks_within : (n bytes : ℕ) {k : ℕ} → k ≡ tasks_in n bytes → k * (2 * n) ≤ bytes
tasks_within zero bytes {k} e = omega (arith, mul-zero k)
tasks_within (suc n) bytes e = rw e (div-mul-le_self bytes (2 * suc n))

-- They make it up exactly where its length is a multiple of theirs.
pub whole_covered : (n : ℕ) (b : List ℕ) → (tasks_in n (length b) * (2 * n) ≡ length b) ↔ Whole n b
whole_covered n b = ((λ e. (tasks_in n (length b), sym e)), λ (j, e). by n j e)
  where
    by : (n j : ℕ) → length b ≡ j * (2 * n) → tasks_in n (length b) * (2 * n) ≡ length b
    by zero j e = sym (e ∙ mul-zero j)
    by (suc n) j e = ap (λ (q : ℕ). q * (2 * suc n)) (div-eq_of_eq-mul_left (omega arith) e) ∙ sym e

-- So the check of 13 finds what it looks for.
pub not_covered : (n : ℕ) (b : List ℕ) → (not (eqb (tasks_in n (length b) * (2 * n)) (length b)) ≡ true) ↔ (¬ Whole n b)
not_covered n b =
    let covered = tasks_in n (length b) * (2 * n) in
    let found : (eqb covered (length b) ≡ true) ↔ Whole n b =
    ((λ e. (whole_covered n b).0 (eqb-true covered (length b) e)), λ w. eq-eqb covered (length b) ((whole_covered n b).1 w)) in
    let missed = fails (eqb covered (length b)) found in
    ((λ e. missed.0 (not-true (eqb covered (length b)) e)), λ none. ap not (missed.1 none))
