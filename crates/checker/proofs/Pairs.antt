-- Laws of letter pairs, and of the moves that they read as.
use Prim.Native.Nat.{ℕ, zero, suc, ◌*◌, ◌-◌, ◌/◌, ◌%◌, ◌≤◌, ◌<◌}
use mathlib.Core.Bool.{Bool, true, false, not, ◌&&◌, ◌||◌, and-eq-true_iff, true≢false, false≢true}
use mathlib.Core.List.{List, [], ◌∷◌, map}
use mathlib.Core.Logic.{◌≢◌, inl, inr, ◌↔◌}
use mathlib.Core.Path.{◌≡◌, ◌∙◌, refl, sym, ap}
use native.Mathlib.Decide.{ℕ_discrete}
use native.Mathlib.Omega.{arith}
use borrow.Author.Tests.{eqb-true, eq-eqb, ne_eqb, ltb-true, lt-ltb, not-true}
use lib.Dec.{eqb, ltb}
use lib.ListN.{length, get_or, take, drop, drop_of_length-le}
use lib.Seq.{drop-cons}
use Rattle.board.specs.Move.{Move, Leads, next}
use Rattle.board.proofs.Obeys.{either}
use Rattle.route.specs.Answer.{letter, letters}
use Rattle.route.specs.Ours.{read_peg, read_moves}
use Rattle.route.specs.Route.{plain}
use Rattle.route.specs.declared.answer.DiscMove.{DiscMove}
use Rattle.checker.specs.Faults.{NoLetter, Unpaired}
use Rattle.checker.specs.Inner.Walk.{letter_of}
use Rattle.checker.specs.Letters.{is_letter, all_letters}

-- A byte is the letter of the peg that it reads as, or no letter.
pub data Reads (c : ℕ) : Type 0 where
  is_letter_lem : read_peg c < 3 → c ≡ letter (read_peg c) → Reads c
  is_none : read_peg c ≡ 3 → NoLetter c → Reads c

pub reads : (c : ℕ) → Reads c
unfolding read_peg
reads c =
    elim (ℕ_discrete c 65) [
      | yes e ↦ is_letter_lem (rw (eq-eqb c 65 e) (omega arith)) (rw (eq-eqb c 65 e) (omega arith))
      | no a ↦ elim (ℕ_discrete c 66) [
        | yes e ↦ is_letter_lem (rw (ne_eqb c 65 a, eq-eqb c 66 e) (omega arith)) (rw (ne_eqb c 65 a, eq-eqb c 66 e) (omega arith))
        | no b ↦ elim (ℕ_discrete c 67) [
          | yes e ↦ is_letter_lem (rw (ne_eqb c 65 a, ne_eqb c 66 b, eq-eqb c 67 e) (omega arith)) (rw (ne_eqb c 65 a, ne_eqb c 66 b, eq-eqb c 67 e) (omega arith))
          | no n ↦ is_none (rw (ne_eqb c 65 a, ne_eqb c 66 b, ne_eqb c 67 n)) (a, b, n)
        ]
      ]
    ]

-- A byte that reads as a peg is that peg's letter.
pub letter_peg : (c : ℕ) → read_peg c < 3 → c ≡ letter (read_peg c)
letter_peg c h = elim (reads c) [ is_letter_lem l e ↦ e | is_none e n ↦ absurd (omega arith) ]

-- A letter is not below A.
pub letter_above : (c : ℕ) → is_letter c ≡ true → 65 ≤ c
letter_above c e = omega (arith, letter_peg c (ltb-true (read_peg c) 3 e))

-- And what is above A is below 3.
pub letter_place : (c : ℕ) → is_letter c ≡ true → c - 65 < 3
letter_place c e = let h = ltb-true (read_peg c) 3 e in omega (arith, letter_peg c h)

-- A byte is the letter of a peg exactly where it reads as that peg.
pub letter_is : (c b : ℕ) → b < 3 → (c ≡ letter b) ↔ (read_peg c ≡ b)
letter_is c b h = (
  (λ e. elim (reads c) [ is_letter_lem l f ↦ omega arith | is_none f (i, j, k) ↦ absurd (omega arith) ]),
  λ e. letter_peg c (omega arith) ∙ ap letter e,
)

-- One that is no letter reads as none.
none_read : (c : ℕ) → NoLetter c → 3 ≤ read_peg c
none_read c (a, b, n) =
    elim (reads c) [ is_letter_lem l e ↦ absurd (omega arith) | is_none e m ↦ omega arith ]

-- Without a second disc there is no letter of its peg.
pub letter_none : (p : List ℕ) → length p < 2 → letter_of (drop 1 p) ≡ 256
unfolding letter_of
letter_none [] few = refl
letter_none (b ∷ []) few = refl
letter_none (b ∷ c ∷ p) few = absurd (omega arith)

-- With one there is.
pub letter_second : (p : List ℕ) → 2 ≤ length p → letter_of (drop 1 p) ≡ letter (get_or p 1 0)
unfolding letter_of
letter_second [] some = absurd (omega arith)
letter_second (b ∷ []) some = absurd (omega arith)
letter_second (b ∷ c ∷ p) some = refl

-- The test from byte i on is the test of that byte and of those after it.
pub letters_from_lem : (l : List ℕ) (i : ℕ) → i < length l → all_letters (drop i l) ≡ (is_letter (get_or l i 0) && all_letters (drop (suc i) l))
unfolding all_letters
letters_from_lem l i h = ap all_letters (drop-cons l i 0 h)

-- Where no byte is left it passes.
pub letters_end : (l : List ℕ) (i : ℕ) → length l ≤ i → all_letters (drop i l) ≡ true
unfolding all_letters
letters_end l i h = rw (drop_of_length-le l h)

-- Where it fails some byte is no letter.
letters_wrong : (l : List ℕ) → all_letters l ≡ false → (i : ℕ) × (i < length l) × NoLetter (get_or l i 0)
unfolding all_letters
letters_wrong [] e = absurd (true≢false e)
letters_wrong (c ∷ l) e =
    elim (reads c) [
      | is_letter_lem p f ↦
          let (i, h, n) = letters_wrong l (sym (rw (lt-ltb (read_peg c) 3 p)) ∙ e) in
          (suc i, omega arith, n)
      | is_none r n ↦ (0, omega arith, n)
    ]

-- Where it passes each byte is a letter.
letters_right : (l : List ℕ) → all_letters l ≡ true → (i : ℕ) → i < length l → NoLetter (get_or l i 0) → ⊥
unfolding all_letters
letters_right [] e i h n = omega arith
letters_right (c ∷ l) e zero h n =
    let p = ltb-true (read_peg c) 3 ((and-eq-true_iff (ltb (read_peg c) 3) (all_letters l)).0 e).0 in
    omega (arith, none_read c n)
letters_right (c ∷ l) e (suc i) h n =
    letters_right l ((and-eq-true_iff (ltb (read_peg c) 3) (all_letters l)).0 e).1 i (omega arith) n

letters_fault : (l : List ℕ) → (not (all_letters l) ≡ true) ↔ ((i : ℕ) × (i < length l) × NoLetter (get_or l i 0))
letters_fault l = ((λ e. letters_wrong l (not-true (all_letters l) e)), λ (i, h, n). at (all_letters l) refl i h n)
  where
    at : (b : Bool) → all_letters l ≡ b → (i : ℕ) → i < length l → NoLetter (get_or l i 0) → not b ≡ true
    at true e i h n = absurd (letters_right l e i h n)
    at false e i h n = refl

-- The test of 14 finds an odd length or a byte that is no letter.
pub unpaired_exactly : (l : List ℕ) → ((eqb (length l % 2) 1 || not (all_letters l)) ≡ true) ↔ Unpaired l
unpaired_exactly l = either (eqb (length l % 2) 1) (not (all_letters l)) (eqb-true (length l % 2) 1, eq-eqb (length l % 2) 1) (letters_fault l)

-- Two letters a move.
pub moves_length : (l : List ℕ) → length (read_moves l) ≡ length l / 2
unfolding read_moves
moves_length [] = omega arith
moves_length (a ∷ []) = omega arith
moves_length (a ∷ b ∷ l) = omega (arith, moves_length l)

-- Letter pairs that read as the moves of a route are the letters of that route.
pub read_back : (l : List ℕ) (ds : List DiscMove) → length l % 2 ≢ 1 → all_letters l ≡ true → read_moves l ≡ map plain ds → l ≡ letters ds
unfolding read_moves all_letters letters
read_back [] [] even all e = refl
read_back [] (d ∷ ds) even all e = let z : ◌≡◌ {A = ℕ} 0 1 = cc in absurd (omega arith)
read_back (a ∷ []) ds even all e = absurd (even (omega arith))
read_back (a ∷ b ∷ l) [] even all e = let z : ◌≡◌ {A = ℕ} 0 1 = cc in absurd (omega arith)
read_back (a ∷ b ∷ l) (d ∷ ds) even all e =
    let (one, rest) = (and-eq-true_iff (ltb (read_peg a) 3) (ltb (read_peg b) 3 && all_letters l)).0 all in
    let (two, more) = (and-eq-true_iff (ltb (read_peg b) 3) (all_letters l)).0 rest in
    let head : ◌≡◌ {A = Move} (record { from = read_peg a; to = read_peg b }) (plain d) = cc in
    let tail : read_moves l ≡ map plain ds = cc in
    let from : a ≡ letter d.from = letter_peg a (ltb-true _ _ one) ∙ ap (λ (m : Move). letter m.from) head in
    let to : b ≡ letter d.to = letter_peg b (ltb-true _ _ two) ∙ ap (λ (m : Move). letter m.to) head in
    let same = read_back l ds (λ odd. even (omega arith)) more tail in
    λ i. from i ∷ to i ∷ same i

-- Moves that lead somewhere are read from letters: the bytes after them decide whether all are.
pub leads_letters : (k : ℕ) (l : List ℕ) {p q : List ℕ} → k ≤ length l / 2 → Leads p (take k (read_moves l)) q → all_letters l ≡ all_letters (drop (2 * k) l)
unfolding read_moves all_letters
leads_letters zero l few w = refl
leads_letters (suc k) [] few w = absurd (omega arith)
leads_letters (suc k) (a ∷ []) few w = absurd (omega arith)
leads_letters (suc k) (a ∷ b ∷ l) few (next legal w) =
    let two : 2 * suc k ≡ suc (suc (2 * k)) = omega arith in
    rw (two, lt-ltb (read_peg a) 3 legal.from_peg, lt-ltb (read_peg b) 3 legal.to_peg) (leads_letters k l (omega arith) w)

-- An even number of letters are letter pairs.
pub paired : (l : List ℕ) → length l % 2 ≢ 1 → all_letters l ≡ true → ¬ Unpaired l
paired l even all u = at ((unpaired_exactly l).1 u)
  where
    at : (eqb (length l % 2) 1 || not (all_letters l)) ≡ true → ⊥
    at e = false≢true (sym (rw (ne_eqb (length l % 2) 1 even, all)) ∙ e)

-- And letter pairs are an even number of letters.
pub paired_even : (l : List ℕ) → ¬ Unpaired l → (length l % 2 ≢ 1) × (all_letters l ≡ true)
paired_even l n = ((λ odd. n (inl odd)), at (all_letters l) refl)
  where
    at : (b : Bool) → all_letters l ≡ b → all_letters l ≡ true
    at true e = e
    at false e = absurd (n (inr (letters_wrong l e)))

-- Bytes of which some is no letter are not letter pairs.
pub unpaired : (l : List ℕ) → all_letters l ≡ false → Unpaired l
unpaired l e = inr (letters_wrong l e)
