-- Laws of a position by its smallest disc: which moves are legal, and what they leave.
use Prim.Native.Nat.{ℕ, zero, suc, ◌+◌, ◌*◌, ◌-◌, ◌/◌, ◌≤◌, ◌<◌}
use mathlib.Core.Bool.{Bool, true, not, ◌&&◌, and-eq-true_iff}
use mathlib.Core.List.{List, [], ◌∷◌}
use mathlib.Core.Logic.{◌≢◌, ◌↔◌}
use mathlib.Core.Path.{◌≡◌, ◌∙◌, refl, sym, ap}
use native.Mathlib.Decide.{ℕ_discrete}
use native.Mathlib.Omega.{arith}
use borrow.Author.Tests.{eqb-false, eq-eqb, ne_eqb, ltb-true, lt-ltb, not-true}
use lib.Dec.{eqb, ltb}
use lib.ListN.{length, get_or, drop}
use Rattle.std.specs.Simd.{first_chunks}
use Rattle.board.specs.Move.{Move, Legal, top, moved}
use Rattle.board.specs.Position.{WellFormed}
use Rattle.board.proofs.Formed.{formed_head, formed_tail}
use Rattle.board.proofs.Top.{top_here, top_there, top_le}
use Rattle.route.specs.Answer.{letter}
use Rattle.route.specs.Ours.{read_peg, read_moves}
use Rattle.run.specs.Inner.Pegs.{Holds, disc_on}
use Rattle.run.specs.declared.pegs.Pegs.{Pegs}
use Rattle.checker.specs.Inner.Walk.{letter_of, may_apart, may_carry, may_move, move_in}
use Rattle.checker.specs.Letters.{is_letter}
use Rattle.checker.proofs.Pairs.{letter_peg, letter_is}

-- A move between pegs is legal where the topmost disc of the one is smaller than that of the other.
tops_legal : (p : List ℕ) (m : Move) → m.from < 3 → m.to < 3 → top p m.from < top p m.to → Legal p m
tops_legal p m from to less =
    record {
      from_peg = from;
      to_peg = to;
      apart = λ e. omega (arith, let same : top p m.from ≡ top p m.to = rw e in same);
      there = omega (arith, top_le p m.to);
      clear = less;
    }

module _ (b : ℕ) (p : List ℕ) (m : Move) where
  -- Disc 1, on peg b, may go to any other peg.
  small_legal : m.from ≡ b → m.from < 3 → m.to < 3 → m.to ≢ b → Legal (b ∷ p) m
  small_legal e from to n =
      tops_legal (b ∷ p) m from to (omega (arith, top_here p (sym e), top_there p (λ f. n (sym f))))

  -- It leaves the larger discs as they are.
  pub small_moved : m.from ≡ b → moved (b ∷ p) m ≡ m.to ∷ p
  unfolding moved
  small_moved e = rw (top_here p (sym e))

  -- No disc may go onto disc 1.
  pub onto_small : m.to ≡ b → ¬ Legal (b ∷ p) m
  onto_small e l = omega (arith, l.clear, top_here p (sym e))

  -- Between two other pegs a move is legal exactly where it is without disc 1.
  pub larger_legal : m.from ≢ b → m.to ≢ b → Legal (b ∷ p) m ↔ Legal p m
  larger_legal from to =
      let one = top_there p (λ f. from (sym f)) in
      let two = top_there p (λ f. to (sym f)) in (
        (λ l. tops_legal p m l.from_peg l.to_peg (omega (arith, l.clear))),
        λ l. tops_legal (b ∷ p) m l.from_peg l.to_peg (omega (arith, l.clear)),
      )

  -- It leaves disc 1 where it is.
  pub larger_moved : m.from ≢ b → moved (b ∷ p) m ≡ b ∷ moved p m
  unfolding moved
  larger_moved n = rw (top_there p (λ f. n (sym f)))

-- Of the larger discs, that the one topmost disc is smaller than the other is seen in the arrays.
tops_held : (a : Pegs) (p : List ℕ) (i j : ℕ) → Holds a p → i < 3 → j < 3 → (ltb (disc_on a.top i) (disc_on a.top j) ≡ true) ↔ (top p i < top p j)
tops_held a p i j h hi hj = (
  (λ e. omega (arith, ltb-true (disc_on a.top i) (disc_on a.top j) e, h.tops i hi, h.tops j hj)),
  λ l. lt-ltb (disc_on a.top i) (disc_on a.top j) (omega (arith, h.tops i hi, h.tops j hj)),
)

-- Two bytes as a move.
abbrev pub pair_move : ℕ → ℕ → Move
pair_move x y = record { from = read_peg x; to = read_peg y }

-- The bytes of a legal move are letters.
pub legal_letters : (p : List ℕ) (x y : ℕ) → Legal p (pair_move x y) → (65 ≤ x) × (65 ≤ y) × (x - 65 < 3) × (y - 65 < 3)
legal_letters p x y legal =
    let from = legal.from_peg in
    let to = legal.to_peg in
    (omega (arith, letter_peg x from), omega (arith, letter_peg y to), omega (arith, letter_peg x from, from), omega (arith, letter_peg y to, to))

-- Move i is that of letters 2 i and 2 i + 1.
pub moves_at : (l : List ℕ) (i : ℕ) → i < length l / 2
    → move_in (read_moves l) i ≡ record { from = read_peg (get_or l (2 * i) 0); to = read_peg (get_or l (2 * i + 1) 0) }
unfolding read_moves
moves_at [] i h = absurd (omega arith)
moves_at (a ∷ []) i h = absurd (omega arith)
moves_at (a ∷ b ∷ l) zero h = refl
moves_at (a ∷ b ∷ l) (suc i) h =
    let two : 2 * suc i ≡ suc (suc (2 * i)) = omega arith in
    let three : 2 * suc i + 1 ≡ suc (suc (2 * i + 1)) = omega arith in
    rw (three, two) (moves_at l i (omega arith))

-- Pair i of a list is its move i.
pub pair_entry : (l : List ℕ) (k i : ℕ) → i < k → k ≤ length l / 2
    → pair_move (get_or (get_or (first_chunks 2 k l) i []) 0 0) (get_or (get_or (first_chunks 2 k l) i []) 1 0) ≡ move_in (read_moves l) i
unfolding read_moves
pair_entry [] k i h few = absurd (omega arith)
pair_entry (a ∷ []) k i h few = absurd (omega arith)
pair_entry (a ∷ b ∷ l) zero i h few = absurd (omega arith)
pair_entry (a ∷ b ∷ l) (suc k) zero h few = refl
pair_entry (a ∷ b ∷ l) (suc k) (suc i) h few = pair_entry l k i (omega arith) (omega arith)

-- Its first byte is one of the list's.
pub pair_byte : (l : List ℕ) (k i : ℕ) → i < k → k ≤ length l / 2 → ((j : ℕ) → get_or l j 0 < 256)
    → get_or (get_or (first_chunks 2 k l) i []) 0 0 < 256
pair_byte [] k i h few bytes = absurd (omega arith)
pair_byte (a ∷ []) k i h few bytes = absurd (omega arith)
pair_byte (a ∷ b ∷ l) zero i h few bytes = absurd (omega arith)
pair_byte (a ∷ b ∷ l) (suc k) zero h few bytes = bytes 0
pair_byte (a ∷ b ∷ l) (suc k) (suc i) h few bytes = pair_byte l k i (omega arith) (omega arith) (λ j. bytes (suc (suc j)))

-- The place of a letter's peg among the three is what is above A.
pub place_peg : (x : ℕ) → read_peg x < 3 → x - 65 ≡ read_peg x
place_peg x h = omega (arith, letter_peg x h)

-- Where the arrays hold the discs, the test of the topmost ones finds the legal moves.
carry_exactly : (a : Pegs) (p : List ℕ) (x y : ℕ) → Holds a p → read_peg y < 3 → (may_carry a.top x y ≡ true) ↔ Legal p (pair_move x y)
carry_exactly a p x y h to = (
  (λ e.
      let (here, tops) = (and-eq-true_iff (is_letter x) _).0 e in
      let from = ltb-true (read_peg x) 3 here in
      tops_legal p (pair_move x y) from to ((tops_held a p (read_peg x) (read_peg y) h from to).0 (rw (place_peg x from, place_peg y to) at tops))),
  λ l.
      let from = l.from_peg in
      let less = (tops_held a p (read_peg x) (read_peg y) h from to).1 l.clear in
      rw (lt-ltb (read_peg x) 3 from, place_peg x from, place_peg y to) less,
)

module _ (b : ℕ) (p : List ℕ) (x y : ℕ) (peg : b < 3) (larger : Bool) (found : read_peg y < 3 → (larger ≡ true) ↔ Legal p (pair_move x y)) where
  -- Two bytes that pass the test are a legal move.
  apart_legal : may_apart (letter b) larger x y ≡ true → Legal (b ∷ p) (pair_move x y)
  apart_legal e =
      let (goes, leaves) = (and-eq-true_iff (is_letter y && not (eqb y (letter b))) _).0 e in
      let (there, free) = (and-eq-true_iff (is_letter y) (not (eqb y (letter b)))).0 goes in
      let to = ltb-true (read_peg y) 3 there in
      let apart : read_peg y ≢ b = λ f. eqb-false y (letter b) (not-true _ free) ((letter_is y b peg).1 f) in
      elim (ℕ_discrete x (letter b)) [
        | yes f ↦ let is = (letter_is x b peg).0 f in small_legal b p (pair_move x y) is (rw is peg) to apart
        | no n ↦
            let below = (found to).0 (rw (ne_eqb x (letter b) n) at leaves) in
            (larger_legal b p (pair_move x y) (λ f. n ((letter_is x b peg).1 f)) apart).1 below
      ]

  -- A legal move passes the test.
  legal_apart : Legal (b ∷ p) (pair_move x y) → may_apart (letter b) larger x y ≡ true
  legal_apart l =
      let apart : read_peg y ≢ b = λ e. onto_small b p (pair_move x y) e l in
      let free : y ≢ letter b = λ e. apart ((letter_is y b peg).0 e) in
      let to = l.to_peg in
      elim (ℕ_discrete x (letter b)) [
        | yes f ↦ rw (lt-ltb (read_peg y) 3 to, ne_eqb y (letter b) free, eq-eqb x (letter b) f)
        | no n ↦
            let below = (larger_legal b p (pair_move x y) (λ f. n ((letter_is x b peg).1 f)) apart).0 l in
            rw (lt-ltb (read_peg y) 3 to, ne_eqb y (letter b) free, ne_eqb x (letter b) n) ((found to).1 below)
      ]

  -- With the smallest disc, on peg b, apart from the larger ones the test finds the legal moves, where it finds those of the larger ones.
  apart_exactly : (may_apart (letter b) larger x y ≡ true) ↔ Legal (b ∷ p) (pair_move x y)
  apart_exactly = (apart_legal, legal_apart)

-- Without discs no move is legal.
none_legal : {m : Move} → ¬ Legal [] m
none_legal l = omega (arith, l.there)

-- The first of some discs is apart from those after it, if there is one.
second_exactly : (a : Pegs) (p : List ℕ) (x y : ℕ) → WellFormed p → Holds a (drop 1 p) → x < 256
    → (may_apart (letter_of p) (may_carry a.top x y) x y ≡ true) ↔ Legal p (pair_move x y)
unfolding letter_of
second_exactly a [] x y formed h byte = (
  (λ e.
      let (goes, leaves) = (and-eq-true_iff (is_letter y && not (eqb y 256)) _).0 e in
      let to = ltb-true (read_peg y) 3 ((and-eq-true_iff (is_letter y) (not (eqb y 256))).0 goes).0 in
      let other : x ≢ 256 = λ f. omega arith in
      (carry_exactly a [] x y h to).0 (rw (ne_eqb x 256 other) at leaves)),
  λ l. absurd (none_legal l),
)
second_exactly a (b ∷ p) x y formed h byte =
    apart_exactly b p x y (formed_head b p formed) (may_carry a.top x y) (carry_exactly a p x y h)

-- With discs 1 and 2 apart from the others the test finds the legal moves.
pub may_exactly : (a : Pegs) (b : ℕ) (p : List ℕ) (x y : ℕ) → WellFormed (b ∷ p) → Holds a (drop 1 p) → x < 256
    → (may_move (letter b) (letter_of p) a.top x y ≡ true) ↔ Legal (b ∷ p) (pair_move x y)
unfolding may_move
may_exactly a b p x y formed h byte =
    apart_exactly b p x y (formed_head b p formed) _ (λ to. second_exactly a p x y (formed_tail b p formed) h byte)

-- A move of the first of some discs leaves the others.
pub second_moved : (p : List ℕ) (x y : ℕ) → WellFormed p → x < 256 → x ≡ letter_of p → Legal p (pair_move x y)
    → (letter_of (moved p (pair_move x y)) ≡ y) × (drop 1 (moved p (pair_move x y)) ≡ drop 1 p)
unfolding letter_of
second_moved [] x y formed byte e l = absurd (none_legal l)
second_moved (b ∷ p) x y formed byte e l =
    let is = small_moved b p (pair_move x y) ((letter_is x b (formed_head b p formed)).0 e) in
    (ap letter_of is ∙ sym (letter_peg y l.to_peg), ap (drop 1) is)

-- A move of another is one of the others.
pub larger_passed : (p : List ℕ) (x y : ℕ) → WellFormed p → x ≢ letter_of p → Legal p (pair_move x y)
    → Legal (drop 1 p) (pair_move x y)
    × (letter_of (moved p (pair_move x y)) ≡ letter_of p)
    × (drop 1 (moved p (pair_move x y)) ≡ moved (drop 1 p) (pair_move x y))
unfolding letter_of
larger_passed [] x y formed n l = absurd (none_legal l)
larger_passed (b ∷ p) x y formed n l =
    let from : read_peg x ≢ b = λ e. n ((letter_is x b (formed_head b p formed)).1 e) in
    let is = larger_moved b p (pair_move x y) from in
    ((larger_legal b p (pair_move x y) from (λ e. onto_small b p (pair_move x y) e l)).0 l, ap letter_of is, ap (drop 1) is)
