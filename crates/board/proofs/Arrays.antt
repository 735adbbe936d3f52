-- Laws of positions in arrays: what a record holds, and what a move leaves of it.
use Prim.Native.Nat.{ℕ, zero, suc, ◌+◌, ◌-◌, ◌≤◌, ◌<◌}
use mathlib.Core.Bool.{true, ◌&&◌, and-eq-true_iff}
use mathlib.Core.List.{List, [], ◌∷◌, ◌++◌}
use mathlib.Core.Logic.{◌↔◌}
use mathlib.Core.Path.{◌≡◌, ◌∙◌, refl, sym, ap}
use native.Mathlib.Omega.{arith}
use native.Mathlib.Numerals.{add-one}
use borrow.Author.Tests.{eq-eqb, eqb-true}
use lib.Dec.{eqb}
use lib.ListN.{length, get_or, take, drop, replicate, set, length-set, length-drop, length-take, take-append-drop}
use lib.Seq.{drop-cons, get_or-take, get_or-drop, take_at, drop_at, set-append_left, take_all, take-length}
use Rattle.board.specs.Held.{padded, all_zero, holds_position, HoldsPosition}
use Rattle.board.specs.Move.{Move, Legal, top, moved}
use Rattle.board.specs.Position.{well_formed, WellFormed}
use Rattle.board.specs.Task.{limit}
use Rattle.board.proofs.Lists.{drop_replicate}
use Rattle.board.proofs.Formed.{formed_pegs, pegs_formed}

-- Zeros are all zero.
zeros_zero : (k : ℕ) → all_zero (replicate k 0) ≡ true
unfolding all_zero
zeros_zero zero = refl
zeros_zero (suc k) = zeros_zero k

-- Bytes that are all zero are zeros.
zero_zeros : (a : List ℕ) → all_zero a ≡ true → a ≡ replicate (length a) 0
unfolding all_zero
zero_zeros [] e = refl
zero_zeros (b ∷ a) e =
    let both = (and-eq-true_iff (eqb b 0) (all_zero a)).0 e in
    cc (eqb-true b 0 both.0, zero_zeros a both.1)

-- Behind the position stand the zeros that are left.
pub drop_zeros : (p : List ℕ) → p ++ drop (length p) (replicate limit 0) ≡ padded p
drop_zeros p = rw drop_replicate

-- A position copied over the first of as many zeros as there can be discs is its array.
pub copied_over : {a : List ℕ} (p : List ℕ) → a ≡ p → a ++ drop (length p) (replicate limit 0) ≡ padded p
copied_over p e = ap (λ (b : List ℕ). b ++ drop (length p) (replicate limit 0)) e ∙ drop_zeros p

-- The same, of the position's own bytes.
pub copied_padded : (p : List ℕ) → take (length p) p ++ drop (length p) (replicate limit 0) ≡ padded p
copied_padded p = rw (take-length, drop_replicate)

-- The used bytes of a position's array are the position.
pub padded_take : (p : List ℕ) (n : ℕ) → length p ≡ n → take n (padded p) ≡ p
padded_take p n e = take_at p _ n e

-- Zeros are 0 everywhere.
zero_at : (a : List ℕ) → all_zero a ≡ true → (d : ℕ) → get_or a d 0 ≡ 0
unfolding all_zero
zero_at [] e d = refl
zero_at (b ∷ a) e zero = eqb-true b 0 ((and-eq-true_iff (eqb b 0) (all_zero a)).0 e).0
zero_at (b ∷ a) e (suc d) = zero_at a ((and-eq-true_iff (eqb b 0) (all_zero a)).0 e).1 d

-- Bytes that are 0 everywhere pass the test.
zero_all : (a : List ℕ) → ((d : ℕ) → get_or a d 0 ≡ 0) → all_zero a ≡ true
unfolding all_zero
zero_all [] h = refl
zero_all (b ∷ a) h = rw (eq-eqb b 0 (h 0)) (zero_all a (λ d. h (suc d)))

-- The test passes exactly where used bytes are at most 2 and unused bytes 0.
pub holds_exactly : (n : ℕ) (a : List ℕ) → (holds_position n a ≡ true) ↔ HoldsPosition n a
unfolding holds_position
holds_exactly n a = (
  (λ e.
      let (formed, zeros) = (and-eq-true_iff (well_formed (take n a)) (all_zero (drop n a))).0 e in
      record {
        used = λ d l. omega (arith, formed_pegs (take n a) formed d, get_or-take n a d 0 l);
        unused = λ d l.
            let index : n + (d - n) ≡ d = omega arith in
            rw index at (sym (get_or-drop n a (d - n) 0) ∙ zero_at (drop n a) zeros (d - n));
      }),
  λ h.
      let formed : WellFormed (take n a) = pegs_formed (take n a) (λ d l.
      let used : d < n = omega (arith, length-take n a) in omega (arith, h.used d used, get_or-take n a d 0 used)) in
      (and-eq-true_iff (well_formed (take n a)) (all_zero (drop n a))).1
      (formed, zero_all (drop n a) (λ d. get_or-drop n a d 0 ∙ h.unused (n + d) (omega arith))),
)

-- A position's array holds it.
pub padded_holds : (p : List ℕ) (n : ℕ) → length p ≡ n → WellFormed p → HoldsPosition n (padded p)
unfolding holds_position
padded_holds p n e hp =
    (holds_exactly n (padded p)).0 (rw (padded_take p n e, hp, drop_at p _ n e) (zeros_zero (limit - length p)))

-- The used bytes that an array holds are well formed.
pub held_formed : (n : ℕ) (a : List ℕ) → HoldsPosition n a → WellFormed (take n a)
unfolding holds_position
held_formed n a h = ((and-eq-true_iff (well_formed (take n a)) (all_zero (drop n a))).0 ((holds_exactly n a).1 h)).0

-- An array that holds a position is that position's.
pub held_padded : (n : ℕ) (a : List ℕ) → n ≤ limit → length a ≡ limit → HoldsPosition n a → a ≡ padded (take n a)
unfolding holds_position
held_padded n a within size h =
    let zeros = zero_zeros (drop n a) ((and-eq-true_iff (well_formed (take n a)) (all_zero (drop n a))).0 ((holds_exactly n a).1 h)).1 in
    let left : length (drop n a) ≡ limit - length (take n a) = simp (length-drop, length-take) (omega arith) in
    sym (take-append-drop n a) ∙ ap (λ (b : List ℕ). take n a ++ b) (rw left at zeros)

-- A disc moved in the array is a disc moved in the position.
pub padded_moved : (p : List ℕ) (m : Move) → Legal p m → set (padded p) (top p m.from) m.to ≡ padded (moved p m)
unfolding moved
padded_moved p m l = rw (set-append_left p, length-set, l.there)

-- The test from byte i on is the test of that byte and of those after it.
zero_from : (p : List ℕ) (i : ℕ) → i < length p → all_zero (drop i p) ≡ (eqb (get_or p i 0) 0 && all_zero (drop (suc i) p))
unfolding all_zero
zero_from p i h = ap all_zero (drop-cons p i 0 h)

-- A 0 at i leaves the test to the bytes after it.
pub zero_past : (p : List ℕ) (i : ℕ) → i < length p → get_or p i 0 ≡ 0 → all_zero (drop (suc i) p) ≡ all_zero (drop i p)
zero_past p i h z = rw (zero_from p i h, eq-eqb (get_or p i 0) 0 z)

-- The same, with the next index as the code says it.
pub zero_here : (p : List ℕ) (i : ℕ) → i < length p → get_or p i 0 ≡ 0 → all_zero (drop (i + 1) p) ≡ all_zero (drop i p)
zero_here p i h z = rw add-one (zero_past p i h z)

-- `&a[n..]` of an array of `limit` bytes is what comes after the first n.
pub part_to_limit : (n : ℕ) (a : List ℕ) → length a ≡ limit → take (limit - n) (drop n a) ≡ drop n a
part_to_limit n a size = take_all (limit - n) (drop n a) (simp length-drop (omega arith))
