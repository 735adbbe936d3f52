-- The smallest disc of a peg, and what a move leaves of a position.
use Prim.Native.Nat.{ℕ, zero, suc, ◌+◌, ◌≤◌, ◌<◌}
use mathlib.Core.Path.{◌≡◌}
use mathlib.Core.List.{List, [], ◌∷◌}
use mathlib.Core.Logic.{◌≢◌}
use native.Mathlib.Decide.{ℕ_discrete, dec_lt}
use native.Mathlib.Numerals.{add-one}
use native.Mathlib.Omega.{arith}
use borrow.Author.Tests.{eq-eqb, ne_eqb}
use lib.ListN.{length, drop, length-set, drop_of_length-le}
use lib.Seq.{drop-cons, get_or-set_same, get_or-set_other}
use Rattle.board.specs.Position.{peg}
use Rattle.board.specs.Move.{Move, top, moved}

-- Where disc 1 is on the peg, it is the peg's smallest.
pub top_here : (p : List ℕ) {b i : ℕ} → b ≡ i → top (b ∷ p) i ≡ 0
unfolding top
top_here p {b} {i} e = rw (eq-eqb b i e)

-- Where disc 1 is elsewhere, the peg's smallest is the smallest of the other discs.
pub top_there : (p : List ℕ) {b i : ℕ} → b ≢ i → top (b ∷ p) i ≡ suc (top p i)
unfolding top
top_there p {b} {i} n = rw (ne_eqb b i n)

-- The smallest disc from i on, where disc i is on the peg.
pub top_from_here : (p : List ℕ) (i j : ℕ) → i < length p → peg p i ≡ j → top (drop i p) j ≡ 0
top_from_here p i j h e = rw (drop-cons p i 0 h) (top_here (drop (suc i) p) e)

-- The same where disc i is elsewhere.
pub top_from_there : (p : List ℕ) (i j : ℕ) → i < length p → peg p i ≢ j → top (drop i p) j ≡ suc (top (drop (i + 1) p) j)
top_from_there p i j h n = rw (add-one, drop-cons p i 0 h) (top_there (drop (suc i) p) n)

-- The same where no disc is left.
pub top_from_none : (p : List ℕ) (i j : ℕ) → length p ≤ i → top (drop i p) j ≡ 0
unfolding top
top_from_none p i j h = rw (drop_of_length-le p h)

-- The place of a peg's smallest disc is at most the number of discs.
pub top_le : (p : List ℕ) (i : ℕ) → top p i ≤ length p
unfolding top
top_le [] i = omega arith
top_le (b ∷ p) i =
    let h = top_le p i in
    elim (ℕ_discrete b i) [ yes e ↦ omega (arith, top_here p e) | no n ↦ omega (arith, top_there p n) ]

-- The smallest disc of a peg that is not empty is on that peg.
pub top_on : (p : List ℕ) (i : ℕ) → top p i < length p → peg p (top p i) ≡ i
top_on [] i h = omega arith
top_on (b ∷ p) i h =
    elim (ℕ_discrete b i) [
      | yes e ↦ rw (top_here p e) e
      | no n ↦ rw (top_there p n) (top_on p i (omega (arith, top_there p n)))
    ]

-- No disc before the peg's smallest is on the peg.
pub top_before : (p : List ℕ) (i d : ℕ) → d < top p i → peg p d ≢ i
unfolding top
top_before [] i d h = omega arith
top_before (b ∷ p) i zero h = λ e. omega (arith, top_here p e)
top_before (b ∷ p) i (suc d) h =
    elim (ℕ_discrete b i) [
      | yes e ↦ omega (arith, top_here p e)
      | no n ↦ top_before p i d (omega (arith, top_there p n))
    ]

-- A disc on the peg, with no smaller one there, is the peg's smallest.
pub top_at : (p : List ℕ) (i d : ℕ) → d < length p → peg p d ≡ i → ((e : ℕ) → e < d → peg p e ≢ i) → top p i ≡ d
top_at p i d h on none =
    elim (dec_lt (top p i) d) [
      | yes l ↦ absurd (none (top p i) l (top_on p i (omega arith)))
      | no n ↦ elim (dec_lt d (top p i)) [ yes l ↦ absurd (top_before p i d l on) | no m ↦ omega arith ]
    ]

-- Where no disc is on the peg, its top is the number of discs.
pub top_none : (p : List ℕ) (i : ℕ) → ((d : ℕ) → d < length p → peg p d ≢ i) → top p i ≡ length p
top_none p i none =
    elim (dec_lt (top p i) (length p)) [
      | yes l ↦ absurd (none (top p i) l (top_on p i l))
      | no n ↦ omega (arith, top_le p i)
    ]

-- Where no disc up to d is on the peg, its smallest is after d.
pub top_after : (p : List ℕ) (i d : ℕ) → d < length p → ((e : ℕ) → e ≤ d → peg p e ≢ i) → d < top p i
top_after p i d h none =
    elim (dec_lt d (top p i)) [
      | yes l ↦ l
      | no n ↦ absurd (none (top p i) (omega arith) (top_on p i (omega arith)))
    ]

-- A move keeps the number of discs.
pub length_moved : (p : List ℕ) (m : Move) → length (moved p m) ≡ length p
unfolding moved
length_moved p m = length-set p _ _

-- A move brings the smallest disc of its first peg to its second.
pub moved_disc : (p : List ℕ) (m : Move) → top p m.from < length p → peg (moved p m) (top p m.from) ≡ m.to
unfolding moved
moved_disc p m h = get_or-set_same p _ _ _ h

-- A move leaves every other disc where it is.
pub moved_others : (p : List ℕ) (m : Move) (d : ℕ) → d ≢ top p m.from → peg (moved p m) d ≡ peg p d
unfolding moved
moved_others p m d n = get_or-set_other p _ d _ _ n
