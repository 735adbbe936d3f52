-- A move has no fault exactly where it is legal, and is refused as its faults say.
use Prim.Native.Nat.{ℕ, ◌<◌}
use mathlib.Core.Bool.{Bool, true, false, not, ◌&&◌, ◌||◌, and-eq-true_iff, true≢false}
use mathlib.Core.List.{List}
use mathlib.Core.Logic.{◌≢◌, ◌⊎◌, inl, inr, ◌↔◌}
use mathlib.Core.Path.{◌≡◌, ◌∙◌, refl, sym, ap}
use native.Mathlib.Decide.{dec_lt}
use native.Mathlib.Omega.{arith}
use borrow.Author.Tests.{eqb-true, eqb-false, eq-eqb, ltb-true, ltb-false, ne_eqb, lt-ltb, le-ltb, not-false}
use lib.Dec.{eqb, ltb}
use lib.ListN.{length}
use Rattle.board.specs.Fault.{Empty, Obeys, legal_faults}
use Rattle.board.specs.Legal.{legal_check}
use Rattle.board.specs.Move.{Move, Legal, top}
use Rattle.board.specs.Position.{peg}
use Rattle.board.specs.Reply.{pass}
use Rattle.board.proofs.Obeys.{either, check_obeys, then_obeys}
use Rattle.board.proofs.Replies.{check_passed, check_answered}
use Rattle.board.proofs.Top.{top_le, top_on, top_before, top_none}

-- Two pegs that are apart have different smallest discs, if the first has one.
tops_apart : (p : List ℕ) (i j : ℕ) → i ≢ j → top p i < length p → top p i ≢ top p j
tops_apart p i j apart there e = apart (sym (top_on p i there) ∙ ap (peg p) e ∙ top_on p j (rw e at there))

-- Of two tests that fail together, each fails.
or_fails : (a b : Bool) → (a || b) ≡ false → (a ≡ false) × (b ≡ false)
or_fails true b e = absurd (true≢false e)
or_fails false b e = (refl, e)

-- A move without faults is legal.
pub legal_accepted : (p : List ℕ) (m : Move) → legal_check p m ≡ pass → Legal p m
unfolding legal_check
legal_accepted p m h =
    let (pegs, rest) = check_answered (not (ltb m.from 3 && ltb m.to 3)) 3 _ h in
    let (disc, last) = check_answered (eqb m.from m.to || eqb (top p m.from) (length p)) 8 _ rest in
    let way = check_passed (ltb (top p m.to) (top p m.from)) 9 last in
    let both = (and-eq-true_iff (ltb m.from 3) (ltb m.to 3)).0 (not-false _ pegs) in
    let neither = or_fails (eqb m.from m.to) (eqb (top p m.from) (length p)) disc in
    let apart : m.from ≢ m.to = eqb-false _ _ neither.0 in
    let there : top p m.from < length p = omega (arith, top_le p m.from, eqb-false (top p m.from) (length p) neither.1) in
    record {
      from_peg = ltb-true _ _ both.0;
      to_peg = ltb-true _ _ both.1;
      apart = apart;
      there = there;
      clear = omega (arith, tops_apart p m.from m.to apart there, ltb-false (top p m.to) (top p m.from) way);
    }

-- A legal move has no faults.
pub legal_passes : (p : List ℕ) (m : Move) → Legal p m → legal_check p m ≡ pass
unfolding legal_check
legal_passes p m l =
    rw (
      lt-ltb _ _ l.from_peg,
      lt-ltb _ _ l.to_peg,
      ne_eqb _ _ l.apart,
      ne_eqb (top p m.from) (length p) (omega arith),
      le-ltb (top p m.to) (top p m.from) (omega arith),
    )

-- One of two numbers is no peg exactly where one is above 2.
no_peg : (i j : ℕ) → (not (ltb i 3 && ltb j 3) ≡ true) ↔ ((2 < i) ⊎ (2 < j))
no_peg i j =
    elim (dec_lt i 3) [
      | yes h ↦ elim (dec_lt j 3) [
        | yes l ↦ rw (lt-ltb i 3 h, lt-ltb j 3 l)
            ((λ e. absurd (true≢false (sym e))), λ s. elim s [ inl a ↦ absurd (omega arith) | inr a ↦ absurd (omega arith) ])
        | no n ↦ rw (lt-ltb i 3 h, le-ltb j 3 (omega arith)) ((λ e. inr (omega arith)), λ s. refl)
      ]
      | no n ↦ rw (le-ltb i 3 (omega arith)) ((λ e. inl (omega arith)), λ s. refl)
    ]

-- A peg has no disc exactly where its smallest is past the last.
pub empty_exactly : (p : List ℕ) (i : ℕ) → (top p i ≡ length p) ↔ Empty p i
empty_exactly p i = (
  (λ e d l on. top_past d l on e),
  top_none p i,
)
  where
    top_past : (d : ℕ) → d < length p → peg p d ≡ i → top p i ≡ length p → ⊥
    top_past d l on e = top_before p i d (omega arith) on

-- A move is refused with 3, 8 and 9 as its faults say.
pub legal_obeys : (p : List ℕ) (m : Move) → Obeys (legal_faults p m) (legal_check p m)
unfolding legal_check
legal_obeys p m =
    let none = empty_exactly p m.from in
    let empty : (eqb (top p m.from) (length p) ≡ true) ↔ Empty p m.from =
    ((λ e. none.0 (eqb-true _ _ e)), λ h. eq-eqb _ _ (none.1 h)) in
    then_obeys (check_obeys _ 3 (no_peg m.from m.to))
    (then_obeys (check_obeys _ 8 (either (eqb m.from m.to) _ (eqb-true _ _, eq-eqb _ _) empty))
    (check_obeys (ltb (top p m.to) (top p m.from)) 9 (ltb-true _ _, lt-ltb _ _)))
