-- The topmost disc of each peg and the disc beneath each disc: how the arrays come to hold a position, and that a move keeps them so.
use Prim.Native.Nat.{ℕ, zero, suc, ◌+◌, ◌-◌, ◌≤◌, ◌<◌}
use mathlib.Core.Path.{◌≡◌, refl, sym, ap, ◌∙◌}
use mathlib.Core.List.{List, [], ◌∷◌}
use mathlib.Core.Logic.{◌≢◌}
use native.Mathlib.Decide.{ℕ_discrete}
use native.Mathlib.Omega.{arith}
use lib.ListN.{length, get_or, drop, set, replicate, length-set, get_or-replicate}
use lib.Seq.{lt-length-set, drop-cons, drop-length, drop-set-lt, get_or-set_same, get_or-set_other}
use Rattle.board.specs.Position.{peg}
use Rattle.board.specs.Move.{Move, Legal, top, moved}
use Rattle.board.proofs.Top.{top_here, top_there, top_on, top_before, top_at, length_moved, moved_disc, moved_others}
use Rattle.run.specs.Inner.Pegs.{beneath, Holds, shifted}
use Rattle.run.specs.declared.pegs.Pegs.{Pegs}

-- A list has an element wherever it does not read 0.
pub inside : (xs : List ℕ) (i : ℕ) → 0 < get_or xs i 0 → i < length xs
inside [] i h = omega arith
inside (x ∷ xs) zero h = omega arith
inside (x ∷ xs) (suc i) h = omega (arith, inside xs i h)

-- Where none of the first k discs is on the peg, its smallest is the smallest of the discs after them.
pub top_drop : (p : List ℕ) (i k : ℕ) → k ≤ length p → ((d : ℕ) → d < k → peg p d ≢ i) → top p i ≡ k + top (drop k p) i
top_drop p i zero h none = omega arith
top_drop [] i (suc k) h none = absurd (omega arith)
top_drop (b ∷ p) i (suc k) h none =
    omega (arith, top_there p (none 0 (omega arith)), top_drop p i k (omega arith) (λ d l. none (suc d) (omega arith)))

-- A disc that goes from a peg to a peg leaves the smallest of any other.
pub top_set_other : (p : List ℕ) (i d b : ℕ) → peg p d ≢ i → b ≢ i → top (set p d b) i ≡ top p i
top_set_other [] i d b n m = refl
top_set_other (c ∷ p) i zero b n m = top_there p m ∙ sym (top_there p n)
top_set_other (c ∷ p) i (suc d) b n m =
    let rest = top_set_other p i d b n m in
    elim (ℕ_discrete c i) [
      | yes e ↦ top_here (set p d b) e ∙ sym (top_here p e)
      | no o ↦ top_there (set p d b) o ∙ ap suc rest ∙ sym (top_there p o)
    ]

-- Nor does it change the smallest of a peg among the discs after the first k, where that peg is another or the disc is one of the first.
top_drop_set : (p : List ℕ) (i k d b : ℕ) → (k ≤ d → peg p d ≢ i) → (k ≤ d → b ≢ i) → top (drop k (set p d b)) i ≡ top (drop k p) i
top_drop_set p i zero d b n m = top_set_other p i d b (n (omega arith)) (m (omega arith))
top_drop_set [] i (suc k) d b n m = refl
top_drop_set (c ∷ p) i (suc k) zero b n m = refl
top_drop_set (c ∷ p) i (suc k) (suc d) b n m = top_drop_set p i k d b (λ h. n (omega arith)) (λ h. m (omega arith))

-- The smallest disc from k on of the peg of disc k + 1 is that disc.
top_from_here : (p : List ℕ) (k : ℕ) {i : ℕ} → k < length p → peg p k ≡ i → top (drop k p) i ≡ 0
top_from_here p k h e = rw (drop-cons p k 0 h) (top_here _ e)

-- The smallest disc from k on of any other peg is the smallest after disc k + 1.
top_from_there : (p : List ℕ) (k : ℕ) {i : ℕ} → k < length p → peg p k ≢ i → top (drop k p) i ≡ suc (top (drop (suc k) p) i)
top_from_there p k h n = rw (drop-cons p k 0 h) (top_there _ n)

-- The arrays t and b hold the discs of p after the first k, and b has room for all.
pub record HoldsFrom (t b p : List ℕ) (k : ℕ) : Type 0 where
  pub room : length p ≤ length b
  pub tops : (i : ℕ) → i < 3 → get_or t i 0 ≡ suc (k + top (drop k p) i)
  pub beneaths : (d : ℕ) → k ≤ d → d < length p → get_or b d 0 ≡ suc (beneath p d)

-- Arrays that say of each peg that it is empty hold none of the discs.
pub holds_none : (b p : List ℕ) → length p ≤ length b → HoldsFrom (replicate 3 (suc (length p))) b p (length p)
unfolding top
holds_none b p room =
    record {
      room = room;
      tops = λ i h. get_or-replicate 3 i (suc (length p)) 0 h ∙ rw (drop-length p) (omega arith);
      beneaths = λ d l h. absurd (omega arith);
    }

-- Disc k + 1 goes onto what its peg has of the discs after it.
pub holds_more : {t b p : List ℕ} (k : ℕ) → k < length p → peg p k < 3
    → HoldsFrom t b p (suc k) → HoldsFrom (set t (peg p k) (suc k)) (set b k (get_or t (peg p k) 0)) p k
unfolding beneath
holds_more {t} {b} {p} k h on w =
    record {
      room = simp length-set w.room;
      tops = tops;
      beneaths = beneaths;
    }
  where
    tops : (i : ℕ) → i < 3 → get_or (set t (peg p k) (suc k)) i 0 ≡ suc (k + top (drop k p) i)
    tops i hi =
        let there = inside t (peg p k) (omega (arith, w.tops (peg p k) on)) in
        elim (ℕ_discrete (peg p k) i) [
          | yes e ↦ rw (top_from_here p k h e, ← e, get_or-set_same) (omega arith)
          | no n ↦ rw (top_from_there p k h n, get_or-set_other t (peg p k) i (suc k) 0 (λ e. n (sym e)), w.tops i hi) (omega arith)
        ]

    beneaths : (d : ℕ) → k ≤ d → d < length p → get_or (set b k (get_or t (peg p k) 0)) d 0 ≡ suc (beneath p d)
    beneaths d l hd =
        elim (ℕ_discrete d k) [
          | yes e ↦ rw (e, get_or-set_same b k (get_or t (peg p k) 0) 0 (omega arith)) (w.tops (peg p k) on)
          | no n ↦ get_or-set_other b k d _ 0 n ∙ w.beneaths d (omega arith) hd
        ]

-- Arrays that hold all discs hold the position.
pub holds_all : {t b p : List ℕ} → HoldsFrom t b p 0 → Holds (record { top = t; beneath = b }) p
holds_all w =
    record {
      tops = λ i h. w.tops i h ∙ omega arith;
      beneaths = λ d h. w.beneaths d (omega arith) h;
    }

module _ (p : List ℕ) (m : Move) (l : Legal p m) where
  -- The disc that a legal move carries is the topmost of the peg that it reaches.
  pub top_moved_to : top (moved p m) m.to ≡ top p m.from
  top_moved_to =
      top_at (moved p m) m.to (top p m.from) (rw (length_moved p m) l.there) (moved_disc p m l.there)
      (λ e h. rw (moved_others p m e (omega arith)) (top_before p m.to e (omega arith)))

  -- The disc that was beneath it is the topmost of the peg that it leaves.
  pub top_moved_from : top (moved p m) m.from ≡ beneath p (top p m.from)
  unfolding beneath moved
  top_moved_from =
      let after = drop-set-lt (suc (top p m.from)) p (top p m.from) m.to (omega arith) in
      let seen = top_drop (moved p m) m.from (suc (top p m.from)) (rw (length_moved p m) l.there) none in
      rw (top_on p m.from l.there, ← after) seen
    where
      none : (d : ℕ) → d < suc (top p m.from) → peg (moved p m) d ≢ m.from
      none d h =
          elim (ℕ_discrete d (top p m.from)) [
            | yes e ↦ rw (e, moved_disc p m l.there) (λ c. l.apart (sym c))
            | no n ↦ rw (moved_others p m d n) (top_before p m.from d (omega arith))
          ]

  -- The third peg keeps its topmost disc.
  pub top_moved_other : (i : ℕ) → i ≢ m.from → i ≢ m.to → top (moved p m) i ≡ top p i
  unfolding moved
  top_moved_other i n o =
      top_set_other p i (top p m.from) m.to (rw (top_on p m.from l.there) (λ e. n (sym e))) (λ e. o (sym e))

  -- Beneath the disc that a legal move carries is what was topmost on the peg that it reaches.
  pub beneath_moved_disc : beneath (moved p m) (top p m.from) ≡ top p m.to
  unfolding beneath moved
  beneath_moved_disc =
      let after = drop-set-lt (suc (top p m.from)) p (top p m.from) m.to (omega arith) in
      let seen = top_drop p m.to (suc (top p m.from)) l.there (λ d h. top_before p m.to d (omega arith)) in
      rw (after, moved_disc p m l.there) (sym seen)

  -- Beneath any other disc is what was beneath it.
  pub beneath_moved_other : (d : ℕ) → d ≢ top p m.from → beneath (moved p m) d ≡ beneath p d
  unfolding beneath moved
  beneath_moved_other d n =
      let left : suc d ≤ top p m.from → peg p (top p m.from) ≢ peg p d =
      λ h e. top_before p m.from d h (sym e ∙ top_on p m.from l.there) in
      let reached : suc d ≤ top p m.from → m.to ≢ peg p d = λ h e. top_before p m.to d (omega arith) (sym e) in
      rw (moved_others p m d n, top_drop_set p (peg p d) (suc d) (top p m.from) m.to left reached)

-- Arrays that hold a position hold after a legal move what it leaves.
pub holds_shifted : (a : Pegs) (p : List ℕ) (m : Move) → Holds a p → Legal p m → Holds (shifted a m.from m.to) (moved p m)
holds_shifted a p m w l = record { tops = tops; beneaths = beneaths }
  where
    -- The disc that goes, its place, and the disc beneath it.
    disc : get_or a.top m.from 0 ≡ suc (top p m.from)
    disc = w.tops m.from l.from_peg

    place : get_or a.top m.from 0 - 1 ≡ top p m.from
    place = omega (arith, disc)

    under : get_or a.beneath (top p m.from) 0 ≡ suc (beneath p (top p m.from))
    under = w.beneaths (top p m.from) l.there

    tops : (i : ℕ) → i < 3 → get_or (shifted a m.from m.to).top i 0 ≡ suc (top (moved p m) i)
    tops i hi =
        let there = inside a.top m.from (omega (arith, disc)) in
        let to_there = inside a.top m.to (omega (arith, w.tops m.to l.to_peg)) in
        let to_stays = lt-length-set a.top m.from (suc (beneath p (top p m.from))) to_there in
        elim (ℕ_discrete i m.to) [
          | yes e ↦ rw (place, under, e, get_or-set_same, top_moved_to p m l) disc
          | no n ↦ rw get_or-set_other
              elim (ℕ_discrete i m.from) [
                | yes e ↦ rw (place, under, e, get_or-set_same, top_moved_from p m l)
                | no o ↦ rw (get_or-set_other, top_moved_other p m l i o n) (w.tops i hi)
              ]
        ]

    beneaths : (d : ℕ) → d < length (moved p m) → get_or (shifted a m.from m.to).beneath d 0 ≡ suc (beneath (moved p m) d)
    beneaths d hd =
        let there = inside a.beneath (top p m.from) (omega (arith, under)) in
        elim (ℕ_discrete d (top p m.from)) [
          | yes e ↦ rw (place, e, get_or-set_same, beneath_moved_disc p m l) (w.tops m.to l.to_peg)
          | no n ↦ rw (place, get_or-set_other, beneath_moved_other p m l d n) (w.beneaths d (rw (length_moved p m) at hd))
        ]
