-- Laws of discs taken off one by one, the smallest first: they can be taken off the pegs of a position exactly where that is the position
-- that the arrays hold.
use Prim.Native.Nat.{ℕ, suc, ◌+◌, ◌-◌, ◌≤◌, ◌<◌, min}
use mathlib.Core.Bool.{true, false, ◌&&◌}
use mathlib.Core.List.{List, [], ◌∷◌}
use mathlib.Core.Logic.{◌≢◌}
use mathlib.Core.Path.{◌≡◌, ◌∙◌, refl, sym, ap}
use native.Mathlib.Decide.{ℕ_discrete}
use native.Mathlib.Omega.{arith}
use borrow.Author.Tests.{eq-eqb, ne_eqb}
use lib.Dec.{eqb}
use lib.ListN.{length, get_or, take, drop, set, length-drop, drop_of_length-le}
use lib.Seq.{drop-cons, get_or-set_same, get_or-set_other}
use Rattle.board.specs.Fewest.{same}
use Rattle.board.specs.Move.{top}
use Rattle.board.specs.Position.{peg, WellFormed}
use Rattle.board.specs.Task.{limit}
use Rattle.board.proofs.Formed.{formed_head, formed_tail, formed_drop}
use Rattle.board.proofs.Search.{same_apart}
use Rattle.board.proofs.Top.{top_here, top_there}
use Rattle.plan.proofs.Parts.{part_to_end}
use Rattle.run.specs.Inner.Pegs.{beneath, Holds}
use Rattle.run.proofs.Held.{inside}
use Rattle.checker.specs.Inner.Stacks.{taken_off}
use Rattle.checker.specs.Inner.Walk.{letter_of, Kept}
use Rattle.checker.specs.declared.discs.Discs.{Discs}

-- The test from disc d + 1 on is that of its peg, and of the discs after it.
taken_from : (t b q : List ℕ) (d : ℕ) → d < length q
    → taken_off t b d (drop d q) ≡ (eqb (get_or t (get_or q d 0) 0) (suc d) && taken_off (set t (get_or q d 0) (get_or b d 0)) b (suc d) (drop (suc d) q))
unfolding taken_off
taken_from t b q d h = ap (taken_off t b d) (drop-cons q d 0 h)

-- A disc that is topmost on its peg is taken off.
pub taken_past : (t b q : List ℕ) (d : ℕ) → d < length q → get_or t (get_or q d 0) 0 ≡ suc d
    → taken_off (set t (get_or q d 0) (get_or b d 0)) b (suc d) (drop (suc d) q) ≡ taken_off t b d (drop d q)
taken_past t b q d h e = rw (taken_from t b q d h, eq-eqb (get_or t (get_or q d 0) 0) (suc d) e)

-- One that is not cannot be.
pub taken_fails : (t b q : List ℕ) (d : ℕ) → d < length q → get_or t (get_or q d 0) 0 ≢ suc d → taken_off t b d (drop d q) ≡ false
taken_fails t b q d h n = rw (taken_from t b q d h, ne_eqb (get_or t (get_or q d 0) 0) (suc d) n)

-- Where no disc is left all are taken off.
pub taken_end : (t b q : List ℕ) (d : ℕ) → length q ≤ d → taken_off t b d (drop d q) ≡ true
unfolding taken_off
taken_end t b q d h = rw (drop_of_length-le q h)

-- The arrays hold the discs of p, the first of them disc d + 1.
record HoldsAfter (t b p : List ℕ) (d : ℕ) : Type 0 where
  tops : (i : ℕ) → i < 3 → get_or t i 0 ≡ suc (d + top p i)
  beneaths : (e : ℕ) → e < length p → get_or b (d + e) 0 ≡ suc (d + beneath p e)

-- Disc d + 1, on peg i, is taken off.
holds_less : (t b p : List ℕ) (d i : ℕ) → i < 3 → HoldsAfter t b (i ∷ p) d → HoldsAfter (set t i (get_or b d 0)) b p (suc d)
unfolding beneath
holds_less t b p d i hi h = record { tops = tops; beneaths = beneaths }
  where
    under : get_or b d 0 ≡ suc (suc d + top p i)
    under =
        let first : d + 0 ≡ d = omega arith in
        let here = rw first at (h.beneaths 0 (omega arith)) in omega (arith, here)

    tops : (j : ℕ) → j < 3 → get_or (set t i (get_or b d 0)) j 0 ≡ suc (suc d + top p j)
    tops j hj =
        elim (ℕ_discrete j i) [
          | yes e ↦ rw e (get_or-set_same t i (get_or b d 0) 0 (inside t i (omega (arith, h.tops i hi))) ∙ under)
          | no n ↦ get_or-set_other t i j (get_or b d 0) 0 n ∙ h.tops j hj ∙ omega (arith, top_there p (λ e. n (sym e)))
        ]

    beneaths : (e : ℕ) → e < length p → get_or b (suc d + e) 0 ≡ suc (suc d + beneath p e)
    beneaths e l =
        let next : d + suc e ≡ suc d + e = omega arith in
        let here = rw next at (h.beneaths (suc e) (omega arith)) in omega (arith, here)

-- So the discs of q can be taken off exactly where q is p.
taken_same : (q p t b : List ℕ) (d : ℕ) → length p ≡ length q → WellFormed q → HoldsAfter t b p d → taken_off t b d q ≡ same p q
unfolding taken_off same
taken_same [] [] t b d size formed h = refl
taken_same [] (j ∷ p) t b d size formed h = absurd (omega arith)
taken_same (i ∷ q) [] t b d size formed h = absurd (omega arith)
taken_same (i ∷ q) (j ∷ p) t b d size formed h =
    let hi = formed_head i q formed in
    elim (ℕ_discrete j i) [
      | yes e ↦
          let first : get_or t i 0 ≡ suc d = omega (arith, h.tops i hi, top_here p e) in
          let rest = taken_same q p (set t i (get_or b d 0)) b (suc d) (omega arith) (formed_tail i q formed) (holds_less t b p d i hi (rw e at h)) in
          rw (eq-eqb (get_or t i 0) (suc d) first, eq-eqb j i e) rest
      | no n ↦
          let other : get_or t i 0 ≢ suc d = λ e. omega (arith, h.tops i hi, top_there p n) in
          rw (ne_eqb (get_or t i 0) (suc d) other, ne_eqb j i n)
    ]

-- The discs after as many as are known by their letters are those after the first two.
drop_apart : (p : List ℕ) → drop (min (length p) 2) p ≡ drop 2 p
drop_apart [] = refl
drop_apart (b ∷ []) = refl
drop_apart (b ∷ c ∷ p) = let two : min (length (b ∷ c ∷ p)) 2 ≡ 2 = omega arith in rw two

pub larger_part : (p : List ℕ) {k : ℕ} → k ≡ min (length p) 2 → take (length p - k) (drop k p) ≡ drop 2 p
larger_part p {k} e = rw (part_to_end, e) (drop_apart p)

-- They are well formed, and no more than all.
pub larger_fits : (p : List ℕ) {k : ℕ} → k ≡ min (length p) 2 → length p ≤ limit → WellFormed p
    → (length (take (length p - k) (drop k p)) ≤ limit) × WellFormed (take (length p - k) (drop k p))
larger_fits p e within formed = rw (larger_part p e) (omega (arith, length-drop 2 p), formed_drop 2 p formed)

-- Discs with the first on the same peg are the same where those after it are.
same_after : (p q : List ℕ) → length p ≡ length q → letter_of p ≡ letter_of q → same p q ≡ same (drop 1 p) (drop 1 q)
unfolding letter_of same
same_after [] [] size e = refl
same_after [] (i ∷ q) size e = absurd (omega arith)
same_after (j ∷ p) [] size e = absurd (omega arith)
same_after (j ∷ p) (i ∷ q) size e = let is : j ≡ i = omega arith in rw (eq-eqb j i is)

module _ {k : Discs} (p q : List ℕ) (kept : Kept k p) where
  -- Disc 1 is on another peg.
  pub kept_apart : k.small ≢ peg q 0 + 65 → same p q ≡ false
  kept_apart n = same_apart p q (λ e. n (omega (arith, kept.first, ap (λ (l : List ℕ). peg l 0) e)))

  -- Disc 2 is.
  pub kept_second : k.second ≢ letter_of (drop 1 q) → same p q ≡ false
  kept_second n = same_apart p q (λ e. n (sym kept.next ∙ ap (λ (l : List ℕ). letter_of (drop 1 l)) e))

  -- Both are on their pegs, and the larger discs can be taken off.
  pub kept_taken : length p ≡ length q → 0 < length q → WellFormed q → k.small ≡ peg q 0 + 65 → k.second ≡ letter_of (drop 1 q)
      → taken_off k.larger.top k.larger.beneath 0 (drop 2 q) ≡ same p q
  kept_taken size some formed e f = by p q size some formed (omega (arith, kept.first)) (kept.next ∙ f) kept.larger
    where
      by : (p q : List ℕ) → length p ≡ length q → 0 < length q → WellFormed q → peg p 0 ≡ peg q 0 → letter_of (drop 1 p) ≡ letter_of (drop 1 q)
          → Holds k.larger (drop 2 p) → taken_off k.larger.top k.larger.beneath 0 (drop 2 q) ≡ same p q
      by p [] size some formed e f h = absurd (omega arith)
      by [] (i ∷ q) size some formed e f h = absurd (omega arith)
      by (j ∷ p) (i ∷ q) size some formed e f h =
          let held : HoldsAfter k.larger.top k.larger.beneath (drop 1 p) 0 =
          record {
            tops = λ x l. omega (arith, h.tops x l);
            beneaths = λ x l. let same_place : 0 + x ≡ x = omega arith in rw same_place (omega (arith, h.beneaths x l));
          } in
          let sizes : length (drop 1 p) ≡ length (drop 1 q) = omega (arith, length-drop 1 p, length-drop 1 q) in
          taken_same (drop 1 q) (drop 1 p) k.larger.top k.larger.beneath 0 sizes (formed_drop 1 q (formed_tail i q formed)) held
          ∙ sym (same_after p q (omega arith) f)
          ∙ sym (unfold same in rw (eq-eqb j i e))

-- How the discs of a goal are compared.
pub ruleset stands = (larger_part, larger_fits, kept_apart, kept_second, kept_taken)
