-- A move between two positions, given as the peg of each disc, and what it does to the gather length.
use Prim.Native.Nat.{ℕ, zero, suc, ◌+◌, ◌≤◌, ◌<◌}
use mathlib.Core.Path.{◌≡◌, ◌∙◌, ap, sym, refl, subst}
use mathlib.Core.Bool.{cond}
use mathlib.Core.Logic.{◌≢◌, inl, inr}
use native.Mathlib.Decide.{ℕ_discrete, dec_lt}
use native.Mathlib.Omega.{arith}
use lib.Dec.{eqb}
use borrow.Author.Tests.{eq-eqb, ne_eqb}
use Rattle.board.specs.Peg.{third}
use Rattle.board.proofs.Pegs.{third_peg, third_same, third_comm}
use Rattle.plan.specs.Gather.{gather}
use Rattle.plan.specs.Inner.Three.{Three}
use Rattle.plan.proofs.Three.{three_swap, three_turn, three_flip, compare_pegs, each_peg_lem}
use Rattle.plan.proofs.Gathering.{Pegs, Tower, gather_home, gather_away, gather_tower, gather_shift, gathered_tower}

-- Of k discs one goes from its peg to another, with every smaller disc on the third; the others stay.
pub record Step (k : ℕ) (p q : ℕ → ℕ) : Type 0 where
  pub disc : ℕ
  pub below : disc < k
  pub free : ℕ
  pub pegs : Three (p disc) (q disc) free
  pub smaller : Tower p disc free
  pub others : (d : ℕ) → d ≢ disc → p d ≡ q d

-- A move is taken back by a move.
abbrev pub step_back : {k : ℕ} {p q : ℕ → ℕ} → Step k p q → Step k q p
step_back s =
    record {
      disc = s.disc;
      below = s.below;
      free = s.free;
      pegs = three_swap s.pegs;
      smaller = λ d l. sym (s.others d (omega arith)) ∙ s.smaller d l;
      others = λ d n. sym (s.others d n);
    }

-- A move of fewer discs is a move of more.
abbrev pub step_more : {k : ℕ} {p q : ℕ → ℕ} → Step k p q → Step (suc k) p q
step_more s =
    record { disc = s.disc; below = omega arith; free = s.free; pegs = s.pegs; smaller = s.smaller; others = s.others }

-- A move of one of k + 1 discs is a move of the largest or of one of the k smaller ones, and then the largest stays.
abbrev pub step_less : {k : ℕ} {p q : ℕ → ℕ} (s : Step (suc k) p q) → s.disc ≢ k → Step k p q
step_less s n =
    record { disc = s.disc; below = omega arith; free = s.free; pegs = s.pegs; smaller = s.smaller; others = s.others }

-- The position with disc d + 1 put on peg j.
pub put : (ℕ → ℕ) → ℕ → ℕ → ℕ → ℕ
put p d j e = cond (eqb e d) j (p e)

pub put_same : (p : ℕ → ℕ) (d j : ℕ) → put p d j d ≡ j
unfolding put
put_same p d j = simp (eq-eqb d d refl)

pub put_other : (p : ℕ → ℕ) (d j e : ℕ) → e ≢ d → put p d j e ≡ p e
unfolding put
put_other p d j e n = simp (ne_eqb e d n)

pub put_pegs : (p : ℕ → ℕ) (d j : ℕ) → Pegs p → j < 3 → Pegs (put p d j)
put_pegs p d j hp hj e =
    elim (ℕ_discrete e d) [
      | yes f ↦ rw (f, put_same p d j) hj
      | no n ↦ rw (put_other p d j e n) (hp e)
    ]

-- Disc k + 1 may go to j when the smaller ones are on the third peg.
abbrev pub step_largest : (p : ℕ → ℕ) (k j z : ℕ) → Three (p k) j z → Tower p k z → Step (suc k) p (put p k j)
step_largest p k j z h t =
    record {
      disc = k;
      below = omega arith;
      free = z;
      pegs = rw (put_same p k j) h;
      smaller = t;
      others = λ d n. sym (put_other p k j d n);
    }

-- The largest of k + 1 discs crosses: the smaller ones are a tower on the third peg, before and after.
pub record Crossing (k : ℕ) (p q : ℕ → ℕ) : Type 0 where
  pub free : ℕ
  pub pegs : Three (p k) (q k) free
  pub before : Tower p k free
  pub after : Tower q k free

-- A move of the largest disc is a crossing.
pub step_crossing : {k : ℕ} {p q : ℕ → ℕ} (s : Step (suc k) p q) → s.disc ≡ k → Crossing k p q
step_crossing {k} {p} {q} s e =
    record {
      free = s.free;
      pegs = subst (λ (d : ℕ). Three (p d) (q d) s.free) e s.pegs;
      before = λ d l. s.smaller d (omega arith);
      after = λ d l. sym (s.others d (omega arith)) ∙ s.smaller d (omega arith);
    }

-- A crossing changes the gather length by at most one.
crossing_gather : (k : ℕ) {p q : ℕ → ℕ} → Crossing k p q → (j : ℕ) → j < 3 → gather q (suc k) j ≤ gather p (suc k) j + 1
crossing_gather k {p} {q} s =
    let h = s.pegs in
    each_peg_lem (λ j. gather q (suc k) j ≤ gather p (suc k) j + 1) h
    (omega (
      arith,
      gather_home p k refl,
      gather_shift p k (three_turn (three_turn h)) s.before,
      gather_away q k refl (three_swap h),
      gather_tower q k s.free s.after,
    ))
    (omega (
      arith,
      gather_away p k refl h,
      gather_tower p k s.free s.before,
      gather_home q k refl,
      gather_shift q k (three_swap (three_turn h)) s.after,
    ))
    (omega (
      arith,
      gather_away p k refl (three_flip h),
      gather_shift p k (three_swap (three_turn h)) s.before,
      gather_away q k refl (three_turn h),
      gather_shift q k (three_turn (three_turn h)) s.after,
    ))

-- Where the largest disc stays, the gather length changes as that of the smaller ones does.
kept_gather : (k : ℕ) (p q : ℕ → ℕ) → Pegs p → p k ≡ q k
    → ((j : ℕ) → j < 3 → gather q k j ≤ gather p k j + 1)
    → (j : ℕ) → j < 3 → gather q (suc k) j ≤ gather p (suc k) j + 1
unfolding gather
kept_gather k p q hp same h j hj = rw (← same) (omega (arith, h (third j (p k)) (third_peg j (p k) hj)))

-- One move changes the gather length by at most one; step_back gives the other way.
pub step_gather : (k : ℕ) {p q : ℕ → ℕ} → Pegs p → Step k p q → (j : ℕ) → j < 3 → gather q k j ≤ gather p k j + 1
step_gather zero hp s = absurd (omega arith)
step_gather (suc k) {p} {q} hp s =
    elim (ℕ_discrete s.disc k) [
      | yes e ↦ crossing_gather k (step_crossing s e)
      | no n ↦ kept_gather k p q hp (s.others k (omega arith)) (step_gather k hp (step_less s n))
    ]

-- A move that lowers the gather length by one.
pub record Lower (p : ℕ → ℕ) (k j : ℕ) : Type 0 where
  pub next : ℕ → ℕ
  pub pegs : Pegs next
  pub step : Step k p next
  pub less : gather next k j + 1 ≡ gather p k j

-- A move that lowers the target's length of the smaller discs lowers the whole.
lower_more : (p : ℕ → ℕ) (k j : ℕ) → Lower p k (third j (p k)) → Lower p (suc k) j
unfolding gather
lower_more p k j l =
    record {
      next = l.next;
      pegs = l.pegs;
      step = step_more l.step;
      less = let same : p k ≡ l.next k = l.step.others k (omega arith) in rw (← same) (omega (arith, l.less));
    }

-- Where the smaller discs are gathered, the largest may go to its target.
lower_cross : (p : ℕ → ℕ) → Pegs p → (k j z : ℕ) → Three (p k) j z → Tower p k z → Lower p (suc k) j
lower_cross p hp k j z t w =
    record {
      next = put p k j;
      pegs = put_pegs p k j hp t.second;
      step = step_largest p k j z t w;
      less = omega (
        arith,
        gather_home (put p k j) k (put_same p k j),
        gather_shift (put p k j) k (three_turn (three_flip t)) (λ d l. put_other p k j d (omega arith) ∙ w d l),
        gather_away p k refl t,
        gather_tower p k z w,
      );
    }

-- Where something is left to gather, some move lowers it.
pub gather_lower : (p : ℕ → ℕ) → Pegs p → (k j : ℕ) → j < 3 → 0 < gather p k j → Lower p k j
gather_lower p hp zero j hj h = absurd (unfold gather in omega arith)
gather_lower p hp (suc k) j hj h =
    elim (dec_lt 0 (gather p k (third j (p k)))) [
      | yes l ↦ lower_more p k j (gather_lower p hp k (third j (p k)) (third_peg j (p k) hj) l)
      | no n ↦ elim (compare_pegs (p k) j (hp k) hj) [
        | inl e ↦ absurd (omega (arith, gather_home p k e, ap (λ i. gather p k (third j i)) e, ap (gather p k) (third_same j)))
        | inr t ↦ lower_cross p hp k j (third (p k) j) t
            (gathered_tower p hp k (third (p k) j) t.third (omega (arith, ap (gather p k) (third_comm (p k) j))))
      ]
    ]
