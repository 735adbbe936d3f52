-- The number of ordered pairs that tie, by Hinz's recurrence.
use Prim.Native.Nat.{ℕ, zero, suc, ◌+◌, ◌*◌, ◌^◌, ◌≤◌, ◌<◌}
use mathlib.Core.Bool.{cond}
use mathlib.Core.List.{List, [], ◌∷◌, ◌++◌}
use mathlib.Core.Path.{◌≡◌, ◌∙◌, refl, sym}
use native.Mathlib.Decide.{ℕ_discrete, dec_lt}
use native.Mathlib.Omega.{arith}
use borrow.Author.Tests.{eq-eqb, ne_eqb, lt-ltb, le-ltb}
use lib.Dec.{eqb}
use lib.ListN.{length, get_or-append}
use lib.Seq.{get_or_at}
use Rattle.board.specs.Position.{peg}
use Rattle.plan.specs.Inner.Three.{Three}
use Rattle.plan.specs.Plan.{direct, detour, largest, lengths_of, way_of, plan_by, plan_of}
use Rattle.plan.specs.declared.answer.Lengths.{Lengths}
use Rattle.plan.proofs.Distance.{direct_append, detour_append}
use Rattle.plan.proofs.Three.{three_third}
use Rattle.averages.specs.Hinz.{x, ties_by}
use Rattle.averages.specs.Positions.{IsPosition, with_largest}
use Rattle.averages.specs.Totals.{is_tie, tie_of, tie_count}
use Rattle.averages.proofs.Crossings.{shifted}
use Rattle.averages.proofs.Gathers.{on, front_on}
use Rattle.averages.proofs.Hinz.{equal, equality, equal_alike}
use Rattle.averages.proofs.Pairs.{both, sum_pairs, both_none, both_cong, both_largest}
use Rattle.averages.proofs.Positions.{none_position, more_position}

-- 1 where the plan between the discs 1 to k of p and q is a tie, else 0.
tie : (ℕ → ℕ) → (ℕ → ℕ) → ℕ → ℕ
tie p q zero = 0
tie p q (suc k) = cond (eqb (p k) (q k)) (tie p q k) (equal (direct p q k) (detour p q k))

-- A way is a tie where its lengths are equal.
tie_way : (l : Lengths) → is_tie (way_of l) ≡ equal l.direct l.detour
unfolding way_of equal
tie_way l =
    elim (dec_lt l.direct l.detour) [
      | yes a ↦ rw (lt-ltb l.direct l.detour a, ne_eqb l.direct l.detour (omega arith))
      | no n ↦ elim (dec_lt l.detour l.direct) [
        | yes b ↦
            rw (
              le-ltb l.direct l.detour (omega arith),
              lt-ltb l.detour l.direct b,
              ne_eqb l.direct l.detour (omega arith),
            )
        | no m ↦
            rw (
              le-ltb l.direct l.detour (omega arith),
              le-ltb l.detour l.direct (omega arith),
              eq-eqb l.direct l.detour (omega arith),
            )
      ]
    ]

-- The plan's way is a tie there.
tie_by : (m : ℕ) (p q : ℕ → ℕ) (k : ℕ) → is_tie (plan_by m p q (largest p q k)).way ≡ tie p q k
unfolding plan_by largest tie
tie_by m p q zero = refl
tie_by m p q (suc k) =
    elim (ℕ_discrete (p k) (q k)) [
      | yes e ↦ rw (eq-eqb (p k) (q k) e) (tie_by m p q k)
      | no n ↦ rw (ne_eqb (p k) (q k) n) (tie_way (lengths_of p q k))
    ]

-- So it is with the plan between two positions.
tie_at : {n : ℕ} {s : List ℕ} (t : List ℕ) → IsPosition n s → tie_of s t ≡ tie (peg s) (peg t) n
unfolding plan_of
tie_at {n} {s} t hs = rw (← hs.size) (tie_by (length s) (peg s) (peg t) (length s))

-- What comes after the discs makes no difference.
tie_append : (p q zs ws : List ℕ) (k : ℕ) → k ≤ length p → k ≤ length q → tie (peg (p ++ zs)) (peg (q ++ ws)) k ≡ tie (peg p) (peg q) k
unfolding tie
tie_append p q zs ws zero hp hq = refl
tie_append p q zs ws (suc k) hp hq =
    rw (
      get_or-append p zs 0 k hp,
      get_or-append q ws 0 k hq,
      direct_append p q zs ws k hp hq,
      detour_append p q zs ws k hp hq,
      tie_append p q zs ws k (omega arith) (omega arith),
    )

-- The largest discs on one peg: as it is with the smaller ones.
tie_home : {n i : ℕ} {s t : List ℕ} → i < 3 → IsPosition n s → IsPosition n t → tie_of (with_largest i s) (with_largest i t) ≡ tie_of s t
unfolding tie
tie_home {n} {i} {s} {t} hi hs ht =
    tie_at (with_largest i t) (more_position hi hs)
    ∙ rw (get_or_at s i [] 0 n hs.size, get_or_at t i [] 0 n ht.size, eq-eqb i i refl)
    (tie_append s t (i ∷ []) (i ∷ []) n (omega (arith, hs.size)) (omega (arith, ht.size)))
    ∙ sym (tie_at t hs)

-- On two: the one-move plan and the two-move plan are equally long.
tie_away : {n a b c : ℕ} {s t : List ℕ} → Three a b c → IsPosition n s → IsPosition n t
    → tie_of (with_largest a s) (with_largest b t) ≡ equal (on c s + on c t) (on b s + on a t + 2 ^ n)
unfolding tie direct detour
tie_away {n} {a} {b} {c} {s} {t} h hs ht =
    tie_at (with_largest b t) (more_position h.first hs)
    ∙ rw (
      get_or_at s a [] 0 n hs.size,
      get_or_at t b [] 0 n ht.size,
      ne_eqb a b h.first_second,
      three_third h,
      front_on a c hs,
      front_on b c ht,
      front_on a b hs,
      front_on b a ht,
    )
    (shifted equality 1 (omega arith) (omega arith))

-- A disc more.
ties_next : (n : ℕ) → both (suc n) tie_of ≡ 3 * both n tie_of + 6 * x n
ties_next n =
    both_largest n tie_of (both n tie_of) (x n)
    (λ i hi. both_cong n _ _ (λ s t hs ht. tie_home hi hs ht))
    (λ a b c h. both_cong n _ _ (λ s t hs ht. tie_away h hs ht) ∙ (equal_alike n).crossed h)

-- So the ties of all ordered pairs are those of the recurrences.
both_ties : (n : ℕ) → both n tie_of ≡ ties_by n
unfolding ties_by
both_ties zero = both_none tie_of ∙ tie_at [] none_position ∙ unfold tie in refl
both_ties (suc n) = rw (← both_ties n) (ties_next n)

pub ties_hinz : (n : ℕ) → tie_count n ≡ ties_by n
unfolding tie_count
ties_hinz n = sum_pairs n (λ c. tie_of c.0 c.1) ∙ both_ties n
