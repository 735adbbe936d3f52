-- The sum of the fewest moves over all ordered pairs, by Hinz's recurrence.
use Prim.Native.Nat.{ℕ, zero, suc, ◌+◌, ◌-◌, ◌*◌, ◌^◌, ◌≤◌, ◌<◌, min}
use mathlib.Core.List.{List, [], ◌∷◌}
use mathlib.Core.Path.{◌≡◌, ◌∙◌, refl, sym, ap}
use native.Mathlib.Nat.{mul-add, mul_left_comm}
use native.Mathlib.Omega.{arith}
use lib.Seq.{get_or_at}
use Rattle.board.specs.Fewest.{same, reaches, first, fewest}
use Rattle.board.specs.Position.{peg}
use Rattle.plan.specs.Inner.Three.{Three}
use Rattle.plan.proofs.Distance.{dist, dist_home, dist_away, dist_append}
use Rattle.plan.proofs.Optimal.{fewest_dist}
use Rattle.plan.proofs.Three.{pegs}
use Rattle.averages.specs.Hinz.{u, sum_by}
use Rattle.averages.specs.Positions.{IsPosition, with_largest}
use Rattle.averages.specs.Totals.{fewest_sum}
use Rattle.averages.proofs.Gathers.{on, front_on, gather_sum, gathers_total, both_on}
use Rattle.averages.proofs.Hinz.{margin_alike}
use Rattle.averages.proofs.Pairs.{both, sum_pairs, both_none, both_add, both_cong, both_largest}
use Rattle.averages.proofs.Positions.{more_position}
use Rattle.averages.proofs.Powers.{power_times, in_sum_lem}

-- The fewest moves between two positions of n discs are their distance.
fewest_at : {n : ℕ} {s t : List ℕ} → IsPosition n s → IsPosition n t → fewest s t ≡ dist (peg s) (peg t) n
fewest_at {n} {s} {t} hs ht =
    rw (← hs.size) (fewest_dist s t (hs.size ∙ sym ht.size) hs.formed ht.formed)

-- The largest discs on one peg: the fewest of the smaller ones.
fewest_home : {n i : ℕ} {s t : List ℕ} → i < 3 → IsPosition n s → IsPosition n t → fewest (with_largest i s) (with_largest i t) ≡ fewest s t
fewest_home {n} {i} {s} {t} hi hs ht =
    fewest_at (more_position hi hs) (more_position hi ht)
    ∙ dist_home (peg (with_largest i s)) (peg (with_largest i t)) n (get_or_at s i [] 0 n hs.size ∙ sym (get_or_at t i [] 0 n ht.size))
    ∙ dist_append s t (i ∷ []) (i ∷ []) n (omega (arith, hs.size)) (omega (arith, ht.size))
    ∙ sym (fewest_at hs ht)

-- On two: the lesser of the one-move plan and the two-move plan.
fewest_away : {n a b c : ℕ} {s t : List ℕ} → Three a b c → IsPosition n s → IsPosition n t
    → fewest (with_largest a s) (with_largest b t) ≡ min (on c s + 1 + on c t) (on b s + 2 ^ n + 1 + on a t)
fewest_away {n} {a} {b} {c} {s} {t} h hs ht =
    fewest_at (more_position h.first hs) (more_position h.second ht)
    ∙ dist_away (peg (with_largest a s)) (peg (with_largest b t)) n (get_or_at s a [] 0 n hs.size) (get_or_at t b [] 0 n ht.size) h
    ∙ rw (front_on a c hs, front_on b c ht, front_on a b hs, front_on b a ht)

-- Over all pairs with the largest discs so: the one-move plans, less what the two-move plans save.
away_sum : (n : ℕ) {a b c : ℕ} → Three a b c
    → both n (λ s t. fewest (with_largest a s) (with_largest b t)) + u n ≡ 2 * (3 ^ n * gather_sum n) + 9 ^ n
away_sum n {a} {b} {c} h =
    let least : List ℕ → List ℕ → ℕ = λ s t. fewest (with_largest a s) (with_largest b t) in
    let saved : List ℕ → List ℕ → ℕ = λ s t. on c s + on c t - (on b s + on a t + 2 ^ n) in
    let one_move : both n (λ s t. least s t + saved s t) ≡ both n (λ s t. on c s + on c t + 1) =
    both_cong n _ _ (λ s t hs ht. omega (arith, fewest_away h hs ht)) in
    omega (arith, both_add n least saved, (margin_alike n).crossed h, both_on n c c 1 h.third h.third)

-- What all one-move plans of a disc more add up to (002, (8)).
one_moves : (n : ℕ) → 6 * (2 * (3 ^ n * gather_sum n) + 9 ^ n) ≡ 2 * 9 ^ n * (2 ^ (n + 2) - 1)
one_moves n =
    let gathers = ap (λ (m : ℕ). 3 ^ n * m) (gathers_total n) in
    omega (
      arith,
      mul-add (3 ^ n) (3 * gather_sum n) (2 * 3 ^ n),
      mul_left_comm (3 ^ n) 3 (gather_sum n),
      mul_left_comm (3 ^ n) 2 (3 ^ n),
      mul_left_comm (3 ^ n) 2 (6 ^ n),
      power_times 3 3 n,
      power_times 3 6 n,
      in_sum_lem n,
    )

-- A disc more.
sum_next : (n : ℕ) → both (suc n) fewest ≡ 3 * both n fewest + 2 * 9 ^ n * (2 ^ (n + 2) - 1) - 6 * u n
sum_next n =
    let away = 2 * (3 ^ n * gather_sum n) + 9 ^ n - u n in
    let parts : both (suc n) fewest ≡ 3 * both n fewest + 6 * away =
    both_largest n fewest (both n fewest) away
    (λ i hi. both_cong n _ _ (λ s t hs ht. fewest_home hi hs ht))
    (λ a b c h. omega (arith, away_sum n h)) in
    omega (arith, away_sum n pegs, one_moves n)

-- The one-move plans are at least what is saved.
pub saved_less : (n : ℕ) → 6 * u n ≤ 2 * 9 ^ n * (2 ^ (n + 2) - 1)
saved_less n = omega (arith, away_sum n pegs, one_moves n)

-- So the sum over all ordered pairs is that of the recurrences.
both_sum : (n : ℕ) → both n fewest ≡ sum_by n
unfolding sum_by
both_sum zero = both_none fewest ∙ unfold fewest first reaches same in refl
both_sum (suc n) = rw (← both_sum n) (sum_next n)

pub sum_hinz : (n : ℕ) → fewest_sum n ≡ sum_by n
unfolding fewest_sum
sum_hinz n = sum_pairs n (λ c. fewest c.0 c.1) ∙ both_sum n
