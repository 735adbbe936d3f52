-- Gather lengths of positions with a disc more, and their sum over all positions.
use Prim.Native.Nat.{ℕ, zero, suc, ◌+◌, ◌*◌, ◌^◌, ◌<◌}
use mathlib.Core.List.{List, [], ◌∷◌}
use mathlib.Core.Path.{◌≡◌, ◌∙◌, refl, ap}
use native.Mathlib.Nat.{pow-succ'}
use native.Mathlib.Omega.{arith}
use lib.ListN.{length, length-append}
use lib.Seq.{get_or-append_seam}
use Rattle.board.specs.Position.{peg}
use Rattle.board.proofs.Formed.{formed_pegs}
use Rattle.plan.specs.Gather.{gather}
use Rattle.plan.specs.Inner.Three.{Three}
use Rattle.plan.proofs.Gathering.{gather_home, gather_away, gather_append, gather_bound}
use Rattle.plan.proofs.Three.{pegs, three_swap, three_turn, three_flip, each_peg_lem}
use Rattle.averages.specs.Positions.{IsPosition, with_largest}
use Rattle.averages.proofs.Positions.{over, over_none, over_pegs, over_cong, over_add, over_const}
use Rattle.averages.proofs.Pairs.{both, both_add, both_start, both_goal, both_const}
use Rattle.averages.proofs.Powers.{power_times}

-- The moves that gather a position on peg j.
pub on : ℕ → List ℕ → ℕ
on j s = gather (peg s) (length s) j

-- No discs take none.
pub on_none : (j : ℕ) → on j [] ≡ 0
unfolding on gather
on_none j = refl

-- A position with a disc more: how many discs it has, where the new one is, and what the others take.
more_size : (i : ℕ) (s : List ℕ) → length (with_largest i s) ≡ suc (length s)
more_size i s = omega (arith, length-append s (i ∷ []))

more_peg : (i : ℕ) (s : List ℕ) → peg (with_largest i s) (length s) ≡ i
more_peg i s = get_or-append_seam s i [] 0

pub front_on : {n : ℕ} {s : List ℕ} (i j : ℕ) → IsPosition n s → gather (peg (with_largest i s)) n j ≡ on j s
unfolding on
front_on {n} {s} i j h = rw (← h.size) (gather_append s (i ∷ []) (length s) j (omega arith))

-- The new disc is on the target, and the others keep it.
on_home : (j : ℕ) (s : List ℕ) → on j (with_largest j s) ≡ on j s
unfolding on
on_home j s =
    rw (more_size j s)
    (gather_home (peg (with_largest j s)) (length s) (more_peg j s) ∙ gather_append s (j ∷ []) (length s) j (omega arith))

-- It is not, and the others make way first.
on_away : {i j z : ℕ} → Three i j z → (s : List ℕ) → on j (with_largest i s) ≡ 2 ^ length s + on z s
unfolding on
on_away {i} {j} {z} h s =
    rw (more_size i s)
    (gather_away (peg (with_largest i s)) (length s) (more_peg i s) h
    ∙ ap (λ (m : ℕ). 2 ^ length s + m) (gather_append s (i ∷ []) (length s) z (omega arith)))

-- A position takes fewer than 2 ^ n moves.
on_bound : (n j : ℕ) (s : List ℕ) → j < 3 → IsPosition n s → on j s < 2 ^ n
unfolding on
on_bound n j s hj h = rw (← h.size) (gather_bound (peg s) (formed_pegs s h.formed) (length s) j hj)

-- What a position s of n discs takes to each of three pegs, with a disc more on the first of them ..
pub record LengthsWith (n a b c : ℕ) (s : List ℕ) : Type 0 where
  pub home : on a (with_largest a s) ≡ on a s
  pub to_second : on b (with_largest a s) ≡ 2 ^ n + on c s
  pub to_third : on c (with_largest a s) ≡ 2 ^ n + on b s
  pub bounded : on a s < 2 ^ n

-- .. and on each of them.
pub record LengthsWithEach (n a b c : ℕ) (s : List ℕ) : Type 0 where
  pub first : LengthsWith n a b c s
  pub second : LengthsWith n b a c s
  pub third : LengthsWith n c a b s

lengths_with_lem : (n : ℕ) {a b c : ℕ} → Three a b c → (s : List ℕ) → IsPosition n s → LengthsWith n a b c s
lengths_with_lem n {a} {b} {c} h s hs =
    let size : 2 ^ length s ≡ 2 ^ n = ap (λ (k : ℕ). 2 ^ k) hs.size in
    record {
      home = on_home a s;
      to_second = omega (arith, on_away h s);
      to_third = omega (arith, on_away (three_flip h) s);
      bounded = on_bound n a s h.first hs;
    }

pub lengths_with_each : (n : ℕ) {a b c : ℕ} → Three a b c → (s : List ℕ) → IsPosition n s → LengthsWithEach n a b c s
lengths_with_each n h s hs =
    record { first = lengths_with_lem n h s hs; second = lengths_with_lem n (three_swap h) s hs; third = lengths_with_lem n (three_swap (three_flip h)) s hs }

-- What all positions take to one peg, added up (002, Proposition 4).
over_three : (n : ℕ) {a b c : ℕ} → Three a b c → 3 * over n (on a) + 2 * 3 ^ n ≡ 2 * 6 ^ n
over_three zero {a} h = omega (arith, over_none (on a), on_none a)
over_three (suc n) {a} {b} {c} h =
    let each = lengths_with_each n h in
    let same : over n (λ s. on a (with_largest a s)) ≡ over n (on a) = over_cong n _ _ (λ s hs. (each s hs).first.home) in
    let more : ℕ → ℕ = λ z. 3 ^ n * 2 ^ n + over n (on z) in
    let far : (z : ℕ) → over n (λ s. 2 ^ n + on z s) ≡ more z = λ z.
    over_add n (λ s. 2 ^ n) (on z) ∙ ap (λ (m : ℕ). m + over n (on z)) (over_const n (2 ^ n)) in
    let second : over n (λ s. on a (with_largest b s)) ≡ more c =
    over_cong n _ (λ s. 2 ^ n + on c s) (λ s hs. (each s hs).second.to_second) ∙ far c in
    let third : over n (λ s. on a (with_largest c s)) ≡ more b =
    over_cong n _ (λ s. 2 ^ n + on b s) (λ s hs. (each s hs).third.to_second) ∙ far b in
    omega (
      arith,
      over_pegs n (on a) h,
      over_three n h,
      over_three n (three_swap h),
      over_three n (three_turn (three_turn h)),
      power_times 3 2 n,
      pow-succ' 3 n,
      pow-succ' 6 n,
    )

-- What they take to peg 0 ..
pub gather_sum : ℕ → ℕ
gather_sum n = over n (on 0)

pub gathers_total : (n : ℕ) → 3 * gather_sum n + 2 * 3 ^ n ≡ 2 * 6 ^ n
unfolding gather_sum
gathers_total n = over_three n pegs

-- .. is what they take to every peg.
over_on : (n j : ℕ) → j < 3 → over n (on j) ≡ gather_sum n
unfolding gather_sum
over_on n =
    each_peg_lem (λ j. over n (on j) ≡ over n (on 0)) pegs
    refl
    (omega (arith, over_three n pegs, over_three n (three_swap pegs)))
    (omega (arith, over_three n pegs, over_three n (three_turn (three_turn pegs))))

-- So it is for the start and the goal of all pairs, whichever pegs they are gathered on, with d more for each pair.
pub both_on : (n i j d : ℕ) → i < 3 → j < 3
    → both n (λ s t. on i s + on j t + d) ≡ 2 * (3 ^ n * gather_sum n) + 9 ^ n * d
both_on n i j d hi hj =
    let times : ℕ → ℕ = λ m. 3 ^ n * m in
    let start : both n (λ s t. on i s) ≡ 3 ^ n * gather_sum n = both_start n (on i) ∙ ap times (over_on n i hi) in
    let goal : both n (λ s t. on j t) ≡ 3 ^ n * gather_sum n = both_goal n (on j) ∙ ap times (over_on n j hj) in
    omega (arith, both_add n (λ s t. on i s + on j t) (λ s t. d), both_add n (λ s t. on i s) (λ s t. on j t), both_const n d)
