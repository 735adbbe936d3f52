-- Three pegs in some order: what a case split on pegs leaves.
use Prim.Native.Nat.{ℕ, ◌+◌, ◌-◌, ◌<◌}
use mathlib.Core.Path.{◌≡◌, ◌∙◌, ap, subst}
use mathlib.Core.Logic.{◌≢◌, ◌⊎◌, inl, inr}
use native.Mathlib.Decide.{ℕ_discrete}
use native.Mathlib.Omega.{arith}
use Rattle.board.specs.Peg.{third}
use Rattle.board.proofs.Pegs.{third_else}
use Rattle.plan.specs.Inner.Three.{Three}

-- Two different pegs and their third.
pub three : (i j : ℕ) → i < 3 → j < 3 → i ≢ j → Three i j (third i j)
three i j hi hj ij =
    rw (third_else i j ij)
    (record {
      first = hi;
      second = hj;
      third = omega arith;
      first_second = ij;
      first_third = omega arith;
      second_third = omega arith;
      sum = omega arith;
    })

-- The pegs themselves.
pub pegs : Three 0 1 2
pegs = omega arith

-- The third peg of two of three is the other.
pub three_third : {i j k : ℕ} → Three i j k → third i j ≡ k
three_third {i} {j} {k} h = let e : 3 - (i + j) ≡ k = omega arith in third_else i j h.first_second ∙ e

-- The order does not matter.
pub three_swap : {i j k : ℕ} → Three i j k → Three j i k
three_swap h =
    record {
      first = h.second;
      second = h.first;
      third = h.third;
      first_second = omega arith;
      first_third = h.second_third;
      second_third = h.first_third;
      sum = omega arith;
    }

pub three_turn : {i j k : ℕ} → Three i j k → Three j k i
three_turn h =
    record {
      first = h.second;
      second = h.third;
      third = h.first;
      first_second = h.second_third;
      first_third = omega arith;
      second_third = omega arith;
      sum = omega arith;
    }

pub three_flip : {i j k : ℕ} → Three i j k → Three i k j
three_flip h = three_turn (three_swap h)

-- Two pegs are the same, or there is a third.
pub compare_pegs : (i j : ℕ) → i < 3 → j < 3 → (i ≡ j) ⊎ Three i j (third i j)
compare_pegs i j hi hj = elim (ℕ_discrete i j) [ yes e ↦ inl e | no n ↦ inr (three i j hi hj n) ]

-- What holds of each of three pegs holds of every peg.
pub each_peg_lem : (P : ℕ → Type 0) {i j k : ℕ} → Three i j k → P i → P j → P k → (l : ℕ) → l < 3 → P l
each_peg_lem P {i} {j} {k} h pi pj pk l hl =
    elim (ℕ_discrete i l) [
      | yes e ↦ subst P e pi
      | no n ↦ elim (ℕ_discrete j l) [ yes e ↦ subst P e pj | no m ↦ let e : k ≡ l = omega arith in subst P e pk ]
    ]

-- What is added up over the three pegs is the same in any order.
pub three_sum : (f : ℕ → ℕ) {i j k : ℕ} → Three i j k → f 0 + f 1 + f 2 ≡ f i + f j + f k
three_sum f {i} {j} {k} h =
    let at : (l m : ℕ) → l ≡ m → f l ≡ f m = λ l m e. ap f e in
    elim (ℕ_discrete i 0) [
      | yes e ↦ elim (ℕ_discrete j 1) [
        | yes e' ↦ omega (arith, at i 0 e, at j 1 e', at k 2 (omega arith))
        | no n ↦ omega (arith, at i 0 e, at j 2 (omega arith), at k 1 (omega arith))
      ]
      | no l ↦ elim (ℕ_discrete i 1) [
        | yes e ↦ elim (ℕ_discrete j 0) [
          | yes e' ↦ omega (arith, at i 1 e, at j 0 e', at k 2 (omega arith))
          | no n ↦ omega (arith, at i 1 e, at j 2 (omega arith), at k 0 (omega arith))
        ]
        | no m ↦ elim (ℕ_discrete j 0) [
          | yes e' ↦ omega (arith, at i 2 (omega arith), at j 0 e', at k 1 (omega arith))
          | no n ↦ omega (arith, at i 2 (omega arith), at j 1 (omega arith), at k 0 (omega arith))
        ]
      ]
    ]
