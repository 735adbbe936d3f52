-- Laws of the powers in the recurrences.
use Prim.Native.Nat.{ℕ, zero, suc, ◌+◌, ◌-◌, ◌*◌, ◌/◌, ◌%◌, ◌^◌, ◌≤◌}
use mathlib.Core.Path.{◌≡◌, ◌∙◌, refl, sym, ap, ap₂}
use native.Mathlib.Nat.{pow-zero, pow-succ', mul_comm, mul-add, add-mul, mul-one, one-mul, mul_left_comm, mul-mul-mul_comm, mul-sub, one-le-pow, pow-le-pow_left}
use native.Mathlib.Omega.{arith}
use lib.Dec.{lit≤}
use lib.Pow.{pow-add}

-- A product of powers is the power of the product.
pub power_times : (a b n : ℕ) → a ^ n * b ^ n ≡ (a * b) ^ n
power_times a b zero = rw (pow-zero a, pow-zero b, pow-zero (a * b))
power_times a b (suc n) =
    ap₂ ◌*◌ (pow-succ' a n) (pow-succ' b n)
    ∙ mul-mul-mul_comm a (a ^ n) b (b ^ n)
    ∙ ap (λ (m : ℕ). a * b * m) (power_times a b n)
    ∙ sym (pow-succ' (a * b) n)

-- Four times a power of 2.
pub two_more : (n : ℕ) → 4 * 2 ^ n ≡ 2 ^ (n + 2)
two_more n = omega (arith, pow-add 2 n 2)

-- 18 ^ n is the largest of the powers, and none is 0.
pub record BelowEighteen (n : ℕ) : Type 0 where
  pub two : 2 ^ n ≤ 18 ^ n
  pub three : 3 ^ n ≤ 18 ^ n
  pub six : 6 ^ n ≤ 18 ^ n
  pub nine : 9 ^ n ≤ 18 ^ n
  pub some : (1 ≤ 2 ^ n) × (1 ≤ 3 ^ n) × (1 ≤ 6 ^ n) × (1 ≤ 9 ^ n)

pub below_eighteen : (n : ℕ) → BelowEighteen n
below_eighteen n =
    record {
      two = pow-le-pow_left (lit≤ tt) n;
      three = pow-le-pow_left (lit≤ tt) n;
      six = pow-le-pow_left (lit≤ tt) n;
      nine = pow-le-pow_left (lit≤ tt) n;
      some = (one-le-pow n 2 (omega arith), one-le-pow n 3 (omega arith), one-le-pow n 6 (omega arith), one-le-pow n 9 (omega arith));
    }

-- A fifth of 6 ^ n − 1.
unfoldable pub fifth : ℕ → ℕ
fifth zero = 0
fifth (suc n) = 6 * fifth n + 1

pub fifths : (n : ℕ) → 6 ^ n ≡ 5 * fifth n + 1
unfolding fifth
fifths zero = refl
fifths (suc n) = omega (arith, fifths n, pow-succ' 6 n)

-- Half of 3 ^ n − 1.
half : ℕ → ℕ
half zero = 0
half (suc n) = 3 * half n + 1

halves : (n : ℕ) → 3 ^ n ≡ 2 * half n + 1
unfolding half
halves zero = refl
halves (suc n) = omega (arith, halves n, pow-succ' 3 n)

-- 18 ^ n by that fifth, and the same with a disc more.
pub eighteen_fifths : (n : ℕ) → 18 ^ n ≡ 5 * (3 ^ n * fifth n) + 3 ^ n
eighteen_fifths n =
    let e = ap (λ (m : ℕ). 3 ^ n * m) (fifths n) in
    omega (arith, power_times 3 6 n, mul-add (3 ^ n) (5 * fifth n) 1, mul_left_comm (3 ^ n) 5 (fifth n), mul-one (3 ^ n))

pub fifth_next : (n : ℕ) → 3 ^ suc n * fifth (suc n) ≡ 18 * (3 ^ n * fifth n) + 3 * 3 ^ n
unfolding fifth
fifth_next n =
    let e = ap (λ (m : ℕ). m * (6 * fifth n + 1)) (pow-succ' 3 n) in
    omega (arith, mul-add (3 * 3 ^ n) (6 * fifth n) 1, mul-mul-mul_comm 3 (3 ^ n) 6 (fifth n), mul-one (3 * 3 ^ n))

-- The products in u and in v are so many fives and so many twos.
in_fives : (n : ℕ) → (3 ^ n + 1) * (6 ^ n - 1) ≡ 5 * ((3 ^ n + 1) * fifth n)
in_fives n =
    let less : 6 ^ n - 1 ≡ 5 * fifth n = omega (arith, fifths n) in
    ap (λ (m : ℕ). (3 ^ n + 1) * m) less ∙ mul_left_comm (3 ^ n + 1) 5 (fifth n)

in_twos : (n : ℕ) → 6 ^ n * (3 ^ n - 1) ≡ 2 * (6 ^ n * half n)
in_twos n =
    let less : 3 ^ n - 1 ≡ 2 * half n = omega (arith, halves n) in
    ap (λ (m : ℕ). 6 ^ n * m) less ∙ mul_left_comm (6 ^ n) 2 (half n)

-- So the quotients in u and in v are whole.
pub wholes : (n : ℕ) → ((3 ^ n + 1) * (6 ^ n - 1) % 5 ≡ 0) × ((6 ^ n - 1) % 5 ≡ 0) × (6 ^ n * (3 ^ n - 1) % 2 ≡ 0)
wholes n = (omega (arith, in_fives n), omega (arith, fifths n), omega (arith, in_twos n))

-- These quotients, and the product in the sum.
pub a_fifth : (n : ℕ) → (6 ^ n - 1) / 5 ≡ fifth n
a_fifth n = omega (arith, fifths n)

pub in_u_lem : (n : ℕ) → (3 ^ n + 1) * (6 ^ n - 1) / 5 ≡ 3 ^ n * fifth n + fifth n
in_u_lem n = omega (arith, in_fives n, add-mul (3 ^ n) 1 (fifth n), one-mul (fifth n))

pub in_v_lem : (n : ℕ) → 2 * (6 ^ n * (3 ^ n - 1) / 2) + 6 ^ n ≡ 18 ^ n
in_v_lem n =
    let e = ap (λ (m : ℕ). 6 ^ n * m) (halves n) in
    omega (
      arith,
      in_twos n,
      mul_left_comm (6 ^ n) 2 (half n),
      mul-add (6 ^ n) (2 * half n) 1,
      mul-one (6 ^ n),
      mul_comm (3 ^ n) (6 ^ n),
      power_times 3 6 n,
    )

pub in_sum_lem : (n : ℕ) → 2 * 9 ^ n * (2 ^ (n + 2) - 1) + 2 * 9 ^ n ≡ 8 * 18 ^ n
in_sum_lem n =
    let e = ap (λ (m : ℕ). 2 * 9 ^ n * (m - 1)) (two_more n) in
    omega (arith, mul-sub (2 * 9 ^ n) (4 * 2 ^ n) 1, mul-mul-mul_comm 2 (9 ^ n) 4 (2 ^ n), power_times 9 2 n, (below_eighteen n).nine)
