-- The terms that the code works out are those of the recurrences, one disc after another, and all of them fit 64 bits.
use Prim.Native.Nat.{ℕ, zero, suc, ◌+◌, ◌-◌, ◌*◌, ◌^◌, ◌≤◌, ◌<◌}
use mathlib.Core.Path.{◌≡◌, ap, ap₂}
use native.Mathlib.Nat.{pow-succ', pow-le-pow_right}
use native.Mathlib.Omega.{arith}
use Rattle.averages.specs.Answer.{totals_limit}
use Rattle.averages.specs.Hinz.{u, v, x, y, sum_by, ties_by}
use Rattle.averages.specs.Inner.Next.{next_of}
use Rattle.averages.specs.Terms.{terms_of, in_u, in_v, in_sum, Fits}
use Rattle.averages.proofs.Powers.{power_times, two_more, fifths, a_fifth, eighteen_fifths, below_eighteen, in_u_lem, in_v_lem, in_sum_lem}

-- The products of the terms of k discs are those of the recurrences.
in_u_is : (k : ℕ) → in_u (terms_of k) ≡ (3 ^ k + 1) * (6 ^ k - 1)
unfolding terms_of
in_u_is k = ap (λ (m : ℕ). (3 ^ k + 1) * (m - 1)) (power_times 2 3 k)

in_v_is : (k : ℕ) → in_v (terms_of k) ≡ 6 ^ k * (3 ^ k - 1)
unfolding terms_of
in_v_is k = ap (λ (m : ℕ). m * (3 ^ k - 1)) (power_times 2 3 k)

in_sum_is : (k : ℕ) → in_sum (terms_of k) ≡ 2 * 9 ^ k * (2 ^ (k + 2) - 1)
unfolding terms_of
in_sum_is k = ap₂ (λ (m l : ℕ). 2 * m * (l - 1)) (power_times 3 3 k) (two_more k)

-- So what the code makes of these terms is the terms of one disc more.
pub terms_next : (k : ℕ) → next_of (terms_of k) ≡ terms_of (suc k)
unfolding terms_of u v x y sum_by ties_by
terms_next k = rw (pow-succ' 2 k, pow-succ' 3 k, power_times 2 3 k, power_times 3 3 k, two_more k)

-- All terms of k discs are at most 18 ^ k.
record Small (k : ℕ) : Type 0 where
  small_u : u k ≤ 18 ^ k
  small_v : v k ≤ 18 ^ k
  small_x : x k ≤ 18 ^ k
  small_y : y k ≤ 18 ^ k
  small_sum : sum_by k ≤ 18 ^ k
  small_ties : ties_by k ≤ 18 ^ k

small : (k : ℕ) → Small k
unfolding u v x y sum_by ties_by
small zero = omega arith
small (suc k) =
    omega (
      arith,
      small k,
      below_eighteen k,
      pow-succ' 18 k,
      fifths k,
      a_fifth k,
      eighteen_fifths k,
      in_u_lem k,
      in_v_lem k,
      in_sum_lem k,
    )

-- So up to the limit every number on the way to the terms of one disc more fits 64 bits.
pub terms_fit : (k : ℕ) → k < totals_limit → Fits (terms_of k)
unfolding terms_of
terms_fit k h =
    let most : 18 ^ suc k ≤ 18 ^ totals_limit = pow-le-pow_right (omega arith) h in
    omega (
      arith,
      small k,
      below_eighteen k,
      pow-succ' 18 k,
      power_times 2 3 k,
      in_u_is k,
      in_v_is k,
      in_sum_is k,
      power_times 3 3 k,
      fifths k,
      a_fifth k,
      eighteen_fifths k,
      in_u_lem k,
      in_v_lem k,
      in_sum_lem k,
    )
