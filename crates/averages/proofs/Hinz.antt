-- Crossings and exchanges by Hinz's recurrences: by how much the one-move plan is longer is u, and how often the two are equal is x.
use Prim.Native.Nat.{ℕ, zero, suc, ◌+◌, ◌-◌, ◌*◌, ◌/◌, ◌^◌}
use mathlib.Core.Bool.{cond}
use mathlib.Core.Path.{◌≡◌, ◌∙◌, sym}
use native.Mathlib.Decide.{ℕ_discrete}
use native.Mathlib.Nat.{mul_left_comm, zero-add}
use native.Mathlib.Omega.{arith}
use borrow.Author.Tests.{eq-eqb, ne_eqb}
use lib.Dec.{eqb}
use Rattle.averages.specs.Hinz.{u, v, x, y}
use Rattle.averages.proofs.Crossings.{Compares, Alike, alike_none, alike_next}
use Rattle.averages.proofs.Pairs.{both, both_add, both_cong}
use Rattle.averages.proofs.Powers.{fifth, fifths, a_fifth, fifth_next, power_times, eighteen_fifths, in_u_lem, in_v_lem}

-- By how much m is more than k.
margin : Compares ◌-◌ (λ e. e)
margin =
    record {
      shift = λ d m k. omega arith;
      less = λ m k h. omega arith;
      turn = λ n e f g h.
          let ways : both n (λ s t. f s t - g s t + g s t) ≡ both n (λ s t. g s t - f s t + f s t) = both_cong n _ _ (λ s t hs ht. omega arith) in
          omega (arith, both_add n (λ s t. f s t - g s t) g, both_add n (λ s t. g s t - f s t) f);
    }

-- 1 where m and k are equal, else 0.
unfoldable pub equal : ℕ → ℕ → ℕ
equal m k = cond (eqb m k) 1 0

-- The order makes no difference.
equal_comm : (m k : ℕ) → equal m k ≡ equal k m
unfolding equal
equal_comm m k =
    elim (ℕ_discrete m k) [
      | yes e ↦ rw (eq-eqb m k e, eq-eqb k m (sym e))
      | no l ↦ rw (ne_eqb m k l, ne_eqb k m (omega arith))
    ]

-- Whether two numbers are equal: exchanging the sides changes nothing.
pub equality : Compares equal (λ e. 0)
unfolding equal
equality =
    record {
      shift = λ d m k.
          elim (ℕ_discrete m k) [
            | yes e ↦ rw (eq-eqb m k e, eq-eqb (d + m) (d + k) (omega arith))
            | no l ↦ rw (ne_eqb m k l, ne_eqb (d + m) (d + k) (omega arith))
          ];
      less = λ m k h. rw (ne_eqb m k (omega arith));
      turn = λ n e f g h. both_cong n _ _ (λ s t hs ht. equal_comm (f s t) (g s t)) ∙ sym (zero-add _);
    }

-- Beside u stands 2 v + (3 ^ n + 1) (6 ^ n − 1) / 5, the sum of the exchanges.
abbrev exchanges : ℕ → ℕ
exchanges n = 2 * v n + (3 ^ n + 1) * (6 ^ n - 1) / 5

u_next : (n : ℕ) → 2 * u n + exchanges n ≡ u (suc n)
unfolding u
u_next n = omega arith

v_next : (n : ℕ) → 3 * exchanges n + 4 * u n + (9 ^ n * (2 * 2 ^ n) + 2 * (9 ^ n * 2 ^ n)) ≡ exchanges (suc n)
unfolding v fifth
v_next n =
    omega (
      arith,
      in_u_lem n,
      in_u_lem (suc n),
      in_v_lem n,
      a_fifth n,
      fifths n,
      fifth_next n,
      eighteen_fifths n,
      power_times 9 2 n,
      mul_left_comm (9 ^ n) 2 (2 ^ n),
    )

-- By how much the one-move plans are longer, added up, is u.
pub margin_alike : (n : ℕ) → Alike ◌-◌ n (u n) (exchanges n)
unfolding u v
margin_alike zero = alike_none margin
margin_alike (suc n) = rw (u_next n, v_next n) at (alike_next margin (margin_alike n))

-- Beside x stands 2 y + 1.
x_next : (n : ℕ) → 2 * x n + (2 * y n + 1) ≡ x (suc n)
unfolding x
x_next n = omega arith

y_next : (n : ℕ) → 3 * (2 * y n + 1) + 4 * x n + 0 ≡ 2 * y (suc n) + 1
unfolding y
y_next n = omega arith

-- How often the two plans are equally long is x.
pub equal_alike : (n : ℕ) → Alike equal n (x n) (2 * y n + 1)
unfolding x y equal
equal_alike zero = alike_none equality
equal_alike (suc n) = rw (x_next n, y_next n) at (alike_next equality (equal_alike n))
