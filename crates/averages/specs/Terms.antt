-- The terms of Hinz's recurrences for k discs, and the numbers on the way to those of one disc more (02, CR 10).
use Rattle.std.specs.Prelude.{ℕ, ◌+◌, ◌-◌, ◌*◌, ◌/◌, ◌^◌, ◌≤◌, ◌<◌}
use Rattle.averages.specs.Hinz.{u, v, x, y, sum_by, ties_by}
use Rattle.averages.specs.declared.terms.Terms.{Terms}

-- The terms of k discs.
unfoldable pub terms_of : ℕ → Terms
terms_of k =
    record { two = 2 ^ k; three = 3 ^ k; u = u k; v = v k; x = x k; y = y k; sum = sum_by k; ties = ties_by k }

-- 6 ^ k, and the products in the recurrences.
abbrev pub six : Terms → ℕ
six t = t.two * t.three

abbrev pub in_u : Terms → ℕ
in_u t = (t.three + 1) * (six t - 1)

abbrev pub in_v : Terms → ℕ
in_v t = six t * (t.three - 1)

abbrev pub in_sum : Terms → ℕ
in_sum t = 2 * (t.three * t.three) * (4 * t.two - 1)

-- What the recurrences make of the terms; the sum is in Inner/Next.
abbrev pub next_u : Terms → ℕ
next_u t = 2 * t.u + 2 * t.v + in_u t / 5

abbrev pub next_v : Terms → ℕ
next_v t = 2 * t.u + 3 * t.v + (six t - 1) / 5 + in_v t / 2

abbrev pub next_x : Terms → ℕ
next_x t = 2 * t.x + 2 * t.y + 1

abbrev pub next_y : Terms → ℕ
next_y t = 2 * t.x + 3 * t.y + 1

abbrev pub next_ties : Terms → ℕ
next_ties t = 3 * t.ties + 6 * t.x

-- Every number on the way to the terms of one disc more fits 64 bits, those not named being at most one that is, and no difference is
-- below 0.
pub record Fits (t : Terms) : Type 0 where
  pub sum : (3 * t.sum + in_sum t < 2 ^ 64) × (6 * t.u ≤ 3 * t.sum + in_sum t)
  pub ties : next_ties t < 2 ^ 64
  pub u_and_v : (next_u t < 2 ^ 64) × (next_v t < 2 ^ 64)
  pub x_and_y : (next_x t < 2 ^ 64) × (next_y t < 2 ^ 64)
  pub products : (in_u t < 2 ^ 64) × (in_v t < 2 ^ 64)
  pub powers : (4 * t.two < 2 ^ 64) × (3 * t.three < 2 ^ 64) × (six t < 2 ^ 64) × (2 * (t.three * t.three) < 2 ^ 64)
  pub positive : (1 ≤ t.two) × (1 ≤ t.three) × (1 ≤ six t)
