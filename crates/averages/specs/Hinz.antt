-- Hinz's recurrences (002, section 1.3.2). That every quotient in them is whole, and no difference below 0, is part of `Recurrences`
-- (Request10).
use Rattle.std.specs.Prelude.{ℕ, zero, suc, ◌+◌, ◌-◌, ◌*◌, ◌/◌, ◌^◌}

-- u and v (002, (9)).
unfoldable mutual
  pub u : ℕ → ℕ
  u zero = 0
  u (suc k) = 2 * u k + 2 * v k + (3 ^ k + 1) * (6 ^ k - 1) / 5

  pub v : ℕ → ℕ
  v zero = 0
  v (suc k) = 2 * u k + 3 * v k + (6 ^ k - 1) / 5 + 6 ^ k * (3 ^ k - 1) / 2

-- x and y (002, Lemma 2 iii and its proof).
unfoldable mutual
  pub x : ℕ → ℕ
  x zero = 0
  x (suc k) = 2 * x k + 2 * y k + 1

  pub y : ℕ → ℕ
  y zero = 0
  y (suc k) = 2 * x k + 3 * y k + 1

-- The sum of the fewest moves (002, (7) and (8)).
unfoldable pub sum_by : ℕ → ℕ
sum_by zero = 0
sum_by (suc k) = 3 * sum_by k + 2 * 9 ^ k * (2 ^ (k + 2) - 1) - 6 * u k

-- The number of ties (002, Proposition 6 i): those of pairs alike at disc k + 1, and those of pairs that differ there.
unfoldable pub ties_by : ℕ → ℕ
ties_by zero = 0
ties_by (suc k) = 3 * ties_by k + 6 * x k
