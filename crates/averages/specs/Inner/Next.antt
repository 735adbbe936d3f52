-- The terms of one disc more, and those that are answered.
use Rattle.std.specs.Prelude.{ℕ, ◌+◌, ◌-◌, ◌*◌}
use Rattle.averages.specs.Terms.{in_sum, next_u, next_v, next_x, next_y, next_ties}
use Rattle.averages.specs.declared.answer.Totals.{Totals}
use Rattle.averages.specs.declared.terms.Terms.{Terms}

-- The sum of one disc more.
abbrev pub next_sum : Terms → ℕ
next_sum t = 3 * t.sum + in_sum t - 6 * t.u

-- One disc more.
abbrev pub next_of : Terms → Terms
next_of t =
    record {
      two = 2 * t.two;
      three = 3 * t.three;
      u = next_u t;
      v = next_v t;
      x = next_x t;
      y = next_y t;
      sum = next_sum t;
      ties = next_ties t;
    }

-- Those that are answered.
abbrev pub totals_in : Terms → Totals
totals_in t = record { sum = t.sum; ties = t.ties }
