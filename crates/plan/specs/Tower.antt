-- The lengths of full towers (document 01, "Rules from the papers"; 02, CR 4).
use Rattle.std.specs.Prelude.{ℕ, ◌-◌, ◌^◌}

-- The moves that take a tower of d discs from one peg to another.
abbrev pub tower_length : ℕ → ℕ
tower_length d = 2 ^ d - 1
