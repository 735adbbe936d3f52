-- Pegs are 0, 1 and 2, in text A, B and C (document 01).
use Rattle.std.specs.Prelude.{ℕ, ◌+◌, ◌-◌, cond, eqb}

-- The third peg of i and j, written i∘j (002, Definition 2): i where i = j, else the peg that is neither.
unfoldable pub third : ℕ → ℕ → ℕ
third i j = cond (eqb i j) i (3 - (i + j))
