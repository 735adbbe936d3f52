-- Letters of pegs: A, B and C (document 01; 02, CR 7).
use Rattle.std.specs.Prelude.{ℕ, Bool, true, ◌&&◌, List, [], ◌∷◌, ltb}
use Rattle.route.specs.Ours.{read_peg}

-- The test that a byte is the letter of a peg.
abbrev pub is_letter : ℕ → Bool
is_letter c = ltb (read_peg c) 3

-- The test that all bytes are.
unfoldable pub all_letters : List ℕ → Bool
all_letters [] = true
all_letters (c ∷ l) = is_letter c && all_letters l
