-- The test that bytes are such a text, one byte after another, and the two positions that stand in it. The laws `read_text` and
-- `text_read` (proofs/Grammar) say that the test passes on the texts of specs/Input and on no other, and that the positions are theirs.
use Rattle.std.specs.Prelude.{ℕ, suc, ◌-◌, Bool, true, false, cond, not, ◌&&◌, List, [], ◌∷◌, eqb, ltb, length, take, drop}
use Rattle.text.specs.Input.{most, newline, space, comma, opening, closing}
use Rattle.text.specs.declared.read.Next.{Next}
use Rattle.text.specs.declared.read.Next.TheVariants.{Bracket, DigitOrEnd, CommaOrEnd, Space, Digit, Newline, Nothing}

-- The test that a byte is a digit.
unfoldable pub is_digit : ℕ → Bool
is_digit c = ltb 47 c && ltb c 58

-- What may come after the byte c, where e may come before it.
unfoldable pub follow : Next → ℕ → Next
follow Bracket c = cond (eqb c opening) DigitOrEnd Nothing
follow DigitOrEnd c = cond (eqb c closing) Newline (cond (is_digit c) CommaOrEnd Nothing)
follow CommaOrEnd c = cond (eqb c comma) Space (cond (eqb c closing) Newline Nothing)
follow Space c = cond (eqb c space) Digit Nothing
follow Digit c = cond (is_digit c) CommaOrEnd Nothing
follow Newline c = cond (eqb c newline) Bracket Nothing
follow Nothing c = Nothing

-- What may come after all of the bytes.
unfoldable pub follow_all : Next → List ℕ → Next
follow_all e [] = e
follow_all e (c ∷ b) = follow_all (follow e c) b

abbrev pub is_bracket : Next → Bool
is_bracket Bracket = true
is_bracket DigitOrEnd = false
is_bracket CommaOrEnd = false
is_bracket Space = false
is_bracket Digit = false
is_bracket Newline = false
is_bracket Nothing = false

-- How many lines end in the bytes.
unfoldable pub lines : List ℕ → ℕ
lines [] = 0
lines (c ∷ b) = cond (eqb c newline) (suc (lines b)) (lines b)

-- The test that the bytes are the text of two positions.
unfoldable pub is_text : List ℕ → Bool
is_text b = not (ltb most (length b)) && (eqb (lines b) 2 && is_bracket (follow_all Bracket b))

-- The digits among the bytes, as numbers.
unfoldable pub digits : List ℕ → List ℕ
digits [] = []
digits (c ∷ b) = cond (is_digit c) ((c - 48) ∷ digits b) (digits b)

-- Where the first line ends.
unfoldable pub line_end : List ℕ → ℕ
line_end [] = 0
line_end (c ∷ b) = cond (eqb c newline) 0 (suc (line_end b))

-- The positions of the two lines.
unfoldable pub start_in : List ℕ → List ℕ
start_in b = digits (take (line_end b) b)

unfoldable pub goal_in : List ℕ → List ℕ
goal_in b = digits (drop (line_end b) b)
