-- The tests of a list of moves: that each is legal at its turn, and that the list leads from one position to another (document 01, `Legal`
-- and `Leads`).
use Rattle.std.specs.Prelude.{ℕ, Bool, true, ◌&&◌, List, [], ◌∷◌, ltb}
use Rattle.board.specs.Fewest.{same, legal}
use Rattle.board.specs.Move.{Move, moved}

-- The move is legal: it is between two pegs, and legal as such.
unfoldable pub legal_move : List ℕ → Move → Bool
legal_move p m = (ltb m.from 3 && ltb m.to 3) && legal p m

-- Each move is legal on what those before it leave.
unfoldable pub all_legal : List ℕ → List Move → Bool
all_legal p [] = true
all_legal p (m ∷ ms) = legal_move p m && all_legal (moved p m) ms

-- And the last leaves q.
unfoldable pub leads_to : List ℕ → List Move → List ℕ → Bool
leads_to p [] q = same p q
leads_to p (m ∷ ms) q = legal_move p m && leads_to (moved p m) ms q
