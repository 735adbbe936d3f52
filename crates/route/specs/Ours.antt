-- Our routes as the calls give them (document 01, "What demand 3 speaks of").
use Rattle.std.specs.Prelude.{ℕ, zero, suc, cond, List, [], ◌∷◌, ◌++◌, eqb}
use Rattle.board.specs.Move.{Move}
use Rattle.board.specs.Reply.{Reply, refused, answer}
use Rattle.route.specs.Answer.{move_answer}
use Rattle.route.specs.Route.{plain}
use Rattle.route.specs.declared.answer.DiscMove.{DiscMove}

-- The from and to of a reply of Move; none where it is refused.
abbrev pub from_to : Reply DiscMove → List Move
from_to (refused k) = []
from_to (answer m) = plain m ∷ []

-- What Move answers for route r at so many indexes from i on.
unfoldable pub moves_from : List ℕ → ℕ → ℕ → ℕ → List Move
moves_from t r i zero = []
moves_from t r i (suc n) = from_to (move_answer t r i) ++ moves_from t r (suc i) n

-- Our route r of length n: the list of from and to that Move answers for each index from 0 to below n, in that order.
abbrev pub our_route : List ℕ → ℕ → ℕ → List Move
our_route t r n = moves_from t r 0 n

-- A letter read as a peg: A, B or C; any other byte is none.
unfoldable pub read_peg : ℕ → ℕ
read_peg c = cond (eqb c 65) 0 (cond (eqb c 66) 1 (cond (eqb c 67) 2 3))

-- What Run writes, read as moves: a pair of letters each, from then to.
unfoldable pub read_moves : List ℕ → List Move
read_moves [] = []
read_moves (a ∷ []) = []
read_moves (a ∷ b ∷ l) = record { from = read_peg a; to = read_peg b } ∷ read_moves l
