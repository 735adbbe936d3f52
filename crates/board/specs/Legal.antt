-- The faults of a move on a position (document 01, Play): 3, a peg above 2; 8, from equals to or from is empty; 9, the disc in the way is
-- smaller.
use Rattle.std.specs.Prelude.{not, ◌&&◌, ◌||◌, List, ℕ, eqb, ltb, length}
use Rattle.board.specs.Move.{Move, top}
use Rattle.board.specs.Reply.{◌>>◌, Check, check}

unfoldable pub legal_check : List ℕ → Move → Check
legal_check p m = do
  check (not (ltb m.from 3 && ltb m.to 3)) 3
  check (eqb m.from m.to || eqb (top p m.from) (length p)) 8
  check (ltb (top p m.to) (top p m.from)) 9
