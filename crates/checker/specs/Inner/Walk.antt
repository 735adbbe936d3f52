-- A walk along a list of moves, and how a position is kept meanwhile.
use Rattle.std.specs.Prelude.{ℕ, ◌-◌, ◌<◌, ◌≤◌, Bool, not, ◌&&◌, ◌||◌, cond, List, [], ◌∷◌, ◌≡◌, eqb, ltb, length, get_or, take, drop}
use Rattle.board.specs.Fewest.{same}
use Rattle.board.specs.Move.{Move, Legal, Leads}
use Rattle.board.specs.Position.{peg}
use Rattle.route.specs.Answer.{letter}
use Rattle.run.specs.Inner.Pegs.{Holds, disc_on, shifted}
use Rattle.checker.specs.Letters.{is_letter}
use Rattle.checker.specs.declared.discs.Discs.{Discs}
use Rattle.checker.specs.declared.walking.Walked.{Walked}

-- The letter of the peg of the first of some discs; 256, which is no byte, for no discs.
unfoldable pub letter_of : List ℕ → ℕ
letter_of [] = 256
letter_of (b ∷ p) = letter b

-- The position p is kept as the letters of the pegs of discs 1 and 2 and the pegs of the larger discs.
pub record Kept (k : Discs) (p : List ℕ) : Type 0 where
  pub first : letter (peg p 0) ≡ k.small
  pub next : letter_of (drop 1 p) ≡ k.second
  pub larger : Holds k.larger (drop 2 p)

-- The test that the bytes x and y are a legal move, where c is the letter of the smallest disc's peg, if some other test says so of the moves
-- of larger discs: none goes to the peg of the smallest, which may go to any other.
abbrev pub may_apart : ℕ → Bool → ℕ → ℕ → Bool
may_apart c larger x y = (is_letter y && not (eqb y c)) && (eqb x c || larger)

-- Where t are the topmost discs, a disc goes onto a larger one.
abbrev pub may_carry : List ℕ → ℕ → ℕ → Bool
may_carry t x y = is_letter x && ltb (disc_on t (x - 65)) (disc_on t (y - 65))

-- The same where c and e are the letters of the pegs of discs 1 and 2, and t are the topmost of the larger discs.
unfoldable pub may_move : ℕ → ℕ → List ℕ → ℕ → ℕ → Bool
may_move c e t x y = may_apart c (may_apart e (may_carry t x y) x y) x y

-- The discs after the move of two bytes: disc 1, disc 2 or a larger one has gone to another peg.
unfoldable pub made : Discs → ℕ → ℕ → Discs
made k x y =
    cond (eqb x k.small) (record { small = y; second = k.second; larger = k.larger })
    (cond (eqb x k.second) (record { small = k.small; second = y; larger = k.larger })
    (record { small = k.small; second = k.second; larger = shifted k.larger (x - 65) (y - 65) }))

-- The move at an index of a list.
abbrev pub move_in : List Move → ℕ → Move
move_in ms i = get_or ms i (record { from = 0; to = 0 })

-- A walk from s along ms, with the goal g: the moves made lead to a position, where the next one, if there is one, is not legal; and whether
-- that is the goal.
pub record Walks (s : List ℕ) (ms : List Move) (g : List ℕ) (w : Walked) : Type 0 where
  pub few : w.made ≤ length ms
  pub position : List ℕ
  pub leads : Leads s (take w.made ms) position
  pub stops : w.made < length ms → ¬ Legal position (move_in ms w.made)
  pub arrives : w.there ≡ same position g
