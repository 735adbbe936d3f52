-- A task is 2n bytes: the start's n, then the goal's n (document 01).
use Rattle.std.specs.Prelude.{ℕ, ◌/◌, ◌%◌, not, List, eqb, ltb, length, take, drop}
use Rattle.board.specs.Position.{well_formed}
use Rattle.board.specs.Reply.{◌>>◌, Check, check}

-- The most discs that a board has.
abbrev pub limit : ℕ
limit = 60

abbrev pub discs : List ℕ → ℕ
discs t = length t / 2

abbrev pub start : List ℕ → List ℕ
start t = take (discs t) t

abbrev pub goal : List ℕ → List ℕ
goal t = drop (discs t) t

-- Task faults: 1, length odd; 2, more than 60 discs; 3, a byte above 2.
unfoldable pub task_check : List ℕ → Check
task_check t = do
  check (eqb (length t % 2) 1) 1
  check (ltb limit (discs t)) 2
  check (not (well_formed t)) 3

-- The faults of a position by itself: 2, more than 60 discs; 3, a byte above 2.
unfoldable pub position_check : List ℕ → Check
position_check p = do
  check (ltb limit (length p)) 2
  check (not (well_formed p)) 3
