-- The numbers that the timed calls answer.
use Rattle.std.specs.Prelude.{ℕ, ◌+◌, ◌*◌, ◌%◌, cond, List, eqb}
use Rattle.board.specs.Reply.{Reply, refused, answer, ◌>>=◌, Check}
use Rattle.route.specs.Answer.{move_answer, Where, on, off, locate_answer}
use Rattle.route.specs.declared.answer.DiscMove.{DiscMove}

-- A reply as a number: its value, or 0 where it is refused.
abbrev pub counted : Reply ℕ → ℕ
counted (refused k) = 0
counted (answer n) = n

-- A check as a number: 1 where it passes.
abbrev pub accepted : Check → ℕ
accepted (refused k) = 0
accepted (answer a) = 1

-- Disc, from and to of a move, as the three bytes of a number.
abbrev pub bytes_of : DiscMove → ℕ
bytes_of m = m.disc % 256 * 65536 + m.from * 256 + m.to

-- The same of what Move answers (document 01).
abbrev pub move_bytes : List ℕ → ℕ → ℕ → Reply ℕ
move_bytes t r i = do m ← move_answer t r i; answer (bytes_of m)

-- The index of a position on route 0, and 0 for any other.
abbrev pub index_of : Where → ℕ
index_of (on i r) = cond (eqb r 0) i 0
index_of off = 0

-- The same of what Locate answers (document 01).
abbrev pub index_found : List ℕ → List ℕ → Reply ℕ
index_found t q = do w ← locate_answer t q; answer (index_of w)
