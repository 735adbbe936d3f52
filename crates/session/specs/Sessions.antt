-- A list of calls on a record: the replies, the record at the end, the plays that were accepted, and how many were refused.
use Rattle.std.specs.Prelude.{ℕ, ◌+◌, cond, List, [], ◌∷◌, eqb, get_or}
use Rattle.board.specs.Held.{padded}
use Rattle.board.specs.Move.{Move}
use Rattle.board.specs.Reply.{Reply, refused, answer, ◌>>=◌}
use Rattle.board.specs.Task.{discs, start, goal}
use Rattle.session.specs.Answer.{play_answer, play_leaves, report_answer}
use Rattle.session.specs.Counts.{is_mark}
use Rattle.session.specs.Tally.{Call, play, report, Said, marked, reports, Tally}
use Rattle.session.specs.declared.counting.Mark.{Mark}
use Rattle.session.specs.declared.record.Session.{Session}

-- What a call on the record replies, and the record after it.
unfoldable pub record_reply : Session → Call → Reply Said
record_reply s (play m) = do k ← play_answer s m; answer (marked k)
record_reply s report = do f ← report_answer s; answer (reports f)

unfoldable pub record_next : Session → Call → Session
record_next s (play m) = play_leaves s m
record_next s report = s

-- Over a list of calls: the replies in turn, and the record at the end.
unfoldable pub record_replies : Session → List Call → List (Reply Said)
record_replies s [] = []
record_replies s (c ∷ cs) = record_reply s c ∷ record_replies (record_next s c) cs

unfoldable pub record_after : Session → List Call → Session
record_after s [] = s
record_after s (c ∷ cs) = record_after (record_next s c) cs

-- The reply to the call at place i of the list.
abbrev pub reply_at : List (Reply Said) → ℕ → Reply Said
reply_at rs i = get_or rs i (refused 0)

-- An accepted play: its move, and the mark that it bore.
pub record Play : Type 0 where
  pub move : Move
  pub mark : Mark

-- The accepted plays in turn, read off the calls and their replies.
abbrev pub with_play : Call → Reply Said → List Play → List Play
with_play (play m) (answer (marked k)) ps = record { move = m; mark = k } ∷ ps
with_play (play m) (answer (reports f)) ps = ps
with_play (play m) (refused n) ps = ps
with_play report r ps = ps

unfoldable pub accepted_plays : List Call → List (Reply Said) → List Play
accepted_plays [] rs = []
accepted_plays (c ∷ cs) [] = []
accepted_plays (c ∷ cs) (r ∷ rs) = with_play c r (accepted_plays cs rs)

-- How many of them bore the mark k.
unfoldable pub count_marks : Mark → List Play → ℕ
count_marks k [] = 0
count_marks k (p ∷ ps) = is_mark k p.mark + count_marks k ps

-- How many plays were refused with k, read off the calls and their replies (02, CR 3).
abbrev pub is_refused : ℕ → Call → Reply Said → ℕ
is_refused k (play m) (refused j) = cond (eqb j k) 1 0
is_refused k (play m) (answer a) = 0
is_refused k report r = 0

unfoldable pub count_refused : ℕ → List Call → List (Reply Said) → ℕ
count_refused k [] rs = 0
count_refused k (c ∷ cs) [] = 0
count_refused k (c ∷ cs) (r ∷ rs) = is_refused k c r + count_refused k cs rs

-- The record that holds a tally: n, start and goal as Begin set them, the tally's position, counts, fumbles and what remains, and unused
-- bytes 0.
abbrev pub held_by : List ℕ → Tally → Session
held_by t y =
    record {
      n = discs t;
      start = padded (start t);
      goal = padded (goal t);
      current = padded y.position;
      counts = y.counts;
      fumbles = y.fumbles;
      remaining = y.remaining;
    }

-- The plays that a list of bytes gives: each two are a from and a to, and a last byte by itself is passed over.
unfoldable pub calls_from : List ℕ → List Call
calls_from [] = []
calls_from (i ∷ []) = []
calls_from (i ∷ (j ∷ bs)) = play (record { from = i; to = j }) ∷ calls_from bs
