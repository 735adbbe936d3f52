-- What Begin, Play and Report answer, and the record afterwards (document 01, "The operations and when each refuses"; 02, CR 3).
use Rattle.std.specs.Prelude.{ℕ, ◌+◌, not, List, replicate, set}
use Rattle.board.specs.Fewest.{fewest}
use Rattle.board.specs.Held.{padded}
use Rattle.board.specs.Legal.{legal_check}
use Rattle.board.specs.Move.{Move, top, moved}
use Rattle.board.specs.Refusal.{reply_of}
use Rattle.board.specs.Reply.{Reply, refused, answer, ◌>>◌, Check, check}
use Rattle.board.specs.Task.{limit, discs, start, goal, task_check}
use Rattle.session.specs.Counts.{no_plays, mark_of, counted, fumble, full, figures_of}
use Rattle.session.specs.Record.{current_of, goal_of, first_of, now_of, sound}
use Rattle.session.specs.declared.beginning.Begun.{Begun}
use Rattle.session.specs.declared.counting.Figures.{Figures}
use Rattle.session.specs.declared.counting.Mark.{Mark}
use Rattle.session.specs.declared.record.Session.{Session}

-- What an answer of Begin says: the record.
abbrev pub begin_reply : Begun → Reply Session
begin_reply b = do
  reply_of b.verdict
  answer b.session

-- The record of a task: current is the start, all counts and the fumbles are 0, and what remains is the fewest from start to goal.
abbrev pub opened : List ℕ → Session
opened t =
    record {
      n = discs t;
      start = padded (start t);
      goal = padded (goal t);
      current = padded (start t);
      counts = no_plays;
      fumbles = 0;
      remaining = fewest (start t) (goal t);
    }

-- Begin: task faults.
unfoldable pub begin_answer : List ℕ → Reply Session
begin_answer t = do
  task_check t
  answer (opened t)

-- What stands beside a refusal of Begin: a record of more discs than there can be, which is not sound.
abbrev pub no_session : Session
no_session =
    record {
      n = limit + 1;
      start = replicate limit 0;
      goal = replicate limit 0;
      current = replicate limit 0;
      counts = no_plays;
      fumbles = 0;
      remaining = 0;
    }

-- The record that Begin hands out.
abbrev pub session_or : Reply Session → Session
session_or (refused k) = no_session
session_or (answer s) = s

-- Play: 10, unsound record; 11, made or the fumbles are already 1,000,000; then 3, 8 and 9.
unfoldable pub play_check : Session → Move → Check
play_check s m = do
  check (not (sound s)) 10
  check (full s.counts s.fumbles) 11
  legal_check (current_of s) m

-- The mark of a move on a record.
unfoldable pub move_mark : Session → Move → Mark
move_mark s m = mark_of (now_of s) (fewest (moved (current_of s) m) (goal_of s))

unfoldable pub play_answer : Session → Move → Reply Mark
play_answer s m = do
  play_check s m
  answer (move_mark s m)

-- The record after an accepted play: the smallest disc of from has moved in current, the play is counted, and what remains is set anew.
unfoldable pub played_record : Session → Move → Mark → Session
played_record s m k =
    record {
      n = s.n;
      start = s.start;
      goal = s.goal;
      current = set s.current (top (current_of s) m.from) m.to;
      counts = counted s.counts k;
      fumbles = s.fumbles;
      remaining = fewest (moved (current_of s) m) (goal_of s);
    }

-- The record after a play refused with k: its fumbles alone may rise.
abbrev pub refused_record : Session → ℕ → Session
refused_record s k =
    record {
      n = s.n;
      start = s.start;
      goal = s.goal;
      current = s.current;
      counts = s.counts;
      fumbles = s.fumbles + fumble k;
      remaining = s.remaining;
    }

-- What Play leaves of the record.
abbrev pub record_or : Reply Mark → Session → Move → Session
record_or (refused k) s m = refused_record s k
record_or (answer k) s m = played_record s m k

unfoldable pub play_leaves : Session → Move → Session
play_leaves s m = record_or (play_answer s m) s m

-- Report: 10.
unfoldable pub report_answer : Session → Reply Figures
report_answer s = do
  check (not (sound s)) 10
  answer (figures_of s.counts (now_of s) (first_of s))
