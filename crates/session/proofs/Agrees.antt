-- The record and the tally agree, call by call.
use Prim.Native.Nat.{ℕ, ◌+◌, ◌≤◌}
use mathlib.Core.Bool.{true}
use mathlib.Core.List.{List, ◌++◌}
use mathlib.Core.Logic.{◌≢◌}
use mathlib.Core.Path.{◌≡◌, ◌∙◌, refl, sym, ap}
use native.Mathlib.Omega.{arith}
use lib.ListN.{length, length-append}
use Rattle.board.specs.Fewest.{fewest}
use Rattle.board.specs.Held.{padded}
use Rattle.board.specs.Move.{Move, Legal}
use Rattle.board.specs.Position.{WellFormed}
use Rattle.board.specs.Reply.{refused, answer, ◌>>◌, ◌>>=◌, Check, pass}
use Rattle.board.specs.Task.{discs, start, goal}
use Rattle.board.proofs.Arrays.{padded_take, padded_holds, padded_moved, held_padded}
use Rattle.board.proofs.Formed.{formed_append}
use Rattle.board.proofs.Leads.{formed_moved}
use Rattle.board.proofs.Legality.{legal_accepted}
use Rattle.board.proofs.Replies.{check_answered}
use Rattle.board.proofs.Tasks.{SoundTask, sound_task, joined_task}
use Rattle.board.proofs.Top.{length_moved}
use Rattle.plan.proofs.OneMove.{moved_further, moved_nearer}
use Rattle.session.specs.Answer.{opened, play_check, move_mark, play_answer, played_record, refused_record, record_or, play_leaves, report_answer}
use Rattle.session.specs.Counts.{play_limit, fumble, full, Account}
use Rattle.session.specs.Record.{start_of, goal_of, current_of, sound, Sound}
use Rattle.session.specs.Sessions.{held_by, record_reply, record_next}
use Rattle.session.specs.Tally.{Call, play, report, marked, Tally, fresh, tally_check, tally_mark, played_tally, refused_tally, tally_or, tallied, tally_reply}
use Rattle.session.specs.declared.counting.Mark.{Mark}
use Rattle.session.specs.declared.record.Session.{Session}
use Rattle.session.proofs.Account.{account_first, account_played}
use Rattle.session.proofs.Fumbles.{not_full, fumbles_few}
use Rattle.session.proofs.Soundness.{Sized, record_sound, start_ends, current_ends, current_length}

-- A record and a tally of a task agree: the record holds the tally, whose position is one of the task's and whose counts, fumbles and what
-- remains go with it.
pub record Agrees (t : List ℕ) (y : Tally) (s : Session) : Type 0 where
  pub held : s ≡ held_by t y
  pub sized : length y.position ≡ discs t
  pub formed : WellFormed y.position
  pub account : Account y.counts (fewest y.position (goal t)) (fewest (start t) (goal t))
  pub fumbles : y.fumbles ≤ play_limit
  pub remaining : y.remaining ≡ fewest y.position (goal t)

-- What a play that the tally accepts finds: it is not full, and the move is legal.
pub record Accepts (y : Tally) (m : Move) : Type 0 where
  pub more : y.counts.made ≢ play_limit
  pub legal : Legal y.position m

pub tally_accepts : (y : Tally) (m : Move) → tally_check y m ≡ pass → Accepts y m
unfolding tally_check
tally_accepts y m h =
    let (more, rest) = check_answered (full y.counts y.fumbles) 11 _ h in
    record { more = ((not_full y.counts y.fumbles).0 more).0; legal = legal_accepted y.position m rest }

-- After a play that the tally refuses its fumbles are few enough.
tally_few : (y : Tally) (m : Move) {k : ℕ} → y.fumbles ≤ play_limit → tally_check y m ≡ refused k → y.fumbles + fumble k ≤ play_limit
unfolding tally_check
tally_few y m few e = fumbles_few y.counts y.fumbles _ few e

module _ (t : List ℕ) (task : SoundTask t) where
  -- At first they agree.
  pub agrees_fresh : Agrees t (fresh t) (opened t)
  agrees_fresh =
      record {
        held = refl;
        sized = task.start_length;
        formed = task.start_formed;
        account = account_first (fewest (start t) (goal t));
        fumbles = omega arith;
        remaining = refl;
      }

  module _ (y : Tally) (s : Session) (a : Agrees t y s) where
    -- The positions of the record that holds the tally.
    current_held : current_of (held_by t y) ≡ y.position
    current_held = padded_take y.position (discs t) a.sized

    start_held : start_of (held_by t y) ≡ start t
    start_held = padded_take (start t) (discs t) task.start_length

    goal_held : goal_of (held_by t y) ≡ goal t
    goal_held = padded_take (goal t) (discs t) task.goal_length

    -- The record that holds the tally is sound.
    held_sound : sound (held_by t y) ≡ true
    held_sound =
        record_sound (held_by t y)
        (record {
          positions =
              record {
                few = task.within;
                start = padded_holds (start t) (discs t) task.start_length task.start_formed;
                goal = padded_holds (goal t) (discs t) task.goal_length task.goal_formed;
                current = padded_holds y.position (discs t) a.sized a.formed;
              };
          account = rw (current_held, start_held, goal_held) a.account;
          fumbles = a.fumbles;
          remaining = rw (current_held, goal_held) a.remaining;
        })

    -- So a record that agrees with a tally is sound.
    pub agrees_sound : sound s ≡ true
    agrees_sound = rw a.held held_sound

    -- Its positions are the tally's and the task's.
    pub agrees_current : current_of s ≡ y.position
    agrees_current = rw a.held current_held

    pub agrees_start : start_of s ≡ start t
    agrees_start = rw a.held start_held

    pub agrees_goal : goal_of s ≡ goal t
    agrees_goal = rw a.held goal_held

    -- It refuses what the tally refuses, and marks as the tally marks.
    held_answer : (m : Move) → play_answer (held_by t y) m ≡ (tally_check y m >> answer (tally_mark t y m))
    unfolding play_answer play_check tally_check move_mark tally_mark
    held_answer m = rw (held_sound, current_held, goal_held)

    -- After an accepted play it holds the tally after it.
    held_played : (m : Move) (k : Mark) → Legal y.position m → played_record (held_by t y) m k ≡ held_by t (played_tally t y m k)
    unfolding played_record
    held_played m k l = rw (current_held, goal_held, padded_moved y.position m l)

    -- They reply the same.
    pub agrees_reply : (c : Call) → record_reply s c ≡ tally_reply t y c
    unfolding record_reply tally_reply report_answer
    agrees_reply report = rw (a.held, held_sound, current_held, start_held, goal_held)
    agrees_reply (play m) = rw (a.held, held_answer m) (same (tally_check y m))
      where
        same : (v : Check) → ((v >> answer (tally_mark t y m)) >>= λ k. answer (marked k)) ≡ (v >> answer (marked (tally_mark t y m)))
        same (refused k) = refl
        same (answer u) = refl

    -- After an accepted play they agree.
    agrees_played : (m : Move) → Accepts y m
        → Agrees t (played_tally t y m (tally_mark t y m)) (played_record (held_by t y) m (tally_mark t y m))
    unfolding tally_mark
    agrees_played m p =
        let same : length y.position ≡ length (goal t) = a.sized ∙ sym task.goal_length in
        record {
          held = held_played m (tally_mark t y m) p.legal;
          sized = length_moved y.position m ∙ a.sized;
          formed = formed_moved y.position m a.formed p.legal;
          account =
              account_played (moved_further y.position (goal t) m same a.formed task.goal_formed p.legal)
              (moved_nearer y.position (goal t) m same a.formed task.goal_formed p.legal) p.more a.account;
          fumbles = a.fumbles;
          remaining = refl;
        }

    -- After a refused play too.
    agrees_refused : (m : Move) {k : ℕ} → tally_check y m ≡ refused k → Agrees t (refused_tally y k) (refused_record (held_by t y) k)
    agrees_refused m e =
        record {
          held = refl;
          sized = a.sized;
          formed = a.formed;
          account = a.account;
          fumbles = tally_few y m a.fumbles e;
          remaining = a.remaining;
        }

    -- They agree after every call.
    pub agrees_next : (c : Call) → Agrees t (tallied t y c) (record_next s c)
    unfolding record_next tallied play_leaves
    agrees_next report = a
    agrees_next (play m) = rw (a.held, held_answer m) (by (tally_check y m) refl)
      where
        by : (v : Check) → tally_check y m ≡ v
            → Agrees t (tally_or v (played_tally t y m (tally_mark t y m)) y) (record_or (v >> answer (tally_mark t y m)) (held_by t y) m)
        by (refused k) e = agrees_refused m e
        by (answer u) e = agrees_played m (tally_accepts y m e)

-- The task and the tally of a record.
abbrev pub task_of : Session → List ℕ
task_of s = start_of s ++ goal_of s

abbrev pub tally_of : Session → Tally
tally_of s = record { position = current_of s; counts = s.counts; fumbles = s.fumbles; remaining = s.remaining }

module _ (s : Session) (z : Sized s) (r : Sound s) where
  -- Every sound record is one that holds a tally: its task is sound ..
  pub sound_task_of : SoundTask (task_of s)
  sound_task_of =
      let ends = start_ends z r.positions in
      let (half, _, _) = joined_task (start_of s) (goal_of s) ends.same in
      sound_task (task_of s) (omega (arith, length-append (start_of s) (goal_of s), ends.same)) (omega (arith, ends.within))
      (formed_append (start_of s) (goal_of s) ends.start_formed ends.goal_formed)

  -- .. and it agrees with its own tally.
  pub sound_agrees : Agrees (task_of s) (tally_of s) s
  sound_agrees =
      let p = r.positions in
      let ends = start_ends z p in
      let stands = current_ends z p in
      let size = current_length z p in
      let (half, first, second) = joined_task (start_of s) (goal_of s) ends.same in
      let discs_are : discs (task_of s) ≡ s.n = omega (arith, ends.same, stands.same) in
      let start_is = held_padded s.n s.start p.few z.start_size p.start in
      let goal_is = held_padded s.n s.goal p.few z.goal_size p.goal in
      let current_is = held_padded s.n s.current p.few z.current_size p.current in
      record {
        held = λ i.
            record {
              n = sym discs_are i;
              start = (start_is ∙ ap padded (sym first)) i;
              goal = (goal_is ∙ ap padded (sym second)) i;
              current = current_is i;
              counts = s.counts;
              fumbles = s.fumbles;
              remaining = s.remaining;
            };
        sized = size ∙ sym discs_are;
        formed = stands.start_formed;
        account = rw (first, second) r.account;
        fumbles = r.fumbles;
        remaining = rw second r.remaining;
      }

  -- So a play keeps a sound record sound.
  pub play_sound : (m : Move) → sound (play_leaves s m) ≡ true
  unfolding record_next
  play_sound m =
      agrees_sound (task_of s) sound_task_of (tallied (task_of s) (tally_of s) (play m)) (play_leaves s m)
      (agrees_next (task_of s) sound_task_of (tally_of s) s sound_agrees (play m))
