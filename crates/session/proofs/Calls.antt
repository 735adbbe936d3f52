-- What Begin, Play and Report answer, and when: demand 1 of them, and the laws for whoever calls them.
use Prim.Native.Nat.{ℕ, ◌+◌, ◌<◌, ◌^◌}
use mathlib.Core.Bool.{Bool, true, false, not}
use mathlib.Core.List.{List, ◌++◌, append-nil}
use mathlib.Core.Logic.{◌≢◌, ◌↔◌}
use mathlib.Core.Path.{◌≡◌, refl}
use native.Mathlib.Nat.{add-zero}
use native.Mathlib.Omega.{arith}
use borrow.Author.Tests.{not-false}
use lib.ListN.{take-append-drop}
use Rattle.board.specs.Fault.{Faultless, Obeys, task_faults}
use Rattle.board.specs.Legal.{legal_check}
use Rattle.board.specs.Move.{Move, Legal}
use Rattle.board.specs.Reply.{refused, answer, ◌>>◌, pass, check}
use Rattle.board.specs.Task.{discs}
use Rattle.board.proofs.Legality.{legal_accepted, legal_passes, legal_obeys}
use Rattle.board.proofs.Obeys.{negated, answer_obeys, check_obeys, then_obeys}
use Rattle.board.proofs.Replies.{then_answered, check_answered}
use Rattle.board.proofs.Tasks.{faultless_accepted, task_obeys}
use Rattle.plan.specs.Inner.Read.{read_answer}
use Rattle.plan.proofs.Calls.{read_ends, read_faulty}
use Rattle.session.specs.Answer.{opened, begin_answer, no_session, session_or, play_check, move_mark, play_answer, played_record, play_leaves, report_answer}
use Rattle.session.specs.Counts.{play_limit, fumble, full, figures_of}
use Rattle.session.specs.Demand3.{Reports}
use Rattle.session.specs.Faults.{play_faults, Kept, report_faults}
use Rattle.session.specs.Record.{current_of, first_of, now_of, positions_held, sound, Sound}
use Rattle.session.specs.declared.counting.Figures.{Figures}
use Rattle.session.specs.declared.counting.Mark.{Mark}
use Rattle.session.specs.declared.record.Session.{Session}
use Rattle.session.proofs.Account.{account_excess}
use Rattle.session.proofs.Fumbles.{fumble_one, fumble_none, full_exactly, not_full, fumbles_few}
use Rattle.session.proofs.Soundness.{sound_record, record_sound, sound_exactly}

-- The test fails exactly where the record is not sound.
unsound : (s : Session) → (not (sound s) ≡ true) ↔ (¬ Sound s)
unsound s = negated (sound s) (sound_exactly s)

-- Begin is refused as the task faults say, and never else.
pub begin_obeys : (t : List ℕ) → Obeys (task_faults t) (begin_answer t)
unfolding begin_answer
begin_obeys t = rw (← append-nil (task_faults t)) (then_obeys (task_obeys t) (answer_obeys _))

-- Play is refused as its faults say, and never else.
pub play_obeys : (s : Session) (m : Move) → Obeys (play_faults s m) (play_answer s m)
unfolding play_answer play_check
play_obeys s m =
    rw (← append-nil (play_faults s m))
    (then_obeys
    (then_obeys (check_obeys (not (sound s)) 10 (unsound s))
    (then_obeys (check_obeys (full s.counts s.fumbles) 11 (full_exactly s.counts s.fumbles)) (legal_obeys (current_of s) m)))
    (answer_obeys _))

-- So is Report.
pub report_obeys : (s : Session) → Obeys (report_faults s) (report_answer s)
unfolding report_answer
report_obeys s = then_obeys (check_obeys (not (sound s)) 10 (unsound s)) (answer_obeys _)

-- A refused play leaves the record as it stood, but for one fumble more where it is refused with 8 or 9.
pub play_kept : (s : Session) (m : Move) {k : ℕ} → play_answer s m ≡ refused k → Kept k s (play_leaves s m)
unfolding play_leaves
play_kept s m {k} e =
    record {
      fumbled = λ which. rw (e, fumble_one k which);
      kept = λ no_8 no_9. rw (e, fumble_none k no_8 no_9, add-zero);
    }

-- The fumbles after it fit 64 bits: what the proof of `step` needs.
pub play_fits : (s : Session) (m : Move) {k : ℕ} → s.fumbles < 2 ^ 64 → play_check s m ≡ refused k → s.fumbles + fumble k < 2 ^ 64
unfolding play_check
play_fits s m {k} fits e = by (sound s) refl e
  where
    by : (b : Bool) → sound s ≡ b → (check (not b) 10 >> (check (full s.counts s.fumbles) 11 >> legal_check (current_of s) m)) ≡ refused k
        → s.fumbles + fumble k < 2 ^ 64
    by true h r = omega (arith, fumbles_few s.counts s.fumbles _ (sound_record s h).fumbles r)
    by false h r = let is : k ≡ 10 = cc in rw is (omega arith)

-- A task without faults is begun.
pub begin_accepts : (t : List ℕ) → Faultless (task_faults t) → begin_answer t ≡ answer (opened t)
unfolding begin_answer
begin_accepts t none = rw (faultless_accepted t none)

-- Where a task is read, its record is that of its two halves.
pub read_begun : (t : List ℕ) {s g : List ℕ} → answer (s, g) ≡ read_answer t → answer (opened (s ++ g)) ≡ begin_answer t
unfolding begin_answer
read_begun t e = let o = read_ends t e in rw (o.accepted, o.from, o.to, take-append-drop (discs t) t)

-- Where it cannot be read, Begin is refused as it is.
pub read_unbegun : (t : List ℕ) {k : ℕ} → refused k ≡ read_answer t → refused k ≡ begin_answer t
unfolding begin_answer
read_unbegun t e = rw (← read_faulty t e)

-- What stands beside a refusal of Begin is no sound record: Play and Report refuse it with 10.
pub no_session_unsound : sound no_session ≡ false
unfolding sound positions_held
no_session_unsound = refl

pub no_session_plays : (m : Move) → play_answer no_session m ≡ refused 10
unfolding play_answer play_check
no_session_plays m = rw no_session_unsound

pub no_session_reports : report_answer no_session ≡ refused 10
unfolding report_answer
no_session_reports = rw no_session_unsound

pub begin_refused : (t : List ℕ) {k : ℕ} → begin_answer t ≡ refused k → session_or (begin_answer t) ≡ no_session
begin_refused t e = rw e

-- What a play that is marked finds: a sound record with room for plays and fumbles, and a legal move.
pub record PlayAccepted (s : Session) (m : Move) : Type 0 where
  pub sounds : Sound s
  pub more : s.counts.made ≢ play_limit
  pub more_fumbles : s.fumbles ≢ play_limit
  pub legal : Legal (current_of s) m

pub play_passed : (s : Session) (m : Move) → play_check s m ≡ pass → PlayAccepted s m
unfolding play_check
play_passed s m h =
    let (sounds, rest) = check_answered (not (sound s)) 10 _ h in
    let (more, last) = check_answered (full s.counts s.fumbles) 11 _ rest in
    record {
      sounds = sound_record s (not-false (sound s) sounds);
      more = ((not_full s.counts s.fumbles).0 more).0;
      more_fumbles = ((not_full s.counts s.fumbles).0 more).1;
      legal = legal_accepted (current_of s) m last;
    }

-- Such a play is marked.
pub play_accepts : (s : Session) (m : Move) → PlayAccepted s m → play_answer s m ≡ answer (move_mark s m)
unfolding play_answer play_check
play_accepts s m p =
    rw (
      record_sound s p.sounds,
      (not_full s.counts s.fumbles).1 (p.more, p.more_fumbles),
      legal_passes (current_of s) m p.legal,
    )

-- Its mark, and the record after it.
pub record PlayAnswered (s : Session) (m : Move) (k : Mark) : Type 0 where
  pub accepted : PlayAccepted s m
  pub mark : move_mark s m ≡ k
  pub leaves : play_leaves s m ≡ played_record s m k

pub play_answered : (s : Session) (m : Move) {k : Mark} → play_answer s m ≡ answer k → PlayAnswered s m k
unfolding play_answer play_leaves
play_answered s m {k} e =
    let (passed, same) = then_answered (play_check s m) _ e in
    record { accepted = play_passed s m passed; mark = cc; leaves = rw e }

-- A sound record is reported.
pub report_accepts : (s : Session) → Sound s → report_answer s ≡ answer (figures_of s.counts (now_of s) (first_of s))
unfolding report_answer
report_accepts s sounds = rw (record_sound s sounds)

-- What a report that is answered says.
pub report_answered : (s : Session) {f : Figures} → report_answer s ≡ answer f → Sound s × (figures_of s.counts (now_of s) (first_of s) ≡ f)
unfolding report_answer
report_answered s {f} e =
    let (sounds, same) = check_answered (not (sound s)) 10 _ e in
    (sound_record s (not-false (sound s) sounds), cc)

-- What Report says of every sound record: its counts, what remains, and the excess with all that holds of it.
pub sound_reports : (s : Session) → Sound s → Reports s s.counts (now_of s) (first_of s)
sound_reports s sounds =
    record { figures = _; answered = report_accepts s sounds; counts = refl; remaining = refl; excess = account_excess sounds.account }
