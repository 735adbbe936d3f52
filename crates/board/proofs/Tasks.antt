-- What a task and a position without faults satisfy, and that their checks obey their faults.
use Prim.Native.Nat.{ℕ, ◌+◌, ◌≤◌, ◌%◌}
use mathlib.Core.Bool.{not}
use mathlib.Core.List.{List, ◌++◌}
use mathlib.Core.Path.{◌≡◌, refl}
use native.Mathlib.Omega.{arith}
use borrow.Author.Tests.{eqb-true, eqb-false, eq-eqb, ne_eqb, ltb-true, ltb-false, lt-ltb, le-ltb, not-false}
use lib.Dec.{eqb, ltb}
use lib.ListN.{length, length-append, length-take, length-drop}
use lib.Seq.{take_at, drop_at}
use Rattle.board.specs.Fault.{Faultless, Obeys, task_faults, position_faults}
use Rattle.board.specs.Position.{well_formed, WellFormed}
use Rattle.board.specs.Reply.{pass}
use Rattle.board.specs.Task.{limit, discs, start, goal, task_check, position_check}
use Rattle.board.proofs.Formed.{formed_take, formed_drop, formed_append, not_formed}
use Rattle.board.proofs.Obeys.{check_obeys, then_obeys}
use Rattle.board.proofs.Replies.{check_passed, check_answered}

-- An even length, at most `limit` discs, and pegs everywhere.
pub record SoundTask (t : List ℕ) : Type 0 where
  pub even : length t ≡ discs t + discs t
  pub within : discs t ≤ limit
  pub start_length : length (start t) ≡ discs t
  pub goal_length : length (goal t) ≡ discs t
  pub start_formed : WellFormed (start t)
  pub goal_formed : WellFormed (goal t)

-- At most `limit` discs, and pegs everywhere.
pub record SoundPosition (p : List ℕ) : Type 0 where
  pub within : length p ≤ limit
  pub formed : WellFormed p

-- A task of even length with at most `limit` discs and only pegs is sound.
pub sound_task : (t : List ℕ) → length t ≡ discs t + discs t → discs t ≤ limit → WellFormed t → SoundTask t
sound_task t even within formed =
    record {
      even = even;
      within = within;
      start_length = simp length-take (omega arith);
      goal_length = simp length-drop (omega arith);
      start_formed = formed_take (discs t) t formed;
      goal_formed = formed_drop (discs t) t formed;
    }

-- An accepted task is sound.
pub task_accepted : (t : List ℕ) → task_check t ≡ pass → SoundTask t
unfolding task_check
task_accepted t h =
    let (even, rest) = check_answered (eqb (length t % 2) 1) 1 _ h in
    let (few, pegs) = check_answered (ltb limit (discs t)) 2 _ rest in
    sound_task t (omega (arith, eqb-false (length t % 2) 1 even)) (ltb-false limit (discs t) few)
    (not-false (well_formed t) (check_passed (not (well_formed t)) 3 pegs))

-- An accepted position is sound.
pub position_accepted : (p : List ℕ) → position_check p ≡ pass → SoundPosition p
unfolding position_check
position_accepted p h =
    let (few, pegs) = check_answered (ltb limit (length p)) 2 _ h in
    record { within = ltb-false limit (length p) few; formed = not-false (well_formed p) (check_passed (not (well_formed p)) 3 pegs) }

-- Two positions of one size, one after the other, are the start and the goal of a task.
pub joined_task : (s g : List ℕ) → length s ≡ length g → (discs (s ++ g) ≡ length s) × (start (s ++ g) ≡ s) × (goal (s ++ g) ≡ g)
joined_task s g e =
    let half : discs (s ++ g) ≡ length s = omega (arith, length-append s g) in
    (half, rw half (take_at s g (length s) refl), rw half (drop_at s g (length s) refl))

-- If they are well formed and have at most `limit` discs, that task is accepted.
pub joined_accepted : (s g : List ℕ) → length s ≡ length g → length s ≤ limit → WellFormed s → WellFormed g → task_check (s ++ g) ≡ pass
unfolding task_check
joined_accepted s g e few hs hg =
    let half = (joined_task s g e).0 in
    rw (
      ne_eqb (length (s ++ g) % 2) 1 (omega (arith, length-append s g)),
      le-ltb limit (discs (s ++ g)) (omega arith),
      formed_append s g hs hg,
    )

-- A task is refused with 1, 2 and 3 as its faults say.
pub task_obeys : (t : List ℕ) → Obeys (task_faults t) (task_check t)
unfolding task_check
task_obeys t =
    then_obeys (check_obeys (eqb (length t % 2) 1) 1 (eqb-true (length t % 2) 1, eq-eqb (length t % 2) 1))
    (then_obeys (check_obeys (ltb limit (discs t)) 2 (ltb-true limit (discs t), lt-ltb limit (discs t)))
    (check_obeys (not (well_formed t)) 3 (not_formed t)))

-- A position is refused with 2 and 3 as its faults say.
pub position_obeys : (p : List ℕ) → Obeys (position_faults p) (position_check p)
unfolding position_check
position_obeys p =
    then_obeys (check_obeys (ltb limit (length p)) 2 (ltb-true limit (length p), lt-ltb limit (length p)))
    (check_obeys (not (well_formed p)) 3 (not_formed p))

-- A task without faults is accepted.
pub faultless_accepted : (t : List ℕ) → Faultless (task_faults t) → task_check t ≡ pass
faultless_accepted t none = ((task_obeys t).answers none).1
