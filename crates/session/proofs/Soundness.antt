-- A sound record: the test passes exactly where it is one, and what the functions need of it.
use Prim.Native.Nat.{ℕ, ◌+◌, ◌-◌, ◌≤◌, ◌<◌, ◌^◌}
use mathlib.Core.Bool.{true}
use mathlib.Core.List.{List}
use mathlib.Core.Logic.{◌↔◌}
use mathlib.Core.Path.{◌≡◌}
use native.Mathlib.Omega.{arith}
use lib.ListN.{length, take}
use lib.Seq.{length-take-le}
use Rattle.std.proofs.lemmas.Bool.Decides.{nat_tests}
use Rattle.board.specs.Held.{padded, HoldsPosition}
use Rattle.board.specs.Position.{WellFormed}
use Rattle.board.specs.Task.{limit}
use Rattle.board.proofs.Arrays.{holds_exactly, held_formed}
use Rattle.board.proofs.Formed.{formed_append, formed_replicate}
use Rattle.plan.specs.Inner.Sound.{Ends}
use Rattle.plan.proofs.Sound.{ends_fewest, ends_fit}
use Rattle.session.specs.Record.{start_of, goal_of, current_of, first_of, now_of, positions_held, sound, PositionsHeld, Sound}
use Rattle.session.specs.declared.record.Session.{Session}
use Rattle.session.proofs.Account.{account_counts, account_marks, account_exactly}

-- A record that passes the test of its positions holds them.
pub positions_held_lem : (s : Session) → positions_held s ≡ true → PositionsHeld s
unfolding positions_held
positions_held_lem s h =
    record {
      few = grind (arith, nat_tests);
      start = (holds_exactly s.n s.start).0 (grind (arith, nat_tests));
      goal = (holds_exactly s.n s.goal).0 (grind (arith, nat_tests));
      current = (holds_exactly s.n s.current).0 (grind (arith, nat_tests));
    }

-- And one that holds them passes it.
held_positions : (s : Session) → PositionsHeld s → positions_held s ≡ true
unfolding positions_held
held_positions s p =
    let start = (holds_exactly s.n s.start).1 p.start in
    let goal = (holds_exactly s.n s.goal).1 p.goal in
    let current = (holds_exactly s.n s.current).1 p.current in
    grind (arith, nat_tests, p.few)

pub positions_exactly : (s : Session) → (positions_held s ≡ true) ↔ PositionsHeld s
positions_exactly s = (positions_held_lem s, held_positions s)

-- What passes the test is sound.
pub sound_record : (s : Session) → sound s ≡ true → Sound s
unfolding sound
sound_record s h =
    record {
      positions = positions_held_lem s (grind (arith, nat_tests));
      account = account_exactly.0 (grind (arith, nat_tests));
      fumbles = grind (arith, nat_tests);
      remaining = grind (arith, nat_tests);
    }

-- So it has at most `limit` discs.
pub sound_few : (s : Session) → sound s ≡ true → s.n ≤ limit
sound_few s h = (sound_record s h).positions.few

-- What is sound passes the test.
pub record_sound : (s : Session) → Sound s → sound s ≡ true
unfolding sound
record_sound s r =
    let held = held_positions s r.positions in
    let counts = account_counts r.account in
    let marks = account_marks r.account in
    grind (arith, nat_tests, r.fumbles, r.remaining)

pub sound_exactly : (s : Session) → (sound s ≡ true) ↔ Sound s
sound_exactly s = (sound_record s, record_sound s)

-- The arrays of a record have a byte for each disc that there can be: so their type in the code says.
pub record Sized (s : Session) : Type 0 where
  pub start_size : length s.start ≡ limit
  pub goal_size : length s.goal ≡ limit
  pub current_size : length s.current ≡ limit

-- A position's array is well formed where the position is.
pub padded_formed : (p : List ℕ) → WellFormed p → WellFormed (padded p)
padded_formed p h = formed_append p _ h (formed_replicate (limit - length p) 0 (omega arith))

-- Two arrays that hold positions of n discs are ends.
held_ends : (n : ℕ) (a b : List ℕ) → n ≤ limit → length a ≡ limit → length b ≡ limit
    → HoldsPosition n a → HoldsPosition n b → Ends (take n a) (take n b)
held_ends n a b h la lb ha hb =
    let sa = length-take-le n a (omega arith) in
    let sb = length-take-le n b (omega arith) in
    record { same = omega arith; within = omega arith; start_formed = held_formed n a ha; goal_formed = held_formed n b hb }

module _ {s : Session} (z : Sized s) (p : PositionsHeld s) where
  -- Its start and goal are ends, and so are its current position and goal.
  pub start_ends : Ends (start_of s) (goal_of s)
  start_ends = held_ends s.n s.start s.goal p.few z.start_size z.goal_size p.start p.goal

  pub current_ends : Ends (current_of s) (goal_of s)
  current_ends = held_ends s.n s.current s.goal p.few z.current_size z.goal_size p.current p.goal

  -- What remains of it is far below what 64 bits hold.
  pub remaining_fits : s.remaining ≡ now_of s → s.remaining < 2 ^ limit
  remaining_fits e = omega (arith, ends_fewest current_ends, ends_fit current_ends)

  -- Its current position has n discs.
  pub current_room : s.n ≤ length s.current
  current_room = omega (arith, p.few, z.current_size)

  pub current_length : length (current_of s) ≡ s.n
  current_length = length-take-le s.n s.current current_room

-- The plays made and the fewest that remain are together never below the fewest at the start (02, CR 2) ..
pub sound_covers : {s : Session} → Sound s → first_of s ≤ s.counts.made + now_of s
sound_covers r = omega (arith, r.account.sum, r.account.marks)

-- .. and their sum fits 64 bits.
pub sound_fits : {s : Session} → Sized s → Sound s → s.counts.made + now_of s < 2 ^ 64
sound_fits z r = omega (arith, r.account.within, r.remaining, remaining_fits z r.positions r.remaining)
