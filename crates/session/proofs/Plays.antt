-- An accepted play on the arrays of a record: the array has the disc that moves, and a byte stored for it is stored in the position.
use Prim.Native.Nat.{ℕ, ◌<◌}
use mathlib.Core.List.{List}
use mathlib.Core.Path.{◌≡◌, ◌∙◌}
use native.Mathlib.Omega.{arith}
use lib.ListN.{set, take, length-set}
use lib.Seq.{take-set-lt}
use Rattle.board.specs.Move.{Move, Legal, top, moved}
use Rattle.board.specs.Task.{limit}
use Rattle.board.proofs.Formed.{formed_set}
use Rattle.board.proofs.Leads.{formed_moved}
use Rattle.board.proofs.Top.{length_moved}
use Rattle.plan.specs.Inner.Sound.{Ends}
use Rattle.session.specs.Record.{current_of, goal_of}
use Rattle.session.specs.declared.record.Session.{Session}
use Rattle.session.proofs.Calls.{PlayAccepted}
use Rattle.session.proofs.Soundness.{Sized, current_ends, current_length}

-- A legal move from one of two ends leaves two ends.
pub moved_ends : {p q : List ℕ} {m : Move} → Legal p m → Ends p q → Ends (moved p m) q
moved_ends {p} {q} {m} l e =
    record {
      same = length_moved p m ∙ e.same;
      within = omega (arith, length_moved p m, e.within);
      start_formed = formed_moved p m e.start_formed l;
      goal_formed = e.goal_formed;
    }

module _ {s : Session} {m : Move} (z : Sized s) (p : PlayAccepted s m) where
  -- The disc that moves is one of the record's.
  moving_disc : top (current_of s) m.from < s.n
  moving_disc = omega (arith, p.legal.there, current_length z p.sounds.positions)

  -- So the array has it.
  pub moving_within : top (current_of s) m.from < limit
  moving_within = omega (arith, moving_disc, p.sounds.positions.few)

  -- Stored in the array is stored in the position.
  pub moving_stored : (b : ℕ) → take s.n (set s.current (top (current_of s) m.from) b) ≡ set (current_of s) (top (current_of s) m.from) b
  moving_stored b = take-set-lt _ _ _ _ moving_disc

  -- With a peg stored, the position and the goal are ends.
  pub moving_ends : (b : ℕ) → b < 3 → Ends (take s.n (set s.current (top (current_of s) m.from) b)) (goal_of s)
  moving_ends b peg =
      let e = current_ends z p.sounds.positions in
      rw (moving_stored b)
      (record {
        same = simp length-set e.same;
        within = simp length-set e.within;
        start_formed = formed_set (current_of s) (top (current_of s) m.from) b e.start_formed peg;
        goal_formed = e.goal_formed;
      })
