-- Request 1 holds of every task without faults.
use Prim.Native.Nat.{ℕ, ◌-◌, ◌≤◌, ◌<◌, min}
use mathlib.Core.List.{List}
use mathlib.Core.Path.{refl}
use native.Mathlib.Omega.{arith}
use lib.ListN.{length}
use Rattle.board.specs.Fault.{Faultless, task_faults}
use Rattle.board.proofs.Tasks.{faultless_accepted}
use Rattle.route.specs.Answer.{length_of}
use Rattle.route.proofs.Annotated.{letters_part, annotated}
use Rattle.route.proofs.Calls.Opened.{Routed, accepted_routed}
use Rattle.parts.specs.Request1.{Letters, Request1}
use Rattle.parts.proofs.Calls.{parts_accepts, parts_answered}

-- What Parts writes is what Move answers.
letters : (t : List ℕ) (r : ℕ) → Routed t r → (i : ℕ) (out : List ℕ) → i ≤ length_of t → (i < length_of t → 1 ≤ length out) → Letters t r i out
letters t r routed i out l room =
    let count = min (length_of t - i) (length out) in
    let answered = parts_accepts t r i out (record { routed = routed; index = l; fits = room }) in
    record {
      count = count;
      lesser = refl;
      answered = answered;
      wrote = rw (letters_part t r routed count i (omega arith)) (parts_answered t r i out answered).wrote;
    }

-- All of it together.
pub request_1 : (t : List ℕ) → Faultless (task_faults t) → Request1 t
request_1 t clear =
    let accepted = faultless_accepted t clear in
    record {
      annotated = annotated t clear;
      letters = λ r i out known index room. letters t r (accepted_routed t accepted r known) i out index room;
    }
