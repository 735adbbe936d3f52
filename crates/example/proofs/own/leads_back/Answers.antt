-- `example::own::leads_back` meets its contract: an accepted Place fits the buffer, and Locate gives its index back.
use Rattle.std.proofs.Common.{rules, tests}
use Prim.Native.Nat.{ℕ, ◌≤◌}
use mathlib.Core.List.{List}
use mathlib.Core.Path.{◌≡◌, sym}
use lib.ListN.{length, take, replicate}
use lib.Seq.{length-take-le}
use Rattle.board.specs.Reply.{answer, pass}
use Rattle.board.specs.Task.{limit, discs}
use Rattle.board.proofs.Replies.{refused_answer}
use Rattle.route.specs.Answer.{on, place_answer, place_writes, locate_answer}
use Rattle.route.proofs.Calls.Answers.{on_same, off_on, place_answered, place_located}
use Rattle.example.proofs.own.leads_back.Goals as goal

-- What Place leaves in the buffer that it accepts, of 60 bytes, has room for the n discs.
placed_within : (t : List ℕ) (r i : ℕ) {pegs : List ℕ} → pass ≡ place_answer t r i (replicate limit 0)
    → pegs ≡ place_writes t r i (replicate limit 0) → discs t ≤ length pegs
placed_within t r i accepted wrote =
    let placed = place_answered t _ _ _ (sym accepted) in rw (wrote, placed.sized) placed.within

-- Locate finds them at the index.
placed_found : (t : List ℕ) (r i : ℕ) {pegs : List ℕ} → pass ≡ place_answer t r i (replicate limit 0)
    → pegs ≡ place_writes t r i (replicate limit 0) → (l : ℕ) × (locate_answer t (take (discs t) pegs) ≡ answer (on i l))
placed_found t r i accepted wrote =
    let (l, low, found) = place_located t _ _ _ (sym accepted) in (l, rw wrote found)

pub slice_bounds-pegs-end : goal.slice_bounds-pegs-end
slice_bounds-pegs-end c = placed_within c.args.task.now _ _ c.in-Ok.ensures.result_value c.place.ensures.out_after

-- What Locate reads is n bytes.
pub slice_bounds-position-end : goal.slice_bounds-position-end
slice_bounds-position-end c =
    sym (length-take-le _ _ (placed_within c.args.task.now _ _ c.in-Ok.ensures.result_value c.place.ensures.out_after))

pub returns-in-Ok : goal.returns-in-Ok
returns-in-Ok c =
    let (l, found) = placed_found c.args.task.now _ _ c.in-Ok.ensures.result_value c.place.ensures.out_after in
    search (rules, tests, found, on_same, off_on, refused_answer)
