-- What Run answers and writes, by what is opened for its list.
use Prim.Native.Nat.{ℕ, ◌*◌, ◌-◌, ◌/◌, min}
use mathlib.Core.List.{List, ◌++◌}
use mathlib.Core.Path.{◌≡◌, sym}
use lib.ListN.{length, take, drop}
use Rattle.board.specs.Reply.{refused, answer}
use Rattle.plan.specs.Plan.{shortest}
use Rattle.route.specs.Answer.{letters, run_answer, run_writes}
use Rattle.route.specs.Inner.Open.{Opening, list_answer}
use Rattle.route.specs.Route.{route_of}
use Rattle.route.proofs.Calls.Answers.{run_accepts, run_answered, run_refuses}
use Rattle.route.proofs.Calls.Lists.{list_opened, list_refused}
use Rattle.route.proofs.Calls.Obeys.{run_kept}

module _ (t : List ℕ) (r i : ℕ) (out : List ℕ) where
  -- What cannot be opened for the list is refused, and the buffer is as it stood.
  pub unlisted : {k : ℕ} → refused k ≡ list_answer t r i (length out) 2 → (refused k ≡ run_answer t r i out) × (out ≡ run_writes t r i out)
  unlisted e =
      let no = run_refuses t r i out (sym (list_refused t r i (length out) 2 e)) in (sym no, sym (run_kept t r i out no))

  -- What is opened for it has as many moves, and their letters are written.
  pub listed : {o : Opening} → answer o ≡ list_answer t r i (length out) 2
      → (answer (min (shortest o.plan - i) (length out / 2)) ≡ run_answer t r i out)
      × (letters (take (min (shortest o.plan - i) (length out / 2)) (drop i (route_of o.start o.goal o.route)))
      ++ drop (2 * min (shortest o.plan - i) (length out / 2)) out ≡ run_writes t r i out)
  listed e =
      let o = list_opened t r i (length out) 2 e in
      let yes = run_accepts t r o.listed.routed i out o.listed.index o.listed.fits in
      rw (o.plan, o.from, o.to, o.route) (sym yes, sym (run_answered t r i out yes).wrote)
