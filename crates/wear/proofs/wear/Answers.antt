-- The task is read, the route number and the buffer are checked on it, and the wears are written.
use native.Mathlib.Omega.{arith}
use Rattle.board.proofs.Replies.{goes_up}
use Rattle.plan.proofs.Calls.{read_ends, read_discs}
use Rattle.wear.proofs.Calls.{unread, unrouted, routed, short, written}
use Rattle.wear.proofs.wear.Goals as goal

-- The task is refused.
pub returns-in_err-task : goal.returns-in_err-task
returns-in_err-task c =
    let (said, kept) = unread _ c.args.route c.args.out.now c.in_err-task.ensures in
    rw (goes_up _ c.from_residual.ensures.1) (record { result_value = said; out_after = kept })

-- There is no such route.
pub returns-then-routes-route : goal.returns-then-routes-route
returns-then-routes-route c =
    let (said, kept) = unrouted _ _ c.args.out.now c.in_ok-task.ensures (rw (← c.plan-plan.ensures, ← c.routes-routes.ensures) (omega arith)) in record { result_value = said; out_after = kept }

-- The buffer is short.
pub returns-then-out-discs : goal.returns-then-out-discs
returns-then-out-discs c =
    let opened = routed _ c.args.route c.args.out.now c.in_ok-task.ensures (rw (← c.plan-plan.ensures, ← c.routes-routes.ensures) (omega arith)) in
    let (said, kept) = short _ _ c.args.out.now opened (omega arith) in
    record { result_value = said; out_after = kept }

-- The wears are written.
pub returns : goal.returns
returns c =
    let o = read_ends _ c.in_ok-task.ensures in
    let opened = routed _ c.args.route c.args.out.now c.in_ok-task.ensures (rw (← c.plan-plan.ensures, ← c.routes-routes.ensures) (omega arith)) in
    let (said, wrote) = written _ _ c.args.out.now opened (omega arith) in
    record { result_value = said; out_after = grind (arith, c.write_wears.ensures, read_discs o, o.from, o.to, wrote) }
