-- What is opened for the route has the index and the buffer checked on it, and the bytes copied are the position's.
use mathlib.Core.Path.{◌≡◌, ◌∙◌, refl}
use native.Mathlib.Omega.{arith}
use borrow.Author.Tests.{lt-ltb, le-ltb}
use lib.ListN.{length, take, length-take}
use Rattle.board.specs.Task.{discs, start}
use Rattle.route.specs.Answer.{task_route, place_answer, place_writes}
use Rattle.route.specs.Route.{after}
use Rattle.route.proofs.Calls.Opened.{opened_discs, opened_length, open_answered}
use Rattle.route.proofs.placing.place.Goals as goal

-- The buffer is short.
pub returns-then-out-n : goal.returns-then-out-n
unfolding place_answer place_writes
returns-then-out-n c =
    let o = open_answered _ _ c.in_ok-opened.ensures in
    let size = c.discs-n.ensures ∙ opened_discs o in
    rw (o.passed, opened_length o, ← c.shortest.ensures, le-ltb _ _ c.if-shortest-index.false, lt-ltb _ _ (rw size at c.if-out-n.true))
    (record { result_value = refl; out_after = refl })

-- The position is written.
pub returns : goal.returns
unfolding place_answer place_writes
returns c =
    let t = c.args.task.now in
    let o = open_answered _ _ c.in_ok-opened.ensures in
    let size = c.discs-n.ensures ∙ opened_discs o in
    let width : length (take (discs t) c.pegs-pegs.result) ≡ discs t = simp length-take (omega arith) in
    let pegs : take (discs t) c.pegs-pegs.result ≡ after (start t) (take c.args.index (task_route t c.args.route)) =
    grind (arith, c.pegs-pegs.ensures, opened_discs o, o.from, o.to, o.route) in
    rw (o.passed, opened_length o, ← c.shortest.ensures, le-ltb _ _ c.if-shortest-index.false, le-ltb _ _ (rw size at c.if-out-n.false), ← pegs)
    (record { result_value = refl; out_after = grind (arith, c.copy_from_slice.ensures.after, size, width) })
