-- `text::report::put_route` meets its contract: the part that is put is within the letters.
use Rattle.std.proofs.Common.{arith, length-take}
use Rattle.text.proofs.Runs.{run_whole}
use Rattle.text.proofs.report.put_route.Goals as goal

pub slice_bounds-put_moves-end : goal.slice_bounds-put_moves-end
slice_bounds-put_moves-end c = grind (arith, run_whole, length-take)
