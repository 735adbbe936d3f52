-- Disc d goes onto what its peg has of the larger discs.
use Prim.Native.Nat.{suc, ◌-◌}
use mathlib.Core.Path.{◌≡◌}
use native.Mathlib.Numerals.{add-one}
use native.Mathlib.Omega.{arith}
use Rattle.board.proofs.Formed.{formed_pegs}
use Rattle.run.proofs.Held.{holds_more}
use Rattle.run.proofs.pegs.Pegs.of.Goals as goal

pub loop-d-preserved : goal.loop-d-preserved
loop-d-preserved c =
    let less = c.loop-d.d - 1 in
    let up : c.loop-d.d ≡ suc less = omega arith in
    rw add-one (holds_more less (omega arith) (formed_pegs _ c.requires.1 _) (rw up at c.loop-d.invariant))
