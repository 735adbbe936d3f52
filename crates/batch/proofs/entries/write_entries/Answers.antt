-- What is stored in an iteration is the entry of task i.
use Rattle.std.proofs.Common.{refl, arith}
use native.Mathlib.Nat.{mul_comm}
use Rattle.std.proofs.lemmas.List.{take_rest}
use Rattle.word.specs.Words.{shortest_word}
use Rattle.batch.specs.Tasks.{cut}
use Rattle.batch.proofs.Cuts.{cut_stored}
use Rattle.batch.proofs.entries.write_entries.Goals as goal

pub loop-i-init : goal.loop-i-init
unfolding cut
loop-i-init c = refl

pub loop-i-preserved : goal.loop-i-preserved
loop-i-preserved c =
    cut_stored shortest_word _ _ _ _ (omega arith) c.loop-i.invariant
    (rw (mul_comm c.args.size c.loop-i.i) (rw take_rest at c.shortest_word.ensures))
