-- The entries of the first i tasks are written, and the others are as they stood.
use Rattle.std.proofs.Common.{◌++◌, map, ◌≡◌, drop}
use Rattle.batch.specs.Tasks.{cut}
use Rattle.word.specs.Words.{shortest_word}
use Rattle.batch.proofs.entries.write_entries.Given as goal

abbrev pub invariant-loop-i : goal.invariant-loop-i
invariant-loop-i l = l.out ≡ map shortest_word (cut l.size l.i l.tasks) ++ drop l.i l.initial.out
