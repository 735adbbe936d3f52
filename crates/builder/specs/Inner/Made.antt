-- What an addition and a removal make of a builder, before what a refused call leaves is asked.
use Rattle.std.specs.Prelude.{ℕ}
use Rattle.board.specs.Reply.{Reply, answer, ◌>>◌}
use Rattle.builder.specs.Answer.{add_answer, with_disc, remove_answer, without_disc}
use Rattle.builder.specs.declared.record.Builder.{Builder}

abbrev pub made_by_add : Builder → ℕ → Reply Builder
made_by_add b j = do
  add_answer b j
  answer (with_disc b j)

abbrev pub made_by_remove : Builder → Reply Builder
made_by_remove b = do
  remove_answer b
  answer (without_disc b)
