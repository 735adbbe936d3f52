-- The word tells Batch's answer: its buffer has fewer than 2 ^ 63 bytes, as every slice has.
use Rattle.std.proofs.Common.{◌≡◌, rules, arith}
use Rattle.towers.specs.Words.{batch_word}
use Rattle.towers.proofs.Apart.{batch_tells}
use Rattle.towers.proofs.tower_batch.Goals as goal

pub returns-clause-tells : goal.returns-clause-tells
returns-clause-tells c =
    let said : c.word_of.result ≡ batch_word c.args.n c.args.tasks.now c.args.out.now = search rules in
    rw said (batch_tells _ _ _ (omega arith))
