-- `text::read::line_end` meets its contract: the first newline is looked for.
use Rattle.std.proofs.Common.{eqb, rules, tests}
use Rattle.std.proofs.lemmas.Iterator.{YieldsList-from_slice}
use Rattle.std.proofs.lemmas.Iterator.Search.{position_from_yields_List}
use Rattle.text.specs.Input.{newline}
use Rattle.text.proofs.Reading.{end_position}
use Rattle.text.proofs.read.line_end.Goals as goal

pub returns-clause-value : goal.returns-clause-value
returns-clause-value c =
    let found = position_from_yields_List (λ b. eqb b newline) _ _ c.position.result c.position.ensures.ran (YieldsList-from_slice c.args.input.now cc) (λ x b q k. search (rules, tests)) in
    rw (end_position, ← found) c.unwrap_or.ensures
