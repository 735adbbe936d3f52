-- The start and the goal are ends.
use Rattle.std.proofs.Common.{rules}
use Rattle.session.proofs.Soundness.{positions_held_lem, start_ends}
use Rattle.session.proofs.record.Session.marks_agree.Goals as goal

pub fewest_from-first-requires : goal.fewest_from-first-requires
fewest_from-first-requires c =
    let p = positions_held_lem _ c.requires.positions in
    record { n_le_limit = p.few; ends = start_ends (search rules) p }
