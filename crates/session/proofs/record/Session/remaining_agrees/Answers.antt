-- The current position and the goal are ends.
use Rattle.std.proofs.Common.{rules}
use Rattle.session.proofs.Soundness.{positions_held_lem, current_ends}
use Rattle.session.proofs.record.Session.remaining_agrees.Goals as goal

pub fewest_from-now-requires : goal.fewest_from-now-requires
fewest_from-now-requires c =
    let p = positions_held_lem _ c.requires in
    record { n_le_limit = p.few; ends = current_ends (search rules) p }
