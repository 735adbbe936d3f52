-- What remains of a sound record is the fewest, and its excess neither wraps nor goes below 0.
use Rattle.std.proofs.Common.{rules}
use Rattle.session.proofs.Soundness.{sound_record, start_ends, sound_covers, sound_fits}
use Rattle.session.proofs.record.Session.figures.Goals as goal

pub fewest_from-first-requires : goal.fewest_from-first-requires
fewest_from-first-requires c =
    let p = (sound_record _ c.requires).positions in
    record { n_le_limit = p.few; ends = start_ends (search rules) p }

-- The plays made and what remains cover the fewest at the start, and their sum fits.
pub excess-requires : goal.excess-requires
excess-requires c =
    let r = sound_record _ c.requires in
    rw (c.fewest_from-first.ensures.value, r.remaining) (record { first_bound = sound_covers r; remaining_bound = sound_fits (search rules) r })

pub returns : goal.returns
returns c = rw (c.excess.ensures, c.fewest_from-first.ensures.value, (sound_record _ c.requires).remaining)
