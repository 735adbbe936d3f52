-- The store moves the disc, the counts have room for one play more, and what remained is the fewest before.
use Rattle.std.proofs.Common.{refl, arith, rules}
use Rattle.board.specs.Move.{moved}
use Rattle.session.specs.Answer.{move_mark, play_answer, played_record, play_leaves}
use Rattle.session.proofs.Account.{account_counts}
use Rattle.session.proofs.Calls.{play_passed}
use Rattle.session.proofs.Plays.{moving_within, moving_stored, moving_ends}
use Rattle.session.proofs.record.Session.accepted.Goals as goal

pub shared_ref_as_front-top_of : goal.shared_ref_as_front-top_of
shared_ref_as_front-top_of c = (play_passed _ _ c.requires).sounds.positions.few

pub bounds-session-disc : goal.bounds-session-disc
bounds-session-disc c = rw c.top_of-disc.ensures (moving_within (search rules) (play_passed _ _ c.requires))

pub fewest_from-requires : goal.fewest_from-requires
fewest_from-requires c =
    let p = play_passed _ _ c.requires in
    record { n_le_limit = p.sounds.positions.few; ends = rw c.top_of-disc.ensures (moving_ends (search rules) p _ (omega (arith, p.legal.from_peg, p.legal.to_peg))) }

pub with-session-requires : goal.with-session-requires
with-session-requires c = account_counts (play_passed _ _ c.requires).sounds.account

-- The mark and the record after the play are the rule's.
pub returns : goal.returns
unfolding move_mark play_answer played_record play_leaves moved
returns c =
    let p = play_passed _ _ c.requires in
    rw (
      c.requires,
      c.with-session.ensures,
      c.of-mark.ensures,
      c.fewest_from.ensures.value,
      c.top_of-disc.ensures,
      moving_stored (search rules) p _,
      p.sounds.remaining,
    )
    (refl, refl)
