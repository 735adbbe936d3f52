-- The largest disc that moves crosses as often as its way says, and the smaller ones are written below it.
use mathlib.Core.Path.{◌∙◌, sym}
use native.Mathlib.Omega.{arith}
use Rattle.wear.proofs.Stored.{moved_pegs, detour_ready, direct_ready, detour_written, direct_written}
use Rattle.wear.proofs.writing.write_moved.Goals.{then-is_detour, else-is_detour}
use Rattle.wear.proofs.writing.write_moved.Goals as goal

pub third-free-requires : goal.third-free-requires
third-free-requires c = moved_pegs c.args.opened.now.task.ends c.args.opened.now.planned

pub write_smaller-requires : goal.write_smaller-requires
write_smaller-requires c =
    let o = c.args.opened.now in
    elim c.if-is_detour.branch [
      | then-is_detour w ↦ rw w.gaps-is (detour_ready o.task.ends o.planned o.route c.args.out.now c.requires.0 c.requires.1 (sym c.is_detour.ensures ∙ w.if-is_detour.true) (omega arith) _)
      | else-is_detour w ↦ rw w.gaps-is (direct_ready o.task.ends o.planned o.route c.args.out.now c.requires.0 c.requires.1 (sym c.is_detour.ensures ∙ w.if-is_detour.false) w.third-free.ensures _)
    ]

pub returns : goal.returns
returns c =
    let o = c.args.opened.now in
    c.write_smaller.ensures
    ∙ elim c.if-is_detour.branch [
      | then-is_detour w ↦ rw w.gaps-is (detour_written o.task.ends o.planned o.route c.args.out.now c.requires.0 c.requires.1 (sym c.is_detour.ensures ∙ w.if-is_detour.true))
      | else-is_detour w ↦ rw w.gaps-is (direct_written o.task.ends o.planned o.route c.args.out.now c.requires.0 c.requires.1 (sym c.is_detour.ensures ∙ w.if-is_detour.false) w.third-free.ensures)
    ]
