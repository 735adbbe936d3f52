-- The discs below k are where the gathering has them, and the larger ones stay.
use Prim.Native.Nat.{ℕ, ◌≤◌, ◌<◌}
use mathlib.Core.Path.{◌≡◌, ◌∙◌, refl, sym}
use mathlib.Core.Bool.{cond}
use mathlib.Core.List.{List}
use native.Mathlib.Decide.{ℕ_discrete, dec_lt}
use native.Mathlib.Omega.{arith}
use borrow.Author.Tests.{eq-eqb, ne_eqb, lt-ltb, le-ltb}
use lib.Dec.{eqb, ltb}
use lib.ListN.{length, get_or, set, replicate}
use lib.Seq.{get_or-set_same, get_or-set_other}
use Rattle.board.specs.Position.{peg}
use Rattle.board.specs.Task.{limit}
use Rattle.route.specs.Inner.Along.{along, Along}
use Rattle.route.specs.Inner.Stage.{stage_peg}
use Rattle.route.proofs.Along.Along.{along_above}
use Rattle.route.proofs.Along.Towers.{tower_along}
use Rattle.route.proofs.stage.stage_pegs.Goals as goal

-- The pegs along the gathering of a position, with its larger discs, are those of all its discs.
joined_along : {p a : List ℕ} {k j r b : ℕ} (d : ℕ) → Along p k j r a → b ≡ cond (ltb d k) (get_or a d 0) (peg p d)
    → b ≡ along (peg p) k j r d
joined_along {p} {k = k} {j} {r} d h e =
    elim (dec_lt d k) [
      | yes l ↦ e ∙ rw (lt-ltb d k l) (h.is d l)
      | no n ↦ e ∙ rw (le-ltb d k (omega arith)) (sym (along_above (peg p) k j r d (omega arith)))
    ]

-- The pegs along the gathering of a tower on x, with disc k + 1 on f and the larger discs of a position.
joined_tower : (p b : List ℕ) (x f : ℕ) {a : List ℕ} {k j r : ℕ} (d : ℕ)
    → Along (replicate limit x) k j r a → k ≤ limit → k < length b
    → get_or b d 0 ≡ cond (ltb d k) (get_or a d 0) (peg p d)
    → get_or (set b k f) d 0 ≡ cond (ltb d k) (along (λ _. x) k j r d) (cond (eqb d k) f (peg p d))
joined_tower p b x f {k = k} {j} {r} d h hk hb e =
    elim (ℕ_discrete d k) [
      | yes s ↦ rw (s, get_or-set_same b k f 0 hb, le-ltb k k (omega arith), eq-eqb k k refl)
      | no n ↦ elim (dec_lt d k) [
        | yes l ↦ rw (get_or-set_other b k d f 0 n, e, lt-ltb d k l) (h.is d l ∙ tower_along x k j r hk d l)
        | no m ↦ rw (get_or-set_other b k d f 0 n, e, le-ltb d k (omega arith), ne_eqb d k n)
      ]
    ]

-- The smaller discs are being gathered.
pub returns-in-Gathering : goal.returns-in-Gathering
unfolding stage_peg
returns-in-Gathering c d l =
    let g = rw c.in-Gathering.is at c.gathering-gathering.ensures in
    rw c.in-Gathering.is (joined_along d (rw (g.position_value, g.discs_value, g.target_value) at c.pegs_along.ensures) (c.with_larger.ensures d l))

-- They are being shifted.
pub returns-in-Shifting : goal.returns-in-Shifting
unfolding stage_peg
returns-in-Shifting c d l =
    let g = rw c.in-Shifting.is at c.gathering-gathering.ensures in
    rw c.in-Shifting.is
    (joined_tower c.args.task.now.start.now c.with_larger-pegs.result c.args.course.to c.args.course.free d
    (rw (g.position_value, g.discs_value, g.target_value) at c.pegs_along-in-Shifting.ensures)
    (omega (arith, c.requires.disc_there, c.args.task.now.ends.within))
    (omega arith)
    (c.with_larger-pegs.ensures d l))

-- They are being spread.
pub returns-in-Spreading : goal.returns-in-Spreading
unfolding stage_peg
returns-in-Spreading c d l =
    let g = rw c.in-Spreading.is at c.gathering-gathering.ensures in
    rw c.in-Spreading.is (joined_along d (rw (g.position_value, g.discs_value, g.target_value) at c.pegs_along-in-Spreading.ensures) (c.with_larger-in-Spreading.ensures d (omega arith)))
