-- Each disc is passed once, from the largest downwards.
use Prim.Native.Nat.{ℕ, suc, ◌-◌, ◌≤◌, ◌<◌}
use mathlib.Core.Path.{◌≡◌}
use mathlib.Core.List.{List}
use native.Mathlib.Decide.{ℕ_discrete}
use native.Mathlib.Omega.{arith}
use lib.ListN.{length, get_or, set, length-set}
use lib.Seq.{get_or-set_same, get_or-set_other}
use Rattle.board.proofs.Formed.{formed_pegs}
use Rattle.route.proofs.Along.Along.{along_pegs}
use Rattle.route.proofs.gathering.Gathering.pegs_along.Goals as goal

-- A list that has f from m + 1 on has f from m on once f m is written at m.
from_less : {f : ℕ → ℕ} {k : ℕ} (a : List ℕ) (m x : ℕ) → m < length a → x ≡ f m
    → ((d : ℕ) → m < d → d < k → get_or a d 0 ≡ f d) → (d : ℕ) → m ≤ d → d < k → get_or (set a m x) d 0 ≡ f d
from_less a m x hm e old d l h =
    elim (ℕ_discrete d m) [
      | yes s ↦ rw (s, get_or-set_same a m x 0 hm) e
      | no n ↦ rw (get_or-set_other a m d x 0 n) (old d (omega arith) h)
    ]

-- Disc m is passed.
pub loop-m-preserved : goal.loop-m-preserved
loop-m-preserved c =
    let loop = c.loop-m.invariant in
    let less = c.loop-m.m - 1 in
    let up : suc less ≡ c.loop-m.m = omega arith in
    record {
      goal_peg = c.pass-passed.ensures.target;
      tower_peg = c.pass-passed.ensures.tower;
      size = simp length-set loop.size;
      left = λ d l. rw (← c.pass-passed.ensures.below d l, up) (loop.left d (omega arith));
      done =
          from_less c.loop-m.pegs less _ (omega arith) (rw (← c.pass-passed.ensures.here, up) (loop.left less (omega arith)))
          (λ d l. loop.done d (omega arith));
    }

-- No disc is left.
pub returns : goal.returns
returns c =
    let has = c.loop-m.invariant.done in
    record {
      is = λ d. has d (omega arith);
      pegs = λ d h. rw (has d (omega arith) h) (along_pegs _ (formed_pegs _ c.args.self.now.ready.formed) _ _ _ c.args.self.now.ready.target d);
    }
