-- Gatherings of a tower that is written out as an array.
use Prim.Native.Nat.{ℕ, ◌≤◌, ◌<◌}
use mathlib.Core.Path.{◌≡◌}
use native.Mathlib.Omega.{arith}
use lib.ListN.{replicate, length-replicate, get_or-replicate}
use Rattle.board.specs.Position.{peg}
use Rattle.board.specs.Task.{limit}
use Rattle.board.proofs.Formed.{formed_replicate}
use Rattle.plan.specs.Inner.Sound.{Gatherable}
use Rattle.route.specs.Inner.Along.{along}
use Rattle.route.specs.Inner.Stage.{first_move_of}
use Rattle.route.proofs.Along.Along.{along_cong}
use Rattle.route.proofs.Gatherings.Gathering.{gathering_cong}

-- A tower on a peg can be gathered on any.
pub tower_gatherable : (b k j : ℕ) → b < 3 → k ≤ limit → j < 3 → Gatherable (replicate limit b) k j
tower_gatherable b k j hb hk hj =
    record {
      there = rw (length-replicate limit b) hk;
      within = hk;
      formed = formed_replicate limit b hb;
      target = hj;
    }

module _ (b k j r : ℕ) (h : k ≤ limit) where
  -- Its discs are on one peg.
  pub tower_along : (d : ℕ) → d < k → along (peg (replicate limit b)) k j r d ≡ along (λ _. b) k j r d
  tower_along d l =
      along_cong k (peg (replicate limit b)) (λ _. b) j r d (λ e g. get_or-replicate limit e b 0 (omega arith))
      (get_or-replicate limit d b 0 (omega arith))

  -- So the first move along its gathering is that of a tower.
  pub tower_first : first_move_of (along (peg (replicate limit b)) k j r) k j ≡ first_move_of (along (λ _. b) k j r) k j
  tower_first = rw (gathering_cong k (along (peg (replicate limit b)) k j r) (along (λ _. b) k j r) j tower_along)
