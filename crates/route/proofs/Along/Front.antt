-- The pegs along a gathering as the front of an array.
use Prim.Native.Nat.{ℕ, ◌≤◌, ◌<◌}
use mathlib.Core.Path.{◌≡◌}
use mathlib.Core.List.{List}
use native.Mathlib.Omega.{arith}
use lib.ListN.{length, take, length-take}
use lib.Seq.{get_or-take}
use Rattle.board.specs.Position.{peg}
use Rattle.board.proofs.Formed.{pegs_formed}
use Rattle.plan.specs.Inner.Sound.{Gatherable}
use Rattle.route.specs.Inner.Along.{Along, along}
use Rattle.route.specs.Inner.Stage.{first_move_of}
use Rattle.route.proofs.Gatherings.Gathering.{gathering_cong}

module _ {p a : List ℕ} {k j r : ℕ} (h : Along p k j r a) where
  -- The first k bytes have the pegs along the gathering.
  pub front_is : (d : ℕ) → d < k → peg (take k a) d ≡ along (peg p) k j r d
  front_is d l = rw (get_or-take k a d 0 l) (h.is d l)

  -- They are a position that can be gathered.
  pub front_gatherable : k ≤ length a → Gatherable p k j → Gatherable (take k a) k j
  front_gatherable b g =
      let size : length (take k a) ≡ k = simp length-take (omega arith) in
      record {
        there = omega arith;
        within = g.within;
        formed = pegs_formed (take k a) (λ d l. rw (get_or-take k a d 0 (omega arith)) (h.pegs d (omega arith)));
        target = g.target;
      }

  -- Their gathering has the first move of that of the pegs along.
  pub front_first : first_move_of (peg (take k a)) k j ≡ first_move_of (along (peg p) k j r) k j
  front_first = rw (gathering_cong _ _ _ _ front_is)

-- What is met in the middle.
pub ruleset middle = (front_gatherable, front_first)
