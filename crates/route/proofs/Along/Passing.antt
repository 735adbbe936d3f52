-- A disc is passed on the way down a gathering: each of its three cases leaves the smaller discs to a gathering of their own.
use Prim.Native.Nat.{ℕ, ◌-◌, ◌≤◌, ◌<◌, ◌^◌}
use mathlib.Core.Path.{◌≡◌, ◌∙◌, refl, fun_ext}
use mathlib.Core.Logic.{◌≢◌}
use mathlib.Core.List.{List}
use native.Mathlib.Omega.{arith}
use Rattle.std.specs.Prelude.{Option, Some, None, unwrap_or}
use Rattle.board.specs.Peg.{third}
use Rattle.board.specs.Position.{peg, WellFormed}
use Rattle.board.proofs.Pegs.{third_peg}
use Rattle.board.proofs.Formed.{formed_pegs}
use Rattle.plan.proofs.Fits.{tower_more, tower_fits}
use Rattle.plan.proofs.Gathering.{Pegs}
use Rattle.route.specs.Inner.Along.{stacked, IsPeg, Passes}
use Rattle.route.proofs.Along.Along.{along_home, along_before, along_after_below, along_after_here, along_above}

-- The pegs of a tower.
pub stacked_tower : (p : List ℕ) (t : ℕ) → stacked p (Some t) ≡ (λ _. t)
unfolding stacked
stacked_tower p t = fun_ext (λ d. refl)

-- Where there is no tower yet, the pegs of the position.
pub stacked_none : (p : List ℕ) → stacked p None ≡ peg p
unfolding stacked
stacked_none p = fun_ext (λ d. refl)

-- The peg of a disc, of the tower or of the position.
pub tower_or : (p : List ℕ) (t : Option ℕ) (k : ℕ) → unwrap_or t (peg p k) ≡ stacked p t k
unfolding stacked
tower_or p (Some t) k = refl
tower_or p None k = refl

-- Either way every disc is on a peg.
pub stacked_pegs : (p : List ℕ) (t : Option ℕ) → WellFormed p → IsPeg t → Pegs (stacked p t)
stacked_pegs p (Some t) h on d = rw (stacked_tower p t) on
stacked_pegs p None h on d = rw (stacked_none p) (formed_pegs p h d)

module _ (p : List ℕ) (k j r : ℕ) (t : Option ℕ) (hj : j < 3) (on : IsPeg t) where
  -- The disc is on its target.
  pub pass_home : stacked p t k ≡ j → Passes p k j r t (record { peg = j; goal = j; rest = r; tower = t })
  pass_home e =
      record {
        here = along_home (stacked p t) k j r k e ∙ along_above (stacked p t) k j r k (omega arith) ∙ e;
        below = λ d l. along_home (stacked p t) k j r d e;
        target = hj;
        tower = on;
      }

  -- The disc has yet to move.
  pub pass_before : stacked p t k ≢ j → 2 ^ k ≤ r
      → Passes p k j r t (record { peg = stacked p t k; goal = third j (stacked p t k); rest = r - 2 ^ k; tower = t })
  pass_before n h =
      record {
        here = along_before (stacked p t) k j r k n h ∙ along_above (stacked p t) k _ _ k (omega arith);
        below = λ d l. along_before (stacked p t) k j r d n h;
        target = third_peg j (stacked p t k) hj;
        tower = on;
      }

  -- The disc has moved.
  pub pass_after : stacked p t k ≢ j → r < 2 ^ k
      → Passes p k j r t (record { peg = j; goal = j; rest = r; tower = Some (third j (stacked p t k)) })
  pass_after n h =
      record {
        here = along_after_here (stacked p t) k j r n h;
        below = λ d l. rw (stacked_tower p _) (along_after_below (stacked p t) k j r d n h l);
        target = hj;
        tower = third_peg j (stacked p t k) hj;
      }

-- How a disc is passed.
pub ruleset passing = (tower_or, tower_more, tower_fits, stacked_pegs, pass_home, pass_before, pass_after)
