-- What a stepper stands for: a position, and the moves of a route that lie ahead.
use Rattle.std.specs.Prelude.{ℕ, ◌-◌, ◌<◌, ◌%◌, ◌≡◌, cond, List, ◌∷◌, ◌++◌, length}
use Rattle.board.specs.Peg.{third}
use Rattle.board.specs.Position.{peg, WellFormed}
use Rattle.plan.specs.Gather.{gather}
use Rattle.plan.specs.Inner.Three.{Three}
use Rattle.route.specs.Route.{carry, gathering, spreading}
use Rattle.route.specs.declared.answer.DiscMove.{DiscMove}
use Rattle.route.specs.Inner.Aim.{aim}
use Rattle.run.specs.Inner.Pegs.{Holds}
use Rattle.run.specs.declared.stepper.Leg.{Leg}
use Rattle.run.specs.declared.stepper.Stepper.{Stepper}

-- The peg on which the smaller discs make way for a leg.
abbrev pub aside : Leg → ℕ
aside l = third l.from l.to

-- What follows the leg's own move.
unfoldable pub leg_rest : Leg → (ℕ → ℕ) → List DiscMove
leg_rest l q =
    cond l.again
    (gathering (λ _. aside l) l.disc l.from ++ (carry l.disc l.to (aside l) ∷ spreading q l.disc l.from))
    (spreading q l.disc (aside l))

-- The leg's own move.
abbrev pub leg_move : Leg → DiscMove
leg_move l = carry l.disc l.from l.to

-- The moves of a leg from the pegs u on: gather the smaller discs aside, its own move, and what follows.
abbrev pub leg_moves : Leg → (ℕ → ℕ) → (ℕ → ℕ) → List DiscMove
leg_moves l u q = gathering u l.disc (aside l) ++ (leg_move l ∷ leg_rest l q)

-- The stepper stands at position p with the moves ms ahead.
pub record Ready (s : Stepper) (p : List ℕ) (q : ℕ → ℕ) (ms : List DiscMove) : Type 0 where
  pub holds : Holds s.pegs p
  pub formed : WellFormed p
  pub leg_there : s.leg.disc < length p
  pub leg_pegs : Three s.leg.from s.leg.to (aside s.leg)
  pub leg_from : peg p s.leg.disc ≡ s.leg.from
  pub left : s.turn.left ≡ gather (peg p) s.leg.disc (aside s.leg)
  pub rest : ms ≡ leg_moves s.leg (peg p) q
  pub small : s.turn.small ≡ peg p 0
  pub aimed : s.turn.left % 2 ≡ 1 → s.turn.aim ≡ aim (peg p) (s.leg.disc - 1) (aside s.leg)
