-- So many moves of a gathering alone, without a leg and a goal, and their letters.
use Rattle.std.specs.Prelude.{ℕ, zero, suc, ◌%◌, ◌<◌, List, [], ◌∷◌, ◌++◌, ◌≡◌}
use Rattle.route.specs.Answer.{letter}
use Rattle.run.specs.Inner.Pegs.{disc_on, Carries, shifted}
use Rattle.run.specs.Inner.Stepper.{Turned, gather_turn}
use Rattle.run.specs.declared.pegs.Pegs.{Pegs}
use Rattle.run.specs.declared.stepper.Turn.{Turn}

-- What a move of a gathering needs: the pegs and the turn.
pub record Gatherer : Type 0 where
  pub pegs : Pegs
  pub turn : Turn

-- The gatherer with the pegs a and the turn u.
abbrev pub gatherer : Pegs → Turn → Gatherer
gatherer a u = record { pegs = a; turn = u }

-- Its next move.
abbrev pub gather_move : Gatherer → Turned
gather_move g = gather_turn g.pegs.top g.turn

-- The gatherer after a move.
abbrev pub gather_next : Gatherer → Turned → Gatherer
gather_next g r = record { pegs = shifted g.pegs r.from r.to; turn = r.turn }

-- The gatherer after so many moves.
unfoldable pub gathers_from : Gatherer → ℕ → Gatherer
gathers_from g zero = g
gathers_from g (suc i) = gather_next (gathers_from g i) (gather_move (gathers_from g i))

-- So many moves of a gathering, each as two letters, from then to.
unfoldable pub gather_letters : Gatherer → ℕ → List ℕ
gather_letters g zero = []
gather_letters g (suc i) =
    let r = gather_move (gathers_from g i) in
    gather_letters g i ++ (letter r.from ∷ letter r.to ∷ [])

-- The gatherer can make its next move: something is left, the move is one of a disc between pegs, and disc 1 is on top where the move is
-- its own.
pub record Gathers (g : Gatherer) : Type 0 where
  pub some : 0 < g.turn.left
  pub small : g.turn.small < 3
  pub from : (gather_move g).from < 3
  pub to : (gather_move g).to < 3
  pub carries : Carries g.pegs.top (gather_move g).from
  pub on_top : g.turn.left % 2 ≡ 1 → disc_on g.pegs.top g.turn.small ≡ 1
