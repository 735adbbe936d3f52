-- The next move of a route, from the topmost discs alone. A leg is a move of one disc with the gathering of the smaller ones that makes
-- way for it; a route is one leg after another.
use Rattle.std.specs.Prelude.{ℕ, zero, suc, ◌+◌, ◌-◌, ◌%◌, ◌≤◌, ◌<◌, false, cond, List, ◌≡◌, eqb, ltb, length}
use Rattle.board.specs.Peg.{third}
use Rattle.board.specs.Position.{peg, WellFormed}
use Rattle.board.specs.Task.{limit}
use Rattle.plan.specs.Tower.{tower_length}
use Rattle.run.specs.Inner.Pegs.{disc_on, Carries, shifted}
use Rattle.run.specs.declared.stepper.Leg.{Leg}
use Rattle.run.specs.declared.stepper.Turn.{Turn}
use Rattle.run.specs.declared.stepper.Stepper.{Stepper}
use Rattle.run.specs.declared.stepper.Step.{Step}

-- A move, and the turn after it.
pub record Turned : Type 0 where
  pub from : ℕ
  pub to : ℕ
  pub turn : Turn

-- A step with the turn u after it.
abbrev pub turned : Step → Turn → Turned
turned r u = record { from = r.from; to = r.to; turn = u }

-- Disc 1 goes to its target; the gathering has one move less.
unfoldable pub small_turn : Turn → Turned
small_turn u = record { from = u.small; to = u.aim; turn = record { small = u.aim; aim = u.aim; left = u.left - 1 } }

-- Of the two pegs without disc 1, which is on peg i, the one after it.
abbrev pub second : ℕ → ℕ
second i = (i + 1) % 3

-- And the one after that.
abbrev pub last : ℕ → ℕ
last i = (i + 2) % 3

-- Between them the smaller topmost disc goes onto the larger. This is the peg that it leaves.
unfoldable pub other_from : List ℕ → ℕ → ℕ
other_from t i = cond (ltb (disc_on t (second i)) (disc_on t (last i))) (second i) (last i)

-- And this is the peg that it reaches.
unfoldable pub other_to : List ℕ → ℕ → ℕ
other_to t i = cond (ltb (disc_on t (second i)) (disc_on t (last i))) (last i) (second i)

-- Where disc 1 goes next: after a disc whose number is even, else to where that disc came from.
abbrev pub aim_after : ℕ → ℕ → ℕ → ℕ
aim_after disc from to = cond (eqb (disc % 2) 0) to from

-- The move without disc 1; the gathering has one move less.
unfoldable pub other_turn : List ℕ → Turn → Turned
other_turn t u =
    let from = other_from t u.small in
    let to = other_to t u.small in
    record { from = from; to = to; turn = record { small = u.small; aim = aim_after (disc_on t from) from to; left = u.left - 1 } }

-- A move of the gathering: disc 1's where an odd number is left, else the other.
unfoldable pub gather_turn : List ℕ → Turn → Turned
gather_turn t u = cond (eqb (u.left % 2) 1) (small_turn u) (other_turn t u)

-- Disc 1's target when a tower of k discs goes from peg w to peg j.
unfoldable pub tower_aim : ℕ → ℕ → ℕ → ℕ
tower_aim k w j = cond (eqb (k % 2) 1) j (third w j)

-- The own move of the leg l; the next leg, l', begins with the smaller discs as a tower.
unfoldable pub leg_turn : Turn → Leg → Leg → Turned
leg_turn u l l' =
    record {
      from = l.from;
      to = l.to;
      turn =
          record {
            small = cond (eqb l.disc 0) l.to u.small;
            aim = tower_aim l'.disc (third l.from l.to) (third l'.from l'.to);
            left = tower_length l'.disc;
          };
    }

-- The largest of discs 1 to k whose goal is not peg w, and its move there: the next leg of spreading a tower on w. All 0 for none.
unfoldable pub spread_leg : (ℕ → ℕ) → ℕ → ℕ → Leg
spread_leg q zero w = record { disc = 0; from = 0; to = 0; again = false }
spread_leg q (suc k) w = cond (eqb (q k) w) (spread_leg q k w) (record { disc = k; from = w; to = q k; again = false })

-- The leg after a leg: where the disc crosses again, on to the third peg from where the smaller ones are; else the next of the spreading.
unfoldable pub next_leg : Leg → (ℕ → ℕ) → Leg
next_leg l q =
    cond l.again (record { disc = l.disc; from = l.to; to = third l.from l.to; again = false })
    (spread_leg q l.disc (third l.from l.to))

-- A move, and the stepper after it.
pub record Advance : Type 0 where
  pub from : ℕ
  pub to : ℕ
  pub stepper : Stepper

-- The stepper makes a step, after which it is in the leg l.
abbrev pub made : Stepper → Turned → Leg → Advance
made s r l =
    record {
      from = r.from;
      to = r.to;
      stepper = record { pegs = shifted s.pegs r.from r.to; turn = r.turn; leg = l };
    }

-- The leg's own move, after which the next leg begins.
abbrev pub leg_step : Stepper → (ℕ → ℕ) → Advance
leg_step s q = made s (leg_turn s.turn s.leg (next_leg s.leg q)) (next_leg s.leg q)

-- A move of the gathering, after which the leg goes on.
abbrev pub gather_step : Stepper → Advance
gather_step s = made s (gather_turn s.pegs.top s.turn) s.leg

-- The next move: the leg's own where nothing is left to gather, else one of the gathering.
unfoldable pub advance : Stepper → (ℕ → ℕ) → Advance
advance s q = cond (eqb s.turn.left 0) (leg_step s q) (gather_step s)

-- The number of the topmost disc of a peg.
abbrev pub top_of : Stepper → ℕ → ℕ
top_of s i = disc_on s.pegs.top i

-- The stepper can make its next move: the move is one of a disc between pegs, disc 1 is on top where the move is its own, and a leg's
-- discs are among the goal's.
pub record Safe (s : Stepper) (g : List ℕ) : Type 0 where
  pub small : s.turn.small < 3
  pub from : (advance s (peg g)).from < 3
  pub to : (advance s (peg g)).to < 3
  pub carries : Carries s.pegs.top (advance s (peg g)).from
  pub on_top : s.turn.left % 2 ≡ 1 → top_of s s.turn.small ≡ 1
  pub leg_disc : s.turn.left ≡ 0 → s.leg.disc ≤ length g
  pub within : length g ≤ limit
  pub formed : WellFormed g
