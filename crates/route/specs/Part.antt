-- The part of the plan behind each move of a route (02, CR 1): a route is at most five stretches, each made by one rule. `p d` and `q d`
-- are the pegs of disc d + 1 at the start and at the goal.
use Rattle.std.specs.Prelude.{ℕ, zero, suc, ◌-◌, List, [], ◌∷◌, ◌++◌, length, get_or, replicate}
use Rattle.board.specs.Peg.{third}
use Rattle.board.specs.Position.{peg}
use Rattle.plan.specs.Plan.{plan_of}
use Rattle.plan.specs.declared.answer.Way.{Way}
use Rattle.plan.specs.declared.answer.Way.TheVariants.{Still, Direct, Detour, Tie}
use Rattle.route.specs.Route.{carry, gathering, spreading}
use Rattle.route.specs.declared.answer.DiscMove.{DiscMove}
use Rattle.route.specs.declared.part.Part.{Part}
use Rattle.route.specs.declared.part.Part.TheVariants.{Gather, Cross, Shift, Spread}

-- A part in text: G, X, T, S.
abbrev pub part_letter : Part → ℕ
part_letter Gather = 71
part_letter Cross = 88
part_letter Shift = 84
part_letter Spread = 83

-- Moves in a row that belong to one part.
pub record Stretch : Type 0 where
  pub part : Part
  pub moves : List DiscMove

abbrev pub stretch : Part → List DiscMove → Stretch
stretch a ms = record { part = a; moves = ms }

-- The direct route of disc k + 1: gathering, the crossing, spreading.
unfoldable pub direct_stretches : (ℕ → ℕ) → (ℕ → ℕ) → ℕ → List Stretch
direct_stretches p q k =
    stretch Gather (gathering p k (third (p k) (q k)))
    ∷ stretch Cross (carry k (p k) (q k) ∷ [])
    ∷ stretch Spread (spreading q k (third (p k) (q k)))
    ∷ []

-- The detour of disc k + 1: gathering, the first crossing, the shift, the second crossing, spreading.
unfoldable pub detour_stretches : (ℕ → ℕ) → (ℕ → ℕ) → ℕ → List Stretch
detour_stretches p q k =
    stretch Gather (gathering p k (q k))
    ∷ stretch Cross (carry k (p k) (third (p k) (q k)) ∷ [])
    ∷ stretch Shift (gathering (λ _. q k) k (p k))
    ∷ stretch Cross (carry k (third (p k) (q k)) (q k) ∷ [])
    ∷ stretch Spread (spreading q k (p k))
    ∷ []

-- The stretches of the route of a number, by the way of the plan and its largest moving disc.
unfoldable pub stretches_by : Way → (ℕ → ℕ) → (ℕ → ℕ) → ℕ → ℕ → List Stretch
stretches_by Still p q k r = []
stretches_by (Direct l) p q k r = direct_stretches p q k
stretches_by (Detour l) p q k r = detour_stretches p q k
stretches_by (Tie l) p q k zero = direct_stretches p q k
stretches_by (Tie l) p q k (suc r) = detour_stretches p q k

-- The stretches of route r of the task from s to t.
unfoldable pub stretches_of : List ℕ → List ℕ → ℕ → List Stretch
stretches_of s t r = stretches_by (plan_of s t).way (peg s) (peg t) ((plan_of s t).largest - 1) r

-- Their moves, joined.
unfoldable pub joined : List Stretch → List DiscMove
joined [] = []
joined (a ∷ rest) = a.moves ++ joined rest

-- The part of each of their moves.
unfoldable pub parts_in : List Stretch → List Part
parts_in [] = []
parts_in (a ∷ rest) = replicate (length a.moves) a.part ++ parts_in rest

-- The part of each move of route r of the task from s to t.
unfoldable pub parts_of : List ℕ → List ℕ → ℕ → List Part
parts_of s t r = parts_in (stretches_of s t r)

-- The part at an index of a route.
abbrev pub part_at : List Part → ℕ → Part
part_at parts i = get_or parts i Gather
