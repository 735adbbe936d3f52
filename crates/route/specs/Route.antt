-- The routes of a task as lists of moves (document 01, "Rules from the papers"; 002, Theorems 3 and 4). `p d` and `q d` are the pegs
-- of disc d + 1 at the start and at the goal.
use Rattle.std.specs.Prelude.{ℕ, zero, suc, ◌-◌, cond, List, [], ◌∷◌, ◌++◌, eqb, get_or}
use Rattle.board.specs.Peg.{third}
use Rattle.board.specs.Position.{peg}
use Rattle.board.specs.Move.{Move, moved}
use Rattle.plan.specs.Plan.{plan_of}
use Rattle.plan.specs.declared.answer.Way.{Way}
use Rattle.plan.specs.declared.answer.Way.TheVariants.{Still, Direct, Detour, Tie}
use Rattle.route.specs.declared.answer.DiscMove.{DiscMove}

-- Disc d + 1 goes from one peg to another.
abbrev pub carry : ℕ → ℕ → ℕ → DiscMove
carry d i j = record { disc = suc d; from = i; to = j }

-- A move without its disc.
abbrev pub plain : DiscMove → Move
plain m = record { from = m.from; to = m.to }

-- Gathering discs 1 to k on peg j. Where disc k is not on j, the smaller ones are gathered on the third peg, disc k goes to j, and
-- the smaller ones, a tower, follow it (002, Theorem 3).
unfoldable pub gathering : (ℕ → ℕ) → ℕ → ℕ → List DiscMove
gathering p zero j = []
gathering p (suc k) j =
    cond (eqb (p k) j) (gathering p k j)
    (gathering p k (third j (p k)) ++ (carry k (p k) j ∷ gathering (λ _. third j (p k)) k j))

-- A list of moves run backwards.
abbrev pub turned : DiscMove → DiscMove
turned m = record { disc = m.disc; from = m.to; to = m.from }

unfoldable pub backwards : List DiscMove → List DiscMove
backwards [] = []
backwards (m ∷ ms) = backwards ms ++ (turned m ∷ [])

-- Spreading is the gathering run backwards.
unfoldable pub spreading : (ℕ → ℕ) → ℕ → ℕ → List DiscMove
spreading q k j = backwards (gathering q k j)

-- The direct route of disc k + 1: gather the smaller discs on the third peg, cross, and spread them.
unfoldable pub direct_route : (ℕ → ℕ) → (ℕ → ℕ) → ℕ → List DiscMove
direct_route p q k =
    gathering p k (third (p k) (q k)) ++ (carry k (p k) (q k) ∷ spreading q k (third (p k) (q k)))

-- The detour of disc k + 1: gather the smaller discs on its goal peg, cross to the third peg, shift them to its start peg, cross to
-- the goal peg, and spread them.
unfoldable pub detour_route : (ℕ → ℕ) → (ℕ → ℕ) → ℕ → List DiscMove
detour_route p q k =
    gathering p k (q k)
    ++ (carry k (p k) (third (p k) (q k))
    ∷ (gathering (λ _. q k) k (p k) ++ (carry k (third (p k) (q k)) (q k) ∷ spreading q k (p k))))

-- The route of a number, by the way of the plan and its largest moving disc. A tie has two: route 0 is direct, route 1 the detour.
unfoldable pub route_by : Way → (ℕ → ℕ) → (ℕ → ℕ) → ℕ → ℕ → List DiscMove
route_by Still p q k r = []
route_by (Direct l) p q k r = direct_route p q k
route_by (Detour l) p q k r = detour_route p q k
route_by (Tie l) p q k zero = direct_route p q k
route_by (Tie l) p q k (suc r) = detour_route p q k

-- Route r of the task from s to t.
unfoldable pub route_of : List ℕ → List ℕ → ℕ → List DiscMove
route_of s t r = route_by (plan_of s t).way (peg s) (peg t) ((plan_of s t).largest - 1) r

-- The move at an index of a route.
abbrev pub move_at : List DiscMove → ℕ → DiscMove
move_at ms i = get_or ms i (record { disc = 0; from = 0; to = 0 })

-- What a list of moves leaves of a position.
unfoldable pub after : List ℕ → List DiscMove → List ℕ
after p [] = p
after p (m ∷ ms) = after (moved p (plain m)) ms
