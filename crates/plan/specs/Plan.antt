-- Plan (document 01, "Rules from the papers"; 002, Theorem 4 and its corollaries). `p d` and `q d` are the pegs of disc d + 1 at the
-- start and at the goal.
use Rattle.std.specs.Prelude.{ℕ, zero, suc, ◌+◌, ◌^◌, cond, List, ◌≡◌, eqb, ltb, length}
use Rattle.board.specs.Peg.{third}
use Rattle.board.specs.Position.{peg}
use Rattle.plan.specs.Gather.{gather}
use Rattle.plan.specs.declared.answer.Lengths.{Lengths}
use Rattle.plan.specs.declared.answer.Way.{Way}
use Rattle.plan.specs.declared.answer.Way.TheVariants.{Still, Direct, Detour, Tie}
use Rattle.plan.specs.declared.answer.Plan.{Plan}

-- The largest of discs 1 to n whose start and goal pegs differ, or 0 where there is none.
unfoldable pub largest : (ℕ → ℕ) → (ℕ → ℕ) → ℕ → ℕ
largest p q zero = 0
largest p q (suc k) = cond (eqb (p k) (q k)) (largest p q k) (suc k)

-- The one-move plan of disc k + 1: gather the smaller discs on the third peg, cross, and spread them.
unfoldable pub direct : (ℕ → ℕ) → (ℕ → ℕ) → ℕ → ℕ
direct p q k = gather p k (third (p k) (q k)) + 1 + gather q k (third (p k) (q k))

-- The two-move plan of disc k + 1: gather the smaller discs on its goal peg, cross to the third peg, shift them to its start peg,
-- cross to the goal peg, and spread them.
unfoldable pub detour : (ℕ → ℕ) → (ℕ → ℕ) → ℕ → ℕ
detour p q k = gather p k (q k) + 2 ^ k + 1 + gather q k (p k)

-- Both lengths.
abbrev pub lengths_of : (ℕ → ℕ) → (ℕ → ℕ) → ℕ → Lengths
lengths_of p q k = record { direct = direct p q k; detour = detour p q k }

-- The way of two lengths: the lesser, or a tie.
unfoldable pub way_of : Lengths → Way
way_of l = cond (ltb l.direct l.detour) (Direct l) (cond (ltb l.detour l.direct) (Detour l) (Tie l))

-- The plan whose largest moving disc is m, 0 for none.
unfoldable pub plan_by : ℕ → (ℕ → ℕ) → (ℕ → ℕ) → ℕ → Plan
plan_by n p q zero = record { discs = n; largest = 0; from = 0; to = 0; way = Still }
plan_by n p q (suc k) =
    record { discs = n; largest = suc k; from = p k; to = q k; way = way_of (lengths_of p q k) }

-- The plan between two positions of one size.
unfoldable pub plan_of : List ℕ → List ℕ → Plan
plan_of s t = plan_by (length s) (peg s) (peg t) (largest (peg s) (peg t) (length s))

-- Shortest is the lesser; where nothing moves it is 0.
abbrev pub shortest_way : Way → ℕ
shortest_way Still = 0
shortest_way (Direct l) = l.direct
shortest_way (Detour l) = l.detour
shortest_way (Tie l) = l.direct

abbrev pub shortest : Plan → ℕ
shortest r = shortest_way r.way

-- A tie has two shortest routes, any other plan one.
abbrev pub routes_way : Way → ℕ
routes_way Still = 1
routes_way (Direct l) = 1
routes_way (Detour l) = 1
routes_way (Tie l) = 2

abbrev pub routes : Plan → ℕ
routes r = routes_way r.way

-- The one-move and the two-move plan tie when their lengths are equal; a still plan has none.
abbrev pub Tied : Way → Type 0
Tied Still = ⊥
Tied (Direct l) = l.direct ≡ l.detour
Tied (Detour l) = l.direct ≡ l.detour
Tied (Tie l) = l.direct ≡ l.detour

-- The two lengths of a way; a still plan has none.
abbrev pub HasLengths : Way → Lengths → Type 0
HasLengths Still l = ⊥
HasLengths (Direct m) l = m ≡ l
HasLengths (Detour m) l = m ≡ l
HasLengths (Tie m) l = m ≡ l
