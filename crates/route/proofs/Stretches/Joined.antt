-- The moves of a route's stretches, joined, are the route, and there is a part for each of them.
use Prim.Native.Nat.{ℕ, zero, suc, ◌-◌}
use mathlib.Core.List.{List, [], ◌∷◌, append-nil}
use mathlib.Core.Path.{◌≡◌, ◌∙◌, refl, ap}
use native.Mathlib.Omega.{arith}
use lib.ListN.{length, replicate, length-append, length-replicate}
use Rattle.board.specs.Position.{peg}
use Rattle.plan.specs.Plan.{plan_of}
use Rattle.plan.specs.declared.answer.Way.{Way}
use Rattle.plan.specs.declared.answer.Way.TheVariants.{Still, Direct, Detour, Tie}
use Rattle.route.specs.Part.{Stretch, direct_stretches, detour_stretches, stretches_by, stretches_of, joined, parts_in, parts_of}
use Rattle.route.specs.Route.{direct_route, detour_route, route_by, route_of}

-- Of the direct route.
direct_joins : (p q : ℕ → ℕ) (k : ℕ) → joined (direct_stretches p q k) ≡ direct_route p q k
unfolding joined direct_stretches direct_route
direct_joins p q k = rw append-nil

-- Of the detour.
detour_joins : (p q : ℕ → ℕ) (k : ℕ) → joined (detour_stretches p q k) ≡ detour_route p q k
unfolding joined detour_stretches detour_route
detour_joins p q k = rw append-nil

-- Of every route.
pub route_joins : (s t : List ℕ) (r : ℕ) → joined (stretches_of s t r) ≡ route_of s t r
unfolding joined stretches_of stretches_by route_of route_by
route_joins s t r = by (plan_of s t).way ((plan_of s t).largest - 1) r
  where
    by : (w : Way) (k r : ℕ) → joined (stretches_by w (peg s) (peg t) k r) ≡ route_by w (peg s) (peg t) k r
    by Still k r = refl
    by (Direct l) k r = direct_joins (peg s) (peg t) k
    by (Detour l) k r = detour_joins (peg s) (peg t) k
    by (Tie l) k zero = direct_joins (peg s) (peg t) k
    by (Tie l) k (suc r) = detour_joins (peg s) (peg t) k

-- As many parts as moves.
parts_moves : (l : List Stretch) → length (parts_in l) ≡ length (joined l)
unfolding parts_in joined
parts_moves [] = refl
parts_moves (a ∷ rest) =
    omega (
      arith,
      length-append (replicate (length a.moves) a.part) (parts_in rest),
      length-replicate (length a.moves) a.part,
      length-append a.moves (joined rest),
      parts_moves rest,
    )

pub parts_length : (s t : List ℕ) (r : ℕ) → length (parts_of s t r) ≡ length (route_of s t r)
unfolding parts_of
parts_length s t r = parts_moves (stretches_of s t r) ∙ ap length (route_joins s t r)
