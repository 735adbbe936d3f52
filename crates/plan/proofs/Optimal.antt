-- Nothing is shorter: the plan's shortest is the fewest moves between two positions, and gather the fewest that stack one.
use Prim.Native.Nat.{ℕ, zero, suc, ◌<◌, ◌^◌, min}
use mathlib.Core.Path.{◌≡◌, ◌∙◌, sym, refl}
use mathlib.Core.List.{List}
use native.Mathlib.Decide.{ℕ_discrete, dec_lt}
use native.Mathlib.Nat.{pow-le-pow_left, lt_of_lt_of_le}
use native.Mathlib.Omega.{arith}
use borrow.Author.Tests.{eq-eqb, ne_eqb, lt-ltb, le-ltb}
use lib.Dec.{lit≤}
use lib.ListN.{length, replicate, length-replicate, get_or-replicate}
use Rattle.board.specs.Position.{peg, WellFormed}
use Rattle.board.specs.Fewest.{Fewest, fewest}
use Rattle.board.proofs.Formed.{formed_pegs, formed_replicate}
use Rattle.board.proofs.Search.{fewest_found}
use Rattle.plan.specs.Gather.{gather}
use Rattle.plan.specs.Plan.{largest, lengths_of, way_of, plan_by, plan_of, shortest, shortest_way}
use Rattle.plan.specs.declared.answer.Lengths.{Lengths}
use Rattle.plan.proofs.Distance.{dist, dist_none, dist_home, dist_plan, dist_comm, dist_tower, dist_bound}
use Rattle.plan.proofs.Lists.{leads_dist, dist_leads}

-- The shortest of a way is the lesser of its lengths.
pub shortest_way_lem : (l : Lengths) → shortest_way (way_of l) ≡ min l.direct l.detour
unfolding way_of
shortest_way_lem l =
    elim (dec_lt l.direct l.detour) [
      | yes a ↦ rw (lt-ltb l.direct l.detour a) (omega arith)
      | no n ↦ elim (dec_lt l.detour l.direct) [
        | yes b ↦ rw (le-ltb l.direct l.detour (omega arith), lt-ltb l.detour l.direct b) (omega arith)
        | no m ↦ rw (le-ltb l.direct l.detour (omega arith), le-ltb l.detour l.direct (omega arith)) (omega arith)
      ]
    ]

-- The plan's shortest is the distance.
shortest_by : (m : ℕ) (p q : ℕ → ℕ) (k : ℕ) → shortest (plan_by m p q (largest p q k)) ≡ dist p q k
unfolding plan_by largest
shortest_by m p q zero = sym (dist_none p q)
shortest_by m p q (suc k) =
    elim (ℕ_discrete (p k) (q k)) [
      | yes e ↦ rw (eq-eqb (p k) (q k) e) (shortest_by m p q k ∙ sym (dist_home p q k e))
      | no n ↦ rw (ne_eqb (p k) (q k) n) (shortest_way_lem (lengths_of p q k) ∙ sym (dist_plan p q k n))
    ]

pub shortest_dist : (p q : List ℕ) → shortest (plan_of p q) ≡ dist (peg p) (peg q) (length p)
unfolding plan_of
shortest_dist p q = shortest_by (length p) (peg p) (peg q) (length p)

module _ (p q : List ℕ) (same : length p ≡ length q) (hp : WellFormed p) (hq : WellFormed q) where
  -- The plan's shortest is the fewest: a list of that length leads from p to q, and every list that does has at least as many.
  pub shortest_fewest : Fewest p q (shortest (plan_of p q))
  shortest_fewest =
      rw (shortest_dist p q)
      (record { some = dist_leads (dist (peg p) (peg q) (length p)) p q same hp hq refl; least = λ ms w. leads_dist hp hq w })

  -- No two positions of n discs are 2 ^ n or more moves apart.
  pub shortest_bound : shortest (plan_of p q) < 2 ^ length p
  shortest_bound = rw (shortest_dist p q) (dist_bound (peg p) (peg q) (formed_pegs p hp) (formed_pegs q hq) (length p))

  -- So fewest is the plan's shortest.
  pub fewest_shortest : fewest p q ≡ shortest (plan_of p q)
  fewest_shortest =
      fewest_found p q (shortest (plan_of p q)) shortest_fewest
      (lt_of_lt_of_le shortest_bound (pow-le-pow_left (lit≤ tt) (length p)))

  -- In the proofs above this layer: fewest is the distance.
  pub fewest_dist : fewest p q ≡ dist (peg p) (peg q) (length p)
  fewest_dist = fewest_shortest ∙ shortest_dist p q

  -- And fewest is what it is called.
  pub fewest_is : Fewest p q (fewest p q)
  fewest_is = rw fewest_shortest shortest_fewest

-- The distance to a tower is what gathering there takes.
gather_shortest : (p : List ℕ) (j : ℕ) → WellFormed p → j < 3
    → shortest (plan_of p (replicate (length p) j)) ≡ gather (peg p) (length p) j
gather_shortest p j hp hj =
    let t = replicate (length p) j in
    let ht = formed_pegs t (formed_replicate (length p) j hj) in
    shortest_dist p t
    ∙ dist_comm (peg p) (peg t) (formed_pegs p hp) ht (length p)
    ∙ dist_tower (peg t) (peg p) (formed_pegs p hp) (length p) j hj (λ d l. get_or-replicate (length p) d j 0 l)

-- Gather is the fewest that stack p on peg j.
pub gather_fewest : (p : List ℕ) (j : ℕ) → WellFormed p → j < 3 → Fewest p (replicate (length p) j) (gather (peg p) (length p) j)
gather_fewest p j hp hj =
    rw (gather_shortest p j hp hj) at
    (shortest_fewest p (replicate (length p) j) (sym (length-replicate (length p) j)) hp (formed_replicate (length p) j hj))
