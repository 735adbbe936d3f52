-- The ordered pairs that tie as a list, which is as long as their number.
use Prim.Native.Nat.{ℕ, ◌+◌, ◌≤◌}
use mathlib.Core.List.{List, [], ◌∷◌, filter, mem-filter}
use mathlib.Core.Logic.{◌↔◌, ite}
use mathlib.Core.Path.{◌≡◌, ◌∙◌, refl, sym, ap}
use mathlib.Mathlib.Data.List.Nodup.{filter as filter-once}
use native.Mathlib.Decide.{ℕ_discrete}
use native.Mathlib.Omega.{arith}
use lib.ListN.{length}
use Rattle.board.specs.Task.{limit}
use Rattle.board.proofs.Replies.{answer_same}
use Rattle.plan.specs.Plan.{plan_of, routes, routes_way}
use Rattle.plan.specs.declared.answer.Way.{Way}
use Rattle.plan.specs.declared.answer.Way.TheVariants.{Still, Direct, Detour, Tie}
use Rattle.plan.proofs.Calls.{plan_joined}
use Rattle.averages.specs.Positions.{IsPosition, pairs}
use Rattle.averages.specs.Request10.{Lists, Ties}
use Rattle.averages.specs.Totals.{sum_over, is_tie, tie_of, tie_count}
use Rattle.averages.proofs.Listing.{pairs_listed}

-- What a pair adds to the count, and whether it is counted.
abbrev counted : List ℕ × List ℕ → ℕ
counted c = tie_of c.0 c.1

abbrev is_counted : (c : List ℕ × List ℕ) → Dec (counted c ≡ 1)
is_counted c = ℕ_discrete (counted c) 1

-- The pairs that are.
pub tied_pairs : ℕ → List (List ℕ × List ℕ)
tied_pairs n = filter is_counted (pairs n)

-- A way is counted once or not at all.
tie_once : (w : Way) → is_tie w ≤ 1
tie_once Still = omega arith
tie_once (Direct l) = omega arith
tie_once (Detour l) = omega arith
tie_once (Tie l) = omega arith

-- It is counted exactly where it has two routes.
tie_routes : (w : Way) → (is_tie w ≡ 1) ↔ (routes_way w ≡ 2)
tie_routes Still = omega arith
tie_routes (Direct l) = omega arith
tie_routes (Detour l) = omega arith
tie_routes (Tie l) = omega arith

-- What is counted of a list is as long as what is kept of it.
count_kept : (l : List (List ℕ × List ℕ)) → sum_over counted l ≡ length (filter is_counted l)
unfolding sum_over
count_kept [] = refl
count_kept (c ∷ l) = step (is_counted c) (count_kept l)
  where
    step : (d : Dec (counted c ≡ 1)) → sum_over counted l ≡ length (filter is_counted l)
        → counted c + sum_over counted l ≡ length (ite {C = List (List ℕ × List ℕ)} d (c ∷ filter is_counted l) (filter is_counted l))
    step (yes e) rest = omega arith
    step (no n) rest = omega (arith, tie_once (plan_of c.0 c.1).way)

pub ties_kept : (n : ℕ) → tie_count n ≡ length (tied_pairs n)
unfolding tie_count tied_pairs
ties_kept n = count_kept (pairs n)

-- Plan answers two routes for a pair of positions exactly where it is counted.
counted_ties : {n : ℕ} {p q : List ℕ} → n ≤ limit → IsPosition n p → IsPosition n q → (counted (p, q) ≡ 1) ↔ Ties p q
counted_ties {n} {p} {q} few hp hq =
    let planned = plan_joined p q (hp.size ∙ sym hq.size) (omega (arith, hp.size)) hp.formed hq.formed in
    let (two, one) = tie_routes (plan_of p q).way in (
      (λ e. (plan_of p q, planned, two e)),
      λ (r, answered, e). let same : plan_of p q ≡ r = answer_same (sym planned ∙ answered) in one (ap routes same ∙ e),
    )

-- So these pairs are those that tie, each once.
pub ties_listed : (n : ℕ) → n ≤ limit → Lists n Ties (tied_pairs n)
unfolding tied_pairs
ties_listed n few =
    let listed = pairs_listed n in
    record {
      once = filter-once is_counted listed.once;
      all = λ p q. (
        (λ m. let (there, e) = (mem-filter is_counted).0 m in
            let (hp, hq, any) = (listed.all p q).0 there in
            (hp, hq, (counted_ties few hp hq).0 e)),
        λ (hp, hq, ties). (mem-filter is_counted).1 ((listed.all p q).1 (hp, hq, tt), (counted_ties few hp hq).1 ties),
      );
    }
