-- There are one or two routes: two exactly where direct and detour tie, and then they differ.
use Prim.Native.Nat.{ℕ, suc}
use mathlib.Core.Path.{◌≡◌, ◌∙◌, ap, sym, refl}
use mathlib.Core.Bool.{cond}
use mathlib.Core.List.{List, [], ◌∷◌, ◌++◌, map}
use mathlib.Core.Logic.{◌≢◌, ◌⊎◌, inl, inr, ◌↔◌}
use native.Mathlib.Decide.{ℕ_discrete, dec_lt}
use native.Mathlib.Omega.{arith}
use borrow.Author.Tests.{eq-eqb, ne_eqb}
use lib.Dec.{eqb}
use lib.ListN.{length}
use Rattle.board.specs.Peg.{third}
use Rattle.board.specs.Position.{peg, WellFormed}
use Rattle.board.specs.Move.{Move}
use Rattle.board.proofs.Formed.{formed_pegs}
use Rattle.plan.specs.Plan.{largest, lengths_of, way_of, plan_of, routes, Tied}
use Rattle.plan.specs.declared.answer.Way.TheVariants.{Tie}
use Rattle.plan.proofs.Three.{three}
use Rattle.plan.proofs.Gathering.{Pegs}
use Rattle.plan.proofs.Step.{Step}
use Rattle.route.specs.Route.{carry, plain, spreading, direct_route, detour_route, route_by, route_of}
use Rattle.route.specs.declared.answer.DiscMove.{DiscMove}
use Rattle.route.proofs.Gatherings.Gathering.{step_carry}
use Rattle.route.proofs.Walks.Walk.{Walk, stay, go, gathers}
use Rattle.route.proofs.Shortest.Routes.{route_walk}
use Rattle.route.proofs.Shortest.View.{none, some, largest_view, direct_less, detour_less, equal, way_view, plan_still, plan_moving, route_moving}

-- The peg to which the first move of disc d goes, 0 where it does not move.
first_to : ℕ → List DiscMove → ℕ
first_to d [] = 0
first_to d (m ∷ ms) = cond (eqb m.disc d) m.to (first_to d ms)

-- The move of disc d is the first of it.
first_here : (d i j : ℕ) (ms : List DiscMove) → first_to (suc d) (carry d i j ∷ ms) ≡ j
unfolding first_to
first_here d i j ms = rw (eq-eqb (suc d) (suc d) refl)

-- A walk of smaller discs has none.
first_after : {k : ℕ} {u v : ℕ → ℕ} {ms : List DiscMove} → Walk k u ms v → (ns : List DiscMove) → first_to (suc k) (ms ++ ns) ≡ first_to (suc k) ns
unfolding first_to
first_after stay ns = refl
first_after {k} (go {m = m} s e w) ns =
    rw (ne_eqb m.disc (suc k) (λ f. omega (arith, ap (λ (n : DiscMove). n.disc) e))) (first_after w ns)

-- The first move of disc k + 1 is to its goal on the direct route, and to the third peg on the detour, so they differ.
direct_detour : (p q : ℕ → ℕ) → Pegs p → Pegs q → (k : ℕ) → p k ≢ q k → direct_route p q k ≢ detour_route p q k
unfolding direct_route detour_route
direct_detour p q hp hq k away e =
    let h = three (p k) (q k) (hp k) (hq k) away in
    let z = third (p k) (q k) in
    let a = first_after (gathers p hp k z h.third).walk (carry k (p k) (q k) ∷ spreading q k z) ∙ first_here k (p k) (q k) _ in
    let b = first_after (gathers p hp k (q k) (hq k)).walk _ ∙ first_here k (p k) z _ in
    h.second_third (sym a ∙ ap (first_to (suc k)) e ∙ b)

-- The smallest disc of a peg is the one that moves from it.
same_disc : {n : ℕ} {u u' v w : ℕ → ℕ} (s : Step n u v) (t : Step n u' w) → ((d : ℕ) → u d ≡ u' d) → u s.disc ≡ u' t.disc → s.disc ≡ t.disc
same_disc s t same e =
    elim (dec_lt s.disc t.disc) [
      | yes l ↦ absurd (t.pegs.first_third (sym e ∙ same s.disc ∙ t.smaller s.disc l))
      | no n ↦ elim (dec_lt t.disc s.disc) [
        | yes l ↦ absurd (s.pegs.first_third (e ∙ sym (same t.disc) ∙ s.smaller t.disc l))
        | no m ↦ omega arith
      ]
    ]

-- Two steps from one position that read the same without their discs are the same.
plain_step : {n : ℕ} {u u' v w : ℕ → ℕ} (s : Step n u v) (t : Step n u' w) → ((d : ℕ) → u d ≡ u' d) → plain (step_carry s) ≡ plain (step_carry t)
    → (step_carry s ≡ step_carry t) × ((d : ℕ) → v d ≡ w d)
plain_step {v = v} {w = w} s t same e =
    let from : _ ≡ _ = ap (λ (m : Move). m.from) e in
    let to : v s.disc ≡ w t.disc = ap (λ (m : Move). m.to) e in
    let disc = same_disc s t same from in (
      (λ i. carry (disc i) (from i) (to i)),
      λ d. elim (ℕ_discrete d s.disc) [
        | yes f ↦ ap v f ∙ to ∙ ap w (sym disc ∙ sym f)
        | no n ↦ sym (s.others d n) ∙ same d ∙ t.others d (λ f. n (f ∙ sym disc))
      ],
    )

-- Two walks from one position that read the same without their discs are the same.
plain_walk : {n : ℕ} {u u' v w : ℕ → ℕ} {ms ns : List DiscMove} → Walk n u ms v → Walk n u' ns w → ((d : ℕ) → u d ≡ u' d)
    → map plain ms ≡ map plain ns → ms ≡ ns
plain_walk stay stay same e = refl
plain_walk stay (go s m w) same e = let z : ◌≡◌ {A = ℕ} 0 1 = cc in absurd (omega arith)
plain_walk (go s m w) stay same e = let z : ◌≡◌ {A = ℕ} 0 1 = cc in absurd (omega arith)
plain_walk (go {m = a} {ms = ms} s m w) (go {m = b} {ms = ns} t n x) same e =
    let heads : plain a ≡ plain b = cc in
    let tails : map plain ms ≡ map plain ns = cc in
    let here = plain_step s t same (ap plain (sym m) ∙ heads ∙ ap plain n) in
    let rest = plain_walk w x here.1 tails in
    λ i. (m ∙ here.0 ∙ sym n) i ∷ rest i

-- There are one or two shortest routes.
pub routes_count : (p q : List ℕ) → (routes (plan_of p q) ≡ 1) ⊎ (routes (plan_of p q) ≡ 2)
routes_count p q =
    elim (largest_view (peg p) (peg q) (length p)) [
      | none m home ↦ inl (rw (plan_still p q m))
      | some k m l away home c ↦ elim (way_view (lengths_of (peg p) (peg q) k)) [
        | direct_less e f ↦ inl (rw (plan_moving p q k m, e))
        | detour_less e f ↦ inl (rw (plan_moving p q k m, e))
        | equal e f ↦ inr (rw (plan_moving p q k m, e))
      ]
    ]

-- Two exactly where the one-move and the two-move plan tie.
pub routes_two : (p q : List ℕ) → (routes (plan_of p q) ≡ 2) ↔ Tied (plan_of p q).way
routes_two p q =
    elim (largest_view (peg p) (peg q) (length p)) [
      | none m home ↦ rw (plan_still p q m) ((λ two. absurd (omega arith)), λ tied. absurd tied)
      | some k m l away home c ↦ elim (way_view (lengths_of (peg p) (peg q) k)) [
        | direct_less e f ↦ rw (plan_moving p q k m, e) ((λ two. absurd (omega arith)), λ tied. absurd (omega arith))
        | detour_less e f ↦ rw (plan_moving p q k m, e) ((λ two. absurd (omega arith)), λ tied. absurd (omega arith))
        | equal e f ↦ rw (plan_moving p q k m, e) ((λ two. f), λ tied. refl)
      ]
    ]

module _ (p q : List ℕ) (same : length p ≡ length q) (hp : WellFormed p) (hq : WellFormed q) where
  -- Where there are two, the largest moving disc has plans of one length.
  pub two_tie : routes (plan_of p q) ≡ 2 → (k : ℕ) × (largest (peg p) (peg q) (length p) ≡ suc k) × (peg p k ≢ peg q k)
      × (way_of (lengths_of (peg p) (peg q) k) ≡ Tie (lengths_of (peg p) (peg q) k))
  two_tie two =
      elim (largest_view (peg p) (peg q) (length p)) [
        | none m home ↦ absurd (omega (arith, rw (plan_still p q m) at two))
        | some k m l away home c ↦ elim (way_view (lengths_of (peg p) (peg q) k)) [
          | direct_less e f ↦ absurd (omega (arith, rw (plan_moving p q k m, e) at two))
          | detour_less e f ↦ absurd (omega (arith, rw (plan_moving p q k m, e) at two))
          | equal e f ↦ (k, m, away, e)
        ]
      ]

  -- And then the two differ.
  pub routes_differ : routes (plan_of p q) ≡ 2 → map plain (route_of p q 0) ≢ map plain (route_of p q 1)
  unfolding route_by
  routes_differ two g =
      let (k, m, away, e) = two_tie two in
      let zeroth : route_of p q 0 ≡ direct_route (peg p) (peg q) k = route_moving p q 0 k m ∙ rw e in
      let first : route_of p q 1 ≡ detour_route (peg p) (peg q) k = route_moving p q 1 k m ∙ rw e in
      let alike =
      plain_walk (route_walk p q same hp hq 0 (omega arith)).walk (route_walk p q same hp hq 1 (omega arith)).walk (λ d. refl) g in
      direct_detour (peg p) (peg q) (formed_pegs p hp) (formed_pegs q hq) k away (sym zeroth ∙ alike ∙ first)
