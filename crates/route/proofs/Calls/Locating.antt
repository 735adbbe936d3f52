-- Positions of a route, and the way back from a position to its index.
use Prim.Native.Nat.{ℕ, ◌+◌, ◌≤◌, ◌<◌}
use mathlib.Core.Path.{◌≡◌, ◌∙◌, ap, sym, refl, subst}
use mathlib.Core.Bool.{Bool, true, false, false≢true}
use mathlib.Core.List.{List, ◌++◌, map}
use mathlib.Core.Logic.{◌≢◌, ◌⊎◌, inl, inr, ◌↔◌}
use native.Mathlib.Decide.{ℕ_discrete, dec_lt}
use native.Mathlib.Omega.{arith}
use borrow.Author.Tests.{eq-eqb, ne_eqb}
use lib.ListN.{length, take, drop, length-append, length-map, length-take, length-drop}
use lib.Seq.{ext_get_or, take_at}
use Rattle.board.specs.Position.{WellFormed}
use Rattle.board.specs.Move.{Leads}
use Rattle.board.specs.Fewest.{fewest, same}
use Rattle.board.proofs.Lists.{map_take}
use Rattle.board.proofs.Leads.{leads_append, leads_one, leads_formed, leads_size}
use Rattle.board.proofs.Search.{same_sound, same_refl, same_apart}
use Rattle.plan.specs.Plan.{plan_of, shortest, routes}
use Rattle.plan.proofs.Optimal.{fewest_is, fewest_shortest}
use Rattle.route.specs.Answer.{on, off, on_route, lowest_route, located_at}
use Rattle.route.specs.Route.{plain, after, route_of}
use Rattle.route.specs.declared.answer.DiscMove.{DiscMove}
use Rattle.route.proofs.Shortest.Distinct.{routes_count}
use Rattle.route.proofs.Walks.Leading.{walk_leads}
use Rattle.route.proofs.Along.Middle.{walk_cut}
use Rattle.route.proofs.Shortest.Routes.{route_walk, route_only}

-- A list of moves without its discs is as long.
plain_length : (ms : List DiscMove) → length (map plain ms) ≡ length ms
plain_length ms = length-map ms plain

module _ (s g : List ℕ) (size : length s ≡ length g) (hs : WellFormed s) (hg : WellFormed g) where
  -- A route goes through its positions.
  pub record Through (r i : ℕ) : Type 0 where
    pub there : Leads s (map plain (take i (route_of s g r))) (after s (take i (route_of s g r)))
    pub onward : Leads (after s (take i (route_of s g r))) (map plain (drop i (route_of s g r))) g

  pub through : (r : ℕ) → r < routes (plan_of s g) → (i : ℕ) → Through r i
  through r lt i =
      let w = route_walk s g size hs hg r lt in
      let c = walk_cut i w.walk in
      let before = walk_leads c.before s refl (λ d. refl) in
      let middle = after s (take i (route_of s g r)) in
      let rest = walk_leads c.after middle before.size before.pegs in
      let ends : after middle (drop i (route_of s g r)) ≡ g =
      ext_get_or 0 (after middle (drop i (route_of s g r))) g (rest.size ∙ before.size ∙ size) (λ d l. rest.pegs d) in
      record { there = before.leads; onward = rw ends at rest.leads }

  -- The position after i moves of a route is i moves from the start, and the rest from the goal.
  pub record Between (q : List ℕ) (i : ℕ) : Type 0 where
    pub formed : WellFormed q
    pub sized : length s ≡ length q
    pub there : fewest s q ≡ i
    pub sum : fewest s q + fewest q g ≡ fewest s g

  pub route_between : (r : ℕ) → r < routes (plan_of s g) → (i : ℕ) → i ≤ shortest (plan_of s g)
      → Between (after s (take i (route_of s g r))) i
  route_between r lt i l =
      let q = after s (take i (route_of s g r)) in
      let t = through r lt i in
      let long = (route_walk s g size hs hg r lt).long in
      let hq : WellFormed q = leads_formed hs t.there in
      let sq : length s ≡ length q = sym (leads_size t.there) in
      let a = fewest_is s q sq hs hq in
      let b = fewest_is q g (sym sq ∙ size) hq hg in
      let all = fewest_is s g size hs hg in
      let whole = fewest_shortest s g size hs hg in
      let joined = all.least (a.some.0 ++ b.some.0) (leads_append a.some.1 b.some.1) in
      let first = a.least (map plain (take i (route_of s g r))) t.there in
      let last = b.least (map plain (drop i (route_of s g r))) t.onward in
      let i_long = plain_length (take i (route_of s g r)) ∙ length-take i (route_of s g r) in
      let i_left = plain_length (drop i (route_of s g r)) ∙ length-drop i (route_of s g r) in
      let join = length-append a.some.0 b.some.0 in
      record {
        formed = hq;
        sized = sq;
        there = omega (arith, a.some.2, b.some.2);
        sum = omega (arith, a.some.2, b.some.2);
      }

-- q is the position after i moves of route r, and of no lower route.
pub record OnLowest (s g q : List ℕ) (i r : ℕ) : Type 0 where
  pub index : i ≤ shortest (plan_of s g)
  pub route : r < routes (plan_of s g)
  pub there : after s (take i (route_of s g r)) ≡ q
  pub lowest : (l : ℕ) → l < r → after s (take i (route_of s g l)) ≢ q

module _ (s g q : List ℕ) (size : length s ≡ length g) (sized : length s ≡ length q) (hs : WellFormed s) (hg : WellFormed g) (hq : WellFormed q) where
  -- Where the fewest by way of q are the fewest, q is on a route.
  on_route_lem : fewest s q + fewest q g ≡ fewest s g
      → (r : ℕ) × (r < routes (plan_of s g)) × (after s (take (fewest s q) (route_of s g r)) ≡ q)
  on_route_lem e =
      let a = fewest_is s q sized hs hq in
      let b = fewest_is q g (sym sized ∙ size) hq hg in
      let long : length (a.some.0 ++ b.some.0) ≡ shortest (plan_of s g) =
      omega (arith, length-append a.some.0 b.some.0, a.some.2, b.some.2, fewest_shortest s g size hs hg) in
      let (r, lt, f) = route_only s g size hs hg (a.some.0 ++ b.some.0) (leads_append a.some.1 b.some.1) long in
      let moves : map plain (take (fewest s q) (route_of s g r)) ≡ a.some.0 =
      map_take plain (fewest s q) (route_of s g r) ∙ ap (take (fewest s q)) (sym f) ∙ take_at a.some.0 b.some.0 (fewest s q) a.some.2 in
      (r, lt, leads_one (rw moves at (through s g size hs hg r lt (fewest s q)).there) a.some.1)

  -- The number of the lowest route, by whether route 0 has it.
  lowest_zeroth : after s (take (fewest s q) (route_of s g 0)) ≡ q → lowest_route s g q ≡ 0
  unfolding lowest_route
  lowest_zeroth e = rw (e, same_refl q)

  lowest_first : after s (take (fewest s q) (route_of s g 0)) ≢ q → lowest_route s g q ≡ 1
  unfolding lowest_route
  lowest_first n = rw (same_apart q (after s (take (fewest s q) (route_of s g 0))) (λ e. n (sym e)))

  -- A position that is on a route is located.
  located_on : fewest s q + fewest q g ≡ fewest s g → located_at s g q ≡ on (fewest s q) (lowest_route s g q)
  unfolding located_at on_route
  located_on e = rw (eq-eqb (fewest s q + fewest q g) (fewest s g) e)

  located_off : fewest s q + fewest q g ≢ fewest s g → located_at s g q ≡ off
  unfolding located_at on_route
  located_off n = rw (ne_eqb (fewest s q + fewest q g) (fewest s g) n)

  -- Where route 0 has q at its index or not.
  zeroth : (after s (take (fewest s q) (route_of s g 0)) ≡ q) ⊎ (after s (take (fewest s q) (route_of s g 0)) ≢ q)
  zeroth = at (same (after s (take (fewest s q) (route_of s g 0))) q) refl
    where
      at : (b : Bool) → same (after s (take (fewest s q) (route_of s g 0))) q ≡ b
          → (after s (take (fewest s q) (route_of s g 0)) ≡ q) ⊎ (after s (take (fewest s q) (route_of s g 0)) ≢ q)
      at true e = inl (same_sound _ q e)
      at false e = inr λ f. false≢true (sym e ∙ ap (λ (l : List ℕ). same l q) f ∙ same_refl q)

  -- There are at most two routes.
  two_routes : routes (plan_of s g) ≤ 2
  two_routes = elim (routes_count s g) [ inl e ↦ omega arith | inr e ↦ omega arith ]

  -- What is on a route is found on its lowest.
  sum_found : fewest s q + fewest q g ≡ fewest s g → OnLowest s g q (fewest s q) (lowest_route s g q)
  sum_found e =
      let (r, lt, at) = on_route_lem e in
      let within : fewest s q ≤ shortest (plan_of s g) = omega (arith, fewest_shortest s g size hs hg) in
      elim zeroth [
        | inl here ↦
            rw (lowest_zeroth here)
            (record { index = within; route = omega arith; there = here; lowest = λ l b. absurd (omega arith) })
        | inr other ↦
            let one : r ≡ 1 =
            elim (ℕ_discrete r 0) [
              | yes z ↦ absurd (other (rw z at at))
              | no n ↦ omega (arith, two_routes)
            ] in
            rw (lowest_first other)
            (record {
              index = within;
              route = omega arith;
              there = rw one at at;
              lowest = λ l b. let z : l ≡ 0 = omega arith in rw z other;
            })
      ]

  -- What is located is there.
  located_there : (i r : ℕ) → located_at s g q ≡ on i r → OnLowest s g q i r
  located_there i r e =
      elim (ℕ_discrete (fewest s q + fewest q g) (fewest s g)) [
        | yes sum ↦
            let both : on (fewest s q) (lowest_route s g q) ≡ on i r = sym (located_on sum) ∙ e in
            let ei : fewest s q ≡ i = cc in
            let er : lowest_route s g q ≡ r = cc in
            subst (λ (j : ℕ). OnLowest s g q j r) ei (subst (λ (j : ℕ). OnLowest s g q (fewest s q) j) er (sum_found sum))
        | no n ↦ let z : ◌≡◌ {A = ℕ} 0 1 = cc (located_off n) in absurd (omega arith)
      ]

  -- What is there is located.
  there_located : (i r : ℕ) → OnLowest s g q i r → located_at s g q ≡ on i r
  there_located i r l =
      let b : Between s g size hs hg q i = rw l.there at (route_between s g size hs hg r l.route i l.index) in
      let number : lowest_route s g q ≡ r =
      elim zeroth [
        | inl here ↦ elim (ℕ_discrete r 0) [
          | yes z ↦ lowest_zeroth here ∙ sym z
          | no n ↦ absurd (l.lowest 0 (omega arith) (rw b.there at here))
        ]
        | inr other ↦ elim (ℕ_discrete r 0) [
          | yes z ↦ absurd (other (rw (b.there, ← z) l.there))
          | no n ↦ lowest_first other ∙ omega (arith, two_routes, l.route)
        ]
      ] in
      located_on b.sum ∙ (λ j. on (b.there j) (number j))

  -- Locate answers on i r exactly where q is the position after i moves of route r, and r is the lowest such.
  pub located_exactly : (i r : ℕ) → (located_at s g q ≡ on i r) ↔ OnLowest s g q i r
  located_exactly i r = (located_there i r, there_located i r)

  -- It answers on exactly if the fewest by way of q are the fewest.
  pub located_sum : ((i : ℕ) × (r : ℕ) × (located_at s g q ≡ on i r)) ↔ (fewest s q + fewest q g ≡ fewest s g)
  located_sum = (
    (λ (i, r, e).
        let l = located_there i r e in
        (rw l.there at (route_between s g size hs hg r l.route i l.index)).sum),
    λ e. (fewest s q, lowest_route s g q, located_on e),
  )

-- Every position of a route leads back to its index.
pub located_back : (s g : List ℕ) → length s ≡ length g → WellFormed s → WellFormed g → (i r : ℕ) → i ≤ shortest (plan_of s g) → r < routes (plan_of s g)
    → (l : ℕ) × (l ≤ r) × (located_at s g (after s (take i (route_of s g r))) ≡ on i l)
located_back s g size hs hg i r b lt =
    let q = after s (take i (route_of s g r)) in
    let w = route_between s g size hs hg r lt i b in
    let l = lowest_route s g q in
    let f = sum_found s g q size w.sized hs hg w.formed w.sum in
    let low : l ≤ r =
    elim (dec_lt r l) [
      | yes c ↦ absurd (f.lowest r c (ap (λ (n : ℕ). after s (take n (route_of s g r))) w.there))
      | no n ↦ omega arith
    ] in
    (l, low, located_on s g q size w.sized hs hg w.formed w.sum ∙ ap (λ (n : ℕ). on n l) w.there)
