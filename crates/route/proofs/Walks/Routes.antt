-- The direct route and the detour are walks from start to goal, as long as the plan says.
use Prim.Native.Nat.{ℕ, suc, ◌<◌}
use mathlib.Core.Path.{◌≡◌, ◌∙◌, sym, refl}
use mathlib.Core.List.{List, ◌∷◌, ◌++◌}
use native.Mathlib.Decide.{dec_lt}
use native.Mathlib.Omega.{arith}
use lib.ListN.{length, length-append}
use Rattle.board.specs.Peg.{third}
use Rattle.plan.specs.Plan.{direct, detour}
use Rattle.plan.specs.Inner.Three.{Three}
use Rattle.plan.proofs.Three.{three_third, three_swap, three_turn, three_flip}
use Rattle.plan.proofs.Gathering.{Pegs, Tower, gather_shift}
use Rattle.plan.proofs.Step.{Step, put, put_same, put_other, put_pegs}
use Rattle.route.specs.Route.{carry, gathering, spreading, direct_route, detour_route}
use Rattle.route.specs.declared.answer.DiscMove.{DiscMove}
use Rattle.route.proofs.Gatherings.Gathering.{gathering_length, gathering_cong}
use Rattle.route.proofs.Gatherings.Backwards.{spreading_length}
use Rattle.route.proofs.Walks.Walk.{Walk, go, gathers, walk_pegs, walk_above, walk_grow, walk_append, walk_back}

-- Two positions that differ in disc k + 1 alone, with the smaller discs on the third peg.
pub record Across (k : ℕ) (u v : ℕ → ℕ) (f : ℕ) : Type 0 where
  pub pegs : Three (u k) (v k) f
  pub before : Tower u k f
  pub after : Tower v k f
  pub above : (d : ℕ) → k < d → u d ≡ v d

-- Disc k + 1 crosses from one to the other.
pub across_step : {k f : ℕ} {u v : ℕ → ℕ} → Across k u v f → Step (suc k) u v
across_step {k} {f} {u} {v} a =
    record {
      disc = k;
      below = omega arith;
      free = f;
      pegs = a.pegs;
      smaller = a.before;
      others = λ d n. elim (dec_lt d k) [ yes l ↦ a.before d l ∙ sym (a.after d l) | no g ↦ a.above d (omega arith) ];
    }

-- A walk begins with a crossing.
pub walk_across : {k f i j : ℕ} {u v w : ℕ → ℕ} {ms : List DiscMove} → Across k u v f → u k ≡ i → v k ≡ j
    → Walk (suc k) v ms w → Walk (suc k) u (carry k i j ∷ ms) w
unfolding across_step
walk_across {k} a ei ej w = go (across_step a) (λ l. carry k (sym ei l) (sym ej l)) w

module _ (p q : ℕ → ℕ) (hp : Pegs p) (hq : Pegs q) (k z : ℕ) (h : Three (p k) (q k) z) (same : (d : ℕ) → k < d → p d ≡ q d) where
  -- On the direct route disc k + 1 crosses from where the start's smaller discs are gathered to where the goal's are.
  pub crossing : Across k (gathers p hp k z h.third).end (gathers q hq k z h.third).end z
  crossing =
      let s = gathers p hp k z h.third in
      let t = gathers q hq k z h.third in
      record {
        pegs = rw (← walk_above s.walk k (omega arith), ← walk_above t.walk k (omega arith)) h;
        before = s.tower;
        after = t.tower;
        above = λ d l. sym (walk_above s.walk d (omega arith)) ∙ same d l ∙ walk_above t.walk d (omega arith);
      }

  -- The direct route with so many moves of its spreading is a walk.
  pub direct_part : {v : ℕ → ℕ} {ms : List DiscMove} → Walk k (gathers q hq k z h.third).end ms v
      → Walk (suc k) p (gathering p k z ++ (carry k (p k) (q k) ∷ ms)) v
  direct_part w =
      let s = gathers p hp k z h.third in
      let t = gathers q hq k z h.third in
      walk_append (walk_grow (omega arith) s.walk)
      (walk_across crossing (sym (walk_above s.walk k (omega arith))) (sym (walk_above t.walk k (omega arith)))
      (walk_grow (omega arith) w))

  -- The direct route is a walk.
  pub direct_walk : Walk (suc k) p (direct_route p q k) q
  unfolding direct_route spreading
  direct_walk = rw (three_third h) (direct_part (walk_back (gathers q hq k z h.third).walk))

  -- It has as many moves as the plan says.
  pub direct_length : length (direct_route p q k) ≡ direct p q k
  unfolding direct_route direct
  direct_length =
      rw (three_third h)
      (omega (
        arith,
        length-append (gathering p k z) (carry k (p k) (q k) ∷ spreading q k z),
        gathering_length p hp k z h.third,
        spreading_length q hq k z h.third,
      ))

  -- The detour after its first crossing: the smaller discs on the goal peg of disc k + 1, and that disc on the third.
  pub aside : ℕ → ℕ
  aside = put (gathers p hp k (q k) (hq k)).end k z

  pub aside_pegs : Pegs aside
  unfolding aside
  aside_pegs = put_pegs (gathers p hp k (q k) (hq k)).end k z (walk_pegs hp (gathers p hp k (q k) (hq k)).walk) h.third

  pub aside_tower : Tower aside k (q k)
  unfolding aside
  aside_tower d l = put_other (gathers p hp k (q k) (hq k)).end k z d (omega arith) ∙ (gathers p hp k (q k) (hq k)).tower d l

  pub aside_here : aside k ≡ z
  unfolding aside
  aside_here = put_same (gathers p hp k (q k) (hq k)).end k z

  pub aside_above : (d : ℕ) → k < d → p d ≡ aside d
  unfolding aside
  aside_above d l =
      walk_above (gathers p hp k (q k) (hq k)).walk d (omega arith) ∙ sym (put_other (gathers p hp k (q k) (hq k)).end k z d (omega arith))

  -- Disc k + 1 goes aside, and the smaller discs are shifted.
  pub crossing_aside : Across k (gathers p hp k (q k) (hq k)).end aside (q k)
  crossing_aside =
      let s = gathers p hp k (q k) (hq k) in
      record {
        pegs = rw (← walk_above s.walk k (omega arith), aside_here) (three_flip h);
        before = s.tower;
        after = aside_tower;
        above = λ d l. sym (walk_above s.walk d (omega arith)) ∙ aside_above d l;
      }

  -- It ends on its goal peg.
  pub crossing_goal : Across k (gathers aside aside_pegs k (p k) (hp k)).end (gathers q hq k (p k) (hp k)).end (p k)
  crossing_goal =
      let g = gathers aside aside_pegs k (p k) (hp k) in
      let t = gathers q hq k (p k) (hp k) in
      record {
        pegs = rw (← walk_above g.walk k (omega arith), aside_here, ← walk_above t.walk k (omega arith)) (three_swap (three_turn h));
        before = g.tower;
        after = t.tower;
        above = λ d l. sym (walk_above g.walk d (omega arith)) ∙ sym (aside_above d l) ∙ same d l ∙ walk_above t.walk d (omega arith);
      }

  -- The detour up to so many moves of its shift is a walk.
  pub aside_part : {v : ℕ → ℕ} {ms : List DiscMove} → Walk (suc k) aside ms v → Walk (suc k) p (gathering p k (q k) ++ (carry k (p k) z ∷ ms)) v
  aside_part w =
      let s = gathers p hp k (q k) (hq k) in
      walk_append (walk_grow (omega arith) s.walk) (walk_across crossing_aside (sym (walk_above s.walk k (omega arith))) aside_here w)

  -- The shift gathers a tower.
  pub shift_list : gathering aside k (p k) ≡ gathering (λ _. q k) k (p k)
  shift_list = gathering_cong k aside (λ _. q k) (p k) aside_tower

  -- The detour with so many moves of its spreading is a walk.
  pub detour_part : {v : ℕ → ℕ} {ms : List DiscMove} → Walk k (gathers q hq k (p k) (hp k)).end ms v
      → Walk (suc k) p (gathering p k (q k) ++ (carry k (p k) z ∷ (gathering (λ _. q k) k (p k) ++ (carry k z (q k) ∷ ms)))) v
  detour_part w =
      let g = gathers aside aside_pegs k (p k) (hp k) in
      let t = gathers q hq k (p k) (hp k) in
      aside_part
      (rw (← shift_list)
      (walk_append (walk_grow (omega arith) g.walk)
      (walk_across crossing_goal (sym (walk_above g.walk k (omega arith)) ∙ aside_here) (sym (walk_above t.walk k (omega arith)))
      (walk_grow (omega arith) w))))

  -- The detour is a walk.
  pub detour_walk : Walk (suc k) p (detour_route p q k) q
  unfolding detour_route spreading
  detour_walk = rw (three_third h) (detour_part (walk_back (gathers q hq k (p k) (hp k)).walk))

  -- It too has as many moves as the plan says.
  pub detour_length : length (detour_route p q k) ≡ detour p q k
  unfolding detour_route detour
  detour_length =
      let y = q k in
      omega (
        arith,
        length-append (gathering p k y) (carry k (p k) (third (p k) y) ∷ (gathering (λ _. y) k (p k) ++ (carry k (third (p k) y) y ∷ spreading q k (p k)))),
        length-append (gathering (λ _. y) k (p k)) (carry k (third (p k) y) y ∷ spreading q k (p k)),
        gathering_length p hp k y (hq k),
        gathering_length (λ _. y) (λ _. hq k) k (p k) (hp k),
        gather_shift (λ _. y) k (three_swap h) (λ d l. refl),
        spreading_length q hq k (p k) (hp k),
      )
