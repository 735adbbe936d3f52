-- Every shortest walk is the direct route or the detour (002, Theorem 4).
use Prim.Native.Nat.{ℕ, zero, suc, ◌+◌, ◌^◌}
use mathlib.Core.Path.{◌≡◌, ◌∙◌, ap, sym, refl, subst}
use mathlib.Core.List.{List, [], ◌∷◌, ◌++◌}
use mathlib.Core.Logic.{◌≢◌}
use native.Mathlib.Decide.{ℕ_discrete}
use native.Mathlib.Omega.{arith}
use lib.ListN.{length}
use Rattle.board.specs.Peg.{third}
use Rattle.plan.specs.Gather.{gather}
use Rattle.plan.specs.Plan.{direct, detour, largest}
use Rattle.plan.specs.Inner.Three.{Three}
use Rattle.plan.proofs.Three.{three, three_third, three_swap, three_turn, three_flip, each_peg_lem}
use Rattle.plan.proofs.Gathering.{Pegs, gather_shift, gather_tower, gather_bound}
use Rattle.plan.proofs.Step.{Step, Crossing, step_back, step_less, step_crossing, step_gather}
use Rattle.plan.proofs.Distance.{dist, dist_none, dist_home, dist_away, dist_tower, step_dist}
use Rattle.plan.proofs.Largest.{largest_none, largest_stays, largest_moves}
use Rattle.route.specs.Route.{carry, gathering, spreading, direct_route, detour_route}
use Rattle.route.specs.declared.answer.DiscMove.{DiscMove}
use Rattle.route.proofs.Gatherings.Gathering.{step_carry, gathering_done, gathering_cong}
use Rattle.route.proofs.Walks.Walk.{Walk, stay, go, step_pegs, walk_pegs, walk_dist}
use Rattle.route.proofs.Shortest.Lowering.{lower_first, spreading_unique}

-- The routes and their lengths with the pegs named: x and y are the largest disc's, z the third.
module _ (p q : ℕ → ℕ) (k : ℕ) {x y z : ℕ} (ex : p k ≡ x) (ey : q k ≡ y) (h : Three x y z) where
  pub direct_is : direct_route p q k ≡ gathering p k z ++ (carry k x y ∷ spreading q k z)
  unfolding direct_route
  direct_is = rw (ex, ey, three_third h)

  pub detour_is :
      detour_route p q k ≡ gathering p k y ++ (carry k x z ∷ (gathering (λ _. y) k x ++ (carry k z y ∷ spreading q k x)))
  unfolding detour_route
  detour_is = rw (ex, ey, three_third h)

  pub direct_sum : direct p q k ≡ gather p k z + 1 + gather q k z
  unfolding direct
  direct_sum = rw (ex, ey, three_third h)

  pub detour_sum : detour p q k ≡ gather p k y + 2 ^ k + 1 + gather q k x
  unfolding detour
  detour_sum = rw (ex, ey)

-- A shortest walk whose largest disc k + 1 has to move is one of two.
pub data Shortest (u t : ℕ → ℕ) (k : ℕ) (ms : List DiscMove) : Type 0 where
  by_direct : ms ≡ direct_route u t k → direct u t k ≡ dist u t (suc k) → Shortest u t k ms
  by_detour : ms ≡ detour_route u t k → detour u t k ≡ dist u t (suc k) → Shortest u t k ms

-- The first move of a shortest walk brings the goal nearer by one.
first_nearer : {n : ℕ} {u v t : ℕ → ℕ} {ms : List DiscMove} → Pegs u → Step n u v → Walk n v ms t
    → suc (length ms) ≡ dist u t n → dist v t n ≡ length ms
first_nearer {n} {u} {v} {t} hu s w e =
    let hv = step_pegs hu s in
    omega (arith, step_dist n v u t hv (walk_pegs hv w) (step_back s), walk_dist hv w)

-- A disc on its goal peg does not leave it: that would take the goal further.
home_stays : (k : ℕ) {u v : ℕ → ℕ} (t : ℕ → ℕ) → Pegs t → Crossing k u v → u k ≡ t k → dist v t (suc k) + 1 ≡ dist u t (suc k) → ⊥
home_stays k {u} {v} t ht s e less =
    let h = s.pegs in
    omega (
      arith,
      dist_home u t k e,
      dist_tower u t ht k s.free h.third s.before,
      dist_away v t k refl (sym e) (three_swap h),
      gather_shift v k (three_turn (three_turn h)) s.after,
      gather_bound t ht k s.free h.third,
    )

-- Where the largest disc is on its goal peg, a shortest walk moves only smaller ones.
pub walk_home : {k : ℕ} {u t : ℕ → ℕ} {ms : List DiscMove} → Pegs u → u k ≡ t k → Walk (suc k) u ms t
    → length ms ≡ dist u t (suc k) → Walk k u ms t
walk_home hu home stay e = stay
walk_home {k} hu home (go {u = u} {v = v} {w = t} s m w) e =
    let hv = step_pegs hu s in
    let near = first_nearer hu s w e in
    elim (ℕ_discrete s.disc k) [
      | yes c ↦ absurd (home_stays k t (walk_pegs hv w) (step_crossing s c) home (omega arith))
      | no n ↦ go (step_less s n) m (walk_home hv (sym (s.others k (omega arith)) ∙ home) w (sym near))
    ]

-- A smaller disc moves first: the move is the first of the gathering of whichever route follows.
shortest_below : (k : ℕ) {u v t : ℕ → ℕ} {m : DiscMove} {ms : List DiscMove} → Pegs u → Pegs v → Pegs t → u k ≢ t k
    → (s : Step k u v) → m ≡ step_carry s → dist v t (suc k) + 1 ≡ dist u t (suc k) → Shortest v t k ms → Shortest u t k (m ∷ ms)
shortest_below k {u} {v} {t} {m} {ms} hu hv ht n s em less (by_direct l e) =
    let h = three (u k) (t k) (hu k) (ht k) n in
    let z = third (u k) (t k) in
    let same : v k ≡ u k = sym (s.others k (omega arith)) in
    let lower : gather v k z + 1 ≡ gather u k z =
    omega (
      arith,
      direct_sum v t k same refl h,
      dist_away u t k refl refl h,
      step_gather k hv (step_back s) z h.third,
    ) in
    by_direct
    ((λ i. em i ∷ (l ∙ direct_is v t k same refl h) i)
    ∙ sym (direct_is u t k refl refl h ∙ ap (λ (a : List DiscMove). a ++ (carry k (u k) (t k) ∷ spreading t k z)) (lower_first k hu z h.third s lower)))
    (omega (arith, direct_sum u t k refl refl h, direct_sum v t k same refl h))
shortest_below k {u} {v} {t} {m} {ms} hu hv ht n s em less (by_detour l e) =
    let h = three (u k) (t k) (hu k) (ht k) n in
    let z = third (u k) (t k) in
    let same : v k ≡ u k = sym (s.others k (omega arith)) in
    let lower : gather v k (t k) + 1 ≡ gather u k (t k) =
    omega (
      arith,
      detour_sum v t k same refl h,
      dist_away u t k refl refl h,
      step_gather k hv (step_back s) (t k) (ht k),
    ) in
    by_detour
    ((λ i. em i ∷ (l ∙ detour_is v t k same refl h) i)
    ∙ sym (detour_is u t k refl refl h
    ∙ ap (λ (a : List DiscMove). a ++ (carry k (u k) z ∷ (gathering (λ _. t k) k (u k) ++ (carry k z (t k) ∷ spreading t k (u k)))))
    (lower_first k hu (t k) (ht k) s lower)))
    (omega (arith, detour_sum u t k refl refl h, detour_sum v t k same refl h))

-- The largest disc goes to its goal peg first: the smaller ones are gathered, and the rest spreads them.
shortest_home : (k : ℕ) {u v t : ℕ → ℕ} {m : DiscMove} {ms : List DiscMove} → Pegs v → Pegs t → (c : Crossing k u v) → m ≡ carry k (u k) (v k)
    → v k ≡ t k → Walk (suc k) v ms t → length ms ≡ dist v t (suc k) → dist v t (suc k) + 1 ≡ dist u t (suc k) → Shortest u t k (m ∷ ms)
shortest_home k {u} {v} {t} {m} {ms} hv ht c em home w e less =
    let h : Three (u k) (t k) c.free = subst (λ (i : ℕ). Three (u k) i c.free) home c.pegs in
    let rest : ms ≡ spreading t k c.free =
    spreading_unique ht (walk_home hv home w e) c.free h.third c.after
    (e ∙ dist_home v t k home ∙ dist_tower v t ht k c.free h.third c.after) in
    by_direct
    ((λ i. (em ∙ ap (carry k (u k)) home) i ∷ rest i)
    ∙ sym (direct_is u t k refl refl h ∙ ap (λ (a : List DiscMove). a ++ (carry k (u k) (t k) ∷ spreading t k c.free)) (gathering_done u k c.free c.before)))
    (omega (
      arith,
      direct_sum u t k refl refl h,
      gather_tower u k c.free c.before,
      dist_home v t k home,
      dist_tower v t ht k c.free h.third c.after,
    ))

-- The largest disc goes aside first: the rest can only be the direct route from there, and the whole is the detour.
shortest_aside : (k : ℕ) {u v t : ℕ → ℕ} {m : DiscMove} {ms : List DiscMove} → Pegs t → (c : Crossing k u v) → m ≡ carry k (u k) (v k)
    → t k ≡ c.free → dist v t (suc k) + 1 ≡ dist u t (suc k) → Shortest v t k ms → Shortest u t k (m ∷ ms)
shortest_aside k {u} {v} {t} {m} {ms} ht c em aside less (by_direct l e) =
    let h = c.pegs in
    by_detour
    ((λ i. em i ∷ (l ∙ direct_is v t k refl aside (three_turn h) ∙ ap (λ (a : List DiscMove). a ++ (carry k (v k) c.free ∷ spreading t k (u k))) (gathering_cong k v (λ _. c.free) (u k) c.after)) i)
    ∙ sym (detour_is u t k refl aside (three_flip h)
    ∙ ap (λ (a : List DiscMove). a ++ (carry k (u k) (v k) ∷ (gathering (λ _. c.free) k (u k) ++ (carry k (v k) c.free ∷ spreading t k (u k))))) (gathering_done u k c.free c.before)))
    (omega (
      arith,
      detour_sum u t k refl aside (three_flip h),
      gather_tower u k c.free c.before,
      direct_sum v t k refl aside (three_turn h),
      gather_shift v k (three_turn (three_turn h)) c.after,
    ))
shortest_aside k {u} {v} {t} ht c em aside less (by_detour l e) =
    let h = c.pegs in
    absurd (omega (
      arith,
      detour_sum v t k refl aside (three_turn h),
      gather_tower v k c.free c.after,
      dist_away u t k refl aside (three_flip h),
      gather_shift u k (three_swap (three_turn h)) c.before,
    ))

-- Every shortest walk whose largest disc has to move is the direct route or the detour.
pub walk_shortest : {k : ℕ} {u t : ℕ → ℕ} {ms : List DiscMove} → Pegs u → Pegs t → u k ≢ t k → Walk (suc k) u ms t
    → length ms ≡ dist u t (suc k) → Shortest u t k ms
walk_shortest hu ht n stay e = absurd (n refl)
walk_shortest {k} hu ht n (go {u = u} {v = v} {w = t} {ms = ms} s m w) e =
    let hv = step_pegs hu s in
    let near : dist v t (suc k) ≡ length ms = first_nearer hu s w e in
    elim (ℕ_discrete s.disc k) [
      | yes d ↦
          let c = step_crossing s d in
          let em = m ∙ (λ i. carry (d i) (u (d i)) (v (d i))) in
          elim (ℕ_discrete (v k) (t k)) [
            | yes home ↦ shortest_home k hv ht c em home w (sym near) (omega arith)
            | no away ↦
                shortest_aside k ht c em (each_peg_lem (λ j. u k ≢ j → v k ≢ j → j ≡ c.free) c.pegs (λ a b. absurd (a refl)) (λ a b. absurd (b refl)) (λ a b. refl) (t k) (ht k) n away)
                (omega arith) (walk_shortest hv ht away w (sym near))
          ]
      | no d ↦
          let same : u k ≡ v k = s.others k (omega arith) in
          shortest_below k hu hv ht n (step_less s d) m (omega arith) (walk_shortest hv ht (λ f. n (same ∙ f)) w (sym near))
    ]

-- What a shortest walk is, by the largest disc that has to move, 0 for none.
abbrev pub ShortestBy : (ℕ → ℕ) → (ℕ → ℕ) → ℕ → List DiscMove → Type 0
ShortestBy u t zero ms = ms ≡ []
ShortestBy u t (suc k) ms = Shortest u t k ms

-- A list of no moves is empty.
pub none_left : (ms : List DiscMove) → length ms ≡ 0 → ms ≡ []
none_left [] e = refl
none_left (m ∷ ms) e = absurd (omega arith)

pub walk_unique : (n : ℕ) {u t : ℕ → ℕ} {ms : List DiscMove} → Pegs u → Pegs t → Walk n u ms t → length ms ≡ dist u t n
    → ShortestBy u t (largest u t n) ms
walk_unique zero {u} {t} {ms} hu ht w e = rw (largest_none u t) (none_left ms (e ∙ dist_none u t))
walk_unique (suc k) {u} {t} {ms} hu ht w e =
    elim (ℕ_discrete (u k) (t k)) [
      | yes home ↦ rw (largest_stays u t k home) (walk_unique k hu ht (walk_home hu home w e) (e ∙ dist_home u t k home))
      | no away ↦ rw (largest_moves u t k away) (walk_shortest hu ht away w e)
    ]
