-- A move is a crossing exactly if its disc is the largest that moves.
use Prim.Native.Nat.{ℕ, zero, suc, ◌+◌, ◌-◌, ◌≤◌, ◌<◌}
use mathlib.Core.Bool.{Bool, true, false, cond}
use mathlib.Core.List.{List, [], ◌∷◌, ◌++◌}
use mathlib.Core.Logic.{◌≢◌, ◌↔◌}
use mathlib.Core.Path.{◌≡◌, ◌∙◌, refl, ap}
use native.Mathlib.Decide.{dec_lt}
use native.Mathlib.Omega.{arith}
use lib.ListN.{length, replicate, length-append, length-replicate, get_or-replicate, get_or-append}
use lib.Seq.{get_or-append-add}
use Rattle.board.specs.Peg.{third}
use Rattle.board.specs.Position.{peg}
use Rattle.board.proofs.Formed.{formed_pegs}
use Rattle.board.proofs.Pegs.{third_peg}
use Rattle.plan.specs.Inner.Sound.{Ends}
use Rattle.plan.specs.Plan.{lengths_of, way_of, plan_of}
use Rattle.plan.proofs.Gathering.{Pegs}
use Rattle.route.specs.Inner.Stage.{is_detour}
use Rattle.route.specs.Part.{part_letter, Stretch, stretch, direct_stretches, detour_stretches, stretches_of, joined, parts_in, parts_of, part_at}
use Rattle.route.specs.Route.{move_at, carry, gathering, spreading, route_of}
use Rattle.route.specs.declared.answer.DiscMove.{DiscMove}
use Rattle.route.specs.declared.part.Part.{Part}
use Rattle.route.specs.declared.part.Part.TheVariants.{Gather, Cross, Shift, Spread}
use Rattle.route.proofs.Courses.Found.{plan_disc}
use Rattle.route.proofs.Shortest.View.{none, some, largest_view}
use Rattle.route.proofs.Stretches.Joined.{route_joins}
use Rattle.route.proofs.Stretches.Parts.{still_stretches, moving_stretches}
use Rattle.route.proofs.Walks.Walk.{Walk, stay, go, gathers, walk_back}

-- A walk of n discs moves none larger.
walk_discs : {n : ℕ} {u v : ℕ → ℕ} {ms : List DiscMove} → Walk n u ms v → (i : ℕ) → i < length ms → (move_at ms i).disc ≤ n
walk_discs stay i l = absurd (omega arith)
walk_discs (go s e w) zero l = rw e s.below
walk_discs (go s e w) (suc i) l = walk_discs w i (omega arith)

-- Nor does a gathering of the smaller discs, or a spreading.
gathering_discs : (p : ℕ → ℕ) → Pegs p → (k j : ℕ) → j < 3 → (i : ℕ) → i < length (gathering p k j) → (move_at (gathering p k j) i).disc ≤ k
gathering_discs p hp k j hj = walk_discs (gathers p hp k j hj).walk

spreading_discs : (q : ℕ → ℕ) → Pegs q → (k j : ℕ) → j < 3 → (i : ℕ) → i < length (spreading q k j) → (move_at (spreading q k j) i).disc ≤ k
unfolding spreading
spreading_discs q hq k j hj = walk_discs (walk_back (gathers q hq k j hj).walk)

-- Each move of a stretch is by disc m exactly if the stretch is a crossing.
abbrev Told : ℕ → Stretch → Type 0
Told m a = (i : ℕ) → i < length a.moves → (a.part ≡ Cross) ↔ ((move_at a.moves i).disc ≡ m)

abbrev AllTold : ℕ → List Stretch → Type 0
AllTold m [] = Unit {0}
AllTold m (a ∷ rest) = Told m a × AllTold m rest

-- A crossing by disc k + 1 is such.
crossing_told : (k i j : ℕ) → Told (suc k) (stretch Cross (carry k i j ∷ []))
crossing_told k i j zero l = ((λ e. refl), λ e. refl)
crossing_told k i j (suc n) l = absurd (omega arith)

-- So is any other stretch of smaller discs.
smaller_told : (k : ℕ) (a : Part) (ms : List DiscMove) → part_letter a ≢ 88 → ((i : ℕ) → i < length ms → (move_at ms i).disc ≤ k)
    → Told (suc k) (stretch a ms)
smaller_told k a ms other small i l = ((λ e. absurd (other (ap part_letter e))), λ e. absurd (omega (arith, small i l)))

-- Then a move of the joined stretches is a crossing exactly if it is by disc m.
all_told : (m : ℕ) (l : List Stretch) → AllTold m l → (i : ℕ) → i < length (joined l)
    → (part_at (parts_in l) i ≡ Cross) ↔ ((move_at (joined l) i).disc ≡ m)
unfolding joined parts_in
all_told m [] told i l = absurd (omega arith)
all_told m (a ∷ rest) (told, others) i l =
    let n = length a.moves in
    let size = length-replicate n a.part in
    elim (dec_lt i n) [
      | yes b ↦
          rw (
            get_or-append (replicate n a.part) (parts_in rest) Gather i (omega arith),
            get_or-replicate n i a.part Gather b,
            get_or-append a.moves (joined rest) _ i b,
          )
          (told i b)
      | no f ↦
          let here : i ≡ length a.moves + (i - n) = omega arith in
          let there : i ≡ length (replicate n a.part) + (i - n) = omega arith in
          rw (
            ap (λ (j : ℕ). part_at (replicate n a.part ++ parts_in rest) j) there ∙ get_or-append-add (replicate n a.part) (parts_in rest) (i - n) Gather,
            ap (λ (j : ℕ). move_at (a.moves ++ joined rest) j) here ∙ get_or-append-add a.moves (joined rest) (i - n) _,
          )
          (all_told m rest others (i - n) (omega (arith, length-append a.moves (joined rest))))
    ]

module _ (p q : ℕ → ℕ) (hp : Pegs p) (hq : Pegs q) (k : ℕ) where
  -- The stretches of disc k + 1's routes are told by it.
  direct_told : AllTold (suc k) (direct_stretches p q k)
  unfolding direct_stretches
  direct_told =
      let free = third_peg (p k) (q k) (hp k) in
      let z = third (p k) (q k) in
      let gathers = smaller_told k Gather (gathering p k z) (omega arith) (gathering_discs p hp k z free) in
      let spreads = smaller_told k Spread (spreading q k z) (omega arith) (spreading_discs q hq k z free) in
      (gathers, (crossing_told k (p k) (q k), (spreads, tt)))

  detour_told : AllTold (suc k) (detour_stretches p q k)
  unfolding detour_stretches
  detour_told =
      let gathers = smaller_told k Gather (gathering p k (q k)) (omega arith) (gathering_discs p hp k (q k) (hq k)) in
      let shifts = smaller_told k Shift (gathering (λ _. q k) k (p k)) (omega arith) (gathering_discs (λ _. q k) (λ _. hq k) k (p k) (hp k)) in
      let spreads = smaller_told k Spread (spreading q k (p k)) (omega arith) (spreading_discs q hq k (p k) (hp k)) in
      (gathers, (crossing_told k (p k) _, (shifts, (crossing_told k _ (q k), (spreads, tt)))))

  both_told : (b : Bool) → AllTold (suc k) (cond b (detour_stretches p q k) (direct_stretches p q k))
  both_told false = direct_told
  both_told true = detour_told

-- Those of a route are told by the plan's largest disc.
route_told : (s t : List ℕ) → Ends s t → (r : ℕ) → AllTold (plan_of s t).largest (stretches_of s t r)
route_told s t e r =
    elim (largest_view (peg s) (peg t) (length s)) [
      | none m home ↦ rw (still_stretches s t r m) tt
      | some k m b away home c ↦
          let around = is_detour (way_of (lengths_of (peg s) (peg t) k)) r in
          rw (plan_disc s t k m, moving_stretches s t k r m)
          (both_told (peg s) (peg t) (formed_pegs s e.start_formed) (formed_pegs t e.goal_formed) k around)
    ]

-- A move of a route is a crossing exactly if its disc is the plan's largest.
pub route_crosses : (s t : List ℕ) → Ends s t → (r i : ℕ) → i < length (route_of s t r)
    → (part_at (parts_of s t r) i ≡ Cross) ↔ ((move_at (route_of s t r) i).disc ≡ (plan_of s t).largest)
unfolding parts_of
route_crosses s t e r i l =
    let joins = route_joins s t r in
    rw (← joins) (all_told (plan_of s t).largest (stretches_of s t r) (route_told s t e r) i (rw (← joins) at l))
