-- Walks: moves between positions, given as the peg of each disc, one after the other.
use Prim.Native.Nat.{ℕ, zero, suc, ◌≤◌, ◌<◌}
use mathlib.Core.Path.{◌≡◌, ◌∙◌, ap, sym, refl, subst}
use mathlib.Core.List.{List, [], ◌∷◌, ◌++◌}
use native.Mathlib.Decide.{ℕ_discrete}
use native.Mathlib.Omega.{arith}
use lib.ListN.{length}
use Rattle.plan.specs.Gather.{gather}
use Rattle.plan.proofs.Gathering.{Pegs, Tower, gathered_tower}
use Rattle.plan.proofs.Step.{Step, step_back}
use Rattle.plan.proofs.Distance.{dist, dist_self, step_dist}
use Rattle.route.specs.Route.{turned, backwards, gathering}
use Rattle.route.specs.declared.answer.DiscMove.{DiscMove}
use Rattle.route.proofs.Gatherings.Gathering.{step_carry, gathering_first, gathering_done}

-- A list of moves of n discs takes the first position to the second.
pub data Walk (n : ℕ) : (ℕ → ℕ) → List DiscMove → (ℕ → ℕ) → Type 0 where
  stay : {u : ℕ → ℕ} → Walk n u [] u
  go : {u v w : ℕ → ℕ} {m : DiscMove} {ms : List DiscMove} (s : Step n u v) → m ≡ step_carry s → Walk n v ms w → Walk n u (m ∷ ms) w

-- A step leaves discs on pegs.
pub step_pegs : {n : ℕ} {u v : ℕ → ℕ} → Pegs u → Step n u v → Pegs v
step_pegs {n} {u} {v} hu s d =
    elim (ℕ_discrete s.disc d) [
      | yes e ↦ subst (λ (i : ℕ). v i < 3) e s.pegs.second
      | no k ↦ rw (← s.others d (λ e. k (sym e))) (hu d)
    ]

pub walk_pegs : {n : ℕ} {u v : ℕ → ℕ} {ms : List DiscMove} → Pegs u → Walk n u ms v → Pegs v
walk_pegs hu stay = hu
walk_pegs hu (go s e w) = walk_pegs (step_pegs hu s) w

-- Larger discs stay.
pub walk_above : {n : ℕ} {u v : ℕ → ℕ} {ms : List DiscMove} → Walk n u ms v → (d : ℕ) → n ≤ d → u d ≡ v d
walk_above stay d l = refl
walk_above (go s e w) d l = s.others d (omega arith) ∙ walk_above w d l

-- A step of fewer discs is a step of more.
abbrev pub step_grow : {k n : ℕ} {u v : ℕ → ℕ} → k ≤ n → Step k u v → Step n u v
step_grow l s =
    record { disc = s.disc; below = omega arith; free = s.free; pegs = s.pegs; smaller = s.smaller; others = s.others }

-- So is a walk.
pub walk_grow : {k n : ℕ} {u v : ℕ → ℕ} {ms : List DiscMove} → k ≤ n → Walk k u ms v → Walk n u ms v
walk_grow l stay = stay
walk_grow l (go s e w) = go (step_grow l s) e (walk_grow l w)

-- One walk after another.
pub walk_append : {n : ℕ} {u v w : ℕ → ℕ} {ms ns : List DiscMove} → Walk n u ms v → Walk n v ns w → Walk n u (ms ++ ns) w
walk_append stay x = x
walk_append (go s e w) x = go s e (walk_append w x)

-- A walk backwards.
pub walk_back : {n : ℕ} {u v : ℕ → ℕ} {ms : List DiscMove} → Walk n u ms v → Walk n v (backwards ms) u
unfolding backwards
walk_back stay = stay
walk_back (go s e w) = walk_append (walk_back w) (go (step_back s) (ap turned e) stay)

-- No walk is shorter than the distance.
pub walk_dist : {n : ℕ} {u v : ℕ → ℕ} {ms : List DiscMove} → Pegs u → Walk n u ms v → dist u v n ≤ length ms
walk_dist {n} hu (stay {u = u}) = omega (arith, dist_self u n)
walk_dist {n} hu (go {u = u} {v = v} {w = w} s e x) =
    let hv = step_pegs hu s in
    omega (arith, step_dist n v u w hv (walk_pegs hv x) (step_back s), walk_dist hv x)

-- A gathering is a walk to a tower on its target, by as many moves as are left.
pub record GatheringWalk (n : ℕ) (u : ℕ → ℕ) (k j : ℕ) : Type 0 where
  pub end : ℕ → ℕ
  pub walk : Walk n u (gathering u k j) end
  pub tower : Tower end k j

gathers_by : (c : ℕ) (u : ℕ → ℕ) → Pegs u → (k j : ℕ) → j < 3 → gather u k j ≡ c → GatheringWalk k u k j
gathers_by zero u hu k j hj e =
    let t = gathered_tower u hu k j hj e in record { end = u; walk = rw (gathering_done u k j t) stay; tower = t }
gathers_by (suc c) u hu k j hj e =
    let f = gathering_first u hu k j hj (omega arith) in
    let g = gathers_by c f.next f.pegs k j hj (omega (arith, f.less)) in
    record { end = g.end; walk = rw f.rest (go f.step refl g.walk); tower = g.tower }

pub gathers : (u : ℕ → ℕ) → Pegs u → (k j : ℕ) → j < 3 → GatheringWalk k u k j
gathers u hu k j hj = gathers_by (gather u k j) u hu k j hj refl
