-- Walks and lists of legal moves are the same thing.
use Prim.Native.Nat.{ℕ, zero, suc, ◌<◌}
use mathlib.Core.Path.{◌≡◌, ◌∙◌, ap, sym, refl, subst}
use mathlib.Core.List.{List, [], ◌∷◌, map}
use native.Mathlib.Omega.{arith}
use lib.ListN.{length, take}
use Rattle.board.specs.Position.{peg, WellFormed}
use Rattle.board.specs.Move.{Move, Legal, Leads, done, next, top, moved}
use Rattle.board.proofs.Top.{length_moved, top_on, moved_disc}
use Rattle.plan.specs.Inner.Three.{Three}
use Rattle.plan.proofs.Step.{Step}
use Rattle.board.proofs.Leads.{formed_moved}
use Rattle.plan.proofs.Moves.{legal_step, step_move, step_top, step_legal, step_moved}
use Rattle.route.specs.Route.{plain, move_at, after}
use Rattle.route.specs.declared.answer.DiscMove.{DiscMove}
use Rattle.route.proofs.Gatherings.Gathering.{step_carry}
use Rattle.route.proofs.Walks.Walk.{Walk, stay, go}

-- A list of moves leads from p to what it leaves of p, whose pegs are v.
pub record Leading (p : List ℕ) (ms : List DiscMove) (v : ℕ → ℕ) : Type 0 where
  pub leads : Leads p (map plain ms) (after p ms)
  pub pegs : (d : ℕ) → peg (after p ms) d ≡ v d
  pub size : length (after p ms) ≡ length p

-- A step from the pegs of a position.
abbrev step_from : {n : ℕ} {u v : ℕ → ℕ} (p : List ℕ) → length p ≡ n → ((d : ℕ) → peg p d ≡ u d) → Step n u v → Step (length p) (peg p) v
step_from {v = v} p en eu s =
    record {
      disc = s.disc;
      below = rw en s.below;
      free = s.free;
      pegs = subst (λ (i : ℕ). Three i (v s.disc) s.free) (sym (eu s.disc)) s.pegs;
      smaller = λ d l. eu d ∙ s.smaller d l;
      others = λ d k. eu d ∙ s.others d k;
    }

-- The first move of a walk from the pegs of a position is legal, names its disc, and leaves the pegs that the walk goes on from.
record StepMade (p : List ℕ) (m : DiscMove) (v : ℕ → ℕ) : Type 0 where
  legal : Legal p (plain m)
  disc : m.disc ≡ suc (top p m.from)
  pegs : (d : ℕ) → peg (moved p (plain m)) d ≡ v d

step_made : {n : ℕ} {u v : ℕ → ℕ} {m : DiscMove} (p : List ℕ) → length p ≡ n → ((d : ℕ) → peg p d ≡ u d)
    → (s : Step n u v) → m ≡ step_carry s → StepMade p m v
step_made {v = v} {m = m} p en eu s e =
    let s' : Step (length p) (peg p) v = step_from p en eu s in
    let from : m.from ≡ peg p s.disc = ap (λ (n : DiscMove). n.from) e ∙ sym (eu s.disc) in
    let at : plain m ≡ step_move s' = ap plain e ∙ ap (λ (i : ℕ). record { from = i; to = v s.disc }) (sym (eu s.disc)) in
    record {
      legal = rw at (step_legal p v s');
      disc = rw (from, step_top p v s') (ap (λ (n : DiscMove). n.disc) e);
      pegs = λ d. rw at (ap (λ (f : ℕ → ℕ). f d) (step_moved p v s'));
    }

-- A walk from the pegs of a position leads from that position.
pub walk_leads : {n : ℕ} {u v : ℕ → ℕ} {ms : List DiscMove}
    → Walk n u ms v → (p : List ℕ) → length p ≡ n → ((d : ℕ) → peg p d ≡ u d) → Leading p ms v
unfolding after
walk_leads stay p en eu = record { leads = done; pegs = eu; size = refl }
walk_leads (go {m = m} s e w) p en eu =
    let f = step_made p en eu s e in
    let l = walk_leads w (moved p (plain m)) (length_moved p (plain m) ∙ en) f.pegs in
    record { leads = next f.legal l.leads; pegs = l.pegs; size = l.size ∙ length_moved p (plain m) }

-- Each move of it names the disc that it moves: the smallest on its from-peg where the moves before it lead.
pub walk_disc : {n : ℕ} {u v : ℕ → ℕ} {ms : List DiscMove}
    → Walk n u ms v → (p : List ℕ) → length p ≡ n → ((d : ℕ) → peg p d ≡ u d) → (i : ℕ) → i < length ms
    → (move_at ms i).disc ≡ suc (top (after p (take i ms)) (move_at ms i).from)
unfolding after
walk_disc stay p en eu i l = absurd (omega arith)
walk_disc (go s e w) p en eu zero l = (step_made p en eu s e).disc
walk_disc (go {m = m} s e w) p en eu (suc i) l =
    walk_disc w (moved p (plain m)) (length_moved p (plain m) ∙ en) (step_made p en eu s e).pegs i (omega arith)

-- The step of a legal move makes that move.
legal_carry : (p : List ℕ) (m : Move) (hp : WellFormed p) (l : Legal p m) → plain (step_carry (legal_step p m hp l)) ≡ m
unfolding legal_step
legal_carry p m hp l = λ i. record { from = top_on p m.from l.there i; to = moved_disc p m l.there i }

-- A list of legal moves is a walk.
pub leads_walk : {p q : List ℕ} {ms : List Move} → WellFormed p → Leads p ms q
    → (ds : List DiscMove) × Walk (length p) (peg p) ds (peg q) × (map plain ds ≡ ms)
leads_walk hp done = ([], stay, refl)
leads_walk hp (next {p = p} {m = m} l w) =
    let s = legal_step p m hp l in
    let (ds, walk, e) = leads_walk (formed_moved p m hp l) w in
    (step_carry s ∷ ds, go s refl (rw (length_moved p m) at walk), λ i. legal_carry p m hp l i ∷ e i)
