-- Lists of moves and the distance: none is shorter, and one is as short.
use Prim.Native.Nat.{ℕ, zero, suc, ◌≤◌}
use mathlib.Core.Path.{◌≡◌, ◌∙◌, ap, refl, subst}
use mathlib.Core.List.{List, [], ◌∷◌}
use native.Mathlib.Omega.{arith}
use lib.ListN.{length}
use lib.Seq.{ext_get_or}
use Rattle.board.specs.Position.{peg, WellFormed}
use Rattle.board.specs.Move.{Move, Legal, Leads, done, next, moved}
use Rattle.board.proofs.Formed.{formed_pegs}
use Rattle.board.proofs.Top.{length_moved}
use Rattle.plan.proofs.Step.{step_back}
use Rattle.plan.proofs.Distance.{dist, dist_self, dist_zero, step_dist}
use Rattle.plan.proofs.Nearer.{dist_lower}
use Rattle.board.proofs.Leads.{formed_moved}
use Rattle.plan.proofs.Moves.{legal_step, step_move, step_legal, step_moved}

-- Every list that leads from p to q has at least as many moves as the distance.
pub leads_dist : {p q : List ℕ} {ms : List Move} → WellFormed p → WellFormed q → Leads p ms q → dist (peg p) (peg q) (length p) ≤ length ms
leads_dist hp hq (done {p = p}) = omega (arith, dist_self (peg p) (length p))
leads_dist hp hq (next {p = p} {q = q} {m = m} l w) =
    let hr = formed_moved p m hp l in
    let back = step_dist (length p) (peg (moved p m)) (peg p) (peg q) (formed_pegs (moved p m) hr) (formed_pegs q hq)
    (step_back (legal_step p m hp l)) in
    let rest = rw (length_moved p m) at (leads_dist hr hq w) in
    omega arith

-- A list of k moves that leads from p to q.
abbrev pub Route : List ℕ → List ℕ → ℕ → Type 0
Route p q k = (ms : List Move) × Leads p ms q × (length ms ≡ k)

-- A legal move goes before a list.
before : {p q : List ℕ} {m : Move} {k : ℕ} → Legal p m → Route (moved p m) q k → Route p q (suc k)
before {m = m} l r = (m ∷ r.0, next l r.1, ap suc r.2)

-- Some list of as many moves as the distance leads there.
pub dist_leads : (k : ℕ) (p q : List ℕ) → length p ≡ length q → WellFormed p → WellFormed q
    → dist (peg p) (peg q) (length p) ≡ k → Route p q k
dist_leads zero p q same hp hq e =
    let p_q : p ≡ q = ext_get_or 0 p q same (dist_zero (peg p) (peg q) (formed_pegs p hp) (formed_pegs q hq) (length p) e) in
    ([], subst (λ (r : List ℕ). Leads p [] r) p_q done, refl)
dist_leads (suc k) p q same hp hq e =
    let w = dist_lower (peg p) (peg q) (formed_pegs p hp) (formed_pegs q hq) (length p) (omega arith) in
    let m = step_move w.step in
    let l : Legal p m = step_legal p w.next w.step in
    let less : dist (peg (moved p m)) (peg q) (length (moved p m)) ≡ k =
    rw (step_moved p w.next w.step, length_moved p m) (omega (arith, w.less)) in
    before l (dist_leads k (moved p m) q (length_moved p m ∙ same) (formed_moved p m hp l) hq less)
