-- Legal moves of a position and moves between pegs of discs are the same thing.
use Prim.Native.Nat.{ℕ, ◌≤◌}
use mathlib.Core.Path.{◌≡◌, ◌∙◌, ap, sym, refl, fun_ext}
use mathlib.Core.List.{List}
use mathlib.Core.Logic.{◌≢◌}
use native.Mathlib.Decide.{ℕ_discrete}
use native.Mathlib.Omega.{arith}
use lib.ListN.{length}
use Rattle.board.specs.Peg.{third}
use Rattle.board.specs.Position.{peg, WellFormed}
use Rattle.board.specs.Move.{Move, Legal, top, moved}
use Rattle.board.proofs.Formed.{formed_pegs}
use Rattle.board.proofs.Top.{top_on, top_before, top_at, top_after, moved_disc, moved_others}
use Rattle.plan.proofs.Three.{three}
use Rattle.plan.proofs.Step.{Step}

-- A legal move takes the smallest disc of its peg, past smaller ones that are all on the third peg.
unfoldable pub legal_step : (p : List ℕ) (m : Move) → WellFormed p → Legal p m → Step (length p) (peg p) (peg (moved p m))
legal_step p m hp l =
    let h = three m.from m.to l.from_peg l.to_peg l.apart in
    record {
      disc = top p m.from;
      below = l.there;
      free = third m.from m.to;
      pegs = rw (top_on p m.from l.there, moved_disc p m l.there) h;
      smaller = λ d s.
          let ni = top_before p m.from d s in
          let nj = top_before p m.to d (omega (arith, l.clear)) in
          let b = formed_pegs p hp d in
          omega arith;
      others = λ d n. sym (moved_others p m d n);
    }

-- The move that a step makes.
abbrev pub step_move : {k : ℕ} {p q : ℕ → ℕ} → Step k p q → Move
step_move {p = p} {q = q} s = record { from = p s.disc; to = q s.disc }

-- Under a step the disc that moves is the smallest of its peg.
pub step_top : (p : List ℕ) (q : ℕ → ℕ) (s : Step (length p) (peg p) q) → top p (peg p s.disc) ≡ s.disc
step_top p q s =
    top_at p (peg p s.disc) s.disc s.below refl (λ e l f. s.pegs.first_third (sym f ∙ s.smaller e l))

-- A step is a legal move.
pub step_legal : (p : List ℕ) (q : ℕ → ℕ) (s : Step (length p) (peg p) q) → Legal p (step_move s)
step_legal p q s =
    let to_free : (e : ℕ) → e ≤ s.disc → peg p e ≢ q s.disc =
    λ e l f. elim (ℕ_discrete e s.disc) [
      | yes g ↦ s.pegs.first_second (ap (peg p) (sym g) ∙ f)
      | no n ↦ s.pegs.second_third (sym f ∙ s.smaller e (omega arith))
    ] in
    record {
      from_peg = s.pegs.first;
      to_peg = s.pegs.second;
      apart = s.pegs.first_second;
      there = rw (step_top p q s) s.below;
      clear = rw (step_top p q s) (top_after p (q s.disc) s.disc s.below to_free);
    }

-- What it leaves is where the step goes.
pub step_moved : (p : List ℕ) (q : ℕ → ℕ) (s : Step (length p) (peg p) q) → peg (moved p (step_move s)) ≡ q
step_moved p q s =
    fun_ext λ d.
    elim (ℕ_discrete d s.disc) [
      | yes e ↦ rw e (rw (step_top p q s) at (moved_disc p (step_move s) (step_legal p q s).there))
      | no n ↦ moved_others p (step_move s) d (λ e. n (e ∙ step_top p q s)) ∙ s.others d n
    ]
