-- A ready stepper writes the moves ahead, and can make each of them.
use Prim.Native.Nat.{ℕ, zero, suc, ◌*◌, ◌≤◌, ◌<◌}
use mathlib.Core.Path.{◌≡◌, ◌∙◌, refl}
use mathlib.Core.List.{List, [], ◌∷◌, ◌++◌}
use native.Mathlib.Omega.{arith}
use lib.ListN.{length, take, drop}
use Rattle.board.specs.Position.{peg, WellFormed}
use Rattle.board.specs.Move.{moved}
use Rattle.board.specs.Task.{limit}
use Rattle.board.proofs.Formed.{formed_pegs}
use Rattle.board.proofs.Top.{top_at, length_moved}
use Rattle.plan.proofs.Gathering.{Pegs}
use Rattle.route.specs.Answer.{letters}
use Rattle.route.specs.Route.{plain}
use Rattle.route.specs.declared.answer.DiscMove.{DiscMove}
use Rattle.run.specs.Inner.Ready.{Ready}
use Rattle.run.specs.Inner.Stepper.{top_of, advance, Safe}
use Rattle.run.specs.Inner.Written.{steps_from, step_letters}
use Rattle.run.specs.declared.stepper.Stepper.{Stepper}
use Rattle.run.proofs.Follows.{ready_step}
use Rattle.run.proofs.Letters.{steps_from_next}

-- The letters of a ready stepper are those of the moves ahead.
pub ready_letters : (s : Stepper) (p : List ℕ) (q : ℕ → ℕ) (ms : List DiscMove) (k : ℕ) → Pegs q → (0 < k → Ready s p q ms) → k ≤ length ms
    → step_letters s q k ≡ letters (take k ms)
unfolding step_letters letters
ready_letters s p q ms zero hq r h = refl
ready_letters s p q [] (suc k) hq r h = absurd (omega arith)
ready_letters s p q (m ∷ ms) (suc k) hq r h =
    let f = ready_step s p q m ms hq (r (omega arith)) in
    let rest = ready_letters (advance s q).stepper (moved p (plain m)) q ms k hq (λ more. f.next (omega arith)) (omega arith) in
    rw (f.from, f.to, rest)

-- With them a buffer is what Run leaves of it.
pub ready_written : (s : Stepper) (p : List ℕ) (q : ℕ → ℕ) (ms : List DiscMove) (k : ℕ) (o : List ℕ) → Pegs q → (0 < k → Ready s p q ms)
    → k ≤ length ms → step_letters s q k ++ drop (2 * k) o ≡ letters (take k ms) ++ drop (2 * k) o
ready_written s p q ms k o hq r h = rw (ready_letters s p q ms k hq r h)

-- Disc 1 is on top of its peg.
disc_one : {s : Stepper} {p : List ℕ} {q : ℕ → ℕ} {ms : List DiscMove} → Ready s p q ms → top_of s s.turn.small ≡ 1
disc_one {s} {p} r =
    let here = r.holds.tops (peg p 0) (formed_pegs p r.formed 0) in
    let first = top_at p (peg p 0) 0 (omega (arith, r.leg_there)) refl (λ e h. absurd (omega arith)) in
    rw r.small (omega arith)

-- A ready stepper can make its next move.
safe_now : (s : Stepper) (p g : List ℕ) (m : DiscMove) (ms : List DiscMove) → Ready s p (peg g) (m ∷ ms) → length p ≡ length g
    → length g ≤ limit → WellFormed g → Safe s g
safe_now s p g m ms r size within formed =
    let f = ready_step s p (peg g) m ms (formed_pegs g formed) r in
    let disc = r.holds.tops m.from f.legal.from_peg in
    record {
      small = rw r.small (formed_pegs p r.formed 0);
      from = rw f.from f.legal.from_peg;
      to = rw f.to f.legal.to_peg;
      carries = rw f.from (omega arith, omega (arith, f.legal.there));
      on_top = λ odd. disc_one r;
      leg_disc = λ none. omega (arith, r.leg_there);
      within = within;
      formed = formed;
    }

-- So it can make every move ahead.
pub ready_safe : (s : Stepper) (p g : List ℕ) (ms : List DiscMove) → Ready s p (peg g) ms → length p ≡ length g → length g ≤ limit
    → WellFormed g → (i : ℕ) → i < length ms → Safe (steps_from s (peg g) i) g
unfolding steps_from
ready_safe s p g [] r size within formed i h = absurd (omega arith)
ready_safe s p g (m ∷ ms) r size within formed zero h = safe_now s p g m ms r size within formed
ready_safe s p g (m ∷ ms) r size within formed (suc i) h =
    let f = ready_step s p (peg g) m ms (formed_pegs g formed) r in
    rw (← steps_from_next s (peg g) i)
    (ready_safe (advance s (peg g)).stepper (moved p (plain m)) g ms (f.next (omega arith)) (length_moved p (plain m) ∙ size) within formed i (omega arith))
