-- Laws of the moves of a gathering alone: they are the stepper's own, and how a buffer comes to hold them.
use Prim.Native.Nat.{ℕ, zero, suc, ◌+◌, ◌-◌, ◌*◌, ◌%◌, ◌≤◌, ◌<◌}
use mathlib.Core.List.{List, [], ◌∷◌, ◌++◌, append_assoc, append-nil}
use mathlib.Core.Logic.{◌≢◌}
use mathlib.Core.Path.{◌≡◌, refl, ap, sym, ◌∙◌}
use borrow.Rule.Slice.PartMut.{mid_of, put_mid}
use native.Mathlib.Decide.{ℕ_discrete}
use native.Mathlib.Nat.{add-zero, add-suc}
use native.Mathlib.Omega.{arith}
use lib.ListN.{length, drop, length-append}
use lib.Seq.{sets}
use Rattle.board.specs.Position.{peg}
use Rattle.board.proofs.Lists.{stored}
use Rattle.route.specs.Answer.{letter}
use Rattle.run.specs.Inner.Gatherer.{Gatherer, gatherer, gather_move, gather_next, gathers_from, gather_letters, Gathers}
use Rattle.run.specs.Inner.Pegs.{shifted}
use Rattle.run.specs.Inner.Stepper.{Turned, small_turn, other_turn, gather_turn, Advance, advance, Safe}
use Rattle.run.specs.Inner.Written.{steps_from, step_letters}
use Rattle.run.specs.declared.pegs.Pegs.{Pegs}
use Rattle.run.specs.declared.stepper.Leg.{Leg}
use Rattle.run.specs.declared.stepper.Stepper.{Stepper}
use Rattle.run.specs.declared.stepper.Turn.{Turn}
use Rattle.run.proofs.Letters.{letters_more, letters_length, sets_append, sets_part}
use Rattle.run.proofs.Steps.{gather_small, gather_other, step_gather}

-- A stepper without its leg.
abbrev gatherer_of : Stepper → Gatherer
gatherer_of s = record { pegs = s.pegs; turn = s.turn }

-- A gatherer in the leg l.
abbrev in_leg : Leg → Gatherer → Stepper
in_leg l g = record { pegs = g.pegs; turn = g.turn; leg = l }

-- A move of a gathering leaves one less.
less_left : (t : List ℕ) (u : Turn) → (gather_turn t u).turn.left ≡ u.left - 1
unfolding small_turn other_turn
less_left t u =
    elim (ℕ_discrete (u.left % 2) 1) [
      | yes e ↦ rw (gather_small t u e)
      | no n ↦ rw (gather_other t u n)
    ]

-- So many moves leave so many less.
left_after : (g : Gatherer) (i : ℕ) → (gathers_from g i).turn.left ≡ g.turn.left - i
unfolding gathers_from
left_after g zero = omega arith
left_after g (suc i) =
    let h = gathers_from g i in
    omega (arith, less_left h.pegs.top h.turn, left_after g i)

module _ (s : Stepper) (q : ℕ → ℕ) where
  -- While something is left to gather, the stepper's moves are those of the gathering.
  pub steps_gather : (i : ℕ) → i ≤ s.turn.left → steps_from s q i ≡ in_leg s.leg (gathers_from (gatherer_of s) i)
  unfolding steps_from gathers_from
  steps_gather zero h = refl
  steps_gather (suc i) h =
      let some : (gathers_from (gatherer_of s) i).turn.left ≢ 0 = omega (arith, left_after (gatherer_of s) i) in
      ap (λ (t : Stepper). (advance t q).stepper) (steps_gather i (omega arith))
      ∙ ap (λ (m : Advance). m.stepper) (step_gather (in_leg s.leg (gathers_from (gatherer_of s) i)) q some)

  -- And their letters are its letters.
  pub letters_gather : (i : ℕ) → i ≤ s.turn.left → step_letters s q i ≡ gather_letters (gatherer_of s) i
  unfolding step_letters gather_letters
  letters_gather zero h = refl
  letters_gather (suc i) h =
      let some : (gathers_from (gatherer_of s) i).turn.left ≢ 0 = omega (arith, left_after (gatherer_of s) i) in
      letters_more s q i
      ∙ rw (letters_gather i (omega arith), steps_gather i (omega arith), step_gather (in_leg s.leg (gathers_from (gatherer_of s) i)) q some)

  -- The stepper after i + m moves is the one m moves after i.
  pub steps_add : (i m : ℕ) → steps_from s q (i + m) ≡ steps_from (steps_from s q i) q m
  unfolding steps_from
  steps_add i zero = rw add-zero
  steps_add i (suc m) = rw add-suc (ap (λ (t : Stepper). (advance t q).stepper) (steps_add i m))

  -- The letters of i + m moves are those of i and then those of m.
  pub letters_add : (i m : ℕ) → step_letters s q (i + m) ≡ step_letters s q i ++ step_letters (steps_from s q i) q m
  unfolding step_letters
  letters_add i zero = rw (add-zero, append-nil)
  letters_add i (suc m) =
      rw (add-suc, letters_more s q (i + m), letters_more (steps_from s q i) q m, letters_add i m, steps_add i m)
      (append_assoc (step_letters s q i) (step_letters (steps_from s q i) q m) _)

-- A stepper that can make its next move can gather where something is left.
gathers_now : (s : Stepper) (g : List ℕ) → Safe s g → s.turn.left ≢ 0 → Gathers (gatherer_of s)
gathers_now s g may some =
    let is = step_gather s (peg g) some in
    record {
      some = omega arith;
      small = may.small;
      from = rw is at may.from;
      to = rw is at may.to;
      carries = rw is at may.carries;
      on_top = may.on_top;
    }

-- Where s can make the move after i + j, and t, after i moves of s, has more than j left to gather, t can gather after j moves.
pub gathers_safe : (s : Stepper) (g : List ℕ) (i j : ℕ) {t : Stepper} → t ≡ steps_from s (peg g) i → j < t.turn.left
    → Safe (steps_from s (peg g) (i + j)) g → Gathers (gathers_from (gatherer_of t) j)
gathers_safe s g i j {t} here h may =
    gathers_now (in_leg t.leg (gathers_from (gatherer_of t) j)) g
    (rw (steps_add s (peg g) i j, ← here, steps_gather t (peg g) j (omega arith)) at may)
    (omega (arith, left_after (gatherer_of t) j))

-- Each move of a gathering has two letters.
gathered_length : (g : Gatherer) (i : ℕ) → length (gather_letters g i) ≡ 2 * i
unfolding gather_letters
gathered_length g zero = refl
gathered_length g (suc i) = rw length-append (omega (arith, gathered_length g i))

module _ (g : Gatherer) (i : ℕ) {a : Pegs} {u : Turn} (here : gatherer a u ≡ gathers_from g i) {r : Turned} (is : r ≡ gather_turn a.top u) where
  -- A move of a gathering, made in the pegs, is the gatherer's next.
  pub gather_next_lem : {a' : Pegs} → a' ≡ shifted a r.from r.to → gatherer a' r.turn ≡ gathers_from g (suc i)
  unfolding gathers_from
  gather_next_lem held =
      ap (λ (a : Pegs). gatherer a r.turn) held
      ∙ ap (λ (x : Turned). gather_next (gatherer a u) x) is
      ∙ ap (λ (h : Gatherer). gather_next h (gather_move h)) here

  -- Its letters, written at the front of what is left, are stored with those before.
  pub gather_go : (o : List ℕ) {l v : List ℕ} → l ≡ sets o 0 (gather_letters g i) → 2 * i + 2 ≤ length l
      → v ≡ sets (mid_of (2 * i) (length l - 2 * i) l) 0 (letter r.from ∷ letter r.to ∷ [])
      → put_mid (2 * i) (length l - 2 * i) l v ≡ sets o 0 (gather_letters g (suc i))
  unfolding gather_letters
  gather_go o {l} {v} before room put =
      let next : r ≡ gather_move (gathers_from g i) = is ∙ ap (λ (h : Gatherer). gather_move h) here in
      let letters : List ℕ = letter r.from ∷ letter r.to ∷ [] in
      let place : 2 * i ≡ 0 + length (gather_letters g i) = omega (arith, gathered_length g i) in
      ap (put_mid (2 * i) (length l - 2 * i) l) put
      ∙ sets_part (2 * i) (length l - 2 * i) l letters (omega arith) (omega arith)
      ∙ rw (before, ← next, place) (sym (sets_append o 0 (gather_letters g i) letters))

module _ (s : Stepper) (q : ℕ → ℕ) (i : ℕ) {t : Stepper} (here : t ≡ steps_from s q i) (m : ℕ) (h : m ≤ t.turn.left) where
  -- After m moves of the gathering the stepper t, after i moves of s, is after i + m.
  pub gathered_steps : {g : Gatherer} → g ≡ gathers_from (gatherer_of t) m → in_leg t.leg g ≡ steps_from s q (i + m)
  gathered_steps is =
      ap (λ (g : Gatherer). in_leg t.leg g) is
      ∙ sym (steps_gather t q m h)
      ∙ ap (λ (x : Stepper). steps_from x q m) here
      ∙ sym (steps_add s q i m)

  -- The moves of the gathering, written at the front of what is left, come after those before.
  pub gathered_letters : (o : List ℕ) {l v : List ℕ} → l ≡ step_letters s q i ++ drop (2 * i) o → length l ≡ length o → 2 * (i + m) ≤ length o
      → v ≡ sets (mid_of (2 * i) (length l - 2 * i) l) 0 (gather_letters (gatherer_of t) m)
      → put_mid (2 * i) (length l - 2 * i) l v ≡ step_letters s q (i + m) ++ drop (2 * (i + m)) o
  gathered_letters o {l} {v} is same room put =
      let k : ℕ = length l - 2 * i in
      let size : 2 * (i + m) ≡ 2 * i + length (step_letters t q m) = omega (arith, letters_length t q m) in
      ap (put_mid (2 * i) k l) put
      ∙ sets_part (2 * i) k l (gather_letters (gatherer_of t) m) (omega arith) (omega (arith, gathered_length (gatherer_of t) m))
      ∙ rw (is, ← letters_gather t q m h, letters_add s q i m, ← here, size)
      (stored (step_letters s q i) (step_letters t q m) o (2 * i) (letters_length s q i) (omega (arith, size)))
