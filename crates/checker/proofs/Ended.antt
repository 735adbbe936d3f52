-- What a walk that has ended says of the letters that it went along.
use Prim.Native.Nat.{ℕ, suc, ◌*◌, ◌/◌, ◌%◌, ◌≤◌, ◌<◌}
use mathlib.Core.Bool.{Bool, true, false, cond, ◌&&◌, true≢false}
use mathlib.Core.List.{List}
use mathlib.Core.Logic.{◌≢◌, inl, inr}
use mathlib.Core.Path.{◌≡◌, ◌∙◌, refl, sym}
use native.Mathlib.Decide.{ℕ_discrete, dec_lt}
use native.Mathlib.Omega.{arith}
use borrow.Author.Tests.{eq-eqb, ne_eqb, lt-ltb, le-ltb}
use lib.Dec.{eqb, ltb}
use lib.ListN.{length, take, drop}
use lib.Seq.{split_at, take_all}
use Rattle.board.specs.Fewest.{fewest}
use Rattle.board.specs.Move.{Leads}
use Rattle.board.specs.Reply.{refused, pass}
use Rattle.board.proofs.Leads.{leads_one}
use Rattle.board.proofs.Search.{same_sound, same_refl}
use Rattle.plan.specs.Inner.Sound.{Ends}
use Rattle.route.specs.Ours.{read_moves}
use Rattle.checker.specs.Answer.{letters_check}
use Rattle.checker.specs.Faults.{Illegal}
use Rattle.checker.specs.Inner.Walk.{move_in, Walks}
use Rattle.checker.specs.Letters.{all_letters}
use Rattle.checker.specs.declared.walking.Walked.{Walked}
use Rattle.checker.proofs.Calls.{letters_refuses, shortest_passes, longer_refused}
use Rattle.checker.proofs.Pairs.{letters_end, paired, unpaired, moves_length, leads_letters}

module _ (s g l : List ℕ) (w : Walked) (walk : Walks s (read_moves l) g w) (even : length l % 2 ≢ 1) where
  -- The bytes from where it ended decide whether all are letters.
  letters_left : all_letters l ≡ all_letters (drop (2 * w.made) l)
  letters_left = leads_letters w.made l {p = s} {q = walk.position} (omega (arith, walk.few, moves_length l)) walk.leads

  -- One of them is no letter.
  ended_unpaired : all_letters (drop (2 * w.made) l) ≡ false → refused 14 ≡ letters_check s g l
  ended_unpaired some = letters_refuses s g l (inl (unpaired l (letters_left ∙ some), refl))

  -- All are letters, and a move is left: it is not legal at its turn.
  ended_illegal : w.made < length l / 2 → all_letters (drop (2 * w.made) l) ≡ true → refused 15 ≡ letters_check s g l
  ended_illegal left all =
      let more : w.made < length (read_moves l) = omega (arith, moves_length l) in
      let illegal : Illegal s (read_moves l) =
      record {
        before = take w.made (read_moves l);
        move = move_in (read_moves l) w.made;
        after = drop (suc w.made) (read_moves l);
        split = split_at (read_moves l) w.made (record { from = 0; to = 0 }) more;
        position = walk.position;
        turn = walk.leads;
        wrong = walk.stops more;
      } in
      letters_refuses s g l (inr (paired l even (letters_left ∙ all), inl (illegal, refl)))

  module _ (none : length l / 2 ≤ w.made) where
    -- No move is left: the list leads to the position that is kept.
    whole_leads : Leads s (read_moves l) walk.position
    whole_leads = rw (take_all w.made (read_moves l) (omega (arith, moves_length l))) at walk.leads

    -- And all bytes are letters.
    whole_letters_lem : all_letters l ≡ true
    whole_letters_lem = letters_left ∙ letters_end l (2 * w.made) (omega arith)

    -- It has as many moves as were made.
    whole_made : length (read_moves l) ≡ w.made
    whole_made = omega (arith, walk.few, moves_length l)

    -- They are not the fewest.
    ended_longer : Ends s g → fewest s g ≢ w.made → refused 16 ≡ letters_check s g l
    ended_longer ends other = longer_refused s g l ends even whole_letters_lem whole_leads (λ there e. other (sym e ∙ whole_made))

    -- They lead elsewhere.
    ended_elsewhere : Ends s g → w.there ≡ false → refused 16 ≡ letters_check s g l
    ended_elsewhere ends apart =
        longer_refused s g l ends even whole_letters_lem whole_leads
        (λ there e. true≢false (sym (rw (leads_one whole_leads there) (same_refl g)) ∙ sym walk.arrives ∙ apart))

    -- They are the fewest and lead to the goal.
    ended_there : fewest s g ≡ w.made → w.there ≡ true → pass ≡ letters_check s g l
    ended_there fewest-made there =
        sym (shortest_passes s g l (record {
          paired = paired l even whole_letters_lem;
          leads = rw (same_sound walk.position g (sym walk.arrives ∙ there)) at whole_leads;
          fewest_moves = whole_made ∙ sym fewest-made;
        }))

  -- Where a move is left, the bytes from there on tell which fault it is.
  left_check : w.made < length l / 2 → (b : Bool) → all_letters (drop (2 * w.made) l) ≡ b → letters_check s g l ≡ cond b (refused 15) (refused 14)
  left_check left true e = sym (ended_illegal left e)
  left_check left false e = sym (ended_unpaired e)

  -- Where none is left, the goal and the fewest moves do.
  end_check : length l / 2 ≤ w.made → Ends s g → (b : Bool) → w.there ≡ b → letters_check s g l ≡ cond (eqb (fewest s g) w.made && b) pass (refused 16)
  end_check none ends b e =
      elim (ℕ_discrete (fewest s g) w.made) [
        | yes f ↦ rw (eq-eqb _ _ f) (by b e f)
        | no n ↦ rw (ne_eqb _ _ n) (sym (ended_longer none ends n))
      ]
    where
      by : (b : Bool) → w.there ≡ b → fewest s g ≡ w.made → letters_check s g l ≡ cond b pass (refused 16)
      by true e f = sym (ended_there none f e)
      by false e f = sym (ended_elsewhere none ends e)

  -- So the walk tells the first fault.
  pub ended_check : Ends s g
      → letters_check s g l
      ≡ cond (ltb w.made (length l / 2)) (cond (all_letters (drop (2 * w.made) l)) (refused 15) (refused 14)) (cond (eqb (fewest s g) w.made && w.there) pass (refused 16))
  ended_check ends =
      elim (dec_lt w.made (length l / 2)) [
        | yes left ↦ rw (lt-ltb _ _ left) (left_check left _ refl)
        | no none ↦ let few : length l / 2 ≤ w.made = omega arith in rw (le-ltb _ _ few) (end_check few ends _ refl)
      ]
