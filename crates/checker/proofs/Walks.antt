-- Laws of a walk: how it begins, and what one move more makes of it.
use Prim.Native.Nat.{ℕ, suc, ◌+◌, ◌-◌, ◌≤◌, ◌<◌}
use mathlib.Core.Bool.{Bool, true, false}
use mathlib.Core.List.{List, [], ◌∷◌}
use mathlib.Core.Logic.{◌≢◌, ◌↔◌}
use mathlib.Core.Path.{◌≡◌, ◌∙◌, refl, sym}
use native.Mathlib.Decide.{ℕ_discrete}
use native.Mathlib.Omega.{arith}
use borrow.Author.Tests.{eq-eqb, ne_eqb}
use lib.ListN.{length, take, drop, length-drop}
use lib.Seq.{take-suc}
use Rattle.board.specs.Fewest.{same}
use Rattle.board.specs.Move.{Move, Legal, Leads, done, next, moved}
use Rattle.board.specs.Position.{WellFormed}
use Rattle.board.specs.Task.{limit}
use Rattle.board.proofs.Formed.{formed_head, formed_tail}
use Rattle.board.proofs.Leads.{leads_append, leads_formed, leads_size}
use Rattle.board.proofs.Obeys.{fails}
use Rattle.board.proofs.Top.{top_le}
use Rattle.route.specs.Ours.{read_peg}
use Rattle.run.specs.Inner.Pegs.{disc_on, shifted}
use Rattle.run.proofs.Held.{holds_shifted}
use Rattle.checker.specs.Inner.Walk.{Kept, may_move, made, move_in, Walks}
use Rattle.checker.specs.declared.discs.Discs.{Discs}
use Rattle.checker.proofs.Pairs.{letter_peg, letter_is}
use Rattle.checker.proofs.Small.{small_moved, onto_small, larger_legal, larger_moved, pair_move, place_peg, may_exactly, second_moved, larger_passed}

-- Without discs no move is legal.
pub walk_none : (s : List ℕ) (ms : List Move) (g : List ℕ) → length s ≡ length g → length s ≡ 0 → Walks s ms g (record { made = 0; there = true })
unfolding same
walk_none [] ms [] size none =
    record { few = omega arith; position = []; leads = done; stops = λ more l. omega (arith, l.there); arrives = refl }
walk_none [] ms (i ∷ g) size none = absurd (omega arith)
walk_none (b ∷ s) ms g size none = absurd (omega arith)

-- Discs that are kept have a topmost one on each peg, or the number after the largest.
pub kept_tops : {k : Discs} (p : List ℕ) → Kept k p → length p ≤ limit → (i : ℕ) → i < 3
    → (0 < disc_on k.larger.top i) × (disc_on k.larger.top i ≤ limit + 1)
kept_tops p kept within i hi =
    let is = kept.larger.tops i hi in (omega arith, omega (arith, is, top_le (drop 2 p) i, length-drop 2 p))

module _ {k : Discs} {b : ℕ} {p : List ℕ} (formed : WellFormed (b ∷ p)) (kept : Kept k (b ∷ p)) where
  module _ (x y : ℕ) (byte : x < 256) where
    -- The test finds the moves that are legal on the position that is kept.
    may_kept : (may_move k.small k.second k.larger.top x y ≡ true) ↔ Legal (b ∷ p) (pair_move x y)
    may_kept = rw (← kept.first, ← kept.next) (may_exactly k.larger b p x y formed kept.larger byte)

    module _ (legal : Legal (b ∷ p) (pair_move x y)) where
      -- Disc 1 moves.
      kept_small : x ≡ k.small → Kept (record { small = y; second = k.second; larger = k.larger }) (moved (b ∷ p) (pair_move x y))
      kept_small f =
          let is = small_moved b p (pair_move x y) ((letter_is x b (formed_head b p formed)).0 (f ∙ sym kept.first)) in
          rw is (record { first = sym (letter_peg y legal.to_peg); next = kept.next; larger = kept.larger })

      module _ (other : x ≢ k.small) where
        -- It is not disc 1 that moves.
        from_other : read_peg x ≢ b
        from_other f = other ((letter_is x b (formed_head b p formed)).1 f ∙ kept.first)

        -- Without disc 1 the move is legal too.
        rest_legal : Legal p (pair_move x y)
        rest_legal = (larger_legal b p (pair_move x y) from_other (λ f. onto_small b p (pair_move x y) f legal)).0 legal

        -- Disc 2 moves.
        kept_second : x ≡ k.second → Kept (record { small = k.small; second = y; larger = k.larger }) (moved (b ∷ p) (pair_move x y))
        kept_second f =
            let (second, rest) = second_moved p x y (formed_tail b p formed) byte (f ∙ sym kept.next) rest_legal in
            rw (larger_moved b p (pair_move x y) from_other) (record { first = kept.first; next = second; larger = rw rest kept.larger })

        -- A larger disc moves.
        kept_larger : x ≢ k.second → Kept (record { small = k.small; second = k.second; larger = shifted k.larger (x - 65) (y - 65) }) (moved (b ∷ p) (pair_move x y))
        kept_larger neither =
            let (legal_larger, second, rest) = larger_passed p x y (formed_tail b p formed) (λ f. neither (f ∙ kept.next)) rest_legal in
            let after = holds_shifted k.larger (drop 1 p) (pair_move x y) kept.larger legal_larger in
            rw (larger_moved b p (pair_move x y) from_other)
            (record {
              first = kept.first;
              next = second ∙ kept.next;
              larger = rw (place_peg x legal.from_peg, place_peg y legal.to_peg, rest) after;
            })

      -- What is kept after the move is the position after it.
      kept_made : Kept (made k x y) (moved (b ∷ p) (pair_move x y))
      unfolding made
      kept_made =
          elim (ℕ_discrete x k.small) [
            | yes f ↦ rw (eq-eqb x k.small f) (kept_small f)
            | no n ↦ elim (ℕ_discrete x k.second) [
              | yes f ↦ rw (ne_eqb x k.small n, eq-eqb x k.second f) (kept_second n f)
              | no m ↦ rw (ne_eqb x k.small n, ne_eqb x k.second m) (kept_larger n m)
            ]
          ]

-- After i moves of ms, from s, the discs k keep the position that they lead to.
pub record Walking (s : List ℕ) (ms : List Move) (i : ℕ) (k : Discs) : Type 0 where
  pub position : List ℕ
  pub leads : Leads s (take i ms) position
  pub kept : Kept k position

-- Before the first move.
pub walking_begins : {s : List ℕ} {k : Discs} (ms : List Move) → Kept k s → Walking s ms 0 k
walking_begins {s} ms kept = record { position = s; leads = done; kept = kept }

module _ {s : List ℕ} {ms : List Move} {i : ℕ} {k : Discs} (some : 0 < length s) (formed : WellFormed s) (w : Walking s ms i k) where
  -- The position is one of as many discs.
  here_size : length w.position ≡ length s
  here_size = leads_size w.leads

  -- The next move can be read.
  pub walking_tops : length s ≤ limit → (j : ℕ) → j < 3 → (0 < disc_on k.larger.top j) × (disc_on k.larger.top j ≤ limit + 1)
  walking_tops within = kept_tops w.position w.kept (omega (arith, here_size))

  -- The test finds whether it is legal.
  pub walking_may : (x y : ℕ) → x < 256 → (may_move k.small k.second k.larger.top x y ≡ true) ↔ Legal w.position (pair_move x y)
  walking_may x y byte = by w.position w.kept (leads_formed formed w.leads) (omega (arith, here_size))
    where
      by : (p : List ℕ) → Kept k p → WellFormed p → 0 < length p → (may_move k.small k.second k.larger.top x y ≡ true) ↔ Legal p (pair_move x y)
      by [] kept f h = absurd (omega arith)
      by (b ∷ p) kept f h = may_kept f kept x y byte

  module _ (x y : ℕ) (byte : x < 256) where
    -- Where it is not, the walk ends.
    pub walking_stops : pair_move x y ≡ move_in ms i → may_move k.small k.second k.larger.top x y ≡ false → ¬ Legal w.position (move_in ms i)
    walking_stops is failed = rw (← is) ((fails (may_move k.small k.second k.larger.top x y) (walking_may x y byte)).0 failed)

    -- Where it is, it goes on.
    pub walking_on : i < length ms → pair_move x y ≡ move_in ms i → may_move k.small k.second k.larger.top x y ≡ true → Walking s ms (suc i) (made k x y)
    walking_on more is passed =
        let legal = (walking_may x y byte).0 passed in
        record {
          position = moved w.position (pair_move x y);
          leads = rw (take-suc ms i (record { from = 0; to = 0 }) more, ← is) (leads_append w.leads (next legal done));
          kept = by w.position w.kept (leads_formed formed w.leads) legal;
        }
      where
        by : (p : List ℕ) → Kept k p → WellFormed p → Legal p (pair_move x y) → Kept (made k x y) (moved p (pair_move x y))
        by [] kept f legal = absurd (omega (arith, legal.there))
        by (b ∷ p) kept f legal = kept_made f kept x y byte legal

  -- A walk that ends here, where it is found whether this is the goal.
  pub walking_ends : {now : Discs} (g : List ℕ) (there : Bool) → i ≤ length ms → (i < length ms → ¬ Legal w.position (move_in ms i)) → length s ≡ length g
      → now ≡ k → ((p : List ℕ) → Kept now p → length p ≡ length g → there ≡ same p g) → Walks s ms g (record { made = i; there = there })
  walking_ends g there few stop size is compared =
      record { few = few; position = w.position; leads = w.leads; stops = stop; arrives = compared w.position (rw is w.kept) (here_size ∙ size) }

-- How a walk goes on and ends.
pub ruleset walking = (walk_none, walking_begins, walking_tops, walking_on, walking_stops, walking_ends)
