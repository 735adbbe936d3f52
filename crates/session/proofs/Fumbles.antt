-- Laws of fumbles: what a refusal adds to them, when a record is full, and that they stay few enough. They know a refusal by its number,
-- and nothing of pegs and discs.
use Prim.Native.Nat.{ℕ, ◌+◌, ◌≤◌}
use mathlib.Core.Bool.{Bool, true, false, cond}
use mathlib.Core.Logic.{◌≢◌, ◌⊎◌, inl, inr, ◌↔◌}
use mathlib.Core.Path.{◌≡◌, refl}
use native.Mathlib.Omega.{arith}
use lib.Dec.{eqb}
use Rattle.std.proofs.lemmas.Bool.Decides.{nat_tests}
use Rattle.board.specs.Reply.{refused, ◌>>◌, Check, check}
use Rattle.board.proofs.Obeys.{fails}
use Rattle.session.specs.Counts.{play_limit, fumble, full}
use Rattle.session.specs.declared.counting.Counts.{Counts}

-- Refused with 8 or 9, a play adds one.
pub fumble_one : (k : ℕ) → (k ≡ 8) ⊎ (k ≡ 9) → fumble k ≡ 1
fumble_one k e = grind (arith, nat_tests)

-- With any other number it adds none.
pub fumble_none : (k : ℕ) → k ≢ 8 → k ≢ 9 → fumble k ≡ 0
fumble_none k no_8 no_9 = grind (arith, nat_tests)

-- So it adds what a count of 8 and a count of 9 add together.
pub fumble_both : (k : ℕ) → fumble k ≡ cond (eqb k 8) 1 0 + cond (eqb k 9) 1 0
fumble_both k = grind (arith, nat_tests)

-- It adds at most one.
fumble_most : (k : ℕ) → fumble k ≤ 1
fumble_most k = grind (arith, nat_tests)

module _ (c : Counts) (fumbles : ℕ) where
  -- A record is full exactly where made or the fumbles stand at the limit.
  pub full_exactly : (full c fumbles ≡ true) ↔ ((c.made ≡ play_limit) ⊎ (fumbles ≡ play_limit))
  unfolding full
  full_exactly = (λ e. grind (arith, nat_tests), λ s. grind (arith, nat_tests))

  -- And it is not where neither does.
  pub not_full : (full c fumbles ≡ false) ↔ ((c.made ≢ play_limit) × (fumbles ≢ play_limit))
  not_full =
      let (neither, none) = fails (full c fumbles) full_exactly in (
        (λ e. ((λ h. neither e (inl h)), λ h. neither e (inr h))),
        λ n. none (λ s. elim s [ inl h ↦ n.0 h | inr h ↦ n.1 h ]),
      )

  -- Refused with 11 a play adds none, and past it the fumbles have room for one: so they stay few enough.
  pub fumbles_few : (rest : Check) {k : ℕ} → fumbles ≤ play_limit → (check (full c fumbles) 11 >> rest) ≡ refused k
      → fumbles + fumble k ≤ play_limit
  fumbles_few rest {k} few e = by (full c fumbles) refl e
    where
      by : (b : Bool) → full c fumbles ≡ b → (check b 11 >> rest) ≡ refused k → fumbles + fumble k ≤ play_limit
      by true f r = let is : k ≡ 11 = cc in rw is (omega arith)
      by false f r = omega (arith, few, (not_full.0 f).1, fumble_most k)
