-- The account of a session, in the record and in the tally alike: its tests pass exactly where it is one, it holds at first, a play that
-- changes the fewest by at most one keeps it, and its excess is what its plays wasted. It knows the fewest as two numbers, and nothing of
-- pegs and discs.
use Prim.Native.Nat.{ℕ, ◌+◌, ◌≤◌}
use mathlib.Core.Bool.{true, ◌&&◌, and-eq-true_iff}
use mathlib.Core.Logic.{◌≢◌, ◌↔◌}
use mathlib.Core.Path.{◌≡◌}
use native.Mathlib.Omega.{arith}
use Rattle.std.proofs.lemmas.Bool.Decides.{nat_tests}
use Rattle.session.specs.Counts.{play_limit, no_plays, mark_of, counted, counts_agree, marks_agree, Account, excess_of, Excess}
use Rattle.session.specs.declared.counting.Counts.{Counts}
use Rattle.session.proofs.Marks.{mark_one, mark_balance}

-- Counts that agree add up, and are few enough.
pub counts_sum : (c : Counts) → counts_agree c ≡ true → c.made ≡ c.toward + c.level + c.away
unfolding counts_agree
counts_sum c h = grind (arith, nat_tests)

pub counts_few : (c : Counts) → counts_agree c ≡ true → c.made ≤ play_limit
unfolding counts_agree
counts_few c h = grind (arith, nat_tests)

-- So none of them is above the plays made.
pub counts_within : (c : Counts) → counts_agree c ≡ true → c.toward + c.level + c.away ≤ c.made
unfolding counts_agree
counts_within c h = grind (arith, nat_tests)

module _ {c : Counts} {now first : ℕ} where
  -- The counts of an account agree, and so do its marks.
  pub account_counts : Account c now first → counts_agree c ≡ true
  unfolding counts_agree
  account_counts a = grind (arith, nat_tests)

  pub account_marks : Account c now first → marks_agree c now first ≡ true
  unfolding marks_agree
  account_marks a = grind (arith, nat_tests)

  -- The tests pass exactly where there is an account.
  pub account_exactly : ((counts_agree c && marks_agree c now first) ≡ true) ↔ Account c now first
  unfolding counts_agree marks_agree
  account_exactly = (
    λ e. record { sum = grind (arith, nat_tests); within = grind (arith, nat_tests); marks = grind (arith, nat_tests) },
    λ a. (and-eq-true_iff (counts_agree c) (marks_agree c now first)).1 (account_counts a, account_marks a),
  )

-- It holds at first.
pub account_first : (first : ℕ) → Account no_plays first first
account_first first = omega arith

-- A play keeps it.
pub account_played : {c : Counts} {now after first : ℕ} → after ≤ now + 1 → now ≤ after + 1 → c.made ≢ play_limit
    → Account c now first → Account (counted c (mark_of now after)) after first
unfolding counted
account_played {now = now} {after = after} further nearer more a =
    let one = mark_one (mark_of now after) in
    let balance = mark_balance now after further nearer in
    omega arith

-- Its excess: made is toward + level + away, and the fewest at the start less the fewest now is toward − away, which leaves level + 2 × away.
pub account_excess : {c : Counts} {now first : ℕ} → Account c now first → Excess (excess_of c now first) c now first
account_excess a = record { rule = omega arith; wasted = omega arith; arrived = λ none. (omega arith, omega arith) }
