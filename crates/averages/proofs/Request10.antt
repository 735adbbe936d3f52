-- Request 10 holds.
use Prim.Native.Nat.{ℕ, ◌^◌, ◌≤◌}
use mathlib.Core.List.{List, Perm, perm_ext_iff_of_Nodup}
use mathlib.Core.Path.{◌≡◌, ◌∙◌, sym}
use native.Mathlib.Omega.{arith}
use borrow.Author.Tests.{lt-ltb}
use lib.ListN.{length}
use Rattle.board.specs.Fewest.{fewest}
use Rattle.board.specs.Reply.{answer}
use Rattle.averages.specs.Answer.{totals_limit, totals_of, totals_answer}
use Rattle.averages.specs.Hinz.{u, v, x, y, sum_by, ties_by}
use Rattle.averages.specs.Positions.{pairs}
use Rattle.averages.specs.Request10.{Lists, Request10, Recurrences, GivenTotals}
use Rattle.averages.specs.Totals.{fewest_sum, tie_of, tie_count}
use Rattle.averages.proofs.Calls.{totals_accepts}
use Rattle.averages.proofs.FewestSum.{sum_hinz, saved_less}
use Rattle.averages.proofs.TermsFit.{terms_fit}
use Rattle.averages.proofs.Listing.{pairs_listed}
use Rattle.averages.proofs.Pairs.{sum_pairs, both_const}
use Rattle.averages.proofs.Powers.{two_more, below_eighteen, wholes}
use Rattle.averages.proofs.Sums.{sum_ones, sum_perm}
use Rattle.averages.proofs.TieCount.{ties_hinz}
use Rattle.averages.proofs.TiedPairs.{tied_pairs, ties_listed, ties_kept}

-- Two lists of the same pairs, each once, differ in their order alone.
lists_perm : {n : ℕ} {P : List ℕ → List ℕ → Type 0} {l m : List (List ℕ × List ℕ)} → Lists n P l → Lists n P m → Perm l m
lists_perm a b =
    (perm_ext_iff_of_Nodup a.once b.once).1
    (λ (p, q). ((λ h. (b.all p q).1 ((a.all p q).0 h)), λ h. (a.all p q).1 ((b.all p q).0 h)))

-- There are 9 ^ n pairs.
pairs_many : (n : ℕ) → length (pairs n) ≡ 9 ^ n
pairs_many n = omega (arith, sum_ones (pairs n), sum_pairs n (λ c. 1), both_const n 1)

-- What holds of every n.
pub recurrences : (n : ℕ) → Recurrences n
unfolding fewest_sum tie_count
recurrences n =
    record {
      listed = pairs_listed n;
      many = pairs_many n;
      sum = λ l h. sum_perm (λ c. fewest c.0 c.1) (lists_perm h (pairs_listed n)) ∙ sum_hinz n;
      ties = λ l h. sum_perm (λ c. tie_of c.0 c.1) (lists_perm h (pairs_listed n)) ∙ ties_hinz n;
      whole = wholes n;
      above = omega (arith, saved_less n, below_eighteen n, two_more n);
    }

-- What holds of every answer; up to 15 discs there is one.
pub request_10 : (n : ℕ) → n ≤ 15 → Request10 n
unfolding fewest_sum
request_10 n few =
    let tied = ties_listed n (omega arith) in
    record {
      totals = totals_of n;
      answered = totals_accepts n few;
      sum = λ l h. sum_perm (λ c. fewest c.0 c.1) (lists_perm (pairs_listed n) h);
      ties = λ l h. ties_kept n ∙ sym (sum_ones (tied_pairs n)) ∙ sum_perm (λ c. 1) (lists_perm tied h) ∙ sum_ones l;
      tied = (tied_pairs n, tied);
      hinz = recurrences n;
      by_hinz = (sum_hinz n, ties_hinz n);
      fits = λ k h. terms_fit k (omega arith);
    }

-- The figures that are given are those of the recurrences.
totals_by : (n : ℕ) → n ≤ totals_limit → totals_answer n ≡ answer (record { sum = sum_by n; ties = ties_by n })
totals_by n h = totals_accepts n h ∙ rw (sum_hinz n, ties_hinz n)

pub given_totals : GivenTotals
unfolding sum_by ties_by u v x y
given_totals =
    record {
      none = totals_by 0 (omega arith);
      one = totals_by 1 (omega arith);
      two = totals_by 2 (omega arith);
      three = totals_by 3 (omega arith);
      four = totals_by 4 (omega arith);
      fifteen = totals_by 15 (omega arith);
      larger = λ n h. unfold totals_answer in rw (lt-ltb totals_limit n h);
    }
