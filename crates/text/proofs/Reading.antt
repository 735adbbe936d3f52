-- The readings of specs/Reading in std's words, and one step of the loop that puts digits.
use Rattle.std.proofs.Common.{◌≡◌, ℕ, suc, ◌+◌, ◌-◌, ◌≤◌, ◌<◌, Bool, true, false, cond, eqb, ltb, List, [], ◌∷◌, ◌++◌, Some, None, length, get_or, drop, fold, count_by, refl, arith, append_assoc, append-nil}
use native.Mathlib.Numerals.{add-one}
use mathlib.Core.Logic.{◌≢◌}
use borrow.Author.Tests.{eq-eqb, ne_eqb}
use lib.ListN.{drop_of_length-le}
use lib.Seq.{drop-cons}
use Rattle.std.specs.List.{position}
use Rattle.std.specs.Option.{unwrap_or}
use Rattle.std.proofs.lemmas.Bool.Decides.{nat_tests}
use Rattle.std.proofs.lemmas.List.{at_drop_more, at_drop_all}
use Rattle.std.proofs.lemmas.List.Recursion.{is_count_by, is_position_or_len}
use Rattle.std.proofs.lemmas.List.Sums.{prefix_len-le-length}
use Rattle.text.specs.Input.{newline}
use Rattle.text.specs.Reading.{is_digit, follow, follow_all, lines, digits, line_end, is_text}
use Rattle.text.specs.declared.read.Next.{Next}

-- What may come next is followed from byte to byte.
pub follow_fold : (e : Next) (b : List ℕ) → follow_all e b ≡ fold follow e b
unfolding follow_all
follow_fold e [] = refl
follow_fold e (c ∷ b) = follow_fold (follow e c) b

-- As many lines end as there are newlines.
pub lines_count : (b : List ℕ) → lines b ≡ count_by (λ c. eqb c newline) b
unfolding lines
lines_count b =
    is_count_by lines (λ c. eqb c newline) refl (λ c b. let e : 1 + lines b ≡ suc (lines b) = omega arith in rw e) b

-- No line ends in no bytes.
pub lines_none : (b : List ℕ) (i : ℕ) → length b ≤ i → lines (drop i b) ≡ 0
unfolding lines
lines_none b i h = rw (drop_of_length-le b h)

-- A text has at most 512 bytes: so its digits have room.
pub text_fits : (b : List ℕ) → is_text b ≡ true → length b ≤ 512
unfolding is_text
text_fits b h = grind (arith, nat_tests)

-- A place in a list is found, and its end is the place of what is not.
found_or_end : (i n : ℕ) → i ≤ n → i ≡ unwrap_or (cond (ltb i n) (Some i) None) n
found_or_end i n h = grind (arith, nat_tests)

-- The first line ends at the first newline.
pub end_position : (b : List ℕ) → line_end b ≡ unwrap_or (position (λ c. eqb c newline) b) (length b)
unfolding line_end
end_position b =
    rw (is_position_or_len line_end (λ c. eqb c newline) refl (λ c b. let e : 1 + line_end b ≡ suc (line_end b) = omega arith in rw e) b)
    (found_or_end _ _ (prefix_len-le-length _ b))

-- It ends where the next byte is a newline.
pub end_here : (b : List ℕ) (i : ℕ) → i < length b → get_or b i 0 ≡ newline → line_end (drop i b) ≡ 0
unfolding line_end
end_here b i h e = rw (drop-cons b i 0 h, eq-eqb _ _ e)

-- Where it is another, it ends later.
pub end_past : (b : List ℕ) (i : ℕ) → i < length b → get_or b i 0 ≢ newline → line_end (drop i b) ≡ suc (line_end (drop (i + 1) b))
unfolding line_end
end_past b i h n = rw (add-one, drop-cons b i 0 h, ne_eqb _ _ n)

-- No line ends in no bytes: where they end.
pub end_none : (b : List ℕ) (i : ℕ) → length b ≤ i → line_end (drop i b) ≡ 0
unfolding line_end
end_none b i h = rw (drop_of_length-le b h)

-- The digit at i comes before those of the bytes after it ...
pub digits_here : (front b : List ℕ) (i : ℕ) → i < length b → is_digit (get_or b i 0) ≡ true
    → (front ++ (get_or b i 0 - 48) ∷ []) ++ digits (drop (i + 1) b) ≡ front ++ digits (drop i b)
unfolding digits
digits_here front b i h e = rw (append_assoc, at_drop_more digits b i 0 h, e)

-- ... another byte is passed over ...
pub digits_past : (front b : List ℕ) (i : ℕ) → i < length b → is_digit (get_or b i 0) ≡ false
    → front ++ digits (drop (i + 1) b) ≡ front ++ digits (drop i b)
unfolding digits
digits_past front b i h e = rw (at_drop_more digits b i 0 h, e)

-- ... and none is left after the last byte.
pub digits_none : (front b : List ℕ) (i : ℕ) → length b ≤ i → front ++ digits (drop i b) ≡ front
unfolding digits
digits_none front b i h = rw (at_drop_all digits b i h) (append-nil front)

-- There are no more digits than bytes: so those of both lines have room.
pub digits_few : (b : List ℕ) → length (digits b) ≤ length b
unfolding digits
digits_few [] = omega arith
digits_few (c ∷ b) = at (is_digit c) (digits_few b)
  where
    at : (t : Bool) → length (digits b) ≤ length b → length (cond t ((c - 48) ∷ digits b) (digits b)) ≤ suc (length b)
    at true h = omega arith
    at false h = omega arith
