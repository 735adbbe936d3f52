-- The test of specs/Reading passes on the texts of specs/Input and on no other, and the positions found in a text are its own.
use Prim.Native.Nat.{ℕ, suc, ◌-◌, ◌<◌}
use mathlib.Core.Path.{◌≡◌, refl, ap₂, ◌∙◌}
use mathlib.Core.Bool.{Bool, true, false, cond, not, and-eq-true_iff, false≢true}
use mathlib.Core.List.{List, [], ◌∷◌, ◌++◌, append-nil}
use native.Mathlib.Omega.{arith}
use borrow.Author.Tests.{ne_eqb, eqb-true, lt-ltb, ltb-true, le-ltb, ltb-false, not-true}
use lib.Dec.{eqb, ltb}
use lib.ListN.{length}
use Rattle.text.specs.Input.{most, newline, space, comma, opening, closing, digit, further_text, line_text, Digits, none, more, Text}
use Rattle.text.specs.Reading.{is_digit, follow, follow_all, is_bracket, lines, is_text, digits, line_end, start_in, goal_in}
use Rattle.text.specs.declared.read.Next.{Next}
use Rattle.text.specs.declared.read.Next.TheVariants.{Bracket, DigitOrEnd, CommaOrEnd, Space, Digit, Newline, Nothing}

-- The byte of a digit passes the test for digits, so that the reader takes it.
digit_is : (d : ℕ) → d < 10 → is_digit (digit d) ≡ true
unfolding is_digit
digit_is d h = rw (lt-ltb 47 (digit d) (omega arith), lt-ltb (digit d) 58 (omega arith))

-- A byte that passes the test for digits is the byte of a digit, so that what the reader takes is one.
passed_digit : (c : ℕ) → is_digit c ≡ true → (c ≡ digit (c - 48)) × (c - 48 < 10)
unfolding is_digit
passed_digit c e =
    let both = (and-eq-true_iff (ltb 47 c) (ltb c 58)).0 e in
    omega (arith, ltb-true 47 c both.0, ltb-true c 58 both.1)

-- What is read in the bytes b: from e on they are what is left of a line, with the digits p in it, and then the bytes r.
record Reads (e : Next) (b p r : List ℕ) : Type 0 where
  follows : follow_all e b ≡ follow_all Bracket r
  count : lines b ≡ suc (lines r)
  first : start_in b ≡ p
  second : goal_in b ≡ digits r
  all : digits b ≡ p ++ digits r

-- The end of a line leaves nothing of it: where the reading of every line begins.
end_reads : (r : List ℕ) → Reads Newline (newline ∷ r) [] r
unfolding follow_all follow is_digit lines digits line_end start_in goal_in
end_reads r = record { follows = refl; count = refl; first = refl; second = refl; all = refl }

-- A byte before it that is no digit and no line's end changes only what may come: for the brackets, the commas and the spaces.
other_reads : (e : Next) (c : ℕ) {b p r : List ℕ} → is_digit c ≡ false → eqb c newline ≡ false → Reads (follow e c) b p r → Reads e (c ∷ b) p r
unfolding follow_all lines digits line_end start_in goal_in
other_reads e c h n x =
    record {
      follows = x.follows;
      count = rw n x.count;
      first = rw (n, h) x.first;
      second = rw n x.second;
      all = rw h x.all;
    }

-- A digit before it, where one may come, is the first of its digits.
digit_reads : (e : Next) {d : ℕ} {b p r : List ℕ} → d < 10 → follow e (digit d) ≡ CommaOrEnd → Reads CommaOrEnd b p r
    → Reads e (digit d ∷ b) (d ∷ p) r
unfolding follow_all lines digits line_end start_in goal_in
digit_reads e {d} h step x =
    let is = digit_is d h in
    let n = ne_eqb (digit d) newline (omega arith) in
    let same : digit d - 48 ≡ d = omega arith in
    record {
      follows = rw (step, follow_all) x.follows;
      count = rw n x.count;
      first = rw (n, is, same, x.first);
      second = rw n x.second;
      all = rw (is, same, x.all);
    }

-- What follows the first digit of a line is read as its digits.
further_reads : {p : List ℕ} → Digits p → (r : List ℕ) → Reads CommaOrEnd (further_text p ++ r) p r
unfolding further_text follow is_digit
further_reads none r = other_reads CommaOrEnd closing refl refl (end_reads r)
further_reads (more {d = d} h ds) r =
    other_reads CommaOrEnd comma refl refl
    (other_reads Space space refl refl (digit_reads Digit h (rw (digit_is d h)) (further_reads ds r)))

-- A line is read as its digits.
line_reads : {p : List ℕ} → Digits p → (r : List ℕ) → Reads Bracket (line_text p ++ r) p r
unfolding line_text follow is_digit
line_reads none r = other_reads Bracket opening refl refl (other_reads DigitOrEnd closing refl refl (end_reads r))
line_reads (more {d = d} h ds) r =
    let step : follow DigitOrEnd (digit d) ≡ CommaOrEnd = rw (ne_eqb (digit d) closing (omega arith), digit_is d h) in
    other_reads Bracket opening refl refl (digit_reads DigitOrEnd h step (further_reads ds r))

-- Every text of two positions passes the test, and the positions found in it are those.
pub text_read : (b s t : List ℕ) → Text b s t → (is_text b ≡ true) × (start_in b ≡ s) × (goal_in b ≡ t)
unfolding is_text lines follow_all digits
text_read b s t x =
    let one : Reads Bracket b s (line_text t) = rw x.lines (line_reads x.start_digits (line_text t)) in
    let two : Reads Bracket (line_text t) t [] = rw append-nil at (line_reads x.goal_digits []) in
    let passes : is_text b ≡ true =
    rw (le-ltb most (length b) x.fits, one.count, two.count, one.follows, two.follows) in
    (passes, one.first, one.second ∙ two.all ∙ append-nil t)

-- The bytes b end well: they lead from e to where a line may begin.
abbrev Ends : Next → List ℕ → Type 0
Ends e b = is_bracket (follow_all e b) ≡ true

-- After a byte that may not come nothing ends well, so that every byte of a text is one that may come.
stuck : (b : List ℕ) → Ends Nothing b → ⊥
unfolding follow_all follow
stuck [] h = false≢true h
stuck (c ∷ b) h = stuck b h

-- Where a test says what may come next, bytes that end well do so as the test says: for the two places where a line may end or go on.
either : {A : Type 0} (t : Bool) (e f : Next) (b : List ℕ) → Ends (cond t e f) b → (t ≡ true → Ends e b → A) → (Ends f b → A) → A
either true e f b h one two = one refl h
either false e f b h one two = two h

-- Where the test is the only way on, it passes: for every other place.
passed : (t : Bool) (e : Next) (b : List ℕ) → Ends (cond t e Nothing) b → (t ≡ true) × Ends e b
passed true e b h = (refl, h)
passed false e b h = absurd (stuck b h)

-- The bytes b begin with a text of digits.
abbrev Begins : (List ℕ → List ℕ) → List ℕ → Type 0
Begins text b = (p r : List ℕ) × Digits p × (b ≡ text p ++ r)

-- Bytes that end well after a closing bracket begin with the line's end.
end_found : (b : List ℕ) → Ends Newline b → (r : List ℕ) × (b ≡ newline ∷ r)
unfolding follow_all follow
end_found [] h = absurd (false≢true h)
end_found (c ∷ r) h = (r, rw (eqb-true c newline (passed (eqb c newline) Bracket r h).0))

-- Bytes that end well after a digit begin with what may follow a digit in a line; so too after a comma, and after its space.
mutual
  unfolding follow_all follow further_text

  further_found : (b : List ℕ) → Ends CommaOrEnd b → Begins further_text b
  further_found [] h = absurd (false≢true h)
  further_found (c ∷ b) h =
      either (eqb c comma) Space _ b h
      (λ e k. rw (eqb-true c comma e) (space_found b k))
      (λ k. let (e, k') = passed (eqb c closing) Newline b k in
      let (r, q) = end_found b k' in
      ([], r, none, ap₂ (λ x y. x ∷ y) (eqb-true c closing e) q))

  space_found : (b : List ℕ) → Ends Space b → Begins further_text (comma ∷ b)
  space_found [] h = absurd (false≢true h)
  space_found (c ∷ b) h = let (e, k) = passed (eqb c space) Digit b h in rw (eqb-true c space e) (digit_found b k)

  digit_found : (b : List ℕ) → Ends Digit b → Begins further_text (comma ∷ space ∷ b)
  digit_found [] h = absurd (false≢true h)
  digit_found (c ∷ b) h =
      let (e, k) = passed (is_digit c) CommaOrEnd b h in
      let (same, small) = passed_digit c e in
      let (p, r, ds, q) = further_found b k in
      ((c - 48) ∷ p, r, more small ds, ap₂ (λ x y. comma ∷ space ∷ x ∷ y) same q)

-- Bytes that end well after an opening bracket begin with the rest of a line.
inside_found : (b : List ℕ) → Ends DigitOrEnd b → Begins line_text (opening ∷ b)
unfolding follow_all follow line_text
inside_found [] h = absurd (false≢true h)
inside_found (c ∷ b) h =
    either (eqb c closing) Newline _ b h
    (λ e k. let (r, q) = end_found b k in ([], r, none, ap₂ (λ x y. opening ∷ x ∷ y) (eqb-true c closing e) q))
    (λ k. let (e, k') = passed (is_digit c) CommaOrEnd b k in
    let (same, small) = passed_digit c e in
    let (p, r, ds, q) = further_found b k' in
    ((c - 48) ∷ p, r, more small ds, ap₂ (λ x y. opening ∷ x ∷ y) same q))

-- Bytes that end well where a line may begin, and are not none, begin with a line and are read as it is.
line_found : (c : ℕ) (b : List ℕ) → Ends Bracket (c ∷ b)
    → (p r : List ℕ) × Digits p × (c ∷ b ≡ line_text p ++ r) × Reads Bracket (c ∷ b) p r
unfolding follow_all follow
line_found c b h =
    let (e, k) = passed (eqb c opening) DigitOrEnd b h in
    let found : Begins line_text (c ∷ b) = rw (eqb-true c opening e) (inside_found b k) in
    let (p, r, ds, q) = found in
    (p, r, ds, q, rw (← q) at (line_reads ds r))

-- Where a line ends in them, the bytes after the line end well too, with one line less: for the first line, and for the second.
next_line : (b : List ℕ) (l : ℕ) → Ends Bracket b → lines b ≡ suc l
    → (p r : List ℕ) × Digits p × (b ≡ line_text p ++ r) × Ends Bracket r × (lines r ≡ l)
unfolding lines
next_line [] l h e = absurd (omega arith)
next_line (c ∷ b) l h e =
    let (p, r, ds, q, x) = line_found c b h in
    (p, r, ds, q, rw x.follows at h, omega (arith, x.count))

-- Where no line ends in them there are none: for what is left after the second line.
no_line : (b : List ℕ) → Ends Bracket b → lines b ≡ 0 → b ≡ []
no_line [] h e = refl
no_line (c ∷ b) h e = let (p, r, ds, q, x) = line_found c b h in absurd (omega (arith, x.count))

-- What passes the test is the text of the positions found in it: there are no other texts.
pub read_text : (b : List ℕ) → is_text b ≡ true → Text b (start_in b) (goal_in b)
unfolding is_text
read_text b h =
    let (fits, rest) = (and-eq-true_iff (not (ltb most (length b))) _).0 h in
    let (two, ends) = (and-eq-true_iff (eqb (lines b) 2) _).0 rest in
    let (s, x, hs, b_s, ends-x, one) = next_line b 1 ends (eqb-true _ _ two) in
    let (t, y, ht, x-t, ends-y, zero) = next_line x 0 ends-x one in
    let text : Text b s t =
    record {
      fits = ltb-false most (length b) (not-true _ fits);
      lines = cc (b_s, x-t, no_line y ends-y zero, append-nil (line_text t));
      start_digits = hs;
      goal_digits = ht;
    } in
    let (_, start, goal) = text_read b s t text in
    rw (start, goal) text
