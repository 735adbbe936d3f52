-- Two sums over all ordered pairs of n discs, and how those of n + 1 discs follow from them: by the pegs of the two largest discs, nine
-- parts each. What is summed compares two numbers; by how much the one is more, and whether they are equal, follow the same steps.
use Prim.Native.Nat.{ℕ, suc, ◌+◌, ◌*◌, ◌^◌, ◌<◌}
use mathlib.Core.List.{List}
use mathlib.Core.Path.{◌≡◌, ◌∙◌}
use native.Mathlib.Nat.{two-pow-succ}
use native.Mathlib.Omega.{arith}
use Rattle.plan.specs.Inner.Three.{Three}
use Rattle.plan.proofs.Three.{three_swap, three_turn, three_flip}
use Rattle.averages.specs.Positions.{IsPosition, with_largest}
use Rattle.averages.proofs.Gathers.{on, on_none, both_on, LengthsWithEach, lengths_with_each}
use Rattle.averages.proofs.Pairs.{both, both_none, both_cong, both_const, both_pegs}

-- φ m k does not change where both numbers are more by as much, and is 0 where m is less. Where, over all pairs, one side is e more than
-- the other, φ is κ e more than with the sides exchanged.
pub record Compares (φ : ℕ → ℕ → ℕ) (κ : ℕ → ℕ) : Type 0 where
  pub shift : (d m k : ℕ) → φ (d + m) (d + k) ≡ φ m k
  pub less : (m k : ℕ) → m < k → φ m k ≡ 0
  pub turn : (n e : ℕ) (f g : List ℕ → List ℕ → ℕ) → both n f ≡ both n g + e
      → both n (λ s t. φ (f s t) (g s t)) ≡ κ e + both n (λ s t. φ (g s t) (f s t))

-- Disc n + 1 goes from a to b, and c is the third peg: the one-move plan compared with the two-move plan, a move less each.
abbrev pub crossing : (ℕ → ℕ → ℕ) → ℕ → ℕ → ℕ → ℕ → ℕ
crossing φ n a b c = both n (λ s t. φ (on c s + on c t) (on b s + on a t + 2 ^ n))

-- The start gathered on a and the goal on b, compared with the start on b and the goal on a.
abbrev pub exchange : (ℕ → ℕ → ℕ) → ℕ → ℕ → ℕ → ℕ
exchange φ n a b = both n (λ s t. φ (on a s + on b t) (on b s + on a t))

-- The part of a sum of n + 1 discs in which the largest disc of the start is on i and that of the goal on j.
abbrev part : (ℕ → ℕ → ℕ) → ℕ → (f g : List ℕ → List ℕ → ℕ) → ℕ → ℕ → ℕ
part φ n f g i j = both n (λ s t. φ (f (with_largest i s) (with_largest j t)) (g (with_largest i s) (with_largest j t)))

-- Whichever the pegs are, these sums are cs and es.
pub record Alike (φ : ℕ → ℕ → ℕ) (n cs es : ℕ) : Type 0 where
  pub crossed : {a b c : ℕ} → Three a b c → crossing φ n a b c ≡ cs
  pub exchanged : {a b c : ℕ} → Three a b c → exchange φ n a b ≡ es

module _ {φ : ℕ → ℕ → ℕ} {κ : ℕ → ℕ} (compares : Compares φ κ) where
  -- Both sides are d more than those of another.
  pub shifted : (d : ℕ) {m k m' k' : ℕ} → m ≡ d + m' → k ≡ d + k' → φ m k ≡ φ m' k'
  shifted d {m' = m'} {k' = k'} e e' = rw (e, e') (compares.shift d m' k')

  -- The first side is always less.
  always_less : (n : ℕ) (f g : List ℕ → List ℕ → ℕ) → ((s t : List ℕ) → IsPosition n s → IsPosition n t → f s t < g s t)
      → both n (λ s t. φ (f s t) (g s t)) ≡ 0
  always_less n f g h =
      both_cong n (λ s t. φ (f s t) (g s t)) (λ s t. 0) (λ s t hs ht. compares.less (f s t) (g s t) (h s t hs ht))
      ∙ omega (arith, both_const n 0)

  -- No discs.
  pub alike_none : Alike φ 0 0 (φ 0 0)
  alike_none =
      record {
        crossed = λ {a} {b} {c} h.
            both_none (λ s t. φ (on c s + on c t) (on b s + on a t + 2 ^ 0))
            ∙ compares.less _ _ (omega (arith, on_none a, on_none b, on_none c));
        exchanged = λ {a} {b} h. both_none (λ s t. φ (on a s + on b t) (on b s + on a t)) ∙ rw (on_none a, on_none b);
      }

  -- A comparison whose first side is d more, turned round.
  turned : (n i j i' j' d : ℕ) → i < 3 → j < 3 → i' < 3 → j' < 3
      → both n (λ s t. φ (on i s + on j t + d) (on i' s + on j' t))
      ≡ κ (9 ^ n * d) + both n (λ s t. φ (on i' s + on j' t) (on i s + on j t + d))
  turned n i j i' j' d hi hj hi' hj' =
      let sides : both n (λ s t. on i' s + on j' t + 0) ≡ both n (λ s t. on i' s + on j' t) =
      both_cong n _ _ (λ s t hs ht. omega arith) in
      compares.turn n (9 ^ n * d) (λ s t. on i s + on j t + d) (λ s t. on i' s + on j' t)
      (omega (arith, both_on n i j d hi hj, both_on n i' j' 0 hi' hj'))

  module _ (n : ℕ) {a b c : ℕ} (h : Three a b c) where
    -- A part in which both sides are d more than those of a comparison of the smaller discs is that comparison ..
    smaller : (f g : List ℕ → List ℕ → ℕ) (i j d : ℕ) (f' g' : List ℕ → List ℕ → ℕ)
        → ((s t : List ℕ) → LengthsWithEach n a b c s → LengthsWithEach n a b c t
        → (f (with_largest i s) (with_largest j t) ≡ d + f' s t) × (g (with_largest i s) (with_largest j t) ≡ d + g' s t))
        → part φ n f g i j ≡ both n (λ s t. φ (f' s t) (g' s t))
    smaller f g i j d f' g' e =
        both_cong n (λ s t. φ (f (with_largest i s) (with_largest j t)) (g (with_largest i s) (with_largest j t))) (λ s t. φ (f' s t) (g' s t))
        (λ s t hs ht. let (m, k) = e s t (lengths_with_each n h s hs) (lengths_with_each n h t ht) in shifted d m k)

    -- .. and one in which the first side is less adds nothing.
    nothing : (f g : List ℕ → List ℕ → ℕ) (i j : ℕ)
        → ((s t : List ℕ) → LengthsWithEach n a b c s → LengthsWithEach n a b c t
        → f (with_largest i s) (with_largest j t) < g (with_largest i s) (with_largest j t))
        → part φ n f g i j ≡ 0
    nothing f g i j e =
        always_less n (λ s t. f (with_largest i s) (with_largest j t)) (λ s t. g (with_largest i s) (with_largest j t))
        (λ s t hs ht. e s t (lengths_with_each n h s hs) (lengths_with_each n h t ht))

  module _ {n cs es : ℕ} (alike : Alike φ n cs es) {a b c : ℕ} (h : Three a b c) where
    -- The crossing of n + 1 discs: of its nine parts, named by the pegs of the start's and the goal's largest disc, two are crossings and
    -- one is an exchange.
    crossed_next : crossing φ (suc n) a b c ≡ 2 * cs + es
    crossed_next =
        let f : List ℕ → List ℕ → ℕ = λ s t. on c s + on c t in
        let g : List ℕ → List ℕ → ℕ = λ s t. on b s + on a t + 2 ^ suc n in
        let double = two-pow-succ n in
        let b_a = smaller n h f g b a (2 ^ suc n) (λ s t. on a s + on b t) (λ s t. on b s + on a t) (λ s t ls lt. omega arith) in
        let b_b = smaller n h f g b b (2 ^ suc n) (λ s t. on a s + on a t) (λ s t. on b s + on c t + 2 ^ n) (λ s t ls lt. omega arith) in
        let a_a = smaller n h f g a a (2 ^ suc n) (λ s t. on b s + on b t) (λ s t. on c s + on a t + 2 ^ n) (λ s t ls lt. omega arith) in
        omega (
          arith,
          both_pegs n (λ s t. φ (f s t) (g s t)) h,
          b_a ∙ alike.exchanged h,
          b_b ∙ alike.crossed (three_swap (three_turn h)),
          a_a ∙ alike.crossed (three_flip h),
          nothing n h f g a b (λ s t ls lt. omega arith),
          nothing n h f g a c (λ s t ls lt. omega arith),
          nothing n h f g b c (λ s t ls lt. omega arith),
          nothing n h f g c a (λ s t ls lt. omega arith),
          nothing n h f g c b (λ s t ls lt. omega arith),
          nothing n h f g c c (λ s t ls lt. omega arith),
        )

    -- The exchange of n + 1 discs: three parts are exchanges, two crossings, two crossings turned round; in one the second side is always
    -- less, and one adds nothing.
    exchanged_next : exchange φ (suc n) a b ≡ 3 * es + 4 * cs + (κ (9 ^ n * (2 * 2 ^ n)) + 2 * κ (9 ^ n * 2 ^ n))
    exchanged_next =
        let f : List ℕ → List ℕ → ℕ = λ s t. on a s + on b t in
        let g : List ℕ → List ℕ → ℕ = λ s t. on b s + on a t in
        let a_a = smaller n h f g a a (2 ^ n) (λ s t. on a s + on c t) (λ s t. on c s + on a t) (λ s t ls lt. omega arith) in
        let b_b = smaller n h f g b b (2 ^ n) (λ s t. on c s + on b t) (λ s t. on b s + on c t) (λ s t ls lt. omega arith) in
        let c_c = smaller n h f g c c (2 * 2 ^ n) (λ s t. on b s + on a t) (λ s t. on a s + on b t) (λ s t ls lt. omega arith) in
        let a_c = smaller n h f g a c (2 ^ n) (λ s t. on a s + on a t) (λ s t. on c s + on b t + 2 ^ n) (λ s t ls lt. omega arith) in
        let c_b = smaller n h f g c b (2 ^ n) (λ s t. on b s + on b t) (λ s t. on a s + on c t + 2 ^ n) (λ s t ls lt. omega arith) in
        let b_c = smaller n h f g b c (2 ^ n) (λ s t. on c s + on a t + 2 ^ n) (λ s t. on b s + on b t) (λ s t ls lt. omega arith) in
        let c_a = smaller n h f g c a (2 ^ n) (λ s t. on b s + on c t + 2 ^ n) (λ s t. on a s + on a t) (λ s t ls lt. omega arith) in
        let b_a = smaller n h f g b a 0 (λ s t. on c s + on c t + 2 * 2 ^ n) (λ s t. on b s + on a t) (λ s t ls lt. omega arith) in
        let never = always_less n (λ s t. on b s + on a t) (λ s t. on c s + on c t + 2 * 2 ^ n)
        (λ s t hs ht. omega (arith, lengths_with_each n h s hs, lengths_with_each n h t ht)) in
        omega (
          arith,
          both_pegs n (λ s t. φ (f s t) (g s t)) h,
          a_a ∙ alike.exchanged (three_flip h),
          b_b ∙ alike.exchanged (three_swap (three_turn h)),
          c_c ∙ alike.exchanged (three_swap h),
          a_c ∙ alike.crossed (three_turn h),
          c_b ∙ alike.crossed (three_turn (three_turn h)),
          b_c ∙ turned n c a b b (2 ^ n) h.third h.first h.second h.second,
          alike.crossed (three_flip h),
          c_a ∙ turned n b c a a (2 ^ n) h.second h.third h.first h.first,
          alike.crossed (three_swap (three_turn h)),
          b_a ∙ turned n c c b a (2 * 2 ^ n) h.third h.third h.second h.first,
          nothing n h f g a b (λ s t ls lt. omega arith),
        )

  -- A disc more, whichever the pegs are.
  pub alike_next : {n cs es : ℕ} → Alike φ n cs es
      → Alike φ (suc n) (2 * cs + es) (3 * es + 4 * cs + (κ (9 ^ n * (2 * 2 ^ n)) + 2 * κ (9 ^ n * 2 ^ n)))
  alike_next alike = record { crossed = λ h. crossed_next alike h; exchanged = λ h. exchanged_next alike h }
