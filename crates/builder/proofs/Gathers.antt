-- Laws of the three gather lengths: what the largest disc adds to them, and that they go back without it.
use Prim.Native.Nat.{ℕ, zero, suc, ◌+◌, ◌-◌, ◌*◌, ◌%◌, ◌^◌, ◌≤◌, ◌<◌}
use mathlib.Core.List.{List, [], ◌∷◌, ◌++◌}
use mathlib.Core.Logic.{◌≢◌}
use mathlib.Core.Path.{◌≡◌, ◌∙◌, refl, sym, ap}
use native.Mathlib.Omega.{arith}
use borrow.Author.Tests.{ne_eqb}
use lib.ListN.{length, get_or, set, take, length-append, length-take}
use lib.Seq.{length-take-le, take-suc, get_or-append_seam}
use Rattle.board.specs.Peg.{third}
use Rattle.board.specs.Position.{peg, WellFormed}
use Rattle.board.specs.Task.{limit}
use Rattle.board.proofs.Formed.{formed_pegs, formed_take}
use Rattle.board.proofs.Pegs.{third_peg}
use Rattle.plan.specs.Gather.{gather}
use Rattle.plan.proofs.Gathering.{Pegs, gather_append, gather_bound}
use Rattle.builder.specs.Inner.Lengths.{Grows}
use Rattle.builder.specs.Lengths.{gathers, share, lengths_with, lengths_without}
use Rattle.builder.proofs.EachPeg.{each, alike, agree, each_at}

-- The length of a position for target i is Gather's.
pub gathers_at : (p : List ℕ) (i : ℕ) → i < 3 → get_or (gathers p) i 0 ≡ gather (peg p) (length p) i
unfolding gathers
gathers_at p i h = each_at (gather (peg p) (length p)) i h

-- No discs take no moves.
pub gathers_none : gathers [] ≡ 0 ∷ 0 ∷ 0 ∷ []
unfolding gathers gather
gathers_none = refl

-- A disc more, on j, has its share in each length.
pub gathers_with : (p : List ℕ) (j : ℕ) → gathers (p ++ (j ∷ [])) ≡ lengths_with (gathers p) (length p) j
unfolding gathers lengths_with gather
gathers_with p j = cc (at 0 (omega arith), at 1 (omega arith), at 2 (omega arith))
  where
    more : length (p ++ (j ∷ [])) ≡ suc (length p)
    more = omega (arith, length-append p (j ∷ []))

    at : (i : ℕ) → i < 3 → gather (peg (p ++ (j ∷ []))) (length (p ++ (j ∷ []))) i ≡ share (length p) j i + get_or (gathers p) (third i j) 0
    at i h =
        rw (
          more,
          get_or-append_seam p j [] 0,
          gather_append p (j ∷ []) (length p) (third i j) (omega arith),
          gathers_at p (third i j) (third_peg i j h),
        )

-- So it is with the next disc of an array.
pub gathers_next : (a : List ℕ) (d : ℕ) → d < length a → gathers (take (suc d) a) ≡ lengths_with (gathers (take d a)) d (peg a d)
gathers_next a d h =
    let size : length (take d a) ≡ d = length-take-le d a (omega arith) in
    rw (take-suc a d 0 h) (gathers_with (take d a) (peg a d) ∙ ap (λ (k : ℕ). lengths_with (gathers (take d a)) k (peg a d)) size)

-- Lengths with a disc more go back to what they were.
pub without_with : (d j : ℕ) → j < 3 → (l : List ℕ) → length l ≡ 3 → lengths_without (lengths_with l d j) d j ≡ l
unfolding lengths_without lengths_with third
without_with d =
    agree (λ j l. lengths_without (lengths_with l d j) d j) (λ j l. l)
    (λ a b c. alike (omega arith) (omega arith) (omega arith))
    (λ a b c. alike (omega arith) (omega arith) (omega arith))
    (λ a b c. alike (omega arith) (omega arith) (omega arith))

-- Two lengths exchanged, those of the pegs other than j, each changed by f.
abbrev pub exchanged : (ℕ → ℕ) → ℕ → List ℕ → List ℕ
exchanged f j l = set (set l ((j + 1) % 3) (f (get_or l ((j + 2) % 3) 0))) ((j + 2) % 3) (f (get_or l ((j + 1) % 3) 0))

-- Exchanged and 2 ^ d more, they are those with disc d + 1 on j.
pub exchanged_with : (d far : ℕ) → far ≡ 2 ^ d → (j : ℕ) → j < 3 → (l : List ℕ) → length l ≡ 3
    → exchanged (λ k. k + far) j l ≡ lengths_with l d j
unfolding lengths_with third
exchanged_with d far e =
    agree (exchanged (λ k. k + far)) (λ j l. lengths_with l d j)
    (λ a b c. alike (omega arith) (omega arith) (omega arith))
    (λ a b c. alike (omega arith) (omega arith) (omega arith))
    (λ a b c. alike (omega arith) (omega arith) (omega arith))

-- And 2 ^ d less, those without it.
pub exchanged_without : (d far : ℕ) → far ≡ 2 ^ d → (j : ℕ) → j < 3 → (l : List ℕ) → length l ≡ 3
    → exchanged (λ k. k - far) j l ≡ lengths_without l d j
unfolding lengths_without third
exchanged_without d far e =
    agree (exchanged (λ k. k - far)) (λ j l. lengths_without l d j)
    (λ a b c. alike (omega arith) (omega arith) (omega arith))
    (λ a b c. alike (omega arith) (omega arith) (omega arith))
    (λ a b c. alike (omega arith) (omega arith) (omega arith))

-- Each length is below 2 ^ n.
pub gathers_small : (p : List ℕ) → WellFormed p → (i : ℕ) → i < 3 → get_or (gathers p) i 0 < 2 ^ length p
gathers_small p formed i h = rw (gathers_at p i h) (gather_bound (peg p) (formed_pegs p formed) (length p) i h)

-- So the lengths of the first d of at most `limit` discs leave room for the next.
pub next_grows : (a : List ℕ) (n d : ℕ) {l : List ℕ} → n ≤ limit → WellFormed (take n a) → d < length (take n a)
    → l ≡ gathers (take d (take n a)) → Grows l d (peg (take n a) d)
next_grows a n d few formed h e =
    let p = take n a in
    let size : length (take d p) ≡ d = length-take-le d p (omega arith) in
    record {
      within = omega (arith, length-take n a);
      target = formed_pegs p formed d;
      small = λ i h. rw e (rw size at (gathers_small (take d p) (formed_take d p formed) i h));
    }

-- A disc that is not on the target has 2 ^ d moves in its length.
pub with_large : (l : List ℕ) (d j i : ℕ) → i < 3 → i ≢ j → 2 ^ d ≤ get_or (lengths_with l d j) i 0
unfolding lengths_with
with_large l d j i h n =
    rw (each_at (λ i. share d j i + get_or l (third i j) 0) i h, ne_eqb j i (λ e. n (sym e))) (omega arith)

-- The three lengths of k discs sum to 2 × (2 ^ k − 1).
pub gather_sum_lem : (p : ℕ → ℕ) → Pegs p → (k : ℕ) → gather p k 0 + gather p k 1 + gather p k 2 + 2 ≡ 2 * 2 ^ k
unfolding gather third
gather_sum_lem p hp zero = refl
gather_sum_lem p hp (suc k) =
    each (λ j. p k ≡ j → gather p (suc k) 0 + gather p (suc k) 1 + gather p (suc k) 2 + 2 ≡ 2 * 2 ^ suc k)
    (λ e. rw e (omega (arith, gather_sum_lem p hp k)))
    (λ e. rw e (omega (arith, gather_sum_lem p hp k)))
    (λ e. rw e (omega (arith, gather_sum_lem p hp k)))
    (p k) (hp k) refl
