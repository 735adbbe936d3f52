-- Stretches are written one after another: in the buffer are their letters from an index on, as many as fit.
use Prim.Native.Nat.{ℕ, ◌+◌, ◌-◌, ◌≤◌, ◌<◌, min}
use mathlib.Core.List.{List, [], ◌∷◌, ◌++◌, map, map-append, append_assoc, append-nil}
use mathlib.Core.Path.{◌≡◌, ◌∙◌, refl, sym, ap}
use native.Mathlib.Decide.{dec_lt}
use native.Mathlib.Omega.{arith}
use borrow.Rule.Slice.PartMut.{put_mid, mid_of, mid_len}
use lib.ListN.{length, take, drop, replicate, get_or, length-append, length-map, length-take, length-drop, length-replicate, take-append-drop}
use lib.Seq.{take_at, drop_at, drop-drop, take_all}
use Rattle.std.proofs.lemmas.List.{take_more}
use Rattle.board.proofs.Lists.{take_append, drop_append, take_replicate, drop_replicate, map_replicate}
use Rattle.route.specs.Part.{part_letter}
use Rattle.route.specs.declared.part.Part.{Part}
use Rattle.route.specs.declared.part.Part.TheVariants.{Gather}
use Rattle.parts.specs.Inner.Course.{counted_parts}

-- The parts of two lists of stretches are those of the one, and then those of the other.
counted_append : (xs ys : List (Part × ℕ)) → counted_parts (xs ++ ys) ≡ counted_parts xs ++ counted_parts ys
unfolding counted_parts
counted_append [] ys = refl
counted_append (x ∷ xs) ys =
    rw (counted_append xs ys) (sym (append_assoc (replicate x.1 x.0) (counted_parts xs) (counted_parts ys)))

module _ (stretches : List (Part × ℕ)) (i : ℕ) (there : i < length stretches) where
  -- With one more of them come as many of its part as it has moves.
  pub counted_more : let next = get_or stretches i (Gather, 0) in
      counted_parts (take (i + 1) stretches) ≡ counted_parts (take i stretches) ++ replicate next.1 next.0
  unfolding counted_parts
  counted_more =
      let next = get_or stretches i (Gather, 0) in
      rw (take_more stretches i (Gather, 0) there, counted_append (take i stretches) (next ∷ []), append-nil (replicate next.1 next.0))

  -- They are no more than those of all.
  pub counted_bound : length (counted_parts (take i stretches)) + (get_or stretches i (Gather, 0)).1 ≤ length (counted_parts stretches)
  counted_bound =
      let next = get_or stretches i (Gather, 0) in
      let before = take (i + 1) stretches in
      let behind = drop (i + 1) stretches in
      omega (
        arith,
        simp (length-append, length-replicate) at (ap length counted_more),
        ap (λ (l : List (Part × ℕ)). length (counted_parts l)) (take-append-drop (i + 1) stretches),
        simp length-append at (ap length (counted_append before behind)),
      )

-- Of parts that end at an index, so many letters are written: those from the first on, as many as fit. Other bytes are as they stood.
pub record Written (first : ℕ) (out₀ : List ℕ) (parts : List Part) (end written : ℕ) (out : List ℕ) : Type 0 where
  pub ends : end ≡ length parts
  pub count : written ≡ min (end - first) (length out₀)
  pub letters : out ≡ map part_letter (take written (drop first parts)) ++ drop written out₀

-- At first there are none.
pub written_none : (first : ℕ) (out : List ℕ) → Written first out [] 0 0 out
written_none first out = record { ends = refl; count = omega arith; letters = refl }

-- What lies past the end of a list is not taken.
take_past : (m n : ℕ) (parts : List Part) → m ≤ n → (m < n → length parts ≤ m) → take n parts ≡ take m parts
take_past m n parts l past =
    elim (dec_lt m n) [
      | yes more ↦ take_all n parts (omega (arith, past more)) ∙ sym (take_all m parts (past more))
      | no none ↦ let same : n ≡ m = omega arith in rw same
    ]

module _ {first : ℕ} {out₀ : List ℕ} {parts : List Part} {end written : ℕ} {out : List ℕ} (h : Written first out₀ parts end written out) where
  -- The letters written are as many as are counted.
  written_length : length (map part_letter (take written (drop first parts))) ≡ written
  written_length = simp (length-map, length-take, length-drop) (omega (arith, h.ends, h.count))

  -- The buffer keeps its size.
  pub written_size : length out ≡ length out₀
  written_size =
      omega (arith, simp (length-append, length-drop) at (ap length h.letters), written_length, h.count)

  module _ (part : Part) (count : ℕ) {reached : ℕ} (reach : reached ≡ min (end + count - first) (length out)) where
    written_up : written ≤ reached
    written_up = omega (arith, h.count, written_size)

    -- Of one stretch more so many letters are written as still fit.
    more_letters : map part_letter (take reached (drop first (parts ++ replicate count part)))
        ≡ map part_letter (take written (drop first parts)) ++ replicate (reached - written) (part_letter part)
    more_letters =
        let before = drop first parts in
        let size = length-drop first parts in
        let moves = count - (first - length parts) in
        let fit : min (reached - length before) moves ≡ reached - written = omega (arith, size, h.ends, h.count, written_size) in
        rw (
          drop_append first parts (replicate count part),
          drop_replicate (first - length parts) count part,
          take_append reached before (replicate moves part),
          take_replicate (reached - length before) moves part,
          fit,
          take_past written reached before written_up (λ more. omega (arith, size, h.ends, h.count, written_size)),
          map-append part_letter (take written before) (replicate (reached - written) part),
          map_replicate part_letter (reached - written) part,
        )

    -- So they are once these are filled in behind the others.
    pub written_more : {letter : ℕ} {filled : List ℕ} → letter ≡ part_letter part → filled ≡ replicate (length (mid_of written (reached - written) out)) letter
        → Written first out₀ (parts ++ replicate count part) (end + count) reached (put_mid written (reached - written) out filled)
    written_more letter filled =
        let letters = map part_letter (take written (drop first parts)) in
        let up : written + (reached - written) ≡ reached = omega (arith, written_up) in
        record {
          ends = omega (arith, h.ends, length-append parts (replicate count part), length-replicate count part);
          count = omega (arith, written_size);
          letters =
              rw (
                h.letters,
                take_at letters (drop written out₀) written written_length,
                drop_at letters (drop written out₀) written written_length,
                drop-drop (reached - written) written out₀,
                up,
                more_letters,
                filled,
                mid_len written reached out (omega arith),
                letter,
              )
              (sym (append_assoc letters (replicate (reached - written) (part_letter part)) (drop reached out₀)));
        }
