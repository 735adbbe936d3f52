-- Sound builders are those that hold a position: the test passes exactly there, and a disc more or less is one in the position.
use Prim.Native.Nat.{ℕ, suc, ◌+◌, ◌-◌, ◌≤◌, ◌<◌}
use mathlib.Core.Bool.{true, and-eq-true_iff}
use mathlib.Core.List.{List, [], ◌∷◌, ◌++◌}
use mathlib.Core.Logic.{◌↔◌}
use mathlib.Core.Path.{◌≡◌, ◌∙◌, refl, sym, ap}
use native.Mathlib.Omega.{arith}
use borrow.Author.Tests.{eqb-true, eq-eqb, leb-true, le-leb, lt-ltb, le-ltb}
use lib.Dec.{eqb, leb}
use lib.ListN.{length, get_or, set, take, replicate, length-append, length-take, length-replicate}
use lib.Seq.{append_snoc, ext_get_or, set_at, get_or_at, length-take-le}
use Rattle.board.specs.Held.{padded, holds_position, HoldsPosition}
use Rattle.board.specs.Position.{peg}
use Rattle.board.specs.Reply.{answer}
use Rattle.board.specs.Task.{limit, position_check}
use Rattle.board.proofs.Arrays.{padded_take, padded_holds, holds_exactly, held_formed, held_padded}
use Rattle.board.proofs.Formed.{formed_nil, formed_cons, formed_append}
use Rattle.board.proofs.Replies.{answer_same}
use Rattle.board.proofs.Search.{same_sound, same_refl}
use Rattle.board.proofs.Tasks.{SoundPosition}
use Rattle.plan.specs.Answer.{gather_answer}
use Rattle.builder.specs.Answer.{with_disc, without_disc}
use Rattle.builder.specs.Builder.{position_of, sound, Sound}
use Rattle.builder.specs.Inner.Lengths.{Grows, Shrinks}
use Rattle.builder.specs.Lengths.{gathers, lengths_with, lengths_without}
use Rattle.builder.specs.declared.record.Builder.{Builder}
use Rattle.builder.proofs.Gathers.{gathers_at, gathers_with, gathers_next, without_with, gathers_small, with_large}

-- Gather answers the lengths of a position.
pub gathers_answered : (p : List ℕ) → SoundPosition p → (i : ℕ) → i < 3 → gather_answer p i ≡ answer (get_or (gathers p) i 0)
unfolding gather_answer position_check
gathers_answered p s i h =
    rw (le-ltb limit (length p) s.within, s.formed, lt-ltb i 3 h) (ap answer (sym (gathers_at p i h)))

-- There are three of them.
pub gathers_three : (p : List ℕ) → length (gathers p) ≡ 3
unfolding gathers
gathers_three p = refl

-- The builder that holds a position.
abbrev pub holding : List ℕ → Builder
holding p = record { n = length p; position = padded p; lengths = gathers p }

-- It is sound.
pub holding_sound : (p : List ℕ) → SoundPosition p → Sound (holding p)
holding_sound p s =
    record {
      sized = omega (arith, length-append p (replicate (limit - length p) 0), length-replicate {A = ℕ} (limit - length p) 0, s.within);
      three = gathers_three p;
      few = s.within;
      holds = padded_holds p (length p) refl s.formed;
      own = λ i h. rw (padded_take p (length p) refl) (gathers_answered p s i h);
    }

-- What an array holds is a position within the limits.
held_position : (n : ℕ) (a : List ℕ) → n ≤ limit → HoldsPosition n a → SoundPosition (take n a)
held_position n a few h = record { within = omega (arith, length-take n a); formed = held_formed n a h }

-- So a sound builder holds one ..
pub sound_position : {b : Builder} → Sound b → SoundPosition (position_of b)
sound_position {b} s = held_position b.n b.position s.few s.holds

-- .. of n discs ..
pub sound_discs : {b : Builder} → Sound b → length (position_of b) ≡ b.n
sound_discs {b} s = length-take-le b.n b.position (omega (arith, s.few, s.sized))

-- .. and its three lengths.
pub sound_lengths : {b : Builder} → Sound b → b.lengths ≡ gathers (position_of b)
sound_lengths {b} s =
    ext_get_or 0 b.lengths (gathers (position_of b)) (s.three ∙ sym (gathers_three (position_of b)))
    (λ i l. answer_same (sym (s.own i (omega (arith, s.three))) ∙ gathers_answered (position_of b) (sound_position s) i (omega (arith, s.three))))

-- So it is the one that holds its position.
pub sound_holding : {b : Builder} → Sound b → b ≡ holding (position_of b)
sound_holding {b} s =
    let discs = sound_discs s in
    let array = held_padded b.n b.position s.few s.sized s.holds in
    let lengths = sound_lengths s in
    λ i. record { n = sym discs i; position = array i; lengths = lengths i }

-- What passes the test is sound.
pub passed_sound : (b : Builder) → sound b ≡ true → Sound b
unfolding sound
passed_sound b e =
    let (size, e₁) = (and-eq-true_iff (eqb (length b.position) limit) _).0 e in
    let (few, e₂) = (and-eq-true_iff (leb b.n limit) _).0 e₁ in
    let (holds, lengths) = (and-eq-true_iff (holds_position b.n b.position) _).0 e₂ in
    let within = leb-true b.n limit few in
    let held = (holds_exactly b.n b.position).0 holds in
    let same = same_sound b.lengths (gathers (position_of b)) lengths in
    record {
      sized = eqb-true _ _ size;
      three = ap length same ∙ gathers_three (position_of b);
      few = within;
      holds = held;
      own = λ i h. rw same (gathers_answered (position_of b) (held_position b.n b.position within held) i h);
    }

-- What is sound passes the test.
pub sound_passes : (b : Builder) → Sound b → sound b ≡ true
unfolding sound
sound_passes b s =
    rw (
      eq-eqb _ _ s.sized,
      le-leb _ _ s.few,
      (holds_exactly b.n b.position).1 s.holds,
      sound_lengths s,
    )
    (same_refl (gathers (position_of b)))

pub sound_exactly : (b : Builder) → (sound b ≡ true) ↔ Sound b
sound_exactly b = (passed_sound b, sound_passes b)

-- Where there is room for a disc, the first unused byte is 0.
next_unused : (p : List ℕ) → length p < limit → padded p ≡ p ++ (0 ∷ replicate (limit - suc (length p)) 0)
next_unused p h = let more : limit - length p ≡ suc (limit - suc (length p)) = omega arith in rw more

-- A disc more in the array.
padded_more : (p : List ℕ) (j : ℕ) → length p < limit → padded (p ++ (j ∷ [])) ≡ p ++ (j ∷ replicate (limit - suc (length p)) 0)
padded_more p j h =
    let more : length (p ++ (j ∷ [])) ≡ suc (length p) = omega (arith, length-append p (j ∷ [])) in
    rw more (append_snoc p j (replicate (limit - suc (length p)) 0))

-- A position with room takes a disc on any peg.
pub more_sound : (p : List ℕ) (j : ℕ) → SoundPosition p → length p < limit → j < 3 → SoundPosition (p ++ (j ∷ []))
more_sound p j s h hj =
    record {
      within = omega (arith, length-append p (j ∷ []));
      formed = formed_append p (j ∷ []) s.formed (formed_cons j [] hj formed_nil);
    }

-- A disc more in the builder is one in its position.
pub holding_with : (p : List ℕ) (j : ℕ) → length p < limit → with_disc (holding p) j ≡ holding (p ++ (j ∷ []))
unfolding with_disc
holding_with p j h =
    let more : length p + 1 ≡ length (p ++ (j ∷ [])) = omega (arith, length-append p (j ∷ [])) in
    let array : set (padded p) (length p) j ≡ padded (p ++ (j ∷ [])) =
    rw (next_unused p h, set_at p 0 (replicate (limit - suc (length p)) 0) j (length p) refl) (sym (padded_more p j h)) in
    λ i. record { n = more i; position = array i; lengths = sym (gathers_with p j) i }

-- A disc less is one less in its position.
pub holding_without : (p : List ℕ) (j : ℕ) → j < 3 → length p < limit → without_disc (holding (p ++ (j ∷ []))) ≡ holding p
unfolding without_disc
holding_without p j hj h =
    let less : length (p ++ (j ∷ [])) - 1 ≡ length p = omega (arith, length-append p (j ∷ [])) in
    let array : set (padded (p ++ (j ∷ []))) (length p) 0 ≡ padded p =
    rw (padded_more p j h, set_at p j (replicate (limit - suc (length p)) 0) 0 (length p) refl) (sym (next_unused p h)) in
    let at : peg (padded (p ++ (j ∷ []))) (length p) ≡ j =
    rw (padded_more p j h) (get_or_at p j (replicate (limit - suc (length p)) 0) 0 (length p) refl) in
    let lengths : lengths_without (gathers (p ++ (j ∷ []))) (length p) j ≡ gathers p =
    rw (gathers_with p j) (without_with (length p) j hj (gathers p) (gathers_three p)) in
    rw (less, at) (λ i. record { n = length p; position = array i; lengths = lengths i })

-- The lengths of a sound builder that is not full leave room for a disc.
pub sound_grows : {b : Builder} → Sound b → {j : ℕ} → b.n < limit → j < 3 → Grows b.lengths b.n j
sound_grows {b} s more hj =
    let small = gathers_small (position_of b) (sound_position s).formed in
    record {
      within = more;
      target = hj;
      small = λ i h. rw (sound_lengths s) (rw (sound_discs s) at (small i h));
    }

-- Those of one that is not empty have its largest disc among them.
pub sound_shrinks : {b : Builder} → Sound b → (d : ℕ) → b.n ≡ suc d → Shrinks b.lengths d (peg b.position d)
sound_shrinks {b} s d e =
    let inside : d < length b.position = omega (arith, s.few, s.sized) in
    let whole : gathers (position_of b) ≡ lengths_with (gathers (take d b.position)) d (peg b.position d) =
    rw e (gathers_next b.position d inside) in
    record {
      within = omega (arith, s.few);
      target = omega (arith, s.holds.used d (omega arith));
      large = λ i h n. rw (sound_lengths s, whole) (with_large (gathers (take d b.position)) d (peg b.position d) i h n);
    }
