-- What Add and Remove answer, and when: demand 1 of them, and the laws for whoever calls them.
use Prim.Native.Nat.{ℕ, ◌<◌}
use mathlib.Core.Bool.{not}
use mathlib.Core.List.{[], ◌∷◌}
use mathlib.Core.Path.{◌≡◌}
use native.Mathlib.Omega.{arith}
use borrow.Author.Tests.{eqb-true, eqb-false, eq-eqb, ne_eqb, ltb-true, ltb-false, lt-ltb, le-ltb, not-false}
use lib.Dec.{eqb, ltb}
use Rattle.board.specs.Fault.{fault, Obeys}
use Rattle.board.specs.Reply.{refused, pass, check}
use Rattle.board.specs.Task.{limit}
use Rattle.board.proofs.Obeys.{negated, check_obeys, then_obeys}
use Rattle.board.proofs.Replies.{check_passed, check_answered}
use Rattle.builder.specs.Answer.{add_answer, with_disc, add_leaves, remove_answer, without_disc, remove_leaves}
use Rattle.builder.specs.Builder.{sound, Sound}
use Rattle.builder.specs.Faults.{add_faults, remove_faults}
use Rattle.builder.specs.Inner.Lengths.{Grows}
use Rattle.builder.specs.declared.record.Builder.{Builder}
use Rattle.builder.proofs.Holding.{passed_sound, sound_passes, sound_exactly, sound_grows}

-- A builder is refused with 10 exactly where it is not sound.
sound_obeys : (b : Builder) → Obeys (fault 10 (¬ Sound b) ∷ []) (check (not (sound b)) 10)
sound_obeys b = check_obeys (not (sound b)) 10 (negated (sound b) (sound_exactly b))

-- Demand 1: Add is refused as its faults say, and never else.
pub add_obeys : (b : Builder) (j : ℕ) → Obeys (add_faults b j) (add_answer b j)
unfolding add_answer
add_obeys b j =
    then_obeys (sound_obeys b)
    (then_obeys (check_obeys (eqb b.n limit) 2 (eqb-true b.n limit, eq-eqb b.n limit))
    (check_obeys (ltb 2 j) 3 (ltb-true 2 j, lt-ltb 2 j)))

-- So is Remove.
pub remove_obeys : (b : Builder) → Obeys (remove_faults b) (remove_answer b)
unfolding remove_answer
remove_obeys b =
    then_obeys (sound_obeys b)
    (check_obeys (eqb b.n 0) 19 (eqb-true b.n 0, eq-eqb b.n 0))

-- Refused, they leave the builder as it stood.
pub add_kept : (b : Builder) (j : ℕ) {k : ℕ} → add_answer b j ≡ refused k → add_leaves b j ≡ b
unfolding add_leaves
add_kept b j e = rw e

pub remove_kept : (b : Builder) {k : ℕ} → remove_answer b ≡ refused k → remove_leaves b ≡ b
unfolding remove_leaves
remove_kept b e = rw e

-- Accepted, they leave it with a disc more, and with one less.
pub add_makes : (b : Builder) (j : ℕ) → add_answer b j ≡ pass → add_leaves b j ≡ with_disc b j
unfolding add_leaves
add_makes b j e = rw e

pub remove_makes : (b : Builder) → remove_answer b ≡ pass → remove_leaves b ≡ without_disc b
unfolding remove_leaves
remove_makes b e = rw e

-- What an accepted addition finds: a sound builder with room for a disc, and a peg.
pub record AddAccepted (b : Builder) (j : ℕ) : Type 0 where
  pub sounds : Sound b
  pub room : b.n < limit
  pub target : j < 3

pub add_accepted : (b : Builder) (j : ℕ) → add_answer b j ≡ pass → AddAccepted b j
unfolding add_answer
add_accepted b j e =
    let (sounds, rest) = check_answered (not (sound b)) 10 _ e in
    let (more, last) = check_answered (eqb b.n limit) 2 _ rest in
    let s = passed_sound b (not-false (sound b) sounds) in
    record {
      sounds = s;
      room = omega (arith, eqb-false b.n limit more, s.few);
      target = omega (arith, ltb-false 2 j (check_passed (ltb 2 j) 3 last));
    }

-- So its lengths leave room for the disc.
pub add_grows : (b : Builder) (j : ℕ) → add_answer b j ≡ pass → Grows b.lengths b.n j
add_grows b j e = let a = add_accepted b j e in sound_grows a.sounds a.room a.target

-- Such an addition is accepted.
pub add_accepts : (b : Builder) (j : ℕ) → AddAccepted b j → add_answer b j ≡ pass
unfolding add_answer
add_accepts b j a =
    rw (sound_passes b a.sounds, ne_eqb b.n limit (omega (arith, a.room)), le-ltb 2 j (omega (arith, a.target)))

-- What an accepted removal finds: a sound builder with a disc.
pub record RemoveAccepted (b : Builder) : Type 0 where
  pub sounds : Sound b
  pub some : 0 < b.n

pub remove_accepted : (b : Builder) → remove_answer b ≡ pass → RemoveAccepted b
unfolding remove_answer
remove_accepted b e =
    let (sounds, last) = check_answered (not (sound b)) 10 _ e in
    record {
      sounds = passed_sound b (not-false (sound b) sounds);
      some = omega (arith, eqb-false b.n 0 (check_passed (eqb b.n 0) 19 last));
    }

-- Such a removal is accepted.
pub remove_accepts : (b : Builder) → RemoveAccepted b → remove_answer b ≡ pass
unfolding remove_answer
remove_accepts b a = rw (sound_passes b a.sounds, ne_eqb b.n 0 (omega (arith, a.some)))
