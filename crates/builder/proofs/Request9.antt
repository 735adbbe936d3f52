-- Request 9 holds.
use Prim.Native.Nat.{ℕ, ◌-◌, ◌*◌, ◌^◌}
use mathlib.Core.List.{List, [], ◌∷◌, ◌++◌, reverse, reverse-reverse}
use mathlib.Core.Path.{◌≡◌, ◌∙◌, refl, sym, ap}
use native.Mathlib.Omega.{arith}
use lib.ListN.{length, length-append, length-reverse}
use Rattle.board.specs.Position.{peg}
use Rattle.board.specs.Reply.{pass}
use Rattle.board.proofs.Formed.{formed_nil, formed_pegs}
use Rattle.builder.specs.Answer.{add_answer, with_disc, add_leaves, remove_answer, remove_leaves}
use Rattle.builder.specs.Builder.{empty, position_of, Sound}
use Rattle.builder.specs.Changes.{stack_after}
use Rattle.builder.specs.Request9.{length_sum, Holds, Builds, Request9}
use Rattle.builder.specs.declared.record.Builder.{Builder}
use Rattle.builder.proofs.Calls.{add_makes, add_accepted, remove_makes, remove_accepts}
use Rattle.builder.proofs.Gathers.{gathers_none, gathers_at, gather_sum_lem}
use Rattle.builder.proofs.Holding.{holding, holding_sound, gathers_answered, sound_position, sound_discs, sound_lengths, sound_holding, more_sound, holding_with, holding_without}
use Rattle.builder.proofs.Agrees.{Stacked, stack_held, same_replies, same_after, after_stacked}

-- The builder of a stack holds it.
stack_holds : (s : List ℕ) → Stacked s → Holds (stack_held s) s
stack_holds s h =
    record {
      discs = length-reverse s;
      position = refl;
      lengths = gathers_answered (reverse s) h;
      sounds = holding_sound (reverse s) h;
    }

-- So does what any changes leave of it, and they are answered alike.
from : (b : Builder) (s : List ℕ) → b ≡ stack_held s → Stacked s → Builds b s
from b s e h =
    record {
      replies = λ cs. rw e (same_replies cs s h);
      holds = λ cs. rw (e, same_after cs s h) (stack_holds (stack_after s cs) (after_stacked cs s h));
    }

-- The empty builder holds the empty stack.
none_held : empty ≡ stack_held []
none_held = rw gathers_none

none_stacked : Stacked []
none_stacked = record { within = omega arith; formed = formed_nil }

-- A sound builder holds its position as a stack.
onward : (b : Builder) → Sound b → Builds b (reverse (position_of b))
onward b s =
    let twice = reverse-reverse (position_of b) in
    from b (reverse (position_of b)) (rw twice (sound_holding s)) (rw twice (sound_position s))

-- The lengths of a sound builder sum to 2 × (2 ^ n − 1).
sound_sum : (b : Builder) → Sound b → length_sum b ≡ 2 * (2 ^ b.n - 1)
sound_sum b s =
    let p = position_of b in
    let sum = gather_sum_lem (peg p) (formed_pegs p (sound_position s).formed) (length p) in
    let power : 2 ^ length p ≡ 2 ^ b.n = ap (λ (k : ℕ). 2 ^ k) (sound_discs s) in
    rw (sound_lengths s, gathers_at p 0 (omega arith), gathers_at p 1 (omega arith), gathers_at p 2 (omega arith)) (omega arith)

-- A disc added and then removed leaves all as it was.
back : (b : Builder) (j : ℕ) → add_answer b j ≡ pass → (remove_answer (add_leaves b j) ≡ pass) × (remove_leaves (add_leaves b j) ≡ b)
back b j e =
    let p = position_of b in
    let a = add_accepted b j e in
    let discs = sound_discs a.sounds in
    let with = p ++ (j ∷ []) in
    let added : add_leaves b j ≡ holding with =
    add_makes b j e ∙ ap (λ (c : Builder). with_disc c j) (sound_holding a.sounds) ∙ holding_with p j (omega (arith, a.room)) in
    let more = more_sound p j (sound_position a.sounds) (omega (arith, a.room)) a.target in
    let passes : remove_answer (holding with) ≡ pass =
    remove_accepts (holding with) (record { sounds = holding_sound with more; some = omega (arith, length-append p (j ∷ [])) }) in
    let removed : remove_leaves (holding with) ≡ b =
    remove_makes (holding with) passes ∙ holding_without p j a.target (omega (arith, a.room)) ∙ sym (sound_holding a.sounds) in
    rw added (passes, removed)

-- All of it together.
pub request_9 : Request9
request_9 = record { built = from empty [] none_held none_stacked; onward = onward; sum = sound_sum; back = back }
