-- The builder and the plain stack beside it agree, change by change.
use Prim.Native.Nat.{ℕ, ◌<◌}
use mathlib.Core.Bool.{true}
use mathlib.Core.List.{List, [], ◌∷◌, ◌++◌, reverse, reverse-cons}
use mathlib.Core.Path.{◌≡◌, ◌∙◌, refl, sym, ap}
use native.Mathlib.Omega.{arith}
use borrow.Author.Tests.{eqb-false, ltb-false, ne_eqb}
use lib.Dec.{eqb, ltb}
use lib.ListN.{length, take, length-reverse, length-append}
use lib.Seq.{take-append_seam, get_or-append_seam}
use Rattle.board.specs.Position.{peg, WellFormed}
use Rattle.board.specs.Reply.{refused, answer, Check, pass}
use Rattle.board.specs.Task.{limit}
use Rattle.board.proofs.Formed.{formed_pegs, formed_take}
use Rattle.board.proofs.Replies.{check_passed, check_answered}
use Rattle.board.proofs.Tasks.{SoundPosition}
use Rattle.builder.specs.Answer.{add_answer, builder_or, with_disc, add_leaves, remove_answer, remove_leaves}
use Rattle.builder.specs.Builder.{sound}
use Rattle.builder.specs.Changes.{Change, add, remove, builder_reply, builder_next, builder_replies, builder_after, stack_reply, pushed, stack_next, stack_replies, stack_after}
use Rattle.builder.specs.declared.record.Builder.{Builder}
use Rattle.builder.proofs.Holding.{holding, holding_sound, sound_passes, more_sound, holding_with, holding_without}

-- The discs of a stack can be held: they are few enough, and on pegs.
abbrev pub Stacked : List ℕ → Type 0
Stacked s = SoundPosition (reverse s)

-- The builder that holds a stack.
abbrev pub stack_held : List ℕ → Builder
stack_held s = holding (reverse s)

-- It is sound.
held_passes : (s : List ℕ) → Stacked s → sound (stack_held s) ≡ true
held_passes s h = sound_passes (stack_held s) (holding_sound (reverse s) h)

-- A stack that takes a disc has room for it, and the disc is on a peg.
push_room : (s : List ℕ) (j : ℕ) → Stacked s → stack_reply s (add j) ≡ pass → (length (reverse s) < limit) × (j < 3)
unfolding stack_reply
push_room s j h e =
    let (more, last) = check_answered (eqb (length s) limit) 2 _ e in
    (omega (arith, eqb-false (length s) limit more, length-reverse s, h.within), omega (arith, ltb-false 2 j (check_passed (ltb 2 j) 3 last)))

-- With the disc it can be held too.
push_stacked : (s : List ℕ) (j : ℕ) → Stacked s → length (reverse s) < limit → j < 3 → Stacked (j ∷ s)
push_stacked s j h room target = rw (reverse-cons j s) (more_sound (reverse s) j h room target)

-- A position with a disc more is the position, and the disc is on a peg.
last_formed : (p : List ℕ) (i : ℕ) → WellFormed (p ++ (i ∷ [])) → WellFormed p × (i < 3)
last_formed p i h =
    let whole : take (length p) (p ++ (i ∷ [])) ≡ p = take-append_seam p (i ∷ []) in
    let last : peg (p ++ (i ∷ [])) (length p) ≡ i = get_or-append_seam p i [] 0 in
    (rw whole at (formed_take (length p) (p ++ (i ∷ [])) h), rw last at (formed_pegs (p ++ (i ∷ [])) h (length p)))

-- Without its top disc the stack can be held too, and that disc is on a peg.
pop_stacked : (s : List ℕ) (i : ℕ) → Stacked (i ∷ s) → Stacked s × (length (reverse s) < limit) × (i < 3)
pop_stacked s i h =
    let whole : SoundPosition (reverse s ++ (i ∷ [])) = rw (reverse-cons i s) at h in
    let (formed, target) = last_formed (reverse s) i whole.formed in
    let room : length (reverse s) < limit = omega (arith, whole.within, length-append (reverse s) (i ∷ [])) in
    (record { within = omega arith; formed = formed }, room, target)

-- The builder answers as the stack does.
same_add : (s : List ℕ) → Stacked s → (j : ℕ) → add_answer (stack_held s) j ≡ stack_reply s (add j)
unfolding add_answer stack_reply
same_add s h j = rw (held_passes s h, length-reverse s)

same_remove : (s : List ℕ) → Stacked s → remove_answer (stack_held s) ≡ stack_reply s remove
unfolding remove_answer stack_reply
same_remove [] h = rw (held_passes [] h)
same_remove (i ∷ s) h =
    rw (held_passes (i ∷ s) h, ne_eqb (length (reverse (i ∷ s))) 0 (omega (arith, length-reverse (i ∷ s))))

same_reply : (s : List ℕ) → Stacked s → (c : Change) → builder_reply (stack_held s) c ≡ stack_reply s c
unfolding builder_reply
same_reply s h (add j) = same_add s h j
same_reply s h remove = same_remove s h

-- What a change leaves of the builder holds what it leaves of the stack ..
same_next : (s : List ℕ) → Stacked s → (c : Change) → builder_next (stack_held s) c ≡ stack_held (stack_next s c)
unfolding builder_next stack_next stack_reply add_leaves remove_leaves
same_next s h (add j) = rw (same_add s h j) (by (stack_reply s (add j)) refl)
  where
    by : (v : Check) → stack_reply s (add j) ≡ v → builder_or v (with_disc (stack_held s) j) (stack_held s) ≡ stack_held (pushed v j s)
    by (refused k) e = refl
    by (answer u) e = holding_with (reverse s) j (push_room s j h e).0 ∙ ap holding (sym (reverse-cons j s))
same_next [] h remove = rw (same_remove [] h)
same_next (i ∷ s) h remove =
    let (rest, room, target) = pop_stacked s i h in
    rw (same_remove (i ∷ s) h, reverse-cons i s) (holding_without (reverse s) i target room)

-- .. and the stack can be held after it.
next_stacked : (s : List ℕ) → Stacked s → (c : Change) → Stacked (stack_next s c)
unfolding stack_next
next_stacked s h (add j) = by (stack_reply s (add j)) refl
  where
    by : (v : Check) → stack_reply s (add j) ≡ v → Stacked (pushed v j s)
    by (refused k) e = h
    by (answer u) e = let (room, target) = push_room s j h e in push_stacked s j h room target
next_stacked [] h remove = h
next_stacked (i ∷ s) h remove = (pop_stacked s i h).0

-- Over a list of changes: the answers, and the builder at the end.
pub same_replies : (cs : List Change) (s : List ℕ) → Stacked s → builder_replies (stack_held s) cs ≡ stack_replies s cs
unfolding builder_replies stack_replies
same_replies [] s h = refl
same_replies (c ∷ cs) s h = rw (same_reply s h c, same_next s h c, same_replies cs (stack_next s c) (next_stacked s h c))

pub same_after : (cs : List Change) (s : List ℕ) → Stacked s → builder_after (stack_held s) cs ≡ stack_held (stack_after s cs)
unfolding builder_after stack_after
same_after [] s h = refl
same_after (c ∷ cs) s h = rw (same_next s h c) (same_after cs (stack_next s c) (next_stacked s h c))

pub after_stacked : (cs : List Change) (s : List ℕ) → Stacked s → Stacked (stack_after s cs)
unfolding stack_after
after_stacked [] s h = h
after_stacked (c ∷ cs) s h = after_stacked cs (stack_next s c) (next_stacked s h c)
