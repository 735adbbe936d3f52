-- Each pair is a move that the discs make, or one that ends the walk.
use Prim.Native.Nat.{ℕ, ◌/◌, ◌<◌}
use mathlib.Core.Bool.{false}
use mathlib.Core.List.{List, []}
use mathlib.Core.Path.{◌≡◌, ◌∙◌, sym}
use native.Mathlib.Numerals.{add-one}
use native.Mathlib.Omega.{arith}
use borrow.Author.Tests.{eqb-false}
use lib.Dec.{eqb}
use lib.ListN.{length, get_or}
use Rattle.std.specs.Simd.{first_chunks}
use Rattle.route.specs.Ours.{read_moves}
use Rattle.checker.specs.Inner.Walk.{move_in}
use Rattle.checker.proofs.Pairs.{moves_length}
use Rattle.checker.proofs.Small.{pair_move, pair_entry, pair_byte}
use Rattle.checker.proofs.Walks.{walking_tops, walking_on, walking_stops, walking_ends}
use Rattle.checker.proofs.walking.walk.Goals as goal
use Rattle.checker.proofs.walking.walk.Goals.{else-loop-from-test, then-loop-from-test+then-not-make}

-- Some discs are there.
some_discs : (n : ℕ) → false ≡ eqb n 0 → 0 < n
some_discs n e = let none = eqb-false n 0 (sym e) in omega arith

-- The bytes of pair i of the letters are move i.
entry : (l : List ℕ) {cs : List (List ℕ)} (i : ℕ) → cs ≡ first_chunks 2 (length l / 2) l → i < length l / 2 → ((j : ℕ) → get_or l j 0 < 256)
    → (get_or (get_or cs i []) 0 0 < 256) × (pair_move (get_or (get_or cs i []) 0 0) (get_or (get_or cs i []) 1 0) ≡ move_in (read_moves l) i)
entry l i is h bytes = rw is (pair_byte l (length l / 2) i h (omega arith) bytes, pair_entry l (length l / 2) i h (omega arith))

pub make-requires : goal.make-requires
make-requires c =
    let ends = c.args.task.now.ends in
    walking_tops (some_discs _ c.if-is_empty.ensures) ends.start_formed c.loop-from.invariant.1 ends.within

-- The pair is a move.
pub loop-from-preserved : goal.loop-from-preserved
loop-from-preserved c =
    let few = moves_length c.args.letters.now in
    let front = c.as_chunks.ensures.front_len in
    let (byte, is) = entry c.args.letters.now c.loop-from.from-index c.as_chunks.ensures.front (omega arith) (λ j. omega (arith, (c.type_inv.letters j).fits)) in (
      omega arith,
      rw (c.if-not-make.ensures.after, add-one)
          (walking_on (some_discs _ c.if-is_empty.ensures) c.args.task.now.ends.start_formed c.loop-from.invariant.1 _ _ byte (omega arith) is (sym c.if-not-make.ensures.value)),
    )

-- The walk ends here: no pair is left, or the next one is no legal move.
pub returns : goal.returns
returns c =
    let ends = c.args.task.now.ends in
    let w = c.loop-from.invariant.1 in
    let some = some_discs _ c.if-is_empty.ensures in
    let few = moves_length c.args.letters.now in
    let front = c.as_chunks.ensures.front_len in
    rw c.loop-from.invariant.0
    (elim c.loop-from-test.branch [
      | else-loop-from-test k ↦
          walking_ends some ends.start_formed w _ _ (omega arith) (λ more. absurd (omega (arith, k.loop-from-test.false))) ends.same k.discs-is
          c.stand.ensures
      | then-loop-from-test+then-not-make k ↦
          let (byte, is) = entry c.args.letters.now c.loop-from.from-index c.as_chunks.ensures.front (omega (arith, k.loop-from-test.true)) (λ j. omega (arith, (c.type_inv.letters j).fits)) in
          walking_ends some ends.start_formed w _ _ (omega arith)
          (λ more. walking_stops some ends.start_formed w _ _ byte is (sym k.if-not-make.ensures.value)) ends.same
          (k.discs-is ∙ k.if-not-make.ensures.after) c.stand.ensures
    ])
