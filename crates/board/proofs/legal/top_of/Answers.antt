-- The place of the first disc that is on the peg.
use Rattle.std.proofs.Common.{◌≡◌, ◌≢◌, refl, arith, rules, tests}
use Rattle.std.proofs.lemmas.Iterator.{YieldsList-from_slice, IsFirst-from_position, index_from_first}
use Rattle.board.specs.Move.{top}
use Rattle.board.proofs.Top.{top_here, top_there}
use Rattle.board.proofs.legal.top_of.Goals as goal

pub returns : goal.returns
unfolding top
returns c =
    let p = c.args.position.now in
    let j = c.args.peg in
    let first = IsFirst-from_position _ _ _ (λ b. b ≡ j) (λ b. b ≢ j) c.position.ensures.ran (YieldsList-from_slice p cc) (λ x q k. search (rules, tests)) (λ x q k. search (rules, tests)) in
    let place = index_from_first (λ p. top p j) (λ b. b ≡ j) (λ b. b ≢ j) refl (λ b p. top_here p) (λ b p n. omega (arith, top_there p n)) p _ first in
    cc
