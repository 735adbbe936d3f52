-- What is put and the moves of the letters that are left are all moves; a pair of letters takes three bytes.
use Rattle.std.proofs.Common.{◌≡◌, ◌+◌, ◌*◌, ◌++◌, length, drop}
use Rattle.text.specs.Inner.Page.{spaced}
use Rattle.text.proofs.report.put_moves.Given as goal

abbrev pub invariant-loop-pair : goal.invariant-loop-pair
invariant-loop-pair l =
    (l.page.items ++ spaced (drop (2 * l.pair-index) l.letters) ≡ l.initial.page.items ++ spaced l.letters)
    × (length l.page.items ≡ length l.initial.page.items + 3 * l.pair-index)
