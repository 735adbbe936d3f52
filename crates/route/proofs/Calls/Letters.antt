-- The letters that Run writes: two a move, and they read as the moves.
use Prim.Native.Nat.{ℕ, zero, suc, ◌*◌, ◌<◌}
use mathlib.Core.List.{List, [], ◌∷◌, map}
use mathlib.Core.Path.{◌≡◌, refl}
use native.Mathlib.Omega.{arith}
use lib.ListN.{length, take, drop}
use Rattle.board.specs.Move.{Leads, next, moved}
use Rattle.route.specs.Answer.{letter, letters}
use Rattle.route.specs.Ours.{read_peg, read_moves}
use Rattle.route.specs.Route.{plain}
use Rattle.route.specs.declared.answer.DiscMove.{DiscMove}

-- Every move is from a peg to a peg.
abbrev pub PegMoves : List DiscMove → Type 0
PegMoves [] = Unit {0}
PegMoves (m ∷ ms) = (m.from < 3) × (m.to < 3) × PegMoves ms

-- Legal moves are such.
pub leads_pegs : {p q : List ℕ} (ms : List DiscMove) → Leads p (map plain ms) q → PegMoves ms
leads_pegs [] w = tt
leads_pegs {p = p} (m ∷ ms) (next l w) = (l.from_peg, l.to_peg, leads_pegs {p = moved p (plain m)} ms w)

-- So are the first of them, and the last.
pub pegs_take : (k : ℕ) (ms : List DiscMove) → PegMoves ms → PegMoves (take k ms)
pegs_take zero ms h = tt
pegs_take (suc k) [] h = tt
pegs_take (suc k) (m ∷ ms) (from, to, h) = (from, to, pegs_take k ms h)

pub pegs_drop : (k : ℕ) (ms : List DiscMove) → PegMoves ms → PegMoves (drop k ms)
pegs_drop zero ms h = h
pegs_drop (suc k) [] h = tt
pegs_drop (suc k) (m ∷ ms) (from, to, h) = pegs_drop k ms h

-- A peg's letter reads as the peg.
letter_read : (i : ℕ) → i < 3 → read_peg (letter i) ≡ i
unfolding read_peg
letter_read zero l = refl
letter_read (suc zero) l = refl
letter_read (suc (suc zero)) l = refl
letter_read (suc (suc (suc i))) l = absurd (omega arith)

-- What is written of a list of moves reads as that list.
pub letters_read : (ms : List DiscMove) → PegMoves ms → read_moves (letters ms) ≡ map plain ms
unfolding read_moves letters
letters_read [] h = refl
letters_read (m ∷ ms) (from, to, h) =
    let reads = letters_read ms h in
    λ i. record { from = letter_read m.from from i; to = letter_read m.to to i } ∷ reads i

-- Two letters a move.
pub letters_length : (ms : List DiscMove) → length (letters ms) ≡ 2 * length ms
unfolding letters
letters_length [] = refl
letters_length (m ∷ ms) = omega (arith, letters_length ms)
