-- What the programs print of a refusal and of a peg.
use Rattle.std.specs.Prelude.{ℕ, List, [], ◌∷◌, ◌+◌, ◌++◌, codes, cond, ltb}
use Rattle.std.specs.Fmt.{decimal}
use Rattle.board.specs.Refusal.{number}
use Rattle.board.specs.declared.refusal.Refusal.{Refusal}

-- The word and the documents' number.
abbrev pub refusal_text : Refusal → List ℕ
refusal_text why = codes "refused " ++ decimal (number why)

-- A peg's letter, or the number of a byte that is no peg.
abbrev pub peg_text : ℕ → List ℕ
peg_text p = cond (ltb p 3) ((65 + p) ∷ []) (decimal p)
