-- What the programs print of a move, of the part behind it and of where a position is.
use Rattle.std.specs.Prelude.{ℕ, List, [], ◌∷◌, ◌++◌, codes}
use Rattle.std.specs.Fmt.{decimal}
use Rattle.board.specs.Printed.{peg_text}
use Rattle.route.specs.Part.{part_letter}
use Rattle.route.specs.declared.answer.DiscMove.{DiscMove}
use Rattle.route.specs.declared.answer.Located.{Located}
use Rattle.route.specs.declared.part.Part.{Part}

-- The disc, and the pegs that it leaves and reaches.
abbrev pub move_text : DiscMove → List ℕ
move_text m = codes "disc " ++ decimal m.disc ++ codes " " ++ peg_text m.from ++ peg_text m.to

-- The part's letter.
abbrev pub part_text : Part → List ℕ
part_text a = part_letter a ∷ []

-- The index and the route, each after its name.
abbrev pub located_text : Located → List ℕ
located_text l = codes "index " ++ decimal l.index ++ codes " route " ++ decimal l.route
