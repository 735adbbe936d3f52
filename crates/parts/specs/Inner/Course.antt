-- Where the spreading of a course begins, and the parts of its stretches.
use Rattle.std.specs.Prelude.{ℕ, ◌+◌, List, [], ◌∷◌, ◌++◌, replicate}
use Rattle.route.specs.Inner.Stage.{shift_of, second_of}
use Rattle.route.specs.declared.course.Course.{Course}
use Rattle.route.specs.declared.part.Part.{Part}

-- The moves before it: the gathering, the first crossing, and on a detour the shift and the second crossing.
abbrev pub spreads_from : Course → ℕ
spreads_from c = c.first + 1 + shift_of c + second_of c

-- The part of each move of stretches, each of one part and so many moves.
unfoldable pub counted_parts : List (Part × ℕ) → List Part
counted_parts [] = []
counted_parts (a ∷ rest) = replicate a.1 a.0 ++ counted_parts rest
