-- What the programs print of a plan.
use Rattle.std.specs.Prelude.{ℕ, List, ◌++◌, codes}
use Rattle.std.specs.Fmt.{decimal}
use Rattle.plan.specs.Plan.{shortest, routes}
use Rattle.plan.specs.declared.answer.Lengths.{Lengths}
use Rattle.plan.specs.declared.answer.Plan.{Plan}
use Rattle.plan.specs.declared.answer.Way.{Way}
use Rattle.plan.specs.declared.answer.Way.TheVariants.{Still, Direct, Detour, Tie}

-- The two lengths, each after its name.
abbrev pub lengths_text : Lengths → List ℕ
lengths_text l = codes "direct " ++ decimal l.direct ++ codes " detour " ++ decimal l.detour

-- A way's word, and its lengths where a disc moves.
abbrev pub way_text : Way → List ℕ
way_text Still = codes "still"
way_text (Direct l) = codes "direct: " ++ lengths_text l
way_text (Detour l) = codes "detour: " ++ lengths_text l
way_text (Tie l) = codes "tie: " ++ lengths_text l

-- The way, the fewest moves and how many routes have them.
abbrev pub plan_text : Plan → List ℕ
plan_text p = way_text p.way ++ codes " shortest " ++ decimal (shortest p) ++ codes " routes " ++ decimal (routes p)
