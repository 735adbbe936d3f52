-- What the programs print of the totals.
use Rattle.std.specs.Prelude.{ℕ, List, ◌++◌, codes}
use Rattle.std.specs.Fmt.{decimal}
use Rattle.averages.specs.declared.answer.Totals.{Totals}

-- The two numbers, each after its name.
abbrev pub totals_text : Totals → List ℕ
totals_text t = codes "sum " ++ (decimal t.sum ++ (codes ", ties " ++ decimal t.ties))
