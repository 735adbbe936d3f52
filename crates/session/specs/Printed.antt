-- What the programs print of a mark, of the counts and of a report.
use Rattle.std.specs.Prelude.{ℕ, List, ◌++◌, codes}
use Rattle.std.specs.Fmt.{decimal}
use Rattle.session.specs.declared.counting.Counts.{Counts}
use Rattle.session.specs.declared.counting.Figures.{Figures}
use Rattle.session.specs.declared.counting.Mark.{Mark}
use Rattle.session.specs.declared.counting.Mark.TheVariants.{Toward, Level, Away}

-- The mark's word.
abbrev pub mark_text : Mark → List ℕ
mark_text Toward = codes "toward"
mark_text Level = codes "level"
mark_text Away = codes "away"

-- The four counts, each after its name.
abbrev pub counts_text : Counts → List ℕ
counts_text c =
    codes "made " ++ (decimal c.made
    ++ (codes ", toward " ++ (decimal c.toward ++ (codes ", level " ++ (decimal c.level ++ (codes ", away " ++ decimal c.away))))))

-- The counts, what remains and the excess.
abbrev pub figures_text : Figures → List ℕ
figures_text f = counts_text f.counts ++ (codes ", remaining " ++ (decimal f.remaining ++ (codes ", excess " ++ decimal f.excess)))
