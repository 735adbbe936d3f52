use Rattle.plan.proofs.stack.+gather_discs.Given as goal

-- The discs that are left.
abbrev pub decreases-gather_discs : goal.decreases-gather_discs
decreases-gather_discs l = l.k
