-- How many moves more the lists may have.
use Rattle.search.proofs.pairs.Pair.+compare_lists_from.Given as goal

abbrev pub decreases-compare_lists_from : goal.decreases-compare_lists_from
decreases-compare_lists_from l = l.more
