use Rattle.round_eval.proofs.hints.Hints.+search_below.Given as goal

abbrev pub decreases-search_below : goal.decreases-search_below
decreases-search_below l = l.levels
