use Rattle.node_link.proofs.way.Way.+turns.Given as goal

abbrev pub decreases-turns : goal.decreases-turns
decreases-turns l = l.left
