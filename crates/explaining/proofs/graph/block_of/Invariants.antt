use Rattle.explaining.proofs.graph.block_of.Given as goal

abbrev pub decreases-loop-at : goal.decreases-loop-at
decreases-loop-at l = l.at
