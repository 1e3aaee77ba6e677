use Rattle.pg_pattern.proofs.lengths.+longest_in.Given as goal

abbrev pub decreases-longest_in : goal.decreases-longest_in
decreases-longest_in g l = l.depth
