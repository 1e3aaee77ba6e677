use Rattle.pg_pattern.proofs.lengths.+nearest_end_in.Given as goal

abbrev pub decreases-nearest_end_in : goal.decreases-nearest_end_in
decreases-nearest_end_in g l = l.depth
