use Rattle.pg_lines.proofs.search.selected_runs.Goals as goal

pub runs_between_hits-requires-clause-inverted : goal.runs_between_hits-requires-clause-inverted
runs_between_hits-requires-clause-inverted g c = cc

pub runs_of_hits-requires-clause-upright : goal.runs_of_hits-requires-clause-upright
runs_of_hits-requires-clause-upright g c = cc
