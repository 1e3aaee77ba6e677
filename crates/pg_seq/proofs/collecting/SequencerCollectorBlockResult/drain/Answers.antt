use Rattle.std.proofs.Common.{rules}
use Rattle.pg_selection.specs.Search.{terminator}
use Rattle.pg_plan.specs.History.{plan}
use Rattle.pg_plan.proofs.BeginLemmas.{handed_safe, shape_of}
use Rattle.pg_seq.proofs.collecting.SequencerCollectorBlockResult.drain.Goals as goal

pub returns-clause-safe : goal.returns-clause-safe
returns-clause-safe g c = λ past st. handed_safe past st.room (shape_of (terminator past.query) (plan past) st.lawful)

pub returns-clause-drained : goal.returns-clause-drained
returns-clause-drained g c = search rules
