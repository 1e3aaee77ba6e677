use Rattle.std.proofs.Common.{rules, tests}
use Rattle.std.proofs.lemmas.Iterator.Consumers.{YieldsList-from_deque}
use Rattle.std.proofs.lemmas.Iterator.Search.{all_from_yields_List}
use Rattle.pg_seq.specs.Slots.{has_result}
use Rattle.pg_seq.proofs.reorder_buffer.ReorderBuffer.has_all_results.Goals as goal

pub returns : goal.returns
returns g c = all_from_yields_List has_result _ _ _ c.all.ensures.ran (YieldsList-from_deque _ c.iter.ensures.rest)
    (λ x b q k. search (rules, tests))
