use Rattle.std.proofs.Common.{◌≡◌, arith}
use Rattle.std.proofs.lemmas.Grind.{common_steps}
use Rattle.pg_literal.specs.Literals.{as_searched}
use Rattle.pg_prefilter.proofs.NeedleSetLemmas.{if_some}
use Rattle.pg_lines.proofs.search.search_bytes.Goals as goal

pub search_by-requires-clause-set_searched : goal.search_by-requires-clause-set_searched
search_by-requires-clause-set_searched g c =
    let lowered : c.deref.result.now ≡ as_searched c.args.query.now.text.fold c.args.bytes.now =
    grind (arith, common_steps) in
    if_some _ c.literal_set-set.result lowered

pub search_by-requires-clause-heads : goal.search_by-requires-clause-heads
search_by-requires-clause-heads g c = c.literals-literals.ensures.heads _ c.prefilter-found.ensures

pub search_by-requires-clause-literals : goal.search_by-requires-clause-literals
search_by-requires-clause-literals g c = c.literals-literals.ensures.literals _ c.prefilter-found.ensures

pub search_by-requires-clause-set : goal.search_by-requires-clause-set
search_by-requires-clause-set g c = c.literal_set-set.ensures _ c.prefilter-found.ensures

pub search_by-requires-else-text-clause-heads : goal.search_by-requires-else-text-clause-heads
search_by-requires-else-text-clause-heads g c = c.literals-literals.ensures.heads _ c.prefilter-found.ensures

pub search_by-requires-else-text-clause-literals : goal.search_by-requires-else-text-clause-literals
search_by-requires-else-text-clause-literals g c = c.literals-literals.ensures.literals _ c.prefilter-found.ensures

pub search_by-requires-else-text-clause-set : goal.search_by-requires-else-text-clause-set
search_by-requires-else-text-clause-set g c = c.literal_set-set.ensures _ c.prefilter-found.ensures
