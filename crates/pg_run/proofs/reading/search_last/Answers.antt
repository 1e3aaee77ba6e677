use Rattle.std.proofs.lemmas.Result.{MatchResult-weaker}
use Rattle.pg_run.proofs.ReadingLemmas.{last_may, last_breaks, last_searched, none_last}
use Rattle.pg_run.proofs.reading.search_last.Goals as goal

pub search-requires-clause-ready : goal.search-requires-clause-ready
search-requires-clause-ready g c =
    let r = c.requires.last.in_file in
    let h = r.3 in
    (r.0, h.steps, _, (h.holds, last_may h.cuts c.in-Some.block (c.in-Some.ensures.all h.cuts.fed h.cuts.cut)))

pub returns-in-Some : goal.returns-in-Some
returns-in-Some g c = λ aim given h.
    let all = c.in-Some.ensures.all h.cuts.fed h.cuts.cut in
    MatchResult-weaker c.search.result
    (c.search.ensures aim h.steps (h.holds, last_may h.cuts c.in-Some.block all))
    (λ _ k. last_searched h _ c.in-Some.block _ c.args.failed c.requires.last.ended all k.0)
    (λ fault k. last_breaks h c.in-Some.block _ fault c.args.failed c.requires.last.ended all k)

pub returns-in-None : goal.returns-in-None
returns-in-None g c = λ aim given h.
    none_last h c.args.failed c.requires.last.ended (c.in-None.ensures.all h.cuts.fed h.cuts.cut)
