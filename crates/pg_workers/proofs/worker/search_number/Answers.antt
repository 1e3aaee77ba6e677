use Rattle.std.proofs.Common.{◌<◌, length, sym, subst, arith}
use Rattle.std.proofs.lemmas.Result.{IfOk-weaker}
use Rattle.pg_workers.proofs.ListLemmas.{get_at}
use Rattle.pg_workers.proofs.worker.search_number.Goals as goal

pub bounds-round-number : goal.bounds-round-number
bounds-round-number g c = let h = c.requires.number in let n = c.requires.ready.0 in omega arith

pub search-requires-clause-may : goal.search-requires-clause-may
search-requires-clause-may g c =
    let low : c.args.number < length c.args.round.blocks.now =
    (let h = c.requires.number in let n = c.requires.ready.0 in omega arith) in
    c.requires.ready.1 c.args.number c.index-round-number.result low

pub returns-clause-found : goal.returns-clause-found
returns-clause-found g c =
    let at = c.index-round-number.is in
    IfOk-weaker c.search.result _ _
    (λ found is. (
      c.index-round-number.result,
      get_at c.args.round.blocks.now c.args.number c.index-round-number.result
          (let h = c.requires.number in let n = c.requires.ready.0 in omega arith) (sym at),
      subst (λ block. (g.Q.BlockSearch.seen c.args.round.query.now).finds block found) (sym at) is,
    )) c.search.ensures.found
