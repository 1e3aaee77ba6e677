use Rattle.std.proofs.Common.{◌≡◌, ◌+◌, ◌∙◌, get_or, arith, below_more}
use Rattle.std.proofs.lemmas.List.{get_or_read}
use Rattle.pg_match.proofs.StateSetLemmas.{list_long}
use Rattle.pg_match.proofs.CacheLemmas.{same_list}
use Rattle.pg_match.specs.Views.{members, dfa}
use Rattle.pg_match.proofs.dfa_cache.Cache.is_same.Goals as goal

pub loop-k-preserved : goal.loop-k-preserved
loop-k-preserved g c =
    let table = dfa c.args.self.now in
    let s = members c.args.set.now in
    let row = c.args.row in
    let shape = c.requires.shape in
    let start = get_or_read table.cuts row c.index.result.now
    (omega (arith, shape.cuts_size, shape.few)) c.index.ensures 0 in
    let end = get_or_read table.cuts (row + 1) c.index-2.result.now
    (omega (arith, shape.cuts_size, shape.few)) c.index-2.ensures 0 in
    let up = shape.upto (row + 1) (omega arith) in
    let rm = shape.room in
    let long = list_long s c.requires.good in
    let x = get_or_read table.pool (c.index.result.now + c.loop-k.k) c.index-in-loop-k.result.now
    (omega (arith, shape.pool_size)) c.index-in-loop-k.ensures 0 in
    let y = get_or_read s.order c.loop-k.k c.index-in-loop-k-2.result.now (omega arith) c.index-in-loop-k-2.ensures 0 in
    below_more (λ j. get_or table.pool (c.index.result.now + j) 0 ≡ get_or s.order j 0) _ c.loop-k.invariant
    (omega (arith, x, y, c.if-index.false))

pub returns : goal.returns
returns g c = λ t.
    let table = dfa c.args.self.now in
    let row = c.args.row in
    let shape = c.requires.shape in
    let start = get_or_read table.cuts row c.index.result.now
    (omega (arith, shape.cuts_size, shape.few)) c.index.ensures 0 in
    let end = get_or_read table.cuts (row + 1) c.index-2.result.now
    (omega (arith, shape.cuts_size, shape.few)) c.index-2.ensures 0 in
    same_list table row c.index.result.now (members c.args.set.now) c.requires.good start (c.if-start-set.false ∙ end)
    (λ j lt. c.loop-k.invariant j (omega arith))

pub index-requires : goal.index-requires
index-requires g c = omega arith

pub overflow_add-row : goal.overflow_add-row
overflow_add-row g c = omega arith

pub index-requires-2 : goal.index-requires-2
index-requires-2 g c = omega arith

pub overflow_add-start-in-loop-k : goal.overflow_add-start-in-loop-k
overflow_add-start-in-loop-k g c = omega arith

pub returns-then-start-set : goal.returns-then-start-set
returns-then-start-set g c = λ t. absurd (cc)

pub returns-then-index : goal.returns-then-index
returns-then-index g c = λ t. absurd (cc)

pub loop-k-init : goal.loop-k-init
loop-k-init g c = λ j lt. absurd (omega arith)

pub overflow_add-start : goal.overflow_add-start
overflow_add-start g c = let long = list_long (members c.args.set.now) c.requires.good in omega arith

pub index-requires-in-loop-k : goal.index-requires-in-loop-k
index-requires-in-loop-k g c =
    let table = dfa c.args.self.now in
    let row = c.args.row in
    let shape = c.requires.shape in
    let start = get_or_read table.cuts row c.index.result.now
    (omega (arith, shape.cuts_size, shape.few)) c.index.ensures 0 in
    let end = get_or_read table.cuts (row + 1) c.index-2.result.now
    (omega (arith, shape.cuts_size, shape.few)) c.index-2.ensures 0 in
    let up = shape.upto (row + 1) (omega arith) in
    let rm = shape.room in
    omega (arith, c.if-start-set.false, shape.pool_size)

pub index-requires-in-loop-k-2 : goal.index-requires-in-loop-k-2
index-requires-in-loop-k-2 g c = let long = list_long (members c.args.set.now) c.requires.good in omega arith
