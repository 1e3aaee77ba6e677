use Rattle.std.proofs.Common.{◌∙◌, ◌<◌, ◌≤◌, ◌+◌, length, arith, sym, subst}
use Rattle.std.proofs.lemmas.List.{get_or_read}
use Rattle.std.specs.Prelude.{slice_index}
use Rattle.pg_match.proofs.CacheLemmas.{loading_next, ones_more}
use Rattle.pg_match.specs.Views.{members, dfa}
use Rattle.pg_match.proofs.dfa_cache.Cache.load.Goals as goal

pub fetch-requires-clause-within : goal.fetch-requires-clause-within
fetch-requires-clause-within g c =
    let table = dfa c.args.self.now in
    let row = c.args.row in
    let shape = c.requires.shape in
    let start = get_or_read table.cuts row c.index.result.now
    (omega (arith, shape.cuts_size, shape.few)) c.index.ensures 0 in
    let end = get_or_read table.cuts (row + 1) c.index-2.result.now
    (omega (arith, shape.cuts_size, shape.few)) c.index-2.ensures 0 in
    let up = shape.upto (row + 1) (omega arith) in
    let rm = shape.room in
    let lt : c.loop-k.k < length table.pool = omega (arith, shape.pool_size) in
    let x = get_or_read table.pool c.loop-k.k c.index-in-loop-k.result.now lt c.index-in-loop-k.ensures 0 in
    let w = shape.within row c.index-in-loop-k.result.now c.requires.known
    (c.loop-k.k, omega arith, omega arith, sym x) in
    omega (arith, w, c.loop-k.invariant.loading.size)

pub loop-k-preserved : goal.loop-k-preserved
loop-k-preserved g c =
    let table = dfa c.args.self.now in
    let row = c.args.row in
    let shape = c.requires.shape in
    let start = get_or_read table.cuts row c.index.result.now
    (omega (arith, shape.cuts_size, shape.few)) c.index.ensures 0 in
    let end = get_or_read table.cuts (row + 1) c.index-2.result.now
    (omega (arith, shape.cuts_size, shape.few)) c.index-2.ensures 0 in
    let up = shape.upto (row + 1) (omega arith) in
    let rm = shape.room in
    let lt : c.loop-k.k < length table.pool = omega (arith, shape.pool_size) in
    let x = get_or_read table.pool c.loop-k.k c.index-in-loop-k.result.now lt c.index-in-loop-k.ensures 0 in
    record {
      loading = loading_next table row (members c.args.set.now) (members c.loop-k.set)
          (members c.fetch.new.self) c.loop-k.k c.index-in-loop-k.result.now c.loop-k.invariant.loading
          (omega arith) x c.fetch.ensures.inserted;
      ones = ones_more (members c.loop-k.set) (members c.fetch.new.self) c.index-in-loop-k.result.now
          c.fetch.ensures.inserted c.loop-k.invariant.ones;
      added = c.fetch.ensures.added ∙ c.loop-k.invariant.added;
    }

pub returns-clause-same : goal.returns-clause-same
returns-clause-same g c =
    let table = dfa c.args.self.now in
    let row = c.args.row in
    let shape = c.requires.shape in
    let start = get_or_read table.cuts row c.index.result.now
    (omega (arith, shape.cuts_size, shape.few)) c.index.ensures 0 in
    let end = get_or_read table.cuts (row + 1) c.index-2.result.now
    (omega (arith, shape.cuts_size, shape.few)) c.index-2.ensures 0 in
    let ord = shape.order row c.requires.known in
    let upper : c.loop-k.k ≤ c.index-2.result.now = c.loop-k.auto.k-end (omega arith) in
    let inv = c.loop-k.invariant.loading in
    λ q. (
      λ h. subst (λ v. 0 < slice_index (members c.loop-k.set).marks v) h.3 (inv.all h.0 h.1 (omega (arith, h.1, h.2))),
      λ h. let w = inv.from q h in
          (w.0, w.1, omega (arith, w.2, end, upper), w.3),
    )

pub index-requires : goal.index-requires
index-requires g c = omega arith

pub overflow_add-row : goal.overflow_add-row
overflow_add-row g c = omega arith

pub index-requires-2 : goal.index-requires-2
index-requires-2 g c = omega arith

pub returns-clause-size : goal.returns-clause-size
returns-clause-size g c = omega arith

pub index-requires-in-loop-k : goal.index-requires-in-loop-k
index-requires-in-loop-k g c =
    let table = dfa c.args.self.now in
    let row = c.args.row in
    let shape = c.requires.shape in
    let start = get_or_read table.cuts row c.index.result.now
    (omega (arith, shape.cuts_size, shape.few)) c.index.ensures 0 in
    let end = get_or_read table.cuts (row + 1) c.index-2.result.now
    (omega (arith, shape.cuts_size, shape.few)) c.index-2.ensures 0 in
    let up = shape.upto (row + 1) (omega arith) in
    let rm = shape.room in
    omega (arith, shape.pool_size)

pub loop-k-init : goal.loop-k-init
loop-k-init g c =
    let table = dfa c.args.self.now in
    let row = c.args.row in
    let shape = c.requires.shape in
    let start = get_or_read table.cuts row c.index.result.now
    (omega (arith, shape.cuts_size, shape.few)) c.index.ensures 0 in
    record {
      loading = record {
        good = c.clear.ensures.good;
        size = omega arith;
        from = λ q h. let z = c.clear.ensures.empty.1 q in
            absurd (omega arith);
        all = λ j ge lt. absurd (omega (arith, start));
      };
      ones = λ q. omega (arith, c.clear.ensures.empty.1 q);
      added = c.clear.ensures.added;
    }
