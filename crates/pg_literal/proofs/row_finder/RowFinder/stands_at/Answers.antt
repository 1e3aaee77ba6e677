use Rattle.std.proofs.Common.{◌≡◌, ◌+◌, ◌∙◌, true, true≢false, below_more, get_or, sym, ap, arith, refl}
use Rattle.std.proofs.lemmas.List.{length-map}
use Rattle.pg_bytes.specs.ByteSets.{bytes}
use Rattle.pg_bytes.specs.Sets.{empty}
use Rattle.pg_literal.specs.Rows.{row_along}
use Rattle.pg_literal.proofs.FinderLemmas.{each_stands, set_read, stands_each, stands_fits}
use Rattle.pg_literal.proofs.row_finder.RowFinder.stands_at.Goals as goal

pub returns-then-bytes-at : goal.returns-then-bytes-at
returns-then-bytes-at g c = (
  λ t. absurd (cc),
  λ o.
      let sets = c.args.self.now.sets.items in
      absurd (omega (arith, stands_fits c.args.bytes.now (row_along sets) c.args.at o, length-map sets bytes)),
)

pub returns-then-not-contains : goal.returns-then-not-contains
returns-then-not-contains g c = (
  λ t. absurd (cc),
  λ o.
      let sets = c.args.self.now.sets.items in
      let set = c.index.result.now in
      let k = c.loop-k.k in
      let read = set_read sets k set (omega arith) c.index.ensures in
      let h = each_stands c.args.bytes.now (row_along sets) c.args.at k (omega (arith, length-map sets bytes)) o in
      absurd (true≢false (sym h.1
      ∙ (ap (λ s. s (get_or c.args.bytes.now (c.args.at + k) 0)) read ∙ sym c.if-not-contains.ensures))),
)

pub loop-k-preserved : goal.loop-k-preserved
loop-k-preserved g c =
    let sets = c.args.self.now.sets.items in
    let k = c.loop-k.k in
    let bytes = c.args.bytes.now in
    below_more (λ j. get_or (row_along sets) j empty (get_or bytes (c.args.at + j) 0) ≡ true) k c.loop-k.invariant
    (ap (λ s. s (get_or bytes (c.args.at + k) 0)) (set_read sets k c.index.result.now (omega arith) c.index.ensures)
    ∙ sym c.if-not-contains.ensures)

pub returns : goal.returns
returns g c = (
  λ t.
      let sets = c.args.self.now.sets.items in
      let size = length-map sets bytes in
      stands_each c.args.bytes.now (row_along sets) c.args.at (omega (arith, size))
      (λ k less. c.loop-k.invariant k (omega (arith, size))),
  λ o. refl,
)
