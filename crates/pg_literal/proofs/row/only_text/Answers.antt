use Rattle.std.proofs.Common.{reverse, ◌∷◌, [], arith}
use Rattle.pg_literal.proofs.RowLemmas.{only_grows, product_all, fixed_alone, fixed_grows, fixed_whole}
use Rattle.pg_literal.proofs.row.only_text.Goals as goal

pub returns-in_default-clause-fixed : goal.returns-in_default-clause-fixed
returns-in_default-clause-fixed g c = λ text is.
    c.in_default.ensures _
    (fixed_alone c.args.fold c.args.row.now c.loop-set.set-index _ c.loop-set-test.true text is)

pub loop-set-preserved : goal.loop-set-preserved
loop-set-preserved g c =
    let row = c.args.row.now in
    let i = c.loop-set.set-index in
    let old = c.loop-set.text.items in
    let new = c.push.new.self.items in
    record {
      product = only_grows c.args.fold row i _ c.loop-set-test.true old new c.in-Some.byte c.in-Some.ensures
          c.in_ok-push.ensures.items c.loop-set.invariant.product;
      fixed = λ text is.
          fixed_grows c.args.fold row i _ c.loop-set-test.true text is old new c.in-Some.byte c.in-Some.ensures
          c.in_ok-push.ensures.items (c.loop-set.invariant.fixed text is);
    }

pub returns-clause-product : goal.returns-clause-product
returns-clause-product g c =
    product_all c.args.fold c.args.row.now c.loop-set.set-index (reverse c.loop-set.text.items ∷ []) (omega arith)
    c.loop-set.invariant.product

pub returns-clause-fixed : goal.returns-clause-fixed
returns-clause-fixed g c = λ text is.
    fixed_whole c.args.fold c.args.row.now text c.loop-set.text.items c.loop-set.set-index is (omega arith)
    (c.loop-set.invariant.fixed text is)
