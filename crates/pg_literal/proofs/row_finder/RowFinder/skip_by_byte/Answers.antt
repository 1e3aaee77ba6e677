use Rattle.std.proofs.Common.{◌+◌, ap, arith, length, length-drop}
use Rattle.std.proofs.lemmas.List.{take_rest}
use Rattle.pg_literal.specs.Rows.{row_along}
use Rattle.pg_literal.proofs.FinderLemmas.{only_elsewhere}
use Rattle.pg_literal.proofs.row_finder.RowFinder.skip_by_byte.Goals as goal

pub returns-in-Some : goal.returns-in-Some
returns-in-Some g c =
    let bytes = c.args.bytes.now in
    let start = c.args.at + c.args.only.offset in
    let rest = take_rest bytes start in
    let high = c.in-Some.ensures.0.high in
    record {
      within = omega (arith, high, ap length rest, length-drop start bytes);
      candidate = λ yes. omega (arith, high, ap length rest, length-drop start bytes);
      none = λ k less.
          only_elsewhere bytes (row_along c.args.self.now.sets.items) c.args.only c.args.at k _ c.requires.only rest
          (c.in-Some.ensures.0.before k (omega arith) less);
      some = λ no. cc;
    }

pub returns-in-None : goal.returns-in-None
returns-in-None g c =
    let bytes = c.args.bytes.now in
    let start = c.args.at + c.args.only.offset in
    let rest = take_rest bytes start in
    record {
      within = omega (arith, ap length rest, length-drop start bytes);
      candidate = λ yes. cc;
      none = λ k less.
          only_elsewhere bytes (row_along c.args.self.now.sets.items) c.args.only c.args.at k _ c.requires.only rest
          (c.in-None.ensures k (omega arith) less);
      some = λ no. omega (arith, c.requires.within, ap length rest, length-drop start bytes);
    }
