use Rattle.std.proofs.Common.{ℕ, ◌+◌, ◌∙◌, List, drop, get_or, nat_lt, refl, ap, subst}
use Rattle.std.proofs.lemmas.List.{drop_all}
use Rattle.pg_rows.specs.Output.{when}
use Rattle.pg_base.specs.Sink.{WritesAll, WritesPart}
use Rattle.pg_rows.specs.Stretch.{part_row, rows_of_parts, no_part}
use Rattle.pg_rows.proofs.RowLemmas.{parts_more}
use Rattle.pg_base.proofs.WriteLemmas.{writes_part, left_less, left_none, left_part, left_whole}
use Rattle.pg_rows.proofs.rows.write_parts.Goals as goal

pub returns-in_err-write_part-clause-same : goal.returns-in_err-write_part-clause-same
returns-in_err-write_part-clause-same g c = c.in_err-write_part.ensures.same ∙ c.loop-part.invariant.prefix

pub returns-in_err-write_part-clause-writes : goal.returns-in_err-write_part-clause-writes
returns-in_err-write_part-clause-writes g c =
    let a = c.args in
    let at = a.lines in
    let k = c.loop-part.part-index in
    let parts = a.parts.now in
    let rows = rows_of_parts a.format.now a.end a.prefix.now at.first.number at.first.offset at.count a.bytes.now in
    let p = get_or parts k no_part in
    let text = λ (name : List ℕ). when (nat_lt p.line at.count)
    (part_row a.format.now a.end name at.first.number at.first.offset a.bytes.now p) in
    let before = g.W.Sink.stream a.out.now in
    let middle = g.W.Sink.stream c.loop-part.out in
    let after = g.W.Sink.stream c.write_part.new.out in
    let P : List ℕ → Type 0 = λ name. WritesPart (text name) middle after in
    writes_part (rows parts) before after c.from_residual.result c.from_residual.ensures.0
    (left_part (rows parts) (rows (drop k parts)) (rows (drop (k + 1) parts)) (text a.prefix.now) before middle after
    (parts_more a.format.now a.end a.prefix.now at.first.number at.first.offset at.count a.bytes.now parts k no_part
    c.loop-part-test.true)
    (subst P c.loop-part.invariant.prefix c.in_err-write_part.ensures.writes.err) c.loop-part.invariant.left)

pub loop-part-preserved : goal.loop-part-preserved
loop-part-preserved g c =
    let a = c.args in
    let at = a.lines in
    let k = c.loop-part.part-index in
    let parts = a.parts.now in
    let rows = rows_of_parts a.format.now a.end a.prefix.now at.first.number at.first.offset at.count a.bytes.now in
    let p = get_or parts k no_part in
    let text = λ (name : List ℕ). when (nat_lt p.line at.count)
    (part_row a.format.now a.end name at.first.number at.first.offset a.bytes.now p) in
    let before = g.W.Sink.stream a.out.now in
    let middle = g.W.Sink.stream c.loop-part.out in
    let after = g.W.Sink.stream c.write_part.new.out in
    let P : List ℕ → Type 0 = λ name. WritesAll (text name) middle after in
    record {
      prefix = c.in_ok-write_part.ensures.same ∙ c.loop-part.invariant.prefix;
      left = left_less (rows parts) (rows (drop k parts)) (rows (drop (k + 1) parts)) (text a.prefix.now) before middle
          after (parts_more a.format.now a.end a.prefix.now at.first.number at.first.offset at.count a.bytes.now parts k
          no_part
          c.loop-part-test.true) (subst P c.loop-part.invariant.prefix c.in_ok-write_part.ensures.writes.ok)
          c.loop-part.invariant.left;
    }

pub loop-part-init : goal.loop-part-init
loop-part-init g c =
    let a = c.args in
    let at = a.lines in
    record {
      prefix = refl;
      left =
          left_whole (rows_of_parts a.format.now a.end a.prefix.now at.first.number at.first.offset at.count a.bytes.now
          a.parts.now)
          (g.W.Sink.stream a.out.now);
    }

pub returns-clause-writes : goal.returns-clause-writes
returns-clause-writes g c =
    let a = c.args in
    let at = a.lines in
    let k = c.loop-part.part-index in
    let rows = rows_of_parts a.format.now a.end a.prefix.now at.first.number at.first.offset at.count a.bytes.now in
    record {
      ok = left_none (rows a.parts.now) (rows (drop k a.parts.now)) (g.W.Sink.stream a.out.now)
          (g.W.Sink.stream c.loop-part.out) (ap rows (drop_all k a.parts.now c.loop-part-test.false))
          c.loop-part.invariant.left;
      err = tt;
    }
