use Rattle.std.proofs.Common.{◌≡◌, ◌==◌, ◌<◌, ◌+◌, ◌-◌, not, cond, length, get_or}
use Rattle.std.proofs.Common.{ap, ◌∙◌, arith}
use Rattle.std.proofs.lemmas.List.{get_or_default}
use Rattle.pg_blocks.specs.Lines.{lines}
use Rattle.pg_blocks.proofs.CountLemmas.{ends_in, counted_by_last, counted_none, few_lines, one_if}
use Rattle.pg_blocks.proofs.lines.count_lines.Goals as goal

pub returns-in-Some-clause-count : goal.returns-in-Some-clause-count
returns-in-Some-clause-count c =
    let end = c.args.end in
    let bytes = c.args.bytes.now in
    let item = c.in-Some.ensures.item in
    let some : 0 < length bytes = item.3.0 in
    let last = item.1 ∙ get_or_default bytes (length bytes - 1) c.in-Some.field-0.now 0 (omega (arith, some)) in
    let counted : c.count_byte-count.result ≡ ends_in end bytes = c.count_byte-count.ensures in
    let open_line : c.from.result ≡ cond (not (get_or bytes (length bytes - 1) 0 == end)) 1 0 =
    c.from.ensures ∙ (one_if (not (c.in-Some.field-0.now == end)) ∙ ap (λ b. cond (not (b == end)) 1 0) last) in
    omega (arith, counted, open_line, counted_by_last end bytes some)

pub returns-in-Some-clause-few : goal.returns-in-Some-clause-few
returns-in-Some-clause-few c =
    let count : c.count_byte-count.result + c.from.result ≡ length (lines c.args.end c.args.bytes.now) =
    returns-in-Some-clause-count c in
    omega (arith, count, few_lines c.args.end c.args.bytes.now)

pub returns-in-None-clause-count : goal.returns-in-None-clause-count
returns-in-None-clause-count c =
    let none = c.in-None.ensures.item.3 in
    c.count_byte-count.ensures ∙ counted_none c.args.end c.args.bytes.now (omega (arith, none))
