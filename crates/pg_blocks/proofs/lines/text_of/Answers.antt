use Rattle.std.proofs.Common.{◌≡◌, ◌==◌, ◌<◌, ◌-◌, cond, length, take, get_or, ap, ◌∙◌, arith}
use Rattle.std.proofs.lemmas.List.{get_or_default}
use Rattle.pg_blocks.proofs.CountLemmas.{text_is, no_line, one_if}
use Rattle.pg_blocks.proofs.lines.text_of.Goals as goal

pub returns-in-Some-clause-text : goal.returns-in-Some-clause-text
returns-in-Some-clause-text c = λ text one.
    let end = c.args.end in
    let line = c.args.line.now in
    let item = c.in-Some.ensures.item in
    let some : 0 < length line = item.3.0 in
    let last = item.1 ∙ get_or_default line (length line - 1) c.in-Some.field-0.now 0 (omega (arith, some)) in
    let ended : c.from.result ≡ cond (get_or line (length line - 1) 0 == end) 1 0 =
    c.from.ensures ∙ (one_if (c.in-Some.field-0.now == end) ∙ ap (λ b. cond (b == end) 1 0) last) in
    ap (λ n. take (length line - n) line) ended ∙ text_is end line text some one

pub returns-in-None-clause-text : goal.returns-in-None-clause-text
returns-in-None-clause-text c = λ text one.
    let none = c.in-None.ensures.item.3 in
    absurd (no_line c.args.end c.args.line.now text (omega (arith, none)) one)
