use Rattle.std.proofs.Common.{◌∷◌, [], ◌++◌, cond, sym, ap, ◌∙◌}
use Rattle.pg_blocks.specs.Lines.{lines, terminated}
use Rattle.pg_base.proofs.SinkLemmas.{takes_longer}
use Rattle.pg_rows.proofs.TextLemmas.{begins_completed}
use Rattle.pg_base.proofs.WriteLemmas.{writes_part, writes_then, writes_as}
use Rattle.pg_rows.proofs.rows.write_bare_lines.Goals as goal

pub returns-in_err-write_all : goal.returns-in_err-write_all
returns-in_err-write_all g c =
    let text = c.args.text.now in
    let w = c.in_err-write_all.ensures.writes.err in
    writes_part (terminated c.args.end (lines c.args.end text)) _ _ c.from_residual.result c.from_residual.ensures.0
    (record { part = takes_longer text _ _ _ w.part (begins_completed c.args.end text); failure = w.failure })

pub returns-then-is_incomplete : goal.returns-then-is_incomplete
returns-then-is_incomplete g c =
    let text = c.args.text.now in
    let more = text ++ c.args.end ∷ [] in
    writes_as more (terminated c.args.end (lines c.args.end text)) _ _ _
    (sym (c.is_incomplete.ensures ∙ ap (λ t. cond t more text) c.if-is_incomplete.true))
    (writes_then text (c.args.end ∷ []) _ _ _ _ c.in_ok-write_all.ensures.writes.ok
    c.write_all-then-is_incomplete.ensures.writes)

pub returns-else-is_incomplete : goal.returns-else-is_incomplete
returns-else-is_incomplete g c =
    let text = c.args.text.now in
    let more = text ++ c.args.end ∷ [] in
    writes_as text (terminated c.args.end (lines c.args.end text)) _ _ _
    (sym (c.is_incomplete.ensures ∙ ap (λ t. cond t more text) c.if-is_incomplete.false))
    (record { ok = c.in_ok-write_all.ensures.writes.ok; err = tt })
