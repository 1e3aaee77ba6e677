use Rattle.std.proofs.Common.{◌++◌, ◌∷◌, [], cond, length, sym, ap, ◌∙◌, length-append}
use Rattle.pg_blocks.specs.Lines.{lines}
use Rattle.pg_rows.proofs.SizeLemmas.{size_terminated}
use Rattle.pg_rows.proofs.rows.size_of_lines.Goals as goal

pub returns-then-is_incomplete : goal.returns-then-is_incomplete
returns-then-is_incomplete c =
    let end = c.args.end in
    let text = c.args.text.now in
    sym (size_terminated end (lines end text) ∙ (ap (λ xs. length xs) (c.is_incomplete.ensures
    ∙ ap (λ t. cond t (text ++ end ∷ []) text) c.if-is_incomplete.true) ∙ length-append text (end ∷ [])))

pub returns-else-is_incomplete : goal.returns-else-is_incomplete
returns-else-is_incomplete c =
    let end = c.args.end in
    let text = c.args.text.now in
    sym (size_terminated end (lines end text) ∙ ap (λ xs. length xs) (c.is_incomplete.ensures
    ∙ ap (λ t. cond t (text ++ end ∷ []) text) c.if-is_incomplete.false))
