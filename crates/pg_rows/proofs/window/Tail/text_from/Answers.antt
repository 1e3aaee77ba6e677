use Rattle.std.proofs.Common.{drop, length, sym, ap, ◌∙◌, arith}
use Rattle.std.proofs.lemmas.List.{take_rest, drop_all}
use Rattle.pg_blocks.specs.Lines.{lines}
use Rattle.pg_rows.specs.Window.{tail_lines}
use Rattle.pg_rows.proofs.window.Tail.text_from.Goals as goal

pub returns-then-skip-self : goal.returns-then-skip-self
returns-then-skip-self g c =
    let a = c.args in
    let text = c.text-text.result.now in
    let counted = c.requires.counted in
    let full = c.if-skip-self.true in
    ap (lines a.end) (take_rest text (length text) ∙ drop_all (length text) text (omega arith))
    ∙ sym (drop_all a.skip (tail_lines a.end a.self.now) (omega arith))

pub returns : goal.returns
returns g c =
    let a = c.args in
    ap (lines a.end) (take_rest c.text-text.result.now c.end_of_first-from.result)
    ∙ (c.end_of_first-from.ensures.rest ∙ ap (λ xs. drop a.skip (lines a.end xs)) c.text-text.ensures.value)
