use Rattle.std.proofs.Common.{◌++◌, List, ℕ, ap, ◌∙◌, subst}
use Rattle.std.specs.Fmt.{decimal}
use Rattle.pg_rows.specs.Colors.{in_color, number_color}
use Rattle.pg_rows.specs.Output.{mark_text}
use Rattle.pg_base.specs.Sink.{WritesAll, WritesPart}
use Rattle.pg_base.proofs.WriteLemmas.{part_of_first, writes_part, writes_then}
use Rattle.pg_rows.proofs.prefix.write_marked_number.Goals as goal

pub returns-in_err-write_text : goal.returns-in_err-write_text
returns-in_err-write_text g c =
    let a = c.args in
    let shown : List ℕ → List ℕ = in_color a.format.now.colored number_color in
    let digits = ap shown (c.as_bytes-text.ensures.value ∙ c.format.ensures.text) in
    let mark = mark_text a.format.now a.mark in
    let P : List ℕ → Type 0 = λ xs. WritesPart xs (g.W.Sink.stream a.out.now) (g.W.Sink.stream
    c.write_text.new.out) in
    writes_part (shown (decimal a.number) ++ mark) _ _ c.from_residual.result c.from_residual.ensures.0
    (part_of_first (shown (decimal a.number)) mark _ _ (subst P digits c.in_err-write_text.ensures.err))

pub returns : goal.returns
returns g c =
    let a = c.args in
    let shown : List ℕ → List ℕ = in_color a.format.now.colored number_color in
    let digits = ap shown (c.as_bytes-text.ensures.value ∙ c.format.ensures.text) in
    let P : List ℕ → Type 0 = λ xs. WritesAll xs (g.W.Sink.stream a.out.now) (g.W.Sink.stream
    c.write_text.new.out) in
    writes_then (shown (decimal a.number)) (mark_text a.format.now a.mark) _ _ _ _
    (subst P digits c.in_ok-write_text.ensures.ok) c.write_text-2.ensures
