use Rattle.std.proofs.Common.{◌++◌, [], List, ℕ, ap, subst}
use Rattle.pg_rows.specs.Colors.{escape}
use Rattle.pg_rows.specs.Painting.{code_of}
use Rattle.pg_base.specs.Sink.{WritesAll, WritesPart}
use Rattle.pg_base.proofs.WriteLemmas.{part_of_first, writes_part, writes_then}
use Rattle.pg_rows.proofs.colors.write_in_color.Goals as goal

pub returns-in_err-write_both : goal.returns-in_err-write_both
returns-in_err-write_both g c =
    let text = c.args.text.now in
    let front : List ℕ = escape (code_of c.args.color) ++ text in
    let P : List ℕ → Type 0 = λ xs. WritesPart xs (g.W.Sink.stream c.args.out.now) (g.W.Sink.stream
    c.write_both.new.out) in
    writes_part (front ++ escape []) _ _ c.from_residual.result c.from_residual.ensures.0
    (part_of_first front (escape []) _ _
    (subst P (ap (λ xs. xs ++ text) c.start.ensures) c.in_err-write_both.ensures.err))

pub returns : goal.returns
returns g c =
    let text = c.args.text.now in
    let front : List ℕ = escape (code_of c.args.color) ++ text in
    let P : List ℕ → Type 0 = λ xs. WritesAll xs (g.W.Sink.stream c.args.out.now) (g.W.Sink.stream
    c.write_both.new.out) in
    writes_then front (escape []) _ _ _ _
    (subst P (ap (λ xs. xs ++ text) c.start.ensures) c.in_ok-write_both.ensures.ok) c.write_all.ensures.writes
