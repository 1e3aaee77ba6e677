use Rattle.std.proofs.Common.{◌++◌, ◌∷◌, [], List, ℕ, sym, ap, ◌∙◌, subst}
use Rattle.std.specs.Fmt.{decimal}
use Rattle.pg_rows.specs.Output.{name_end, name_text, when}
use Rattle.pg_base.specs.Sink.{WritesAll, WritesPart}
use Rattle.pg_rows.proofs.RowLemmas.{count_row_is}
use Rattle.pg_base.proofs.WriteLemmas.{part_of_first, writes_part, writes_then, writes_as}
use Rattle.pg_rows.proofs.rows.write_count.Goals as goal

pub returns-then-not-format : goal.returns-then-not-format
returns-then-not-format g c =
    let a = c.args in
    let name : List ℕ = name_text a.format.now a.prefix.now ++ name_end a.format.now 58 in
    let digits = c.as_bytes-text.ensures.value ∙ c.format.ensures.text in
    writes_as (c.as_bytes-text.result.now ++ 10 ∷ []) (when a.format.now.names name ++ decimal a.count ++ 10 ∷ []) _ _ _
    (ap (λ text. text ++ 10 ∷ []) digits
    ∙ ap (λ names. when names name ++ decimal a.count ++ 10 ∷ []) (sym c.if-not-format.true))
    c.write_both.ensures

pub returns-in_err-write_marked_name : goal.returns-in_err-write_marked_name
returns-in_err-write_marked_name g c =
    let a = c.args in
    let shown : List ℕ → List ℕ = λ n. name_text a.format.now n ++ name_end a.format.now 58 in
    let front = shown a.prefix.now in
    let count : List ℕ = decimal a.count ++ 10 ∷ [] in
    let whole = count_row_is a.format.now.names front (decimal a.count) c.if-not-format.false in
    let P : List ℕ → Type 0 =
    λ xs. WritesPart xs (g.W.Sink.stream a.out.now) (g.W.Sink.stream c.write_marked_name.new.out) in
    writes_part (when a.format.now.names front ++ decimal a.count ++ 10 ∷ []) _ _ c.from_residual.result
    c.from_residual.ensures.0
    (subst P (sym whole) (part_of_first front count _ _
    (subst P (ap shown c.name.ensures) c.in_err-write_marked_name.ensures.err)))

pub returns : goal.returns
returns g c =
    let a = c.args in
    let digits = c.as_bytes-text.ensures.value ∙ c.format.ensures.text in
    let shown : List ℕ → List ℕ = λ n. name_text a.format.now n ++ name_end a.format.now 58 in
    let front = shown a.prefix.now in
    let count : List ℕ = decimal a.count ++ 10 ∷ [] in
    let P : List ℕ → Type 0 =
    λ xs. WritesAll xs (g.W.Sink.stream a.out.now) (g.W.Sink.stream c.write_marked_name.new.out) in
    writes_as (front ++ count) (when a.format.now.names front ++ decimal a.count ++ 10 ∷ []) _ _ _
    (sym (count_row_is a.format.now.names front (decimal a.count) c.if-not-format.false))
    (writes_then front count _ _ _ _ (subst P (ap shown c.name.ensures) c.in_ok-write_marked_name.ensures.ok)
    (writes_as (c.as_bytes-text.result.now ++ 10 ∷ []) count _ _ _ (ap (λ text. text ++ 10 ∷ []) digits)
    c.write_both-2.ensures))
