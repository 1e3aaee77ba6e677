use Rattle.std.proofs.Common.{◌++◌, List, ℕ, ap, subst}
use Rattle.pg_rows.specs.Output.{name_end, name_text, number_text, tab_before, when}
use Rattle.pg_base.specs.Sink.{WritesAll, WritesPart}
use Rattle.pg_base.proofs.WriteLemmas.{part_of_first, part_of_second, writes_part, writes_then, wrote_more}
use Rattle.pg_rows.proofs.prefix.Prefix.write_colored.Goals as goal

pub returns-in_err-write_name : goal.returns-in_err-write_name
returns-in_err-write_name g c =
    let a = c.args in
    let format = a.format.now in
    let shown : List ℕ → List ℕ = λ n. when format.names (name_text format n ++ name_end format a.mark) in
    let name = shown a.self.now in
    let number = when format.numbers (number_text format a.mark a.at.number) in
    let offset = when format.offsets (number_text format a.mark a.at.offset) in
    let tab = tab_before format a.has_text in
    let P : List ℕ → Type 0 = λ xs. WritesPart xs (g.W.Sink.stream a.out.now) (g.W.Sink.stream
    c.write_name.new.out) in
    writes_part (name ++ number ++ offset ++ tab) _ _ c.from_residual.result c.from_residual.ensures.0
    (part_of_first (name ++ number ++ offset) tab _ _ (part_of_first (name ++ number) offset _ _
    (part_of_first name number _ _ (subst P (ap shown c.name.ensures) c.in_err-write_name.ensures.err))))

pub returns-in_err-write_number : goal.returns-in_err-write_number
returns-in_err-write_number g c =
    let a = c.args in
    let format = a.format.now in
    let shown : List ℕ → List ℕ = λ n. when format.names (name_text format n ++ name_end format a.mark) in
    let name = shown a.self.now in
    let number = when format.numbers (number_text format a.mark a.at.number) in
    let offset = when format.offsets (number_text format a.mark a.at.offset) in
    let tab = tab_before format a.has_text in
    let P : List ℕ → Type 0 = λ xs. WritesAll xs (g.W.Sink.stream a.out.now) (g.W.Sink.stream
    c.write_name.new.out) in
    writes_part (name ++ number ++ offset ++ tab) _ _ c.from_residual-in_err-write_number.result
    c.from_residual-in_err-write_number.ensures.0
    (part_of_first (name ++ number ++ offset) tab _ _ (part_of_first (name ++ number) offset _ _
    (part_of_second name number _ _ _ (subst P (ap shown c.name.ensures) c.in_ok-write_name.ensures.ok)
    c.in_err-write_number.ensures.err)))

pub returns-in_err-write_number-2 : goal.returns-in_err-write_number-2
returns-in_err-write_number-2 g c =
    let a = c.args in
    let format = a.format.now in
    let shown : List ℕ → List ℕ = λ n. when format.names (name_text format n ++ name_end format a.mark) in
    let name = shown a.self.now in
    let number = when format.numbers (number_text format a.mark a.at.number) in
    let offset = when format.offsets (number_text format a.mark a.at.offset) in
    let tab = tab_before format a.has_text in
    let P : List ℕ → Type 0 = λ xs. WritesAll xs (g.W.Sink.stream a.out.now) (g.W.Sink.stream
    c.write_name.new.out) in
    writes_part (name ++ number ++ offset ++ tab) _ _ c.from_residual-in_err-write_number-2.result
    c.from_residual-in_err-write_number-2.ensures.0
    (part_of_first (name ++ number ++ offset) tab _ _ (part_of_second (name ++ number) offset _ _ _
    (wrote_more name number _ _ _ (subst P (ap shown c.name.ensures) c.in_ok-write_name.ensures.ok)
    c.in_ok-write_number.ensures.ok) c.in_err-write_number-2.ensures.err))

pub returns : goal.returns
returns g c =
    let a = c.args in
    let format = a.format.now in
    let shown : List ℕ → List ℕ = λ n. when format.names (name_text format n ++ name_end format a.mark) in
    let name = shown a.self.now in
    let number = when format.numbers (number_text format a.mark a.at.number) in
    let offset = when format.offsets (number_text format a.mark a.at.offset) in
    let P : List ℕ → Type 0 = λ xs. WritesAll xs (g.W.Sink.stream a.out.now) (g.W.Sink.stream
    c.write_name.new.out) in
    writes_then (name ++ number ++ offset) (tab_before format a.has_text) _ _ _ _
    (wrote_more (name ++ number) offset _ _ _
    (wrote_more name number _ _ _ (subst P (ap shown c.name.ensures) c.in_ok-write_name.ensures.ok)
    c.in_ok-write_number.ensures.ok) c.in_ok-write_number-2.ensures.ok) c.write_tab.ensures
