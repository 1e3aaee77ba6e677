use Rattle.std.proofs.Common.{◌∙◌, List, ℕ, ap, sym, subst}
use Rattle.std.specs.Arc.{arc_value}
use Rattle.pg_blocks.specs.Blocks.{BlockData}
use Rattle.pg_selection.specs.Search.{SearchText, terminator_of}
use Rattle.pg_blocks.specs.Lines.{AreShort}
use Rattle.pg_selection.specs.Searched.{SearchedBlock, IsFound}
use Rattle.pg_lines.proofs.search.search_block.Goals as goal

pub new-requires : goal.new-requires
new-requires g c =
    let text = sym (c.in_ok-selector.ensures ∙ c.selector.ensures) in
    let bytes = c.as_slice.ensures.value ∙ ap (λ (b : BlockData). b.bytes) (c.lines.view_is ∙ c.deref-lines.ensures) in
    let found = c.in_ok-found.found in
    let P : SearchText → Type 0 = λ t. IsFound t (arc_value c.args.block).bytes found in
    let Q : List ℕ → Type 0 = λ xs. IsFound c.args.query.now.text xs found in
    subst P text (subst Q bytes c.in_ok-found.ensures.found)

pub returns-clause-found : goal.returns-clause-found
returns-clause-found g c =
    let with : SearchText → SearchedBlock = λ t. record { query = t; block = arc_value c.args.block } in
    c.new.ensures ∙ ap with (c.in_ok-selector.ensures ∙ c.selector.ensures)

pub search_bytes-requires-clause-short : goal.search_bytes-requires-clause-short
search_bytes-requires-clause-short g c =
    let bytes = c.as_slice.ensures.value ∙ ap (λ (b : BlockData). b.bytes) (c.lines.view_is ∙ c.deref-lines.ensures) in
    let Q : List ℕ → Type 0 = λ xs. AreShort (terminator_of c.args.query.now.text) xs in
    subst Q (sym bytes) c.requires.short
