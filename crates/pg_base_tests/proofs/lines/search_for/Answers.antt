use Rattle.std.proofs.Common.{List, ℕ, sym, subst}
use Rattle.pg_blocks.specs.Lines.{AreShort}
use Rattle.pg_selection.specs.Search.{terminator_of}
use Rattle.pg_blocks.proofs.WithinLemmas.{lines_short}
use Rattle.pg_base_tests.proofs.lines.search_for.Goals as goal

pub search_block-requires-clause-short : goal.search_block-requires-clause-short
search_block-requires-clause-short g c =
    let end = terminator_of c.args.query.now.text in
    let P : List ℕ → Type 0 = λ xs. AreShort end xs in
    subst P (sym c.in_ok-block.ensures) (lines_short end c.args.bytes.now c.requires)
