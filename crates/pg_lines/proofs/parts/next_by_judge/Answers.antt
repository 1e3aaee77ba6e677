use Rattle.std.proofs.Common.{List, sym, subst}
use Rattle.pg_selection.specs.Search.{SearchText, Pattern, AreTreesOf, bounds_of}
use Rattle.pg_prefilter.specs.Strings.{FindsPart, JudgesLine}
use Rattle.pg_lines.proofs.parts.next_by_judge.Goals as goal

pub next_part-requires-clause-line : goal.next_part-requires-clause-line
next_part-requires-clause-line g c =
    subst (λ text. JudgesLine text c.args.judge.now c.args.line.now c.args.at) (sym c.text.ensures.text)
    c.requires.line

pub returns : goal.returns
returns g c =
    let Finds : SearchText → Type 0 = λ text. (trees : List Pattern) → AreTreesOf text trees
    → FindsPart trees (bounds_of text) c.args.line.now c.args.from c.next_part.result in
    subst Finds c.text.ensures.text c.next_part.ensures
