use Rattle.std.proofs.Common.{ℕ, List, sym, subst}
use Rattle.pg_strings.specs.Outcomes.{strings_of}
use Rattle.pg_selection.specs.Search.{Bounds, bounds_of}
use Rattle.pg_prefilter.specs.Strings.{FindsString, FindsPart, of_all}
use Rattle.pg_prefilter.proofs.StringLemmas.{found_part}
use Rattle.pg_prefilter.proofs.NonEmptyLemmas.{found_of_all}
use Rattle.pg_prefilter.proofs.strings.BlockJudge.next_part.Goals as goal

pub returns-in-Strings : goal.returns-in-Strings
returns-in-Strings g c = λ trees spelled.
    let text = c.args.text.now in
    let strings = strings_of c.in-Strings.set.now in
    let line = c.args.line.now in
    let result = c.next_string.result in
    let own = rw c.in-Strings.is at c.requires.line.judge in
    let searched = rw c.in-Strings.is at c.requires.line.searched in
    let Found : List ℕ → Type 0 = λ l. FindsString strings c.bounds.result l c.args.from result in
    let Part : Bounds → Type 0 = λ b. FindsPart trees b line c.args.from result in
    subst Part c.bounds.ensures (found_part text strings own trees spelled c.bounds.result line c.args.from result
    (subst Found (searched tt).1 c.next_string.ensures))

pub returns-in-NonEmpty : goal.returns-in-NonEmpty
returns-in-NonEmpty g c = λ trees spelled.
    let text = c.args.text.now in
    let strings = strings_of c.in-NonEmpty.set.now in
    let line = c.args.line.now in
    let found = c.next_string-in-NonEmpty.result in
    let own = rw c.in-NonEmpty.is at c.requires.line.judge in
    subst (FindsPart trees (bounds_of text) line c.args.from) (sym c.of_all.ensures)
    (subst (λ b. FindsPart trees b line c.args.from (of_all found)) c.bounds-in-NonEmpty.ensures
    (found_of_all text strings own trees spelled c.bounds-in-NonEmpty.result line c.args.from found
    c.next_string-in-NonEmpty.ensures))

pub returns-in-Suffix : goal.returns-in-Suffix
returns-in-Suffix g c = λ trees spelled.
    let own = rw c.in-Suffix.is at c.requires.line.judge in
    c.next_suffix.ensures trees (bounds_of c.args.text.now) (own trees spelled)
