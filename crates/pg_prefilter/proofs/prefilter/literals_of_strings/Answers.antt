use Rattle.std.proofs.Common.{◌≡◌, List, ap, subst, rules}
use Rattle.std.specs.List.{All}
use Rattle.pg_blocks.specs.Lines.{IsLine}
use Rattle.pg_grammar.specs.Slices.{bytes_of}
use Rattle.pg_literal.specs.declared.literal.Literal.{Literal}
use Rattle.pg_selection.specs.Search.{SearchText, bounds_of, patterns, terminator_of}
use Rattle.pg_prefilter.proofs.FixedLemmas.{literals_of_text, string_heads, string_literals_are, texts_of_strings}
use Rattle.pg_prefilter.proofs.prefilter.literals_of_strings.Goals as goal

pub returns-clause-literals : goal.returns-clause-literals
returns-clause-literals g c =
    let text = c.args.text.now in
    let literals = c.in_ok-literals.literals.items in
    let fold : c.text.inside.fold ≡ text.fold = ap (λ (t : SearchText). t.fold) c.text.view_is in
    let are = literals_of_text text c.text.inside.fold c.bounds.result (bytes_of c.args.strings.now) literals fold
    c.bounds.ensures c.requires.strings c.in_ok-literals.ensures in
    let Alone : List (Literal g.row.A.Denot) → Type 0 = λ ls. All (λ l. IsLine (terminator_of text) l.text.items) ls in
    let none = c.are_within_lines.ensures (search rules) in
    let alone = subst Alone c.deref-else-tell_nothing.ensures.value
    (subst (λ e. All (λ l. IsLine e l.text.items) c.deref-else-tell_nothing.result.now) c.terminator.ensures none) in
    string_literals_are text c.requires.fixed literals are alone

pub returns-clause-heads : goal.returns-clause-heads
returns-clause-heads g c =
    let text = c.args.text.now in
    let literals = c.in_ok-literals.literals.items in
    let fold : c.text.inside.fold ≡ text.fold = ap (λ (t : SearchText). t.fold) c.text.view_is in
    string_heads text c.requires.fixed literals (literals_of_text text c.text.inside.fold c.bounds.result
    (bytes_of c.args.strings.now) literals fold c.bounds.ensures c.requires.strings c.in_ok-literals.ensures)

pub returns-clause-fixed : goal.returns-clause-fixed
returns-clause-fixed g c = λ some.
    let text = c.args.text.now in
    let literals = c.in_ok-literals.literals.items in
    let fold : c.text.inside.fold ≡ text.fold = ap (λ (t : SearchText). t.fold) c.text.view_is in
    texts_of_strings text.fold (bounds_of text) (patterns text.lists) literals (literals_of_text text
    c.text.inside.fold c.bounds.result (bytes_of c.args.strings.now) literals fold c.bounds.ensures c.requires.strings
    c.in_ok-literals.ensures)
