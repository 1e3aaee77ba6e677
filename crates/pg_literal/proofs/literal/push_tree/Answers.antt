use Rattle.std.proofs.Common.{List, ◌-◌, take, drop, subst}
use Rattle.pg_bytes.specs.declared.byte_set.ByteSet.{ByteSet}
use Rattle.pg_pattern.specs.Trees.{pattern}
use Rattle.pg_literal.specs.Rows.{row_of, Multiplies}
use Rattle.pg_literal.proofs.LiteralLemmas.{adds_row, adds_text, chosen_serves, unspelled}
use Rattle.pg_literal.proofs.literal.push_tree.Goals as goal

pub returns-in-Some-clause-adds : goal.returns-in-Some-clause-adds
returns-in-Some-clause-adds g c = λ added.
    let fold = c.args.expansion.fold in
    let found = c.in_ok-text.ensures in
    let sure = rw c.in-Some.is at found.sure in
    let product = rw c.in-Some.is at found.product in
    adds_text fold (pattern c.args.tree.now) c.nothing.result c.in_ok-known.known c.nothing.ensures
    (c.in_ok-known.ensures fold) c.args.bounds c.in-Some.text.items c.args.literals.now.items
    c.push_text.new.literals.items sure product
    (λ text is known none. rw c.in-Some.is at (found.fixed text is known none))
    (c.in_ok-found.ensures.adds added)

pub returns-then-is_empty-clause-fixed : goal.returns-then-is_empty-clause-fixed
returns-then-is_empty-clause-fixed g c = λ text spells any.
    let fold = c.args.expansion.fold in
    absurd (unspelled fold (pattern c.args.tree.now) c.nothing.result c.in_ok-known.known c.nothing.ensures
    (c.in_ok-known.ensures fold) c.in_ok-text.field-0 c.in_default.is c.in_ok-text.ensures.fixed text spells)

pub returns-clause-adds : goal.returns-clause-adds
returns-clause-adds g c = λ added.
    let fold = c.args.expansion.fold in
    let p = pattern c.args.tree.now in
    let known = c.in_ok-known.known in
    let extends = c.in_ok-known.ensures fold in
    let chosen = c.chosen-chosen.result in
    let none = unspelled fold p c.nothing.result known c.nothing.ensures extends c.in_ok-text.field-0
    c.in_default.is c.in_ok-text.ensures.fixed in
    let window = chosen.window in
    let Out : List ByteSet → Type 0 =
    λ sets. Multiplies fold (row_of (take (window.stop - window.start) (drop window.start sets))) chosen.is_enough
    chosen.is_head c.args.literals.now.items c.push_row.new.literals.items in
    adds_row fold p c.nothing.result known c.nothing.ensures extends c.args.bounds _ chosen.is_enough
    chosen.is_head (chosen_serves c.args.bounds known chosen c.chosen-chosen.ensures) c.args.literals.now.items
    c.push_row.new.literals.items (subst Out c.deref.ensures.value (c.in_ok-found-2.ensures added))
    (λ text spells. absurd (none text spells))
    (λ text spells any. absurd (none text spells))

pub returns-clause-fixed : goal.returns-clause-fixed
returns-clause-fixed g c = λ text spells any.
    let fold = c.args.expansion.fold in
    absurd (unspelled fold (pattern c.args.tree.now) c.nothing.result c.in_ok-known.known c.nothing.ensures
    (c.in_ok-known.ensures fold) c.in_ok-text.field-0 c.in_default.is c.in_ok-text.ensures.fixed text spells)
