use Rattle.std.proofs.Common.{◌-◌, List, drop, sym, ap, ◌∙◌, subst, arith, length-drop}
use Rattle.std.specs.List.{All}
use Rattle.pg_blocks.specs.Lines.{IsLine}
use Rattle.pg_prefilter.specs.Literals.{LiteralData}
use Rattle.pg_prefilter.specs.Candidates.{IsLineAround}
use Rattle.pg_selection.specs.Search.{terminator_of}
use Rattle.pg_prefilter.proofs.NeedleLemmas.{if_none, line_of_least, nowhere_further, plain_end, stands_within}
use Rattle.pg_prefilter.proofs.needle.NeedleList.next_line.Goals as goal

pub returns-in_err-first-clause-none : goal.returns-in_err-first-clause-none
returns-in_err-first-clause-none g c =
    let text = c.args.text.now in
    let moved = c.advance.new.self in
    let is = ap (λ xs. xs.now) c.advance.ensures.searched ∙ c.requires.needles.searched c.requires.some in
    if_none _ c.from_residual.result (nowhere_further text.fold c.args.bytes.now moved.searched.now c.args.at
    moved.needles.items is c.requires.at c.advance.ensures.ahead (terminator_of text) c.in_err-first.ensures.least)

pub around-requires-clause-place : goal.around-requires-clause-place
around-requires-clause-place g c =
    let moved = c.advance.new.self in
    let is = ap (λ xs. xs.now) c.advance.ensures.searched ∙ c.requires.needles.searched c.requires.some in
    stands_within c.args.text.now.fold c.args.bytes.now moved.searched.now c.args.at moved.needles.items is
    c.requires.at c.advance.ensures.ahead c.in_ok-first.first c.advance.ensures.found c.in_ok-first.ensures.stands

pub returns-clause-within : goal.returns-clause-within
returns-clause-within g c =
    let text = c.args.text.now in
    let bytes = c.args.bytes.now in
    let at = c.args.at in
    let moved = c.advance.new.self in
    let is = ap (λ xs. xs.now) c.advance.ensures.searched ∙ c.requires.needles.searched c.requires.some in
    let Alone : List LiteralData → Type 0 = λ ls. All (λ l. IsLine (terminator_of text) l.text) ls in
    let alone = subst Alone (sym c.advance.ensures.literals) c.requires.needles.literals.lines in
    let line = subst (λ e. IsLineAround e at (drop at bytes) (c.in_ok-first.first.at - at) c.around.result.line)
    c.terminator.ensures c.around.ensures.line in
    let least = line_of_least text.fold bytes moved.searched.now at moved.needles.items is c.requires.at
    c.advance.ensures.ahead (terminator_of text) c.in_ok-first.first c.around.result (plain_end text text.fold) alone
    c.advance.ensures.found c.in_ok-first.ensures.stands c.in_ok-first.ensures.least
    (sym c.around.ensures.flag) (omega (arith, length-drop at bytes, c.if-at-bytes.false, c.requires.at)) line in
    (omega (arith, line.starts), least.1, least.2)

pub returns-clause-some : goal.returns-clause-some
returns-clause-some g c =
    let text = c.args.text.now in
    let bytes = c.args.bytes.now in
    let at = c.args.at in
    let moved = c.advance.new.self in
    let is = ap (λ xs. xs.now) c.advance.ensures.searched ∙ c.requires.needles.searched c.requires.some in
    let Alone : List LiteralData → Type 0 = λ ls. All (λ l. IsLine (terminator_of text) l.text) ls in
    let alone = subst Alone (sym c.advance.ensures.literals) c.requires.needles.literals.lines in
    let line = subst (λ e. IsLineAround e at (drop at bytes) (c.in_ok-first.first.at - at) c.around.result.line)
    c.terminator.ensures c.around.ensures.line in
    (line_of_least text.fold bytes moved.searched.now at moved.needles.items is c.requires.at c.advance.ensures.ahead
    (terminator_of text) c.in_ok-first.first c.around.result (plain_end text text.fold) alone c.advance.ensures.found
    c.in_ok-first.ensures.stands c.in_ok-first.ensures.least (sym c.around.ensures.flag)
    (omega (arith, length-drop at bytes, c.if-at-bytes.false, c.requires.at)) line).0
