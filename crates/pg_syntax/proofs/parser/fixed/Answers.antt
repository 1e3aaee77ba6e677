use Rattle.std.proofs.Common.{◌≡◌, length, arith, subst, ◌∙◌, sym, refl}
use Rattle.pg_grammar.specs.Results.{IsSpelled}
use Rattle.pg_grammar.specs.declared.pattern_list.Kind.TheVariants.{Fixed}
use Rattle.pg_pattern.proofs.PatternLemmas.{pattern-empty}
use Rattle.std.proofs.lemmas.Bool.{eqb-true}
use Rattle.pg_syntax.proofs.Literals.{empty_spelled, literal_spelled}
use Rattle.pg_syntax.proofs.TokenLoop.{empty_text}
use Rattle.pg_syntax.proofs.parser.fixed.Goals as goal

pub returns-then-is_empty-clause-spelled : goal.returns-then-is_empty-clause-spelled
returns-then-is_empty-clause-spelled g c =
    let text = c.args.text.now in
    let none : length text ≡ 0 = eqb-true _ _ (sym c.is_empty.ensures ∙ c.if-is_empty.true) in
    subst (IsSpelled Fixed c.args.fold text) (sym (pattern-empty _ refl))
    (empty_spelled c.args.fold text (empty_text text none))

pub returns-clause-spelled : goal.returns-clause-spelled
returns-clause-spelled g c = literal_spelled c.args.fold c.args.text.now _ (omega arith) c.in_ok-tree.ensures
