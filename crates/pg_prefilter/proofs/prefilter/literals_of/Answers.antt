use Rattle.std.proofs.lemmas.Result.{IfOk-from_err}
use Rattle.std.proofs.Common.{◌≡◌, ◌<◌, Bool, List, length, map, sym, ap, subst, rules, arith}
use Rattle.std.specs.Bool.{IsTrue}
use Rattle.pg_prefilter.proofs.NearLemmas.{heads_are}
use Rattle.std.specs.List.{All, AllZip}
use Rattle.pg_pattern.specs.Trees.{pattern}
use Rattle.pg_literal.specs.Literals as P
use Rattle.pg_literal.specs.declared.literal.Literal.{Literal}
use Rattle.pg_prefilter.specs.Literals.{AreLiterals, data_of}
use Rattle.pg_blocks.specs.Lines.{IsLine}
use Rattle.pg_grammar.specs.Grammar.{Spells}
use Rattle.pg_literal.specs.Literals.{as_searched}
use Rattle.pg_selection.specs.Search.{SearchText, Bounds, Fixed, terminator_of}
use Rattle.pg_prefilter.proofs.LiteralLemmas.{literals_are, no_literals}
use Rattle.pg_prefilter.proofs.prefilter.literals_of.Goals as goal

pub returns-then-are_within_lines-clause-literals : goal.returns-then-are_within_lines-clause-literals
returns-then-are_within_lines-clause-literals g c =
    let text = c.args.text.now in
    let trees = map (pattern {A = g.row.A.Denot}) c.args.trees.now in
    let literals = c.in_ok-literals.literals.items in
    let fold : c.text.inside.fold ≡ text.fold = ap (λ (t : SearchText). t.fold) c.text.view_is in
    let Says : _ → Bounds → Type 0 = λ f b. (0 < length literals → P.AreNeeded f trees b literals)
    × P.AreEnough f trees b literals in
    let found = c.in_ok-literals.ensures in
    let says = subst (Says text.fold) c.bounds.ensures
    (subst (λ f. Says f c.bounds.result) fold (found.needed, found.enough)) in
    let Alone : List (Literal g.row.A.Denot) → Type 0 = λ ls. All (λ l. IsLine (terminator_of text) l.text.items) ls in
    let none = c.are_within_lines.ensures (search rules) in
    let alone = subst Alone c.deref.ensures.value (subst (λ e. All (λ l. IsLine e l.text.items) c.deref.result.now)
    c.terminator.ensures none) in
    literals_are text trees c.requires.trees literals alone says.0 says.1

pub returns-then-are_within_lines-clause-exact : goal.returns-then-are_within_lines-clause-exact
returns-then-are_within_lines-clause-exact g c = λ fixed zip some.
    let text = c.args.text.now in
    let trees = map (pattern {A = g.row.A.Denot}) c.args.trees.now in
    let literals = c.in_ok-literals.literals.items in
    let fold : text.fold ≡ c.text.inside.fold = sym (ap (λ (t : SearchText). t.fold) c.text.view_is) in
    let Zip : Bool → Type 0 = λ f. AllZip (Spells Fixed f) fixed trees in
    let Same : Bool → Type 0 = λ f. map (λ literal. literal.text.items) literals ≡ map (as_searched f) fixed in
    subst Same (sym fold) (c.in_ok-literals.ensures.exact fixed (subst Zip fold zip) some)

pub returns-in_err-literals-clause-exact : goal.returns-in_err-literals-clause-exact
returns-in_err-literals-clause-exact g c = λ _ _. IfOk-from_err c.from_residual.result _ c.from_residual.ensures.0

pub returns-else-are_within_lines-clause-literals : goal.returns-else-are_within_lines-clause-literals
returns-else-are_within_lines-clause-literals g c =
    let P : List (Literal g.row.A.Denot) → Type 0 = λ ls. AreLiterals c.args.text.now (map data_of ls) in
    subst P (sym c.new.ensures.items) (no_literals c.args.text.now)

pub returns-then-are_within_lines-clause-heads : goal.returns-then-are_within_lines-clause-heads
returns-then-are_within_lines-clause-heads g c =
    let text = c.args.text.now in
    let trees = map (pattern {A = g.row.A.Denot}) c.args.trees.now in
    let literals = c.in_ok-literals.literals.items in
    let fold : c.text.inside.fold ≡ text.fold = ap (λ (t : SearchText). t.fold) c.text.view_is in
    let Says : _ → Bounds → Type 0 = λ f b. 0 < length literals → All (λ l. IsTrue l.is_head) literals
    → P.AreHeads f trees b literals in
    let says = subst (Says text.fold) c.bounds.ensures
    (subst (λ f. Says f c.bounds.result) fold c.in_ok-literals.ensures.heads) in
    heads_are text trees c.requires.trees literals says

pub returns-else-are_within_lines-clause-heads : goal.returns-else-are_within_lines-clause-heads
returns-else-are_within_lines-clause-heads g c = λ some. absurd (omega (arith, some, ap length c.new.ensures.items))
