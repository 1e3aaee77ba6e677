use Rattle.std.proofs.Common.{drop, refl, arith, subst, ◌∙◌, sym, ap, inr}
use Rattle.std.proofs.lemmas.List.{drop_all}
use Rattle.std.proofs.lemmas.Result.{err_from_is_err_and}
use Rattle.pg_pattern.specs.Trees.{pattern_of}
use Rattle.pg_syntax.proofs.Onward.{Leads, begin}
use Rattle.pg_syntax.specs.States.{state_of}
use Rattle.pg_syntax.specs.Tokens.{token_of}
use Rattle.pg_syntax.proofs.TokenLoop.{Keeps, keeps_on, leads_on, no_token_fault, refused_token, in_group}
use Rattle.pg_syntax.proofs.TokenLoop.{empty_operand, finished, nonempty_drop}
use Rattle.pg_syntax.proofs.parser.build.Goals as goal

pub returns-in_err-token-clause-refused : goal.returns-in_err-token-clause-refused
returns-in_err-token-clause-refused g c =
    let text = c.args.source.now.text.now in
    let p = err_from_is_err_and c.from_residual.result c.from_residual.ensures.1 in
    rw (p.1, p.2) (no_token_fault _ _ text c.loop-at.at (state_of c.loop-at.builder) _ c.requires.short
    c.requires.some (nonempty_drop text c.loop-at.at (omega arith))
    c.in_err-token.ensures.0 c.in_err-token.ensures.1 c.loop-at.invariant.keeps c.loop-at.invariant.leads)

pub returns-in_err-apply-clause-refused : goal.returns-in_err-apply-clause-refused
returns-in_err-apply-clause-refused g c =
    let text = c.args.source.now.text.now in
    let p = err_from_is_err_and c.from_residual-in_err-apply.result c.from_residual-in_err-apply.ensures.1 in
    rw (p.1, p.2) (refused_token _ _ text c.loop-at.at (state_of c.loop-at.builder) (state_of c.apply.new.builder) _
    (token_of c.in_ok-token.token) (drop c.in_ok-token.next text) c.requires.short c.requires.some
    (nonempty_drop text c.loop-at.at (omega arith))
    c.in_ok-token.ensures.0 c.in_err-apply.ensures c.loop-at.invariant.keeps c.loop-at.invariant.leads)

pub loop-at-init : goal.loop-at-init
loop-at-init g c =
    let text = c.args.source.now.text.now in
    let syntax = c.args.source.now.syntax in
    let fold = c.args.source.now.fold in
    record {
      within = omega arith;
      whole = refl;
      keeps = subst (λ s. Keeps syntax fold text s text) (sym c.requires.fresh) (λ p. (λ x. x, λ x. x));
      leads = subst (λ s. Leads syntax fold text s text) (sym c.requires.fresh) begin;
    }

pub loop-at-preserved : goal.loop-at-preserved
loop-at-preserved g c =
    let text = c.args.source.now.text.now in
    record {
      within = c.in_ok-token.ensures.2;
      whole = refl;
      keeps = keeps_on _ _ text (state_of c.loop-at.builder) _
          (drop c.loop-at.at text) _ _ c.in_ok-token.ensures.0 c.in_ok-apply.ensures c.loop-at.invariant.keeps;
      leads = leads_on _ _ text (state_of c.loop-at.builder) _
          (drop c.loop-at.at text) _ _ c.in_ok-token.ensures.0 c.in_ok-apply.ensures c.loop-at.invariant.leads;
    }

pub returns-then-has_group-clause-refused : goal.returns-then-has_group-clause-refused
returns-then-has_group-clause-refused g c =
    let text = c.args.source.now.text.now in
    inr (in_group _ _ text (state_of c.loop-at.builder) c.requires.short c.requires.some
    (sym c.has_group.ensures ∙ c.if-has_group.true)
    (subst (λ y. Keeps c.args.source.now.syntax c.args.source.now.fold text (state_of c.loop-at.builder) y)
    (drop_all c.loop-at.at text (omega arith)) c.loop-at.invariant.keeps)
    (subst (λ y. Leads c.args.source.now.syntax c.args.source.now.fold text (state_of c.loop-at.builder) y)
    (drop_all c.loop-at.at text (omega arith)) c.loop-at.invariant.leads))

pub returns-in-Some-clause-spelled : goal.returns-in-Some-clause-spelled
returns-in-Some-clause-spelled g c =
    let text = c.args.source.now.text.now in
    let w = c.in_ok-tree.ensures in
    finished _ _ text (state_of c.loop-at.builder) _ c.requires.some c.requires.short
    (sym c.has_group.ensures ∙ c.if-has_group.false) (sym w ∙ ap pattern_of c.in-Some.is)
    (subst (λ y. Keeps c.args.source.now.syntax c.args.source.now.fold text (state_of c.loop-at.builder) y)
    (drop_all c.loop-at.at text (omega arith)) c.loop-at.invariant.keeps)

pub returns-in-None-clause-refused : goal.returns-in-None-clause-refused
returns-in-None-clause-refused g c =
    let text = c.args.source.now.text.now in
    let w = c.in_ok-tree.ensures in
    inr (empty_operand _ _ text (state_of c.loop-at.builder) c.requires.short c.requires.some
    (sym c.has_group.ensures ∙ c.if-has_group.false) (sym w ∙ ap pattern_of c.in-None.is)
    (subst (λ y. Keeps c.args.source.now.syntax c.args.source.now.fold text (state_of c.loop-at.builder) y)
    (drop_all c.loop-at.at text (omega arith)) c.loop-at.invariant.keeps)
    (subst (λ y. Leads c.args.source.now.syntax c.args.source.now.fold text (state_of c.loop-at.builder) y)
    (drop_all c.loop-at.at text (omega arith)) c.loop-at.invariant.leads))
