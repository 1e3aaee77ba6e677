use Rattle.std.proofs.Common.{◌≡◌, ◌∙◌, ap, map, subst, sym}
use Rattle.std.specs.Arc.{arc_value}
use Rattle.pg_selection.specs.Search.{terminator}
use Rattle.pg_blocks.specs.Blocks.{BlockData}
use Rattle.pg_plan.specs.Plan.{Announces, MayFollow}
use Rattle.pg_plan.specs.History.{plan, planned}
use Rattle.pg_seq.specs.Standing.{IsAfter}
use Rattle.pg_run.specs.Holding.{past_of, format_of}
use Rattle.pg_run.proofs.HoldLemmas.{may_past, is_first, holds_block}
use Rattle.pg_base.proofs.SinkLemmas.{ok_of_err}
use Rattle.pg_run.proofs.engine.Engine.take.Goals as goal

pub keep-requires : goal.keep-requires
keep-requires g c =
    let aim = c.requires.ready.0 in
    let h = c.requires.ready.3.0 in
    let m = c.requires.ready.3.1 in
    let past = past_of aim.query (format_of aim) h.events h.written in
    let b : arc_value c.in_ok-block.block ≡ c.args.block = c.in_ok-block.ensures.ok in
    let F : BlockData → Type 0 = λ x. MayFollow (terminator aim.query) (plan past) (Announces x) in
    let M : BlockData → Type 0 = λ x. IsAfter c.announce.new.self (planned past (Announces x)) in
    let may = subst F (sym b) (may_past h (Announces c.args.block) m) in (
      planned past (Announces c.args.block),
      subst M b (c.in_ok-announce.ensures.ok past h.stands may),
      is_first h c.args.block m c.in_ok-found.found
          (h.same.0.finds c.in_ok-block.block c.in_ok-found.found c.in_ok-found.ensures.found
          ∙ ap (λ x. record { query = aim.query.text; block = x }) b),
    )

pub returns-clause-ok : goal.returns-clause-ok
returns-clause-ok g c = λ aim steps out ready.
    let h = ready.0 in
    let m = ready.1 in
    let past = past_of aim.query (format_of aim) h.events h.written in
    let b : arc_value c.in_ok-block.block ≡ c.args.block = c.in_ok-block.ensures.ok in
    let F : BlockData → Type 0 = λ x. MayFollow (terminator aim.query) (plan past) (Announces x) in
    let M : BlockData → Type 0 = λ x. IsAfter c.announce.new.self (planned past (Announces x)) in
    let may = subst F (sym b) (may_past h (Announces c.args.block) m) in
    let middle = subst M b (c.in_ok-announce.ensures.ok past h.stands may) in
    let found : c.in_ok-found.found ≡ record { query = aim.query.text; block = c.args.block } =
    h.same.0.finds c.in_ok-block.block c.in_ok-found.found c.in_ok-found.ensures.found
    ∙ ap (λ x. record { query = aim.query.text; block = x }) b in
    let none = ap (λ xs. map arc_value xs) (c.args.self.now.at_once c.requires.at_once) in
    holds_block h _ c.args.block c.in_ok-found.found m h.same h.set h.count none none found
    (c.keep.ensures (planned past (Announces c.args.block)) middle
    (is_first h c.args.block m c.in_ok-found.found found))

pub returns-in_err-block-clause-none : goal.returns-in_err-block-clause-none
returns-in_err-block-clause-none g c = c.args.self.now.at_once c.requires.at_once

pub returns-in_err-block-clause-ok : goal.returns-in_err-block-clause-ok
returns-in_err-block-clause-ok g c =
    λ aim steps out ready.
    ok_of_err c.from_residual.result _ c.from_residual.ensures.0

pub returns-in_err-found-clause-none : goal.returns-in_err-found-clause-none
returns-in_err-found-clause-none g c = c.args.self.now.at_once c.requires.at_once

pub returns-in_err-found-clause-ok : goal.returns-in_err-found-clause-ok
returns-in_err-found-clause-ok g c =
    λ aim steps out ready.
    ok_of_err c.from_residual-in_err-found.result _ c.from_residual-in_err-found.ensures.0

pub returns-in_err-announce-clause-none : goal.returns-in_err-announce-clause-none
returns-in_err-announce-clause-none g c = c.args.self.now.at_once c.requires.at_once

pub returns-in_err-announce-clause-ok : goal.returns-in_err-announce-clause-ok
returns-in_err-announce-clause-ok g c =
    λ aim steps out ready.
    ok_of_err c.from_residual-in_err-announce.result _ c.from_residual-in_err-announce.ensures.0

pub returns-clause-none : goal.returns-clause-none
returns-clause-none g c = c.args.self.now.at_once c.requires.at_once

pub returns-in_err-kept-clause-none : goal.returns-in_err-kept-clause-none
returns-in_err-kept-clause-none g c = c.args.self.now.at_once c.requires.at_once
