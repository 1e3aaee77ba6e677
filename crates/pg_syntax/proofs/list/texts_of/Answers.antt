use Rattle.std.proofs.Common.{◌++◌, map, take, sym, ap, ◌∙◌, arith}
use Rattle.std.proofs.lemmas.List.{take_all}
use Rattle.pg_grammar.specs.Memory.{patterns_of}
use Rattle.pg_grammar.specs.PatternLists.{patterns, patterns_in}
use Rattle.pg_grammar.proofs.ListLemmas.{patterns-push, take-push, map-push}
use Rattle.pg_grammar.specs.Slices.{bytes_of}
use Rattle.pg_syntax.proofs.list.texts_of.Goals as goal

pub loop-list-preserved : goal.loop-list-preserved
loop-list-preserved g c =
    let lists = c.args.lists.now in
    let i = c.loop-list.list-index in
    let list = c.list-item.result in
    let one_more = ap (λ xs. patterns (map patterns_of xs))
    (take-push lists i list c.loop-list-test.true (sym c.list-item.is))
    ∙ (ap patterns (map-push patterns_of (take i lists) list)
    ∙ patterns-push (map patterns_of (take i lists)) (patterns_of list)) in
    c.in_ok-push_texts.ensures ∙ (ap (λ t. t ++ patterns_in (patterns_of list)) c.loop-list.invariant ∙ sym one_more)

pub loop-list-init : goal.loop-list-init
loop-list-init g c = ap bytes_of c.new-texts.ensures.items

pub returns : goal.returns
returns g c =
    c.loop-list.invariant
    ∙ ap (λ lists. patterns (map patterns_of lists)) (take_all c.loop-list.list-index c.args.lists.now (omega arith))
