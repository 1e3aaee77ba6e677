use Rattle.std.proofs.Common.{◌≡◌, ◌∙◌, ap, arith, map, reverse, sym, take}
use Rattle.std.proofs.lemmas.List.{take_all}
use Rattle.pg_bytes.specs.ByteSets.{bytes}
use Rattle.pg_literal.specs.Needed.{without}
use Rattle.pg_literal.proofs.FinderLemmas.{map_reverse, without_more}
use Rattle.pg_literal.proofs.row_finder.within_lines.Goals as goal

pub loop-set-preserved : goal.loop-set-preserved
loop-set-preserved g c =
    without_more c.args.end c.loop-set.set-index c.args.row.now c.loop-set.sets.items c.push.new.self.items _
    c.within_line.result c.loop-set-test.true c.within_line.ensures c.in_ok-push.ensures.items c.loop-set.invariant

pub returns : goal.returns
returns g c =
    let row = c.args.row.now in
    let all : take c.loop-set.set-index row ≡ row = take_all _ row (omega arith) in
    ap (map bytes) c.reverse.ensures.items
    ∙ (map_reverse bytes c.loop-set.sets.items
    ∙ (ap reverse (c.loop-set.invariant ∙ ap (λ xs. map (without c.args.end) (map bytes xs)) all)
    ∙ sym (map_reverse (without c.args.end) (map bytes row))))
