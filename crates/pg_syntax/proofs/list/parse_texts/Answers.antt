use Rattle.std.proofs.Common.{◌≡◌, ◌+◌, length, map, arith}
use Rattle.pg_pattern.specs.Trees.{pattern}
use Rattle.pg_grammar.specs.Slices.{bytes_of}
use Rattle.pg_grammar.proofs.ListLemmas.{trees-more, memory-refused, first-refused}
use Rattle.std.proofs.lemmas.List.{length-map}
use Rattle.pg_syntax.proofs.list.parse_texts.Goals as goal
use Rattle.pg_syntax.proofs.list.parse_texts.Goals.{in-OutOfMemory, in_default}

pub returns-in-Err-clause-refused : goal.returns-in-Err-clause-refused
returns-in-Err-clause-refused g c =
    let texts = c.args.texts.now in
    let trees = c.loop-text.trees in
    elim c.match-fault.branch [
      | in-OutOfMemory w ↦ memory-refused c.args.kind c.args.fold
          (bytes_of texts) _ c.in-Err.fault _ w.pattern-is w.in-OutOfMemory.is c.in-Err.ensures.refused
      | in_default w ↦
          let number : c.match-fault.pattern ≡ length (map pattern trees.items) + 1 =
          omega (arith, w.pattern-is, w.len.ensures, trees.ok.0, length-map trees.items pattern) in
          first-refused c.args.kind c.args.fold texts c.loop-text.text-index _
          (map pattern trees.items) c.in-Err.fault _ c.loop-text-test.true number w.in_default.not-OutOfMemory
          c.loop-text.invariant c.in-Err.ensures.refused
    ]

pub loop-text-preserved : goal.loop-text-preserved
loop-text-preserved g c =
    trees-more c.args.kind c.args.fold c.args.texts.now c.loop-text.text-index _ c.loop-text.trees.items
    c.push.new.self.items c.in-Ok.tree c.loop-text-test.true c.in_ok-push-in-Ok.ensures.items
    c.loop-text.invariant c.in-Ok.ensures.spelled
