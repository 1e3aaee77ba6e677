use Rattle.std.proofs.Common.{refl}
use Rattle.pg_bytes.specs.ByteSets.{bytes}
use Rattle.pg_pattern.proofs.PatternLemmas.{pattern-set}
use Rattle.pg_syntax.proofs.Literals.{literal_first, literal_more}
use Rattle.pg_syntax.proofs.parser.literal.Goals as goal

pub loop-at-init : goal.loop-at-init
loop-at-init g c = literal_first c.args.fold c.args.text.now _ (bytes c.folded.result) _ c.requires
    (pattern-set _ _ refl) c.folded.ensures c.one.ensures

pub loop-at-preserved : goal.loop-at-preserved
loop-at-preserved g c =
    literal_more c.args.fold c.args.text.now c.loop-at.at _ _ _
    (bytes c.folded-in-loop-at.result) _ c.loop-at-test.true c.in_ok-tree.ensures
    (pattern-set _ _ refl) c.folded-in-loop-at.ensures c.one-in-loop-at.ensures c.loop-at.invariant
