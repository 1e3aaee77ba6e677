use Rattle.std.proofs.Common.{◌≡◌, ◌≤◌, ◌-◌, ◌++◌, length, drop}
use Rattle.pg_grammar.specs.PatternLists.{split}
use Rattle.pg_bytes.specs.Lines.{lines}
use Rattle.pg_grammar.specs.Slices.{bytes_of}
use Rattle.pg_syntax.proofs.list.push_ended.Given as goal

abbrev pub invariant-loop-len : goal.invariant-loop-len
invariant-loop-len g l = record {
  within : l.start ≤ length l.text;
  split : bytes_of l.texts.items ++ split (drop l.start l.text) ≡ bytes_of l.fn.texts.items ++ split l.text;
  lines : bytes_of l.texts.items ++ lines 10 (drop l.start l.text) ≡ bytes_of l.fn.texts.items ++ lines 10 l.text;
}

abbrev pub decreases-loop-len : goal.decreases-loop-len
decreases-loop-len g l = length l.text - l.start
