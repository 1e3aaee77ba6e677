use Rattle.std.proofs.Common.{map, take}
use Rattle.pg_pattern.specs.Trees.{pattern}
use Rattle.pg_grammar.specs.Slices.{bytes_of}
use Rattle.pg_grammar.specs.ListResults.{AreSpelled}
use Rattle.pg_syntax.proofs.list.parse_texts.Given as goal

abbrev pub invariant-loop-text : goal.invariant-loop-text
invariant-loop-text g l = AreSpelled l.kind l.fold (bytes_of (take l.text-index l.texts)) (map pattern l.trees.items)
