use Rattle.std.proofs.Common.{◌≡◌, map, take}
use Rattle.pg_grammar.specs.Memory.{patterns_of}
use Rattle.pg_grammar.specs.PatternLists.{patterns}
use Rattle.pg_grammar.specs.Slices.{bytes_of}
use Rattle.pg_syntax.proofs.list.texts_of.Given as goal

abbrev pub invariant-loop-list : goal.invariant-loop-list
invariant-loop-list g l = bytes_of l.texts.items ≡ patterns (map patterns_of (take l.list-index l.lists))
