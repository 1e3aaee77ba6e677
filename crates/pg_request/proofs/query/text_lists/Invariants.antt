use Rattle.std.proofs.Common.{◌≡◌, map, take}
use Rattle.pg_grammar.specs.Memory.{patterns_of}
use Rattle.pg_grammar.specs.Slices.{bytes_of}
use Rattle.pg_selection.specs.Search.{Split}
use Rattle.pg_request.proofs.query.text_lists.Given as goal

abbrev pub invariant-loop-text : goal.invariant-loop-text
invariant-loop-text l = map patterns_of l.lists.items ≡ map Split (bytes_of (take l.text-index l.texts))
