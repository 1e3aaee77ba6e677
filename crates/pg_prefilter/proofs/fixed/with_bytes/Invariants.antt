use Rattle.std.proofs.Common.{◌≡◌, map, take}
use Rattle.pg_grammar.specs.Slices.{bytes_of}
use Rattle.pg_pattern.specs.Strings.{items_of}
use Rattle.pg_prefilter.specs.Strings.{without_empty}
use Rattle.pg_prefilter.proofs.fixed.with_bytes.Given as goal

abbrev pub invariant-loop-string : goal.invariant-loop-string
invariant-loop-string g l = map items_of l.copies.items ≡ without_empty (bytes_of (take l.string-index l.strings))
