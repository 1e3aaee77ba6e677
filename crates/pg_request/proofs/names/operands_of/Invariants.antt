use Rattle.std.proofs.Common.{◌≡◌, map, take}
use Rattle.std.specs.String.{string_bytes}
use Rattle.pg_grammar.specs.Slices.{bytes_of}
use Rattle.pg_request.proofs.names.operands_of.Given as goal

abbrev pub invariant-loop-file : goal.invariant-loop-file
invariant-loop-file l = map string_bytes l.operands.items ≡ bytes_of (take l.file-index l.files)
