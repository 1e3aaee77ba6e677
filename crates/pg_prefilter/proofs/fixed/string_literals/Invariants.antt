use Rattle.std.proofs.Common.{take}
use Rattle.pg_grammar.specs.Slices.{bytes_of}
use Rattle.pg_prefilter.specs.Fixed.{AreStringLiterals}
use Rattle.pg_prefilter.proofs.fixed.string_literals.Given as goal

abbrev pub invariant-loop-string : goal.invariant-loop-string
invariant-loop-string g l =
    AreStringLiterals l.fold l.bounds (bytes_of (take l.string-index l.strings)) l.literals.items
