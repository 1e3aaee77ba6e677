use Rattle.pg_match.specs.Strings.{string_patterns}
use Rattle.pg_match.specs.Tables.{HasFirst}
use Rattle.pg_match.proofs.strings.assemble_strings.Given as goal

abbrev pub invariant-loop-i : goal.invariant-loop-i
invariant-loop-i g l = HasFirst l.states.items (string_patterns l.fold l.strings) l.i l.start
