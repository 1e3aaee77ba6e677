use Rattle.pg_lines.proofs.StringLemmas.{strings_fixed}
use Rattle.pg_lines.proofs.query.searchers_of_strings.Goals as goal

pub of_strings-requires-clause-fixed : goal.of_strings-requires-clause-fixed
of_strings-requires-clause-fixed g c = strings_fixed c.args.text.now c.args.strings.now c.requires.strings
