use Rattle.std.proofs.Common.{◌≡◌, ◌++◌, drop, map, not, true}
use Rattle.std.specs.List.{list_all}
use Rattle.clap.specs.Words.{rule_of}
use Rattle.pg_words.specs.App.{rule_for}
use Rattle.pg_words.proofs.command.args_of.Given as goal

abbrev pub invariant-loop-row : goal.invariant-loop-row
invariant-loop-row l =
    (map rule_of l.args.items ++ map rule_for (drop l.row-index l.rows) ≡ map rule_for l.rows)
    × (list_all (λ arg. not arg.global) l.args.items ≡ true)
