use Rattle.std.proofs.Common.{◌∙◌, ap}
use Rattle.pg_glob.proofs.GlobFileLemmas.{none_added, rules_behind, rules_from}
use Rattle.pg_glob.proofs.filter.Filter.push_lines.Goals as goal

pub loop-byte-init : goal.loop-byte-init
loop-byte-init g c =
    none_added _
    (ap (λ line. rules_behind line c.args.text.now) c.new-line.ensures.items ∙ rules_from c.args.text.now)
