use Rattle.std.proofs.Common.{◌∙◌, ap, []}
use Rattle.std.proofs.lemmas.Result.{IfOk-weaker}
use Rattle.pg_words.specs.App.{app_of_rules}
use Rattle.pg_words.proofs.Table.{all_added}
use Rattle.pg_words.proofs.command.search_command.Goals as goal

pub returns : goal.returns
returns c =
    IfOk-weaker c.args-2.result _ _
    (λ new adds. all_added c.in_ok-args.args.items c.bare_command.result new adds c.in_ok-args.ensures.local []
    c.bare_command.ensures ∙ ap app_of_rules c.in_ok-args.ensures.rules)
    c.args-2.ensures
