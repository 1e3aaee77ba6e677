use Rattle.std.proofs.lemmas.Result.{IfOk-weaker}
use Rattle.pg_words.proofs.Table.{letter_rule, long_rule}
use Rattle.pg_words.proofs.command.OptionRow.arg.Goals as goal

pub returns-in-Letter-clause-rule : goal.returns-in-Letter-clause-rule
returns-in-Letter-clause-rule c =
    IfOk-weaker c.aliases.result _ _
    (λ arg adds. letter_rule c.named.result c.long.result c.short.result arg c.args.self.now c.in-Letter.letter
    c.in-Letter.others c.in-Letter.is c.named.ensures.rule c.named.ensures.alone c.long.ensures c.short.ensures adds)
    c.aliases.ensures

pub returns-in-Long-clause-rule : goal.returns-in-Long-clause-rule
returns-in-Long-clause-rule c =
    IfOk-weaker c.aliases-in-Long.result _ _
    (λ arg adds. long_rule c.named-in-Long.result c.long-in-Long.result arg c.args.self.now c.in-Long.others
    c.in-Long.is c.named-in-Long.ensures.rule c.named-in-Long.ensures.alone c.long-in-Long.ensures adds)
    c.aliases-in-Long.ensures
