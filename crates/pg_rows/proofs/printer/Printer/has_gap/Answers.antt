use Rattle.std.proofs.Common.{◌≡◌, ◌&&◌, nat_lt, true, cond, sym, ap, ◌∙◌, rules}
use Rattle.pg_rows.specs.Output.{context, has_separators}
use Rattle.pg_rows.proofs.printer.Printer.has_gap.Goals as goal

pub returns-else-progress : goal.returns-else-progress
returns-else-progress g c =
    let self = c.args.self.now in
    let p = c.args.progress in
    let far = nat_lt (context self.format.before) p.behind in
    let some : has_separators self.format ≡ true = search rules in
    sym (ap (λ b. b && cond p.shown far self.earlier) some ∙ ap (λ b. cond b far self.earlier) c.if-progress.false)
