use Rattle.std.proofs.Common.{◌≡◌, arith}
use Rattle.std.proofs.lemmas.Grind.{common_steps}
use Rattle.pg_literal.specs.Literals.{as_searched}
use Rattle.pg_lines.proofs.query.Query.may.Goals as goal

pub returns-in_ok-lowered : goal.returns-in_ok-lowered
returns-in_ok-lowered g c = λ lacks trees spelled.
    let lowered : c.deref.result.now ≡ as_searched c.args.self.now.text.fold c.args.bytes.now =
    grind (arith, common_steps) in
    c.may_hold.ensures lacks c.args.bytes.now lowered trees spelled
