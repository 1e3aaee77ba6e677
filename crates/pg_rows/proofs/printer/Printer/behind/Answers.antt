use Rattle.std.proofs.Common.{arith}
use Rattle.pg_rows.proofs.SizeLemmas.{size_few}
use Rattle.pg_rows.proofs.printer.Printer.behind.Goals as goal

pub overflow_add-result : goal.overflow_add-result
overflow_add-result g c =
    let few = size_few c.args.self.now.end c.args.bytes.now in
    omega (arith, few, c.size_of_lines.ensures, c.requires)
