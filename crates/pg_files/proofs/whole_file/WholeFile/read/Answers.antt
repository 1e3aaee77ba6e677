use Rattle.std.proofs.Common.{arith, ◌∙◌, ◌-◌, ap, take, drop, length}
use Rattle.pg_files.proofs.WholeFileLemmas.{left_is_given}
use Rattle.pg_files.proofs.whole_file.WholeFile.read.Goals as goal

pub returns-clause-consumes : goal.returns-clause-consumes
returns-clause-consumes g c =
    let bytes = c.as_slice-bytes.ensures.value in
    left_is_given c.args.self.now.bytes.items c.copy_from_slice.new.self (drop c.min-count.result c.args.into.now)
    c.args.given.now c.min-count.result
    (c.copy_from_slice.ensures.after
    ∙ ap (λ xs. take c.min-count.result (take (length xs - c.args.given.now) (drop c.args.given.now xs))) bytes)
    (omega (arith, ap length bytes, c.min-count.ensures))
