use Rattle.std.proofs.Common.{◌-◌, arith}
use Rattle.pg_seq.proofs.StartLemmas.{lengthens}
use Rattle.pg_seq.proofs.file_starts.lengthen.Goals as goal

pub returns : goal.returns
returns g c = lengthens c.take_in.result c.args.progressions.now.items (c.len-count.result - 1) c.args.file c.args.start
    c.index_mut-last.result.now c.take_in.new.self (omega arith) c.index_mut-last.ensures.value c.take_in.ensures
