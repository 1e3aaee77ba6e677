use Rattle.std.proofs.Common.{ℕ, Vec, ap, arith}
use Rattle.pg_blocks.proofs.BufferLemmas.{front_written, long_enough, all_begins, all_within}
use Rattle.pg_blocks.proofs.cutter.buffer_behind.Goals as goal

pub returns-then-len-bytes-clause-within : goal.returns-then-len-bytes-clause-within
returns-then-len-bytes-clause-within g c =
    all_within c.from_slice.result c.args.bytes.now c.from_slice.ensures.items

pub returns-then-len-bytes-clause-begins : goal.returns-then-len-bytes-clause-begins
returns-then-len-bytes-clause-begins g c =
    all_begins c.from_slice.result c.args.bytes.now c.from_slice.ensures.items

pub returns-clause-begins : goal.returns-clause-begins
returns-clause-begins g c =
    let v = c.replace-buffer.result in
    let len = ap (λ (b : Vec ℕ g.row.A.Denot). b.len) c.replace-buffer.ensures.value in
    front_written v c.args.bytes.now c.copy_from_slice.new.self c.copy_from_slice.ensures.after
    (omega (arith, c.if-len-bytes.false, c.len.ensures, len))

pub returns-clause-within : goal.returns-clause-within
returns-clause-within g c = long_enough _ c.args.bytes.now (returns-clause-begins g c)
