use Rattle.std.proofs.Common.{◌∙◌, ap, get_or, set, rules, arith, ◌*◌, ◌^◌, ◌%◌}
use Rattle.std.specs.Prelude.{bit_or}
use Rattle.pg_bytes.specs.ByteSets.{in_words}
use Rattle.pg_bytes.proofs.WordLemmas.{in_words-set}
use Rattle.pg_bytes.proofs.byte_set.ByteSet.insert.Goals as goal

pub returns : goal.returns
returns c =
    let ws = c.args.self.now.words in
    ap (λ k. in_words (set ws k (bit_or (get_or ws k 0) (1 * 2 ^ (c.args.byte % 64) % 18446744073709551616))))
    c.from.ensures
    ∙ in_words-set ws c.args.byte (search rules) (omega arith)
