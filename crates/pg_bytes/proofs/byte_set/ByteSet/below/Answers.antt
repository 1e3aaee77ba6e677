use Rattle.std.proofs.Common.{◌-◌, ◌^◌, min, ap, ◌∙◌}
use Rattle.pg_bytes.proofs.WordLemmas.{in_words-low_bits}
use Rattle.pg_bytes.proofs.byte_set.ByteSet.below.Goals as goal

pub returns : goal.returns
returns c =
    in_words-low_bits c.args.bound _ _ _ _ c.requires c.low_bits.ensures
    (c.low_bits-2.ensures ∙ ap (λ k. 2 ^ min k 64 - 1) c.saturating_sub.ensures)
    (c.low_bits-3.ensures ∙ ap (λ k. 2 ^ min k 64 - 1) c.saturating_sub-2.ensures)
    (c.low_bits-4.ensures ∙ ap (λ k. 2 ^ min k 64 - 1) c.saturating_sub-3.ensures)
