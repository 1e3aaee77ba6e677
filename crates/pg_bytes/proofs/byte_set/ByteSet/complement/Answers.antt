use Rattle.std.proofs.Common.{ℕ, zero, suc, ◌<◌, ◌^◌, get_or, rules, arith, List}
use Rattle.pg_bytes.proofs.WordLemmas.{in_words-not}
use Rattle.pg_bytes.proofs.byte_set.ByteSet.complement.Goals as goal

four : (ws : List ℕ) → get_or ws 0 0 < 2 ^ 64 → get_or ws 1 0 < 2 ^ 64 → get_or ws 2 0 < 2 ^ 64 → get_or ws 3 0 < 2 ^ 64
    → (k : ℕ) → k < 4 → get_or ws k 0 < 2 ^ 64
four ws a b c d zero h = a
four ws a b c d (suc zero) h = b
four ws a b c d (suc (suc zero)) h = c
four ws a b c d (suc (suc (suc zero))) h = d
four ws a b c d (suc (suc (suc (suc k)))) h = absurd (omega arith)

pub returns : goal.returns
returns c = in_words-not c.args.self.words
    (four c.args.self.words (search rules) (search rules) (search rules) (search rules))
