use Rattle.pg_bytes.proofs.CaseLemmas.{in_words-closed}
use Rattle.pg_bytes.proofs.byte_set.ByteSet.close_case.Goals as goal

pub returns : goal.returns
returns c = in_words-closed c.args.self.words
