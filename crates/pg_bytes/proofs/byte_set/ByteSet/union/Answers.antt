use Rattle.pg_bytes.proofs.WordLemmas.{in_words-or}
use Rattle.pg_bytes.proofs.byte_set.ByteSet.union.Goals as goal

pub returns : goal.returns
returns c = in_words-or c.args.self.words c.args.other.words
