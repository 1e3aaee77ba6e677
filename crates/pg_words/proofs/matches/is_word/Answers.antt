use Rattle.std.proofs.Common.{rules}
use Rattle.std.proofs.lemmas.Slice.Eq.{bytes_eq-Decides}
use Rattle.pg_words.proofs.matches.is_word.Goals as goal

pub returns : goal.returns
returns c = search (rules, bytes_eq-Decides)
