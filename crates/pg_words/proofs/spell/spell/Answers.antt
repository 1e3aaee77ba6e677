use Rattle.std.proofs.Common.{map}
use Rattle.std.specs.String.{string_bytes}
use Rattle.pg_words.specs.Places.{next_word_of}
use Rattle.pg_words.proofs.Spells.{all_spelled}
use Rattle.pg_words.proofs.spell.spell.Goals as goal

pub returns : goal.returns
returns c =
    all_spelled c.args.words.now c.loop-word.word-index (map string_bytes c.loop-word.parts.items) _
    (next_word_of c.loop-word.place) c.loop-word-test.false c.loop-word.invariant
