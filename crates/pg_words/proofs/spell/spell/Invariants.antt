use Rattle.std.proofs.Common.{◌≡◌, ◌++◌, drop, map}
use Rattle.std.specs.String.{string_bytes}
use Rattle.pg_words.specs.Joined.{Free}
use Rattle.pg_words.specs.Line.{table}
use Rattle.pg_words.specs.Places.{next_word_of}
use Rattle.pg_words.specs.Spelled.{spelled_from}
use Rattle.pg_words.proofs.spell.spell.Given as goal

abbrev pub invariant-loop-word : goal.invariant-loop-word
invariant-loop-word l =
    map string_bytes l.parts.items ++ spelled_from table (next_word_of l.place)
    (map string_bytes (drop l.word-index l.words))
    ≡ spelled_from table Free (map string_bytes l.words)
