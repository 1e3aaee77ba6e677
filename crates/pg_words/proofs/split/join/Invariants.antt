use Rattle.std.proofs.Common.{◌≡◌, ◌++◌, drop, map}
use Rattle.std.specs.String.{string_bytes}
use Rattle.pg_words.specs.Joined.{Free, joined_from}
use Rattle.pg_words.specs.Line.{table}
use Rattle.pg_words.specs.Places.{next_word_of}
use Rattle.pg_words.proofs.split.join.Given as goal

abbrev pub invariant-loop-word : goal.invariant-loop-word
invariant-loop-word l =
    map string_bytes l.parts.items ++ joined_from table (next_word_of l.place)
    (map string_bytes (drop l.word-index l.words))
    ≡ joined_from table Free (map string_bytes l.words)
