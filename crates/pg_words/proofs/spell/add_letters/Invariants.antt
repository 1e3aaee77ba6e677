use Rattle.std.proofs.Common.{◌≡◌, ◌++◌, [], drop, map}
use Rattle.std.specs.Str.{IsCharBoundary}
use Rattle.std.specs.String.{string_bytes}
use Rattle.pg_words.specs.Line.{table}
use Rattle.pg_words.specs.Spelled.{letter_words}
use Rattle.pg_words.proofs.spell.add_letters.Given as goal

-- the letters before this one have their words, but for the digits that end them
abbrev pub invariant-loop-at : goal.invariant-loop-at
invariant-loop-at l =
    (map string_bytes l.parts.items ++ letter_words table l.word (string_bytes l.digits) (drop l.at l.letters)
    ≡ map string_bytes l.initial.parts.items ++ letter_words table l.word [] l.letters)
    × IsCharBoundary l.letters l.at
