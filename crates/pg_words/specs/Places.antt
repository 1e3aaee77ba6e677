-- What the next word is, as the code has it.
use Rattle.pg_words.specs.Joined.{NextWord, Free, ValueOf, Rest}
use Rattle.pg_words.specs.declared.split.Place.{Place as CodePlace}
use Rattle.pg_words.specs.declared.split.Place.TheVariants as place

abbrev pub next_word_of : CodePlace → NextWord
next_word_of place.Free = Free
next_word_of (place.Value word) = ValueOf word.now
next_word_of place.Operand = Rest
