use Rattle.std.proofs.Common.{◌≡◌, ◌+◌, drop}
use Rattle.std.specs.List.{position_or_len}
use Rattle.pg_words.specs.Joined.{letter_takes_value}
use Rattle.pg_words.proofs.split.value_start.Given as goal

abbrev pub invariant-loop-at : goal.invariant-loop-at
invariant-loop-at l =
    l.at + position_or_len letter_takes_value (drop l.at l.word) ≡ position_or_len letter_takes_value l.word
