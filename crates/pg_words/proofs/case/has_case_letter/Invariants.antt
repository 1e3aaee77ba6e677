use Rattle.std.proofs.Common.{◌≡◌, drop}
use Rattle.pg_words.specs.Joined.{case_letters}
use Rattle.pg_words.proofs.case.has_case_letter.Given as goal

abbrev pub invariant-loop-letter : goal.invariant-loop-letter
invariant-loop-letter l = case_letters (drop l.letter-index l.letters) ≡ case_letters l.letters
