use Rattle.std.proofs.Common.{◌≡◌, drop, map, option_map, None}
use Rattle.pg_words.specs.Line.{last_of}
use Rattle.pg_words.proofs.matches.last_of.Given as goal

abbrev pub invariant-loop-text : goal.invariant-loop-text
invariant-loop-text l =
    last_of (map (λ text. text.now) (drop l.text-index l.texts)) (option_map (λ text. text.now) l.last)
    ≡ last_of (map (λ text. text.now) l.texts) None
