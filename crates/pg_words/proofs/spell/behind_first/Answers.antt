use Rattle.std.proofs.Common.{◌≡◌, arith}
use Rattle.std.specs.Prelude.{slice_index}
use Rattle.std.proofs.lemmas.Str.{IsCharBoundary-after_ascii}
use Rattle.pg_words.proofs.spell.behind_first.Goals as goal

-- a hyphen is ASCII
pub split_at-requires : goal.split_at-requires
split_at-requires c =
    let first : slice_index c.args.word.now 0 ≡ 45 = c.requires.hyphen in
    IsCharBoundary-after_ascii c.args.word.now 0 c.utf8.word (omega (arith, c.requires.letters))
    (omega (arith, first))
