use Rattle.std.proofs.Common.{◌∙◌, sym}
use Rattle.pg_words.proofs.Spells.{flag_low}
use Rattle.pg_words.proofs.spell.add_letter.Goals as goal

pub add_flag-requires : goal.add_flag-requires
add_flag-requires c =
    flag_low c.args.letter c.newer_letter.result (sym c.is_ascii_digit.ensures.value ∙ c.if-is_ascii_digit.false)
    c.requires c.newer_letter.ensures
