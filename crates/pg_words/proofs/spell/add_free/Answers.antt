use Rattle.std.proofs.Common.{◌∙◌, [], map, sym}
use Rattle.std.specs.String.{string_bytes}
use Rattle.pg_words.proofs.Spells.{free_behind, spell_full, value_behind}
use Rattle.pg_words.proofs.spell.add_free.Goals as goal

pub returns-then-waits : goal.returns-then-waits
returns-then-waits c =
    let word = c.args.word.now in
    let part = c.as_str-part.result.now in
    let full = c.as_str-part.ensures.value ∙ c.in_ok-full.ensures in (
      value_behind word part full (sym c.waits.ensures ∙ c.if-waits.true),
      spell_full (map string_bytes c.args.parts.now.items) (map string_bytes c.add_word_spelled.new.parts.items) []
          word part full c.in_ok-add_word_spelled.ensures,
    )

pub returns : goal.returns
returns c =
    let word = c.args.word.now in
    let part = c.as_str-part.result.now in
    let full = c.as_str-part.ensures.value ∙ c.in_ok-full.ensures in (
      free_behind word part full (sym c.waits.ensures ∙ c.if-waits.false),
      spell_full (map string_bytes c.args.parts.now.items) (map string_bytes c.add_word_spelled.new.parts.items) []
          word part full c.in_ok-add_word_spelled.ensures,
    )
