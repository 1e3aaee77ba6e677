use Rattle.std.proofs.Common.{◌∙◌, ◌<◌, get_or, length, map, refl, sym}
use Rattle.std.specs.String.{string_bytes}
use Rattle.std.proofs.lemmas.Str.{IsCharBoundary-after_ascii, IsCharBoundary-start}
use Rattle.pg_words.proofs.Spells.{letter_kept, own_word_low}
use Rattle.pg_words.proofs.spell.add_letters.Goals as goal

pub loop-at-init : goal.loop-at-init
loop-at-init c = (rw c.new-digits.ensures.bytes refl, IsCharBoundary-start c.args.letters.now c.utf8.letters)

pub loop-at-preserved : goal.loop-at-preserved
loop-at-preserved c =
    let letters = c.args.letters.now in
    let at = c.loop-at.at in
    let same = sym c.as_bytes-letter-items.ensures.value in
    let within : at < length letters = rw same c.loop-at-test.true in
    let own = sym c.has_own_word.ensures ∙ c.if-not-has_own_word.false in
    let low : get_or letters at 0 < 128 = rw same (own_word_low _ own) in (
      letter_kept letters c.args.word.now at 0 (map string_bytes c.loop-at.parts.items)
          (map string_bytes c.add_letter.new.parts.items) _ (string_bytes c.loop-at.digits)
          (string_bytes c.add_letter.new.digits) within (rw same c.in_ok-add_letter.ensures)
          c.loop-at.invariant.0,
      IsCharBoundary-after_ascii letters at c.utf8.letters within low,
    )
