use Rattle.std.proofs.Common.{◌∙◌, sym, map}
use Rattle.std.specs.String.{string_bytes}
use Rattle.std.proofs.lemmas.Result.{IfOk-weaker}
use Rattle.pg_words.specs.Places.{next_word_of}
use Rattle.pg_words.proofs.Spells.{spell_free, spell_mark, spell_rest, spell_value}
use Rattle.pg_words.proofs.spell.add_spelled.Goals as goal

pub returns-in_ok-add_copy-in-Value : goal.returns-in_ok-add_copy-in-Value
returns-in_ok-add_copy-in-Value c = λ rest.
    rw c.in-Value.is (spell_value (map string_bytes c.args.parts.now.items)
    (map string_bytes c.add_copy.new.parts.items) rest c.args.word.now c.in-Value.field-0.now
    c.in_ok-add_copy-in-Value.ensures)

pub returns-in_ok-add_copy-in-Operand : goal.returns-in_ok-add_copy-in-Operand
returns-in_ok-add_copy-in-Operand c = λ rest.
    rw c.in-Operand.is (spell_rest (map string_bytes c.args.parts.now.items)
    (map string_bytes c.add_copy-in-Operand.new.parts.items) rest c.args.word.now
    c.in_ok-add_copy-in-Operand.ensures)

pub returns-in_ok-add_copy-in-Free : goal.returns-in_ok-add_copy-in-Free
returns-in_ok-add_copy-in-Free c = λ rest.
    rw c.in-Free.is (spell_mark (map string_bytes c.args.parts.now.items)
    (map string_bytes c.add_copy-in-Free.new.parts.items) rest c.args.word.now
    (sym c.is_mark.ensures ∙ c.if-is_mark.true) c.in_ok-add_copy-in-Free.ensures)

pub returns-in-Free-2 : goal.returns-in-Free-2
returns-in-Free-2 c =
    IfOk-weaker c.add_free.result _ _
    (λ next adds rest. rw c.in-Free-2.is (spell_free (map string_bytes c.args.parts.now.items)
    (map string_bytes c.add_free.new.parts.items) rest c.args.word.now (next_word_of next)
    (sym c.is_mark.ensures ∙ c.if-is_mark.false) adds))
    c.add_free.ensures
