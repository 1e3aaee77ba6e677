use Rattle.std.proofs.Common.{◌∙◌, ap, sym, map, List, ℕ, ◌++◌}
use Rattle.std.specs.String.{string_bytes}
use Rattle.pg_words.proofs.Cuts.{step_free, step_mark, step_rest, step_value, step_wait}
use Rattle.pg_words.proofs.split.add_word.Goals as goal

pub returns-in_ok-add_joined-in-Value : goal.returns-in_ok-add_joined-in-Value
returns-in_ok-add_joined-in-Value c = λ rest.
    rw c.in-Value.is (step_value (map string_bytes c.args.parts.now.items)
    (map string_bytes c.add_joined.new.parts.items) rest c.args.word.now c.in-Value.option.now
    c.in_ok-add_joined-in-Value.ensures)

pub returns-in_ok-add_copy-in-Operand : goal.returns-in_ok-add_copy-in-Operand
returns-in_ok-add_copy-in-Operand c = λ rest.
    rw c.in-Operand.is (step_rest (map string_bytes c.args.parts.now.items)
    (map string_bytes c.add_copy.new.parts.items) rest c.args.word.now c.in_ok-add_copy-in-Operand.ensures)

pub returns-in_ok-add_copy-in-Free : goal.returns-in_ok-add_copy-in-Free
returns-in_ok-add_copy-in-Free c = λ rest.
    rw c.in-Free.is (step_mark (map string_bytes c.args.parts.now.items)
    (map string_bytes c.add_copy-in-Free.new.parts.items) rest c.args.word.now
    (sym c.is_mark.ensures ∙ c.if-is_mark.true) c.in_ok-add_copy-in-Free.ensures)

pub returns-in-Free-2 : goal.returns-in-Free-2
returns-in-Free-2 c = λ rest.
    let before = map string_bytes c.args.parts.now.items in
    rw c.in-Free-2.is (ap (λ (l : List (List ℕ)). before ++ l) (step_wait before before rest c.args.word.now
    (sym c.is_mark.ensures ∙ c.if-is_mark.false) (sym c.waits.ensures ∙ c.if-waits.true)))

pub returns-in_ok-add_joined-in-Free-3 : goal.returns-in_ok-add_joined-in-Free-3
returns-in_ok-add_joined-in-Free-3 c = λ rest.
    rw c.in-Free-3.is (step_free (map string_bytes c.args.parts.now.items)
    (map string_bytes c.add_joined-in-Free-3.new.parts.items) rest c.args.word.now
    (sym c.is_mark.ensures ∙ c.if-is_mark.false) (sym c.waits.ensures ∙ c.if-waits.false)
    c.in_ok-add_joined-in-Free-3.ensures)
