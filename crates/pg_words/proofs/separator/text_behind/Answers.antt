use Rattle.std.proofs.Common.{◌∙◌, arith, option_map, sym}
use Rattle.std.proofs.lemmas.Str.Pattern.{split_parts}
use Rattle.pg_words.proofs.SeparatorWords.{none_named, none_said, other_named, text_said}
use Rattle.pg_words.proofs.separator.text_behind.Goals as goal

pub returns-then-eq : goal.returns-then-eq
returns-then-eq c = λ us is.
    none_said c.args.part.now us (option_map (λ text. text.now) c.args.before) (sym c.eq.ensures ∙ c.if-eq.true) is

pub returns-then-eq-2 : goal.returns-then-eq-2
returns-then-eq-2 c = λ us is.
    let part = c.args.part.now in
    let cut = split_parts 61 part c.split_once.result c.split_once.ensures.cases (omega arith) in
    let parts = rw c.in-Some.is at cut in
    text_said part c.in-Some.option.now c.in-Some.text.now us (option_map (λ text. text.now) c.args.before) parts.0
    (sym c.eq-in-Some.ensures ∙ c.if-eq-2.true) is

pub returns-else-eq-2 : goal.returns-else-eq-2
returns-else-eq-2 c = λ us is.
    let part = c.args.part.now in
    let cut = split_parts 61 part c.split_once.result c.split_once.ensures.cases (omega arith) in
    let parts = rw c.in-Some.is at cut in
    other_named part c.in-Some.option.now c.in-Some.text.now us (option_map (λ text. text.now) c.args.before) parts.0
    parts.1 (sym c.eq-in-Some.ensures ∙ c.if-eq-2.false) is

pub returns-in-None : goal.returns-in-None
returns-in-None c = λ us is.
    let part = c.args.part.now in
    let cut = split_parts 61 part c.split_once.result c.split_once.ensures.cases (omega arith) in
    let lacks = rw c.in-None.is at cut in
    none_named part us (option_map (λ text. text.now) c.args.before) lacks (sym c.eq.ensures ∙ c.if-eq.false) is
