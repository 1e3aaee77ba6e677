use Rattle.std.proofs.Common.{◌∙◌, ap, arith, sym}
use Rattle.std.proofs.lemmas.Str.Pattern.{split_parts}
use Rattle.pg_words.specs.Filters.{filter_or_none}
use Rattle.pg_words.proofs.FilterWords.{exclude_from_named, exclude_named, include_named, none_named, other_named}
use Rattle.pg_words.proofs.filters.filter_of.Goals as goal

pub returns-in_err-option : goal.returns-in_err-option
returns-in_err-option c = λ us is.
    let part = c.args.part.now in
    let cut = split_parts 61 part c.split_once.result c.split_once.ensures.cases (omega arith) in
    let none = rw c.in_err-option.was at cut in
    ap filter_or_none c.from_residual.ensures ∙ none_named part us none is

pub returns-then-eq : goal.returns-then-eq
returns-then-eq c = λ us is.
    let part = c.args.part.now in
    let cut = split_parts 61 part c.split_once.result c.split_once.ensures.cases (omega arith) in
    let parts = rw c.in_ok-option.was at cut in
    include_named part c.in_ok-option.option.now c.in_ok-option.value.now us parts.0
    (sym c.eq.ensures ∙ c.if-eq.true) is

pub returns-then-eq-2 : goal.returns-then-eq-2
returns-then-eq-2 c = λ us is.
    let part = c.args.part.now in
    let cut = split_parts 61 part c.split_once.result c.split_once.ensures.cases (omega arith) in
    let parts = rw c.in_ok-option.was at cut in
    exclude_named part c.in_ok-option.option.now c.in_ok-option.value.now us parts.0
    (sym c.eq-2.ensures ∙ c.if-eq-2.true) is

pub returns-then-eq-3 : goal.returns-then-eq-3
returns-then-eq-3 c = λ us is.
    let part = c.args.part.now in
    let cut = split_parts 61 part c.split_once.result c.split_once.ensures.cases (omega arith) in
    let parts = rw c.in_ok-option.was at cut in
    exclude_from_named part c.in_ok-option.option.now c.in_ok-option.value.now us parts.0
    (sym c.eq-3.ensures ∙ c.if-eq-3.true) is

pub returns : goal.returns
returns c = λ us is.
    let part = c.args.part.now in
    let cut = split_parts 61 part c.split_once.result c.split_once.ensures.cases (omega arith) in
    let parts = rw c.in_ok-option.was at cut in
    other_named part c.in_ok-option.option.now c.in_ok-option.value.now us parts.0 parts.1
    (sym c.eq.ensures ∙ c.if-eq.false) (sym c.eq-2.ensures ∙ c.if-eq-2.false) (sym c.eq-3.ensures ∙ c.if-eq-3.false)
    is
