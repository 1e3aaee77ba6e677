use Rattle.std.proofs.Common.{◌∙◌, ◌||◌, ap, sym, Bool, List, Option, ℕ}
use Rattle.clap.specs.Lexer.{short_of}
use Rattle.pg_words.proofs.Cases.{case_short, or_false, word_says}
use Rattle.pg_words.proofs.case.case_behind.Goals as goal

pub returns-then-before : goal.returns-then-before
returns-then-before c = λ us is.
    let part = c.args.part.now in
    c.if-before.true ∙ sym (word_says part us c.args.before (sym c.eq.ensures ∙ c.if-eq.false)
    (sym c.eq-2.ensures ∙ c.if-eq-2.false) is
    ∙ ap (λ (b : Bool). b || case_short (short_of part)) c.if-before.true)

pub returns-else-before : goal.returns-else-before
returns-else-before c = λ us is.
    let part = c.args.part.now in
    c.has_case_letter.ensures ∙ (ap case_short c.in-Some.ensures
    ∙ sym (word_says part us c.args.before (sym c.eq.ensures ∙ c.if-eq.false)
    (sym c.eq-2.ensures ∙ c.if-eq-2.false) is
    ∙ ap (λ (b : Bool). b || case_short (short_of part)) c.if-before.false))

pub returns-in-None : goal.returns-in-None
returns-in-None c = λ us is.
    let part = c.args.part.now in
    let before = c.args.before in
    or_false before ∙ (ap (λ (q : Option (List ℕ)). before || case_short q) c.in-None.ensures
    ∙ sym (word_says part us before (sym c.eq.ensures ∙ c.if-eq.false)
    (sym c.eq-2.ensures ∙ c.if-eq-2.false) is))
