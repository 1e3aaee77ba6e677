use Rattle.std.proofs.Common.{◌∙◌, ap, sym, Some, None, List, ℕ, ◌++◌}
use Rattle.std.specs.String.{string_bytes}
use Rattle.std.proofs.lemmas.Result.{IfOk-weaker}
use Rattle.pg_words.proofs.Cuts.{joined_cut}
use Rattle.pg_words.proofs.split.joined_word.Goals as goal

pub returns-in-Some : goal.returns-in-Some
returns-in-Some c =
    let option = c.in-Some.option.now in
    IfOk-weaker c.joined.result _ _
    (λ text is. joined_cut c.args.word.now c.args.value.now (string_bytes text) (Some (option, c.in-Some.inner.now))
    c.in-Some.ensures (is ∙ ap (λ (l : List ℕ). option ++ l) (sym c.inner_or.ensures)))
    c.joined.ensures

pub returns-in-None : goal.returns-in-None
returns-in-None c =
    IfOk-weaker c.from_str.result _ _
    (λ text is. joined_cut c.args.word.now c.args.value.now (string_bytes text) None c.in-None.ensures is)
    c.from_str.ensures.ok
