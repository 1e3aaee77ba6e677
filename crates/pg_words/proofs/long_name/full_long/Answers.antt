use Rattle.std.proofs.Common.{◌∙◌, ap, arith, sym, List, ℕ, Option}
use Rattle.std.proofs.lemmas.Result.{IfOk-weaker}
use Rattle.std.proofs.lemmas.Str.Pattern.{split_parts}
use Rattle.pg_words.specs.Line.{table}
use Rattle.pg_words.specs.Spelled.{full_long}
use Rattle.pg_words.proofs.LongNames.{cut_at, cut_nowhere}
use Rattle.pg_words.proofs.long_name.full_long.Goals as goal

pub returns-in-Some : goal.returns-in-Some
returns-in-Some c =
    let text = c.args.text.now in
    let cut = split_parts 61 text c.split_once.result c.split_once.ensures.cases (omega arith) in
    let parts = rw c.in-Some.is at cut in
    let pair = cut_at text c.in-Some.name.now c.in-Some.value.now parts.0 parts.1 in
    IfOk-weaker c.full_valued.result _ _
    (λ word is. is ∙ ap (λ (p : List ℕ × Option (List ℕ)). full_long table p.0 p.1) (sym pair)) c.full_valued.ensures

pub returns-in-None : goal.returns-in-None
returns-in-None c =
    let text = c.args.text.now in
    let cut = split_parts 61 text c.split_once.result c.split_once.ensures.cases (omega arith) in
    let lacks = rw c.in-None.is at cut in
    let pair = cut_nowhere text lacks in
    IfOk-weaker c.full_alone.result _ _
    (λ word is. is ∙ ap (λ (p : List ℕ × Option (List ℕ)). full_long table p.0 p.1) (sym pair)) c.full_alone.ensures
