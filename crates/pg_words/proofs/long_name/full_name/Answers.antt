use Rattle.std.proofs.Common.{◌∙◌, ap, sym, List, ℕ}
use Rattle.std.specs.Borrow.{Bor}
use Rattle.pg_words.proofs.LongNames.{full_begun, full_exact}
use Rattle.pg_words.proofs.long_name.full_name.Goals as goal

pub returns-then-is_name : goal.returns-then-is_name
returns-then-is_name c = full_exact c.args.name.now (sym c.is_name.ensures ∙ c.if-is_name.true)

pub returns : goal.returns
returns c =
    ap (λ (own : Bor (List ℕ)). own.now) c.unwrap_or.ensures
    ∙ full_begun c.args.name c.name_begun.result (sym c.is_name.ensures ∙ c.if-is_name.false) c.name_begun.ensures
