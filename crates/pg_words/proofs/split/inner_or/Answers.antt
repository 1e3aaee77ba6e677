use Rattle.std.proofs.Common.{◌∙◌, ◌∷◌, sym}
use Rattle.pg_words.proofs.Cuts.{behind_empty, behind_some}
use Rattle.pg_words.proofs.split.inner_or.Goals as goal

pub returns-then-is_empty : goal.returns-then-is_empty
returns-then-is_empty c =
    behind_empty c.args.inner.now (61 ∷ c.args.value.now) (sym c.is_empty.ensures ∙ c.if-is_empty.true)

pub returns : goal.returns
returns c =
    behind_some c.args.inner.now (61 ∷ c.args.value.now) (sym c.is_empty.ensures ∙ c.if-is_empty.false)
