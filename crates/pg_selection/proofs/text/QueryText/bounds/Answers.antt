use Rattle.std.proofs.Common.{◌≡◌, Bool, true, false, cond, ap, sym, ◌∙◌}
use Rattle.pg_selection.specs.Search.{Any, Word, Whole, bounds_of}
use Rattle.pg_selection.proofs.text.QueryText.bounds.Goals as goal

-- what the two options mean together
by : (whole word a b : Bool) → whole ≡ a → word ≡ b
    → cond a Whole (cond b Word Any) ≡ cond whole Whole (cond word Word Any)
by whole word a b e f =
    ap (λ x. cond x Whole (cond b Word Any)) (sym e) ∙ ap (λ x. cond whole Whole (cond x Word Any)) (sym f)

pub returns-then-self : goal.returns-then-self
returns-then-self g c =
    ap (λ b. cond b Whole (cond c.self.inside.word Word Any)) (sym c.if-self.true) ∙ ap bounds_of c.self.view_is

pub returns-then-self-2 : goal.returns-then-self-2
returns-then-self-2 g c = by c.self.inside.whole c.self.inside.word false true (cc) (cc) ∙ ap bounds_of c.self.view_is

pub returns-else-self-2 : goal.returns-else-self-2
returns-else-self-2 g c = by c.self.inside.whole c.self.inside.word false false (cc) (cc) ∙ ap bounds_of c.self.view_is
