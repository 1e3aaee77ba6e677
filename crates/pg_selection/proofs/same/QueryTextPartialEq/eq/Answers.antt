use Rattle.std.proofs.Common.{◌∙◌, refl}
use Rattle.pg_grammar.specs.Memory.{patterns_of}
use Rattle.pg_grammar.specs.Same.{same_patterns}
use Rattle.pg_selection.specs.Same.{same_text}
use Rattle.pg_selection.proofs.SameLemmas.{kind-same, pointwise-map}
use Rattle.pg_selection.proofs.same.QueryTextPartialEq.eq.Goals as goal

pub returns : goal.returns
unfolding same_text
returns g c =
    let kind = c.eq-kind.ensures ∙ kind-same c.self.inside.kind c.other.inside.kind in
    let lists = c.eq-lists.ensures ∙ pointwise-map patterns_of same_patterns c.self.inside.lists.items
    c.other.inside.lists.items in
    rw (← c.self.view_is, ← c.other.view_is, kind, lists) refl
