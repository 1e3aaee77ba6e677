use Rattle.std.proofs.Common.{◌∙◌, inl, inr, map, subst, sym, true≢false}
use Rattle.std.proofs.lemmas.List.Elements.{All-map}
use Rattle.pg_pattern.specs.Trees.{pattern}
use Rattle.pg_literal.specs.Rests.{HasNoBegin, IgnoresFront}
use Rattle.pg_literal.proofs.RestLemmas.{ignores_front}
use Rattle.pg_literal.proofs.front.looks_behind.Goals as goal

pub returns-in-Any : goal.returns-in-Any
returns-in-Any g c = λ no.
    let trees = c.args.trees.now in
    elim c.some_has_begin.ensures [
      | inl begins ↦ absurd (true≢false (sym begins ∙ no))
      | inr all ↦ subst (IgnoresFront (map pattern trees)) (sym c.in-Any.is)
          (ignores_front (map pattern trees) (All-map HasNoBegin pattern trees all))
    ]
