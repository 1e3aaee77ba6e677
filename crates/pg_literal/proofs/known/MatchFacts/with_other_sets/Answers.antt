use Rattle.std.proofs.Common.{inl, inr, subst}
use Rattle.pg_bytes.specs.ByteSets.{bytes}
use Rattle.pg_pattern.specs.Patterns.{Set}
use Rattle.pg_literal.specs.Known.{HidesLast}
use Rattle.pg_literal.proofs.known.MatchFacts.with_other_sets.Goals as goal

pub returns-then-is_empty : goal.returns-then-is_empty
returns-then-is_empty g c = λ fold.
    let p = Set (bytes c.args.set.now) in
    subst (λ n. HidesLast fold p n c.args.least c.args.most c.args.self c.with_other_rounds.result)
    c.min-rounds.ensures (inl c.with_other_rounds.ensures)

pub returns-in_ok-last : goal.returns-in_ok-last
returns-in_ok-last g c = λ fold. inr (c.in_ok-last.last, c.in_ok-last.ensures fold, c.hidden.ensures)
