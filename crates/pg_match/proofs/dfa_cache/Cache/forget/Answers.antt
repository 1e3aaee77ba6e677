use Rattle.std.proofs.Common.{arith, refl, rules}
use Rattle.pg_match.specs.Views.{dfa}
use Rattle.pg_match.proofs.CacheLemmas.{blank_again}
use Rattle.pg_match.proofs.dfa_cache.Cache.forget.Goals as goal

pub returns : goal.returns
returns g c = λ n shape.
    blank_again n _ _ (dfa c.args.self.now) _ shape (c.fill.ensures.items (λ y h. search rules))
    (c.fill-2.ensures.items (λ y h. search rules)) (omega (arith, c.fill.ensures.len, shape.steps_size))
    (omega (arith, c.fill-2.ensures.len, shape.ends_size)) refl refl refl refl
