use Rattle.std.proofs.Common.{◌≡◌, ◌+◌, arith, refl, subst}
use Rattle.std.proofs.lemmas.List.{get_or_read}
use Rattle.pg_match.proofs.CacheLemmas.{grown, Copying}
use Rattle.pg_match.specs.Views.{members, dfa}
use Rattle.pg_match.proofs.dfa_cache.Cache.write.Goals as goal

pub returns-clause-grown : goal.returns-clause-grown
returns-clause-grown g c =
    let table = dfa c.args.self.now in
    let s = members c.args.set.now in
    let shape = c.requires.shape in
    let start = get_or_read table.cuts (table.count + 1) c.index.result.now
    (omega (arith, shape.cuts_size, shape.few)) c.index.ensures 0 in
    let end : c.loop-k.k ≡ s.len = omega arith in
    let copy = subst (λ v. Copying table (dfa c.loop-k.self) s c.index.result.now v) end
    c.loop-k.invariant.copying in
    grown _ table (dfa c.loop-k.self) _ s c.index.result.now c.args.flag shape c.requires.good refl start
    c.requires.room copy refl refl refl refl refl refl

pub overflow_add-self : goal.overflow_add-self
overflow_add-self g c = omega arith

pub index-requires : goal.index-requires
index-requires g c = omega arith
