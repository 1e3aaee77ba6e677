use Rattle.std.proofs.Common.{◌≡◌, refl, arith}
use Rattle.pg_match.specs.StateSets.{mark}
use Rattle.pg_match.specs.Views.{members}
use Rattle.pg_match.proofs.StateSetLemmas.{has_room, new_inserted}
use Rattle.pg_match.proofs.sparse_set.StateSet.fetch.Goals as goal

pub index_mut-requires : goal.index_mut-requires
index_mut-requires g c =
    let none : mark (members c.args.self.now) c.args.state ≡ 0 = grind arith in
    let r = has_room (members c.args.self.now) c.args.state c.requires.good
    (omega arith) none 1 (omega arith) in
    omega (arith, r.0)

pub returns-then-index-eq0-clause-inserted : goal.returns-then-index-eq0-clause-inserted
returns-then-index-eq0-clause-inserted g c =
    let none : mark (members c.args.self.now) c.args.state ≡ 0 = grind arith in
    new_inserted _ _ _ _ c.requires.good (omega arith) (omega arith) none refl refl refl
