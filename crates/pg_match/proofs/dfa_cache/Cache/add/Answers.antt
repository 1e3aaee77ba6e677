use Rattle.pg_match.specs.Views.{members, dfa}
use Rattle.pg_match.proofs.CacheLemmas.{grown_widened, widened_shape}
use Rattle.pg_match.proofs.dfa_cache.Cache.add.Goals as goal

pub write-requires-clause-shape : goal.write-requires-clause-shape
write-requires-clause-shape g c =
    widened_shape (dfa c.args.self.now) (dfa c.make_room.new.self)
    (c.make_room.ensures.widened c.if-not-make_room.false) _ c.requires.shape

pub returns-clause-grown : goal.returns-clause-grown
returns-clause-grown g c = λ t.
    grown_widened _ (dfa c.args.self.now) (dfa c.make_room.new.self) (dfa c.write.new.self)
    (members c.args.set.now) c.args.flag (c.make_room.ensures.widened c.if-not-make_room.false)
    c.write.ensures.grown
