use Rattle.pg_bytes.specs.ByteSets.{bytes}
use Rattle.pg_pattern.specs.Trees.{pattern}
use Rattle.pg_pattern.proofs.PatternLemmas.{pattern-set}
use Rattle.pg_literal.proofs.StringLemmas.{alone_of, set_is}
use Rattle.pg_literal.proofs.strings.is_byte.Goals as goal

pub returns-in-Set : goal.returns-in-Set
returns-in-Set g c =
    let is = pattern-set c.args.tree.now c.in-Set.set c.in-Set.is in
    set_is c.args.fold (pattern c.args.tree.now) (bytes c.in-Set.set) c.is_some.result is
    (alone_of c.args.fold (bytes c.in-Set.set) c.only_byte.result c.is_some.result c.only_byte.ensures
    c.is_some.ensures)
