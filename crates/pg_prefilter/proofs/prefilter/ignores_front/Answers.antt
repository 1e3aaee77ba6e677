use Rattle.std.proofs.Common.{◌≡◌, Bool, IsTrue, false, map, not, refl, sym, true}
use Rattle.pg_pattern.specs.Trees.{pattern}
use Rattle.pg_prefilter.proofs.NearLemmas.{front_known}
use Rattle.pg_prefilter.proofs.prefilter.ignores_front.Goals as goal

is_false : (answer : Bool) → IsTrue (not answer) → answer ≡ false
is_false false t = refl
is_false true t = sym t

pub returns : goal.returns
returns g c = λ yes.
    front_known c.args.text.now (map pattern c.args.trees.now) c.bounds.result c.requires.trees c.bounds.ensures
    (c.looks_behind.ensures (is_false c.looks_behind.result yes))
