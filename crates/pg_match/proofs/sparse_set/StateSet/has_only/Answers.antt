use Rattle.std.proofs.Common.{◌-◌, ◌<◌, ◌∙◌, arith, sym}
use Rattle.std.proofs.lemmas.Bool.{eqb-true}
use Rattle.pg_match.specs.Views.{members}
use Rattle.pg_match.proofs.StateSetLemmas.{listed_in, only_mark, read_listed, read_thread}
use Rattle.pg_match.proofs.sparse_set.StateSet.has_only.Goals as goal

pub index-requires : goal.index-requires
index-requires g c =
    let s = members c.args.self.now in
    let some : 0 < s.len = omega (arith, c.if-self-eq0.false) in
    let is = read_listed s 0 c.index-first.result.now c.requires.good some c.index-first.ensures in
    omega (arith, is, listed_in s 0 c.requires.good some)

pub index-requires-then-index-start : goal.index-requires-then-index-start
index-requires-then-index-start g c =
    let s = members c.args.self.now in
    let some : s.len - 1 < s.len = omega (arith, c.if-self-eq0.false) in
    let is = read_listed s (s.len - 1) c.index-last.result.now c.requires.good some c.index-last.ensures in
    omega (arith, is, listed_in s (s.len - 1) c.requires.good some)

pub returns-then-index-start : goal.returns-then-index-start
returns-then-index-start g c = λ yes.
    let s = members c.args.self.now in
    let some : 0 < s.len = omega (arith, c.if-self-eq0.false) in
    let first = read_thread s 0 c.index-first.result.now c.index.result.now c.requires.good some c.index-first.ensures
    c.index.ensures in
    let end = read_thread s (s.len - 1) c.index-last.result.now c.index-then-index-start.result.now c.requires.good
    (omega (arith, some)) c.index-last.ensures c.index-then-index-start.ensures in
    only_mark s c.args.start c.requires.good c.requires.ordered some (sym first.1 ∙ c.if-index-start.true)
    (sym end.1 ∙ eqb-true _ _ yes)
