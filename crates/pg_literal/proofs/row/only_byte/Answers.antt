use Rattle.std.proofs.Common.{arith, below_more, ap, sym, subst, ◌∙◌}
use Rattle.pg_bytes.specs.ByteSets.{bytes}
use Rattle.pg_bytes.specs.Sets.{one}
use Rattle.pg_pattern.specs.Patterns.{folded}
use Rattle.pg_literal.specs.Rows.{IsAlone}
use Rattle.pg_literal.proofs.FoldLemmas.{searched_alike, alone_found, folded_alone, same_sets}
use Rattle.pg_literal.proofs.row.only_byte.Goals as goal

pub loop-other-preserved : goal.loop-other-preserved
loop-other-preserved c =
    let fold = c.args.fold in
    let set = bytes c.args.set.now in
    let byte = c.as_searched-byte.result in
    let here = searched_alike fold set byte c.loop-other.other c.as_searched.result c.contains.result
    c.contains.ensures c.as_searched.ensures c.if-contains-as_searched.false in
    below_more _ _ c.loop-other.invariant here

pub returns-else-contains-as_searched : goal.returns-else-contains-as_searched
returns-else-contains-as_searched c =
    let fold = c.args.fold in
    let set = c.args.set.now in
    let byte = c.as_searched-byte.result in
    let here = searched_alike fold (bytes set) byte c.loop-other.other c.as_searched.result c.contains.result
    c.contains.ensures c.as_searched.ensures c.if-contains-as_searched.false in
    let all = below_more _ _ c.loop-other.invariant here in
    alone_found fold set c.in_ok-first.first byte c.in_ok-first.ensures c.as_searched-byte.ensures
    (omega arith) (λ k less. all k (omega arith))

pub returns-in_err-first : goal.returns-in_err-first
returns-in_err-first c = rw c.from_residual.ensures (λ b alone. c.in_err-first.ensures b alone.0)

pub returns-then-eq : goal.returns-then-eq
returns-then-eq c =
    let fold = c.args.fold in
    let first = c.in_ok-first.first in
    let same = (same_sets c.args.set.now c.folded.result).0 (sym c.eq.ensures ∙ c.if-eq.true) in
    let is = ap bytes same ∙ (c.folded.ensures ∙ ap (folded fold) c.one.ensures) in
    subst (λ s. IsAlone fold s c.as_searched-byte.result) (sym is)
    (subst (IsAlone fold (folded fold (one first))) (sym c.as_searched-byte.ensures) (folded_alone fold first))
