use Rattle.std.proofs.Common.{ℕ, List, length, sym, ap, ◌∙◌, subst, arith}
use Rattle.std.specs.Prelude.{IfSome}
use Rattle.std.specs.List.{All}
use Rattle.std.specs.Vec.{vec_len}
use Rattle.memchr.specs.Find.{OccursAt}
use Rattle.std.proofs.lemmas.Bool.{eqb-false}
use Rattle.std.proofs.lemmas.List.{length-map}
use Rattle.pg_literal.specs.declared.literal.Literal.{Literal}
use Rattle.pg_prefilter.specs.Literals.{data_of}
use Rattle.pg_prefilter.specs.Strings.{IsSetOf}
use Rattle.pg_prefilter.proofs.MayLemmas.{few_missed, many_missed}
use Rattle.pg_prefilter.proofs.prefilter.Prefilter.may_hold.Goals as goal

pub returns-in-Some : goal.returns-in-Some
returns-in-Some g c = λ lacks bytes is trees spelled.
    let text = c.args.text.now in
    let known = subst (λ found. IfSome found (IsSetOf text)) c.in-Some.is c.requires.found.set in
    many_missed text bytes c.args.searched.now is trees spelled c.in-Some.set known c.requires.bytes
    (c.may_stand.ensures lacks)

pub returns-else-is_empty : goal.returns-else-is_empty
returns-else-is_empty g c = λ lacks bytes is trees spelled.
    let text = c.args.text.now in
    let literals = c.args.self.now.literals.items in
    let some = eqb-false (vec_len c.args.self.now.literals) 0 (sym c.is_empty.ensures ∙ c.if-is_empty.false) in
    let size = length-map literals (data_of {A = g.row.A.Denot}) in
    let Absent : List (Literal g.row.A.Denot) → Type 0 =
    λ ls. All (λ l. (place : ℕ) → OccursAt c.args.searched.now l.text.items place → ⊥) ls in
    few_missed text bytes c.args.searched.now is trees spelled literals c.requires.found.literals
    (omega (arith, some, size, c.deref.ensures.len, ap length c.deref.ensures.value))
    (subst Absent c.deref.ensures.value (c.some_stands.ensures lacks))
