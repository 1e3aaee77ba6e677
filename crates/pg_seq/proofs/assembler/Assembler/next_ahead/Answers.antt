use Rattle.std.proofs.Common.{◌∙◌, ℕ, cond, sym, ap, refl, arith}
use Rattle.std.proofs.lemmas.Bool.{not-true, not-false}
use Rattle.pg_seq.proofs.AheadLemmas.{end_next}
use Rattle.pg_seq.proofs.assembler.Assembler.next_ahead.Goals as goal

pub returns-then-is_over : goal.returns-then-is_over
returns-then-is_over g c =
    let a = c.args.ahead in
    let inside = not-false a.inside c.if-not-ahead.false in
    record {
      further = λ past h i.
          end_next c.args.self.now past h a i inside (sym c.is_over.ensures ∙ c.if-is_over.true) _ refl refl refl refl
          refl;
      fewer = (let one = ap {B = ℕ} (λ b. cond b 1 0) inside in omega (arith, one));
    }

pub file_ahead-requires : goal.file_ahead-requires
file_ahead-requires g c = not-true c.args.ahead.inside c.if-not-ahead.true

pub block_ahead-requires-clause-inside : goal.block_ahead-requires-clause-inside
block_ahead-requires-clause-inside g c =
    (not-false c.args.ahead.inside c.if-not-ahead.false, sym c.is_over.ensures ∙ c.if-is_over.false)
