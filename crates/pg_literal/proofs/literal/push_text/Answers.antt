use Rattle.std.proofs.Common.{not, inl, inr, sym, ap, ◌∙◌, arith, rules}
use Rattle.std.specs.Vec.{vec_len}
use Rattle.std.proofs.lemmas.Bool.{false≢true, cases_Bool, eqb-false}
use Rattle.std.proofs.lemmas.List.{length-reverse}
use Rattle.pg_literal.proofs.literal.push_text.Goals as goal

pub returns-clause-adds : goal.returns-clause-adds
returns-clause-adds g c = λ added. record {
  literal = record {
    text = c.reverse.new.self;
    is_enough = c.eq-is_enough.result;
    is_head = not c.is_empty-is_head.result;
  };
  joins = c.in_ok-push.ensures.items;
  text_is = c.reverse.ensures.items;
  enough = search rules;
  head = λ head. elim (cases_Bool c.is_empty-is_head.result) [
    | inl none ↦ absurd (false≢true (sym (ap not none) ∙ head))
    | inr some ↦
        let long = eqb-false (vec_len c.args.text) 0 (sym c.is_empty-is_head.ensures ∙ some) in
        omega (arith, long, length-reverse c.args.text.items, c.args.text.ok)
  ];
}
