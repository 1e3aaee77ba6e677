use Rattle.std.proofs.Common.{◌∙◌, Bool, true, false, [], sym, subst, refl, List, ℕ, rules}
use Rattle.std.specs.Bool.{MatchBool}
use Rattle.std.proofs.lemmas.List.{append-nil}
use Rattle.std.proofs.lemmas.Result.{MatchResult-from_err, IfOk-from_err}
use Rattle.pg_rows.specs.Remembered.{end_rows}
use Rattle.pg_base.specs.Sink.{Stream, WritesAll, WritesPart}
use Rattle.pg_base.proofs.WriteLemmas.{wrote_none}
use Rattle.pg_plan.specs.History.{Past}
use Rattle.pg_seq.specs.declared.assembler.Assembler.{Assembler}
use Rattle.pg_seq.specs.Standing.{IsAfter, Advances, HasNothingToDo, HasWrittenAll}
use Rattle.pg_seq.proofs.StandLemmas.{same_buffer}
use Rattle.pg_seq.proofs.DrainSteps.{here, ended_next, end_part}
use Rattle.pg_seq.proofs.assembler.Assembler.advance.Goals as goal

-- a file was opened in the printer, which writes nothing
opened : {A : Type 0} (new : Assembler A) (past : Past) (out : Stream) (more : Bool)
    → MatchBool more (IsAfter new past) (HasWrittenAll past × IsAfter new past)
    → MatchBool more (Advances new past out out) (HasNothingToDo new past out out)
opened new past out true h = record {
  rows = [];
  got = wrote_none out;
  stands =
      let P : List ℕ → Type 0 = λ w. IsAfter new (record past { written = w }) in
      subst P (sym (append-nil past.written)) h;
}
opened new past out false h = record { all = h.0; same = refl; stands = h.1 }

pub returns-then-not-self : goal.returns-then-not-self
returns-then-not-self g c =
    let o = c.open_next.ensures in
    record {
      goes = λ past h. opened _ past _ c.open_next.result (o.opened past h);
      fewer = o.fewer;
      same = o.same;
    }

pub returns-in_err-end : goal.returns-in_err-end
returns-in_err-end g c = record {
  goes = λ past h.
      let s = c.args.self.now in
      let e = c.in_err-end.ensures in
      let P : List ℕ → Type 0 = λ t. WritesPart t (g.W.Sink.stream c.args.out.now) (g.W.Sink.stream c.end.new.out) in
      let w = subst P (e.2 past.query past.format (here s past h) h.writes.cursor) e.1.err in
      MatchResult-from_err c.from_residual.result _ _ c.from_residual.ensures.0 (λ _. record {
        rows = w.part.0;
        got = w.part.2;
        failure = w.failure;
        part = end_part s past h c.if-not-self.false (sym c.is_at_end.ensures ∙ c.if-is_at_end.true) c.requires.2 _ _
            w.part;
        stands = h;
      });
  fewer = IfOk-from_err c.from_residual.result _ c.from_residual.ensures.0;
  same = refl;
}

pub returns-then-is_at_end : goal.returns-then-is_at_end
returns-then-is_at_end g c = record {
  goes = λ past h.
      let s = c.args.self.now in
      let e = c.in_ok-end.ensures in
      let P : List ℕ → Type 0 = λ t. WritesAll t (g.W.Sink.stream c.args.out.now) (g.W.Sink.stream c.end.new.out) in
      record {
        rows = end_rows past.format (here s past h);
        got = subst P (e.2 past.query past.format (here s past h) h.writes.cursor) e.1.ok;
        stands = ended_next s past h _ c.if-not-self.false
            (sym c.is_at_end.ensures ∙ c.if-is_at_end.true) c.requires.2
            (record { selector = refl; format = refl; running = refl; bad = refl }) refl refl refl (same_buffer _) refl;
      };
  fewer = λ e. search rules;
  same = refl;
}
