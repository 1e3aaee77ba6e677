use Rattle.std.proofs.Common.{◌≡◌, ℕ, Bool, false, List, [], ap, not, refl, subst, sym}
use Rattle.pg_rows.specs.Output.{when}
use Rattle.pg_base.specs.Causes.{fault_line}
use Rattle.pg_base.specs.Sink.{WritesAll, WritesPart}
use Rattle.pg_base.proofs.WriteLemmas.{wrote_none, writes_as}
use Rattle.pg_run.proofs.running.tell_fault.Goals as goal

told : (silent : Bool) (line : List ℕ) → silent ≡ false → line ≡ when (not silent) line
told silent line s = sym (ap (λ b. when (not b) line) s)

pub returns-then-silent-clause-writes : goal.returns-then-silent-clause-writes
returns-then-silent-clause-writes g c =
    writes_as [] (when (not c.args.silent) (fault_line c.args.name.now c.args.cause)) _ _ _
    (ap (λ s. when (not s) (fault_line c.args.name.now c.args.cause)) (sym c.if-silent.true))
    (record { ok = wrote_none (g.E.Sink.stream c.args.faults.now); err = tt })

pub returns-then-silent-clause-fault : goal.returns-then-silent-clause-fault
returns-then-silent-clause-fault g c = tt

pub returns-in-Ok-clause-writes : goal.returns-in-Ok-clause-writes
returns-in-Ok-clause-writes g c = record {
  ok = subst (λ text. WritesAll text (g.E.Sink.stream c.args.faults.now) (g.E.Sink.stream c.tell_cause.new.err))
      (told c.args.silent (fault_line c.args.name.now c.args.cause) c.if-silent.false) c.in-Ok.ensures.ok;
  err = tt;
}

pub returns-in-Ok-clause-fault : goal.returns-in-Ok-clause-fault
returns-in-Ok-clause-fault g c = tt

pub returns-in-Err-clause-writes : goal.returns-in-Err-clause-writes
returns-in-Err-clause-writes g c = record {
  ok = tt;
  err = subst (λ text. WritesPart text (g.E.Sink.stream c.args.faults.now) (g.E.Sink.stream c.tell_cause.new.err))
      (told c.args.silent (fault_line c.args.name.now c.args.cause) c.if-silent.false) c.in-Err.ensures.err;
}

pub returns-in-Err-clause-fault : goal.returns-in-Err-clause-fault
returns-in-Err-clause-fault g c = refl
