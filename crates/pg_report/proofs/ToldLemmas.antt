-- What was written, for `tell_parts`, and for `show` of `pg_command`.
use Rattle.std.proofs.Common.{◌≡◌, true, false, List, ℕ, Result, Ok, Err, inl, inr, sym}
use Rattle.std.proofs.lemmas.Bool.{false≢true}
use Rattle.std.specs.Result.{is_err}
use Rattle.pg_base.specs.Sink.{Stream, WritesAll, WritesPart, WritesText}
use Rattle.pg_report.specs.Told.{TellsText}

-- a text was written, or a beginning of it
pub tells_by : {T E : Type 0} (r : Result T E) (text : List ℕ) (err err' : Stream) → WritesText text err err' r
    → TellsText text err err'
tells_by (Ok x) text err err' w = inl w.ok
tells_by (Err e) text err err' w = inr w.err

-- what was written, by a test of the result

pub part_at_err : {T E : Type 0} (r : Result T E) (text : List ℕ) (out out' : Stream) → is_err r ≡ true
    → WritesText text out out' r → WritesPart text out out'
part_at_err (Ok x) text out out' e w = absurd (false≢true e)
part_at_err (Err f) text out out' e w = w.err

pub all_at_ok : {T E : Type 0} (r : Result T E) (text : List ℕ) (out out' : Stream) → is_err r ≡ false
    → WritesText text out out' r → WritesAll text out out'
all_at_ok (Ok x) text out out' e w = w.ok
all_at_ok (Err f) text out out' e w = absurd (false≢true (sym e))
