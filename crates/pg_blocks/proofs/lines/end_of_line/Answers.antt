use Rattle.std.proofs.Common.{◌≡◌, ℕ, ◌+◌, List, length, drop, sym, ◌∙◌, subst, arith, refl, inl, inr, Some, None}
use Rattle.std.proofs.Common.{length-drop}
use Rattle.std.proofs.lemmas.Bool.{eqb-true}
use Rattle.std.proofs.lemmas.List.{take_rest, get_or-drop}
use Rattle.memchr.specs.Find.{IsFirstByte, is_byte}
use Rattle.pg_blocks.specs.Lines.{IsClear}
use Rattle.pg_blocks.proofs.LineLemmas.{clear_to}
use Rattle.pg_blocks.proofs.PlaceLemmas.{line_to_stop}
use Rattle.pg_blocks.proofs.lines.end_of_line.Goals as goal

pub returns-in-Some-clause-stops : goal.returns-in-Some-clause-stops
returns-in-Some-clause-stops c =
    let bytes = c.args.bytes.now in
    let place = c.args.place in
    let len = c.in-Some.len in
    let P : List ℕ → Type 0 = λ xs. IsFirstByte (is_byte c.args.end) xs (Some len) in
    let found = subst P (take_rest bytes place) c.in-Some.ensures in (
      place + len,
      omega arith,
      clear_to c.args.end bytes place len found.0.before,
      inl (
        refl,
        omega (arith, found.0.high, length-drop place bytes),
        sym (get_or-drop place bytes len 0)
            ∙ eqb-true _ c.args.end found.1,
      ),
    )

pub returns-in-None-clause-stops : goal.returns-in-None-clause-stops
returns-in-None-clause-stops c =
    let bytes = c.args.bytes.now in
    let place = c.args.place in
    let P : List ℕ → Type 0 = λ xs. IsFirstByte (is_byte c.args.end) xs None in
    let none = subst P (take_rest bytes place) c.in-None.ensures in
    let to : place + length (drop place bytes) ≡ length bytes = omega (arith, length-drop place bytes) in
    let Q : ℕ → Type 0 = λ n. IsClear c.args.end bytes place n in (
      length bytes,
      omega arith,
      subst Q to (clear_to c.args.end bytes place (length (drop place bytes)) none),
      inr (refl, refl),
    )

pub returns-in-Some-clause-one : goal.returns-in-Some-clause-one
returns-in-Some-clause-one c =
    let stop = returns-in-Some-clause-stops c in
    (line_to_stop c.args.end c.args.bytes.now c.args.place stop.0 _ stop.1 stop.2 stop.3).one

pub returns-in-None-clause-one : goal.returns-in-None-clause-one
returns-in-None-clause-one c =
    let stop = returns-in-None-clause-stops c in
    (line_to_stop c.args.end c.args.bytes.now c.args.place stop.0 _ stop.1 stop.2 stop.3).one

pub returns-in-Some-clause-apart : goal.returns-in-Some-clause-apart
returns-in-Some-clause-apart c =
    let stop = returns-in-Some-clause-stops c in
    (line_to_stop c.args.end c.args.bytes.now c.args.place stop.0 _ stop.1 stop.2 stop.3).apart

pub returns-in-None-clause-apart : goal.returns-in-None-clause-apart
returns-in-None-clause-apart c =
    let stop = returns-in-None-clause-stops c in
    (line_to_stop c.args.end c.args.bytes.now c.args.place stop.0 _ stop.1 stop.2 stop.3).apart

pub returns-in-Some-clause-whole : goal.returns-in-Some-clause-whole
returns-in-Some-clause-whole c =
    let stop = returns-in-Some-clause-stops c in
    (line_to_stop c.args.end c.args.bytes.now c.args.place stop.0 _ stop.1 stop.2 stop.3).whole
