use Rattle.std.proofs.Common.{◌≡◌, ℕ, ◌+◌, ◌-◌, ◌∷◌, [], List, length, take, drop, sym, ap, ◌∙◌, arith, subst}
use Rattle.std.proofs.Common.{length-drop}
use Rattle.std.proofs.lemmas.List.{take_rest, drop-drop, take_all, drop_all}
use Rattle.pg_blocks.specs.Lines.{lines}
use Rattle.memchr.specs.Find.{IsFirstByte, is_byte}
use Rattle.std.proofs.Common.{Some, None}
use Rattle.pg_blocks.specs.Lines.{IsClear}
use Rattle.pg_blocks.proofs.LineLemmas.{first_line_at, only_line, clear_to}
use Rattle.pg_blocks.proofs.lines.line_end.Goals as goal

pub returns-in-Some-clause-line : goal.returns-in-Some-clause-line
returns-in-Some-clause-line c =
    let bytes = c.args.bytes.now in
    let start = c.args.start in
    let len = c.in-Some.len in
    let cut : (start + len) - start ≡ len = omega arith in
    let past : start + (len + 1) ≡ start + len + 1 = omega arith in
    let P : List ℕ → Type 0 = λ ys. IsFirstByte (is_byte c.args.end) ys (Some len) in
    first_line_at c.args.end (drop start bytes) len (subst P (take_rest bytes start) c.in-Some.ensures)
    ∙ ap (λ (ys : List ℕ). take len (drop start bytes) ∷ lines c.args.end ys)
    (drop-drop (len + 1) start bytes ∙ ap (λ n. drop n bytes) past)
    ∙ ap (λ n. take n (drop start bytes) ∷ lines c.args.end (drop (start + len + 1) bytes)) (sym cut)

pub returns-in-None-clause-line : goal.returns-in-None-clause-line
returns-in-None-clause-line c =
    let bytes = c.args.bytes.now in
    let start = c.args.start in
    let rest = drop start bytes in
    let n = length-drop start bytes in
    let P : List ℕ → Type 0 = λ ys. IsFirstByte (is_byte c.args.end) ys None in
    only_line c.args.end rest (omega arith) (subst P (take_rest bytes start) c.in-None.ensures)
    ∙ ap (λ (ys : List ℕ). ys ∷ []) (sym (take_all (length bytes - start) rest (omega arith)))
    ∙ ap (λ (ys : List ℕ). take (length bytes - start) rest ∷ lines c.args.end ys)
    (sym (drop_all (length bytes + 1) bytes (omega arith)))

pub returns-in-Some-clause-clear : goal.returns-in-Some-clause-clear
returns-in-Some-clause-clear c =
    let bytes = c.args.bytes.now in
    let start = c.args.start in
    let len = c.in-Some.len in
    let P : List ℕ → Type 0 = λ ys. IsFirstByte (is_byte c.args.end) ys (Some len) in
    let found = subst P (take_rest bytes start) c.in-Some.ensures in
    clear_to c.args.end bytes start len found.0.before

pub returns-in-None-clause-clear : goal.returns-in-None-clause-clear
returns-in-None-clause-clear c =
    let bytes = c.args.bytes.now in
    let start = c.args.start in
    let P : List ℕ → Type 0 = λ ys. IsFirstByte (is_byte c.args.end) ys None in
    let none = subst P (take_rest bytes start) c.in-None.ensures in
    let to : start + length (drop start bytes) ≡ length bytes = omega (arith, length-drop start bytes) in
    let Q : ℕ → Type 0 = λ n. IsClear c.args.end bytes start n in
    subst Q to (clear_to c.args.end bytes start (length (drop start bytes)) none)
