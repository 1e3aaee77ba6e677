-- Texts that are written in parts.
use Rattle.std.proofs.Common.{◌≡◌, ℕ, ◌+◌, ◌-◌, List, ◌++◌, length, take, drop}
use Rattle.std.proofs.Common.{Result, Ok, Err, ap, sym, ◌∙◌, append_assoc}
use Rattle.std.proofs.lemmas.List.{take-append-drop, take_rest}
use Rattle.std.proofs.Math.Seq.{take-add}
use Rattle.std.specs.Result.{IsErr, OnOk, OnErr}
use Rattle.std.proofs.lemmas.Bool.{false≢true}
use Rattle.pg_base.specs.Sink.{IsBeginning, TakesPart}

pub on_err : {T E : Type 0} (P : Type 0) (r : Result T E) → P → OnErr r P
on_err P (Ok x) p = tt
on_err P (Err e) p = p

-- nothing is said of the Ok of an error
pub ok_of_err : {T E : Type 0} (r : Result T E) (P : Type 0) → IsErr r → OnOk r P
ok_of_err (Ok x) P h = absurd (false≢true h)
ok_of_err (Err e) P h = tt

pub on_ok : {T E : Type 0} (r : Result T E) (P Q : Type 0) → (P → Q) → OnOk r P → OnOk r Q
on_ok (Ok x) P Q f h = f h
on_ok (Err e) P Q f h = tt

pub on_err_too : {T E : Type 0} (r : Result T E) (P Q : Type 0) → (P → Q) → OnErr r P → OnErr r Q
on_err_too (Ok x) P Q f h = tt
on_err_too (Err e) P Q f h = f h

-- the first bytes of a text are a part of it
pub takes_part : (text before after : List ℕ) (n : ℕ) → after ≡ before ++ take n text → TakesPart text before after
takes_part text before after n e = (take n text, (drop n text, take-append-drop n text), e)

-- after its first bytes, the next bytes of a text were taken
pub takes_more : (text start before after : List ℕ) (at count : ℕ) → before ≡ start ++ take at text
    → after ≡ before ++ take count (take (length text - at) (drop at text)) → after ≡ start ++ take (at + count) text
takes_more text start before after at count b a =
    a ∙ (ap (λ xs. before ++ take count xs) (take_rest text at) ∙ (ap (λ xs. xs ++ take count (drop at text)) b
    ∙ (append_assoc start (take at text) (take count (drop at text))
    ∙ ap (λ xs. start ++ xs) (sym (take-add at count text)))))

-- a part of a beginning is a part of the whole
pub takes_longer : (text whole before after : List ℕ) → TakesPart text before after → IsBeginning text whole
    → TakesPart whole before after
takes_longer text whole before after t b =
    (t.0, (t.1.0 ++ b.0, sym (append_assoc t.0 t.1.0 b.0) ∙ (ap (λ xs. xs ++ b.0) t.1.1 ∙ b.1)), t.2)
