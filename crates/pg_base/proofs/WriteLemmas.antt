-- Texts that are written one behind the other, for all functions that write rows.
use Rattle.std.proofs.Common.{◌≡◌, ◌<◌, List, ℕ, [], ◌++◌, Result, Ok, Err, refl, sym, ap, ◌∙◌, subst, append_assoc}
use Rattle.std.proofs.Common.{arith}
use Rattle.std.proofs.lemmas.Bool.{false≢true}
use Rattle.std.proofs.lemmas.List.{append-nil}
use Rattle.std.specs.Result.{IsErr}
use Rattle.pg_base.specs.Sink.{Stream, TakesPart, WritesAll, WritesPart, WritesText}
use Rattle.pg_base.proofs.SinkLemmas.{on_ok, on_err_too}

-- nothing was written
pub wrote_none : (before : Stream) → WritesAll [] before before
wrote_none before = record { taken = sym (append-nil before.taken); no_failure = refl }

-- a text was written, and another behind it
pub wrote_more : (first second : List ℕ) (before middle after : Stream) → WritesAll first before middle
    → WritesAll second middle after → WritesAll (first ++ second) before after
wrote_more first second before middle after f s = record {
  taken = s.taken ∙ (ap (λ xs. xs ++ second) f.taken ∙ append_assoc before.taken first second);
  no_failure = s.no_failure ∙ f.no_failure;
}

takes_first : (text later before after : List ℕ) → TakesPart text before after → TakesPart (text ++ later) before after
takes_first text later before after t =
    (t.0, (t.1.0 ++ later, sym (append_assoc t.0 t.1.0 later) ∙ ap (λ xs. xs ++ later) t.1.1), t.2)

takes_second : (text later before middle after : List ℕ) → middle ≡ before ++ text → TakesPart later middle after
    → TakesPart (text ++ later) before after
takes_second text later before middle after m t = (
  text ++ t.0,
  (t.1.0, append_assoc text t.0 t.1.0 ∙ ap (λ xs. text ++ xs) t.1.1),
  t.2 ∙ (ap (λ xs. xs ++ t.0) m ∙ append_assoc before text t.0),
)

-- a beginning of the first text was written
pub part_of_first : (first second : List ℕ) (before after : Stream) → WritesPart first before after
    → WritesPart (first ++ second) before after
part_of_first first second before after w = record {
  part = takes_first first second before.taken after.taken w.part;
  failure = w.failure;
}

pub rises : (before middle after : ℕ) → middle ≡ before → middle < after → before < after
rises before middle after e h = omega arith

-- behind the first text, a beginning of the second one was written
pub part_of_second : (first second : List ℕ) (before middle after : Stream) → WritesAll first before middle
    → WritesPart second middle after → WritesPart (first ++ second) before after
part_of_second first second before middle after f w = record {
  part = takes_second first second before.taken middle.taken after.taken f.taken w.part;
  failure = rises before.failures middle.failures after.failures f.no_failure w.failure;
}

-- What a call writes, by its result.

-- the first write failed
pub writes_part : {T E : Type 0} (text : List ℕ) (before after : Stream) (r : Result T E) → IsErr r
    → WritesPart text before after → WritesText text before after r
writes_part text before after (Ok x) e w = absurd (false≢true e)
writes_part text before after (Err f) e w = record { ok = tt; err = w }

-- a text was written, and then as much as the result says of another
pub writes_then : {T E : Type 0} (first second : List ℕ) (before middle after : Stream) (r : Result T E)
    → WritesAll first before middle → WritesText second middle after r → WritesText (first ++ second) before after r
writes_then first second before middle after r f w = record {
  ok = on_ok r (WritesAll second middle after) (WritesAll (first ++ second) before after)
      (wrote_more first second before middle after f) w.ok;
  err = on_err_too r (WritesPart second middle after) (WritesPart (first ++ second) before after)
      (part_of_second first second before middle after f) w.err;
}

-- the same text, said in another way
pub writes_as : {T E : Type 0} (text text' : List ℕ) (before after : Stream) (r : Result T E) → text ≡ text'
    → WritesText text before after r → WritesText text' before after r
writes_as text text' before after r e w = subst (λ t. WritesText t before after r) e w

-- What is left to write of a text.

-- all of the text was written but the rest
pub record WritesAllBut (whole rest : List ℕ) (before after : Stream) : Type 0 where
  pub part : List ℕ
  pub joins : part ++ rest ≡ whole
  pub wrote : WritesAll part before after

-- nothing was written yet
pub left_whole : (whole : List ℕ) (before : Stream) → WritesAllBut whole whole before before
left_whole whole before = record { part = []; joins = refl; wrote = wrote_none before }

-- one more part was written
pub left_less : (whole rest rest' text : List ℕ) (before middle after : Stream) → rest ≡ text ++ rest'
    → WritesAll text middle after → WritesAllBut whole rest before middle → WritesAllBut whole rest' before after
left_less whole rest rest' text before middle after e w h = record {
  part = h.part ++ text;
  joins = append_assoc h.part text rest' ∙ (ap (λ xs. h.part ++ xs) (sym e) ∙ h.joins);
  wrote = wrote_more h.part text before middle after h.wrote w;
}

-- of what was left, a beginning was written
pub left_part : (whole rest rest' text : List ℕ) (before middle after : Stream) → rest ≡ text ++ rest'
    → WritesPart text middle after → WritesAllBut whole rest before middle → WritesPart whole before after
left_part whole rest rest' text before middle after e w h =
    let joins = ap (λ xs. h.part ++ xs) (sym e) ∙ h.joins in
    subst (λ xs. WritesPart xs before after) joins
    (part_of_second h.part (text ++ rest') before middle after h.wrote (part_of_first text rest' middle after w))

-- nothing is left
pub left_none : (whole rest : List ℕ) (before after : Stream) → rest ≡ [] → WritesAllBut whole rest before after
    → WritesAll whole before after
left_none whole rest before after e h =
    let joins = sym (append-nil h.part) ∙ (ap (λ xs. h.part ++ xs) (sym e) ∙ h.joins) in
    subst (λ xs. WritesAll xs before after) joins h.wrote
