-- What is enclosed, byte by byte.
use Rattle.std.proofs.Common.{ℕ, ◌≡◌, ◌<◌, ◌≤◌, ◌+◌, ◌-◌, false, cond, ◌&&◌, eqb, List, [], ◌∷◌, ◌++◌, length, take}
use Rattle.std.proofs.Common.{drop, get_or, Some, None, refl, sym, ap, add-one, ◌∙◌, append_assoc, arith, length-drop}
use Rattle.std.proofs.lemmas.List.{take_more, get_or-drop}
use Rattle.std.proofs.Math.Seq.{drop-cons}
use Rattle.pg_syntax.specs.BracketReading.{BracketContent, with_byte, until}

abbrev pub with_front : List ℕ → BracketContent → BracketContent
with_front w None = None
with_front w (Some x) = Some (w ++ x.0, x.1)

pub front_more : (w : List ℕ) (a : ℕ) (o : BracketContent) → with_front w (with_byte a o) ≡ with_front (w ++ a ∷ []) o
front_more w a None = refl
front_more w a (Some x) = ap (λ t. Some (t, x.1)) (sym (append_assoc w (a ∷ []) x.0))

pub next : (text : List ℕ) (at : ℕ) → at < length text → drop at text ≡ get_or text at 0 ∷ drop (at + 1) text
next text at h = drop-cons text at 0 h ∙ ap (λ k. get_or text at 0 ∷ drop k text) (sym (add-one at))

two : (text : List ℕ) (at : ℕ) → at + 1 < length text
    → drop at text ≡ get_or text at 0 ∷ get_or text (at + 1) 0 ∷ drop (at + 2) text
two text at h =
    let e : at + 1 + 1 ≡ at + 2 = omega arith in
    next text at (omega arith) ∙ ap (λ t. get_or text at 0 ∷ t)
    (next text (at + 1) h ∙ ap (λ k. get_or text (at + 1) 0 ∷ drop k text) e)

pub until_later : (mark : ℕ) (text : List ℕ) (at : ℕ) → at + 1 < length text
    → (eqb (get_or text at 0) mark && eqb (get_or text (at + 1) 0) 93) ≡ false
    → until mark (drop at text) ≡ with_byte (get_or text at 0) (until mark (drop (at + 1) text))
until_later mark text at h e =
    ap (until mark) (two text at h)
    ∙ (ap (λ b. cond b (Some ([], drop (at + 2) text))
    (with_byte (get_or text at 0) (until mark (get_or text (at + 1) 0 ∷ drop (at + 2) text)))) e
    ∙ ap (λ t. with_byte (get_or text at 0) (until mark t))
    (sym (next text (at + 1) h ∙ ap (λ k. get_or text (at + 1) 0 ∷ drop k text)
    (let e : at + 1 + 1 ≡ at + 2 = omega arith in e))))

short : (mark : ℕ) (t : List ℕ) → length t ≤ 1 → until mark t ≡ None
short mark [] h = refl
short mark (a ∷ []) h = refl
short mark (a ∷ b ∷ t) h = absurd (omega arith)

pub until_end : (mark : ℕ) (text : List ℕ) (at : ℕ) → length text ≤ at + 1 → until mark (drop at text) ≡ None
until_end mark text at h = short mark (drop at text) (omega (arith, length-drop at text))

pub front_take : (text : List ℕ) (from at : ℕ) → from ≤ at → at < length text
    → take (at + 1 - from) (drop from text) ≡ take (at - from) (drop from text) ++ get_or text at 0 ∷ []
front_take text from at h k =
    let d = drop from text in
    let e : at + 1 - from ≡ at - from + 1 = omega arith in
    let f : from + (at - from) ≡ at = omega arith in
    ap (λ n. take n d) e
    ∙ (take_more d (at - from) 0 (omega (arith, length-drop from text))
    ∙ ap (λ x. take (at - from) d ++ x ∷ []) (get_or-drop from text (at - from) 0 ∙ ap (λ n. get_or text n 0) f))
