-- Queries are compared by their texts: the kind, the pattern lists and the options.
use Rattle.std.specs.Prelude.{◌≡◌, ℕ, Bool, true, false, ◌&&◌, ◌==◌, List, [], ◌∷◌, refl}
use Rattle.std.specs.Cmp.{IsEquivalence}
use Rattle.std.specs.Cmp.Lexicographic.{pointwise}
use Rattle.std.proofs.Common.{ap, ◌∙◌, arith}
use Rattle.std.proofs.lemmas.Bool.{false≢true, and_parts, and_from, eqb-true, eq-eqb}
use mathlib.Core.Bool.{beq}
use Rattle.pg_grammar.specs.Same.{same_patterns, patterns_equal, equivalence_of}
pub use Rattle.pg_grammar.specs.Same.{TestsEqual}
use Rattle.pg_selection.specs.Search.{SearchText, Patterns, Kind, Basic, Extended, Fixed}

-- a number for each kind
abbrev pub kind_number : Kind → ℕ
kind_number Basic = 0
kind_number Extended = 1
kind_number Fixed = 2

-- kind, lists and options are the same
unfoldable pub same_text : SearchText → SearchText → Bool
same_text a b =
    (kind_number a.kind == kind_number b.kind) && pointwise same_patterns a.lists b.lists && beq a.fold b.fold
    && beq a.whole b.whole && beq a.word b.word && beq a.invert b.invert && beq a.with_parts b.with_parts
    && beq a.zero b.zero

beq_sound : (a b : Bool) → beq a b ≡ true → a ≡ b
beq_sound true true e = refl
beq_sound true false e = absurd (false≢true e)
beq_sound false true e = absurd (false≢true e)
beq_sound false false e = refl

beq_complete : (a : Bool) → beq a a ≡ true
beq_complete true = refl
beq_complete false = refl

kind_sound : (a b : Kind) → kind_number a ≡ kind_number b → a ≡ b
kind_sound Basic Basic e = refl
kind_sound Basic Extended e = absurd (omega arith)
kind_sound Basic Fixed e = absurd (omega arith)
kind_sound Extended Basic e = absurd (omega arith)
kind_sound Extended Extended e = refl
kind_sound Extended Fixed e = absurd (omega arith)
kind_sound Fixed Basic e = absurd (omega arith)
kind_sound Fixed Extended e = absurd (omega arith)
kind_sound Fixed Fixed e = refl

lists_sound : (a b : List Patterns) → pointwise same_patterns a b ≡ true → a ≡ b
lists_sound [] [] e = refl
lists_sound [] (y ∷ ys) e = absurd (false≢true e)
lists_sound (x ∷ xs) [] e = absurd (false≢true e)
lists_sound (x ∷ xs) (y ∷ ys) e =
    let p = and_parts (same_patterns x y) (pointwise same_patterns xs ys) e in
    ap (λ z. z ∷ xs) (patterns_equal.sound x y p.0) ∙ ap (λ zs. y ∷ zs) (lists_sound xs ys p.1)

lists_complete : (a : List Patterns) → pointwise same_patterns a a ≡ true
lists_complete [] = refl
lists_complete (x ∷ xs) =
    and_from (same_patterns x x) (pointwise same_patterns xs xs) (patterns_equal.complete x) (lists_complete xs)

texts_agree : (a b : SearchText) → a.kind ≡ b.kind → a.lists ≡ b.lists → a.fold ≡ b.fold → a.whole ≡ b.whole
    → a.word ≡ b.word → a.invert ≡ b.invert → a.with_parts ≡ b.with_parts → a.zero ≡ b.zero → a ≡ b
texts_agree a b kind lists fold whole word invert with_parts zero =
    let K : Kind → SearchText = λ x. record a { kind = x } in
    let L : List Patterns → SearchText = λ x. record a { kind = b.kind; lists = x } in
    let F : Bool → SearchText = λ x. record b {
      fold = x;
      whole = a.whole;
      word = a.word;
      invert = a.invert;
      with_parts = a.with_parts;
      zero = a.zero;
    } in
    let X : Bool → SearchText = λ x. record b {
      whole = x;
      word = a.word;
      invert = a.invert;
      with_parts = a.with_parts;
      zero = a.zero;
    } in
    let W : Bool → SearchText =
    λ x. record b { word = x; invert = a.invert; with_parts = a.with_parts; zero = a.zero } in
    let I : Bool → SearchText = λ x. record b { invert = x; with_parts = a.with_parts; zero = a.zero } in
    let P : Bool → SearchText = λ x. record b { with_parts = x; zero = a.zero } in
    let Z : Bool → SearchText = λ x. record b { zero = x } in
    ap K kind ∙ (ap L lists ∙ (ap F fold ∙ (ap X whole ∙ (ap W word ∙ (ap I invert ∙ (ap P with_parts ∙ ap Z zero))))))

text_sound : (a b : SearchText) → same_text a b ≡ true → a ≡ b
unfolding same_text
text_sound a b e =
    let p7 = and_parts _ (beq a.zero b.zero) e in
    let p6 = and_parts _ (beq a.with_parts b.with_parts) p7.0 in
    let p5 = and_parts _ (beq a.invert b.invert) p6.0 in
    let p4 = and_parts _ (beq a.word b.word) p5.0 in
    let p3 = and_parts _ (beq a.whole b.whole) p4.0 in
    let p2 = and_parts _ (beq a.fold b.fold) p3.0 in
    let p1 = and_parts (kind_number a.kind == kind_number b.kind) _ p2.0 in
    let kind = kind_sound a.kind b.kind (eqb-true _ _ p1.0) in
    let lists = lists_sound a.lists b.lists p1.1 in
    let fold = beq_sound a.fold b.fold p2.1 in
    let whole = beq_sound a.whole b.whole p3.1 in
    let word = beq_sound a.word b.word p4.1 in
    let invert = beq_sound a.invert b.invert p5.1 in
    let with_parts = beq_sound a.with_parts b.with_parts p6.1 in
    let zero = beq_sound a.zero b.zero p7.1 in
    texts_agree a b kind lists fold whole word invert with_parts zero

text_complete : (a : SearchText) → same_text a a ≡ true
unfolding same_text
text_complete a =
    let p1 = and_from _ _ (eq-eqb (kind_number a.kind) _ refl) (lists_complete a.lists) in
    let p2 = and_from _ _ p1 (beq_complete a.fold) in
    let p3 = and_from _ _ p2 (beq_complete a.whole) in
    let p4 = and_from _ _ p3 (beq_complete a.word) in
    let p5 = and_from _ _ p4 (beq_complete a.invert) in
    let p6 = and_from _ _ p5 (beq_complete a.with_parts) in
    and_from _ _ p6 (beq_complete a.zero)

pub text_equal : TestsEqual same_text
text_equal = record { sound = text_sound; complete = text_complete }

pub same_text-laws : IsEquivalence same_text
same_text-laws = equivalence_of text_equal
