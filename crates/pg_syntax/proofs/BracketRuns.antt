-- The elements of a bracket, one after the other.
use Rattle.std.proofs.Common.{ℕ, zero, suc, ◌≡◌, ◌<◌, ◌≤◌, ◌+◌, ◌-◌, Bool, true, false, not, ◌&&◌, eqb, List, [], ◌∷◌}
use Rattle.std.proofs.Common.{length, drop, get_or, Option, Some, None, option_and_then, refl, sym, ap, ◌∙◌, arith}
use Rattle.std.proofs.Common.{length-drop, length-append}
use Rattle.std.proofs.lemmas.List.{drop_all}
use Rattle.pg_grammar.specs.Brackets.{Element, OpensBracket}
use Rattle.pg_grammar.specs.Places.{HasNoEnd}
use Rattle.pg_syntax.specs.BracketReading.{Elements, Reading, put, finish, with_element, inside_at, element_at, rest_of}
use Rattle.pg_syntax.specs.BracketReading.{unread}
use Rattle.pg_syntax.proofs.BracketLemmas.{inside_again, no_elements}
use Rattle.pg_syntax.proofs.BracketSteps.{inside_step, inside_close, rest_more, finish_is}
use Rattle.pg_syntax.proofs.BracketContents.{next}

-- what is left to read of all elements, with enough steps for it; where it has no end, they have none
pub record Left (all : Elements) (text : List ℕ) (r : Reading) (first : Bool) (at : ℕ) : Type 0 where
  pub steps : ℕ
  pub enough : length text - at ≤ steps
  pub reads : rest_of unread all ≡ rest_of r (inside_at steps first (drop at text))
  pub endless : inside_at steps first (drop at text) ≡ None → all ≡ None

abbrev pred_of : (n : ℕ) → 0 < n → (m : ℕ) × (n ≡ suc m)
pred_of zero h = absurd (omega arith)
pred_of (suc m) h = (m, refl)

then_inside : (m : ℕ) → Option (Element × List ℕ) → Elements
then_inside m o = option_and_then (λ (e, rest). with_element e (inside_at m false rest)) o

at_step : (text : List ℕ) (first : Bool) (at n : ℕ) (h : at < length text)
    → (eqb (get_or text at 0) 93 && not first) ≡ false → length text - at ≤ n → (m : ℕ) × (length text - at ≤ suc m)
    × (inside_at n first (drop at text) ≡ then_inside m (element_at (drop at text)))
unfolding then_inside
at_step text first at n h c l =
    let p = pred_of n (omega arith) in
    let s : drop at text ≡ get_or text at 0 ∷ drop (at + 1) text = next text at h in (
      p.0,
      (let q : n ≡ suc p.0 = p.1 in omega arith),
      ap (λ k. inside_at k first (drop at text)) p.1
          ∙ (ap (inside_at (suc p.0) first) s
          ∙ (inside_step p.0 first (get_or text at 0) (drop (at + 1) text) c
          ∙ ap (then_inside p.0) (ap element_at (sym s)))),
    )

pub left_more : (all : Elements) (text : List ℕ) (r : Reading) (first : Bool) (at after : ℕ) (e : Element)
    → at < length text → at < after → (eqb (get_or text at 0) 93 && not first) ≡ false
    → element_at (drop at text) ≡ Some (e, drop after text) → (t : Reading) → t ≡ put r e → Left all text r first at
    → Left all text t false after
unfolding then_inside
left_more all text r first at after e h a c f t g x =
    let s = at_step text first at x.steps h c x.enough in
    let q : length text - at ≤ suc s.0 = s.1 in
    record {
      steps = s.0;
      enough = omega arith;
      reads = x.reads ∙ (ap (rest_of r) (s.2 ∙ ap (then_inside s.0) f)
          ∙ (rest_more r e (inside_at s.0 false (drop after text))
          ∙ ap (λ y. rest_of y (inside_at s.0 false (drop after text))) (sym g)));
      endless = λ n. x.endless (s.2 ∙ (ap (then_inside s.0) f ∙ ap (with_element e) n));
    }

pub left_none : (all : Elements) (text : List ℕ) (r : Reading) (first : Bool) (at : ℕ) → at < length text
    → (eqb (get_or text at 0) 93 && not first) ≡ false → element_at (drop at text) ≡ None → Left all text r first at
    → all ≡ None
unfolding then_inside
left_none all text r first at h c f x =
    let s = at_step text first at x.steps h c x.enough in x.endless (s.2 ∙ ap (then_inside s.0) f)

pub nothing : (n : ℕ) (first : Bool) → inside_at n first [] ≡ None
unfolding inside_at
nothing zero first = refl
nothing (suc n) first = refl

pub left_end : (all : Elements) (text : List ℕ) (r : Reading) (first : Bool) (at : ℕ) → length text ≤ at
    → Left all text r first at → all ≡ None
left_end all text r first at h x =
    x.endless (ap (inside_at x.steps first) (drop_all at text h) ∙ nothing x.steps first)

-- where no end is read, there is none
pub unended : (text : List ℕ) (bracket start : ℕ) → OpensBracket (drop bracket text) (drop start text)
    → inside_at (length text - start) true (drop start text) ≡ None → HasNoEnd text bracket
unended text bracket start o none = record {
  elements = drop start text;
  opens = o;
  none = λ inside rest es i e.
      no_elements (es, rest) (sym none ∙ (ap (inside_at (length text - start) true) e
      ∙ inside_again i (length text - start) rest
      (omega (arith, ap length e, length-drop start text, length-append inside rest))));
}

pub left_close : (all : Elements) (text : List ℕ) (r : Reading) (first : Bool) (at : ℕ)
    → at < length text → (eqb (get_or text at 0) 93 && not first) ≡ true → Left all text r first at
    → rest_of unread all ≡ option_and_then (λ s. Some (s, drop (at + 1) text)) (finish r)
left_close all text r first at h c x =
    let p = pred_of x.steps (let l = x.enough in omega arith) in
    x.reads
    ∙ (ap (rest_of r) (ap (λ k. inside_at k first (drop at text)) p.1
    ∙ (ap (inside_at (suc p.0) first) (next text at h)
    ∙ inside_close p.0 first (get_or text at 0) (drop (at + 1) text) c))
    ∙ ap (option_and_then (λ s. Some (s, drop (at + 1) text))) (finish_is r))
