-- Where elements stand.
use Rattle.std.proofs.Common.{ℕ, ◌≡◌, ◌≢◌, ◌⊎◌, inl, inr, ◌<◌, ◌+◌, Bool, true, false, ◌&&◌, ◌||◌, eqb, leb, cond, List}
use Rattle.std.proofs.Common.{[], ◌∷◌, Option, Some, None, is_some, option_and_then, refl, sym, ap, ◌∙◌, subst, length}
use Rattle.std.proofs.Common.{get_or, not, drop, arith}
use Rattle.std.proofs.lemmas.Bool.{eqb-true, false≢true}
use Rattle.std.proofs.lemmas.Bool.Decides.{nat_tests}
use Rattle.pg_bytes.specs.Sets.{Bytes, one, between}
use Rattle.pg_grammar.specs.Brackets.{Element, Single, Enclosed, opens, IsFront, HaveNoRange}
use Rattle.pg_grammar.specs.Brackets.{OpensBracket, negates}
use Rattle.pg_grammar.specs.Brackets.{end_point, is_dash, member, only_byte}
use Rattle.pg_syntax.specs.BracketReading.{element_at, enclosed_at, enclosed_in, until, range_of}
use Rattle.pg_grammar.specs.Places.{StandsInBracket, HasRange, IsBadElement, IsBadRange}
use Rattle.pg_syntax.specs.BracketPlaces.{EndsRange, HasElement, ElementFollows}
use Rattle.pg_syntax.specs.BracketViews as V
use Rattle.pg_syntax.specs.declared.element.Element.{Element as Read}
use Rattle.pg_syntax.specs.declared.bracket.Mode.{Mode}
use Rattle.pg_syntax.specs.declared.bracket.Mode.TheVariants as M
use Rattle.pg_syntax.proofs.IntervalLemmas.{chosen, both}
use Rattle.std.proofs.lemmas.List.{drop-drop}
use Rattle.pg_syntax.proofs.BracketContents.{next}
use Rattle.pg_syntax.proofs.BracketLemmas.{until_takes}

-- the element that is found stands at the front
found : (c : ℕ) (t : List ℕ) (o : Option (List ℕ × List ℕ)) (e : Element) (rest : List ℕ)
    → opens (c ∷ t) ≡ true → until c t ≡ o → enclosed_in c o ≡ Some (e, rest) → IsFront e (91 ∷ c ∷ t) rest
found c t None e rest m u h = absurd (differ h)
  where
    differ : ◌≡◌ {A = Option (Element × List ℕ)} None (Some (e, rest)) → ⊥
    differ h = cc
found c t (Some x) e rest m u h =
    let w = until_takes c t x.0 x.1 u in
    subst (λ y. IsFront y.0 (91 ∷ c ∷ t) y.1) (same h) (ap (λ y. 91 ∷ c ∷ y) w.0, m, w.1)
  where
    pair_or : Option (Element × List ℕ) → Element × List ℕ
    pair_or None = (e, rest)
    pair_or (Some y) = y

    same : ◌≡◌ {A = Option (Element × List ℕ)} (Some (Enclosed c x.0, x.1)) (Some (e, rest))
        → ◌≡◌ {A = Element × List ℕ} (Enclosed c x.0, x.1) (e, rest)
    same h = ap pair_or h

pub front_of : (t : List ℕ) (e : Element) (rest : List ℕ) → element_at t ≡ Some (e, rest) → IsFront e t rest
front_of [] e rest h = absurd (differ h)
  where
    differ : ◌≡◌ {A = Option (Element × List ℕ)} None (Some (e, rest)) → ⊥
    differ h = cc
front_of (b ∷ t) e rest h = elim (chosen (eqb b 91 && opens t) _ _ _ h) [
  | inl g ↦ let k = both _ _ g.0 in
      subst (λ y. IsFront e (y ∷ t) rest) (sym (eqb-true b 91 k.0)) (enclosed t k.1 g.1)
  | inr g ↦ subst (λ y. IsFront y.0 (b ∷ t) y.1) (ap pair_or g.1) (refl, g.0)
]
  where
    pair_or : Option (Element × List ℕ) → Element × List ℕ
    pair_or None = (e, rest)
    pair_or (Some y) = y

    enclosed : (t : List ℕ) → opens t ≡ true → enclosed_at t ≡ Some (e, rest) → IsFront e (91 ∷ t) rest
    enclosed [] m k = absurd (false≢true m)
    enclosed (c ∷ u) m k = found c u (until c u) e rest m refl k

-- a `-` that is the element at the front
pub dash_front : (e : Element) (t rest : List ℕ) → is_dash e ≡ true → IsFront e t rest → t ≡ 45 ∷ rest
dash_front (Single b) t rest d f = f.0 ∙ ap (λ y. y ∷ rest) (eqb-true b 45 d)
dash_front (Enclosed c content) t rest d f = absurd (false≢true d)

-- what is no range
pub no_range : (low high : Element) → range_of (end_point low) (end_point high) ≡ None → HaveNoRange low high
no_range low high e m n a b = below (leb m n) refl (both_ends (end_point low) (end_point high) a b e)
  where
    both_ends : (x y : Option ℕ) → x ≡ Some m → y ≡ Some n → range_of x y ≡ None → range_of (Some m) (Some n) ≡ None
    both_ends x y a b e = subst (λ v. range_of (Some m) v ≡ None) b (subst (λ v. range_of v y ≡ None) a e)

    below : (x : Bool) → leb m n ≡ x → range_of (Some m) (Some n) ≡ None → n < m
    below true l e = absurd (differ (sym (ap (λ x. cond x (Some (between m n)) None) l) ∙ e))
      where
        differ : ◌≡◌ {A = Option Bytes} (Some (between m n)) None → ⊥
        differ h = cc
    below false l e = grind (arith, nat_tests)

pub none_left : {A : Type 0} (o : Option A) → is_some o ≡ false → o ≡ None
none_left None e = refl
none_left (Some x) e = absurd (false≢true (sym e))

-- a collating symbol of other than one byte stands for no byte
pub no_symbol : (e : Element) (mark : ℕ) (content : List ℕ) → e ≡ Enclosed mark content → mark ≡ 46
    → only_byte content ≡ None → member e ≡ None
no_symbol e mark content h m n = ap member h ∙ (ap (λ k. member (Enclosed k content)) m
    ∙ ap (option_and_then (λ b. Some (one b))) n)

-- an element ends a range
pub ends_range : (text : List ℕ) (bracket start at : ℕ) (a b : Read) (rest : List ℕ)
    → HasElement text bracket start a (45 ∷ drop at text) → HasElement text bracket at b rest → V.element b ≢ Single 93
    → HasRange text bracket start (V.element a) (V.element b) rest
ends_range text bracket start at a b rest h k n = record {
  inside = h.inside;
  from = drop at text;
  begins = h.front;
  ends = k.front;
  inner = n;
}

-- a range can't go on with another one
pub ranged_on : (text : List ℕ) (bracket start at : ℕ) (b : Read) (rest : List ℕ)
    → EndsRange text bracket start (45 ∷ drop at text) → HasElement text bracket at b rest → V.element b ≢ Single 93
    → IsBadRange text bracket start
ranged_on text bracket start at b rest (inl h) k n = (
  h.0,
  h.1,
  45 ∷ drop at text,
  h.2,
  inr (record {
    next = V.element b;
    from = drop at text;
    rest = rest;
    dash = refl;
    front = k.front;
    inner = n;
  }),
)
ranged_on text bracket start at b rest (inr h) k n = h

pub behind_dash : (mode : Mode) (text : List ℕ) (bracket start at : ℕ) (a b : Read) (rest : List ℕ)
    → mode ≡ M.Dashed start a → ElementFollows text bracket mode at b rest → V.element b ≢ Single 93
behind_dash mode text bracket start at a b rest m g = other g.inner
  where
    other : (mode ≡ M.Fresh) ⊎ (V.element b ≢ Single 93) → V.element b ≢ Single 93
    other (inl f) = cc
    other (inr n) = n

pub behind_range : (mode : Mode) (text : List ℕ) (bracket start at : ℕ) (b : Read) (rest : List ℕ)
    → mode ≡ M.Barred start → ElementFollows text bracket mode at b rest → V.element b ≢ Single 93
behind_range mode text bracket start at b rest m g = other g.inner
  where
    other : (mode ≡ M.Fresh) ⊎ (V.element b ≢ Single 93) → V.element b ≢ Single 93
    other (inl f) = cc
    other (inr n) = n

-- behind the first element no `]` is one
pub not_closing : (text : List ℕ) (at : ℕ) (first : Bool) (e : Element) (rest : List ℕ) → at < length text
    → (eqb (get_or text at 0) 93 && not first) ≡ false → IsFront e (drop at text) rest
    → (first ≡ true) ⊎ (e ≢ Single 93)
not_closing text at true e rest h d k = inl refl
not_closing text at false e rest h d k = inr (λ s. differs (get_or text at 0) refl
    (ap (λ t. get_or t 0 0) (sym (next text at h) ∙ (subst (λ x. IsFront x (drop at text) rest) s k).0)))
  where
    differs : (b : ℕ) → get_or text at 0 ≡ b → b ≡ 93 → ⊥
    differs b e n = absurd (false≢true (sym d ∙ ap (λ x. eqb x 93 && true) (e ∙ n)))

pub inner : (first : Bool) (e : Element) (mode : Mode) → (mode ≡ M.Fresh) ⊎ (first ≡ false)
    → (first ≡ true) ⊎ (e ≢ Single 93) → (mode ≡ M.Fresh) ⊎ (e ≢ Single 93)
inner first e mode (inl f) k = inl f
inner first e mode (inr f) (inl t) = absurd (false≢true (sym f ∙ t))
inner first e mode (inr f) (inr n) = inr n

-- an enclosed element that stands for no bytes
pub bad_element : (text : List ℕ) (bracket at : ℕ) (a : Read) (rest : List ℕ) (mark : ℕ) (content : List ℕ)
    → V.element a ≡ Enclosed mark content → HasElement text bracket at a rest → member (V.element a) ≡ None
    → IsBadElement mark text bracket at
bad_element text bracket at a rest mark content e h n = record {
  content = content;
  rest = rest;
  inside = subst (StandsInBracket text bracket at) e h.inside;
  front = subst (λ x. IsFront x (drop at text) rest) e h.front;
  nothing = sym (ap member e) ∙ n;
}

pub bad_class : (text : List ℕ) (bracket at mark : ℕ) → mark ≡ 58 → IsBadElement mark text bracket at
    → IsBadElement 58 text bracket at
bad_class text bracket at mark e bad = subst (λ m. IsBadElement m text bracket at) e bad

pub bad_collating : (text : List ℕ) (bracket at mark : ℕ) → mark ≢ 58 → IsBadElement mark text bracket at
    → IsBadElement 61 text bracket at ⊎ IsBadElement 46 text bracket at
bad_collating text bracket at mark n bad = elim (other_mark (eqb mark 58) (eqb mark 61) refl refl bad.front.1) [
  | inl e ↦ inl (subst (λ m. IsBadElement m text bracket at) e bad)
  | inr e ↦ inr (subst (λ m. IsBadElement m text bracket at) e bad)
]
  where
    other_mark : (x y : Bool) → eqb mark 58 ≡ x → eqb mark 61 ≡ y → (x || (y || eqb mark 46)) ≡ true
        → (mark ≡ 61) ⊎ (mark ≡ 46)
    other_mark true y a b h = absurd (n (eqb-true mark 58 a))
    other_mark false true a b h = inl (eqb-true mark 61 b)
    other_mark false false a b h = inr (eqb-true mark 46 h)

-- a bracket's elements begin behind its `[`, and a `^`
pub opens_at : (text : List ℕ) (at : ℕ) (turn : Bool) (start : ℕ) → drop at text ≡ 91 ∷ drop (at + 1) text
    → turn ≡ negates (drop (at + 1) text) → start ≡ cond turn (at + 2) (at + 1)
    → OpensBracket (drop at text) (drop start text)
opens_at text at false start s n e =
    let same : start ≡ at + 1 = e in
    inl (s ∙ ap (λ k. 91 ∷ drop k text) (sym same), sym (n ∙ ap (λ k. negates (drop k text)) (sym same)))
opens_at text at true start s n e = inr (s ∙ ap (λ t. 91 ∷ t) (turned (drop (at + 1) text) refl n))
  where
    turned : (t : List ℕ) → drop (at + 1) text ≡ t → true ≡ negates t → t ≡ 94 ∷ drop start text
    turned [] d h = absurd (false≢true (sym h))
    turned (b ∷ t) d h =
        let same : at + 1 + 1 ≡ start = let g : start ≡ at + 2 = e in omega arith in
        ap (λ x. x ∷ t) (eqb-true b 94 (sym h))
        ∙ ap (λ u. 94 ∷ u) (sym (ap (drop 1) d) ∙ (drop-drop 1 (at + 1) text ∙ ap (λ k. drop k text) same))
