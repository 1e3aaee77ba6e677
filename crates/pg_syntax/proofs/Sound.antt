-- What is read is spelled.
use Rattle.std.proofs.Common.{ℕ, suc, ◌≡◌, ◌≢◌, ◌<◌, Bool, true, false, ◌&&◌, eqb, ltb, List, [], ◌∷◌, ◌++◌, length}
use Rattle.std.proofs.Common.{Option, Some, None, is_some, is_none, option_and_then, ◌⊎◌, inl, inr, refl, sym, ap, ◌∙◌}
use Rattle.std.proofs.Common.{subst, append_assoc, append-nil}
use Rattle.std.proofs.lemmas.Bool.{eqb-true, ltb-true, eq-eqb, false≢true}
use Rattle.pg_bytes.specs.Sets.{Bytes, one, all}
use Rattle.pg_pattern.specs.Patterns.{folded}
use Rattle.pg_syntax.specs.BracketReading.{bracket}
use Rattle.pg_syntax.specs.IntervalReading.{bounds}
use Rattle.pg_pattern.specs.Patterns.{Pattern, Set, Begin, End, Cat, Alt, Rep}
use Rattle.pg_syntax.proofs.BracketLemmas.{bracket_front, bracket_takes}
use Rattle.pg_syntax.proofs.IntervalLemmas.{chosen, both, bounds_take}
use Rattle.pg_grammar.specs.Grammar as G
use Rattle.pg_grammar.specs.Grammar.{opening, closing, brace, unbrace, is_escaped, Mark, Atom, Item, Piece}
use Rattle.pg_grammar.specs.Grammar.{Seq, Body}
use Rattle.pg_syntax.specs.Machine.{Level, cat, alt, last, State, with_item, Token, Part, Anchor, Repeat, Open, Close}
use Rattle.pg_syntax.specs.Machine.{Bar, repeated, with_group, popped, barred, grouped, after, NextToken, ends}
use Rattle.pg_syntax.specs.Machine.{set_token}
use Rattle.pg_syntax.specs.Machine.{repeat_token, basic_escape, extended_escape, basic_token, extended_token, token}
use Rattle.pg_syntax.proofs.Reading.{next, Completes, done, step}
use Rattle.pg_grammar.specs.declared.syntax.Syntax.{Syntax}
use Rattle.pg_grammar.specs.declared.syntax.Syntax.TheVariants.{Basic, Extended}
use Rattle.pg_syntax.proofs.Complete.{basic≢extended, ends_byte, nonempty, append_empty}

second : (x y : Bool) → x ≡ true → (x && y) ≡ false → y ≡ false
second true y e h = h
second false y e h = absurd (false≢true e)

none_is : (o : Option Pattern) → is_none o ≡ true → o ≡ None
none_is None e = refl
none_is (Some p) e = absurd (false≢true e)

pub grouped_not : (ls : List Level) → grouped ls ≡ false → length ls ≡ 0
grouped_not [] e = refl
grouped_not (l ∷ ls) e = absurd (false≢true (sym e))

-- the rest of a body agrees with whether the text is at the end of a body
abbrev pub Fine : Syntax → Bool → List ℕ → Type 0
Fine Basic e after = (after ≡ [] → e ≡ true) × (e ≡ true → after ≡ [])
Fine Extended e after = Unit {0}

abbrev pub ending : Syntax → List ℕ → Bool
ending Basic rest = ends rest
ending Extended rest = false

abbrev pub GoesOn : Syntax → Bool → Type 0
GoesOn syntax e = (after : List ℕ) → after ≢ [] → Fine syntax e after

-- these bytes are no end of a body
abbrev pub NotEnd : Syntax → List ℕ → Type 0
NotEnd Basic w = (x : List ℕ) → ends (w ++ x) ≡ false
NotEnd Extended w = w ≢ []

not_empty : (syntax : Syntax) (w : List ℕ) → NotEnd syntax w → w ≢ []
not_empty Basic w h = nonempty w h
not_empty Extended w h = h

goes_on_false : (syntax : Syntax) → GoesOn syntax false
goes_on_false Basic = λ a h. (λ z. absurd (h z), λ z. absurd (false≢true z))
goes_on_false Extended = λ a h. tt

goes_on : (syntax : Syntax) (w rest : List ℕ) → NotEnd syntax w → GoesOn syntax (ending syntax (w ++ rest))
goes_on Basic w rest n = λ a h. (λ z. absurd (h z), λ z. absurd (false≢true (sym (n rest) ∙ z)))
goes_on Extended w rest n = λ a h. tt

-- where in a body the machine is
abbrev pub Position : Syntax → Level → List ℕ → Type 0
Position Basic l before = (is_none (last l) ≡ false → before ≢ []) × (is_none (last l) ≡ true → before ≡ [])
    × (is_some l.item ≡ false → (before ≡ []) ⊎ (before ≡ 94 ∷ []))
Position Extended l before = Unit {0}

-- after an anchor a basic body is at its end or has read its `^`
abbrev pub Stop : Syntax → Bool → List ℕ → Type 0
Stop Basic e u = (e ≡ true) ⊎ (u ≡ 94 ∷ [])
Stop Extended e u = Unit {0}

-- what a token says of the bytes w that it took
module _ (syntax : Syntax) (fold : Bool) (s : State) where
  abbrev pub Means : List ℕ → List ℕ → Token → Type 0
  Means w rest (Part p) = NotEnd syntax w
      × ((before after : List ℕ) → Position syntax s.level before → Fine syntax (ending syntax rest) after
      → Atom syntax fold before w after p (length s.outer))
  Means w rest (Anchor p) = NotEnd syntax w
      × ((before after : List ℕ) → Position syntax s.level before → Fine syntax (ending syntax rest) after
      → Piece syntax fold before w after p (length s.outer))
      × ((before : List ℕ) → Position syntax s.level before → Stop syntax (ending syntax rest) (before ++ w))
  Means w rest (Repeat m n) = NotEnd syntax w × Mark syntax w m n
  Means w rest Open = NotEnd syntax w × (w ≡ opening syntax)
  Means w rest Close = w ≡ closing syntax
  Means w rest Bar = NotEnd syntax w × (syntax ≡ Extended) × (w ≡ 124 ∷ [])

  abbrev pub Told : List ℕ → Token → List ℕ → Type 0
  Told text k rest = (w : List ℕ) × (text ≡ w ++ rest) × Means w rest k

abbrev token_or : Token → NextToken → Token
token_or k None = k
token_or k (Some x) = x.0

abbrev rest_or : List ℕ → NextToken → List ℕ
rest_or t None = t
rest_or t (Some x) = x.1

pub found : (P : Token → List ℕ → Type 0) (k k' : Token) (t t' : List ℕ)
    → ◌≡◌ {A = NextToken} (Some (k, t)) (Some (k', t'))
    → P k t → P k' t'
found P k k' t t' e p = subst (λ x. P x t') (ap (token_or k) e) (subst (λ x. P k x) (ap (rest_or t) e) p)

nothing_found : (P : Token → List ℕ → Type 0) (k : Token) (t : List ℕ) → ◌≡◌ {A = NextToken} None (Some (k, t)) → P k t
nothing_found P k t e = cc

set_told : (syntax : Syntax) (fold : Bool) (s : State) (text : List ℕ) (k : Token) (rest : List ℕ)
    → set_token (bracket fold (91 ∷ text)) ≡ Some (k, rest) → Told syntax fold s (91 ∷ text) k rest
set_told syntax fold s text k rest e = go (bracket fold (91 ∷ text)) refl e
  where
    front : (x : Syntax) (w u : List ℕ) → w ≡ 91 ∷ u → NotEnd x w
    front Basic w u e = λ x. subst (λ y. ends (y ++ x) ≡ false) (sym e) (ends_byte 91 (u ++ x) refl)
    front Extended w u e = λ h. let f : 91 ∷ u ≡ [] = sym e ∙ h in cc

    go : (o : Option (Bytes × List ℕ)) → bracket fold (91 ∷ text) ≡ o → set_token o ≡ Some (k, rest)
        → Told syntax fold s (91 ∷ text) k rest
    go None b h = nothing_found (λ x y. Told syntax fold s (91 ∷ text) x y) k rest h
    go (Some (set, t)) b h =
        let told = bracket_takes fold text set t b in
        let f = bracket_front fold told.0 set told.2 in
        found (λ x y. Told syntax fold s (91 ∷ text) x y) (Part (Set set)) k t rest h
        (told.0, told.1, (front syntax told.0 f.0 f.1, λ before next at fine. G.bracket told.2))

repeat_told : (syntax : Syntax) (fold : Bool) (s : State) (text : List ℕ) (k : Token) (rest : List ℕ)
    → repeat_token (bounds (unbrace syntax) text) ≡ Some (k, rest) → Told syntax fold s (brace syntax ++ text) k rest
repeat_told syntax fold s text k rest e = go (bounds (unbrace syntax) text) refl e
  where
    front : (x : Syntax) (w : List ℕ) → NotEnd x (brace x ++ w)
    front Basic w = λ x. refl
    front Extended w = λ h. cc

    go : (o : Option (ℕ × Option ℕ × List ℕ)) → bounds (unbrace syntax) text ≡ o → repeat_token o ≡ Some (k, rest)
        → Told syntax fold s (brace syntax ++ text) k rest
    go None b h = nothing_found (λ x y. Told syntax fold s (brace syntax ++ text) x y) k rest h
    go (Some (m, n, t)) b h =
        let told = bounds_take (unbrace syntax) text m n t b in
        found (λ x y. Told syntax fold s (brace syntax ++ text) x y) (Repeat m n) k t rest h (
          brace syntax ++ (told.0 ++ unbrace syntax),
          ap (λ y. brace syntax ++ y) told.1
              ∙ sym (append_assoc (brace syntax) (told.0 ++ unbrace syntax) t),
          (front syntax _, G.interval told.2),
        )

-- one byte that isn't a backslash
plain_front : (syntax : Syntax) (b : ℕ) → eqb b 92 ≡ false → NotEnd syntax (b ∷ [])
plain_front Basic b e = λ x. ends_byte b x e
plain_front Extended b e = λ h. cc

basic_escape_told : (fold : Bool) (s : State) (t : List ℕ) (k : Token) (rest : List ℕ)
    → basic_escape fold s t ≡ Some (k, rest) → Told Basic fold s (92 ∷ t) k rest
unfolding basic_escape
basic_escape_told fold s [] k rest e = nothing_found (λ x y. Told Basic fold s (92 ∷ []) x y) k rest e
basic_escape_told fold s (c ∷ t) k rest e = elim (chosen (eqb c 40) _ _ _ e) [
  | inl h ↦ at 40 h.0 (found (λ x y. Told Basic fold s (92 ∷ 40 ∷ t) x y) Open k t rest h.1
      (92 ∷ 40 ∷ [], refl, (λ x. refl, refl)))
  | inr h ↦ elim (chosen (eqb c 41) _ _ _ h.1) [
    | inl h ↦ at 41 h.0 (elim (chosen (grouped s.outer) _ _ _ h.1) [
      | inl g ↦ found (λ x y. Told Basic fold s (92 ∷ 41 ∷ t) x y) Close k t rest g.1 (92 ∷ 41 ∷ [], refl, refl)
      | inr g ↦ nothing_found (λ x y. Told Basic fold s (92 ∷ 41 ∷ t) x y) k rest g.1
    ])
    | inr h41 ↦ elim (chosen (eqb c 123) _ _ _ h41.1) [
      | inl h ↦ at 123 h.0 (repeat_told Basic fold s t k rest h.1)
      | inr h ↦ elim (chosen (is_escaped Basic c) _ _ _ h.1) [
        | inl h ↦ found (λ x y. Told Basic fold s (92 ∷ c ∷ t) x y) (Part (Set (folded fold (one c)))) k t rest h.1
            (92 ∷ c ∷ [], refl, (λ x. h41.0, λ before next at fine. G.escape h.0))
        | inr h ↦ nothing_found (λ x y. Told Basic fold s (92 ∷ c ∷ t) x y) k rest h.1
      ]
    ]
  ]
]
  where
    at : (b : ℕ) → eqb c b ≡ true → Told Basic fold s (92 ∷ b ∷ t) k rest → Told Basic fold s (92 ∷ c ∷ t) k rest
    at b e h = subst (λ x. Told Basic fold s (92 ∷ x ∷ t) k rest) (sym (eqb-true c b e)) h

extended_escape_told : (fold : Bool) (s : State) (t : List ℕ) (k : Token) (rest : List ℕ)
    → extended_escape fold t ≡ Some (k, rest) → Told Extended fold s (92 ∷ t) k rest
unfolding extended_escape
extended_escape_told fold s [] k rest e = nothing_found (λ x y. Told Extended fold s (92 ∷ []) x y) k rest e
extended_escape_told fold s (c ∷ t) k rest e = elim (chosen (is_escaped Extended c) _ _ _ e) [
  | inl h ↦ found (λ x y. Told Extended fold s (92 ∷ c ∷ t) x y) (Part (Set (folded fold (one c)))) k t rest h.1
      (92 ∷ c ∷ [], refl, (λ z. cc, λ before next at fine. G.escape h.0))
  | inr h ↦ nothing_found (λ x y. Told Extended fold s (92 ∷ c ∷ t) x y) k rest h.1
]

-- the byte that a test found
same_byte : (P : ℕ → Type 0) (b c : ℕ) → eqb b c ≡ true → P c → P b
same_byte P b c e h = subst P (sym (eqb-true b c e)) h

basic_told : (fold : Bool) (s : State) (b : ℕ) (t : List ℕ) (k : Token) (rest : List ℕ)
    → basic_token fold s b t ≡ Some (k, rest) → Told Basic fold s (b ∷ t) k rest
unfolding basic_token
basic_told fold s b t k rest e = elim (chosen (eqb b 92) _ _ _ e) [
  | inl h ↦ same_byte (λ x. Told Basic fold s (x ∷ t) k rest) b 92 h.0 (basic_escape_told fold s t k rest h.1)
  | inr h1 ↦ elim (chosen (eqb b 91) _ _ _ h1.1) [
    | inl h ↦ same_byte (λ x. Told Basic fold s (x ∷ t) k rest) b 91 h.0
        (set_told Basic fold s t k rest (subst (λ x. set_token (bracket fold (x ∷ t)) ≡ Some (k, rest))
        (eqb-true b 91 h.0) h.1))
    | inr h2 ↦ elim (chosen (eqb b 46) _ _ _ h2.1) [
      | inl h ↦ same_byte (λ x. Told Basic fold s (x ∷ t) k rest) b 46 h.0
          (found (λ x y. Told Basic fold s (46 ∷ t) x y) (Part (Set all)) k t rest h.1
          (46 ∷ [], refl, (plain_front Basic 46 refl, λ before next at fine. G.dot)))
      | inr h3 ↦ elim (chosen (eqb b 42 && is_some s.level.item) _ _ _ h3.1) [
        | inl h ↦ same_byte (λ x. Told Basic fold s (x ∷ t) k rest) b 42 (both _ _ h.0).0
            (found (λ x y. Told Basic fold s (42 ∷ t) x y) (Repeat 0 None) k t rest h.1
            (42 ∷ [], refl, (plain_front Basic 42 refl, G.star)))
        | inr h4 ↦ elim (chosen (eqb b 94 && is_none (last s.level)) _ _ _ h4.1) [
          | inl h ↦ same_byte (λ x. Told Basic fold s (x ∷ t) k rest) b 94 (both _ _ h.0).0
              (found (λ x y. Told Basic fold s (94 ∷ t) x y) (Anchor Begin) k t rest h.1 (
                94 ∷ [],
                refl,
                (
                  plain_front Basic 94 refl,
                  λ before next at fine. (begins before next (at.1 (both _ _ h.0).1)).0,
                  λ before at. (begins before [] (at.1 (both _ _ h.0).1)).1,
                ),
              ))
          | inr h5 ↦ elim (chosen (eqb b 36 && ends t) _ _ _ h5.1) [
            | inl h ↦ same_byte (λ x. Told Basic fold s (x ∷ t) k rest) b 36 (both _ _ h.0).0
                (found (λ x y. Told Basic fold s (36 ∷ t) x y) (Anchor End) k t rest h.1 (
                  36 ∷ [],
                  refl,
                  (
                    plain_front Basic 36 refl,
                    λ before next at fine. (closes before next (fine.1 (both _ _ h.0).1) (both _ _ h.0).1).0,
                    λ before at. inl (both _ _ h.0).1,
                  ),
                ))
            | inr h6 ↦ found (λ x y. Told Basic fold s (b ∷ t) x y) (Part (Set (folded fold (one b)))) k t rest h6.1 (
              b ∷ [],
              refl,
              (
                plain_front Basic b h1.0,
                λ before next at fine. G.byte (
                  rw (h1.0, h2.0, h3.0) refl,
                  λ eb. at.0 (second (eqb b 94) (is_none (last s.level)) (eq-eqb b 94 eb) h5.0),
                  λ eb en. false≢true (sym (second (eqb b 36) (ends t) (eq-eqb b 36 eb) h6.0) ∙ fine.0 en),
                  λ eb. at.2 (second (eqb b 42) (is_some s.level.item) (eq-eqb b 42 eb) h4.0),
                ),
              ),
            )
          ]
        ]
      ]
    ]
  ]
]
  where
    begins : (before next : List ℕ) → before ≡ [] → Piece Basic fold before (94 ∷ []) next Begin (length s.outer)
        × Stop Basic (ends t) (before ++ 94 ∷ [])
    begins before next e = subst (λ x. Piece Basic fold x (94 ∷ []) next Begin (length s.outer)
        × Stop Basic (ends t) (x ++ 94 ∷ [])) (sym e) (G.begin refl, inr refl)

    closes : (before next : List ℕ) → next ≡ [] → ends t ≡ true
        → Piece Basic fold before (36 ∷ []) next End (length s.outer) × Stop Basic (ends t) (before ++ 36 ∷ [])
    closes before next en e = (
      subst (λ x. Piece Basic fold before (36 ∷ []) x End (length s.outer)) (sym en)
          (G.end refl),
      inl e,
    )

extended_told : (fold : Bool) (s : State) (b : ℕ) (t : List ℕ) (k : Token) (rest : List ℕ)
    → extended_token fold s b t ≡ Some (k, rest) → Told Extended fold s (b ∷ t) k rest
unfolding extended_token
extended_told fold s b t k rest e = elim (chosen (eqb b 92) _ _ _ e) [
  | inl h ↦ same_byte (λ x. Told Extended fold s (x ∷ t) k rest) b 92 h.0 (extended_escape_told fold s t k rest h.1)
  | inr n92 ↦ elim (chosen (eqb b 91) _ _ _ n92.1) [
    | inl h ↦ same_byte (λ x. Told Extended fold s (x ∷ t) k rest) b 91 h.0
        (set_told Extended fold s t k rest
        (subst (λ x. set_token (bracket fold (x ∷ t)) ≡ Some (k, rest)) (eqb-true b 91 h.0) h.1))
    | inr n91 ↦ elim (chosen (eqb b 46) _ _ _ n91.1) [
      | inl h ↦ same_byte (λ x. Told Extended fold s (x ∷ t) k rest) b 46 h.0
          (found (λ x y. Told Extended fold s (46 ∷ t) x y) (Part (Set all)) k t rest h.1
          (46 ∷ [], refl, (plain_front Extended 46 refl, λ before next at fine. G.dot)))
      | inr n46 ↦ elim (chosen (eqb b 42) _ _ _ n46.1) [
        | inl h ↦ same_byte (λ x. Told Extended fold s (x ∷ t) k rest) b 42 h.0
            (found (λ x y. Told Extended fold s (42 ∷ t) x y) (Repeat 0 None) k t rest h.1
            (42 ∷ [], refl, (plain_front Extended 42 refl, G.star)))
        | inr n42 ↦ elim (chosen (eqb b 43) _ _ _ n42.1) [
          | inl h ↦ same_byte (λ x. Told Extended fold s (x ∷ t) k rest) b 43 h.0
              (found (λ x y. Told Extended fold s (43 ∷ t) x y) (Repeat 1 None) k t rest h.1
              (43 ∷ [], refl, (plain_front Extended 43 refl, G.plus refl)))
          | inr n43 ↦ elim (chosen (eqb b 63) _ _ _ n43.1) [
            | inl h ↦ same_byte (λ x. Told Extended fold s (x ∷ t) k rest) b 63 h.0
                (found (λ x y. Told Extended fold s (63 ∷ t) x y) (Repeat 0 (Some 1)) k t rest h.1
                (63 ∷ [], refl, (plain_front Extended 63 refl, G.question refl)))
            | inr n63 ↦ elim (chosen (eqb b 123) _ _ _ n63.1) [
              | inl h ↦ same_byte (λ x. Told Extended fold s (x ∷ t) k rest) b 123 h.0
                  (repeat_told Extended fold s t k rest h.1)
              | inr n123 ↦ elim (chosen (eqb b 40) _ _ _ n123.1) [
                | inl h ↦ same_byte (λ x. Told Extended fold s (x ∷ t) k rest) b 40 h.0
                    (found (λ x y. Told Extended fold s (40 ∷ t) x y) (Open) k t rest h.1
                    (40 ∷ [], refl, (plain_front Extended 40 refl, refl)))
                | inr n40 ↦ elim (chosen (eqb b 41 && grouped s.outer) _ _ _ n40.1) [
                  | inl h ↦ same_byte (λ x. Told Extended fold s (x ∷ t) k rest) b 41 (both _ _ h.0).0
                      (found (λ x y. Told Extended fold s (41 ∷ t) x y) Close k t rest h.1 (41 ∷ [], refl, refl))
                  | inr n41g ↦ elim (chosen (eqb b 124) _ _ _ n41g.1) [
                    | inl h ↦ same_byte (λ x. Told Extended fold s (x ∷ t) k rest) b 124 h.0
                        (found (λ x y. Told Extended fold s (124 ∷ t) x y) (Bar) k t rest h.1
                        (124 ∷ [], refl, (plain_front Extended 124 refl, refl, refl)))
                    | inr n124 ↦ elim (chosen (eqb b 94) _ _ _ n124.1) [
                      | inl h ↦ same_byte (λ x. Told Extended fold s (x ∷ t) k rest) b 94 h.0
                          (found (λ x y. Told Extended fold s (94 ∷ t) x y) (Anchor Begin) k t rest h.1 (
                            94 ∷ [],
                            refl,
                            (
                              plain_front Extended 94 refl,
                              λ before next at fine. G.caret refl,
                              λ before at. tt,
                            ),
                          ))
                      | inr n94 ↦ elim (chosen (eqb b 36) _ _ _ n94.1) [
                        | inl h ↦ same_byte (λ x. Told Extended fold s (x ∷ t) k rest) b 36 h.0
                            (found (λ x y. Told Extended fold s (36 ∷ t) x y) (Part End) k t rest h.1
                            (36 ∷ [], refl, (plain_front Extended 36 refl, λ before next at fine. G.dollar refl)))
                        | inr n36 ↦ found (λ x y. Told Extended fold s (b ∷ t) x y)
                            (Part (Set (folded fold (one b)))) k t rest n36.1 (
                              b ∷ [],
                              refl,
                              (
                                plain_front Extended b n92.0,
                                λ before next at fine. G.byte (
                                  rw (
                                    n92.0,
                                    n91.0,
                                    n46.0,
                                    n40.0,
                                    n42.0,
                                    n43.0,
                                    n63.0,
                                    n123.0,
                                    n94.0,
                                    n36.0,
                                    n124.0,
                                  ) refl,
                                  λ eb. grouped_not s.outer (second (eqb b 41) (grouped s.outer)
                                      (eq-eqb b 41 eb) n41g.0),
                                ),
                              ),
                            )
                      ]
                    ]
                  ]
                ]
              ]
            ]
          ]
        ]
      ]
    ]
  ]
]

pub told : (syntax : Syntax) (fold : Bool) (s : State) (text : List ℕ) (k : Token) (rest : List ℕ)
    → token syntax fold s text ≡ Some (k, rest) → Told syntax fold s text k rest
told syntax fold s [] k rest e = nothing_found (λ x y. Told syntax fold s [] x y) k rest e
told Basic fold s (b ∷ t) k rest e = basic_told fold s b t k rest e
told Extended fold s (b ∷ t) k rest e = extended_told fold s b t k rest e

-- What was read of the groups that are open, and of the innermost one.
cons_not_nil : (x : ℕ) (l : List ℕ) → x ∷ l ≡ [] → ⊥
cons_not_nil x l e = cc

append_front : (a b : List ℕ) → a ++ b ≡ [] → a ≡ []
append_front [] b e = refl
append_front (x ∷ a) b e = cc

module _ (syntax : Syntax) (fold : Bool) where
  -- the pieces before the item that a mark would repeat
  abbrev pub Before : ℕ → Option Pattern → List ℕ → Type 0
  Before d None text = text ≡ []
  Before d (Some p) text = (text ≢ []) × ((after : List ℕ) → after ≢ [] → Seq syntax fold text after p d)

  -- the last alternative; e says whether the text that follows is at the end of a body
  abbrev pub Run : ℕ → Option Pattern → Option Pattern → List ℕ → Bool → Type 0
  Run d None None text e = text ≡ []
  Run d None (Some p) text e = (text ≢ []) × Stop syntax e text
      × ((after : List ℕ) → Fine syntax e after → Seq syntax fold text after p d)
  Run d (Some i) q text e = (before item : List ℕ) × (text ≡ before ++ item) × (item ≢ []) × Before d q before
      × ((after : List ℕ) → Fine syntax e after → Item syntax fold before item after i d)

  abbrev pub Bars : ℕ → Option Pattern → List ℕ → Type 0
  Bars d None text = text ≡ []
  Bars d (Some p) text = (syntax ≡ Extended) × (t : List ℕ) × (text ≡ t ++ 124 ∷ []) × Body syntax fold t p d

  abbrev pub LevelHeld : ℕ → Option Pattern → Option Pattern → Option Pattern → List ℕ → Bool → Type 0
  LevelHeld d a q i text e = (bars run : List ℕ) × (text ≡ bars ++ run) × Bars d a bars × Run d i q run e

  abbrev pub OuterHeld : List Level → List ℕ → Type 0
  OuterHeld [] text = text ≡ []
  OuterHeld (l ∷ ls) text = (t u : List ℕ) × (text ≡ t ++ (u ++ opening syntax)) × (length ls < 100) × OuterHeld ls t
      × LevelHeld (length ls) l.alternatives l.sequence l.item u false

  abbrev pub Held : List Level → Option Pattern → Option Pattern → Option Pattern → List ℕ → Bool → Type 0
  Held ls a q i text e = (t u : List ℕ) × (text ≡ t ++ u) × OuterHeld ls t × LevelHeld (length ls) a q i u e

  -- the last alternative is a sequence
  run_seq : (d : ℕ) (q i : Option Pattern) (text : List ℕ) (e : Bool) (p : Pattern) → Run d i q text e
      → cat q i ≡ Some p → (after : List ℕ) → Fine syntax e after → Seq syntax fold text after p d
  run_seq d None None text e p r c after f = cc
  run_seq d (Some x) None text e p r c after f = let h : x ≡ p =
      cc in subst (λ y. Seq syntax fold text after y d) h (r.2 after f)
  run_seq d None (Some i) text e p r c after f =
      let h : i ≡ p = cc in
      let g : text ≡ r.1 = r.2 ∙ ap (λ y. y ++ r.1) r.4 in
      subst (λ y. Seq syntax fold text after y d) h
      (subst (λ y. Seq syntax fold y after i d) (sym g)
      (G.first (G.item (subst (λ y. Item syntax fold y r.1 after i d) r.4 (r.5 after f)))))
  run_seq d (Some x) (Some i) text e p r c after f =
      let h : Cat x i ≡ p = cc in
      subst (λ y. Seq syntax fold text after y d) h
      (subst (λ y. Seq syntax fold y after (Cat x i) d) (sym r.2)
      (G.more (r.4.1 (r.1 ++ after) (λ z. r.3 (append_front r.1 after z))) (G.item (r.5 after f))))

  run_none : (d : ℕ) (q i : Option Pattern) (text : List ℕ) (e : Bool) → Run d i q text e → cat q i ≡ None → text ≡ []
  run_none d None None text e r c = r
  run_none d (Some x) None text e r c = cc
  run_none d None (Some i) text e r c = cc
  run_none d (Some x) (Some i) text e r c = cc

  -- something was read where the last alternative isn't empty
  run_some : (d : ℕ) (q i : Option Pattern) (text : List ℕ) (e : Bool) → Run d i q text e → is_none (cat q i) ≡ false
      → text ≢ []
  run_some d None None text e r c = λ z. false≢true (sym c)
  run_some d (Some x) None text e r c = r.0
  run_some d None (Some i) text e r c = λ z. r.3 (append_empty r.0 r.1 (sym r.2 ∙ z))
  run_some d (Some x) (Some i) text e r c = λ z. r.3 (append_empty r.0 r.1 (sym r.2 ∙ z))

  run_free : (d : ℕ) (q i : Option Pattern) (text : List ℕ) (e : Bool) → Run d i q text e → is_some i ≡ false
      → (text ≡ []) ⊎ (Stop syntax e text)
  run_free d None None text e r c = inl r
  run_free d (Some x) None text e r c = inr r.1
  run_free d q (Some i) text e r c = absurd (false≢true (sym c))

-- where a level stands
position : (syntax : Syntax) (fold : Bool) (d : ℕ) (a q i : Option Pattern) (text : List ℕ) (e : Bool)
    → Run syntax fold d i q text e → GoesOn syntax e
    → Position syntax (record { alternatives = a; sequence = q; item = i }) text
position Extended fold d a q i text e r g = tt
position Basic fold d a q i text e r g = (
  run_some Basic fold d q i text e r,
  λ z. run_none Basic fold d q i text e r (none_is _ z),
  λ z. elim (run_free Basic fold d q i text e r z)
      [ inl h ↦ inl h | inr h ↦ elim h [ inl w ↦ absurd (not_over w) | inr w ↦ inr w ] ],
)
  where
    not_over : e ≡ true → ⊥
    not_over z = cons_not_nil 0 [] ((g (0 ∷ []) (cons_not_nil 0 [])).1 z)

abbrev pub after_rest : List ℕ → Option (State × List ℕ) → List ℕ
after_rest u None = u
after_rest u (Some x) = x.1

abbrev state_of : Option (State × List ℕ) → Option State
state_of None = None
state_of (Some x) = Some x.0

abbrev token_found : Token → List ℕ → NextToken
token_found k t = Some (k, t)

module _ (syntax : Syntax) (fold : Bool) where
  -- one more item
  add_held : (ls : List Level) (a q i : Option Pattern) (text w : List ℕ) (e e' : Bool) (p : Pattern)
      → Held syntax fold ls a q i text e → GoesOn syntax e → w ≢ []
      → ((before after : List ℕ) → Position syntax (record { alternatives = a; sequence = q; item = i }) before
      → Fine syntax e' after → Item syntax fold before w after p (length ls))
      → Held syntax fold ls a (cat q i) (Some p) (text ++ w) e'
  add_held ls a q i text w e e' p h g ne new =
      let (t, u, eq, outer, (bars, run, eq', b, r)) = h in (
        t,
        u ++ w,
        rw eq (append_assoc t u w),
        outer,
        (
          bars,
          run ++ w,
          rw eq' (append_assoc bars run w),
          b,
          (
            run,
            w,
            refl,
            ne,
            before run (cat q i) refl r,
            λ after f. new run after (position syntax fold (length ls) a q i run e r g) f,
          ),
        ),
      )
    where
      before : (run : List ℕ) (o : Option Pattern) → cat q i ≡ o → Run syntax fold (length ls) i q run e
          → Before syntax fold (length ls) o run
      before run None c r = run_none syntax fold (length ls) q i run e r c
      before run (Some x) c r = (
        run_some syntax fold (length ls) q i run e r (ap is_none c),
        λ after z. run_seq syntax fold (length ls) q i run e x r c after (g after z),
      )

  anchor_held : (ls : List Level) (a q i : Option Pattern) (text w : List ℕ) (e e' : Bool) (p : Pattern)
      → Held syntax fold ls a q i text e → GoesOn syntax e → w ≢ []
      → ((before after : List ℕ) → Position syntax (record { alternatives = a; sequence = q; item = i }) before
      → Fine syntax e' after → Piece syntax fold before w after p (length ls))
      → ((before : List ℕ) → Position syntax (record { alternatives = a; sequence = q; item = i }) before
      → Stop syntax e' (before ++ w)) → Held syntax fold ls a (cat (cat q i) (Some p)) None (text ++ w) e'
  anchor_held ls a q i text w e e' p h g ne new stop =
      let (t, u, eq, outer, (bars, run, eq', b, r)) = h in (
        t,
        u ++ w,
        rw eq (append_assoc t u w),
        outer,
        (bars, run ++ w, rw eq' (append_assoc bars run w), b, go run (cat q i) refl r),
      )
    where
      go : (run : List ℕ) (o : Option Pattern) → cat q i ≡ o → Run syntax fold (length ls) i q run e
          → Run syntax fold (length ls) None (cat o (Some p)) (run ++ w) e'
      go run None c r =
          let at = position syntax fold (length ls) a q i run e r g in
          let z : run ≡ [] = run_none syntax fold (length ls) q i run e r c in (
            λ y. ne (append_empty run w y),
            stop run at,
            λ after f. subst (λ y. Seq syntax fold y after p (length ls)) (ap (λ y. y ++ w) (sym z))
                (G.first (subst (λ y. Piece syntax fold y w after p (length ls)) z (new run after at f))),
          )
      go run (Some x) c r =
          let at = position syntax fold (length ls) a q i run e r g in (
            λ y. ne (append_empty run w y),
            stop run at,
            λ after f. G.more (run_seq syntax fold (length ls) q i run e x r c (w ++ after)
                (g (w ++ after) (λ y. ne (append_front w after y)))) (new run after at f),
          )

  mark_held : (ls : List Level) (a q : Option Pattern) (x : Pattern) (text w : List ℕ) (e e' : Bool) (m : ℕ)
      (n : Option ℕ) → Held syntax fold ls a q (Some x) text e → GoesOn syntax e → w ≢ [] → Mark syntax w m n
      → Held syntax fold ls a q (Some (Rep x m n)) (text ++ w) e'
  mark_held ls a q x text w e e' m n h g ne k =
      let (t, u, eq, outer, (bars, run, eq', b, (before, item, eq'', ne', bef, it))) = h in (
        t,
        u ++ w,
        rw eq (append_assoc t u w),
        outer,
        (
          bars,
          run ++ w,
          rw eq' (append_assoc bars run w),
          b,
          (
            before,
            item ++ w,
            rw eq'' (append_assoc before item w),
            (λ y. ne (append_empty item w y)),
            bef,
            λ after f. G.marked (it (w ++ after) (g (w ++ after) (λ y. ne (append_front w after y)))) k,
          ),
        ),
      )

  level_body : (d : ℕ) (a q i : Option Pattern) (text : List ℕ) (e : Bool) (p : Pattern)
      → LevelHeld syntax fold d a q i text e → Fine syntax e [] → alt a (cat q i) ≡ Some p → Body syntax fold text p d
  level_body d None q i text e p h f c =
      let (bars, run, eq, b, r) = h in
      subst (λ y. Body syntax fold y p d) (sym (eq ∙ ap (λ y. y ++ run) b))
      (G.single (run_seq syntax fold d q i run e p r c [] f))
  level_body d (Some x) q i text e p h f c = go (cat q i) refl c
    where
      go : (o : Option Pattern) → cat q i ≡ o → alt (Some x) o ≡ Some p → Body syntax fold text p d
      go None z w = cc
      go (Some y) z w =
          let (bars, run, eq, (ext, t, eqt, b), r) = h in
          let v : Alt x y ≡ p = cc in
          subst (λ o. Body syntax fold text o d) v
          (subst (λ o. Body syntax fold o (Alt x y) d)
          (sym (eq ∙ (ap (λ o. o ++ run) eqt ∙ append_assoc t (124 ∷ []) run)))
          (G.bar ext b (run_seq syntax fold d q i run e y r z [] f)))

  -- the state after a token
  abbrev pub StateHeld : State → List ℕ → Bool → Type 0
  StateHeld s text e = Held syntax fold s.outer s.level.alternatives s.level.sequence s.level.item text e

  same_state : (P : State → Type 0) (s s' : State) → ◌≡◌ {A = Option State} (Some s) (Some s') → P s → P s'
  same_state P s s' e h = let f : s ≡ s' = cc in subst P f h

  open_ending : (x : Syntax) (rest : List ℕ) → ending x (opening x ++ rest) ≡ false
  open_ending Basic rest = refl
  open_ending Extended rest = refl

  close_fine : (x : Syntax) (rest : List ℕ) → Fine x (ending x (closing x ++ rest)) []
  close_fine Basic rest = (λ _. refl, λ _. refl)
  close_fine Extended rest = tt

  bar_fine : (x : Syntax) (e : Bool) → x ≡ Extended → Fine x e []
  bar_fine Basic e h = absurd (basic≢extended h)
  bar_fine Extended e h = tt

  repeat_held : (ls : List Level) (a q i : Option Pattern) (s' : State) (text w : List ℕ) (e e' : Bool) (m : ℕ)
      (n : Option ℕ) → repeated m n (record { outer = ls; level = record { alternatives = a; sequence = q; item = i } })
      i ≡ Some s' → Held syntax fold ls a q i text e → GoesOn syntax e → w ≢ [] → Mark syntax w m n
      → StateHeld s' (text ++ w) e'
  repeat_held ls a q None s' text w e e' m n x h g ne k = cc
  repeat_held ls a q (Some i) s' text w e e' m n x h g ne k =
      same_state (λ y. StateHeld y (text ++ w) e') _ s' x (mark_held ls a q i text w e e' m n h g ne k)

  open_held : (s s' : State) (text rest : List ℕ) (e : Bool) → with_group s ≡ Some s'
      → StateHeld s text (ending syntax (opening syntax ++ rest)) → StateHeld s' (text ++ opening syntax) e
  open_held s s' text rest e x h = elim (chosen (ltb (length s.outer) 100) _ _ _ x) [
    | inl f ↦ same_state (λ y. StateHeld y (text ++ opening syntax) e) _ s' f.1 (
        let (t, u, eq, outer, level) = subst (λ y. StateHeld s text y) (open_ending syntax rest) h in (
          text ++ opening syntax,
          [],
          sym (append-nil (text ++ opening syntax)),
          (t, u, rw eq (append_assoc t u (opening syntax)), ltb-true (length s.outer) 100 f.0, outer, level),
          ([], [], refl, refl, refl),
        ))
    | inr f ↦ none_some f.1
  ]
    where
      none_some : ◌≡◌ {A = Option State} None (Some s') → StateHeld s' (text ++ opening syntax) e
      none_some y = cc

  close_held : (ls : List Level) (a q i o : Option Pattern) (s' : State) (text rest : List ℕ) (e : Bool)
      → alt a (cat q i) ≡ o → popped ls o ≡ Some s'
      → Held syntax fold ls a q i text (ending syntax (closing syntax ++ rest))
      → StateHeld s' (text ++ closing syntax) e
  close_held [] a q i o s' text rest e z x h = cc
  close_held (l ∷ ls) a q i None s' text rest e z x h = cc
  close_held (l ∷ ls) a q i (Some p) s' text rest e z x h =
      same_state (λ y. StateHeld y (text ++ closing syntax) e) _ s' x (
      let (T, U, eq, (t, u, eqT, lt, outer, levelheld), inner) = h in
      let body : Body syntax fold U p (suc (length ls)) =
      level_body (suc (length ls)) a q i U _ p inner (close_fine syntax rest) z in
      subst (λ y. StateHeld (record { outer = ls; level = with_item p l }) y e) (whole_text t u U T eqT eq)
      (add_held ls l.alternatives l.sequence l.item (t ++ u) (opening syntax ++ (U ++ closing syntax)) false e p
      (t, u, refl, outer, levelheld) (goes_on_false syntax) (not_nil syntax (U ++ closing syntax))
      (λ before after at f. G.atom (G.group lt body))))
    where
      whole_text : (t u U T : List ℕ) → T ≡ t ++ (u ++ opening syntax) → text ≡ T ++ U
          → (t ++ u) ++ (opening syntax ++ (U ++ closing syntax)) ≡ text ++ closing syntax
      whole_text t u U T eqT eq = rw (eq, eqT) (simp append_assoc)

      not_nil : (x : Syntax) (y : List ℕ) → opening x ++ y ≢ []
      not_nil Basic y = λ z. cc
      not_nil Extended y = λ z. cc

  bar_held : (ls : List Level) (a q i o : Option Pattern) (s s' : State) (text : List ℕ) (e e' : Bool) → s.outer ≡ ls
      → syntax ≡ Extended → alt a (cat q i) ≡ o → barred s o ≡ Some s' → Held syntax fold ls a q i text e
      → StateHeld s' (text ++ 124 ∷ []) e'
  bar_held ls a q i None s s' text e e' so ext z x h = cc
  bar_held ls a q i (Some p) s s' text e e' so ext z x h =
      same_state (λ y. StateHeld y (text ++ 124 ∷ []) e') _ s' x (
      subst (λ y. Held syntax fold y (Some p) None None (text ++ 124 ∷ []) e') (sym so) (
      let (t, u, eq, outer, level) = h in
      let body : Body syntax fold u p (length ls) =
      level_body (length ls) a q i u e p level (bar_fine syntax e ext) z in (
        t,
        u ++ 124 ∷ [],
        rw eq (append_assoc t u (124 ∷ [])),
        outer,
        (u ++ 124 ∷ [], [], sym (append-nil _), (ext, u, refl, body), refl),
      )))

  step_held : (s s' : State) (k : Token) (text w rest : List ℕ) → Means syntax fold s w rest k → after k s ≡ Some s'
      → StateHeld s text (ending syntax (w ++ rest)) → StateHeld s' (text ++ w) (ending syntax rest)
  step_held s s' (Part p) text w rest m e h =
      same_state (λ y. StateHeld y (text ++ w) (ending syntax rest)) _ s' e
      (add_held s.outer s.level.alternatives s.level.sequence s.level.item text w _ (ending syntax rest) p h
      (goes_on syntax w rest m.0) (not_empty syntax w m.0) (λ before after at f. G.atom (m.1 before after at f)))
  step_held s s' (Anchor p) text w rest m e h =
      same_state (λ y. StateHeld y (text ++ w) (ending syntax rest)) _ s' e
      (anchor_held s.outer s.level.alternatives s.level.sequence s.level.item text w _ (ending syntax rest) p h
      (goes_on syntax w rest m.0) (not_empty syntax w m.0) m.1 m.2)
  step_held s s' (Repeat x n) text w rest m e h =
      repeat_held s.outer s.level.alternatives s.level.sequence s.level.item s' text w _ (ending syntax rest) x n e h
      (goes_on syntax w rest m.0) (not_empty syntax w m.0) m.1
  step_held s s' Open text w rest m e h =
      subst (λ y. StateHeld s' (text ++ y) (ending syntax rest)) (sym m.1)
      (open_held s s' text rest (ending syntax rest) e
      (subst (λ y. StateHeld s text (ending syntax (y ++ rest))) m.1 h))
  step_held s s' Close text w rest m e h =
      subst (λ y. StateHeld s' (text ++ y) (ending syntax rest)) (sym m)
      (close_held s.outer s.level.alternatives s.level.sequence s.level.item _ s' text rest (ending syntax rest) refl e
      (subst (λ y. StateHeld s text (ending syntax (y ++ rest))) m h))
  step_held s s' Bar text w rest m e h =
      subst (λ y. StateHeld s' (text ++ y) (ending syntax rest)) (sym m.2)
      (bar_held s.outer s.level.alternatives s.level.sequence s.level.item _ s s' text _
      (ending syntax rest) refl m.1 refl e h)

  pub next_is : (s s' : State) (t rest : List ℕ) → next syntax fold s t ≡ Some (s', rest) → (k : Token)
      × (token syntax fold s t ≡ Some (k, rest)) × (after k s ≡ Some s')
  next_is s s' t rest e = go (token syntax fold s t) refl e
    where
      onward : List ℕ → State → Option (State × List ℕ)
      onward u x = Some (x, u)

      pair : (k : Token) (u : List ℕ) (o : Option State) → after k s ≡ o
          → option_and_then (onward u) o ≡ Some (s', rest) → (u ≡ rest) × (after k s ≡ Some s')
      pair k u None a h = cc
      pair k u (Some y) a h = (ap (after_rest u) h, a ∙ ap state_of h)

      go : (o : NextToken) → token syntax fold s t ≡ o
          → option_and_then (λ (k, u). option_and_then (onward u) (after k s)) o ≡ Some (s', rest) → (k : Token)
          × (token syntax fold s t ≡ Some (k, rest)) × (after k s ≡ Some s')
      go None f h = cc
      go (Some (k, u)) f h = let (eu, es) = pair k u (after k s) refl h in (k, f ∙ ap (token_found k) eu, es)

  end_fine : (x : Syntax) → Fine x (ending x []) []
  end_fine Basic = (λ _. refl, λ _. refl)
  end_fine Extended = tt

  pub sound : {s : State} {rest : List ℕ} {p : Pattern} → Completes syntax fold s rest p → (text : List ℕ)
      → StateHeld s text (ending syntax rest) → Body syntax fold (text ++ rest) p 0
  sound (done {l = l} {p = p} w) text h =
      let (t, u, eq, outer, level) = h in
      let e : text ++ [] ≡ u = append-nil text ∙ (eq ∙ ap (λ y. y ++ u) outer) in
      subst (λ y. Body syntax fold y p 0) (sym e)
      (level_body 0 l.alternatives l.sequence l.item u _ p level (end_fine syntax) w)
  sound (step {s = s} {s' = s'} {t = t} {rest = rest} {p = p} e c) text h =
      let (k, found_it, stepped) = next_is s s' t rest e in
      let (w, eq, m) = told syntax fold s t k rest found_it in
      subst (λ y. Body syntax fold y p 0) (append_assoc text w rest ∙ ap (λ y. text ++ y) (sym eq))
      (sound c (text ++ w) (step_held s s' k text w rest m stepped
      (subst (λ y. StateHeld s text (ending syntax y)) eq h)))
