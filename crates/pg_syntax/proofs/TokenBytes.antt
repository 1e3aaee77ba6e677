-- Which bytes a token takes, and that it takes them whatever stands behind them, but for a `$`.
use Rattle.std.proofs.Common.{ℕ, ◌≡◌, Bool, true, false, ◌&&◌, eqb, cond, List, [], ◌∷◌, ◌++◌, Option, Some, None}
use Rattle.std.proofs.Common.{is_some, is_none, refl, sym, ap, ◌∙◌, subst}
use Rattle.std.proofs.lemmas.Bool.{eqb-true}
use Rattle.pg_bytes.specs.Sets.{Bytes, one, all}
use Rattle.pg_pattern.specs.Patterns.{Set, Begin, End, folded}
use Rattle.pg_syntax.specs.BracketReading.{bracket}
use Rattle.pg_syntax.specs.IntervalReading.{bounds}
use Rattle.pg_grammar.specs.Grammar.{is_escaped, unbrace}
use Rattle.pg_syntax.specs.Machine.{last, State, Token, Part, Anchor, Repeat, Open, Close, Bar, grouped, NextToken}
use Rattle.pg_syntax.specs.Machine.{ends}
use Rattle.pg_syntax.specs.Machine.{set_token, repeat_token, basic_escape, extended_escape, basic_token, extended_token}
use Rattle.pg_syntax.specs.Machine.{token}
use Rattle.pg_grammar.specs.declared.syntax.Syntax.{Syntax}
use Rattle.pg_grammar.specs.declared.syntax.Syntax.TheVariants.{Basic, Extended}
use Rattle.pg_syntax.proofs.BracketLemmas.{bracket_front, bracket_again, bracket_takes}
use Rattle.pg_syntax.proofs.IntervalLemmas.{bounds_take}
use Rattle.pg_syntax.proofs.Braces.{interval_again}
use Rattle.pg_syntax.proofs.Sound.{ending, found}

-- of a token that begins with this byte
module _ (syntax : Syntax) (first : ℕ) where
  -- The token takes these bytes, and does so with others behind them too, but for a `$`, which asks whether those end a
  -- body where the rest does.
  pub record Taken (f : List ℕ → NextToken) (t : List ℕ) (k : Token) (rest : List ℕ) : Type 0 where
    pub bytes : List ℕ
    pub is : t ≡ bytes ++ rest
    pub again : (x : List ℕ) → (first ≡ 36 → ending syntax x ≡ ending syntax rest) → f (bytes ++ x) ≡ Some (k, x)

  -- the token at the front takes such bytes
  pub record Stays (f : List ℕ → NextToken) (t : List ℕ) : Type 0 where
    pub taken : (k : Token) (rest : List ℕ) → f t ≡ Some (k, rest) → Taken f t k rest

  layer : (f g : List ℕ → NextToken) (b : Bool) (t : List ℕ) → Stays f t → Stays g t → Stays (λ u. cond b (f u) (g u)) t
  layer f g true t h k = h
  layer f g false t h k = k

  layer_if : (f g : List ℕ → NextToken) (b : Bool) (t : List ℕ) → (b ≡ true → Stays f t) → Stays g t
      → Stays (λ u. cond b (f u) (g u)) t
  layer_if f g true t h k = h refl
  layer_if f g false t h k = k

  leaf : (k : Token) (t : List ℕ) → Stays (λ u. Some (k, u)) t
  leaf k t = record {
    taken = λ k' rest e. found (λ x y. Taken (λ u. Some (k, u)) t x y) k k' t rest e
        (record { bytes = []; is = refl; again = λ x h. refl });
  }

  nothing : (t : List ℕ) → Stays (λ u. None) t
  nothing t = record { taken = λ k rest e. cc }

  behind : (f : List ℕ → NextToken) (c : ℕ) (t : List ℕ) → Stays (λ u. f (c ∷ u)) t → Stays f (c ∷ t)
  behind f c t h = record {
    taken = λ k rest e.
        let w = h.taken k rest e in
        record { bytes = c ∷ w.bytes; is = ap (λ y. c ∷ y) w.is; again = w.again };
  }

  set_stays : (fold : Bool) (t : List ℕ) → Stays (λ u. set_token (bracket fold (91 ∷ u))) t
  set_stays fold t = record { taken = λ k rest e. go k rest (bracket fold (91 ∷ t)) refl e }
    where
      f : List ℕ → NextToken
      f u = set_token (bracket fold (91 ∷ u))

      inner : (w u rest : List ℕ) → 91 ∷ t ≡ w ++ rest → w ≡ 91 ∷ u → t ≡ u ++ rest
      inner w u rest e g = let h : 91 ∷ t ≡ 91 ∷ u ++ rest = e ∙ ap (λ y. y ++ rest) g in cc

      go : (k : Token) (rest : List ℕ) (o : Option (Bytes × List ℕ)) → bracket fold (91 ∷ t) ≡ o
          → set_token o ≡ Some (k, rest) → Taken f t k rest
      go k rest None b e = cc
      go k rest (Some (set, r)) b e =
          let w = bracket_takes fold t set r b in
          let front = bracket_front fold w.0 set w.2 in
          found (λ x y. Taken f t x y) (Part (Set set)) k r rest e (record {
            bytes = front.0;
            is = inner w.0 front.0 r w.1 front.1;
            again = λ x h. ap set_token (ap (λ y. bracket fold (y ++ x)) (sym front.1)
                ∙ bracket_again fold w.0 set x w.2);
          })

  repeat_stays : (t : List ℕ) → Stays (λ u. repeat_token (bounds (unbrace syntax) u)) t
  repeat_stays t = record { taken = λ k rest e. go k rest (bounds (unbrace syntax) t) refl e }
    where
      f : List ℕ → NextToken
      f u = repeat_token (bounds (unbrace syntax) u)

      go : (k : Token) (rest : List ℕ) (o : Option (ℕ × Option ℕ × List ℕ)) → bounds (unbrace syntax) t ≡ o
          → repeat_token o ≡ Some (k, rest) → Taken f t k rest
      go k rest None b e = cc
      go k rest (Some (m, n, r)) b e =
          let w = bounds_take (unbrace syntax) t m n r b in
          found (λ x y. Taken f t x y) (Repeat m n) k r rest e (record {
            bytes = w.0 ++ unbrace syntax;
            is = w.1;
            again = λ x h. ap repeat_token (interval_again syntax w.0 m n x w.2);
          })

basic_escape_stays : (a : ℕ) (fold : Bool) (s : State) (t : List ℕ) → Stays Basic a (basic_escape fold s) t
unfolding basic_escape
basic_escape_stays a fold s [] = record { taken = λ k rest e. cc }
basic_escape_stays a fold s (c ∷ t) = behind Basic a (basic_escape fold s) c t
    (layer Basic a _ _ (eqb c 40) t (leaf Basic a Open t)
    (layer Basic a _ _ (eqb c 41) t (layer Basic a _ _ (grouped s.outer) t (leaf Basic a Close t) (nothing Basic a t))
    (layer Basic a _ _ (eqb c 123) t (repeat_stays Basic a t)
    (layer Basic a _ _ (is_escaped Basic c) t (leaf Basic a (Part (Set (folded fold (one c)))) t)
    (nothing Basic a t)))))

extended_escape_stays : (a : ℕ) (fold : Bool) (t : List ℕ) → Stays Extended a (extended_escape fold) t
unfolding extended_escape
extended_escape_stays a fold [] = record { taken = λ k rest e. cc }
extended_escape_stays a fold (c ∷ t) = behind Extended a (extended_escape fold) c t
    (layer Extended a _ _ (is_escaped Extended c) t (leaf Extended a (Part (Set (folded fold (one c)))) t)
    (nothing Extended a t))

bracket_stays : (syntax : Syntax) (fold : Bool) (b : ℕ) (t : List ℕ) → eqb b 91 ≡ true
    → Stays syntax b (λ u. set_token (bracket fold (b ∷ u))) t
bracket_stays syntax fold b t e =
    subst (λ x. Stays syntax b (λ u. set_token (bracket fold (x ∷ u))) t) (sym (eqb-true b 91 e))
    (set_stays syntax b fold t)

-- a `$` asks whether a body ends behind it
dollar_stays : (b : ℕ) (item : Token) (t : List ℕ)
    → Stays Basic b (λ u. cond (eqb b 36 && ends u) (Some (Anchor End, u)) (Some (item, u))) t
dollar_stays b item t = record { taken = λ k rest e. go k rest (eqb b 36 && ends t) refl e }
  where
    pick : List ℕ → Bool → NextToken
    pick u true = Some (Anchor End, u)
    pick u false = Some (item, u)

    f : List ℕ → NextToken
    f u = cond (eqb b 36 && ends u) (Some (Anchor End, u)) (Some (item, u))

    picked : (u : List ℕ) (x : Bool) → (eqb b 36 && ends u) ≡ x → f u ≡ pick u x
    picked u true e = ap (λ (z : Bool). cond {A = NextToken} z (Some (Anchor End, u)) (Some (item, u))) e
    picked u false e = ap (λ (z : Bool). cond {A = NextToken} z (Some (Anchor End, u)) (Some (item, u))) e

    same : (u : List ℕ) → (b ≡ 36 → ends u ≡ ends t) → (z : Bool) → eqb b 36 ≡ z → (z && ends u) ≡ (z && ends t)
    same u h true e = h (eqb-true b 36 e)
    same u h false e = refl

    kept : (x : Bool) (u : List ℕ) → (eqb b 36 && ends t) ≡ x → (b ≡ 36 → ends u ≡ ends t) → f u ≡ pick u x
    kept x u d h = picked u x (same u h (eqb b 36) refl ∙ d)

    go : (k : Token) (rest : List ℕ) (x : Bool) → (eqb b 36 && ends t) ≡ x → f t ≡ Some (k, rest)
        → Taken Basic b f t k rest
    go k rest true d e = found (λ x y. Taken Basic b f t x y) (Anchor End) k t rest (sym (picked t true d) ∙ e)
        (record { bytes = []; is = refl; again = λ x h. kept true x d h })
    go k rest false d e = found (λ x y. Taken Basic b f t x y) item k t rest (sym (picked t false d) ∙ e)
        (record { bytes = []; is = refl; again = λ x h. kept false x d h })

basic_stays : (fold : Bool) (s : State) (b : ℕ) (t : List ℕ) → Stays Basic b (basic_token fold s b) t
unfolding basic_token
basic_stays fold s b t =
    layer Basic b _ _ (eqb b 92) t (basic_escape_stays b fold s t)
    (layer_if Basic b _ _ (eqb b 91) t (bracket_stays Basic fold b t)
    (layer Basic b _ _ (eqb b 46) t (leaf Basic b (Part (Set all)) t)
    (layer Basic b _ _ (eqb b 42 && is_some s.level.item) t (leaf Basic b (Repeat 0 None) t)
    (layer Basic b _ _ (eqb b 94 && is_none (last s.level)) t (leaf Basic b (Anchor Begin) t)
    (dollar_stays b (Part (Set (folded fold (one b)))) t)))))

extended_stays : (fold : Bool) (s : State) (b : ℕ) (t : List ℕ) → Stays Extended b (extended_token fold s b) t
unfolding extended_token
extended_stays fold s b t =
    layer Extended b _ _ (eqb b 92) t (extended_escape_stays b fold t)
    (layer_if Extended b _ _ (eqb b 91) t (bracket_stays Extended fold b t)
    (layer Extended b _ _ (eqb b 46) t (leaf Extended b (Part (Set all)) t)
    (layer Extended b _ _ (eqb b 42) t (leaf Extended b (Repeat 0 None) t)
    (layer Extended b _ _ (eqb b 43) t (leaf Extended b (Repeat 1 None) t)
    (layer Extended b _ _ (eqb b 63) t (leaf Extended b (Repeat 0 (Some 1)) t)
    (layer Extended b _ _ (eqb b 123) t (repeat_stays Extended b t)
    (layer Extended b _ _ (eqb b 40) t (leaf Extended b Open t)
    (layer Extended b _ _ (eqb b 41 && grouped s.outer) t (leaf Extended b Close t)
    (layer Extended b _ _ (eqb b 124) t (leaf Extended b Bar t)
    (layer Extended b _ _ (eqb b 94) t (leaf Extended b (Anchor Begin) t)
    (layer Extended b _ _ (eqb b 36) t (leaf Extended b (Part End) t)
    (leaf Extended b (Part (Set (folded fold (one b)))) t))))))))))))

pub token_stays : (syntax : Syntax) (fold : Bool) (s : State) (b : ℕ) (t : List ℕ)
    → Stays syntax b (token syntax fold s) (b ∷ t)
token_stays Basic fold s b t = behind Basic b (token Basic fold s) b t (basic_stays fold s b t)
token_stays Extended fold s b t = behind Extended b (token Extended fold s) b t (extended_stays fold s b t)
