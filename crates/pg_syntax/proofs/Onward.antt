-- What a text becomes that is read to its end, if more of it follows.
use Rattle.std.proofs.Common.{ℕ, ◌≡◌, ◌≢◌, ◌<◌, ◌⊎◌, inl, inr, Bool, true, false, eqb, cond, List, []}
use Rattle.std.proofs.Common.{◌∷◌, ◌++◌, length, Option, Some, None, option_and_then, refl, sym, ap}
use Rattle.std.proofs.Common.{◌∙◌, subst, append_assoc, arith}
use Rattle.std.proofs.lemmas.Bool.{eqb-true, eq-eqb, false≢true}
use Rattle.pg_bytes.specs.Sets.{one}
use Rattle.pg_pattern.specs.Patterns.{Pattern, Set, End, folded}
use Rattle.pg_grammar.specs.Grammar.{Body}
use Rattle.pg_grammar.specs.Places.{closings, LeavesOpen, LeavesEmpty}
use Rattle.pg_syntax.specs.Machine.{Level, cat, alt, last, whole, State, start, with_item, Token, Part, Anchor}
use Rattle.pg_syntax.specs.Machine.{Open, add, popped, grouped, after, NextToken, ends, basic_token, extended_token}
use Rattle.pg_syntax.specs.Machine.{token}
use Rattle.pg_syntax.proofs.Reading.{next, Completes, done, step}
use Rattle.pg_grammar.specs.declared.syntax.Syntax.{Syntax}
use Rattle.pg_grammar.specs.declared.syntax.Syntax.TheVariants.{Basic, Extended}
use Rattle.pg_syntax.proofs.TokenBytes.{Taken, token_stays}
use Rattle.pg_syntax.proofs.Complete.{goes, complete, close_token}
use Rattle.pg_syntax.proofs.Agreement.{stepped, expressed}
use Rattle.std.proofs.Math.Bool.{and-false}
use Rattle.pg_syntax.proofs.Sound.{ending, grouped_not, after_rest}

-- Read from its start, the text leads to the state, and this rest is left.
pub data Leads (syntax : Syntax) (fold : Bool) (text : List ℕ) : State → List ℕ → Type 0 where
  begin : Leads syntax fold text start text
  onward : {s s' : State} {t rest : List ℕ} → Leads syntax fold text s t → next syntax fold s t ≡ Some (s', rest)
      → Leads syntax fold text s' rest

ends_grow : (m t : List ℕ) → t ≢ [] → ends (t ++ 97 ∷ m) ≡ ends t
ends_grow m [] n = absurd (n refl)
ends_grow m (a ∷ []) n = and-false (eqb a 92)
ends_grow m (a ∷ b ∷ t) n = refl

-- a `$` with a byte behind it, and at the end
dollar_behind : (fold : Bool) (s : State) (m : List ℕ)
    → basic_token fold s 36 (97 ∷ m) ≡ Some (Part (Set (folded fold (one 36))), 97 ∷ m)
unfolding basic_token
dollar_behind fold s [] = refl
dollar_behind fold s (x ∷ m) = refl

dollar_last : (fold : Bool) (s : State) → basic_token fold s 36 [] ≡ Some (Anchor End, [])
unfolding basic_token
dollar_last fold s = refl

abbrev pub found_token : NextToken → Token
found_token None = Open
found_token (Some x) = x.0

abbrev found_rest : NextToken → List ℕ
found_rest None = []
found_rest (Some x) = x.1

-- a `$` takes one byte
dollar_takes : (fold : Bool) (s : State) (u : List ℕ) (k : Token) (rest : List ℕ)
    → basic_token fold s 36 u ≡ Some (k, rest) → u ≡ rest
unfolding basic_token
dollar_takes fold s u k rest e = go (ends u) e
  where
    item : Token
    item = Part (Set (folded fold (one 36)))

    go : (x : Bool) → cond {A = NextToken} x (Some (Anchor End, u)) (Some (item, u)) ≡ Some (k, rest) → u ≡ rest
    go true e = ap found_rest e
    go false e = ap found_rest e

abbrev state_or : State → Option (State × List ℕ) → State
state_or s None = s
state_or s (Some x) = x.0

-- The token at the front is the same with more behind it, or was a `$` at the end and is an ordinary byte now.
abbrev IsKept : Syntax → Bool → State → ℕ → (u m : List ℕ) → Token → List ℕ → Type 0
IsKept syntax fold s b u m k rest = (token syntax fold s (b ∷ u ++ 97 ∷ m) ≡ Some (k, rest ++ 97 ∷ m))
    ⊎ ((k ≡ Anchor End) × (rest ≡ [])
    × (token syntax fold s (b ∷ u ++ 97 ∷ m) ≡ Some (Part (Set (folded fold (one b))), 97 ∷ m)))

token_more : (syntax : Syntax) (fold : Bool) (s : State) (b : ℕ) (u m : List ℕ) (k : Token) (rest : List ℕ)
    → token syntax fold s (b ∷ u) ≡ Some (k, rest) → IsKept syntax fold s b u m k rest
token_more syntax fold s b u m k rest e = by_syntax syntax u ((token_stays syntax fold s b u).taken k rest e) e
  where
    -- the same bytes are taken
    same : (x : Syntax) (u : List ℕ) (w : Taken x b (token x fold s) (b ∷ u) k rest)
        → (b ≡ 36 → ending x (rest ++ 97 ∷ m) ≡ ending x rest)
        → token x fold s (b ∷ u ++ 97 ∷ m) ≡ Some (k, rest ++ 97 ∷ m)
    same x u w h = ap (token x fold s) (ap (λ y. y ++ 97 ∷ m) w.is ∙ append_assoc w.bytes rest (97 ∷ m))
        ∙ w.again (rest ++ 97 ∷ m) h

    last : ◌≡◌ {A = NextToken} (Some (Anchor End, [])) (Some (k, rest)) → (k ≡ Anchor End) × (rest ≡ [])
    last h = (sym (ap found_token h), sym (ap found_rest h))

    dollar : (x : Bool) → eqb b 36 ≡ x → Taken Basic b (token Basic fold s) (b ∷ []) k rest
        → basic_token fold s b [] ≡ Some (k, rest) → IsKept Basic fold s b [] m k rest
    dollar false h w e = inl (same Basic [] w (λ is. absurd (false≢true (sym h ∙ eq-eqb b 36 is))))
    dollar true h w e =
        let is = eqb-true b 36 h in
        let z = last (sym (dollar_last fold s) ∙ (ap (λ x. basic_token fold s x []) (sym is) ∙ e)) in
        inr (
          z.0,
          z.1,
          subst (λ x. basic_token fold s x (97 ∷ m) ≡ Some (Part (Set (folded fold (one x))), 97 ∷ m)) (sym is)
              (dollar_behind fold s m),
        )

    by_syntax : (x : Syntax) (u : List ℕ) → Taken x b (token x fold s) (b ∷ u) k rest
        → token x fold s (b ∷ u) ≡ Some (k, rest) → IsKept x fold s b u m k rest
    by_syntax Extended u w e = inl (same Extended u w (λ is. refl))
    by_syntax Basic [] w e = dollar (eqb b 36) refl w e
    by_syntax Basic (c ∷ u) w e = inl (same Basic (c ∷ u) w (λ is. ends_grow m rest (some_left is)))
      where
        some_left : b ≡ 36 → rest ≢ []
        some_left is z =
            let f = subst (λ y. basic_token fold s y (c ∷ u) ≡ Some (k, rest)) is e in
            let g : c ∷ u ≡ [] = dollar_takes fold s (c ∷ u) k rest f ∙ z in
            cc

abbrev with_rest : List ℕ → Option State → Option (State × List ℕ)
with_rest r o = option_and_then (λ x. Some (x, r)) o

abbrev then_state : State → NextToken → Option (State × List ℕ)
then_state s o = option_and_then (λ (k, r). with_rest r (after k s)) o

abbrev Goes : (syntax : Syntax) (fold : Bool) (s s' : State) (b : ℕ) (u m rest : List ℕ) → Type 0
Goes syntax fold s s' b u m rest = (next syntax fold s (b ∷ u ++ 97 ∷ m) ≡ Some (s', rest ++ 97 ∷ m))
    ⊎ ((rest ≡ []) × (s2 : State) × (s2.outer ≡ s'.outer)
    × (next syntax fold s (b ∷ u ++ 97 ∷ m) ≡ Some (s2, 97 ∷ m)))

-- a step goes the same way with more behind it, or to a state with the same open groups
next_more : (syntax : Syntax) (fold : Bool) (s s' : State) (b : ℕ) (u m rest : List ℕ)
    → next syntax fold s (b ∷ u) ≡ Some (s', rest) → Goes syntax fold s s' b u m rest
next_more syntax fold s s' b u m rest e = by_token (token syntax fold s (b ∷ u)) refl e
  where
    by_state : (k : Token) (r : List ℕ) → token syntax fold s (b ∷ u) ≡ Some (k, r) → (o : Option State) → after k s ≡ o
        → with_rest r o ≡ Some (s', rest) → Goes syntax fold s s' b u m rest
    by_state k r t None f g = cc
    by_state k r t (Some s1) f g =
        let same : s1 ≡ s' = ap (state_or s') g in
        let left : r ≡ rest = ap (after_rest rest) g in
        elim (token_more syntax fold s b u m k r t) [
          | inl h ↦ inl (rw (h, f) (ap (λ x. Some (x, r ++ 97 ∷ m)) same ∙ ap (λ x. Some (s', x ++ 97 ∷ m)) left))
          | inr h ↦ inr (
            sym left ∙ h.1,
            add (Set (folded fold (one b))) s,
            outer k s1 h.0 f ∙ ap (λ x. x.outer) same,
            rw h.2 refl,
          )
        ]
      where
        outer : (k : Token) (s1 : State) → k ≡ Anchor End → after k s ≡ Some s1 → s.outer ≡ s1.outer
        outer k s1 h f = of (sym (ap (λ x. after x s) h) ∙ f)
          where
            outer_or : Option State → List Level
            outer_or None = []
            outer_or (Some x) = x.outer

            of : after (Anchor End) s ≡ Some s1 → s.outer ≡ s1.outer
            of g = ap outer_or g

    by_token : (o : NextToken) → token syntax fold s (b ∷ u) ≡ o → then_state s o ≡ Some (s', rest)
        → Goes syntax fold s s' b u m rest
    by_token None t g = cc
    by_token (Some (k, r)) t g = by_state k r t (after k s) refl g

module _ (syntax : Syntax) (fold : Bool) (text m : List ℕ) where
  abbrev more : List ℕ
  more = 97 ∷ m

  -- with more behind it, the text leads to the state, or at its end to one with the same open groups
  record Reaches (s : State) (t : List ℕ) : Type 0 where
    going : t ≢ [] → Leads syntax fold (text ++ more) s (t ++ more)
    ended : t ≡ [] → (s2 : State) × (s2.outer ≡ s.outer) × Leads syntax fold (text ++ more) s2 more

  further : (s s' : State) (t rest : List ℕ) → (t ≢ [] → Leads syntax fold (text ++ more) s (t ++ more))
      → next syntax fold s t ≡ Some (s', rest) → Reaches s' rest
  further s s' [] rest f e = cc
  further s s' (b ∷ u) rest f e =
      let all = f (λ h. cc) in
      elim (next_more syntax fold s s' b u m rest e) [
        | inl h ↦ record {
          going = λ n. onward all h;
          ended = λ z. (s', refl, subst (λ y. Leads syntax fold (text ++ more) s' (y ++ more)) z (onward all h));
        }
        | inr h ↦ record { going = λ n. absurd (n h.0); ended = λ z. (h.1, h.2, onward all h.3) }
      ]

  reaches : {s : State} {t : List ℕ} → Leads syntax fold text s t → Reaches s t
  reaches begin = record {
    going = λ n. begin;
    ended = λ e. (start, refl, subst (λ y. Leads syntax fold (text ++ more) start (y ++ more)) e begin);
  }
  reaches (onward {s = s} {s' = s'} {t = t} {rest = rest} leads e) = further s s' t rest (reaches leads).going e

module _ (syntax : Syntax) (fold : Bool) where
  -- what is left to read makes the pattern where the whole text does
  whole_made : (text : List ℕ) {s : State} {t : List ℕ} (p : Pattern) → Leads syntax fold text s t
      → Completes syntax fold s t p → Completes syntax fold start text p
  whole_made text p begin c = c
  whole_made text p (onward l e) c = whole_made text p l (step e c)

  pub left_made : (text : List ℕ) {s : State} {t : List ℕ} (p : Pattern) → Leads syntax fold text s t
      → Completes syntax fold start text p → Completes syntax fold s t p
  left_made text p begin c = c
  left_made text p (onward {s = s} {s' = s'} {t = t} {rest = rest} l e) c =
      stepped syntax fold s s' t rest p e (left_made text p l c)

  some_whole : (a c : Option Pattern) (p : Pattern) → (q : Pattern) × (alt a (cat c (Some p)) ≡ Some q)
  some_whole None None p = (p, refl)
  some_whole None (Some x) p = (_, refl)
  some_whole (Some y) None p = (_, refl)
  some_whole (Some y) (Some x) p = (_, refl)

  -- what closes all open groups makes a pattern
  closes : (outer : List Level) (l : Level) (p : Pattern) → whole l ≡ Some p
      → (q : Pattern) × Completes syntax fold (record { outer = outer; level = l }) (closings syntax (length outer)) q
  closes [] l p w = (p, done w)
  closes (o ∷ outer) l p w =
      let f = some_whole o.alternatives (last o) p in
      let r = closes outer (with_item p o) f.0 f.1 in
      (r.0, goes (close_token syntax fold o l outer (closings syntax (length outer))) (ap (popped (o ∷ outer)) w) r.1)

  -- an `a` is an item wherever it stands
  pub item_next : (s : State) (x : List ℕ) → token syntax fold s (97 ∷ x) ≡ Some (Part (Set (folded fold (one 97))), x)
  unfolding basic_token extended_token
  item_next s x = by_syntax syntax
    where
      by_syntax : (y : Syntax) → token y fold s (97 ∷ x) ≡ Some (Part (Set (folded fold (one 97))), x)
      by_syntax Basic = refl
      by_syntax Extended = refl

  -- an `a` and what closes the open groups make an expression, behind what was read
  pub closed_behind : (text : List ℕ) (s : State) (n : ℕ) → length s.outer ≡ n
      → Leads syntax fold (text ++ 97 ∷ closings syntax n) s (97 ∷ closings syntax n)
      → (p : Pattern) × Body syntax fold (text ++ 97 ∷ closings syntax n) p 0
  closed_behind text s n e leads =
      let m = closings syntax n in
      let q = Set (folded fold (one 97)) in
      let f = some_whole s.level.alternatives (last s.level) q in
      let c = closes s.outer (with_item q s.level) f.0 f.1 in
      let rest = subst (λ y. Completes syntax fold (add q s) y c.0) (ap (closings syntax) e) c.1 in
      let all = goes (item_next s m) refl rest in
      (c.0, expressed syntax fold (text ++ 97 ∷ m) c.0 (whole_made (text ++ 97 ∷ m) c.0 leads all))

  -- and behind a text that is read to its end
  pub filled : (text : List ℕ) (s : State) (n : ℕ) → length s.outer ≡ n → Leads syntax fold text s []
      → (p : Pattern) × Body syntax fold (text ++ 97 ∷ closings syntax n) p 0
  filled text s n e leads =
      let r = (reaches syntax fold text (closings syntax n) leads).ended refl in
      closed_behind text r.0 n (ap length r.1 ∙ e) r.2

  pub open_end : (s : State) (p : Pattern) → grouped s.outer ≡ true → Completes syntax fold s [] p → ⊥
  open_end s p g (done w) = false≢true g
  open_end s p g (step f c) = cc

  some_groups : (outer : List Level) → grouped outer ≡ true → 0 < length outer
  some_groups [] g = absurd (false≢true g)
  some_groups (l ∷ outer) g = omega arith

  pub leaves_open : (text : List ℕ) (s : State) → grouped s.outer ≡ true → Leads syntax fold text s []
      → LeavesOpen syntax 0 text
  leaves_open text s g leads =
      let f = filled text s (length s.outer) refl leads in
      let r = (reaches syntax fold text [] leads).ended refl in
      let q = Set (folded fold (one 97)) in
      record {
        fold = fold;
        groups = length s.outer;
        more = some_groups s.outer g;
        pattern = f.0;
        closed = f.1;
        needed = λ p b. open_end (add q r.0) p (ap grouped r.1 ∙ g)
            (stepped syntax fold r.0 (add q r.0) (97 ∷ []) [] p (rw (item_next r.0 []) refl)
            (left_made (text ++ 97 ∷ []) p r.2 (complete syntax fold (text ++ 97 ∷ []) p b)));
      }

  pub leaves_empty : (text : List ℕ) (s : State) → grouped s.outer ≡ false → Leads syntax fold text s []
      → LeavesEmpty syntax text
  leaves_empty text s g leads =
      let f = filled text s 0 (grouped_not s.outer g) leads in record { fold = fold; pattern = f.0; filled = f.1 }
