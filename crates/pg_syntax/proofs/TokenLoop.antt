-- The loop over the tokens.
use Rattle.std.proofs.Common.{ℕ, ◌≡◌, ◌≢◌, ◌<◌, ◌≤◌, ◌↔◌, ◌⊎◌, inl, inr, Bool, true, false, List, [], ◌∷◌, ◌++◌, length}
use Rattle.std.proofs.Common.{take, drop, Some, None, Err, refl, sym, ap, subst, arith, length-drop, ltb}
use Rattle.std.proofs.lemmas.Bool.{false≢true}
use Rattle.std.proofs.lemmas.List.{drop_all}
use Rattle.std.proofs.lemmas.Bool.Decides.{nat_tests}
use Rattle.pg_pattern.specs.Patterns.{Pattern, Empty}
use Rattle.pg_grammar.specs.Grammar as G
use Rattle.pg_grammar.specs.Grammar.{Spells}
use Rattle.pg_syntax.specs.Machine as M
use Rattle.pg_syntax.proofs.Proper.{spelled_proper}
use Rattle.pg_syntax.specs.Machine.{State, Token, Level, start, whole, grouped, with_group, token, after}
use Rattle.pg_syntax.proofs.Reading.{next, Completes, done, step, next_some, next_no_state}
use Rattle.pg_syntax.proofs.Onward.{Leads, begin, onward, open_end, leaves_open, leaves_empty}
use Rattle.pg_syntax.proofs.Prefixes.{leaves_more, can_go_on, stops, closing_stops}
use Rattle.pg_syntax.proofs.IntervalLemmas.{chosen}
use Rattle.pg_grammar.specs.Places.{BytesStand, MayStand, PlaceInToken, CanGoOn, IsMisplaced}
use Rattle.pg_grammar.specs.Results.{IsSpelled, IsRefused, IsFault, too_long}
use Rattle.pg_syntax.specs.Expressions.{kind_of}
use Rattle.pg_syntax.specs.Tokens.{ClosesNone, blame, Applies}
use Rattle.pg_grammar.specs.declared.syntax.Syntax.{Syntax}
use Rattle.pg_grammar.specs.declared.syntax.Syntax.TheVariants.{Basic, Extended}
use Rattle.pg_grammar.specs.declared.fault.SyntaxFault.{SyntaxFault}
use Rattle.pg_grammar.specs.declared.fault.FaultKind.TheVariants.{UnmatchedGroup, EmptyOperand, TooLong}
use Rattle.pg_grammar.specs.declared.fault.FaultKind.{FaultKind}
use Rattle.pg_grammar.specs.declared.syntax.Syntax.TheVariants as S
use Rattle.pg_syntax.proofs.Complete.{complete}
use Rattle.pg_syntax.proofs.Agreement.{body_of, stepped, stuck, ended, spelled, read}
use Rattle.pg_syntax.proofs.Sound.{told}

-- the same patterns are left
abbrev pub Keeps : Syntax → Bool → List ℕ → State → List ℕ → Type 0
Keeps syntax fold text s rest = (p : Pattern) → Completes syntax fold start text p ↔ Completes syntax fold s rest p

-- where a fault stands in an expression of a syntax
place_of : (syntax : Syntax) (kind : FaultKind) (text : List ℕ) (token at : ℕ) → CanGoOn syntax (take token text)
    → PlaceInToken syntax kind text token at → MayStand (kind_of syntax) kind text at
place_of S.Basic kind text token at front h = (token, front, h)
place_of S.Extended kind text token at front h = (token, front, h)

module _ (syntax : Syntax) (fold : Bool) where
  next_no_token : (s : State) (t : List ℕ) → token syntax fold s t ≡ None → next syntax fold s t ≡ None
  next_no_token s t e = rw e refl

  pub keeps_on : (text : List ℕ) (s s' : State) (t rest : List ℕ) (k : Token) → token syntax fold s t ≡ Some (k, rest)
      → after k s ≡ Some s' → Keeps syntax fold text s t → Keeps syntax fold text s' rest
  keeps_on text s s' t rest k e f keeps = λ p. (
    λ c. stepped syntax fold s s' t rest p (next_some syntax fold s s' t rest k e f) ((keeps p).0 c),
    λ c. (keeps p).1 (step (next_some syntax fold s s' t rest k e f) c),
  )

  pub leads_on : (text : List ℕ) (s s' : State) (t rest : List ℕ) (k : Token) → token syntax fold s t ≡ Some (k, rest)
      → after k s ≡ Some s' → Leads syntax fold text s t → Leads syntax fold text s' rest
  leads_on text s s' t rest k e f leads = onward leads (next_some syntax fold s s' t rest k e f)

  nothing_spelled : (text : List ℕ) (s : State) (t : List ℕ) → text ≢ [] → t ≢ [] → next syntax fold s t ≡ None
      → Keeps syntax fold text s t → (p : Pattern) → Spells (kind_of syntax) fold text p → ⊥
  nothing_spelled text s t n m e keeps p h = stuck syntax fold s t p e m ((keeps p).0 (spelled syntax fold h n))

  pub no_token : (text : List ℕ) (s : State) (t : List ℕ) → text ≢ [] → t ≢ [] → token syntax fold s t ≡ None
      → Keeps syntax fold text s t → (p : Pattern) → Spells (kind_of syntax) fold text p → ⊥
  no_token text s t n m e keeps = nothing_spelled text s t n m (next_no_token s t e) keeps

  pub no_state : (text : List ℕ) (s : State) (t rest : List ℕ) (k : Token) → text ≢ [] → t ≢ []
      → token syntax fold s t ≡ Some (k, rest) → after k s ≡ None → Keeps syntax fold text s t → (p : Pattern)
      → Spells (kind_of syntax) fold text p → ⊥
  no_state text s t rest k n m e f keeps = nothing_spelled text s t n m (next_no_state syntax fold s t rest k e f) keeps

  empty_end : (s : State) (p : Pattern) → whole s.level ≡ None → Completes syntax fold s [] p → ⊥
  empty_end s p g (done w) = cc
  empty_end s p g (step f c) = cc

  -- a text that is read to its end can go on
  end_goes_on : (text : List ℕ) (s : State) → Leads syntax fold text s [] → CanGoOn syntax (take (length text) text)
  end_goes_on text s leads = can_go_on syntax fold text (length text) s
      (subst (λ y. Leads syntax fold text s y) (sym (drop_all (length text) text (omega arith))) leads)

  pub in_group : (text : List ℕ) (s : State) → length text ≤ 4096 → text ≢ [] → grouped s.outer ≡ true
      → Keeps syntax fold text s [] → Leads syntax fold text s []
      → IsRefused (kind_of syntax) fold text (record { kind = UnmatchedGroup; at = length text })
  in_group text s l n g keeps leads = record {
    none = λ p h. open_end syntax fold s p g ((keeps p).0 (spelled syntax fold h n));
    place = place_of syntax UnmatchedGroup text (length text) _ (end_goes_on text s leads)
        (refl, inr (refl, leaves_open syntax fold text s g leads));
    long = λ h. absurd (omega arith);
  }

  pub empty_operand : (text : List ℕ) (s : State) → length text ≤ 4096 → text ≢ [] → grouped s.outer ≡ false
      → whole s.level ≡ None → Keeps syntax fold text s [] → Leads syntax fold text s []
      → IsRefused (kind_of syntax) fold text (record { kind = EmptyOperand; at = length text })
  empty_operand text s l n o g keeps leads = record {
    none = λ p h. empty_end s p g ((keeps p).0 (spelled syntax fold h n));
    place = place_of syntax EmptyOperand text (length text) _ (end_goes_on text s leads)
        (refl, inr (inr (refl, leaves_empty syntax fold text s o leads)));
    long = λ h. absurd (omega arith);
  }

  finish : (ls : List Level) (l : Level) (p : Pattern) → grouped ls ≡ false → whole l ≡ Some p
      → Completes syntax fold (record { outer = ls; level = l }) [] p
  finish [] l p g w = done w
  finish (x ∷ ls) l p g w = absurd (false≢true (sym g))

  none_outer : (ls : List Level) → grouped ls ≡ false → ls ≡ []
  none_outer [] g = refl
  none_outer (x ∷ ls) g = absurd (false≢true (sym g))

  pub finished : (text : List ℕ) (s : State) (p : Pattern) → text ≢ [] → length text ≤ 4096 → grouped s.outer ≡ false
      → whole s.level ≡ Some p → Keeps syntax fold text s [] → IsSpelled (kind_of syntax) fold text p
  finished text s p n l g w keeps = record {
    spells = read syntax fold text p l ((keeps p).1 (finish s.outer s.level p g w));
    only = λ q h. ended syntax fold s q p (none_outer s.outer g) w ((keeps q).0 (spelled syntax fold h n));
    proper = spelled_proper (read syntax fold text p l ((keeps p).1 (finish s.outer s.level p g w)));
  }

  -- a group is refused within 100 others
  below : (n : ℕ) → ltb n 100 ≡ false → 99 < n
  below n e = grind (arith, nat_tests)

  too_many : (s : State) → with_group s ≡ None → 99 < length s.outer
  too_many s e = elim (chosen (ltb (length s.outer) 100) _ _ _ e) [
    | inl h ↦ absurd (let f : ⊥ = cc (h.1) in f)
    | inr h ↦ below (length s.outer) h.0
  ]

  pub token_place : (text : List ℕ) (at : ℕ) (s : State) (k : Token) (rest : List ℕ)
      → token syntax fold s (drop at text) ≡ Some (k, rest) → after k s ≡ None
      → Leads syntax fold text s (drop at text) → PlaceInToken syntax (blame k) text at at
  token_place text at s (M.Part p) rest e f leads = cc
  token_place text at s (M.Anchor p) rest e f leads = cc
  token_place text at s (M.Repeat m n) rest e f leads =
      let (w, eq, means) = told syntax fold s (drop at text) (M.Repeat m n) rest e in
      (refl, w, m, n, means.1, stops syntax fold text at s (M.Repeat m n) w rest e f eq means leads)
  token_place text at s M.Open rest e f leads =
      let (w, eq, means) = told syntax fold s (drop at text) M.Open rest e in
      let opens = subst (λ y. drop at text ≡ y ++ rest) means.1 eq in
      (refl, (rest, opens), leaves_more syntax fold 99 text at s rest (too_many s f) opens leads)
  token_place text at s M.Close rest e f leads =
      let (w, eq, means) = told syntax fold s (drop at text) M.Close rest e in (
        refl,
        inl (subst (IsMisplaced syntax text at) means
            (stops syntax fold text at s M.Close w rest e f eq means leads)),
      )
  token_place text at s M.Bar rest e f leads =
      let (w, eq, means) = told syntax fold s (drop at text) M.Bar rest e in
      let none = stops syntax fold text at s M.Bar w rest e f eq means leads in
      (refl, inr (inl (means.1, subst (IsMisplaced syntax text at) means.2 none)))

  -- what closes no group stands where no token is found
  unopened_place : (x : Syntax) (text : List ℕ) (at : ℕ) (s : State) → token x fold s (drop at text) ≡ None
      → Leads x fold text s (drop at text) → x ≡ Basic → BytesStand text at (G.closing Basic)
      → PlaceInToken x UnmatchedGroup text at at
  unopened_place Basic text at s e leads is (rest, eq) =
      (refl, inl (refl, closing_stops fold text at s rest eq e leads))
  unopened_place Extended text at s e leads is (rest, eq) = cc

  no_token_place : (text : List ℕ) (at : ℕ) (s : State) (f : SyntaxFault) → token syntax fold s (drop at text) ≡ None
      → Leads syntax fold text s (drop at text) → ClosesNone syntax text at f ⊎ PlaceInToken syntax f.kind text at f.at
      → PlaceInToken syntax f.kind text at f.at
  no_token_place text at s f e leads (inl h) =
      subst (λ y. PlaceInToken syntax y.kind text at y.at) (sym h.0)
      (unopened_place syntax text at s e leads h.1 h.2)
  no_token_place text at s f e leads (inr h) = h

  pub no_token_fault : (text : List ℕ) (at : ℕ) (s : State) (f : SyntaxFault) → length text ≤ 4096 → text ≢ []
      → drop at text ≢ [] → token syntax fold s (drop at text) ≡ None
      → ClosesNone syntax text at f ⊎ PlaceInToken syntax f.kind text at f.at
      → Keeps syntax fold text s (drop at text) → Leads syntax fold text s (drop at text)
      → IsFault (kind_of syntax) fold text f
  no_token_fault text at s f l n m e place keeps leads = inr (record {
    none = no_token text s (drop at text) n m e keeps;
    place = place_of syntax f.kind text at f.at (can_go_on syntax fold text at s leads)
        (no_token_place text at s f e leads place);
    long = λ h. absurd (omega arith);
  })

  short : (text : List ℕ) (p : Pattern) → Spells (kind_of syntax) fold text p → length text ≤ 4096
  short text p G.nothing = omega arith
  short text p (G.some l e) = l

  -- a text that is too long has that fault, behind nothing, which can go on
  pub long_text : (text : List ℕ) → 4096 < length text → IsFault (kind_of syntax) fold text too_long
  long_text text l = inr (record {
    none = λ p h. absurd (let k = short text p h in omega arith);
    place = place_of syntax TooLong text 0 4096 (can_go_on syntax fold text 0 start begin) (refl, l);
    long = λ h. refl;
  })

  pub refused_token : (text : List ℕ) (at : ℕ) (s s' : State) (f : SyntaxFault) (k : Token) (rest : List ℕ)
      → length text ≤ 4096 → text ≢ [] → drop at text ≢ [] → token syntax fold s (drop at text) ≡ Some (k, rest)
      → Applies {A = Unit {0}} (Err f) k s s' at → Keeps syntax fold text s (drop at text)
      → Leads syntax fold text s (drop at text) → IsFault (kind_of syntax) fold text f
  refused_token text at s s' f k rest l n m e (inl h) keeps leads = inl h
  refused_token text at s s' f k rest l n m e (inr h) keeps leads =
      inr (subst (λ y. IsRefused (kind_of syntax) fold text y) (sym h.1) (record {
        none = no_state text s (drop at text) rest k n m e h.0 keeps;
        place = place_of syntax (blame k) text at at (can_go_on syntax fold text at s leads)
            (token_place text at s k rest e h.0 leads);
        long = λ h. absurd (omega arith);
      }))

pub nothing_else : (syntax : Syntax) (fold : Bool) (text : List ℕ) (q : Pattern) → Spells (kind_of syntax) fold text q
    → text ≡ [] → q ≡ Empty
nothing_else syntax fold text q G.nothing e = refl
nothing_else syntax fold text q (G.some h b) e = absurd
    (empty_end syntax fold start q refl
    (subst (λ y. Completes syntax fold start y q) e (complete syntax fold text q (body_of syntax fold text q b))))

pub empty_spelled : (syntax : Syntax) (fold : Bool) (text : List ℕ) → text ≡ []
    → IsSpelled (kind_of syntax) fold text Empty
empty_spelled syntax fold text e = record {
  spells = subst (λ y. Spells (kind_of syntax) fold y Empty) (sym e) G.nothing;
  only = λ q h. nothing_else syntax fold text q h e;
  proper = tt;
}

pub nonempty_drop : (text : List ℕ) (at : ℕ) → at < length text → drop at text ≢ []
nonempty_drop text at h = λ e. absurd (omega (arith, ap length e, length-drop at text))

pub empty_text : (text : List ℕ) → length text ≡ 0 → text ≡ []
empty_text [] e = refl
empty_text (b ∷ text) e = absurd (omega arith)
