-- What is read of a text is read in the same way with other bytes behind it, which serves the places of faults.
use Rattle.std.proofs.Common.{ℕ, zero, suc, ◌≡◌, ◌≢◌, ◌<◌, Bool, true, false, List, [], ◌∷◌, ◌++◌}
use Rattle.std.proofs.Common.{cond, length, take, drop, Option, Some, None, refl, sym, ap, ◌∙◌, subst}
use Rattle.std.proofs.Common.{append_assoc, append-nil, arith}
use Rattle.std.proofs.lemmas.List.{append_cancel_right, take-append-drop}
use Rattle.pg_bytes.specs.Sets.{one}
use Rattle.pg_pattern.specs.Patterns.{Pattern, Set, End, folded}
use Rattle.pg_grammar.specs.Grammar.{opening, closing, Body}
use Rattle.pg_grammar.specs.Places.{closings, LeavesOpen, CanGoOn, CannotGoOn, IsMisplaced}
use Rattle.pg_syntax.specs.Machine.{Level, whole, State, with_item, add, popped, Token, Part, Anchor, Repeat}
use Rattle.pg_syntax.specs.Machine.{Open, Close, Bar, after, grouped, NextToken, ends, basic_escape, basic_token, token}
use Rattle.pg_syntax.proofs.Reading.{next, Completes, next_some, next_no_state}
use Rattle.pg_grammar.specs.declared.syntax.Syntax.{Syntax}
use Rattle.pg_grammar.specs.declared.syntax.Syntax.TheVariants.{Basic, Extended}
use Rattle.pg_syntax.proofs.TokenBytes.{token_stays}
use Rattle.pg_syntax.proofs.Sound.{Means, ending, told, next_is}
use Rattle.pg_syntax.proofs.Onward.{Leads, begin, onward, left_made, item_next, open_end, closed_behind}
use Rattle.pg_syntax.proofs.Onward.{filled, found_token}
use Rattle.pg_syntax.proofs.Agreement.{stepped, stuck}
use Rattle.pg_syntax.proofs.Complete.{complete, close_token, ends_byte}

-- whether a body ends where a token begins doesn't hang on what follows the token
end_kept : (syntax : Syntax) (fold : Bool) (s : State) (w rest : List ℕ) (k : Token) → Means syntax fold s w rest k
    → (x : List ℕ) → ending syntax (w ++ x) ≡ ending syntax (w ++ rest)
end_kept Extended fold s w rest k m x = refl
end_kept Basic fold s w rest (Part p) m x = m.0 x ∙ sym (m.0 rest)
end_kept Basic fold s w rest (Anchor p) m x = m.0 x ∙ sym (m.0 rest)
end_kept Basic fold s w rest (Repeat a b) m x = m.0 x ∙ sym (m.0 rest)
end_kept Basic fold s w rest Open m x = m.0 x ∙ sym (m.0 rest)
end_kept Basic fold s w rest Close m x = ap (λ y. ends (y ++ x)) m ∙ sym (ap (λ y. ends (y ++ rest)) m)
end_kept Basic fold s w rest Bar m x = m.0 x ∙ sym (m.0 rest)

module _ (syntax : Syntax) (fold : Bool) where
  -- what was read leads to the same state with other bytes behind it, if they end a body where those did
  pub record Front (text : List ℕ) (s : State) (t : List ℕ) : Type 0 where
    pub bytes : List ℕ
    pub is : text ≡ bytes ++ t
    pub leads : (x : List ℕ) → ending syntax x ≡ ending syntax t → Leads syntax fold (bytes ++ x) s x

  further : (text : List ℕ) (s s' : State) (t rest : List ℕ) → next syntax fold s t ≡ Some (s', rest)
      → Front text s t → Front text s' rest
  further text s s' [] rest e front = cc
  further text s s' (b ∷ t) rest e front =
      let (k, token_is, stepped) = next_is syntax fold s s' (b ∷ t) rest e in
      let (w, eq, means) = told syntax fold s (b ∷ t) k rest token_is in
      let taken = (token_stays syntax fold s b t).taken k rest token_is in
      let same : taken.bytes ≡ w = append_cancel_right taken.bytes w rest (sym taken.is ∙ eq) in
      record {
        bytes = front.bytes ++ w;
        is = front.is ∙ (ap (λ y. front.bytes ++ y) eq ∙ sym (append_assoc front.bytes w rest));
        leads = λ x h.
            subst (λ y. Leads syntax fold y s' x) (sym (append_assoc front.bytes w x))
            (onward (front.leads (w ++ x) (end_kept syntax fold s w rest k means x ∙ ap (ending syntax) (sym eq)))
            (next_some syntax fold s s' (w ++ x) x k
            (subst (λ y. token syntax fold s (y ++ x) ≡ Some (k, x)) same (taken.again x (λ _. h)))
            stepped));
      }

  pub front : {text : List ℕ} {s : State} {t : List ℕ} → Leads syntax fold text s t → Front text s t
  front begin = record { bytes = []; is = refl; leads = λ x h. begin }
  front {text = text} (onward {s = s} {s' = s'} {t = t} {rest = rest} leads e) =
      further text s s' t rest e (front leads)

  some_closing : (x : Syntax) (rest : List ℕ) → closing x ++ rest ≢ []
  some_closing Basic rest = λ h. cc
  some_closing Extended rest = λ h. cc

  -- where more groups are open than are closed, a text is no expression
  still_open : (n : ℕ) (outer : List Level) (l : Level) (p : Pattern) → n < length outer
      → Completes syntax fold (record { outer = outer; level = l }) (closings syntax n) p → ⊥
  still_open n [] l p h c = absurd (omega arith)
  still_open zero (o ∷ outer) l p h c = open_end syntax fold (record { outer = o ∷ outer; level = l }) p refl c
  still_open (suc n) (o ∷ outer) l p h c = go (whole l) refl (λ m. still_open n outer m p (omega arith))
    where
      rest : List ℕ
      rest = closings syntax n

      t : List ℕ
      t = closing syntax ++ rest

      s : State
      s = record { outer = o ∷ outer; level = l }

      closed : Pattern → State
      closed q = record { outer = outer; level = with_item q o }

      go : (w : Option Pattern) → whole l ≡ w
          → ((m : Level) → Completes syntax fold (record { outer = outer; level = m }) rest p → ⊥) → ⊥
      go None e ih =
          let stops = next_no_state syntax fold s t rest Close (close_token syntax fold o l outer rest)
          (ap (popped (o ∷ outer)) e) in
          stuck syntax fold s t p stops (some_closing syntax rest) c
      go (Some q) e ih =
          let goes_on = next_some syntax fold s (closed q) t rest Close (close_token syntax fold o l outer rest)
          (ap (popped (o ∷ outer)) e) in
          ih (with_item q o) (stepped syntax fold s (closed q) t rest p goes_on c)

  -- what was read in front of an offset leads to the same state with other bytes behind it
  led : (text : List ℕ) (at : ℕ) (s : State) → Leads syntax fold text s (drop at text) → (x : List ℕ)
      → ending syntax x ≡ ending syntax (drop at text) → Leads syntax fold (take at text ++ x) s x
  led text at s leads x h =
      let f = front leads in
      let same : f.bytes ≡ take at text = append_cancel_right f.bytes (take at text) (drop at text)
      (sym f.is ∙ sym (take-append-drop at text)) in
      subst (λ y. Leads syntax fold (y ++ x) s x) same (f.leads x h)

  no_end : (y : Syntax) (x : List ℕ) → ending y (97 ∷ x) ≡ false
  no_end Basic x = ends_byte 97 x refl
  no_end Extended x = refl

  at_end : (y : Syntax) (t : List ℕ) → ending y t ≡ true → ending y [] ≡ true
  at_end Basic t h = refl
  at_end Extended t h = h

  -- What was read can go on. Where the rest ends a group, a `$` in front of it may be an anchor, and then is one at the
  -- front's end too, but not before an `a`.
  pub can_go_on : (text : List ℕ) (at : ℕ) (s : State) → Leads syntax fold text s (drop at text)
      → CanGoOn syntax (take at text)
  can_go_on text at s leads = by_end (ending syntax (drop at text)) refl
    where
      made : (p : Pattern) × Body syntax fold (take at text ++ 97 ∷ closings syntax (length s.outer)) p 0
          → CanGoOn syntax (take at text)
      made b = record { fold = fold; groups = length s.outer; pattern = b.0; closed = b.1 }

      by_end : (e : Bool) → ending syntax (drop at text) ≡ e → CanGoOn syntax (take at text)
      by_end true h = made (filled syntax fold (take at text) s (length s.outer) refl
          (subst (λ y. Leads syntax fold y s []) (append-nil (take at text))
          (led text at s leads [] (at_end syntax (drop at text) h ∙ sym h))))
      by_end false h =
          let m = closings syntax (length s.outer) in
          made (closed_behind syntax fold (take at text) s (length s.outer) refl
          (led text at s leads (97 ∷ m) (no_end syntax m ∙ sym h)))

  open_ending : (y : Syntax) (rest : List ℕ) → ending y (opening y ++ rest) ≡ false
  open_ending Basic rest = refl
  open_ending Extended rest = refl

  -- the groups that are open in front of what opens one more
  pub leaves_more : (n : ℕ) (text : List ℕ) (at : ℕ) (s : State) (rest : List ℕ) → n < length s.outer
      → drop at text ≡ opening syntax ++ rest → Leads syntax fold text s (drop at text)
      → LeavesOpen syntax n (take at text)
  leaves_more n text at s rest h opens leads =
      let before = take at text in
      let inside = ap (ending syntax) opens ∙ open_ending syntax rest in
      let led_on = λ (x : List ℕ). led text at s leads (97 ∷ x) (no_end syntax x ∙ sym inside) in
      let q = Set (folded fold (one 97)) in
      let m = closings syntax n in
      let body = closed_behind syntax fold before s (length s.outer) refl (led_on (closings syntax (length s.outer))) in
      record {
        fold = fold;
        groups = length s.outer;
        more = h;
        pattern = body.0;
        closed = body.1;
        needed = λ p b. still_open n s.outer (with_item q s.level) p h
            (stepped syntax fold s (add q s) (97 ∷ m) m p
            (next_some syntax fold s (add q s) (97 ∷ m) m (Part q) (item_next syntax fold s m) refl)
            (left_made syntax fold (before ++ 97 ∷ m) p (led_on m) (complete syntax fold (before ++ 97 ∷ m) p b)));
      }

  not_empty : (w x : List ℕ) → w ++ 97 ∷ x ≢ []
  not_empty [] x = λ h. cc
  not_empty (b ∷ w) x = λ h. cc

  -- where the machine doesn't go on with a token, whatever stands behind it, no expression does
  no_further : (text : List ℕ) (at : ℕ) (s : State) (w : List ℕ) → Leads syntax fold text s (drop at text)
      → ((x : List ℕ) → ending syntax (w ++ x) ≡ ending syntax (drop at text))
      → ((x : List ℕ) → next syntax fold s (w ++ x) ≡ None) → CannotGoOn syntax (take at text) w
  no_further text at s w leads h e = record {
    fold = fold;
    none = λ groups p b.
        let m = closings syntax groups in
        let x = w ++ 97 ∷ m in
        stuck syntax fold s x p (e (97 ∷ m)) (not_empty w m)
        (left_made syntax fold (take at text ++ x) p (led text at s leads x (h (97 ∷ m)))
        (complete syntax fold (take at text ++ x) p b));
  }

  -- a `$` can come anywhere
  dollar_goes_on : (s : State) (u : List ℕ) (k : Token) (rest : List ℕ) → basic_token fold s 36 u ≡ Some (k, rest)
      → after k s ≡ None → ⊥
  unfolding basic_token
  dollar_goes_on s u k rest e f = go (ends u) e
    where
      item : Token
      item = Part (Set (folded fold (one 36)))

      some : (j : Token) → j ≡ k → after j s ≡ None
      some j h = ap (λ y. after y s) h ∙ f

      go : (x : Bool) → cond {A = NextToken} x (Some (Anchor End, u)) (Some (item, u)) ≡ Some (k, rest) → ⊥
      go true g = let h = some (Anchor End) (ap found_token g) in cc
      go false g = let h = some item (ap found_token g) in cc

  no_dollar : (y : Syntax) (s : State) (b : ℕ) (u : List ℕ) (k : Token) (rest : List ℕ)
      → token y fold s (b ∷ u) ≡ Some (k, rest) → after k s ≡ None → (x : List ℕ) → b ≡ 36
      → ending y x ≡ ending y rest
  no_dollar Basic s b u k rest e f x is =
      absurd (dollar_goes_on s u k rest (subst (λ y. basic_token fold s y u ≡ Some (k, rest)) is e) f)
  no_dollar Extended s b u k rest e f x is = refl

  no_next : (s : State) (t w rest : List ℕ) (k : Token) → token syntax fold s t ≡ Some (k, rest) → after k s ≡ None
      → t ≡ w ++ rest → (x : List ℕ) → next syntax fold s (w ++ x) ≡ None
  no_next s [] w rest k e f eq x = cc
  no_next s (b ∷ u) w rest k e f eq x =
      let taken = (token_stays syntax fold s b u).taken k rest e in
      let same : taken.bytes ≡ w = append_cancel_right taken.bytes w rest (sym taken.is ∙ eq) in
      next_no_state syntax fold s (w ++ x) x k
      (subst (λ y. token syntax fold s (y ++ x) ≡ Some (k, x)) same
      (taken.again x (no_dollar syntax s b u k rest e f x))) f

  -- no expression goes on behind a token that can't come where it stands
  pub stops : (text : List ℕ) (at : ℕ) (s : State) (k : Token) (w rest : List ℕ)
      → token syntax fold s (drop at text) ≡ Some (k, rest) → after k s ≡ None → drop at text ≡ w ++ rest
      → Means syntax fold s w rest k → Leads syntax fold text s (drop at text) → IsMisplaced syntax text at w
  stops text at s k w rest e f eq means leads = (
    (rest, eq),
    no_further text at s w leads (λ x. end_kept syntax fold s w rest k means x ∙ ap (ending syntax) (sym eq))
        (no_next s (drop at text) w rest k e f eq),
  )

module _ (fold : Bool) where
  unopened : (s : State) (rest x : List ℕ) → token Basic fold s (92 ∷ 41 ∷ rest) ≡ None
      → token Basic fold s (92 ∷ 41 ∷ x) ≡ None
  unfolding basic_token basic_escape
  unopened s rest x e = go (grouped s.outer) e
    where
      go : (g : Bool) → cond {A = NextToken} g (Some (Close, rest)) None ≡ None
          → cond {A = NextToken} g (Some (Close, x)) None ≡ None
      go true h = cc
      go false h = refl

  -- nor behind what closes a group in a basic expression, where none is open
  pub closing_stops : (text : List ℕ) (at : ℕ) (s : State) (rest : List ℕ) → drop at text ≡ closing Basic ++ rest
      → token Basic fold s (drop at text) ≡ None → Leads Basic fold text s (drop at text)
      → IsMisplaced Basic text at (closing Basic)
  closing_stops text at s rest eq e leads =
      let f = subst (λ y. token Basic fold s y ≡ None) eq e in (
        (rest, eq),
        no_further Basic fold text at s (closing Basic) leads (λ x. sym (ap ends eq))
            (λ x. rw (unopened s rest x f) refl),
      )
