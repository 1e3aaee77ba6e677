-- What is spelled is read: the machine goes through each part of the grammar.
use Rattle.std.proofs.Common.{ℕ, suc, ◌≡◌, ◌≢◌, ◌<◌, Bool, true, false, not, ◌&&◌, ◌||◌, eqb, List, [], ◌∷◌, ◌++◌}
use Rattle.std.proofs.Common.{length, Option, Some, None, is_some, is_none, IsTrue, ◌⊎◌, inl, inr, refl, sym, ap, ◌∙◌}
use Rattle.std.proofs.Common.{subst, append_assoc, append-nil, arith}
use Rattle.std.proofs.lemmas.Bool.{eqb-true, eq-eqb, ne_eqb, false≢true}
use Rattle.std.proofs.lemmas.Bool.Decides.{nat_tests}
use Rattle.pg_bytes.specs.Sets.{Bytes, one, all}
use Rattle.pg_pattern.specs.Patterns.{folded}
use Rattle.pg_grammar.specs.Brackets.{IsBracket}
use Rattle.pg_syntax.specs.BracketReading.{bracket}
use Rattle.pg_grammar.specs.Intervals.{IsBounds}
use Rattle.pg_pattern.specs.Patterns.{Pattern, Set, Begin, End}
use Rattle.pg_syntax.proofs.BracketLemmas.{bracket_again, bracket_front}
use Rattle.pg_syntax.proofs.Braces.{interval_again}
use Rattle.pg_grammar.specs.Grammar as G
use Rattle.pg_grammar.specs.Grammar.{opening, closing, brace, unbrace, is_escaped, IsOrdinary, Mark, Atom, Item, Piece}
use Rattle.pg_grammar.specs.Grammar.{Seq, Body}
use Rattle.pg_syntax.specs.Machine.{Level, fresh, cat, last, whole, State, start, with_item, with_anchor, Token, Part}
use Rattle.pg_syntax.specs.Machine.{Anchor, Repeat, Open, Close, Bar, add, with_group, popped, barred, grouped, after}
use Rattle.pg_syntax.specs.Machine.{ends}
use Rattle.pg_syntax.specs.Machine.{repeat_token, basic_escape, extended_escape, basic_token, extended_token, token}
use Rattle.pg_syntax.proofs.Reading.{next, Completes, done, step}
use Rattle.pg_grammar.specs.declared.syntax.Syntax.{Syntax}
use Rattle.pg_grammar.specs.declared.syntax.Syntax.TheVariants.{Basic, Extended}

-- one step
pub goes : {syntax : Syntax} {fold : Bool} {s s' : State} {t rest : List ℕ} {k : Token} {p : Pattern}
    → token syntax fold s t ≡ Some (k, rest) → after k s ≡ Some s' → Completes syntax fold s' rest p
    → Completes syntax fold s t p
goes e f c = step (rw (e, f) refl) c

-- tests
pub not_or : (x y : Bool) → not (x || y) ≡ true → (x ≡ false) × (not y ≡ true)
not_or false y h = (refl, h)
not_or true y h = absurd (false≢true h)

pub and_false : (x y : Bool) → (x ≡ true → y ≡ false) → (x && y) ≡ false
and_false false y h = refl
and_false true y h = h refl

pub basic≢extended : Basic ≡ Extended → ⊥
basic≢extended e = cc

pub cat_none : (q : Option Pattern) → cat q None ≡ q
cat_none None = refl
cat_none (Some q) = refl

pub cat_some : (q : Option Pattern) (p : Pattern) → is_none (cat q (Some p)) ≡ false
cat_some None p = refl
cat_some (Some q) p = refl

-- what the level tells of what was read of its last alternative
pub record AtBasic (l : Level) (before : List ℕ) : Type 0 where
  pub inside : before ≢ [] → is_none (last l) ≡ false
  pub front : before ≡ [] → last l ≡ None
  pub free : (before ≡ []) ⊎ (before ≡ 94 ∷ []) → l.item ≡ None

abbrev pub At : Syntax → Level → List ℕ → Type 0
At Basic l before = AtBasic l before
At Extended l before = Unit {0}

-- the rest of the text agrees with the rest of the body
pub record BeyondBasic (after rest : List ℕ) : Type 0 where
  pub more : after ≢ [] → ends rest ≡ false
  pub over : after ≡ [] → ends rest ≡ true

abbrev pub Beyond : Syntax → List ℕ → List ℕ → Type 0
Beyond Basic after rest = BeyondBasic after rest
Beyond Extended after rest = Unit {0}

abbrev pub Tail : Syntax → List ℕ → Type 0
Tail Basic rest = ends rest ≡ true
Tail Extended rest = Unit {0}

tail_extended : (syntax : Syntax) (rest : List ℕ) → syntax ≡ Extended → Tail syntax rest
tail_extended Basic rest e = absurd (basic≢extended e)
tail_extended Extended rest e = tt

beyond_tail : (syntax : Syntax) (rest : List ℕ) → Tail syntax rest → Beyond syntax [] rest
beyond_tail Basic rest t = record { more = λ h. absurd (h refl); over = λ _. t }
beyond_tail Extended rest t = tt

at_fresh : (syntax : Syntax) (alts : Option Pattern)
    → At syntax (record { alternatives = alts; sequence = None; item = None }) []
at_fresh Basic alts = record { inside = λ h. absurd (h refl); front = λ _. refl; free = λ _. refl }
at_fresh Extended alts = tt

pub not_grouped : (ls : List Level) → length ls ≡ 0 → grouped ls ≡ false
not_grouped [] e = refl
not_grouped (l ∷ ls) e = absurd (omega arith)

-- tokens
byte_token : (syntax : Syntax) (fold : Bool) (s : State) (before after rest : List ℕ) (b : ℕ) → At syntax s.level before
    → Beyond syntax after rest → IsOrdinary syntax (length s.outer) before b after
    → token syntax fold s (b ∷ rest) ≡ Some (Part (Set (folded fold (one b))), rest)
unfolding basic_token extended_token
byte_token Basic fold s before after rest b at beyond o =
    let h1 = not_or (eqb b 92) _ o.0 in
    let h2 = not_or (eqb b 91) _ h1.1 in
    let h3 = not_or (eqb b 46) _ h2.1 in
    let e1 = h1.0 in
    let e2 = h2.0 in
    let e3 = h3.0 in
    let e4 : (eqb b 42 && is_some s.level.item) ≡ false =
    and_false _ _ (λ e. ap is_some (at.free (o.3 (eqb-true b 42 e)))) in
    let e5 : (eqb b 94 && is_none (last s.level)) ≡ false = and_false _ _ (λ e. at.inside (o.1 (eqb-true b 94 e))) in
    let e6 : (eqb b 36 && ends rest) ≡ false = and_false _ _ (λ e. beyond.more (o.2 (eqb-true b 36 e))) in
    rw (e1, e2, e3, e4, e5, e6) refl
byte_token Extended fold s before after rest b at beyond o =
    let h1 = not_or (eqb b 92) _ o.0 in
    let h2 = not_or (eqb b 91) _ h1.1 in
    let h3 = not_or (eqb b 46) _ h2.1 in
    let h4 = not_or (eqb b 40) _ h3.1 in
    let h5 = not_or (eqb b 42) _ h4.1 in
    let h6 = not_or (eqb b 43) _ h5.1 in
    let h7 = not_or (eqb b 63) _ h6.1 in
    let h8 = not_or (eqb b 123) _ h7.1 in
    let h9 = not_or (eqb b 94) _ h8.1 in
    let h10 = not_or (eqb b 36) _ h9.1 in
    let h11 = not_or (eqb b 124) _ h10.1 in
    let close : (eqb b 41 && grouped s.outer) ≡ false =
    and_false _ _ (λ e. not_grouped s.outer (o.1 (eqb-true b 41 e))) in
    rw (h1.0, h2.0, h3.0, h5.0, h6.0, h7.0, h8.0, h4.0, close, h11.0, h9.0, h10.0) refl

dot_token : (syntax : Syntax) (fold : Bool) (s : State) (rest : List ℕ)
    → token syntax fold s (46 ∷ rest) ≡ Some (Part (Set all), rest)
unfolding basic_token extended_token
dot_token Basic fold s rest = refl
dot_token Extended fold s rest = refl

-- an accepted byte is none of the bytes that a backslash gives a meaning
pub not_special : (b c : ℕ) → IsTrue (is_escaped Basic b) → is_escaped Basic c ≡ false → eqb b c ≡ false
not_special b c h n = ne_eqb b c (λ e. false≢true (sym n ∙ (ap (is_escaped Basic) (sym e) ∙ h)))

escape_token : (syntax : Syntax) (fold : Bool) (s : State) (b : ℕ) (rest : List ℕ) → IsTrue (is_escaped syntax b)
    → token syntax fold s (92 ∷ b ∷ rest) ≡ Some (Part (Set (folded fold (one b))), rest)
unfolding basic_token extended_token basic_escape extended_escape
escape_token Basic fold s b rest h =
    rw (not_special b 40 h refl, not_special b 41 h refl, not_special b 123 h refl, h) refl
escape_token Extended fold s b rest h = rw h refl

bracket_at : (syntax : Syntax) (fold : Bool) (s : State) (u rest : List ℕ) (set : Bytes)
    → bracket fold (91 ∷ u ++ rest) ≡ Some (set, rest)
    → token syntax fold s (91 ∷ u ++ rest) ≡ Some (Part (Set set), rest)
unfolding basic_token extended_token
bracket_at Basic fold s u rest set e = rw e refl
bracket_at Extended fold s u rest set e = rw e refl

bracket_token : (syntax : Syntax) (fold : Bool) (s : State) (text rest : List ℕ) (set : Bytes) → IsBracket fold text set
    → token syntax fold s (text ++ rest) ≡ Some (Part (Set set), rest)
bracket_token syntax fold s text rest set b =
    let f = bracket_front fold text set b in
    subst (λ x. token syntax fold s (x ++ rest) ≡ Some (Part (Set set), rest)) (sym f.1)
    (bracket_at syntax fold s f.0 rest set
    (subst (λ x. bracket fold (x ++ rest) ≡ Some (set, rest)) f.1 (bracket_again fold text set rest b)))

dollar_token : (syntax : Syntax) (fold : Bool) (s : State) (rest : List ℕ) → syntax ≡ Extended
    → token syntax fold s (36 ∷ rest) ≡ Some (Part End, rest)
unfolding extended_token
dollar_token Basic fold s rest e = absurd (basic≢extended e)
dollar_token Extended fold s rest e = refl

caret_token : (syntax : Syntax) (fold : Bool) (s : State) (rest : List ℕ) → syntax ≡ Extended
    → token syntax fold s (94 ∷ rest) ≡ Some (Anchor Begin, rest)
unfolding extended_token
caret_token Basic fold s rest e = absurd (basic≢extended e)
caret_token Extended fold s rest e = refl

begin_token : (syntax : Syntax) (fold : Bool) (s : State) (rest : List ℕ) → syntax ≡ Basic → At syntax s.level []
    → token syntax fold s (94 ∷ rest) ≡ Some (Anchor Begin, rest)
unfolding basic_token
begin_token Basic fold s rest e at = rw (at.front refl) refl
begin_token Extended fold s rest e at = absurd (basic≢extended (sym e))

end_token : (syntax : Syntax) (fold : Bool) (s : State) (rest : List ℕ) → syntax ≡ Basic → Beyond syntax [] rest
    → token syntax fold s (36 ∷ rest) ≡ Some (Anchor End, rest)
unfolding basic_token
end_token Basic fold s rest e beyond = rw (beyond.over refl) refl
end_token Extended fold s rest e beyond = absurd (basic≢extended (sym e))

bar_token : (syntax : Syntax) (fold : Bool) (s : State) (rest : List ℕ) → syntax ≡ Extended
    → token syntax fold s (124 ∷ rest) ≡ Some (Bar, rest)
unfolding extended_token
bar_token Basic fold s rest e = absurd (basic≢extended e)
bar_token Extended fold s rest e = refl

open_token : (syntax : Syntax) (fold : Bool) (s : State) (rest : List ℕ)
    → token syntax fold s (opening syntax ++ rest) ≡ Some (Open, rest)
unfolding basic_token extended_token basic_escape
open_token Basic fold s rest = refl
open_token Extended fold s rest = refl

pub close_token : (syntax : Syntax) (fold : Bool) (l m : Level) (outer : List Level) (rest : List ℕ)
    → token syntax fold (record { outer = l ∷ outer; level = m }) (closing syntax ++ rest) ≡ Some (Close, rest)
unfolding basic_token extended_token basic_escape
close_token Basic fold l m outer rest = refl
close_token Extended fold l m outer rest = refl

close_tail : (syntax : Syntax) (rest : List ℕ) → Tail syntax (closing syntax ++ rest)
close_tail Basic rest = refl
close_tail Extended rest = tt

star_token : (syntax : Syntax) (fold : Bool) (s : State) (q : Pattern) (rest : List ℕ)
    → token syntax fold (add q s) (42 ∷ rest) ≡ Some (Repeat 0 None, rest)
unfolding basic_token extended_token
star_token Basic fold s q rest = refl
star_token Extended fold s q rest = refl

plus_token : (syntax : Syntax) → syntax ≡ Extended → (fold : Bool) (s : State) (q : Pattern) (rest : List ℕ)
    → token syntax fold (add q s) (43 ∷ rest) ≡ Some (Repeat 1 None, rest)
unfolding extended_token
plus_token Basic e fold s q rest = absurd (basic≢extended e)
plus_token Extended e fold s q rest = refl

question_token : (syntax : Syntax) → syntax ≡ Extended → (fold : Bool) (s : State) (q : Pattern) (rest : List ℕ)
    → token syntax fold (add q s) (63 ∷ rest) ≡ Some (Repeat 0 (Some 1), rest)
unfolding extended_token
question_token Basic e fold s q rest = absurd (basic≢extended e)
question_token Extended e fold s q rest = refl

interval_token : (syntax : Syntax) (t : List ℕ) (m : ℕ) (n : Option ℕ) → IsBounds t m n
    → (fold : Bool) (s : State) (q : Pattern) (rest : List ℕ)
    → token syntax fold (add q s) ((brace syntax ++ (t ++ unbrace syntax)) ++ rest) ≡ Some (Repeat m n, rest)
unfolding basic_token extended_token basic_escape
interval_token Basic t m n b fold s q rest = ap repeat_token (interval_again Basic t m n rest b)
interval_token Extended t m n b fold s q rest = ap repeat_token (interval_again Extended t m n rest b)

mark_token : {syntax : Syntax} {mark : List ℕ} {m : ℕ} {n : Option ℕ} → Mark syntax mark m n
    → (fold : Bool) (s : State) (q : Pattern) (rest : List ℕ)
    → token syntax fold (add q s) (mark ++ rest) ≡ Some (Repeat m n, rest)
mark_token {syntax = x} G.star fold s q rest = star_token x fold s q rest
mark_token {syntax = x} (G.plus e) fold s q rest = plus_token x e fold s q rest
mark_token {syntax = x} (G.question e) fold s q rest = question_token x e fold s q rest
mark_token {syntax = x} (G.interval {t = t} {m = m} {n = n} b) fold s q rest = interval_token x t m n b fold s q rest

-- no part of a basic expression looks like the end of a body
pub ends_byte : (b : ℕ) (x : List ℕ) → eqb b 92 ≡ false → ends (b ∷ x) ≡ false
ends_byte b [] e = refl
ends_byte b (c ∷ x) e = rw e refl

atom_front : {fold : Bool} {before text after : List ℕ} {p : Pattern} {d : ℕ} → Atom Basic fold before text after p d
    → (x : List ℕ) → ends (text ++ x) ≡ false
atom_front (G.byte {b = b} o) x = ends_byte b x (not_or (eqb b 92) _ o.0).0
atom_front (G.escape {b = b} h) x = not_special b 41 h refl
atom_front G.dot x = ends_byte 46 x refl
atom_front {fold = fold} (G.bracket {text = text} {s = s} h) x = let f =
    bracket_front fold text s h in subst (λ y. ends (y ++ x) ≡ false) (sym f.1) (ends_byte 91 (f.0 ++ x) refl)
atom_front (G.group l b) x = refl
atom_front (G.dollar e) x = absurd (basic≢extended e)

item_front : {fold : Bool} {before text after : List ℕ} {p : Pattern} {d : ℕ} → Item Basic fold before text after p d
    → (x : List ℕ) → ends (text ++ x) ≡ false
item_front (G.atom a) x = atom_front a x
item_front (G.marked {text = text} {mark = mark} i m) x =
    subst (λ y. ends y ≡ false) (sym (append_assoc text mark x)) (item_front i (mark ++ x))

piece_front : {fold : Bool} {before text after : List ℕ} {p : Pattern} {d : ℕ} → Piece Basic fold before text after p d
    → (x : List ℕ) → ends (text ++ x) ≡ false
piece_front (G.item i) x = item_front i x
piece_front (G.begin e) x = ends_byte 94 x refl
piece_front (G.end e) x = ends_byte 36 x refl
piece_front (G.caret e) x = absurd (basic≢extended e)

mark_front : {mark : List ℕ} {m : ℕ} {n : Option ℕ} → Mark Basic mark m n → (x : List ℕ) → ends (mark ++ x) ≡ false
mark_front G.star x = ends_byte 42 x refl
mark_front (G.plus e) x = absurd (basic≢extended e)
mark_front (G.question e) x = absurd (basic≢extended e)
mark_front (G.interval b) x = refl

beyond_front : (front after rest : List ℕ) → ((x : List ℕ) → ends (front ++ x) ≡ false)
    → BeyondBasic (front ++ after) (front ++ rest)
beyond_front front after rest h = record {
  more = λ _. h rest;
  over =
      λ e. absurd (false≢true (sym (h after) ∙ ap ends e));
}

beyond_piece : (syntax : Syntax) (fold : Bool) (before text after rest : List ℕ) (p : Pattern) (d : ℕ)
    → Piece syntax fold before text after p d → Beyond syntax (text ++ after) (text ++ rest)
beyond_piece Basic fold before text after rest p d h = beyond_front text after rest (piece_front h)
beyond_piece Extended fold before text after rest p d h = tt

beyond_mark : (syntax : Syntax) (mark after rest : List ℕ) (m : ℕ) (n : Option ℕ) → Mark syntax mark m n
    → Beyond syntax (mark ++ after) (mark ++ rest)
beyond_mark Basic mark after rest m n h = beyond_front mark after rest (mark_front h)
beyond_mark Extended mark after rest m n h = tt

-- an item that is no `^` at the front of a body
pub nonempty : (text : List ℕ) → ((x : List ℕ) → ends (text ++ x) ≡ false) → text ≡ [] → ⊥
nonempty text h e = false≢true (sym (h []) ∙ ap (λ y. ends (y ++ [])) e)

pub heads : (a b : ℕ) (x y : List ℕ) → a ∷ x ≡ b ∷ y → a ≡ b
heads a b x y e = cc

pub unlike : (a b : ℕ) (x y : List ℕ) → eqb a b ≡ false → a ∷ x ≡ b ∷ y → ⊥
unlike a b x y n e = false≢true (sym n ∙ eq-eqb a b (heads a b x y e))

atom_plain : {fold : Bool} {before text after : List ℕ} {p : Pattern} {d : ℕ} → Atom Basic fold before text after p d
    → before ≡ [] → text ≡ 94 ∷ [] → ⊥
atom_plain (G.byte {b = b} o) eb et = o.1 (heads b 94 [] [] et) eb
atom_plain (G.escape {b = b} h) eb et = unlike 92 94 (b ∷ []) [] refl et
atom_plain G.dot eb et = unlike 46 94 [] [] refl et
atom_plain {fold = fold} (G.bracket {text = text} {s = s} h) eb et =
    let f = bracket_front fold text s h in unlike 91 94 f.0 [] refl (sym f.1 ∙ et)
atom_plain (G.group {text = text} l b) eb et = unlike 92 94 (40 ∷ (text ++ closing Basic)) [] refl et
atom_plain (G.dollar e) eb et = basic≢extended e

pub append_one : (a b : List ℕ) (c : ℕ) → a ++ b ≡ c ∷ [] → (a ≡ []) ⊎ (b ≡ [])
append_one [] b c e = inl refl
append_one (x ∷ []) [] c e = inr refl
append_one (x ∷ []) (y ∷ b) c e = cc
append_one (x ∷ z ∷ a) b c e = cc

item_plain : {fold : Bool} {before text after : List ℕ} {p : Pattern} {d : ℕ} → Item Basic fold before text after p d
    → before ≡ [] → text ≡ 94 ∷ [] → ⊥
item_plain (G.atom a) eb et = atom_plain a eb et
item_plain (G.marked {text = text} {mark = mark} i m) eb et =
    elim (append_one text mark 94 et) [
      | inl e ↦ nonempty text (item_front i) e
      | inr e ↦ nonempty mark
          (mark_front m) e
    ]

pub append_empty : (a b : List ℕ) → a ++ b ≡ [] → b ≡ []
append_empty [] b e = e
append_empty (x ∷ a) b e = cc

at_item : (syntax : Syntax) (fold : Bool) (before text after : List ℕ) (p : Pattern) (d : ℕ) (l : Level)
    → Item syntax fold before text after p d → At syntax (with_item p l) (before ++ text)
at_item Extended fold before text after p d l i = tt
at_item Basic fold before text after p d l i = record {
  inside = λ _. cat_some (last l) p;
  front = λ e. absurd (nonempty text (item_front i) (append_empty before text e));
  free = λ o. absurd (elim o [ inl e ↦ nonempty text (item_front i) (append_empty before text e) | inr e ↦ alone e ]);
}
  where
    alone : before ++ text ≡ 94 ∷ [] → ⊥
    alone e = elim (append_one before text 94 e)
        [ inl eb ↦ item_plain i eb (subst (λ y. y ++ text ≡ 94 ∷ []) eb e) | inr et ↦ nonempty text (item_front i) et ]

at_anchor : (syntax : Syntax) (before : List ℕ) (b : ℕ) (p : Pattern) (l : Level)
    → At syntax (with_anchor p l) (before ++ b ∷ [])
at_anchor Extended before b p l = tt
at_anchor Basic before b p l = record {
  inside = λ _. ap is_none (cat_none (cat (last l) (Some p))) ∙ cat_some (last l) p;
  front = λ e. absurd (not_empty e);
  free = λ _. refl;
}
  where
    not_empty : before ++ b ∷ [] ≡ [] → ⊥
    not_empty e = let f : b ∷ [] ≡ [] = append_empty before (b ∷ []) e in cc

opens : (s : State) (d : ℕ) → length s.outer ≡ d → d < 100
    → with_group s ≡ Some (record { outer = s.level ∷ s.outer; level = fresh })
opens s d e lt = grind (arith, nat_tests)

module _ (syntax : Syntax) (fold : Bool) where
  -- From the state on, the text is read, and the machine goes on with the rest in the state after it.
  mutual
    atom_passes : {before text after : List ℕ} {q : Pattern} {d : ℕ} → Atom syntax fold before text after q d
        → (s : State) → length s.outer ≡ d → At syntax s.level before → (rest : List ℕ) → Beyond syntax after rest
        → (p : Pattern) → Completes syntax fold (add q s) rest p → Completes syntax fold s (text ++ rest) p
    atom_passes (G.byte {before = before} {after = next} {b = b} o) s e at rest beyond p c =
        goes (byte_token syntax fold s before next rest b at beyond
        (subst (λ k. IsOrdinary syntax k before b next) (sym e) o)) refl c
    atom_passes (G.escape {b = b} h) s e at rest beyond p c = goes (escape_token syntax fold s b rest h) refl c
    atom_passes G.dot s e at rest beyond p c = goes (dot_token syntax fold s rest) refl c
    atom_passes (G.bracket {text = text} {s = set} h) s e at rest beyond p c =
        goes (bracket_token syntax fold s text rest set h) refl c
    atom_passes (G.group {text = text} {p = q} {d = d} lt b) s e at rest beyond p c =
        subst (λ y. Completes syntax fold s y p)
        (sym (append_assoc (opening syntax) (text ++ closing syntax) rest
        ∙ ap (λ y. opening syntax ++ y) (append_assoc text (closing syntax) rest)))
        (goes (open_token syntax fold s (text ++ (closing syntax ++ rest))) (opens s d e lt)
        (body_passes b (s.level ∷ s.outer) (ap suc e) (closing syntax ++ rest) (close_tail syntax rest) p
        (λ l w. goes (close_token syntax fold s.level l s.outer rest) (ap (popped (s.level ∷ s.outer)) w) c)))
    atom_passes (G.dollar x) s e at rest beyond p c = goes (dollar_token syntax fold s rest x) refl c

    item_passes : {before text after : List ℕ} {q : Pattern} {d : ℕ} → Item syntax fold before text after q d
        → (s : State) → length s.outer ≡ d → At syntax s.level before → (rest : List ℕ) → Beyond syntax after rest
        → (p : Pattern) → Completes syntax fold (add q s) rest p → Completes syntax fold s (text ++ rest) p
    item_passes (G.atom a) s e at rest beyond p c = atom_passes a s e at rest beyond p c
    item_passes (G.marked {text = text} {mark = mark} {after = next} {p = q} {m = m} {n = n} i k) s e at rest beyond p
        c =
        subst (λ y. Completes syntax fold s y p) (sym (append_assoc text mark rest))
        (item_passes i s e at (mark ++ rest) (beyond_mark syntax mark next rest m n k) p
        (goes (mark_token k fold s q rest) refl c))

    piece_passes : {before text after : List ℕ} {q : Pattern} {d : ℕ} → Piece syntax fold before text after q d
        → (s : State) → length s.outer ≡ d → At syntax s.level before → (rest : List ℕ) → Beyond syntax after rest
        → (p : Pattern) → ((l : Level) → l.alternatives ≡ s.level.alternatives → last l ≡ cat (last s.level) (Some q)
        → At syntax l (before ++ text) → Completes syntax fold (record { outer = s.outer; level = l }) rest p)
        → Completes syntax fold s (text ++ rest) p
    piece_passes (G.item {before = before} {text = text} {after = next} {p = q} {d = d} i) s e at rest beyond p c =
        item_passes i s e at rest beyond p
        (c (with_item q s.level) refl refl (at_item syntax fold before text next q d s.level i))
    piece_passes (G.begin x) s e at rest beyond p c =
        goes (begin_token syntax fold s rest x at) refl
        (c (with_anchor Begin s.level) refl (cat_none _) (at_anchor syntax [] 94 Begin s.level))
    piece_passes (G.end {before = before} x) s e at rest beyond p c =
        goes (end_token syntax fold s rest x beyond) refl
        (c (with_anchor End s.level) refl (cat_none _) (at_anchor syntax before 36 End s.level))
    piece_passes (G.caret {before = before} x) s e at rest beyond p c =
        goes (caret_token syntax fold s rest x) refl
        (c (with_anchor Begin s.level) refl (cat_none _) (at_anchor syntax before 94 Begin s.level))

    seq_passes : {text after : List ℕ} {q : Pattern} {d : ℕ} → Seq syntax fold text after q d
        → (outer : List Level) (alts : Option Pattern) → length outer ≡ d → (rest : List ℕ) → Beyond syntax after rest
        → (p : Pattern) → ((l : Level) → l.alternatives ≡ alts → last l ≡ Some q → At syntax l text
        → Completes syntax fold (record { outer = outer; level = l }) rest p)
        → Completes syntax fold (record {
          outer = outer;
          level =
              record { alternatives = alts; sequence = None; item = None };
        }) (text ++ rest) p
    seq_passes (G.first h) outer alts e rest beyond p c =
        piece_passes h (record { outer = outer; level = record { alternatives = alts; sequence = None; item = None } })
        e (at_fresh syntax alts) rest beyond p c
    seq_passes (G.more {text = text} {next = next} {after = rest_of} {p = q} {q = r} {d = d} h k) outer alts e rest
        beyond p c =
        subst (λ y. Completes syntax fold
        (record { outer = outer; level = record { alternatives = alts; sequence = None; item = None } }) y p)
        (sym (append_assoc text next rest))
        (seq_passes h outer alts e (next ++ rest) (beyond_piece syntax fold text next rest_of rest r d k) p
        (λ l ea el at. piece_passes k (record { outer = outer; level = l }) e at rest beyond p
        (λ m ea' el' at'. c m (ea' ∙ ea) (el' ∙ ap (λ x. cat x (Some r)) el) at')))

    body_passes : {text : List ℕ} {q : Pattern} {d : ℕ} → Body syntax fold text q d → (outer : List Level)
        → length outer ≡ d → (rest : List ℕ) → Tail syntax rest → (p : Pattern)
        → ((l : Level) → whole l ≡ Some q → Completes syntax fold (record { outer = outer; level = l }) rest p)
        → Completes syntax fold (record { outer = outer; level = fresh }) (text ++ rest) p
    body_passes (G.single h) outer e rest tail p c =
        seq_passes h outer None e rest (beyond_tail syntax rest tail) p (λ l ea el at. c l (rw (ea, el) refl))
    body_passes (G.bar {text = text} {next = next} {p = q} {q = r} x b h) outer e rest tail p c =
        subst (λ y. Completes syntax fold (record { outer = outer; level = fresh }) y p)
        (sym (append_assoc text (124 ∷ next) rest))
        (body_passes b outer e (124 ∷ next ++ rest) (tail_extended syntax _ x) p
        (λ l w. goes (bar_token syntax fold (record { outer = outer; level = l }) (next ++ rest) x)
        (ap (barred (record { outer = outer; level = l })) w)
        (seq_passes h outer (Some q) e rest (beyond_tail syntax rest tail) p (λ m ea el at. c m (rw (ea, el) refl)))))

-- What is spelled is read to the end.
pub complete : (syntax : Syntax) (fold : Bool) (text : List ℕ) (p : Pattern) → Body syntax fold text p 0
    → Completes syntax fold start text p
complete syntax fold text p b =
    subst (λ y. Completes syntax fold start y p) (append-nil text)
    (body_passes syntax fold b [] refl [] (over syntax) p (λ l w. done w))
  where
    over : (x : Syntax) → Tail x []
    over Basic = refl
    over Extended = tt
