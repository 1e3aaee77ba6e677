-- The literals of fixed strings, for `string_literals` and `literals_of_strings`.
use Rattle.std.proofs.Common.{◌≡◌, ◌<◌, ◌+◌, ℕ, zero, suc, Bool, List, [], ◌∷◌, ◌++◌, length, map, get_or, refl, sym}
use Rattle.std.proofs.Common.{ap, ◌∙◌, subst, arith, IsTrue, take}
use Rattle.std.specs.List.{All, AllZip, Any as AnyOf}
use Rattle.std.specs.Borrow.{Bor}
use Rattle.std.proofs.lemmas.List.{get_or_default, map-append, take_more}
use Rattle.std.proofs.lemmas.List.Elements.{All-map}
use Rattle.pg_blocks.specs.Lines.{IsLine}
use Rattle.memchr.specs.Find.{OccursAt}
use Rattle.pg_grammar.specs.Slices.{bytes_of}
use Rattle.pg_literal.specs.Literals as P
use Rattle.pg_literal.specs.Literals.{Holds, as_searched}
use Rattle.pg_literal.specs.declared.literal.Literal.{Literal}
use Rattle.pg_literal.proofs.FoldLemmas.{length_searched}
use Rattle.pg_literal.proofs.RowLemmas.{any-map, any-unmap}
use Rattle.pg_pattern.specs.declared.bounds.Bounds.TheVariants.{Any}
use Rattle.pg_pattern.specs.Bounds.{MayBegin, MayEnd}
use Rattle.pg_pattern.specs.Hits.{Hit, HasHit}
use Rattle.pg_prefilter.specs.Strings.{AreStrings}
use Rattle.pg_selection.specs.Search.{SearchText, Pattern, Bounds, AreTreesOf, bounds_of, patterns, terminator_of}
use Rattle.pg_prefilter.specs.Fixed.{AreFixed, AreStringLiterals, IsStringLiteral}
use Rattle.pg_prefilter.specs.Literals.{AreLiterals, IsEnough, TellHeads, data_of}
use Rattle.pg_prefilter.proofs.StringLemmas.{fixed_are, hit_stands, stands_hit}

-- one more pair
zip_push : {X Y : Type 0} (R : X → Y → Type 0) (xs : List X) (ys : List Y) (x : X) (y : Y) → AllZip R xs ys → R x y
    → AllZip R (xs ++ x ∷ []) (ys ++ y ∷ [])
zip_push R [] [] x y h r = (r, tt)
zip_push R [] (b ∷ ys) x y h r = absurd h
zip_push R (a ∷ xs) [] x y h r = absurd h
zip_push R (a ∷ xs) (b ∷ ys) x y h r = (h.0, zip_push R xs ys x y h.1 r)

-- the literal of one more string
pub string_more : {A : Type 0} (fold : Bool) (bounds : Bounds) (strings : List (Bor (List ℕ))) (i : ℕ)
    (d : Bor (List ℕ)) → i < length strings → (old new : List (Literal A)) (l : Literal A)
    → IsStringLiteral fold bounds (get_or strings i d).now l → new ≡ old ++ l ∷ []
    → AreStringLiterals fold bounds (bytes_of (take i strings)) old
    → AreStringLiterals fold bounds (bytes_of (take (i + 1) strings)) new
string_more {A} fold bounds strings i d less old new l is joins are =
    let string = get_or strings i d in
    let more : bytes_of (take (i + 1) strings) ≡ bytes_of (take i strings) ++ string.now ∷ [] =
    ap bytes_of (take_more strings i d less)
    ∙ map-append (λ (s : Bor (List ℕ)). s.now) (take i strings) (string ∷ []) in
    subst (AreStringLiterals fold bounds (bytes_of (take (i + 1) strings))) (sym joins)
    (subst (λ ss. AreStringLiterals fold bounds ss (old ++ l ∷ [])) (sym more)
    (zip_push (IsStringLiteral fold bounds) (bytes_of (take i strings)) old string.now l are is))

-- a pair
zip_at : {X Y : Type 0} (R : X → Y → Type 0) (xs : List X) (ys : List Y) (k : ℕ) (d : X) (e : Y) → AllZip R xs ys
    → k < length ys → R (get_or xs k d) (get_or ys k e)
zip_at R [] [] k d e h less = absurd (omega (arith, less))
zip_at R [] (y ∷ ys) k d e h less = absurd h
zip_at R (x ∷ xs) [] k d e h less = absurd h
zip_at R (x ∷ xs) (y ∷ ys) zero d e h less = h.0
zip_at R (x ∷ xs) (y ∷ ys) (suc k) d e h less = zip_at R xs ys k d e h.1 (omega (arith, less))

-- the texts of the literals of strings
pub texts_of_strings : {A : Type 0} (fold : Bool) (bounds : Bounds) (strings : List (List ℕ))
    (literals : List (Literal A)) → AreStringLiterals fold bounds strings literals
    → map (λ l. l.text.items) literals ≡ map (as_searched fold) strings
texts_of_strings fold bounds [] [] are = refl
texts_of_strings fold bounds [] (l ∷ literals) are = absurd are
texts_of_strings fold bounds (s ∷ strings) [] are = absurd are
texts_of_strings fold bounds (s ∷ strings) (l ∷ literals) are =
    ap (λ t. t ∷ map (λ l. l.text.items) literals) are.0.text
    ∙ ap (λ ts. as_searched fold s ∷ ts) (texts_of_strings fold bounds strings literals are.1)

module _ {A : Type 0} (text : SearchText) (trees : List Pattern) (spelled : AreTreesOf text trees)
    (fixed : AreFixed text) (literals : List (Literal A))
    (are : AreStringLiterals text.fold (bounds_of text) (patterns text.lists) literals) where
  abbrev strings : List (List ℕ)
  strings = map (as_searched text.fold) (patterns text.lists)

  are_strings : AreStrings text strings
  are_strings = fixed_are text fixed

  -- the text, as it is searched for, stands there in the line
  abbrev Stands : List ℕ → ℕ → ℕ → List ℕ → Type 0
  Stands line i j s = OccursAt (as_searched text.fold line) s i × (i + length s ≡ j)

  -- a literal and its string
  own_string : (k : ℕ) (l : Literal A) → k < length literals
      → IsStringLiteral text.fold (bounds_of text) (get_or (patterns text.lists) k []) (get_or literals k l)
  own_string k l less =
      let R : List ℕ → Literal A → Type 0 = IsStringLiteral text.fold (bounds_of text) in
      zip_at R (patterns text.lists) literals k [] l are less

  -- a hit is one of a literal
  hit_has : (line : List ℕ) (i j : ℕ) → Hit trees (bounds_of text) line i j
      → AnyOf (λ (l : Literal A). Stands line i j l.text.items) literals
  hit_has line i j hit =
      let some = hit_stands text strings are_strings trees spelled (bounds_of text) line i j hit in
      any-unmap (Stands line i j) (λ (l : Literal A). l.text.items) literals
      (subst (AnyOf (Stands line i j))
      (sym (texts_of_strings text.fold (bounds_of text) (patterns text.lists) literals are)) some.stands)

  -- and each literal that is enough has one where it stands
  enough_hit : (line : List ℕ) (k : ℕ) (l : Literal A) → k < length literals → IsTrue (get_or literals k l).is_enough
      → (place : ℕ) → OccursAt (as_searched text.fold line) (get_or literals k l).text.items place
      → HasHit trees (bounds_of text) line
  enough_hit line k l less enough place o =
      let own = get_or literals k l in
      let stop = place + length own.text.items in
      let any : bounds_of text ≡ Any = (own_string k l less).enough.0 enough in
      let one : AnyOf (λ (l : Literal A). Stands line place stop l.text.items) literals =
      (k, own, less, get_or_default literals k own l less, (o, refl)) in (
        place,
        stop,
        stands_hit text strings are_strings trees spelled (bounds_of text) line place stop (record {
          begins = subst (λ b. MayBegin b (as_searched text.fold line) place) (sym any) tt;
          ends = subst (λ b. MayEnd b (as_searched text.fold line) stop) (sym any) tt;
          stands = subst (AnyOf (Stands line place stop))
              (texts_of_strings text.fold (bounds_of text) (patterns text.lists) literals are)
              (any-map (Stands line place stop) (λ (l : Literal A). l.text.items) literals one);
        }),
      )

  -- no hit is empty, and each begins with one of them, where all are heads
  heads_at : All (λ l. IsTrue l.is_head) literals → P.AreHeads text.fold trees (bounds_of text) literals
  heads_at all line i j hit =
      let any = hit_has line i j hit in
      let string = get_or (patterns text.lists) any.0 [] in
      let own = own_string any.0 any.1 any.2 in
      let some = own.head.0 (all any.0 any.1 any.2) in
      let size = ap length own.text in
      let same = ap (λ (l : Literal A). length l.text.items) any.3 in (
        omega (arith, any.4.1, some, size, same, length_searched text.fold string),
        (any.0, any.1, any.2, any.3, any.4.0),
      )

module _ {A : Type 0} (text : SearchText) (fixed : AreFixed text) (literals : List (Literal A))
    (are : AreStringLiterals text.fold (bounds_of text) (patterns text.lists) literals) where
  -- the literals of a text whose patterns are the strings
  pub string_literals_are : All (λ l. IsLine (terminator_of text) l.text.items) literals
      → AreLiterals text (map data_of literals)
  string_literals_are within = record {
    lines = All-map (λ l. IsLine (terminator_of text) l.text) data_of literals within;
    needed = λ some trees spelled line hit.
        let any = hit_has text trees spelled fixed literals are line hit.0 hit.1 hit.2 in
        any-map (λ l. Holds text.fold line l.text) data_of literals
        (any.0, any.1, any.2, any.3, (hit.0, any.4.0));
    enough = All-map (IsEnough text) data_of literals (λ k l less set trees spelled line held.
        enough_hit text trees spelled fixed literals are line k l less set held.0 held.1);
  }

  pub string_heads : TellHeads text literals
  string_heads some all trees spelled = heads_at text trees spelled fixed literals are all

-- the literals of the strings that are a text's patterns
pub literals_of_text : {A : Type 0} (text : SearchText) (fold : Bool) (bounds : Bounds) (strings : List (List ℕ))
    (literals : List (Literal A)) → fold ≡ text.fold → bounds ≡ bounds_of text → strings ≡ patterns text.lists
    → AreStringLiterals fold bounds strings literals
    → AreStringLiterals text.fold (bounds_of text) (patterns text.lists) literals
literals_of_text text fold bounds strings literals same within are is =
    subst (λ ss. AreStringLiterals text.fold (bounds_of text) ss literals) are
    (subst (λ b. AreStringLiterals text.fold b strings literals) within
    (subst (λ f. AreStringLiterals f bounds strings literals) same is))
