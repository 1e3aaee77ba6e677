-- The texts that what is known of one pattern gives, and those of several.
use Rattle.std.proofs.Common.{ℕ, Bool, zero, suc, ◌≡◌, ◌+◌, ◌<◌, ◌≤◌, ◌⊎◌, List, [], ◌∷◌, ◌++◌, length, get_or}
use Rattle.std.proofs.Common.{Vec, reverse, map, take, drop, ◌-◌}
use Rattle.std.proofs.Common.{IsTrue, inl, inr, refl, sym, ap, ◌∙◌, subst, arith, append_assoc}
use Rattle.std.proofs.Common.{Option, None}
use Rattle.std.specs.Option.{IsSomeAnd}
use Rattle.std.specs.List.{Contains, Any as AnyOf, All, AllZip}
use Rattle.std.proofs.lemmas.Bool.{cases_lt}
use Rattle.std.proofs.lemmas.List.{append-nil, get_or-map, get_or_default, map-append}
use Rattle.std.proofs.lemmas.List.{map_more, take_more, take_all, get_or-append-add, length-reverse, length-map}
use Rattle.std.proofs.lemmas.List.{reverse-append, take-append-drop, drop_all, length-take-le}
use Rattle.std.proofs.Math.ListN.{get_or-append}
use Rattle.std.proofs.Common.{length-append, length-drop}
use Rattle.std.proofs.lemmas.List.Elements.{All-append, All-weaker, All-cons, All-nil}
use Rattle.std.proofs.lemmas.List.Elements.{Contains-append_left, Contains-append_right}
use Rattle.memchr.specs.Find.{OccursAt}
use Rattle.pg_pattern.specs.Patterns.{Pattern, Alt}
use Rattle.pg_grammar.specs.Grammar.{Spells}
use Rattle.pg_grammar.specs.declared.pattern_list.Kind.TheVariants.{Fixed}
use Rattle.pg_pattern.specs.Matches.{Match}
use Rattle.pg_pattern.specs.Hits.{Hit, HasHit}
use Rattle.pg_pattern.specs.declared.bounds.Bounds.{Bounds}
use Rattle.pg_pattern.specs.declared.bounds.Bounds.TheVariants.{Any}
use Rattle.pg_bytes.specs.ByteSets.{bytes}
use Rattle.pg_bytes.specs.Sets.{Bytes}
use Rattle.pg_literal.specs.Literals.{as_searched, Holds, IsEnoughText, AreEnough, AreHeads, AreTexts}
use Rattle.pg_literal.specs.Rows.{StandsAt, row_of, AreProduct, Multiplies}
use Rattle.pg_pattern.specs.Strings.{items_of}
use Rattle.pg_bytes.specs.declared.byte_set.ByteSet.{ByteSet}
use Rattle.pg_literal.specs.declared.known.ChosenPart.{ChosenPart}
use Rattle.pg_literal.specs.Known.{IsChosen, head_of, best_of, sets_of, IsNothing, HasRows, IsSureAt, Extends}
use Rattle.pg_literal.specs.Added.{Adds, AddsOnly}
use Rattle.pg_literal.specs.declared.known.MatchFacts.{MatchFacts}
use Rattle.pg_literal.specs.declared.literal.Literal.{Literal}
use Rattle.pg_pattern.proofs.LengthLemmas.{match_forward}
use Rattle.pg_literal.proofs.KnownLemmas.{alt_unspelled}
use Rattle.pg_literal.proofs.RowLemmas.{stands_within, stands_append, any-map, any-unmap, product_some, fixed_text}
use Rattle.pg_literal.proofs.RowLemmas.{fixed_backwards}

-- an element of the list of one
the_only : (p q : Pattern) (k : ℕ) → k < 1 → get_or (p ∷ []) k q ≡ q → q ≡ p
the_only p q zero less is = sym is
the_only p q (suc k) less is = absurd (omega arith)

-- the pattern of a hit of one alone
pub alone_matched : (p : Pattern) (bounds : Bounds) (line : List ℕ) (i j : ℕ) → Hit (p ∷ []) bounds line i j
    → Match p line i j
alone_matched p bounds line i j hit =
    let m = hit.matched in
    subst (λ q. Match q line i j) (the_only p m.0 m.1.0 m.1.1 m.1.2) m.2

-- another pattern that matches a hit's span
with_pattern : (ps qs : List Pattern) (q : Pattern) (bounds : Bounds) (line : List ℕ) (i j : ℕ) → Hit ps bounds line i j
    → Contains qs q → Match q line i j → Hit qs bounds line i j
with_pattern ps qs q bounds line i j hit among m = record {
  ordered = hit.ordered;
  within = hit.within;
  begins = hit.begins;
  ends = hit.ends;
  matched = (q, among, m);
}

-- the list of one has its element
pub in_one : {X : Type 0} (x : X) → Contains (x ∷ []) x
in_one x = (0, omega arith, refl)

-- a line with a hit has one of some pattern alone
pub hit_alone : (ps : List Pattern) (bounds : Bounds) (line : List ℕ) → HasHit ps bounds line
    → (k : ℕ) × (p : Pattern) × (k < length ps) × (get_or ps k p ≡ p) × HasHit (p ∷ []) bounds line
hit_alone ps bounds line hit =
    let i = hit.0 in
    let j = hit.1 in
    let m = hit.2.matched in
    (m.1.0, m.0, m.1.1, m.1.2, (i, j, with_pattern ps (m.0 ∷ []) m.0 bounds line i j hit.2 (in_one m.0) m.2))

-- the same of one hit
pub hit_alone_at : (ps : List Pattern) (bounds : Bounds) (line : List ℕ) (i j : ℕ) → Hit ps bounds line i j
    → (k : ℕ) × (p : Pattern) × (k < length ps) × (get_or ps k p ≡ p) × Hit (p ∷ []) bounds line i j
hit_alone_at ps bounds line i j hit =
    let m = hit.matched in
    (m.1.0, m.0, m.1.1, m.1.2, with_pattern ps (m.0 ∷ []) m.0 bounds line i j hit (in_one m.0) m.2)

-- a hit of one pattern is one of all
pub hit_of_all : (ps : List Pattern) (p : Pattern) (bounds : Bounds) (line : List ℕ) → Contains ps p
    → HasHit (p ∷ []) bounds line → HasHit ps bounds line
hit_of_all ps p bounds line among hit =
    let i = hit.0 in
    let j = hit.1 in
    (i, j, with_pattern (p ∷ []) ps p bounds line i j hit.2 among (alone_matched p bounds line i j hit.2))

-- what is enough for one pattern is for all
pub enough_for_all : {A : Type 0} (fold : Bool) (ps : List Pattern) (p : Pattern) (bounds : Bounds)
    (ls : List (Literal A))
    → Contains ps p → AreEnough fold (p ∷ []) bounds ls → AreEnough fold ps bounds ls
enough_for_all {A} fold ps p bounds ls among enough =
    All-weaker (λ l. IsTrue l.is_enough → IsEnoughText fold (p ∷ []) bounds l.text.items)
    (λ l. IsTrue l.is_enough → IsEnoughText fold ps bounds l.text.items)
    (λ l says yes line held. hit_of_all ps p bounds line among (says yes line held)) ls enough

-- an element of either part
pub any_front : {X : Type 0} (P : X → Type 0) (xs ys : List X) → AnyOf P xs → AnyOf P (xs ++ ys)
any_front P xs ys h =
    let c = Contains-append_left xs ys h.1 (h.0, h.2, h.3) in
    (c.0, h.1, c.1, c.2, h.4)

pub any_behind : {X : Type 0} (P : X → Type 0) (xs ys : List X) → AnyOf P ys → AnyOf P (xs ++ ys)
any_behind P xs ys h =
    let c = Contains-append_right xs ys h.1 (h.0, h.2, h.3) in
    (c.0, h.1, c.1, c.2, h.4)

-- what holds of all holds of the elements of either part
pub all_front : {X : Type 0} (P : X → Type 0) (xs ys : List X) → All P (xs ++ ys) → All P xs
all_front P xs ys all k d below =
    subst P (get_or-append xs ys d k below) (all k d (omega (arith, below, length-append xs ys)))

pub all_behind : {X : Type 0} (P : X → Type 0) (xs ys : List X) → All P (xs ++ ys) → All P ys
all_behind P xs ys all k d below =
    subst P (get_or-append-add xs ys k d) (all (length xs + k) d (omega (arith, below, length-append xs ys)))

module _ (bounds : Bounds) (p q : Pattern) where
  -- a hit of an alternation is one of an alternative
  hit_at_either : (line : List ℕ) (i j : ℕ) → Hit (Alt p q ∷ []) bounds line i j
      → Hit (p ∷ []) bounds line i j ⊎ Hit (q ∷ []) bounds line i j
  hit_at_either line i j hit = elim (alone_matched (Alt p q) bounds line i j hit) [
    | inl m ↦ inl (with_pattern _ (p ∷ []) p bounds line i j hit (in_one p) m)
    | inr m ↦ inr (with_pattern _ (q ∷ []) q bounds line i j hit (in_one q) m)
  ]

  hit_of_either : (line : List ℕ) → HasHit (Alt p q ∷ []) bounds line
      → HasHit (p ∷ []) bounds line ⊎ HasHit (q ∷ []) bounds line
  hit_of_either line hit = elim (hit_at_either line hit.0 hit.1 hit.2) [
    | inl m ↦ inl (hit.0, hit.1, m)
    | inr m ↦ inr (hit.0, hit.1, m)
  ]

  -- and the other way round
  hit_of_first : (line : List ℕ) → HasHit (p ∷ []) bounds line → HasHit (Alt p q ∷ []) bounds line
  hit_of_first line hit =
      let m = alone_matched p bounds line hit.0 hit.1 hit.2 in
      (hit.0, hit.1, with_pattern _ _ (Alt p q) bounds line hit.0 hit.1 hit.2 (in_one (Alt p q)) (inl m))

  hit_of_second : (line : List ℕ) → HasHit (q ∷ []) bounds line → HasHit (Alt p q ∷ []) bounds line
  hit_of_second line hit =
      let m = alone_matched q bounds line hit.0 hit.1 hit.2 in
      (hit.0, hit.1, with_pattern _ _ (Alt p q) bounds line hit.0 hit.1 hit.2 (in_one (Alt p q)) (inr m))

module _ {A : Type 0} (fold : Bool) (bounds : Bounds) (p q : Pattern) where
  -- the literals of both alternatives are those of an alternation
  pub adds_alt : (old mid new : List (Literal A)) → Adds fold bounds q old mid → Adds fold bounds p mid new
      → Adds fold bounds (Alt p q) old new
  adds_alt old mid new second first =
      let Held : List ℕ → Literal A → Type 0 = λ line l. Holds fold line l.text.items in
      let Enough : Pattern → Literal A → Type 0 =
      λ r l. IsTrue l.is_enough → IsEnoughText fold (r ∷ []) bounds l.text.items in
      record {
        added = second.added ++ first.added;
        joins = first.joins ∙ (ap (λ xs. xs ++ first.added) second.joins ∙ append_assoc old second.added first.added);
        needed = λ line hit. elim (hit_of_either bounds p q line hit) [
          | inl h ↦ any_behind (Held line) second.added first.added (first.needed line h)
          | inr h ↦ any_front (Held line) second.added first.added (second.needed line h)
        ];
        heads = λ all line i j hit.
            let Head : Literal A → Type 0 = λ l. IsTrue l.is_head in
            let At : Literal A → Type 0 = λ l. OccursAt (as_searched fold line) l.text.items i in
            elim (hit_at_either bounds p q line i j hit) [
              | inl h ↦
                  let at = first.heads (all_behind Head second.added first.added all) line i j h in
                  (at.0, any_behind At second.added first.added at.1)
              | inr h ↦
                  let at = second.heads (all_front Head second.added first.added all) line i j h in
                  (at.0, any_front At second.added first.added at.1)
            ];
        enough = All-append (Enough (Alt p q)) second.added first.added
            (All-weaker (Enough q) (Enough (Alt p q))
            (λ l says yes line held. hit_of_second bounds p q line (says yes line held))
            second.added second.enough)
            (All-weaker (Enough p) (Enough (Alt p q))
            (λ l says yes line held. hit_of_first bounds p q line (says yes line held))
            first.added first.enough);
        exact = λ text spells. absurd (alt_unspelled fold p q text spells);
        fixed = λ text spells any. absurd (alt_unspelled fold p q text spells);
      }

-- A part of one of the rows that are known, with two flags. It may be enough only where it is all of a row that is
-- sure, and any match counts; it may be a head only where the head begins with it.
pub record Serves {A : Type 0} (bounds : Bounds) (known : MatchFacts A) (row : List Bytes) (is_enough is_head : Bool)
    : Type 0 where
  pub before : List Bytes
  pub behind : List Bytes
  pub part : (head_of known ≡ before ++ (row ++ behind)) ⊎ (best_of known ≡ before ++ (row ++ behind))
  pub enough : IsTrue is_enough → (bounds ≡ Any)
      × ((IsTrue known.is_sure × (row ≡ head_of known)) ⊎ (IsTrue known.is_best_sure × (row ≡ best_of known)))
  pub head : IsTrue is_head → (0 < length row) × ((rest : List Bytes) × (head_of known ≡ row ++ rest))

-- a row that lies backwards in two parts
row_append : (xs ys : List ByteSet) → row_of (xs ++ ys) ≡ row_of ys ++ row_of xs
row_append xs ys = ap reverse (map-append bytes xs ys) ∙ reverse-append (map bytes xs) (map bytes ys)

module _ {A : Type 0} (bounds : Bounds) (known : MatchFacts A) (chosen : ChosenPart A)
    (is : IsChosen bounds known chosen) where
  abbrev start : ℕ
  start = chosen.window.start

  abbrev sets : List ByteSet
  sets = chosen.row.items

  abbrev wide : ℕ
  wide = chosen.window.stop - start

  abbrev part : List ByteSet
  part = take wide (drop start sets)

  abbrev rest : List ByteSet
  rest = drop wide (drop start sets)

  -- the part and what stands on its two sides
  three_parts : row_of sets ≡ row_of rest ++ (row_of part ++ row_of (take start sets))
  three_parts =
      ap row_of (sym (take-append-drop start sets))
      ∙ (row_append (take start sets) (drop start sets)
      ∙ (ap (λ xs. row_of xs ++ row_of (take start sets)) (sym (take-append-drop wide (drop start sets)))
      ∙ (ap (λ xs. xs ++ row_of (take start sets)) (row_append part rest)
      ∙ append_assoc (row_of rest) (row_of part) (row_of (take start sets)))))

  part_size : length (row_of part) ≡ wide
  part_size =
      let low = is.ordered in
      let high = is.within in
      length-reverse (map bytes part)
      ∙ (length-map part bytes ∙ length-take-le wide (drop start sets) (omega (arith, length-drop start sets)))

  -- all of a row
  whole_part : start ≡ 0 → chosen.window.stop ≡ length sets → part ≡ sets
  whole_part first last =
      ap (λ n. take wide (drop n sets)) first ∙ take_all wide sets (omega arith)

  -- what was chosen serves
  pub chosen_serves : Serves bounds known (row_of part) chosen.is_enough chosen.is_head
  chosen_serves = record {
    before = row_of rest;
    behind = row_of (take start sets);
    part = elim is.row [
      | inl head ↦ inl (ap (λ r. row_of r.items) (sym head) ∙ three_parts)
      | inr best ↦ inr (ap (λ r. row_of r.items) (sym best) ∙ three_parts)
    ];
    enough = λ set.
        let says = is.enough set in
        let whole = ap row_of (whole_part says.1 says.2) in (
          says.0,
          elim says.3 [
            | inl head ↦ inl (head.0, whole ∙ ap (λ r. row_of r.items) head.1)
            | inr best ↦ inr (best.0, whole ∙ ap (λ r. row_of r.items) best.1)
          ],
        );
    head = λ set.
        let says = is.head set in
        let none : rest ≡ [] = drop_all wide (drop start sets) (omega (arith, says.1, length-drop start sets)) in
        let whole : head_of known ≡ row_of part ++ row_of (take start sets) =
        ap (λ r. row_of r.items) (sym says.0)
        ∙ (three_parts ∙ ap (λ xs. row_of xs ++ (row_of part ++ row_of (take start sets))) none) in
        (omega (arith, part_size, says.2), (row_of (take start sets), whole));
  }

-- a row that is sure stands within the line
place_within : {A : Type 0} (known : MatchFacts A) (line : List ℕ) (i : ℕ) → IsSureAt known line i → i ≤ length line
place_within known line i (inl head) = stands_within line (head_of known) i head.1
place_within known line i (inr best) = stands_within line (best_of known) i best.1

-- a part of a row that stands stands too
part_stands : (line : List ℕ) (row before part behind : List Bytes) (i : ℕ) → row ≡ before ++ (part ++ behind)
    → StandsAt line row i → StandsAt line part (i + length before)
part_stands line row before part behind i is o =
    let whole = subst (λ r. StandsAt line r i) is o in
    let right = (stands_append line before (part ++ behind) i whole).1 in
    (stands_append line part behind (i + length before) right).0

module _ {A : Type 0} (fold : Bool) (p : Pattern) (nothing known : MatchFacts A)
    (empty : IsNothing nothing) (extends : Extends fold p nothing known) where
  -- a match has the rows
  pub match_rows : (line : List ℕ) (i j : ℕ) → j ≤ length line → Match p line i j → HasRows known line i
  match_rows line i j within m =
      let none : StandsAt line (row_of []) j = within in
      extends.rows line i j m (record {
        head = subst (λ sets. StandsAt line (row_of sets) j) (sym empty.head) none;
        best = (j, subst (λ sets. StandsAt line (row_of sets) j) (sym empty.best) none);
      })

  -- where a sure row stands a hit begins
  pub sure_hit : (line : List ℕ) (i : ℕ) → IsSureAt known line i → HasHit (p ∷ []) Any line
  sure_hit line i sure =
      let end = extends.sure line i sure in
      let within = place_within nothing line end.0 end.2 in (
        i,
        end.0,
        record {
          ordered = match_forward p line i end.0 end.1;
          within = within;
          begins = tt;
          ends = tt;
          matched = (p, in_one p, end.1);
        },
      )

  -- a fixed string is the head, which is sure, and there is no other row
  pub fixed_head : (text : List ℕ) → Spells Fixed fold text p
      → (head_of known ≡ sets_of fold text) × IsTrue known.is_sure × (known.best.items ≡ [])
  fixed_head text spells =
      let f = extends.fixed text spells in (
        f.0 ∙ ap (λ sets. sets_of fold text ++ row_of sets) empty.head ∙ append-nil (sets_of fold text),
        f.1 ∙ empty.sure,
        f.2 ∙ empty.best,
      )

  -- of a pattern of which no text was found no fixed string is one
  pub unspelled : (found : Option (Vec ℕ A)) → found ≡ None
      → ((text : List ℕ) → map bytes known.head.items ≡ sets_of fold text → IsTrue known.is_sure
      → known.best.items ≡ [] → IsSomeAnd found (λ only. only.items ≡ as_searched fold text))
      → (text : List ℕ) → Spells Fixed fold text p → ⊥
  unspelled found none fixed text spells =
      let head = fixed_head text spells in
      subst (λ o. IsSomeAnd o (λ (only : Vec ℕ A). only.items ≡ as_searched fold (reverse text))) none
      (fixed (reverse text) (fixed_backwards fold known.head.items text head.0) head.1 head.2)

  module _ (bounds : Bounds) (row : List Bytes) (is_enough is_head : Bool)
      (serves : Serves bounds known row is_enough is_head) (old new : List (Literal A))
      (multiplies : Multiplies fold row is_enough is_head old new) where
    -- where the row stands a literal does
    literal_at : (line : List ℕ) (i : ℕ) → StandsAt line row i
        → AnyOf (λ l. OccursAt (as_searched fold line) l.text.items i) multiplies.added
    literal_at line i o =
        any-unmap (λ t. OccursAt (as_searched fold line) t i) (λ (l : Literal A). l.text.items) multiplies.added
        ((multiplies.texts line i).0 o)

    row_at : (line : List ℕ) (i : ℕ) → AnyOf (λ l. OccursAt (as_searched fold line) l.text.items i) multiplies.added
        → StandsAt line row i
    row_at line i any =
        (multiplies.texts line i).1
        (any-map (λ t. OccursAt (as_searched fold line) t i) (λ (l : Literal A). l.text.items) multiplies.added any)

    one_needed : (line : List ℕ) → HasHit (p ∷ []) bounds line
        → AnyOf (λ l. Holds fold line l.text.items) multiplies.added
    one_needed line hit =
        let i = hit.0 in
        let has = match_rows line i hit.1 hit.2.within (alone_matched p bounds line i hit.1 hit.2) in
        let at : (place : ℕ) × StandsAt line row place = elim serves.part [
          | inl head ↦ (
            i + length serves.before,
            part_stands line (head_of known) serves.before row serves.behind i head has.head,
          )
          | inr best ↦ (
            has.best.0 + length serves.before,
            part_stands line (best_of known) serves.before row serves.behind has.best.0 best has.best.1,
          )
        ] in
        let any = literal_at line at.0 at.1 in
        (any.0, any.1, any.2, any.3, (at.0, any.4))

    one_enough : AreEnough fold (p ∷ []) bounds multiplies.added
    one_enough k d below set line held =
        let l = get_or multiplies.added k d in
        let says = serves.enough (sym (multiplies.flags k d below).0 ∙ set) in
        let is : get_or multiplies.added k l ≡ l = get_or_default multiplies.added k l d below in
        let o = row_at line held.0 (k, l, below, is, held.1) in
        let At : List Bytes → Type 0 = λ r. StandsAt line r held.0 in
        let sure : IsSureAt known line held.0 = elim says.1 [
          | inl head ↦ inl (head.0, subst At head.1 o)
          | inr best ↦ inr (best.0, subst At best.1 o)
        ] in
        subst (λ b. HasHit (p ∷ []) b line) (sym says.0) (sure_hit line held.0 sure)

    -- a head is as long as the match at least
    head_at : IsTrue is_head → (line : List ℕ) (i j : ℕ) → Hit (p ∷ []) bounds line i j
        → (i < j) × AnyOf (λ l. OccursAt (as_searched fold line) l.text.items i) multiplies.added
    head_at set line i j hit =
        let m = alone_matched p bounds line i j hit in
        let has = match_rows line i j hit.within m in
        let begins = serves.head set in
        let whole = subst (λ r. StandsAt line r i) begins.1.1 has.head in
        let at = (stands_append line row begins.1.0 i whole).0 in
        let size : length (head_of known) ≡ length known.head.items =
        length-reverse (map bytes known.head.items) ∙ length-map known.head.items bytes in
        let longer = ap length begins.1.1 ∙ length-append row begins.1.0 in
        let none = ap length empty.head in
        (omega (arith, extends.long line i j m, size, longer, none, begins.0), literal_at line i at)

    one_head : All (λ l. IsTrue l.is_head) multiplies.added → AreHeads fold (p ∷ []) bounds multiplies.added
    one_head all line i j hit = go multiplies.added all multiplies.flags
        (one_needed line (i, j, hit)) (λ set. head_at set line i j hit)
      where
        go : (ls : List (Literal A)) → All (λ l. IsTrue l.is_head) ls
            → All (λ l. (l.is_enough ≡ is_enough) × (l.is_head ≡ is_head)) ls
            → AnyOf (λ l. Holds fold line l.text.items) ls
            → (IsTrue is_head → (i < j) × AnyOf (λ l. OccursAt (as_searched fold line) l.text.items i) ls)
            → (i < j) × AnyOf (λ l. OccursAt (as_searched fold line) l.text.items i) ls
        go [] heads flags any says = absurd (omega (arith, any.2))
        go (l ∷ ls) heads flags any says =
            says (sym (flags 0 l (omega arith)).1 ∙ heads 0 l (omega arith))

    -- the literals of a row that is a part of one that is known
    pub adds_row : ((text : List ℕ) → Spells Fixed fold text p
        → map (λ l. l.text.items) multiplies.added ≡ as_searched fold text ∷ [])
        → ((text : List ℕ) → Spells Fixed fold text p → bounds ≡ Any
        → AreTexts (as_searched fold text ∷ []) multiplies.added)
        → Adds fold bounds p old new
    adds_row exact fixed = record {
      added = multiplies.added;
      joins = multiplies.joins;
      needed = one_needed;
      heads = one_head;
      enough = one_enough;
      exact = exact;
      fixed = fixed;
    }

  -- the one literal of a row whose sets are searched for as one byte each
  pub adds_text : (bounds : Bounds) (only : List ℕ) (old new : List (Literal A)) → IsTrue known.is_sure
      → AreProduct fold (head_of known) (reverse only ∷ [])
      → ((text : List ℕ) → map bytes known.head.items ≡ sets_of fold text → IsTrue known.is_sure
      → known.best.items ≡ [] → only ≡ as_searched fold text)
      → AddsOnly bounds (reverse only) old new → Adds fold bounds p old new
  adds_text bounds only old new sure product fixed adds =
      let literal = adds.literal in
      let head = head_of known in
      let Yes : Literal A → Type 0 = λ l. IsTrue l.is_enough in
      let Flags : Literal A → Type 0 =
      λ l. (l.is_enough ≡ literal.is_enough) × (l.is_head ≡ literal.is_head) in
      let exact : (text : List ℕ) → Spells Fixed fold text p → reverse only ≡ as_searched fold text =
      λ text spells.
      let known_head = fixed_head text spells in
      fixed_text fold known.head.items only text (λ t is. fixed t is known_head.1 known_head.2) known_head.0 in
      adds_row bounds head literal.is_enough literal.is_head (record {
        before = [];
        behind = [];
        part = inl (sym (append-nil head));
        enough = λ set. (adds.enough.0 set, inl (sure, refl));
        head = λ set. (product_some fold head (reverse only) product (adds.head set), ([], sym (append-nil head)));
      }) old new (record {
        added = literal ∷ [];
        joins = adds.joins;
        texts = subst (λ t. AreProduct fold head (t ∷ [])) (sym adds.text_is) product;
        flags = All-cons Flags literal [] (refl, refl) (All-nil Flags);
      }) (λ text spells. ap (λ t. t ∷ []) (adds.text_is ∙ exact text spells))
      (λ text spells any. record {
        texts = ap (λ t. t ∷ []) (adds.text_is ∙ exact text spells);
        enough = All-cons Yes literal [] (adds.enough.1 any) (All-nil Yes);
      })

-- pairs are as many on both sides
pub zip_length : {X Y : Type 0} (R : X → Y → Type 0) (xs : List X) (ys : List Y) → AllZip R xs ys
    → length xs ≡ length ys
zip_length R [] [] h = refl
zip_length R [] (y ∷ ys) h = absurd h
zip_length R (x ∷ xs) [] h = absurd h
zip_length R (x ∷ xs) (y ∷ ys) h = ap suc (zip_length R xs ys h.1)

-- a pair
zip_at : {X Y : Type 0} (R : X → Y → Type 0) (xs : List X) (ys : List Y) (i : ℕ) (d : X) (e : Y) → AllZip R xs ys
    → i < length xs → R (get_or xs i d) (get_or ys i e)
zip_at R [] ys i d e h less = absurd (omega arith)
zip_at R (x ∷ xs) [] i d e h less = absurd h
zip_at R (x ∷ xs) (y ∷ ys) zero d e h less = h.0
zip_at R (x ∷ xs) (y ∷ ys) (suc i) d e h less = zip_at R xs ys i d e h.1 (omega arith)

module _ (fold : Bool) (ps : List Pattern) (texts : List (List ℕ)) (spelled : AllZip (Spells Fixed fold) texts ps)
    (i : ℕ) (p : Pattern) (below : i < length ps) (at : get_or ps i p ≡ p) where
  -- the text that spells a pattern
  pub text_below : i < length texts
  text_below = omega (arith, zip_length (Spells Fixed fold) texts ps spelled)

  pub text_spells : Spells Fixed fold (get_or texts i []) p
  text_spells =
      subst (Spells Fixed fold (get_or texts i [])) at
      (zip_at (Spells Fixed fold) texts ps i [] p spelled text_below)

module _ {A : Type 0} (fold : Bool) (bounds : Bounds) (ps : List Pattern) (i : ℕ) (p : Pattern) (below : i < length ps)
    (at : get_or ps i p ≡ p) (old new : List (Literal A)) (adds : Adds fold bounds p old new) where
  -- one more pattern's literals are needed too
  pub needed_more : ((line : List ℕ) (k : ℕ) (q : Pattern) → k < i → get_or ps k q ≡ q → HasHit (q ∷ []) bounds line
      → AnyOf (λ l. Holds fold line l.text.items) old) → (line : List ℕ) (k : ℕ) (q : Pattern) → k < i + 1
      → get_or ps k q ≡ q → HasHit (q ∷ []) bounds line → AnyOf (λ l. Holds fold line l.text.items) new
  needed_more known line k q less is hit =
      let Held : Literal A → Type 0 = λ l. Holds fold line l.text.items in
      subst (λ ls. AnyOf Held ls) (sym adds.joins) (elim (cases_lt k i) [
        | inl before ↦ any_front Held old adds.added (known line k q before is hit)
        | inr here ↦
            let last : k ≡ i = omega arith in
            let same : q ≡ p = sym is ∙ ap (λ n. get_or ps n q) last ∙ get_or_default ps i q p below ∙ at in
            let own = subst (λ r. HasHit (r ∷ []) bounds line) same hit in
            any_behind Held old adds.added (adds.needed line own)
      ])

  -- their hits begin with them
  pub heads_more : (All (λ l. IsTrue l.is_head) old → (line : List ℕ) (a b k : ℕ) (q : Pattern) → k < i
      → get_or ps k q ≡ q → Hit (q ∷ []) bounds line a b
      → (a < b) × AnyOf (λ l. OccursAt (as_searched fold line) l.text.items a) old)
      → All (λ l. IsTrue l.is_head) new → (line : List ℕ) (a b k : ℕ) (q : Pattern) → k < i + 1
      → get_or ps k q ≡ q → Hit (q ∷ []) bounds line a b
      → (a < b) × AnyOf (λ l. OccursAt (as_searched fold line) l.text.items a) new
  heads_more known all line a b k q less is hit =
      let At : Literal A → Type 0 = λ l. OccursAt (as_searched fold line) l.text.items a in
      let Head : Literal A → Type 0 = λ l. IsTrue l.is_head in
      let both = subst (λ ls. All Head ls) adds.joins all in
      subst (λ ls. (a < b) × AnyOf At ls) (sym adds.joins) (elim (cases_lt k i) [
        | inl before ↦
            let at = known (all_front Head old adds.added both) line a b k q before is hit in
            (at.0, any_front At old adds.added at.1)
        | inr here ↦
            let last : k ≡ i = omega arith in
            let same : q ≡ p = sym is ∙ ap (λ n. get_or ps n q) last ∙ get_or_default ps i q p below ∙ at in
            let own = subst (λ r. Hit (r ∷ []) bounds line a b) same hit in
            let found = adds.heads (all_behind Head old adds.added both) line a b own in
            (found.0, any_behind At old adds.added found.1)
      ])

  -- they are as enough
  pub enough_more : AreEnough fold ps bounds old → AreEnough fold ps bounds new
  enough_more known =
      let Enough : Literal A → Type 0 = λ l. IsTrue l.is_enough → IsEnoughText fold ps bounds l.text.items in
      subst (λ ls. All Enough ls) (sym adds.joins) (All-append Enough old adds.added known
      (enough_for_all fold ps p bounds adds.added (i, below, at) adds.enough))

  -- one more fixed string is its literal
  pub exact_more : (texts : List (List ℕ)) → AllZip (Spells Fixed fold) texts ps
      → map (λ l. l.text.items) old ≡ map (as_searched fold) (take i texts)
      → map (λ l. l.text.items) new ≡ map (as_searched fold) (take (i + 1) texts)
  exact_more texts spelled are =
      let Text : Literal A → List ℕ = λ l. l.text.items in
      let less = text_below fold ps texts spelled i p below at in
      let more = adds.exact (get_or texts i []) (text_spells fold ps texts spelled i p below at) in
      ap (map Text) adds.joins
      ∙ (map-append Text old adds.added
      ∙ (ap (λ xs. xs ++ map Text adds.added) are
      ∙ (ap (λ xs. map (as_searched fold) (take i texts) ++ xs) more
      ∙ sym (map_more (as_searched fold) texts i [] less))))

  -- where any match counts, it is enough
  pub texts_more : (texts : List (List ℕ)) → AllZip (Spells Fixed fold) texts ps → bounds ≡ Any
      → AreTexts (map (as_searched fold) (take i texts)) old
      → AreTexts (map (as_searched fold) (take (i + 1) texts)) new
  texts_more texts spelled any are =
      let Yes : Literal A → Type 0 = λ l. IsTrue l.is_enough in
      let more = adds.fixed (get_or texts i []) (text_spells fold ps texts spelled i p below at) any in
      record {
        texts = exact_more texts spelled are.texts;
        enough = subst (λ ls. All Yes ls) (sym adds.joins) (All-append Yes old adds.added are.enough more.enough);
      }

-- a tree's pattern among those of all
pub pattern_among : {X : Type 0} (f : X → Pattern) (xs : List X) (i : ℕ) (x : X) → i < length xs → x ≡ get_or xs i x
    → get_or (map f xs) i (f x) ≡ f x
pattern_among f xs i x below is = get_or-map f xs i x (f x) below ∙ ap f (sym is)

-- literals with these texts and flags stand behind those that there were
pub record ArePushed {A : Type 0} (texts : List (List ℕ)) (is_enough is_head : Bool) (old new : List (Literal A))
    : Type 0 where
  pub added : List (Literal A)
  pub joins : new ≡ old ++ added
  pub each : map (λ literal. literal.text.items) added ≡ texts
  pub flags : All (λ literal. (literal.is_enough ≡ is_enough) × (literal.is_head ≡ is_head)) added

-- none so far
pub pushed_none : {A : Type 0} (is_enough is_head : Bool) (old : List (Literal A))
    → ArePushed [] is_enough is_head old old
pushed_none is_enough is_head old = record {
  added = [];
  joins = sym (append-nil old);
  each = refl;
  flags = All-nil _;
}

-- one more, which lay backwards
pub pushed_more : {A : Type 0} (texts : List (Vec ℕ A)) (i : ℕ) (backwards : Vec ℕ A) → i < length texts
    → backwards ≡ get_or texts i backwards → (is_enough is_head : Bool) (old mid new : List (Literal A))
    → (literal : Literal A) → literal.text.items ≡ reverse backwards.items → literal.is_enough ≡ is_enough
    → literal.is_head ≡ is_head → new ≡ mid ++ literal ∷ []
    → ArePushed (map reverse (map items_of (take i texts))) is_enough is_head old mid
    → ArePushed (map reverse (map items_of (take (i + 1) texts))) is_enough is_head old new
pushed_more {A} texts i backwards below is is_enough is_head old mid new literal text enough head joins pushed =
    let Text : Literal A → List ℕ = λ l. l.text.items in
    let Flags : Literal A → Type 0 = λ l. (l.is_enough ≡ is_enough) × (l.is_head ≡ is_head) in
    let Turned : Vec ℕ A → List ℕ = λ t. reverse t.items in
    let front = take i texts in
    let last : take (i + 1) texts ≡ front ++ backwards ∷ [] =
    take_more texts i backwards below ∙ ap (λ t. front ++ t ∷ []) (sym is) in
    let all : map reverse (map items_of (take (i + 1) texts))
    ≡ map reverse (map items_of front) ++ Turned backwards ∷ [] =
    ap (λ ts. map reverse (map items_of ts)) last
    ∙ (ap (map reverse) (map-append items_of front (backwards ∷ []))
    ∙ map-append reverse (map items_of front) (backwards.items ∷ [])) in
    record {
      added = pushed.added ++ literal ∷ [];
      joins = joins ∙ (ap (λ ls. ls ++ literal ∷ []) pushed.joins ∙ append_assoc old pushed.added (literal ∷ []));
      each = map-append Text pushed.added (literal ∷ [])
          ∙ (ap (λ ts. ts ++ Text literal ∷ []) pushed.each
          ∙ (ap (λ t. map reverse (map items_of front) ++ t ∷ []) text ∙ sym all));
      flags = All-append Flags pushed.added (literal ∷ []) pushed.flags
          (All-cons Flags literal [] (enough, head) (All-nil Flags));
    }

-- the literals of all texts that a row becomes
pub pushed_all : {A : Type 0} (fold : Bool) (row : List Bytes) (texts : List (Vec ℕ A)) (n : ℕ) → length texts ≤ n
    → (is_enough is_head : Bool) (old new : List (Literal A)) → AreProduct fold row (map reverse (map items_of texts))
    → ArePushed (map reverse (map items_of (take n texts))) is_enough is_head old new
    → Multiplies fold row is_enough is_head old new
pushed_all {A} fold row texts n all is_enough is_head old new product pushed =
    let whole : map (λ (l : Literal A). l.text.items) pushed.added ≡ map reverse (map items_of texts) =
    pushed.each ∙ ap (λ ts. map reverse (map items_of ts)) (take_all n texts all) in
    record {
      added = pushed.added;
      joins = pushed.joins;
      texts = subst (AreProduct fold row) (sym whole) product;
      flags = pushed.flags;
    }
