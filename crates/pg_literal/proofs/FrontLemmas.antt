-- Rows that matches begin with: of what stands one behind the other, and of alternatives.
use Rattle.std.proofs.Common.{◌≡◌, ◌<◌, ◌≤◌, ◌+◌, ◌||◌, ℕ, suc, Bool, true, false, inl, inr, Option, None}
use Rattle.std.proofs.Common.{Some, Vec, List, [], ◌∷◌, ◌++◌, length, map, reverse, take, get_or, refl, sym, ap}
use Rattle.std.proofs.Common.{◌∙◌, subst, arith}
use Rattle.std.specs.Prelude.{IfSome}
use Rattle.std.proofs.lemmas.Bool.{false≢true}
use Rattle.std.proofs.lemmas.List.{length_push, length-map, length-append, length-reverse, length-take-le}
use Rattle.std.proofs.lemmas.List.{map-append, reverse-append, reverse-reverse, take_all, take_more}
use Rattle.pg_bytes.specs.ByteSets.{bytes}
use Rattle.pg_bytes.specs.Sets.{Bytes, union}
use Rattle.pg_bytes.specs.declared.byte_set.ByteSet.{ByteSet}
use Rattle.pg_pattern.specs.Patterns.{Pattern, Set, Cat, Alt}
use Rattle.pg_pattern.specs.Matches.{Match}
use Rattle.pg_literal.specs.Rows.{StandsAt, row_of, row_along}
use Rattle.pg_literal.specs.Known.{head_of, Extends}
use Rattle.pg_literal.specs.Fronts.{IsFronted, IsFrontRow, IsWider, LeadsToRest}
use Rattle.pg_literal.specs.declared.known.MatchFacts.{MatchFacts}
use Rattle.pg_literal.proofs.FinderLemmas.{map_reverse}
use Rattle.pg_literal.proofs.KnownLemmas.{alt_unspelled}
use Rattle.pg_literal.proofs.RowLemmas.{stands_append}

-- one more set in front of a row that lies backwards
pub pushed : (sets new : List ByteSet) (set : ByteSet) → new ≡ sets ++ set ∷ [] → row_of new ≡ bytes set ∷ row_of sets
pushed sets new set is =
    ap row_of is
    ∙ ap reverse (map-append bytes sets (set ∷ []))
    ∙ reverse-append (map bytes sets) (bytes set ∷ [])

-- the row that matches of a set in front of another one begin with
pub leads_set : (set : Bytes) (rest : List Bytes) → LeadsToRest (Set set) rest (set ∷ rest)
leads_set set rest = record {
  stands = λ line i j m o. ((m.0, m.1, m.2), subst (StandsAt line rest) m.3 o);
  long = λ line i j m. omega (arith, m.3);
}

-- two patterns, one behind the other
pub leads_cat : (p q : Pattern) (rest more whole : List Bytes) → LeadsToRest q rest more → LeadsToRest p more whole
    → LeadsToRest (Cat p q) rest whole
leads_cat p q rest more whole second first = record {
  stands = λ line i j m o. first.stands line i m.0 m.1 (second.stands line m.0 j m.2 o);
  long = λ line i j m. omega (arith, first.long line i m.0 m.1, second.long line m.0 j m.2);
}

-- one of two patterns
leads_alt : (p q : Pattern) (rest whole : List Bytes) → LeadsToRest p rest whole → LeadsToRest q rest whole
    → LeadsToRest (Alt p q) rest whole
leads_alt p q rest whole first second = record { stands = stands; long = long }
  where
    stands : (line : List ℕ) (i j : ℕ) → Match (Alt p q) line i j → StandsAt line rest j → StandsAt line whole i
    stands line i j (inl m) o = first.stands line i j m o
    stands line i j (inr m) o = second.stands line i j m o

    long : (line : List ℕ) (i j : ℕ) → Match (Alt p q) line i j → i + length whole ≤ j + length rest
    long line i j (inl m) = first.long line i j m
    long line i j (inr m) = second.long line i j m

-- a row is as wide as itself, and as a wider one's wider one
pub wider_same : (row : List Bytes) → IsWider row row
wider_same row = (refl, λ line i o. o)

pub wider_more : (row wide other : List Bytes) → IsWider row wide → IsWider wide other → IsWider row other
wider_more row wide other first second =
    (second.0 ∙ first.0, λ line i o. second.1 line i (first.1 line i o))

pub wider_still : {A : Type 0} (row : Option (Vec ByteSet A)) (wide other : List Bytes)
    → IfSome row (λ r. IsWider (row_along r.items) wide) → IsWider wide other
    → IfSome row (λ r. IsWider (row_along r.items) other)
wider_still None wide other first second = tt
wider_still (Some row) wide other first second = wider_more (row_along row.items) wide other first second

-- what follows from two things that are known of a value, if there is one
pub if_some_both : {X : Type 0} (P Q R : X → Type 0) (o : Option X) → IfSome o P → IfSome o Q
    → ((x : X) → P x → Q x → R x) → IfSome o R
if_some_both P Q R None p q more = tt
if_some_both P Q R (Some x) p q more = more x p q

-- both parts of a row
stands_join : (line : List ℕ) (xs ys : List Bytes) (i : ℕ) → StandsAt line xs i → StandsAt line ys (i + length xs)
    → StandsAt line (xs ++ ys) i
stands_join line [] ys i front behind =
    let at : i + 0 ≡ i = omega arith in subst (StandsAt line ys) at behind
stands_join line (set ∷ xs) ys i front behind =
    let at : i + suc (length xs) ≡ i + 1 + length xs = omega arith in
    (front.0, stands_join line xs ys (i + 1) front.1 (subst (StandsAt line ys) at behind))

-- a wider row of a pattern
pub row_wider : (p : Pattern) (row wide : List Bytes) → IsWider row wide → IsFrontRow p row → IsFrontRow p wide
row_wider p row wide wider is rest = record {
  stands = λ line i j m o.
      let parts = stands_append line row rest i ((is rest).stands line i j m o) in
      let at : i + length row ≡ i + length wide = omega (arith, wider.0) in
      stands_join line wide rest i (wider.1 line i parts.0) (subst (StandsAt line rest) at parts.1);
  long = λ line i j m.
      omega (arith, (is rest).long line i j m, wider.0, length-append row rest, length-append wide rest);
}

-- one of two patterns
pub row_alt : (p q : Pattern) (row : List Bytes) → IsFrontRow p row → IsFrontRow q row → IsFrontRow (Alt p q) row
row_alt p q row first second rest = leads_alt p q rest (row ++ rest) (first rest) (second rest)

-- one more set on both sides, the second with all bytes of the first
wider_set : (xs ys : List Bytes) (s t : Bytes) → length ys ≡ length xs → ((b : ℕ) → s b ≡ true → t b ≡ true)
    → IsWider xs ys → IsWider (xs ++ s ∷ []) (ys ++ t ∷ [])
wider_set xs ys s t same more wider = (
  omega (arith, same, length_push xs s, length_push ys t),
  λ line i o.
      let parts = stands_append line xs (s ∷ []) i o in
      let last = parts.1 in
      let at : i + length xs ≡ i + length ys = omega (arith, same) in
      stands_join line ys (t ∷ []) i (wider.1 line i parts.0)
      (subst (StandsAt line (t ∷ [])) at ((last.0.0, last.0.1, more last.0.0 last.0.2), last.1)),
)

-- the union of two sets has the bytes of each
left_of : (s t : Bytes) (b : ℕ) → s b ≡ true → union s t b ≡ true
left_of s t b is = ap (λ v. v || t b) is

right_of : (s t : Bytes) (b : ℕ) → t b ≡ true → union s t b ≡ true
right_of s t b is = go (s b) (t b) is
  where
    go : (x y : Bool) → y ≡ true → (x || y) ≡ true
    go true y is = refl
    go false y is = is

-- a row has the unions of the first k sets of two others
pub record AreUnited (one other : List ByteSet) (k : ℕ) (sets : List ByteSet) : Type 0 where
  pub size : length sets ≡ k
  pub left : IsWider (row_along (take k one)) (row_along sets)
  pub right : IsWider (row_along (take k other)) (row_along sets)

pub united_none : (one other sets : List ByteSet) → sets ≡ [] → AreUnited one other 0 sets
united_none one other sets none =
    subst (AreUnited one other 0) (sym none) (record { size = refl; left = wider_same []; right = wider_same [] })

-- one more of them
one_more : (row sets : List ByteSet) (k : ℕ) (d made : ByteSet) → k < length row → length sets ≡ k
    → ((b : ℕ) → bytes (get_or row k d) b ≡ true → bytes made b ≡ true)
    → IsWider (row_along (take k row)) (row_along sets)
    → IsWider (row_along (take (k + 1) row)) (row_along (sets ++ made ∷ []))
one_more row sets k d made less size more wider =
    let before = take k row in
    let set = get_or row k d in
    let longer : row_along (take (k + 1) row) ≡ row_along before ++ bytes set ∷ [] =
    ap row_along (take_more row k d less) ∙ map-append bytes before (set ∷ []) in
    let same : length (row_along sets) ≡ length (row_along before) =
    omega (arith, size, length-map sets bytes, length-map before bytes, length-take-le k row (omega (arith, less))) in
    subst (λ xs. IsWider xs (row_along (sets ++ made ∷ []))) (sym longer)
    (subst (IsWider (row_along before ++ bytes set ∷ [])) (sym (map-append bytes sets (made ∷ [])))
    (wider_set (row_along before) (row_along sets) (bytes set) (bytes made) same more wider))

pub united_more : (one other sets new : List ByteSet) (k : ℕ) (d made : ByteSet) → k < length one → k < length other
    → bytes made ≡ union (bytes (get_or one k d)) (bytes (get_or other k d)) → new ≡ sets ++ made ∷ []
    → AreUnited one other k sets → AreUnited one other (k + 1) new
united_more one other sets new k d made left right is pushed are =
    let s = bytes (get_or one k d) in
    let t = bytes (get_or other k d) in
    let in_made : (b : ℕ) → union s t b ≡ true → bytes made b ≡ true = λ b has. ap (λ set. set b) is ∙ has in
    subst (AreUnited one other (k + 1)) (sym pushed) (record {
      size = omega (arith, are.size, length_push sets made);
      left = one_more one sets k d made left are.size (λ b has. in_made b (left_of s t b has)) are.left;
      right = one_more other sets k d made right are.size (λ b has. in_made b (right_of s t b has)) are.right;
    })

-- all of them
pub united_left : (one other sets : List ByteSet) (k : ℕ) → length one ≤ k → AreUnited one other k sets
    → IsWider (row_along one) (row_along sets)
united_left one other sets k all are =
    subst (λ xs. IsWider (row_along xs) (row_along sets)) (take_all k one all) are.left

pub united_right : (one other sets : List ByteSet) (k : ℕ) → length other ≤ k → AreUnited one other k sets
    → IsWider (row_along other) (row_along sets)
united_right one other sets k all are =
    subst (λ xs. IsWider (row_along xs) (row_along sets)) (take_all k other all) are.right

-- a row that was turned round, in the order of the line
pub along : (sets turned : List ByteSet) → turned ≡ reverse sets → row_along turned ≡ row_of sets
along sets turned is = ap row_along is ∙ map_reverse bytes sets

-- a row in front of one that lies backwards
pub put_front : (sets front whole : List ByteSet) → whole ≡ sets ++ reverse front
    → row_of whole ≡ row_along front ++ row_of sets
put_front sets front whole is =
    let back : map bytes (reverse front) ≡ reverse (map bytes front) = map_reverse bytes front in
    ap row_of is
    ∙ (ap reverse (map-append bytes sets (reverse front))
    ∙ (reverse-append (map bytes sets) (map bytes (reverse front))
    ∙ ap (λ xs. xs ++ row_of sets) (ap reverse back ∙ reverse-reverse (map bytes front))))

-- an alternation of which each match has bytes of a row
pub extends_front : {A : Type 0} (fold : Bool) (p q : Pattern) (rest whole : MatchFacts A) (row : List Bytes)
    → IsFrontRow (Alt p q) row → IsFronted row rest whole → Extends fold (Alt p q) rest whole
extends_front fold p q rest whole row is fronted =
    let leads = is (head_of rest) in
    let size : length whole.head.items ≡ length (row ++ head_of rest) =
    sym (length-reverse (map bytes whole.head.items) ∙ length-map whole.head.items bytes) ∙ ap length fronted.head in
    let before : length (head_of rest) ≡ length rest.head.items =
    length-reverse (map bytes rest.head.items) ∙ length-map rest.head.items bytes in
    record {
      rows = λ line i j m has. record {
        head = subst (λ r. StandsAt line r i) (sym fronted.head) (leads.stands line i j m has.head);
        best = subst (λ b. (place : ℕ) × StandsAt line (row_of b.items) place) (sym fronted.best) has.best;
      };
      long = λ line i j m. omega (arith, size, before, leads.long line i j m);
      sure = λ line i o. elim o [
        | inl s ↦ absurd (false≢true (sym fronted.unsure ∙ s.0))
        | inr s ↦ absurd (false≢true (sym fronted.best_unsure ∙ s.0))
      ];
      fixed = λ text s. absurd (alt_unspelled fold p q text s);
    }
