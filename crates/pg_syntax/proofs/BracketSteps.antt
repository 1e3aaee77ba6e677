-- One more element is read.
use Rattle.std.proofs.Common.{ℕ, ◌≡◌, Bool, true, false, cond, ◌||◌, List, [], ◌∷◌, Option, Some, None, refl, sym, ap}
use Rattle.std.proofs.Common.{◌∙◌}
use Rattle.std.proofs.Common.{suc, ◌≤◌, leb, eqb, not, ◌&&◌, option_and_then, arith}
use Rattle.std.proofs.lemmas.Bool.Decides.{nat_tests}
use Rattle.std.proofs.Math.Path.{fun_ext}
use Rattle.pg_bytes.specs.Sets.{Bytes, union, empty, between}
use Rattle.pg_grammar.specs.Brackets.{Element, member, end_point, is_dash, Single, opens}
use Rattle.pg_syntax.specs.BracketReading.{unite, range_of, Mode, Fresh, Held, Dashed, Ranged, Barred, members_of}
use Rattle.pg_syntax.specs.BracketReading.{Reading, read, add_element, go, put_in, put, finish_in, finish, Elements}
use Rattle.pg_syntax.specs.BracketReading.{with_element, inside_at, enclosed_at, element_at, rest_of}
use Rattle.std.proofs.Math.Bool.{or-false}

or_assoc : (x y z : Bool) → ((x || y) || z) ≡ (x || (y || z))
or_assoc true y z = refl
or_assoc false y z = refl

union_assoc : (s t u : Bytes) → union (union s t) u ≡ union s (union t u)
union_assoc s t u = fun_ext (λ n. or_assoc (s n) (t n) (u n))

union_empty : (s : Bytes) → union s empty ≡ s
union_empty s = fun_ext (λ n. or-false (s n))

-- what is read, by its parts
abbrev pub reads : Bool → Bytes → Option Bytes → Option Bytes
reads bad set rest = cond bad None (unite (Some set) rest)

-- a part is added
added : (bad : Bool) (s : Bytes) (o rest : Option Bytes) (r : Reading) (m : Mode) (es : List Element) → r.bad ≡ bad
    → r.set ≡ s → members_of m es ≡ rest → reads bad s (unite o rest) ≡ read (add_element r o m) es
added bad s None rest r m es b e h = none bad
  where
    none : (bad : Bool) → reads bad s None ≡ None
    none true = refl
    none false = refl
added bad s (Some t) rest r m es b e h = some bad rest
    ∙ sym (ap (λ x. reads x (union r.set t) (members_of m es)) b
    ∙ (ap (λ x. reads bad (union x t) (members_of m es)) e ∙ ap (reads bad (union s t)) h))
  where
    some : (bad : Bool) (rest : Option Bytes) → reads bad s (unite (Some t) rest) ≡ reads bad (union s t) rest
    some true rest = refl
    some false None = refl
    some false (Some u) = ap Some (sym (union_assoc s t u))

choose : {A B : Type 0} (f : A → B) (b : Bool) (x y : A) (u v : B) → u ≡ f x → v ≡ f y → cond b u v ≡ f (cond b x y)
choose f true x y u v h k = h
choose f false x y u v h k = k

over : (bad : Bool) (s : Bytes) (b : Bool) (x y : Option Bytes)
    → reads bad s (cond b x y) ≡ cond b (reads bad s x) (reads bad s y)
over bad s true x y = refl
over bad s false x y = refl

put_mode : (r : Reading) (m : Mode) (a : Element) (es : List Element)
    → reads r.bad r.set (members_of m (a ∷ es)) ≡ read (put_in r m a) es
put_mode r Fresh a es = refl
put_mode r (Held a) d es =
    over r.bad r.set (is_dash d) (members_of (Dashed a d) es) (unite (member a) (members_of (Held d) es))
    ∙ choose (λ x. read x es) (is_dash d) (go r (Dashed a d)) (add_element r (member a) (Held d)) _ _ refl
    (added r.bad r.set (member a) (members_of (Held d) es) r (Held d) es refl refl refl)
put_mode r (Dashed a d) b es = added r.bad r.set (range_of (end_point a) (end_point b))
    (members_of Ranged es) r Ranged es refl refl refl
put_mode r Ranged d es =
    over r.bad r.set (is_dash d) (members_of (Barred d) es) (members_of (Held d) es)
    ∙ choose (λ x. read x es) (is_dash d) (go r (Barred d)) (go r (Held d)) _ _ refl refl
put_mode r (Barred d) b es = none r.bad
  where
    none : (bad : Bool) → reads bad r.set None ≡ None
    none true = refl
    none false = refl

-- reading the element first is reading it with the rest
pub put_is : (r : Reading) (a : Element) (es : List Element) → read r (a ∷ es) ≡ read (put r a) es
put_is r a es = put_mode r r.mode a es

whole : (bad : Bool) (s : Bytes) → reads bad s (Some empty) ≡ cond bad None (Some s)
whole true s = refl
whole false s = ap Some (union_empty s)

mode_add : (r : Reading) (o : Option Bytes) (m : Mode) (es : List Element)
    → read (add_element r o m) es ≡ reads (add_element r o m).bad (add_element r o m).set (members_of m es)
mode_add r None m es = refl
mode_add r (Some s) m es = refl

finish_mode : (r : Reading) (m : Mode) → reads r.bad r.set (members_of m []) ≡
    (let s = finish_in r m in cond s.bad None (Some s.set))
finish_mode r Fresh = whole r.bad r.set
finish_mode r (Held a) = added r.bad r.set (member a) (Some empty) r Fresh [] refl refl refl
    ∙ (mode_add r (member a) Fresh [] ∙ whole (add_element r (member a) Fresh).bad (add_element r (member a) Fresh).set)
finish_mode r (Dashed a d) =
    let s = add_element r (member a) Fresh in
    let step : reads r.bad r.set (unite (member a) (unite (member d) (Some empty))) ≡ reads s.bad s.set
    (unite (member d) (Some empty)) = two r.bad r.set (member a) (unite (member d) (Some empty)) r refl refl in
    step ∙ (added s.bad s.set (member d) (Some empty) s Fresh [] refl refl refl
    ∙ (mode_add s (member d) Fresh [] ∙ whole (add_element s (member d) Fresh).bad (add_element s (member d)
    Fresh).set))
  where
    two : (bad : Bool) (s : Bytes) (o rest : Option Bytes) (r : Reading) → r.bad ≡ bad → r.set ≡ s
        → reads bad s (unite o rest) ≡ reads (add_element r o Fresh).bad (add_element r o Fresh).set rest
    two true s None rest r b e = refl
    two false s None rest r b e = refl
    two bad s (Some t) rest r b e = some bad rest
        ∙ sym (ap (λ x. reads x (union r.set t) rest) b ∙ ap (λ x. reads bad (union x t) rest) e)
      where
        some : (bad : Bool) (rest : Option Bytes) → reads bad s (unite (Some t) rest) ≡ reads bad (union s t) rest
        some true rest = refl
        some false None = refl
        some false (Some u) = ap Some (sym (union_assoc s t u))
finish_mode r Ranged = whole r.bad r.set
finish_mode r (Barred d) = added r.bad r.set (member d) (Some empty) r Fresh [] refl refl refl
    ∙ (mode_add r (member d) Fresh [] ∙ whole (add_element r (member d) Fresh).bad (add_element r (member d) Fresh).set)

pub finish_is : (r : Reading) → read r [] ≡ finish r
finish_is r = finish_mode r r.mode

-- a range of two bytes
pub ranged : (low high : ℕ) (a b : Option ℕ) (s : Bytes) → Some low ≡ a → Some high ≡ b → low ≤ high
    → s ≡ between low high → Some s ≡ range_of a b
ranged low high a b s e f h g =
    let t : leb low high ≡ true = grind (arith, nat_tests) in
    ap Some g ∙ (sym (ap (λ x. cond x (Some (between low high)) None) t)
    ∙ (ap (λ x. range_of x (Some high)) e ∙ ap (range_of a) f))

skip : {A : Type 0} (b : Bool) (x y : A) → b ≡ false → cond b x y ≡ y
skip b x y h = ap (λ c. cond c x y) h

taken : {A : Type 0} (b : Bool) (x y : A) → b ≡ true → cond b x y ≡ x
taken b x y h = ap (λ c. cond c x y) h

-- one element is read from the text
pub inside_step : (n : ℕ) (first : Bool) (b : ℕ) (t : List ℕ) → (eqb b 93 && not first) ≡ false
    → inside_at (suc n) first (b ∷ t) ≡ option_and_then (λ (e, rest). with_element e (inside_at n false rest))
    (element_at (b ∷ t))
unfolding inside_at
inside_step n first b t h = skip _ _ _ h ∙ chosen (eqb b 91 && opens t)
  where
    chosen : (c : Bool) → cond c (option_and_then (λ (e, rest). with_element e (inside_at n false rest))
        (enclosed_at t)) (with_element (Single b) (inside_at n false t)) ≡ option_and_then
        (λ (e, rest). with_element e (inside_at n false rest)) (cond c (enclosed_at t) (Some (Single b, t)))
    chosen true = refl
    chosen false = refl

pub inside_close : (n : ℕ) (first : Bool) (b : ℕ) (t : List ℕ) → (eqb b 93 && not first) ≡ true
    → inside_at (suc n) first (b ∷ t) ≡ Some ([], t)
unfolding inside_at
inside_close n first b t h = taken _ _ _ h

pub rest_more : (r : Reading) (e : Element) (o : Elements) → rest_of r (with_element e o) ≡ rest_of (put r e) o
rest_more r e None = refl
rest_more r e (Some x) = ap (option_and_then (λ s. Some (s, x.1))) (put_is r e x.0)
