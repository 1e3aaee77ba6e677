-- The rows of one argument.
use Rattle.std.proofs.Common.{◌≡◌, ◌∙◌, ap, ap₂, refl, sym, subst, true, false, Bool, List, [], ◌∷◌, ◌++◌, Option, Some}
use Rattle.std.proofs.Common.{None, option_map, option_and_then, codes, cond, ◌||◌, ◌⊎◌, inl, inr, fold, find}
use Rattle.std.specs.Str.{bytes_eq}
use Rattle.std.proofs.lemmas.Slice.Eq.{bytes_eq-Decides}
use Rattle.std.proofs.Common.{append-nil, append_assoc}
use Rattle.clap.specs.Walk.{Row, Rule, Text, at_row, default_rows, has_row, more_values, one_of, all_of, reading_by}
use Rattle.clap.specs.Walk.{row_text, with_default, with_values, without}
use Rattle.clap.specs.declared.builder.value_parser.Reading.{Reading}
use Rattle.clap.specs.declared.parser.matches.ValueSource.{ValueSource}
use Rattle.clap.specs.declared.parser.matches.ValueSource.TheVariants.{DefaultValue, CommandLine}
use Rattle.pg_words.proofs.Rules.{frule, oprule}
use Rattle.pg_words.proofs.Walks.{applied, used_once}
use Rattle.pg_words.proofs.Uses.{EachUse}
use Rattle.pg_words.specs.Line.{Value, Nothing, AnyText, Number, Opt, Use, Given, Operand, values_of, operands_of}

-- the rows of an id
abbrev pub only : Text → List Row → List Row
only id [] = []
only id (r ∷ rs) = cond (bytes_eq r.id id) (r ∷ only id rs) (only id rs)

abbrev pub first : List Row → Option Row
first [] = None
first (r ∷ rs) = Some r

pub find_only : (id : Text) (rows : List Row) → find (λ r. bytes_eq r.id id) rows ≡ first (only id rows)
find_only id [] = refl
find_only id (r ∷ rs) = go (bytes_eq r.id id) (find_only id rs)
  where
    go : (b : Bool) → find (λ x. bytes_eq x.id id) rs ≡ first (only id rs)
        → cond b (Some r) (find (λ x. bytes_eq x.id id) rs) ≡ first (cond b (r ∷ only id rs) (only id rs))
    go true e = refl
    go false e = e

abbrev pub some_row : List Row → Bool
some_row [] = false
some_row (r ∷ rs) = true

pub has_only : (id : Text) (rows : List Row) → has_row id rows ≡ some_row (only id rows)
has_only id [] = refl
has_only id (r ∷ rs) = go (bytes_eq r.id id) (has_only id rs)
  where
    go : (b : Bool) → has_row id rs ≡ some_row (only id rs) → (b || has_row id rs)
        ≡ some_row (cond b (r ∷ only id rs) (only id rs))
    go true e = refl
    go false e = e

only-append : (id : Text) (xs ys : List Row) → only id (xs ++ ys) ≡ only id xs ++ only id ys
only-append id [] ys = refl
only-append id (r ∷ xs) ys = go (bytes_eq r.id id) (only-append id xs ys)
  where
    go : (b : Bool) → only id (xs ++ ys) ≡ only id xs ++ only id ys
        → cond b (r ∷ only id (xs ++ ys)) (only id (xs ++ ys)) ≡ cond b (r ∷ only id xs) (only id xs) ++ only id ys
    go true e = ap (λ (l : List Row). r ∷ l) e
    go false e = e

-- one row at most is added in the place of one
abbrev pub Keeps : Text → (Row → List Row) → List Row → Type 0
Keeps id change missing = ((r : Row) → bytes_eq r.id id ≡ true → only id (change r) ≡ change r)
    × (only id missing ≡ missing)

abbrev pub Spares : Text → Text → (Row → List Row) → List Row → Type 0
Spares id other change missing = ((r : Row) → bytes_eq r.id other ≡ true → only id (change r) ≡ [])
    × (only id missing ≡ [])

differs : (a b d : Text) → bytes_eq a b ≡ true → bytes_eq b d ≡ false → bytes_eq a d ≡ false
differs a b d e ne = ap (λ (t : Text). bytes_eq t d) ((bytes_eq-Decides a b).0 e) ∙ ne

pub only_same : (id : Text) (change : Row → List Row) (missing rows : List Row) → Keeps id change missing
    → only id (at_row id change missing rows) ≡ at_row id change missing (only id rows)
only_same id change missing [] keeps = keeps.1
only_same id change missing (r ∷ rs) keeps = go (bytes_eq r.id id) refl (only_same id change missing rs keeps)
  where
    go : (b : Bool) → bytes_eq r.id id ≡ b → only id (at_row id change missing rs)
        ≡ at_row id change missing (only id rs)
        → only id (cond b (change r ++ rs) (r ∷ at_row id change missing rs))
        ≡ at_row id change missing (cond b (r ∷ only id rs) (only id rs))
    go true is e = only-append id (change r) rs ∙ (ap (λ (l : List Row). l ++ only id rs) (keeps.0 r is)
        ∙ ap (λ (x : Bool). cond x (change r ++ only id rs) (r ∷ at_row id change missing (only id rs))) (sym is))
    go false is e = ap (λ (x : Bool). cond x (r ∷ only id (at_row id change missing rs))
        (only id (at_row id change missing rs))) is ∙ e

pub only_other : (id other : Text) (change : Row → List Row) (missing rows : List Row) → bytes_eq other id ≡ false
    → Spares id other change missing
    → only id (at_row other change missing rows) ≡ only id rows
only_other id other change missing [] ne spares = spares.1
only_other id other change missing (r ∷ rs) ne spares =
    go (bytes_eq r.id other) refl (only_other id other change missing rs ne spares)
  where
    go : (b : Bool) → bytes_eq r.id other ≡ b → only id (at_row other change missing rs) ≡ only id rs
        → only id (cond b (change r ++ rs) (r ∷ at_row other change missing rs)) ≡ only id (r ∷ rs)
    go true is e = only-append id (change r) rs ∙ (ap (λ (l : List Row). l ++ only id rs) (spares.0 r is)
        ∙ ap (λ (x : Bool). cond x (r ∷ only id rs) (only id rs)) (sym (differs r.id other id is ne)))
    go false is e = ap (λ (l : List Row). cond (bytes_eq r.id id) (r ∷ l) l) e

abbrev pub row_with : Text → Reading → ValueSource → List Text → Row
row_with id how s values = record { id = id; values = values; count = None; source = Some s; reading = how }

-- the row of an id with these values, if there are any
abbrev pub rows_for : Text → Reading → List Text → List Row
rows_for id how [] = []
rows_for id how (v ∷ vs) = row_with id how CommandLine (v ∷ vs) ∷ []

self : (id : Text) → bytes_eq id id ≡ true
self id = (bytes_eq-Decides id id).1 refl

keeps_values : (id : Text) (how : Reading) (s : ValueSource) (vs : List Text)
    → Keeps id (more_values s vs) (row_with id how s vs ∷ [])
keeps_values id how s vs = (
  λ r e. ap (λ (b : Bool). cond b (more_values s vs r) []) e,
  ap (λ (b : Bool). cond b (row_with id how s vs ∷ []) []) (self id),
)

spares_values : (id other : Text) (how : Reading) (s : ValueSource) (vs : List Text) → bytes_eq other id ≡ false
    → Spares id other (more_values s vs) (row_with other how s vs ∷ [])
spares_values id other how s vs ne = (
  λ r e. ap (λ (b : Bool). cond b (more_values s vs r) []) (differs r.id other id e ne),
  ap (λ (b : Bool). cond b (row_with other how s vs ∷ []) []) ne,
)

values_other : (id other : Text) (how : Reading) (s : ValueSource) (vs : List Text) (R : List Row) → bytes_eq other id
    ≡ false → only id (with_values other how s vs R) ≡ only id R
values_other id other how s vs R ne = only_other id other (more_values s vs) (row_with other how s vs ∷ []) R ne
    (spares_values id other how s vs ne)

without_other : (id other : Text) (R : List Row) → bytes_eq other id ≡ false → only id (without other R) ≡ only id R
without_other id other R ne = only_other id other (λ _. []) [] R ne (λ r e. refl, refl)

append_own : (id : Text) (how : Reading) (v : Text) (acc : List Text) (R : List Row) → only id R ≡ rows_for id how acc
    → only id (with_values id how CommandLine (v ∷ []) R) ≡ rows_for id how (acc ++ v ∷ [])
append_own id how v acc R h =
    only_same id (more_values CommandLine (v ∷ [])) (row_with id how CommandLine (v ∷ []) ∷ []) R
    (keeps_values id how CommandLine (v ∷ []))
    ∙ ap (at_row id (more_values CommandLine (v ∷ [])) (row_with id how CommandLine (v ∷ []) ∷ [])) h ∙ go acc
  where
    go : (acc : List Text) → at_row id (more_values CommandLine (v ∷ [])) (row_with id how CommandLine (v ∷ []) ∷ [])
        (rows_for id how acc) ≡ rows_for id how (acc ++ v ∷ [])
    go [] = refl
    go (x ∷ xs) = ap (λ (b : Bool). cond b (row_with id how CommandLine (x ∷ xs ++ v ∷ []) ∷ [])
        (row_with id how CommandLine (x ∷ xs) ∷ row_with id how CommandLine (v ∷ []) ∷ [])) (self id)

set_own : (id : Text) (how : Reading) (v : Text) (acc : List Text) (R : List Row) → only id R ≡ rows_for id how acc
    → only id (with_values id how CommandLine (v ∷ []) (without id R)) ≡ rows_for id how (v ∷ [])
set_own id how v acc R h = append_own id how v [] (without id R)
    (only_same id (λ _. []) [] R (λ r e. refl, refl) ∙ ap (without id) h ∙ go acc)
  where
    go : (acc : List Text) → without id (rows_for id how acc) ≡ []
    go [] = refl
    go (x ∷ xs) = ap (λ (b : Bool). cond b [] (row_with id how CommandLine (x ∷ xs) ∷ [])) (self id)

-- what is kept of the values so far and one more
abbrev pub kept : Value → List Text → Text → List Text
kept Nothing acc v = codes "true" ∷ []
kept AnyText acc v = acc ++ v ∷ []
kept (Number low high) acc v = v ∷ []

use_own : (o : Opt) (k : Value) (v : Text) (acc : List Text) (R : List Row)
    → only o.name R ≡ rows_for o.name (reading_by (frule (record o { value = k }))) acc
    → only o.name (used_once (Given (record o { value = k }) v) R)
    ≡ rows_for o.name (reading_by (frule (record o { value = k }))) (kept k acc v)
use_own o Nothing v acc R h = set_own o.name (reading_by (frule (record o { value = Nothing }))) (codes "true") acc R h
use_own o AnyText v acc R h = append_own o.name (reading_by (frule (record o { value = AnyText }))) v acc R h
use_own o (Number low high) v acc R h = set_own o.name
    (reading_by (frule (record o { value = Number low high }))) v acc R h

use_other : (id : Text) (o : Opt) (k : Value) (v : Text) (R : List Row) → bytes_eq o.name id ≡ false
    → only id (used_once (Given (record o { value = k }) v) R) ≡ only id R
use_other id o Nothing v R ne = values_other id o.name _ CommandLine _ (without o.name R) ne
    ∙ without_other id o.name R ne
use_other id o AnyText v R ne = values_other id o.name _ CommandLine _ R ne
use_other id o (Number low high) v R ne = values_other id o.name _ CommandLine _ (without o.name R) ne
    ∙ without_other id o.name R ne

-- each use of an option of this name is one of this option
abbrev pub Named : Opt → List Use → Type 0
Named o = EachUse (λ x. bytes_eq x.name o.name ≡ true → x ≡ o)

pub applied_own : (o : Opt) → bytes_eq (codes "operands") o.name ≡ false
    → (us : List Use) (R : List Row) (acc : List Text) → Named o us
    → only o.name R ≡ rows_for o.name (reading_by (frule o)) acc
    → only o.name (applied us R) ≡ rows_for o.name (reading_by (frule o))
    (fold (kept o.value) acc (values_of o.name us))
applied_own o ne [] R acc named h = h
applied_own o ne (Given x v ∷ us) R acc named h = go (bytes_eq x.name o.name) refl
    (λ e. applied_own o ne us (used_once (Given x v) R) (kept o.value acc v) named.2
    (subst (λ (y : Opt). only o.name (used_once (Given y v) R)
    ≡ rows_for o.name (reading_by (frule o)) (kept o.value acc v))
    (sym (named.0 e)) (use_own o o.value v acc R h)))
    (λ e. applied_own o ne us (used_once (Given x v) R) acc named.2 (use_other o.name x x.value v R e ∙ h))
  where
    go : (b : Bool) → bytes_eq x.name o.name ≡ b
        → (bytes_eq x.name o.name ≡ true → only o.name (applied us (used_once (Given x v) R))
        ≡ rows_for o.name (reading_by (frule o)) (fold (kept o.value) (kept o.value acc v) (values_of o.name us)))
        → (bytes_eq x.name o.name ≡ false → only o.name (applied us (used_once (Given x v) R))
        ≡ rows_for o.name (reading_by (frule o)) (fold (kept o.value) acc (values_of o.name us)))
        → only o.name (applied us (used_once (Given x v) R))
        ≡ rows_for o.name (reading_by (frule o)) (fold (kept o.value) acc
        (cond b (v ∷ values_of o.name us) (values_of o.name us)))
    go true e own other = own e
    go false e own other = other e
applied_own o ne (Operand v ∷ us) R acc named h = applied_own o ne us (used_once (Operand v) R) acc named
    (values_other o.name (codes "operands") _ CommandLine _ R ne ∙ h)

-- and the operands, where no option has their name
abbrev pub Unnamed : List Use → Type 0
Unnamed = EachUse (λ x. bytes_eq x.name (codes "operands") ≡ false)

pub applied_operands : (us : List Use) (R : List Row) (acc : List Text) → Unnamed us → only (codes "operands") R
    ≡ rows_for (codes "operands") (reading_by oprule) acc
    → only (codes "operands") (applied us R) ≡ rows_for (codes "operands") (reading_by oprule) (acc ++ operands_of us)
applied_operands [] R acc named h = h ∙ ap (rows_for (codes "operands") (reading_by oprule)) (sym (append-nil acc))
applied_operands (Given x v ∷ us) R acc named h = applied_operands us (used_once (Given x v) R) acc named.2
    (use_other (codes "operands") x x.value v R named.0 ∙ h)
applied_operands (Operand v ∷ us) R acc named h =
    applied_operands us (used_once (Operand v) R) (acc ++ v ∷ []) named
    (append_own (codes "operands") (reading_by oprule) v acc R h)
    ∙ ap (rows_for (codes "operands") (reading_by oprule)) (append_assoc acc (v ∷ []) (operands_of us))

-- ---- defaults

abbrev pub EachRule : (Rule → Type 0) → List Rule → Type 0
EachRule P [] = Unit {0}
EachRule P (a ∷ c) = P a × EachRule P c

default_other : (id : Text) (a : Rule) (R : List Row) → bytes_eq a.id id ≡ false → only id (with_default R a)
    ≡ only id R
default_other id a R ne = go (has_row a.id R) a.defaults
  where
    go : (b : Bool) (ds : List Text) → only id (cond b R (default_rows a.id (reading_by a) ds R)) ≡ only id R
    go true ds = refl
    go false [] = refl
    go false (v ∷ vs) = values_other id a.id (reading_by a) DefaultValue (v ∷ vs) R ne

default_own : (id : Text) (a : Rule) (R : List Row) → bytes_eq a.id id ≡ true → with_default R a
    ≡ cond (some_row (only id R)) R (default_rows id (reading_by a) a.defaults R)
default_own id a R e =
    let same = (bytes_eq-Decides a.id id).0 e in
    ap (λ (t : Text). cond (has_row t R) R (default_rows t (reading_by a) a.defaults R)) same
    ∙ ap (λ (b : Bool). cond b R (default_rows id (reading_by a) a.defaults R)) (has_only id R)

-- a row stays
pub row_stays : (id : Text) (r : Row) (c : List Rule) (R : List Row) → only id R ≡ r ∷ []
    → only id (fold with_default R c) ≡ r ∷ []
row_stays id r [] R h = h
row_stays id r (a ∷ c) R h = row_stays id r c (with_default R a) (go (bytes_eq a.id id) refl)
  where
    go : (b : Bool) → bytes_eq a.id id ≡ b → only id (with_default R a) ≡ r ∷ []
    go true e = ap (only id) (default_own id a R e
        ∙ ap (λ (l : List Row). cond (some_row l) R (default_rows id (reading_by a) a.defaults R)) h) ∙ h
    go false e = default_other id a R e ∙ h

-- an argument with no default gets no row
pub no_row : (id : Text) (c : List Rule) (R : List Row) → EachRule (λ a. bytes_eq a.id id ≡ true → a.defaults ≡ []) c
    → only id R ≡ [] → only id (fold with_default R c) ≡ []
no_row id [] R each h = h
no_row id (a ∷ c) R each h = no_row id c (with_default R a) each.1 (go (bytes_eq a.id id) refl)
  where
    go : (b : Bool) → bytes_eq a.id id ≡ b → only id (with_default R a) ≡ []
    go true e = ap (only id) (default_own id a R e
        ∙ ap₂ (λ (l : List Row) (ds : List Text). cond (some_row l) R (default_rows id (reading_by a) ds R)) h
        (each.0 e)) ∙ h
    go false e = default_other id a R e ∙ h

-- a flag that is not given has no row, or its default
pub flag_row : (id : Text) (how : Reading) (c : List Rule) (R : List Row)
    → EachRule (λ a. bytes_eq a.id id ≡ true → (a.defaults ≡ codes "false" ∷ []) × (reading_by a ≡ how)) c → only id R
    ≡ []
    → (only id (fold with_default R c) ≡ []) ⊎ (only id (fold with_default R c)
    ≡ row_with id how DefaultValue (codes "false" ∷ []) ∷ [])
flag_row id how [] R each h = inl h
flag_row id how (a ∷ c) R each h = go (bytes_eq a.id id) refl (λ S e. flag_row id how c S each.1 e)
  where
    go : (b : Bool) → bytes_eq a.id id ≡ b
        → ((S : List Row) → only id S ≡ [] → (only id (fold with_default S c) ≡ [])
        ⊎ (only id (fold with_default S c) ≡ row_with id how DefaultValue (codes "false" ∷ []) ∷ []))
        → (only id (fold with_default (with_default R a) c) ≡ [])
        ⊎ (only id (fold with_default (with_default R a) c) ≡ row_with id how DefaultValue (codes "false" ∷ []) ∷ [])
    go true e later = inr (row_stays id (row_with id how DefaultValue (codes "false" ∷ [])) c (with_default R a)
        (ap (only id) (default_own id a R e ∙ ap (λ (l : List Row). cond (some_row l) R
        (default_rows id (reading_by a) a.defaults R)) h
        ∙ ap₂ (λ (ds : List Text) (x : Reading). default_rows id x ds R) (each.0 e).0 (each.0 e).1)
        ∙ (only_same id (more_values DefaultValue (codes "false" ∷ []))
        (row_with id how DefaultValue (codes "false" ∷ []) ∷ []) R
        (keeps_values id how DefaultValue (codes "false" ∷ []))
        ∙ ap (at_row id (more_values DefaultValue (codes "false" ∷ []))
        (row_with id how DefaultValue (codes "false" ∷ []) ∷ [])) h)))
    go false e later = later (with_default R a) (default_other id a R e ∙ h)

-- ---- what the getters read

pub one_of_only : (id : Text) (rows l : List Row) → only id rows ≡ l → one_of id rows
    ≡ option_and_then row_text (first l)
one_of_only id rows l e = ap (option_and_then row_text) (find_only id rows ∙ ap first e)

pub all_of_only : (id : Text) (rows l : List Row) → only id rows ≡ l → all_of id rows
    ≡ option_map (λ r. r.values) (first l)
all_of_only id rows l e = ap (option_map (λ (r : Row). r.values)) (find_only id rows ∙ ap first e)
