-- What the getters read after a parse.
use Rattle.std.proofs.Common.{◌≡◌, ◌∙◌, ap, refl, sym, subst, true, false, true≢false, ℕ, Bool, List, [], ◌∷◌}
use Rattle.std.proofs.Common.{◌++◌, Option, Some}
use Rattle.std.proofs.Common.{None, codes, fold, ◌≤◌, ◌<◌, inl, inr, arith, ⊎_elim, ◌==◌, cond}
use Rattle.std.proofs.Common.{ne_eqb, append-nil}
use Rattle.std.proofs.Common.{append_assoc, find, ltb-true, nat_lt}
use Rattle.std.specs.Prelude.{unwrap_or}
use Rattle.std.specs.Str.{bytes_eq}
use Rattle.std.specs.Option.{option_map, option_map_or}
use Rattle.std.proofs.lemmas.Slice.Eq.{bytes_eq-Decides}
use Rattle.clap.specs.declared.builder.value_parser.Reading.{Reading}
use Rattle.clap.specs.Lexer.{without_minus}
use Rattle.clap.specs.Walk.{Row, Rule, Text, arg_by_id, with_default, one_of, all_of, reading_by}
use Rattle.pg_words.specs.Line.{Value, Nothing, AnyText, Number, Opt, Use, Given, Operand, by_letter, by_name}
use Rattle.pg_words.specs.Line.{fits_value}
use Rattle.pg_words.specs.Line.{is_given}
use Rattle.pg_words.specs.Line.{last_of, last_value, operands_of, own, some_text, values_of}
use Rattle.pg_words.specs.Found.{Flags}
use Rattle.pg_words.proofs.Rules.{find_rule, frule, oprule, rules}
use Rattle.pg_words.proofs.Walks.{HasId, applied}
use Rattle.pg_words.proofs.Uses.{EachOpt, EachUse, ForSome, found}
use Rattle.pg_words.proofs.Rows.{EachRule, Named, Unnamed, all_of_only, applied_operands, applied_own, flag_row, kept}
use Rattle.pg_words.proofs.Rows.{no_row}
use Rattle.pg_words.proofs.Rows.{one_of_only, only, row_stays, rows_for}

-- an option of the table: the only one of its name, which isn't the operands', and its letter is ASCII
abbrev pub IsRow : List Opt → Opt → Type 0
IsRow os o = (own os o.name ≡ Some o) × (bytes_eq (codes "operands") o.name ≡ false)
    × (bytes_eq o.name (codes "operands") ≡ false) × (option_map_or (λ letter. nat_lt letter 128) o.letter true ≡ true)

same_row : (os : List Opt) (x o : Opt) → IsRow os x → IsRow os o → bytes_eq x.name o.name ≡ true → x ≡ o
same_row os x o is_x is_o e =
    ap (λ (q : Option Opt). unwrap_or q x) (sym is_x.0 ∙ (ap (own os) ((bytes_eq-Decides x.name o.name).0 e) ∙ is_o.0))

-- the options of this name are this one
abbrev pub Alone : List Opt → Opt → Type 0
Alone os o = EachOpt (λ x. bytes_eq x.name o.name ≡ true → x ≡ o) os × (bytes_eq (codes "operands") o.name ≡ false)

-- no option has the operands' name
abbrev pub AreOptions : List Opt → Type 0
AreOptions os = EachOpt (λ x. bytes_eq x.name (codes "operands") ≡ false) os

fold_text : (vs acc : List Text) → fold (kept AnyText) acc vs ≡ acc ++ vs
fold_text [] acc = sym (append-nil acc)
fold_text (v ∷ vs) acc = fold_text vs (acc ++ v ∷ []) ∙ append_assoc acc (v ∷ []) vs

abbrev some_of : List Text → Bool
some_of [] = false
some_of (v ∷ vs) = true

fold_flag : (vs acc : List Text) → fold (kept Nothing) acc vs ≡ cond (some_of vs) (codes "true" ∷ []) acc
fold_flag [] acc = refl
fold_flag (v ∷ vs) acc = fold_flag vs (codes "true" ∷ []) ∙ go (some_of vs)
  where
    go : (b : Bool) → cond b (codes "true" ∷ []) (codes "true" ∷ []) ≡ codes "true" ∷ []
    go true = refl
    go false = refl

abbrev as_list : Option Text → List Text
as_list None = []
as_list (Some v) = v ∷ []

fold_number : (low high : ℕ) (vs : List Text) (before : Option Text)
    → fold (kept (Number low high)) (as_list before) vs ≡ as_list (last_of vs before)
fold_number low high [] before = refl
fold_number low high (v ∷ vs) before = fold_number low high vs (Some v)

-- the rows at the end
abbrev pub end_rows : List Opt → List Use → List Row
end_rows os us = fold with_default (applied us []) (rules os)

own_rules : (o : Opt) (os : List Opt) → Alone os o
    → EachRule (λ a. bytes_eq a.id o.name ≡ true → (a.defaults ≡ (frule o).defaults)
    × (reading_by a ≡ reading_by (frule o))) (rules os)
own_rules o [] alone = (λ e. absurd (true≢false (sym e ∙ alone.1)), tt)
own_rules o (x ∷ os) alone = (
  λ e. (
    ap (λ (y : Opt). (frule y).defaults) (alone.0.0 e),
    ap (λ (y : Opt). reading_by (frule y))
        (alone.0.0 e),
  ),
  own_rules o os (alone.0.1, alone.1),
)

no_defaults : (o : Opt) (c : List Rule) → (frule o).defaults ≡ []
    → EachRule (λ a. bytes_eq a.id o.name ≡ true → (a.defaults ≡ (frule o).defaults)
    × (reading_by a ≡ reading_by (frule o))) c → EachRule (λ a. bytes_eq a.id o.name ≡ true → a.defaults ≡ []) c
no_defaults o [] none each = tt
no_defaults o (a ∷ c) none each = (λ e. (each.0 e).0 ∙ none, no_defaults o c none each.1)

-- the row at the end of an argument with no default
kept_row : (id : Text) (how : Reading) (c : List Rule) (R : List Row) (vs : List Text)
    → EachRule (λ a. bytes_eq a.id id ≡ true → a.defaults ≡ []) c
    → only id R ≡ rows_for id how vs → only id (fold with_default R c) ≡ rows_for id how vs
kept_row id how c R [] each h = no_row id c R each h
kept_row id how c R (v ∷ vs) each h = row_stays id _ c R h

all_for : (id : Text) (how : Reading) (S : List Row) (vs : List Text) → only id S ≡ rows_for id how vs
    → unwrap_or (all_of id S) [] ≡ vs
all_for id how S [] h = ap (λ o. unwrap_or o []) (all_of_only id S [] h)
all_for id how S (v ∷ vs) h = ap (λ o. unwrap_or o []) (all_of_only id S _ h)

pub texts_are : (o : Opt) (os : List Opt) (us : List Use) → Alone os (record o { value = AnyText })
    → Named (record o { value = AnyText }) us
    → unwrap_or (all_of o.name (end_rows os us)) [] ≡ values_of o.name us
texts_are o os us alone named =
    let t = record o { value = AnyText } in
    all_for o.name (reading_by (frule t)) (end_rows os us) (values_of o.name us)
    (kept_row o.name (reading_by (frule t)) (rules os) (applied us []) (values_of o.name us)
    (no_defaults t (rules os) refl (own_rules t os alone))
    (applied_own t alone.1 us [] [] named refl ∙ ap (rows_for o.name (reading_by (frule t)))
    (fold_text (values_of o.name us) [])))

-- the text that `get_one` reads
pub number_is : (o : Opt) (low high : ℕ) (os : List Opt) (us : List Use)
    → Alone os (record o { value = Number low high }) → Named (record o { value = Number low high }) us
    → one_of o.name (end_rows os us) ≡ option_map without_minus (last_of (values_of o.name us) None)
number_is o low high os us alone named =
    let t = record o { value = Number low high } in
    go (last_of (values_of o.name us) None)
    (kept_row o.name (reading_by (frule t)) (rules os) (applied us []) (as_list (last_of (values_of o.name us) None))
    (no_defaults t (rules os) refl (own_rules t os alone))
    (applied_own t alone.1 us [] [] named refl ∙ ap (rows_for o.name (reading_by (frule t)))
    (fold_number low high (values_of o.name us) None)))
  where
    go : (v : Option Text) → only o.name (end_rows os us)
        ≡ rows_for o.name (reading_by (frule (record o { value = Number low high }))) (as_list v)
        → one_of o.name (end_rows os us) ≡ option_map without_minus v
    go None h = one_of_only o.name (end_rows os us) _ h
    go (Some v) h = one_of_only o.name (end_rows os us) _ h

operand_rules : (os : List Opt) → AreOptions os → EachRule
    (λ a. bytes_eq a.id (codes "operands") ≡ true → a.defaults ≡ []) (rules os)
operand_rules [] each = (λ e. refl, tt)
operand_rules (o ∷ os) each = (λ e. absurd (true≢false (sym e ∙ each.0)), operand_rules os each.1)

pub files_are : (os : List Opt) (us : List Use) → AreOptions os → Unnamed us
    → unwrap_or (all_of (codes "operands") (end_rows os us)) [] ≡ operands_of us
files_are os us each named = all_for (codes "operands") (reading_by oprule) (end_rows os us) (operands_of us)
    (kept_row (codes "operands") (reading_by oprule) (rules os) (applied us []) (operands_of us)
    (operand_rules os each) (applied_operands us [] [] named refl))

pub flag_is : (o : Opt) (os : List Opt) (us : List Use) → Alone os (record o { value = Nothing })
    → Named (record o { value = Nothing }) us
    → Flags (one_of o.name (end_rows os us)) (is_given o.name us)
flag_is o os us alone named =
    let t = record o { value = Nothing } in
    go (values_of o.name us) (applied_own t alone.1 us [] [] named refl
    ∙ ap (rows_for o.name (reading_by (frule t))) (fold_flag (values_of o.name us) []))
  where
    go : (vs : List Text) → only o.name (applied us [])
        ≡ rows_for o.name (reading_by (frule (record o { value = Nothing }))) (cond (some_of vs) (codes "true" ∷ []) [])
        → Flags (one_of o.name (end_rows os us)) (some_text vs)
    go [] e = ⊎_elim
        (λ none. inl (one_of_only o.name (end_rows os us) [] none))
        (λ row. inr (one_of_only o.name (end_rows os us) _ row))
        (flag_row o.name (reading_by (frule (record o { value = Nothing }))) (rules os) (applied us [])
        (own_rules (record o { value = Nothing }) os alone) e)
    go (v ∷ vs) e = one_of_only o.name (end_rows os us) _ (row_stays o.name _ (rules os) (applied us []) e)

-- ---- by the name of an option

each_opt : (P Q : Opt → Type 0) → ((x : Opt) → P x → Q x) → (os : List Opt) → EachOpt P os → EachOpt Q os
each_opt P Q f [] each = tt
each_opt P Q f (o ∷ os) each = (f o each.0, each_opt P Q f os each.1)

each_use : (P Q : Opt → Type 0) → ((x : Opt) → P x → Q x) → (us : List Use) → EachUse P us → EachUse Q us
each_use P Q f [] each = tt
each_use P Q f (Given o v ∷ us) each = (f o each.0, each.1, each_use P Q f us each.2)
each_use P Q f (Operand v ∷ us) each = each_use P Q f us each

-- the texts fit
abbrev AllFit : Value → List Text → Type 0
AllFit val [] = Unit {0}
AllFit val (v ∷ vs) = (fits_value val v ≡ true) × AllFit val vs

last_fits : (val : Value) (vs : List Text) (before : Option Text) (v : Text) → AllFit val vs
    → ((w : Text) → before ≡ Some w → fits_value val w ≡ true) → last_of vs before ≡ Some v → fits_value val v ≡ true
last_fits val [] before v all first e = first v e
last_fits val (x ∷ vs) before v all first e = last_fits val vs (Some x) v all.1
    (λ w is. ap (fits_value val) (ap (λ (q : Option Text). unwrap_or q w) (sym is)) ∙ all.0) e

pub find_holds : (q : Opt → Bool) (os : List Opt) (o : Opt) → find q os ≡ Some o → q o ≡ true
find_holds q [] o e = cc
find_holds q (x ∷ os) o e = go (q x) refl e (find_holds q os o)
  where
    go : (b : Bool) → q x ≡ b → cond b (Some x) (find q os) ≡ Some o → (find q os ≡ Some o → q o ≡ true) → q o ≡ true
    go true is e later = ap q (sym (ap (λ (p : Option Opt). unwrap_or p o) e)) ∙ is
    go false is e later = later e

high_letter : (letter x : ℕ) → nat_lt letter 128 ≡ true → 128 ≤ x → (letter == x) ≡ false
high_letter letter x low high =
    let less : letter < 128 = ltb-true _ _ low in
    ne_eqb _ _ (λ e. omega (arith, e))

module _ (os : List Opt) where
  pub ascii_letters : (rest : List Opt) → EachOpt (IsRow os) rest → (x : ℕ) → 128 ≤ x → by_letter rest x ≡ None
  ascii_letters [] each x high = refl
  ascii_letters (o ∷ rest) each x high = rw (first o.letter each.0.3) (ascii_letters rest each.1 x high)
    where
      first : (l : Option ℕ) → option_map_or (λ letter. nat_lt letter 128) l true ≡ true
          → option_map_or (λ letter. letter == x) l false ≡ false
      first None e = refl
      first (Some letter) e = high_letter letter x e high

  row_id : (o : Opt) → IsRow os o → arg_by_id (rules os) o.name ≡ Some (frule o)
  row_id o row = find_rule _ _ (λ x. refl) row.1 os ∙ ap (option_map frule) row.0

  has_id : (f : Option Opt) → ForSome (IsRow os) f → HasId (rules os) f
  has_id None row = tt
  has_id (Some o) row = row_id o row

  pub letter_ids : EachOpt (IsRow os) os → (x : ℕ) → HasId (rules os) (by_letter os x)
  letter_ids each x = has_id (by_letter os x) (found (IsRow os) _ os each)

  pub name_ids : EachOpt (IsRow os) os → (name : Text) → HasId (rules os) (by_name os name)
  name_ids each name = has_id (by_name os name) (found (IsRow os) _ os each)

module _ (os : List Opt) (each : EachOpt (IsRow os) os) (us : List Use) (uses : EachUse (IsRow os) us) where
  row_alone : (o : Opt) → IsRow os o → Alone os o
  row_alone o row = (
    each_opt (IsRow os) (λ x. bytes_eq x.name o.name ≡ true → x ≡ o)
        (λ x is e. same_row os x o is row e) os each,
    row.1,
  )

  row_named : (o : Opt) → IsRow os o → Named o us
  row_named o row = each_use (IsRow os) (λ x. bytes_eq x.name o.name ≡ true → x ≡ o)
      (λ x is e. same_row os x o is row e) us uses

  flag_for : (o : Opt) (v : Value) → v ≡ Nothing → IsRow os (record o { value = v })
      → Flags (one_of o.name (end_rows os us)) (is_given o.name us)
  flag_for o Nothing e row = flag_is o os us (row_alone (record o { value = Nothing }) row)
      (row_named (record o { value = Nothing }) row)
  flag_for o AnyText e row = cc
  flag_for o (Number low high) e row = cc

  texts_for : (o : Opt) (v : Value) → v ≡ AnyText → IsRow os (record o { value = v })
      → unwrap_or (all_of o.name (end_rows os us)) [] ≡ values_of o.name us
  texts_for o Nothing e row = cc
  texts_for o AnyText e row = texts_are o os us (row_alone (record o { value = AnyText }) row)
      (row_named (record o { value = AnyText }) row)
  texts_for o (Number low high) e row = cc

  number_for : (o : Opt) (v : Value) (low high : ℕ) → v ≡ Number low high → IsRow os (record o { value = v })
      → one_of o.name (end_rows os us) ≡ option_map without_minus (last_value o.name us)
  number_for o Nothing low high e row = cc
  number_for o AnyText low high e row = cc
  number_for o (Number a b) low high e row = number_is o a b os us (row_alone (record o { value = Number a b }) row)
      (row_named (record o { value = Number a b }) row)

  all_fit : (o : Opt) → IsRow os o → (vs : List Use) → EachUse (IsRow os) vs → AllFit o.value (values_of o.name vs)
  all_fit o row [] here = tt
  all_fit o row (Given x v ∷ vs) here = go (bytes_eq x.name o.name) refl (all_fit o row vs here.2)
    where
      go : (b : Bool) → bytes_eq x.name o.name ≡ b → AllFit o.value (values_of o.name vs)
          → AllFit o.value (cond b (v ∷ values_of o.name vs) (values_of o.name vs))
      go true e later = (ap (λ (y : Opt). fits_value y.value v) (sym (same_row os x o here.0 row e)) ∙ here.1, later)
      go false e later = later
  all_fit o row (Operand v ∷ vs) here = all_fit o row vs here

  -- an option of the table by its name
  named_row : (name : Text) (o : Opt) → own os name ≡ Some o → IsRow os o × (o.name ≡ name)
  named_row name o is = (
    subst (ForSome (IsRow os)) is (found (IsRow os) _ os each),
    (bytes_eq-Decides o.name name).0
        (find_holds _ os o is),
  )

  behind_is : (name : Text) (v : Value) → option_map (λ o. o.value) (own os name) ≡ Some v
      → (o : Opt) × IsRow os o × (o.name ≡ name) × (o.value ≡ v)
  behind_is name v e = go (own os name) refl e
    where
      go : (f : Option Opt) → own os name ≡ f → option_map (λ o. o.value) f ≡ Some v → (o : Opt) × IsRow os o
          × (o.name ≡ name) × (o.value ≡ v)
      go None is e = cc
      go (Some o) is e =
          let row = named_row name o is in
          (o, row.0, row.1, ap (λ (q : Option Value). unwrap_or q v) e)

  pub flag_named : (name : Text) → option_map (λ o. o.value) (own os name) ≡ Some Nothing
      → Flags (one_of name (end_rows os us)) (is_given name us)
  flag_named name e =
      let at = behind_is name Nothing e in
      subst (λ (t : Text). Flags (one_of t (end_rows os us)) (is_given t us)) at.2 (flag_for at.0 at.0.value at.3 at.1)

  pub texts_named : (name : Text) → option_map (λ o. o.value) (own os name) ≡ Some AnyText
      → unwrap_or (all_of name (end_rows os us)) [] ≡ values_of name us
  texts_named name e =
      let at = behind_is name AnyText e in
      subst (λ (t : Text). unwrap_or (all_of t (end_rows os us)) [] ≡ values_of t us) at.2
      (texts_for at.0 at.0.value at.3 at.1)

  pub number_named : (name : Text) (low high : ℕ) → option_map (λ o. o.value) (own os name) ≡ Some (Number low high)
      → one_of name (end_rows os us) ≡ option_map without_minus (last_value name us)
  number_named name low high e =
      let at = behind_is name (Number low high) e in
      subst (λ (t : Text). one_of t (end_rows os us) ≡ option_map without_minus (last_value t us)) at.2
      (number_for at.0 at.0.value low high at.3 at.1)

  pub value_fits : (name : Text) (val : Value) → option_map (λ o. o.value) (own os name) ≡ Some val
      → (v : Text) → last_value name us ≡ Some v → fits_value val v ≡ true
  value_fits name val e v last =
      let at = behind_is name val e in
      ap (λ (x : Value). fits_value x v) (sym at.3) ∙ last_fits at.0.value (values_of at.0.name us) None v
      (all_fit at.0 at.1 us uses)
      (λ w is. cc) (ap (λ (t : Text). last_value t us) at.2 ∙ last)

  pub operands_named : unwrap_or (all_of (codes "operands") (end_rows os us)) [] ≡ operands_of us
  operands_named = files_are os us (each_opt (IsRow os) (λ x. bytes_eq x.name (codes "operands") ≡ false)
      (λ x is. is.2) os each)
      (each_use (IsRow os) (λ x. bytes_eq x.name (codes "operands") ≡ false) (λ x is. is.2) us uses)
