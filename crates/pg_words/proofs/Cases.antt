-- The option that says last whether case is ignored.
use Rattle.std.proofs.Common.{◌≡◌, ◌∙◌, ap, refl, sym, true, false, not, ℕ, Bool, List, [], ◌∷◌, ◌++◌, Option}
use Rattle.std.proofs.Common.{Some, None, cond, codes, eqb-true, option_and_then, ◌||◌, ◌&&◌, ◌==◌, map}
use Rattle.std.specs.Prelude.{unwrap_or}
use Rattle.std.specs.List.{after_first, list_all, list_any}
use Rattle.std.specs.Option.{option_map_or}
use Rattle.std.specs.Str.{bytes_eq}
use Rattle.std.proofs.lemmas.Slice.Eq.{bytes_eq-Decides}
use Rattle.clap.specs.Lexer.{has_byte, long_of, long_of_rest, name_and_value, short_of, strip_byte}
use Rattle.clap.specs.Walk.{attached_value}
use Rattle.clap.proofs.LexerLemmas.{name_and_value-without}
use Rattle.clap.proofs.WalkLemmas.{both}
use Rattle.pg_words.specs.Joined.{case_letters, letter, letters, long, long_word, short_word, takes_value, word}
use Rattle.pg_words.specs.Line.{Word, Opt, Use, Given, Operand, Uses, by_letter, by_name, case_after, case_by}
use Rattle.pg_words.specs.Line.{fits_value}
use Rattle.pg_words.specs.Line.{has_value, table, then_uses, valued}
use Rattle.pg_words.proofs.Found.{find_holds}
use Rattle.pg_words.proofs.Joins.{lacks}
use Rattle.pg_words.proofs.Passes.{IsPass, found_passes, some_is}

case_both : (us vs : List Use) (before : Bool) → case_after (us ++ vs) before ≡ case_after vs (case_after us before)
case_both [] vs before = refl
case_both (Given o v ∷ us) vs before = case_both us vs (case_by o.name before)
case_both (Operand v ∷ us) vs before = case_both us vs before

-- ---- what the options of the table say

abbrev same : Bool → Bool → Bool
same true b = b
same false b = not b

same_is : (a b : Bool) → same a b ≡ true → a ≡ b
same_is true b e = sym e
same_is false true e = cc
same_is false false e = refl

-- nothing is said
abbrev is_silent : Word → Bool
is_silent name = case_by name true && same (case_by name false) false

abbrev by_its_letter : Option ℕ → Word → Bool
by_its_letter None name = true
by_its_letter (Some letter) name = case_by name true && same (case_by name false) (letter == 105)

-- a letter says it if it is `i`, and options with a value and those with further names say nothing
abbrev is_told : Opt → Bool
is_told o = by_its_letter o.letter o.name && (cond (has_value o) (is_silent o.name) true
    && list_all (λ other. is_silent other && is_silent o.name) o.others)

all_told : list_all is_told table ≡ true
all_told = refl

silent_is : (name : Word) (b : Bool) → is_silent name ≡ true → case_by name b ≡ b
silent_is name true e = (both (case_by name true) (same (case_by name false) false) e).0
silent_is name false e =
    same_is (case_by name false) false (both (case_by name true) (same (case_by name false) false) e).1

module _ (o : Opt) (told : is_told o ≡ true) where
  parts_told : (by_its_letter o.letter o.name ≡ true)
      × ((cond (has_value o) (is_silent o.name) true
      && list_all (λ other. is_silent other && is_silent o.name) o.others) ≡ true)
  parts_told = both _ _ told

  letter_says : (l : Option ℕ) (x : ℕ) (b : Bool) → by_its_letter l o.name ≡ true
      → option_map_or (λ letter. letter == x) l false ≡ true → case_by o.name b ≡ (b || (x == 105))
  letter_says None x b is e = cc
  letter_says (Some letter) x b is e =
      let parts = both (case_by o.name true) (same (case_by o.name false) (letter == 105)) is in
      go b parts.0 (same_is (case_by o.name false) (letter == 105) parts.1)
    where
      go : (b : Bool) → case_by o.name true ≡ true → case_by o.name false ≡ (letter == 105)
          → case_by o.name b ≡ (b || (x == 105))
      go true on off = on
      go false on off = off ∙ ap (λ (n : ℕ). n == 105) (eqb-true letter x e)

  value_says : (b : Bool) → has_value o ≡ true → case_by o.name b ≡ b
  value_says b has =
      let parts = both _ _ parts_told.1 in
      silent_is o.name b (ap (λ (v : Bool). cond v (is_silent o.name) true) (sym has) ∙ parts.0)

  other_says : (name : Word) (b : Bool) (others : List Word)
      → list_all (λ other. is_silent other && is_silent o.name) others ≡ true
      → list_any (λ other. bytes_eq other name) others ≡ true → case_by o.name b ≡ case_by name b
  other_says name b [] all any = cc
  other_says name b (other ∷ others) all any =
      let parts = both (is_silent other && is_silent o.name) _ all in
      go (bytes_eq other name) refl (both (is_silent other) (is_silent o.name) parts.0) any
      (other_says name b others parts.1)
    where
      go : (e : Bool) → bytes_eq other name ≡ e → (is_silent other ≡ true) × (is_silent o.name ≡ true)
          → (e || list_any (λ x. bytes_eq x name) others) ≡ true
          → (list_any (λ x. bytes_eq x name) others ≡ true → case_by o.name b ≡ case_by name b)
          → case_by o.name b ≡ case_by name b
      go true is silent any later = silent_is o.name b silent.1
          ∙ sym (ap (λ (t : Word). case_by t b) (sym ((bytes_eq-Decides other name).0 is)) ∙ silent_is other b silent.0)
      go false is silent any later = later any

  name_says : (name : Word) (b : Bool)
      → (bytes_eq o.name name || list_any (λ other. bytes_eq other name) o.others) ≡ true
      → case_by o.name b ≡ case_by name b
  name_says name b e = go (bytes_eq o.name name) refl e
    where
      go : (d : Bool) → bytes_eq o.name name ≡ d → (d || list_any (λ other. bytes_eq other name) o.others) ≡ true
          → case_by o.name b ≡ case_by name b
      go true is e = ap (λ (t : Word). case_by t b) ((bytes_eq-Decides o.name name).0 is)
      go false is e = other_says name b o.others (both _ _ parts_told.1).1 e

-- ---- what a word says

valued_says : (o : Opt) (v : Word) (us : List Use) (before : Bool) → is_told o ≡ true → has_value o ≡ true
    → valued o v ≡ Some us → case_after us before ≡ before
valued_says o v us before told has e = go (fits_value o.value v) e
  where
    go : (b : Bool) → cond b (Some (Given o v ∷ [])) None ≡ Some us → case_after us before ≡ before
    go true e = ap (λ (l : List Use). case_after l before) (sym (some_is (Given o v ∷ []) us e))
        ∙ value_says o told before has
    go false e = cc

pub or_false : (b : Bool) → b ≡ (b || false)
or_false true = refl
or_false false = refl

or_or : (a b d : Bool) → ((a || b) || d) ≡ (a || cond b true d)
or_or true b d = refl
or_or false true d = refl
or_or false false d = refl

module _ (x : ℕ) (rest : Word) (us : List Use) (before : Bool) where
  letter_tells : (f : Option Opt) → by_letter table x ≡ f
      → ((vs : List Use) (b : Bool) → letters table rest ≡ Some vs → case_after vs b ≡ (b || case_letters rest))
      → letter f rest (letters table rest) ≡ Some us
      → case_after us before ≡ (before || cond (takes_value f) false (cond (x == 105) true (case_letters rest)))
  letter_tells None is later e = cc
  letter_tells (Some o) is later e =
      let here : Opt → Bool = λ p. option_map_or (λ letter. letter == x) p.letter false in
      go (has_value o) refl (found_passes is_told here table o all_told is) (find_holds here table o is) e
    where
      attached : (v : Option Word) → is_told o ≡ true → has_value o ≡ true → option_and_then (valued o) v ≡ Some us
          → case_after us before ≡ before
      attached None told has e = cc
      attached (Some v) told has e = valued_says o v us before told has e

      flag : (U : Uses) → letters table rest ≡ U → is_told o ≡ true
          → option_map_or (λ letter. letter == x) o.letter false ≡ true
          → then_uses (Some (Given o [] ∷ [])) U ≡ Some us
          → case_after us before ≡ (before || cond (x == 105) true (case_letters rest))
      flag None all told found e = cc
      flag (Some vs) all told found e =
          ap (λ (l : List Use). case_after l before) (sym (some_is (Given o [] ∷ vs) us e))
          ∙ (later vs (case_by o.name before) all
          ∙ (ap (λ (b : Bool). b || case_letters rest)
          (letter_says o told o.letter x before (parts_told o told).0 found)
          ∙ or_or before (x == 105) (case_letters rest)))

      go : (b : Bool) → has_value o ≡ b → is_told o ≡ true
          → option_map_or (λ letter. letter == x) o.letter false ≡ true
          → cond b (option_and_then (valued o) (attached_value rest))
          (then_uses (Some (Given o [] ∷ [])) (letters table rest)) ≡ Some us
          → case_after us before ≡ (before || cond b false (cond (x == 105) true (case_letters rest)))
      go true has told found e = attached (attached_value rest) told has e ∙ or_false before
      go false has told found e = flag (letters table rest) refl told found e

letters_say : (flags : Word) (us : List Use) (before : Bool) → letters table flags ≡ Some us
    → case_after us before ≡ (before || case_letters flags)
letters_say [] us before e =
    ap (λ (l : List Use). case_after l before) (sym (some_is [] us e)) ∙ or_false before
letters_say (x ∷ rest) us before e =
    letter_tells x rest us before (by_letter table x) refl (λ vs b is. letters_say rest vs b is) e

long_says : (f : Option Opt) (name : Word) (v : Option Word) (us : List Use) (before : Bool) → by_name table name ≡ f
    → (v ≡ None → case_by name before ≡ before) → long f v ≡ Some us → case_after us before ≡ before
long_says None name v us before is other e = cc
long_says (Some o) name None us before is other e = go (has_value o) e
  where
    here : Opt → Bool
    here p = bytes_eq p.name name || list_any (λ other. bytes_eq other name) p.others

    go : (b : Bool) → cond b None (Some (Given o [] ∷ [])) ≡ Some us → case_after us before ≡ before
    go true e = cc
    go false e = ap (λ (l : List Use). case_after l before) (sym (some_is (Given o [] ∷ []) us e))
        ∙ (name_says o (found_passes is_told here table o all_told is) name before (find_holds here table o is)
        ∙ other refl)
long_says (Some o) name (Some v) us before is other e = go (has_value o) refl e
  where
    here : Opt → Bool
    here p = bytes_eq p.name name || list_any (λ other. bytes_eq other name) p.others

    go : (b : Bool) → has_value o ≡ b → cond b (valued o v) None ≡ Some us → case_after us before ≡ before
    go true has e = valued_says o v us before (found_passes is_told here table o all_told is) has e
    go false has e = cc

-- a word behind two hyphens
pub long_has : (w : Word) (p : Word × Option Word) → long_of w ≡ Some p → (x : ℕ) × (t : Word) × (w ≡ 45 ∷ 45 ∷ x ∷ t)
    × (p ≡ name_and_value (x ∷ t))
long_has [] p e = cc
long_has (d ∷ w) p e = go w (d == 45) refl e
  where
    go : (w : Word) (b : Bool) → (d == 45) ≡ b
        → option_and_then long_of_rest (option_and_then (strip_byte 45) (cond b (Some w) None)) ≡ Some p
        → (x : ℕ) × (t : Word) × (d ∷ w ≡ 45 ∷ 45 ∷ x ∷ t) × (p ≡ name_and_value (x ∷ t))
    go w false is e = cc
    go [] true is e = cc
    go (y ∷ w) true is e = second w (y == 45) refl e
      where
        second : (w : Word) (b : Bool) → (y == 45) ≡ b → option_and_then long_of_rest (cond b (Some w) None) ≡ Some p
            → (x : ℕ) × (t : Word) × (d ∷ y ∷ w ≡ 45 ∷ 45 ∷ x ∷ t) × (p ≡ name_and_value (x ∷ t))
        second w false too e = cc
        second [] true too e = cc
        second (x ∷ t) true too e = (
          x,
          t,
          ap (λ (n : ℕ). n ∷ y ∷ x ∷ t) (eqb-true d 45 is) ∙ ap (λ (n : ℕ). 45 ∷ n ∷ x ∷ t) (eqb-true y 45 too),
          ap (λ (o : Option (Word × Option Word)). unwrap_or o p) (sym e),
        )

no_value : (t : Word) → (name_and_value t).1 ≡ None → has_byte 61 t ≡ false
no_value t e = go (has_byte 61 t) refl e
  where
    go : (b : Bool) → has_byte 61 t ≡ b → cond b (Some (after_first (λ y. y == 61) t)) None ≡ None
        → has_byte 61 t ≡ false
    go true is e = cc
    go false is e = is

-- a name that is neither
other_name : (t : Word) (before : Bool) → bytes_eq t (codes "ignore-case") ≡ false
    → bytes_eq t (codes "no-ignore-case") ≡ false → case_by t before ≡ before
other_name t before first second = rw (first, second) refl

abbrev pub case_short : Option Word → Bool
case_short None = false
case_short (Some flags) = case_letters flags

module _ (w : Word) (us : List Use) (before : Bool) (on : bytes_eq w (codes "--ignore-case") ≡ false)
    (off : bytes_eq w (codes "--no-ignore-case") ≡ false) where
  long_word_says : (p : Word × Option Word) → long_of w ≡ Some p → long (by_name table p.0) p.1 ≡ Some us
      → case_after us before ≡ (before || case_short (short_of w))
  long_word_says p is e =
      let parts = long_has w p is in
      let x : ℕ = parts.0 in
      let t : Word = parts.1 in
      let looks : w ≡ 45 ∷ 45 ∷ x ∷ t = parts.2 in
      let pair : p ≡ name_and_value (x ∷ t) = parts.3 in
      let no_letters : short_of w ≡ None = ap short_of looks in
      let other : p.1 ≡ None → case_by p.0 before ≡ before = λ none.
      ap (λ (q : Word × Option Word). case_by q.0 before) (pair ∙ name_and_value-without (x ∷ t)
      (lacks (x ∷ t) (no_value (x ∷ t) (ap (λ (q : Word × Option Word). q.1) (sym pair) ∙ none))))
      ∙ other_name (x ∷ t) before
      (ap (λ (l : Word). bytes_eq l (codes "--ignore-case")) (sym looks) ∙ on)
      (ap (λ (l : Word). bytes_eq l (codes "--no-ignore-case")) (sym looks) ∙ off) in
      long_says (by_name table p.0) p.0 p.1 us before refl other e
      ∙ (or_false before ∙ ap (λ (q : Option Word). before || case_short q) (sym no_letters))

  pub word_says : word table w ≡ Some us → case_after us before ≡ (before || case_short (short_of w))
  word_says e = go (long_of w) refl e
    where
      short : (q : Option Word) → short_word table q w ≡ Some us
          → case_after us before ≡ (before || case_short q)
      short None e = ap (λ (l : List Use). case_after l before) (sym (some_is (Operand w ∷ []) us e))
          ∙ or_false before
      short (Some flags) e = letters_say flags us before e

      go : (q : Option (Word × Option Word)) → long_of w ≡ q → long_word table q w ≡ Some us
          → case_after us before ≡ (before || case_short (short_of w))
      go (Some p) is e = long_word_says p is e
      go None is e = short (short_of w) e

-- ---- what words say

operands_silent : (ws : List Word) (before : Bool) → case_after (map Operand ws) before ≡ before
operands_silent [] before = refl
operands_silent (w ∷ ws) before = operands_silent ws before

pub case_passes : IsPass Bool case_after
case_passes = record { both = case_both; operands = operands_silent; nothing = λ before. refl }
