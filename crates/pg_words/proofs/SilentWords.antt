-- Words with options that a pass over words doesn't heed.
use Rattle.std.proofs.Common.{◌≡◌, ◌∙◌, ap, arith, drop, refl, sym, suc, true, false, ℕ, Bool, List, [], ◌∷◌, ◌++◌}
use Rattle.std.proofs.Common.{Option, Some, None, cond, option_and_then, ◌||◌, ◌&&◌, ◌==◌}
use Rattle.std.specs.Prelude.{slice_index}
use Rattle.std.specs.List.{list_all, list_any}
use Rattle.std.specs.Option.{option_map_or}
use Rattle.std.specs.Str.{bytes_eq}
use Rattle.std.proofs.lemmas.Slice.Eq.{bytes_eq-Decides}
use Rattle.clap.specs.Lexer.{long_of, name_and_value, short_of}
use Rattle.clap.specs.Walk.{attached_value}
use Rattle.clap.proofs.CutLemmas.{Lacks}
use Rattle.clap.proofs.LexerLemmas.{name_and_value-at, name_and_value-without}
use Rattle.clap.proofs.WalkLemmas.{both}
use Rattle.pg_words.specs.Joined.{letter, letters, long, long_word, short_word, word}
use Rattle.pg_words.specs.Line.{Word, Opt, Use, Given, Operand, Uses, by_letter, by_name, fits_value, has_value, table}
use Rattle.pg_words.specs.Line.{then_uses, valued}
use Rattle.pg_words.proofs.Cases.{long_has}
use Rattle.pg_words.proofs.Found.{find_holds}
use Rattle.pg_words.proofs.Passes.{IsPass, found_passes, some_is}

-- no letter and no further name
abbrev pub has_one_name : Option ℕ → List Word → Bool
has_one_name None [] = true
has_one_name None (other ∷ others) = false
has_one_name (Some letter) others = false

several : (l : Option ℕ) (other : Word) (others : List Word) → has_one_name l (other ∷ others) ≡ false
several None other others = refl
several (Some letter) other others = refl

-- the option isn't heeded by any name, or has one name alone
abbrev pub is_told : (Word → Bool) → Opt → Bool
is_told is_silent o = (is_silent o.name && list_all is_silent o.others) || has_one_name o.letter o.others

-- a pass that heeds options by their names, and not those of silent names
pub record IsHeeded (A : Type 0) (after : List Use → A → A) (by : Word → Word → A → A) (is_silent : Word → Bool)
    : Type 0 where
  pub pass : IsPass A after
  pub given : (o : Opt) (v : Word) (before : A) → after (Given o v ∷ []) before ≡ by o.name v before
  pub silent : (name v : Word) (before : A) → is_silent name ≡ true → by name v before ≡ before
  pub told : list_all (is_told is_silent) table ≡ true

module _ {A : Type 0} {after : List Use → A → A} {by : Word → Word → A → A} {is_silent : Word → Bool}
    (heeded : IsHeeded A after by is_silent) (before : A) where
  none_told : (us : List Use) → Some [] ≡ Some us → after us before ≡ before
  none_told us e = ap (λ (l : List Use). after l before) (sym (some_is [] us e)) ∙ heeded.pass.nothing before

  one_told : (o : Opt) (v : Word) (us : List Use) → Some (Given o v ∷ []) ≡ Some us → by o.name v before ≡ before
      → after us before ≡ before
  one_told o v us e silent =
      ap (λ (l : List Use). after l before) (sym (some_is (Given o v ∷ []) us e))
      ∙ (heeded.given o v before ∙ silent)

  valued_told : (o : Opt) (v : Word) (us : List Use) → valued o v ≡ Some us → by o.name v before ≡ before
      → after us before ≡ before
  valued_told o v us e silent = go (fits_value o.value v) e
    where
      go : (b : Bool) → cond b (Some (Given o v ∷ [])) None ≡ Some us → after us before ≡ before
      go true e = one_told o v us e silent
      go false e = cc

  module _ (o : Opt) (told : is_told is_silent o ≡ true) where
    letter_told : (x : ℕ) (v : Word) → option_map_or (λ letter. letter == x) o.letter false ≡ true
        → by o.name v before ≡ before
    letter_told x v found = heeded.silent o.name v before (both (is_silent o.name) (list_all is_silent o.others)
        (go o.letter (is_silent o.name && list_all is_silent o.others) told found)).0
      where
        go : (l : Option ℕ) (a : Bool) → (a || has_one_name l o.others) ≡ true
            → option_map_or (λ letter. letter == x) l false ≡ true → a ≡ true
        go None a e found = cc
        go (Some letter) true e found = refl
        go (Some letter) false e found = cc

    -- an option with further names isn't heeded
    others_told : (l : Option ℕ) (others : List Word) (name : Word)
        → ((is_silent o.name && list_all is_silent others) || has_one_name l others) ≡ true
        → list_any (λ other. bytes_eq other name) others ≡ true
        → (is_silent o.name && list_all is_silent others) ≡ true
    others_told l [] name e any = cc
    others_told l (other ∷ others) name e any =
        go (is_silent o.name && list_all is_silent (other ∷ others))
        (ap (λ b. (is_silent o.name && list_all is_silent (other ∷ others)) || b) (sym (several l other others)) ∙ e)
      where
        go : (a : Bool) → (a || false) ≡ true → a ≡ true
        go true e = refl
        go false e = cc

    -- an option that is found by a silent name
    name_told : (name v : Word) → (bytes_eq o.name name || list_any (λ other. bytes_eq other name) o.others) ≡ true
        → is_silent name ≡ true → by o.name v before ≡ before
    name_told name v e silent = go (bytes_eq o.name name) refl e
      where
        go : (d : Bool) → bytes_eq o.name name ≡ d → (d || list_any (λ other. bytes_eq other name) o.others) ≡ true
            → by o.name v before ≡ before
        go true is e = heeded.silent o.name v before
            (ap is_silent ((bytes_eq-Decides o.name name).0 is) ∙ silent)
        go false is e = heeded.silent o.name v before
            (both (is_silent o.name) (list_all is_silent o.others) (others_told o.letter o.others name told e)).0

  long_told : (f : Option Opt) (name : Word) (v : Option Word) (us : List Use) → by_name table name ≡ f
      → is_silent name ≡ true → long f v ≡ Some us → after us before ≡ before
  long_told None name v us is silent e = cc
  long_told (Some o) name v us is silent e = go v (has_value o) e
    where
      here : Opt → Bool
      here p = bytes_eq p.name name || list_any (λ other. bytes_eq other name) p.others

      says : (t : Word) → by o.name t before ≡ before
      says t = name_told o (found_passes (is_told is_silent) here table o heeded.told is) name t
          (find_holds here table o is) silent

      go : (v : Option Word) (b : Bool)
          → elim v [ None ↦ cond b None (Some (Given o [] ∷ [])) | Some t ↦ cond b (valued o t) None ] ≡ Some us
          → after us before ≡ before
      go None true e = cc
      go None false e = one_told o [] us e (says [])
      go (Some t) true e = valued_told o t us e (says t)
      go (Some t) false e = cc

module _ {A : Type 0} {after : List Use → A → A} {by : Word → Word → A → A} {is_silent : Word → Bool}
    (heeded : IsHeeded A after by is_silent) where
  module _ (x : ℕ) (rest : Word) (us : List Use) (before : A) where
    letter_silent : (f : Option Opt) → by_letter table x ≡ f
        → ((vs : List Use) (b : A) → letters table rest ≡ Some vs → after vs b ≡ b)
        → letter f rest (letters table rest) ≡ Some us → after us before ≡ before
    letter_silent None is later e = cc
    letter_silent (Some o) is later e =
        let here : Opt → Bool = λ p. option_map_or (λ letter. letter == x) p.letter false in
        go (has_value o) (λ v. letter_told heeded before o
        (found_passes (is_told is_silent) here table o heeded.told is) x v (find_holds here table o is)) e
      where
        attached : (v : Option Word) → ((v : Word) → by o.name v before ≡ before)
            → option_and_then (valued o) v ≡ Some us → after us before ≡ before
        attached None silent e = cc
        attached (Some v) silent e = valued_told heeded before o v us e (silent v)

        flag : (U : Uses) → letters table rest ≡ U → by o.name [] before ≡ before
            → then_uses (Some (Given o [] ∷ [])) U ≡ Some us → after us before ≡ before
        flag None all silent e = cc
        flag (Some vs) all silent e =
            ap (λ (l : List Use). after l before) (sym (some_is (Given o [] ∷ vs) us e))
            ∙ (heeded.pass.both (Given o [] ∷ []) vs before
            ∙ (ap (after vs) (heeded.given o [] before ∙ silent) ∙ later vs before all))

        go : (b : Bool) → ((v : Word) → by o.name v before ≡ before)
            → cond b (option_and_then (valued o) (attached_value rest))
            (then_uses (Some (Given o [] ∷ [])) (letters table rest)) ≡ Some us
            → after us before ≡ before
        go true silent e = attached (attached_value rest) silent e
        go false silent e = flag (letters table rest) refl (silent []) e

  letters_silent : (flags : Word) (us : List Use) (before : A) → letters table flags ≡ Some us
      → after us before ≡ before
  letters_silent [] us before e = none_told heeded before us e
  letters_silent (x ∷ rest) us before e =
      letter_silent x rest us before (by_letter table x) refl (λ vs b is. letters_silent rest vs b is) e

  -- a word that gives no option of a heeded name
  pub word_silent : (w : Word) (us : List Use) (before : A)
      → ((p : Word × Option Word) → long_of w ≡ Some p → long (by_name table p.0) p.1 ≡ Some us
      → is_silent p.0 ≡ true)
      → word table w ≡ Some us → after us before ≡ before
  word_silent w us before silent e = go (long_of w) refl e
    where
      short : (q : Option Word) → short_word table q w ≡ Some us → after us before ≡ before
      short None e = ap (λ (l : List Use). after l before) (sym (some_is (Operand w ∷ []) us e))
          ∙ heeded.pass.operands (w ∷ []) before
      short (Some flags) e = letters_silent flags us before e

      go : (q : Option (Word × Option Word)) → long_of w ≡ q → long_word table q w ≡ Some us
          → after us before ≡ before
      go None is e = short (short_of w) e
      go (Some p) is e =
          long_told heeded before (by_name table p.0) p.0 p.1 us refl (silent p is e) e

-- ---- names in words

-- a long name without `=`
pub named_alone : (w : Word) (p : Word × Option Word) → Lacks 61 w → long_of w ≡ Some p
    → (n : Word) × (w ≡ 45 ∷ 45 ∷ n) × (p ≡ (n, None))
named_alone w p lacks is =
    let parts = long_has w p is in
    let x : ℕ = parts.0 in
    let t : Word = parts.1 in
    let looks : w ≡ 45 ∷ 45 ∷ x ∷ t = parts.2 in
    let pair : p ≡ name_and_value (x ∷ t) = parts.3 in (
      x ∷ t,
      looks,
      pair ∙ name_and_value-without (x ∷ t) (λ i less. rw looks at lacks (suc (suc i)) (omega (arith, less))),
    )

-- a long name, and what stands behind its first `=`
pub named_at : (t v : Word) (p : Word × Option Word) → Lacks 61 t → long_of (t ++ 61 ∷ v) ≡ Some p
    → (n : Word) × (t ≡ 45 ∷ 45 ∷ n) × (p ≡ (n, Some v))
named_at [] v p lacks is = cc
named_at (d ∷ []) v p lacks is =
    let parts = long_has (d ∷ 61 ∷ v) p is in
    let second : 61 ≡ 45 = ap (λ (l : Word). slice_index l 1) parts.2 in
    absurd (omega (arith, second))
named_at (d ∷ y ∷ n) v p lacks is =
    let parts = long_has (d ∷ y ∷ (n ++ 61 ∷ v)) p is in
    let first : d ≡ 45 = ap (λ (l : Word). slice_index l 0) parts.2 in
    let second : y ≡ 45 = ap (λ (l : Word). slice_index l 1) parts.2 in
    let rest : n ++ 61 ∷ v ≡ parts.0 ∷ parts.1 = ap (λ (l : Word). drop 2 l) parts.2 in (
      n,
      ap (λ (a : ℕ). a ∷ y ∷ n) first ∙ ap (λ (a : ℕ). 45 ∷ a ∷ n) second,
      parts.3 ∙ (ap name_and_value (sym rest)
          ∙ name_and_value-at n v (λ i less. lacks (suc (suc i)) (omega (arith, less)))),
    )

-- a name that is refused without a value, or with this one
pub refused_as : (n name : Word) (v : Option Word) (us : List Use) → bytes_eq n name ≡ true
    → long (by_name table n) v ≡ Some us → long (by_name table name) v ≡ None → ⊥
refused_as n name v us is asks refused =
    let same : n ≡ name = (bytes_eq-Decides n name).0 is in
    let both_ways : None ≡ Some us = sym refused ∙ (ap (λ (t : Word). long (by_name table t) v) (sym same) ∙ asks) in
    cc
