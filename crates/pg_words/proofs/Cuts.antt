-- A joined word, by where its value stands.
use Rattle.std.proofs.Common.{◌≡◌, ◌∙◌, ap, refl, sym, true, false, not, ℕ, Bool, List, [], ◌∷◌, ◌++◌, Option}
use Rattle.std.proofs.Common.{Some, None}
use Rattle.std.proofs.Common.{option_map, is_some, cond, ◌==◌, ◌+◌, ◌≤◌, ◌<◌, length, take, drop, arith}
use Rattle.std.proofs.Common.{option_and_then, ne_eqb}
use Rattle.std.proofs.Common.{suc, get_or}
use Rattle.std.proofs.lemmas.List.Recursion.{is_position_or_len}
use Rattle.pg_words.proofs.Ours.{ascii_letter}
use Rattle.std.proofs.Common.{append_assoc, eqb-true}
use Rattle.std.specs.Prelude.{slice_index}
use Rattle.std.specs.List.{position_or_len}
use Rattle.std.specs.Option.{option_map_or}
use Rattle.clap.specs.Lexer.{has_byte, long_of, long_of_rest, short_of, name_and_value}
use Rattle.clap.specs.Walk.{attached_value}
use Rattle.clap.proofs.LexerLemmas.{name_and_value-without}
use Rattle.pg_words.specs.Line.{Word, Opt, by_letter, by_name, is_mark, table}
use Rattle.pg_words.specs.Joined.{behind_text, Free, joined_from, joined_letters, joined_short, joined_word}
use Rattle.pg_words.specs.Joined.{letter_takes_value}
use Rattle.pg_words.specs.Joined.{letters_cut, letters_wait, long_or_short_cut, long_waits, Rest, short_cut}
use Rattle.pg_words.specs.Joined.{short_waits}
use Rattle.pg_words.specs.Joined.{takes_value, value_cut, ValueOf, waits}
use Rattle.std.specs.Borrow.{Bor}
use Rattle.pg_words.specs.Places.{next_word_of}
use Rattle.pg_words.specs.declared.split.Place.{Place as CodePlace}
use Rattle.pg_words.specs.declared.split.Place.TheVariants as code
use Rattle.pg_words.proofs.Joins.{lacks}
use Rattle.pg_words.proofs.Walks.{short_has}

-- a word whose value stands there
abbrev pub by_cut : Option (Word × Word) → Word → Word → Word
by_cut None w v = w
by_cut (Some cut) w v = cut.0 ++ behind_text cut.1 (61 ∷ v)

abbrev pub cut_waits : Option (Word × Word) → Bool
cut_waits None = false
cut_waits (Some cut) = length cut.1 == 0

module _ (os : List Opt) where
  letters_by_cut : (flags v : Word) → joined_letters os flags (61 ∷ v) ≡ by_cut (letters_cut os flags) flags v
  letters_by_cut [] v = refl
  letters_by_cut (x ∷ rest) v = go (takes_value (by_letter os x)) (letters_cut os rest) (letters_by_cut rest v)
    where
      go : (b : Bool) (q : Option (Word × Word)) → joined_letters os rest (61 ∷ v) ≡ by_cut q rest v
          → x ∷ cond b (behind_text rest (61 ∷ v)) (joined_letters os rest (61 ∷ v))
          ≡ by_cut (cond b (Some (x ∷ [], rest)) (option_map (λ cut. (x ∷ cut.0, cut.1)) q)) (x ∷ rest) v
      go true q later = refl
      go false None later = ap (λ (t : Word). x ∷ t) later
      go false (Some cut) later = ap (λ (t : Word). x ∷ t) later

  attached_or_not : (rest : Word) → not (is_some (attached_value rest)) ≡ (length rest == 0)
  attached_or_not [] = refl
  attached_or_not (y ∷ ys) = go (y == 61) ∙ sym (ne_eqb _ _ (λ e. omega (arith, e)))
    where
      go : (b : Bool) → not (is_some (option_map_or (λ v. Some v) (cond b (Some ys) None) (Some (y ∷ ys)))) ≡ false
      go true = refl
      go false = refl

  letters_wait_by_cut : (flags : Word) → letters_wait os flags ≡ cut_waits (letters_cut os flags)
  letters_wait_by_cut [] = refl
  letters_wait_by_cut (x ∷ rest) = go (takes_value (by_letter os x)) (letters_cut os rest) (letters_wait_by_cut rest)
    where
      go : (b : Bool) (q : Option (Word × Word)) → letters_wait os rest ≡ cut_waits q
          → cond b (not (is_some (attached_value rest))) (letters_wait os rest)
          ≡ cut_waits (cond b (Some (x ∷ [], rest)) (option_map (λ cut. (x ∷ cut.0, cut.1)) q))
      go true q later = attached_or_not rest
      go false None later = later
      go false (Some cut) later = later

  hyphen_first : (flags v : Word) → 45 ∷ joined_letters os flags (61 ∷ v)
      ≡ by_cut (option_map (λ cut. (45 ∷ cut.0, cut.1)) (letters_cut os flags)) (45 ∷ flags) v
  hyphen_first flags v = go (letters_cut os flags) (letters_by_cut flags v)
    where
      go : (q : Option (Word × Word)) → joined_letters os flags (61 ∷ v) ≡ by_cut q flags v
          → 45 ∷ joined_letters os flags (61 ∷ v) ≡ by_cut (option_map (λ cut. (45 ∷ cut.0, cut.1)) q) (45 ∷ flags) v
      go None later = ap (λ (t : Word). 45 ∷ t) later
      go (Some cut) later = ap (λ (t : Word). 45 ∷ t) later

  short_by_cut : (w v : Word) (q : Option Word) → short_of w ≡ q → joined_short os q w (61 ∷ v)
      ≡ by_cut (short_cut os q) w v
  short_by_cut w v None is = refl
  short_by_cut w v (Some flags) is =
      let parts = short_has w flags is in
      let same : w ≡ 45 ∷ flags = parts.3 ∙ ap (λ (t : Word). 45 ∷ t) (sym parts.2) in
      hyphen_first flags v ∙ ap (λ (t : Word). by_cut (short_cut os (Some flags)) t v) (sym same)

  pub joined_by_cut : (w v : Word) → joined_word os w v ≡ by_cut (value_cut os w) w v
  joined_by_cut w v = go (long_of w)
    where
      long : (b : Bool) → cond b (w ++ 61 ∷ v) w ≡ by_cut (cond b (Some (w, [])) None) w v
      long true = refl
      long false = refl

      go : (q : Option (Word × Option Word)) → Rattle.pg_words.specs.Joined.joined_long os q w (61 ∷ v)
          ≡ by_cut (long_or_short_cut os q w) w v
      go (Some p) = long (long_waits (by_name os p.0) p.1)
      go None = short_by_cut w v (short_of w) refl

  short_waits_by_cut : (q : Option Word) → short_waits os q ≡ cut_waits (short_cut os q)
  short_waits_by_cut None = refl
  short_waits_by_cut (Some flags) = letters_wait_by_cut flags ∙ go (letters_cut os flags)
    where
      go : (c : Option (Word × Word)) → cut_waits c ≡ cut_waits (option_map (λ cut. (45 ∷ cut.0, cut.1)) c)
      go None = refl
      go (Some cut) = refl

  pub waits_by_cut : (w : Word) → waits os w ≡ cut_waits (value_cut os w)
  waits_by_cut w = go (long_of w)
    where
      long : (b : Bool) → b ≡ cut_waits (cond b (Some (w, [])) None)
      long true = refl
      long false = refl

      go : (q : Option (Word × Option Word)) → Rattle.pg_words.specs.Joined.long_or_short_waits os q w
          ≡ cut_waits (long_or_short_cut os q w)
      go (Some p) = long (long_waits (by_name os p.0) p.1)
      go None = short_waits_by_cut (short_of w)

-- the same, as the code has it
pub joined_cut : (w v text : Word) (q : Option (Word × Word)) → q ≡ value_cut table w → text ≡ by_cut q w v → text
    ≡ joined_word table w v
joined_cut w v text q is same = same ∙ (ap (λ (c : Option (Word × Word)). by_cut c w v) is
    ∙ sym (joined_by_cut table w v))

pub waiting_cut : (w : Word) (q : Option (Word × Word)) (b : Bool) → q ≡ value_cut table w → b ≡ cut_waits q → b
    ≡ waits table w
waiting_cut w q b is same = same ∙ (ap cut_waits is ∙ sym (waits_by_cut table w))

-- the first letter with a value, and the end where there is none
abbrev pub first_at : Word → ℕ
first_at [] = 0
first_at (x ∷ rest) = cond (letter_takes_value x) 0 (1 + first_at rest)

pub first_is : (flags : Word) → first_at flags ≡ position_or_len letter_takes_value flags
first_is flags = is_position_or_len first_at letter_takes_value refl (λ x xs. refl) flags

-- and it is ASCII
letter_first : (w : Word) → first_at w < length w → get_or w (first_at w) 0 < 128
letter_first [] less = absurd (omega (arith, less))
letter_first (x ∷ rest) less = go (letter_takes_value x) refl less (letter_first rest)
  where
    go : (b : Bool) → letter_takes_value x ≡ b → cond b 0 (1 + first_at rest) < length (x ∷ rest)
        → (first_at rest < length rest → get_or rest (first_at rest) 0 < 128)
        → get_or (x ∷ rest) (cond b 0 (1 + first_at rest)) 0 < 128
    go true is less later = ascii_letter x is
    go false is less later =
        let e : 1 + first_at rest ≡ suc (first_at rest) = omega arith in
        rw e (later (omega (arith, less)))

pub letter_before : (w : Word) (n : ℕ) → n ≡ position_or_len letter_takes_value w → n < length w → get_or w n 0 < 128
letter_before w n is less =
    let same : n ≡ first_at w = is ∙ sym (first_is w) in
    rw same (letter_first w (omega (arith, same, less)))

-- where the letters are cut
cut_here : (flags : Word) → first_at flags < length flags → letters_cut table flags
    ≡ Some (take (suc (first_at flags)) flags, drop (suc (first_at flags)) flags)
cut_here [] less = absurd (omega (arith, less))
cut_here (x ∷ rest) less = go (letter_takes_value x) less (cut_here rest)
  where
    go : (b : Bool) → cond b 0 (1 + first_at rest) < length (x ∷ rest)
        → (first_at rest < length rest → letters_cut table rest
        ≡ Some (take (suc (first_at rest)) rest, drop (suc (first_at rest)) rest))
        → cond {A = Option (Word × Word)} b (Some (x ∷ [], rest))
        (option_map (λ cut. (x ∷ cut.0, cut.1)) (letters_cut table rest))
        ≡ Some (
          take (suc (cond b 0 (1 + first_at rest))) (x ∷ rest),
          drop (suc (cond b 0 (1 + first_at rest)))
              (x ∷ rest),
        )
    go true less later = refl
    go false less later =
        let e : 1 + first_at rest ≡ suc (first_at rest) = omega arith in
        rw e (ap (option_map (λ (cut : Word × Word). (x ∷ cut.0, cut.1))) (later (omega (arith, less))))

cut_nowhere : (flags : Word) → length flags ≤ first_at flags → letters_cut table flags ≡ None
cut_nowhere [] more = refl
cut_nowhere (x ∷ rest) more = go (letter_takes_value x) more (cut_nowhere rest)
  where
    go : (b : Bool) → length (x ∷ rest) ≤ cond b 0 (1 + first_at rest)
        → (length rest ≤ first_at rest → letters_cut table rest ≡ None)
        → cond {A = Option (Word × Word)} b (Some (x ∷ [], rest))
        (option_map (λ cut. (x ∷ cut.0, cut.1)) (letters_cut table rest)) ≡ None
    go true more later = absurd (omega (arith, more))
    go false more later = ap (option_map (λ (cut : Word × Word). (x ∷ cut.0, cut.1))) (later (omega (arith, more)))

letters_word_cut : (x : ℕ) (t : Word) → (x == 45) ≡ false
    → value_cut table (45 ∷ x ∷ t) ≡ option_map (λ cut. (45 ∷ cut.0, cut.1)) (letters_cut table (x ∷ t))
letters_word_cut x t e = ap (λ (b : Bool). long_or_short_cut table
    (option_and_then long_of_rest (cond b (Some t) None)) (45 ∷ x ∷ t)) e
    ∙ ap (λ (b : Bool). short_cut table (cond b None (Some (x ∷ t)))) e

-- a word behind one hyphen, cut behind its first letter with a value
cut_word : (w : Word) → slice_index w 0 ≡ 45 → (slice_index w 1 == 45) ≡ false → first_at w < length w
    → Some (take (suc (first_at w)) w, drop (suc (first_at w)) w) ≡ value_cut table w
cut_word [] hyphen single less = cc
cut_word (d ∷ []) hyphen single less = absurd (omega (arith, less, one_letter d hyphen))
  where
    one_letter : (n : ℕ) → n ≡ 45 → first_at (n ∷ []) ≡ 1
    one_letter n e = rw e refl
cut_word (d ∷ x ∷ t) hyphen single less =
    let at : first_at (d ∷ x ∷ t) ≡ suc (first_at (x ∷ t)) = rw hyphen (omega arith) in
    let within : first_at (x ∷ t) < length (x ∷ t) = omega (arith, less, at) in
    rw (at, hyphen) (sym (letters_word_cut x t single
    ∙ ap (option_map (λ (cut : Word × Word). (45 ∷ cut.0, cut.1))) (cut_here (x ∷ t) within)))

whole_word : (w : Word) → slice_index w 0 ≡ 45 → (slice_index w 1 == 45) ≡ false → length w ≤ first_at w → None
    ≡ value_cut table w
whole_word [] hyphen single more = cc
whole_word (d ∷ []) hyphen single more = rw hyphen refl
whole_word (d ∷ x ∷ t) hyphen single more =
    let at : first_at (d ∷ x ∷ t) ≡ suc (first_at (x ∷ t)) = rw hyphen (omega arith) in
    let past : length (x ∷ t) ≤ first_at (x ∷ t) = omega (arith, more, at) in
    rw hyphen (sym (letters_word_cut x t single
    ∙ ap (option_map (λ (cut : Word × Word). (45 ∷ cut.0, cut.1))) (cut_nowhere (x ∷ t) past)))

pub letter_cut_is : (w : Word) (start : ℕ) → slice_index w 0 ≡ 45 → (slice_index w 1 == 45) ≡ false
    → start ≡ position_or_len letter_takes_value w + 1 → start ≤ length w → Some (take start w, drop start w)
    ≡ value_cut table w
letter_cut_is w start hyphen single is less =
    let same : start ≡ suc (first_at w) = omega (arith, is, first_is w) in
    rw same (cut_word w hyphen single (omega (arith, same, less)))

pub letter_cut_none : (w : Word) (start : ℕ) → slice_index w 0 ≡ 45 → (slice_index w 1 == 45) ≡ false
    → start ≡ position_or_len letter_takes_value w + 1 → length w < start → None ≡ value_cut table w
letter_cut_none w start hyphen single is more = whole_word w hyphen single (omega (arith, is, more, first_is w))

-- a long name
abbrev long_cut : Word → Word → Option (Word × Word)
long_cut t w = cond (long_waits (by_name table (name_and_value t).0) (name_and_value t).1) (Some (w, [])) None

long_name : (t w : Word) → has_byte 61 t ≡ false → long_cut t w
    ≡ cond (takes_value (by_name table t)) (Some (w, [])) None
long_name t w none = ap (λ (p : Word × Option Word). cond (long_waits (by_name table p.0) p.1) (Some (w, [])) None)
    (name_and_value-without t (lacks t none))

long_pair : (t w : Word) → has_byte 61 t ≡ true → long_cut t w ≡ None
long_pair t w some = rw some refl

pub long_cut_is : (w : Word) → slice_index w 0 ≡ 45 → slice_index w 1 ≡ 45 → has_byte 61 (drop 2 w) ≡ false
    → takes_value (by_name table (drop 2 w)) ≡ true → Some (w, []) ≡ value_cut table w
long_cut_is [] first second none valued = cc
long_cut_is (d ∷ []) first second none valued = cc
long_cut_is (d ∷ x ∷ []) first second none valued = cc
long_cut_is (d ∷ x ∷ y ∷ t) first second none valued =
    sym (rw (first, second) (long_name (y ∷ t) (45 ∷ 45 ∷ y ∷ t) none
    ∙ ap (λ (b : Bool). cond b (Some (45 ∷ 45 ∷ y ∷ t, [])) None) valued))

pub long_cut_none : (w : Word) → slice_index w 0 ≡ 45 → slice_index w 1 ≡ 45 → has_byte 61 (drop 2 w) ≡ false
    → takes_value (by_name table (drop 2 w)) ≡ false → None ≡ value_cut table w
long_cut_none [] first second none valued = cc
long_cut_none (d ∷ []) first second none valued = cc
long_cut_none (d ∷ x ∷ []) first second none valued = rw (first, second) refl
long_cut_none (d ∷ x ∷ y ∷ t) first second none valued =
    sym (rw (first, second) (long_name (y ∷ t) (45 ∷ 45 ∷ y ∷ t) none
    ∙ ap (λ (b : Bool). cond b (Some (45 ∷ 45 ∷ y ∷ t, [])) None) valued))

pub long_cut_pair : (w : Word) → slice_index w 0 ≡ 45 → slice_index w 1 ≡ 45 → has_byte 61 (drop 2 w) ≡ true → None
    ≡ value_cut table w
long_cut_pair [] first second some = cc
long_cut_pair (d ∷ []) first second some = cc
long_cut_pair (d ∷ x ∷ []) first second some = cc
long_cut_pair (d ∷ x ∷ y ∷ t) first second some = sym (rw (first, second) (long_pair (y ∷ t) (45 ∷ 45 ∷ y ∷ t) some))

-- ---- one word more

module _ (before after rest : List Word) (w : Word) where
  pub step_rest : after ≡ before ++ w ∷ [] → after ++ joined_from table Rest rest ≡ before
      ++ joined_from table Rest (w ∷ rest)
  unfolding joined_from
  step_rest is = rw (is, append_assoc) refl

  pub step_mark : is_mark w ≡ true → after ≡ before ++ w ∷ [] → after ++ joined_from table Rest rest ≡ before
      ++ joined_from table Free (w ∷ rest)
  unfolding joined_from
  step_mark mark is = rw (is, append_assoc, mark) refl

  pub step_wait : is_mark w ≡ false → waits table w ≡ true → joined_from table (ValueOf w) rest
      ≡ joined_from table Free (w ∷ rest)
  unfolding joined_from
  step_wait mark wait = rw (mark, wait) refl

  pub step_free : is_mark w ≡ false → waits table w ≡ false → after ≡ before ++ joined_word table w [] ∷ []
      → after ++ joined_from table Free rest ≡ before ++ joined_from table Free (w ∷ rest)
  unfolding joined_from
  step_free mark wait is = rw (is, append_assoc, mark, wait) refl

  pub step_value : (o : Word) → after ≡ before ++ joined_word table o w ∷ []
      → after ++ joined_from table Free rest ≡ before ++ joined_from table (ValueOf o) (w ∷ rest)
  unfolding joined_from
  step_value o is = rw (is, append_assoc) refl

pub last_free : joined_from table Free [] ≡ []
unfolding joined_from
last_free = refl

pub last_rest : joined_from table Rest [] ≡ []
unfolding joined_from
last_rest = refl

pub last_value : (o : Word) → joined_from table (ValueOf o) [] ≡ o ∷ []
unfolding joined_from
last_value o = refl

pub last_other : (place : CodePlace) → ((x : Bor Word) → place ≡ code.Value x → ⊥)
    → joined_from table (next_word_of place) [] ≡ []
unfolding joined_from
last_other code.Free other = refl
last_other (code.Value x) other = absurd (other x refl)
last_other code.Operand other = refl

-- ---- the text behind an option

pub behind_empty : (inner tail : Word) → (length inner == 0) ≡ true → behind_text inner tail ≡ tail
behind_empty [] tail e = refl
behind_empty (y ∷ ys) tail e = let none : length (y ∷ ys) ≡ 0 = eqb-true _ _ e in absurd (omega (arith, none))

pub behind_some : (inner tail : Word) → (length inner == 0) ≡ false → behind_text inner tail ≡ 61 ∷ inner
behind_some [] tail e = cc
behind_some (y ∷ ys) tail e = refl
