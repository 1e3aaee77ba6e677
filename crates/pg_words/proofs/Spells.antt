-- Words that are spelled out, step by step.
use Rattle.std.proofs.Common.{◌≡◌, ◌∙◌, ap, refl, sym, true, false, true≢false, ℕ, Bool, List, [], ◌∷◌, ◌++◌, ◌<◌, ◌≤◌}
use Rattle.std.proofs.Common.{◌||◌, ◌==◌, ◌⊎◌, inl, inr, append_assoc, arith, cond, eqb-true, leb-true, nat_le}
use Rattle.std.proofs.Common.{length, ◌+◌, add-one, drop, drop-cons, get_or, append-nil, map, String}
use Rattle.std.proofs.Common.{Global}
use Rattle.std.specs.String.{string_bytes}
use Rattle.std.proofs.lemmas.List.{drop_all}
use Rattle.std.specs.Char.{is_ascii_digit}
use Rattle.clap.proofs.WalkLemmas.{both}
use Rattle.pg_words.specs.Joined.{NextWord, Free, Rest, ValueOf, waits}
use Rattle.pg_words.specs.Line.{Word, by_letter, is_mark, table}
use Rattle.pg_words.specs.Spelled.{full_word, is_flag, letter_words, newer_letter}
use Rattle.pg_words.specs.Spelled.{place_behind}
use Rattle.pg_words.specs.Spelled.{spelled_from, spelled_word}
use Rattle.pg_words.proofs.Found.{ascii_letters}
use Rattle.pg_words.proofs.Ours.{all_rows}
use Rattle.pg_words.proofs.Walks.{lt_or_le}

-- ---- one word more

module _ (before after rest : List Word) (w : Word) where
  pub spell_value : (o : Word) → after ≡ before ++ w ∷ []
      → after ++ spelled_from table Free rest ≡ before ++ spelled_from table (ValueOf o) (w ∷ rest)
  unfolding spelled_from
  spell_value o is = rw (is, append_assoc) refl

  pub spell_rest : after ≡ before ++ w ∷ []
      → after ++ spelled_from table Rest rest ≡ before ++ spelled_from table Rest (w ∷ rest)
  unfolding spelled_from
  spell_rest is = rw (is, append_assoc) refl

  pub spell_mark : is_mark w ≡ true → after ≡ before ++ w ∷ []
      → after ++ spelled_from table Rest rest ≡ before ++ spelled_from table Free (w ∷ rest)
  unfolding spelled_from
  spell_mark mark is = rw (is, append_assoc, mark) refl

  pub spell_free : (next : NextWord) → is_mark w ≡ false
      → (next ≡ place_behind table w) × (after ≡ before ++ spelled_word table (full_word table w))
      → after ++ spelled_from table next rest ≡ before ++ spelled_from table Free (w ∷ rest)
  unfolding spelled_from
  spell_free next mark adds = rw (adds.1, append_assoc, mark, adds.0) refl

  pub spell_full : (full : Word) → full ≡ full_word table w → after ≡ before ++ spelled_word table full
      → after ≡ before ++ spelled_word table (full_word table w)
  spell_full full in_full is = is ∙ ap (λ (t : Word). before ++ spelled_word table t) in_full

-- what follows a word, by the word in full
pub value_behind : (w full : Word) → full ≡ full_word table w → waits table full ≡ true
    → ValueOf w ≡ place_behind table w
value_behind w full in_full waiting =
    sym (ap (λ (b : Bool). cond b (ValueOf w) Free) (ap (waits table) (sym in_full) ∙ waiting))

pub free_behind : (w full : Word) → full ≡ full_word table w → waits table full ≡ false → Free ≡ place_behind table w
free_behind w full in_full waiting =
    sym (ap (λ (b : Bool). cond b (ValueOf w) Free) (ap (waits table) (sym in_full) ∙ waiting))

pub none_left : (next : NextWord) → spelled_from table next [] ≡ []
unfolding spelled_from
none_left Free = refl
none_left (ValueOf o) = refl
none_left Rest = refl

-- ---- one letter more

letter_low : (x : ℕ) → is_flag (by_letter table x) ≡ true → x < 128
letter_low x e = go (lt_or_le x)
  where
    go : (x < 128) ⊎ (128 ≤ x) → x < 128
    go (inl low) = low
    go (inr high) = absurd (true≢false (sym e ∙ ap is_flag (ascii_letters table table all_rows x high)))

pub newer_low : (x : ℕ) → is_flag (by_letter table (newer_letter x)) ≡ true → newer_letter x < 128
newer_low x e = letter_low (newer_letter x) e

digit_low : (x : ℕ) → is_ascii_digit x ≡ true → x < 128
digit_low x e =
    let most : x ≤ 57 = leb-true x 57 (both (nat_le 48 x) (nat_le x 57) e).1 in
    omega (arith, most)

pub flag_low : (x n : ℕ) → is_ascii_digit x ≡ false
    → (is_ascii_digit x || is_flag (by_letter table (newer_letter x))) ≡ true → n ≡ newer_letter x → n < 128
flag_low x n digit own is =
    let flag : is_flag (by_letter table (newer_letter x)) ≡ true =
    ap (λ (b : Bool). b || is_flag (by_letter table (newer_letter x))) (sym digit) ∙ own in
    rw is (newer_low x flag)

older_low : (x : ℕ) → newer_letter x < 128 → x < 128
older_low x low = go (x == 121) refl low
  where
    go : (b : Bool) → (x == 121) ≡ b → cond b 105 x < 128 → x < 128
    go true is low = let same : x ≡ 121 = eqb-true x 121 is in omega (arith, same)
    go false is low = low

-- digits and the letters of options are ASCII
pub own_word_low : (x : ℕ) → (is_ascii_digit x || is_flag (by_letter table (newer_letter x))) ≡ true → x < 128
own_word_low x e = go (is_ascii_digit x) refl e
  where
    go : (b : Bool) → is_ascii_digit x ≡ b → (b || is_flag (by_letter table (newer_letter x))) ≡ true → x < 128
    go true is e = digit_low x is
    go false is e = older_low x (newer_low x e)

pub letter_kept : (letters w : Word) (at d : ℕ) (old new first : List Word) (digits more : Word)
    → at < length letters
    → ((word rest : Word) → new ++ letter_words table word more rest
    ≡ old ++ letter_words table word digits (get_or letters at d ∷ rest))
    → old ++ letter_words table w digits (drop at letters) ≡ first
    → new ++ letter_words table w more (drop (at + 1) letters) ≡ first
letter_kept letters w at d old new first digits more within step before =
    let here : drop at letters ≡ get_or letters at d ∷ drop (at + 1) letters =
    rw (add-one, drop-cons letters at d within) refl in
    step w (drop (at + 1) letters) ∙ (ap (λ (t : Word). old ++ letter_words table w digits t) (sym here) ∙ before)

-- ---- the letters of a word

-- at the end no word is left
pub all_spelled : (words : List (String Global)) (i : ℕ) (parts all : List Word) (next : NextWord) → length words ≤ i
    → parts ++ spelled_from table next (map string_bytes (drop i words)) ≡ all → parts ≡ all
all_spelled words i parts all next past so_far =
    sym (append-nil parts) ∙ (ap (λ (l : List Word). parts ++ l) (sym (none_left next))
    ∙ (ap (λ (l : List (String Global)). parts ++ spelled_from table next (map string_bytes l))
    (sym (drop_all i words past)) ∙ so_far))
