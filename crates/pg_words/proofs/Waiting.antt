-- A word whose option waits in vain for its value is refused.
use Rattle.std.proofs.Common.{◌≡◌, ap, refl, true, false, not, Bool, List, [], ◌∷◌, Option, Some, None}
use Rattle.std.proofs.Common.{is_some, option_and_then, cond}
use Rattle.clap.specs.Lexer.{long_of, short_of}
use Rattle.clap.specs.Walk.{attached_value}
use Rattle.pg_words.specs.Line.{Word, Opt, Given, by_letter, by_name, has_value, then_uses, valued}
use Rattle.pg_words.specs.Joined.{letter, letters, letters_wait, long, long_or_short_waits, long_waits, long_word}
use Rattle.pg_words.specs.Joined.{short_waits, short_word, takes_value, waits, word}

module _ (os : List Opt) where
  letter_waits : (f : Option Opt) (rest : Word) → (letters_wait os rest ≡ true → letters os rest ≡ None)
      → cond (takes_value f) (not (is_some (attached_value rest))) (letters_wait os rest) ≡ true
      → letter f rest (letters os rest) ≡ None
  letter_waits None rest later e = refl
  letter_waits (Some o) rest later e = go (has_value o) (attached_value rest) e
    where
      go : (b : Bool) (q : Option Word) → cond b (not (is_some q)) (letters_wait os rest) ≡ true
          → cond b (option_and_then (valued o) q) (then_uses (Some (Given o [] ∷ [])) (letters os rest)) ≡ None
      go true None e = refl
      go true (Some t) e = cc
      go false q e = ap (then_uses (Some (Given o [] ∷ []))) (later e)

  letters_in_vain : (flags : Word) → letters_wait os flags ≡ true → letters os flags ≡ None
  letters_in_vain [] e = cc
  letters_in_vain (x ∷ rest) e = letter_waits (by_letter os x) rest (letters_in_vain rest) e

  long_in_vain : (f : Option Opt) (v : Option Word) → long_waits f v ≡ true → long f v ≡ None
  long_in_vain None v e = refl
  long_in_vain (Some o) None e = go (has_value o) e
    where
      go : (b : Bool) → b ≡ true → cond b None (Some (Given o [] ∷ [])) ≡ None
      go true e = refl
      go false e = cc
  long_in_vain (Some o) (Some v) e = cc

  short_in_vain : (q : Option Word) (w : Word) → short_waits os q ≡ true → short_word os q w ≡ None
  short_in_vain (Some flags) w e = letters_in_vain flags e
  short_in_vain None w e = cc

  word_in_vain : (q : Option (Word × Option Word)) (w : Word) → long_or_short_waits os q w ≡ true → long_word os q w
      ≡ None
  word_in_vain (Some p) w e = long_in_vain (by_name os p.0) p.1 e
  word_in_vain None w e = short_in_vain (short_of w) w e

  pub word_waits : (w : Word) → waits os w ≡ true → word os w ≡ None
  word_waits w e = word_in_vain (long_of w) w e
