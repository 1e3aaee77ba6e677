-- The options of the uses are options of the table, and their values fit.
use Rattle.std.proofs.Common.{◌≡◌, refl, true, false, Bool, List, [], ◌∷◌, ◌++◌, map, Option, Some, None, cond, find}
use Rattle.std.proofs.Common.{option_and_then}
use Rattle.clap.specs.Lexer.{long_of, short_of}
use Rattle.clap.specs.Walk.{attached_value}
use Rattle.pg_words.specs.Line.{Word, Value, Nothing, AnyText, Number, Opt, Use, Given, Operand, Uses, by_letter}
use Rattle.pg_words.specs.Line.{by_name}
use Rattle.pg_words.specs.Line.{fits_value, has_value, is_mark, then_uses, valued}
use Rattle.pg_words.specs.Joined.{asked, letter, letters, long, long_word, short_word, word}

abbrev pub EachOpt : (Opt → Type 0) → List Opt → Type 0
EachOpt P [] = Unit {0}
EachOpt P (o ∷ os) = P o × EachOpt P os

abbrev pub EachUse : (Opt → Type 0) → List Use → Type 0
EachUse P [] = Unit {0}
EachUse P (Given o v ∷ us) = P o × (fits_value o.value v ≡ true) × EachUse P us
EachUse P (Operand v ∷ us) = EachUse P us

abbrev pub EachOf : (Opt → Type 0) → Uses → Type 0
EachOf P None = Unit {0}
EachOf P (Some us) = EachUse P us

abbrev pub ForSome : (Opt → Type 0) → Option Opt → Type 0
ForSome P None = Unit {0}
ForSome P (Some o) = P o

module _ (P : Opt → Type 0) where
  pub found : (q : Opt → Bool) (os : List Opt) → EachOpt P os → ForSome P (find q os)
  found q [] each = tt
  found q (o ∷ os) each = go (q o) (found q os each.1)
    where
      go : (b : Bool) → ForSome P (find q os) → ForSome P (cond b (Some o) (find q os))
      go true later = each.0
      go false later = later

  appended : (us vs : List Use) → EachUse P us → EachUse P vs → EachUse P (us ++ vs)
  appended [] vs a b = b
  appended (Given o v ∷ us) vs a b = (a.0, a.1, appended us vs a.2 b)
  appended (Operand v ∷ us) vs a b = appended us vs a b

  then_each : (U V : Uses) → EachOf P U → EachOf P V → EachOf P (then_uses U V)
  then_each None V a b = tt
  then_each (Some us) None a b = tt
  then_each (Some us) (Some vs) a b = appended us vs a b

  valued_each : (o : Opt) (v : Word) → P o → EachOf P (valued o v)
  valued_each o v p = go (fits_value o.value v) refl
    where
      go : (b : Bool) → fits_value o.value v ≡ b → EachOf P (cond b (Some (Given o v ∷ [])) None)
      go true e = (p, e, tt)
      go false e = tt

  if_each : (b : Bool) (U V : Uses) → EachOf P U → (b ≡ false → EachOf P V) → EachOf P (cond b U V)
  if_each true U V a c = a
  if_each false U V a c = c refl

  flag_fits : (o : Opt) (v : Value) → has_value (record o { value = v }) ≡ false → fits_value v [] ≡ true
  flag_fits o Nothing e = refl
  flag_fits o AnyText e = refl
  flag_fits o (Number low high) e = cc

  long_each : (f : Option Opt) (v : Option Word) → ForSome P f → EachOf P (long f v)
  long_each None v p = tt
  long_each (Some o) None p = if_each (has_value o) None (Some (Given o [] ∷ [])) tt
      (λ e. (p, flag_fits o o.value e, tt))
  long_each (Some o) (Some v) p = if_each (has_value o) (valued o v) None (valued_each o v p) (λ e. tt)

  attached_each : (o : Opt) (v : Option Word) → P o → EachOf P (option_and_then (valued o) v)
  attached_each o None p = tt
  attached_each o (Some v) p = valued_each o v p

  letter_each : (f : Option Opt) (rest : Word) (next : Uses) → ForSome P f → EachOf P next
      → EachOf P (letter f rest next)
  letter_each None rest next p later = tt
  letter_each (Some o) rest next p later =
      if_each (has_value o) (option_and_then (valued o) (attached_value rest)) (then_uses (Some (Given o [] ∷ [])) next)
      (attached_each o (attached_value rest) p)
      (λ e. then_each (Some (Given o [] ∷ [])) next (p, flag_fits o o.value e, tt) later)

  letters_each : (os : List Opt) (flags : Word) → EachOpt P os → EachOf P (letters os flags)
  letters_each os [] each = tt
  letters_each os (x ∷ rest) each =
      letter_each (by_letter os x) rest (letters os rest) (found _ os each) (letters_each os rest each)

  short_each : (os : List Opt) (q : Option Word) (w : Word) → EachOpt P os → EachOf P (short_word os q w)
  short_each os (Some flags) w each = letters_each os flags each
  short_each os None w each = tt

  word_each : (os : List Opt) (q : Option (Word × Option Word)) (w : Word) → EachOpt P os → EachOf P (long_word os q w)
  word_each os (Some p) w each = long_each (by_name os p.0) p.1 (found _ os each)
  word_each os None w each = short_each os (short_of w) w each

  operands_each : (ws : List Word) → EachUse P (map Operand ws)
  operands_each [] = tt
  operands_each (w ∷ ws) = operands_each ws

  pub asked_each : (os : List Opt) (ws : List Word) → EachOpt P os → EachOf P (asked os ws)
  unfolding asked
  asked_each os [] each = tt
  asked_each os (w ∷ ws) each =
      if_each (is_mark w) (Some (map Operand ws)) (then_uses (word os w) (asked os ws)) (operands_each ws)
      (λ e. then_each (word os w) (asked os ws) (word_each os (long_of w) w each) (asked_each os ws each))
