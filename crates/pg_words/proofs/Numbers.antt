-- The number that a getter reads of a text in a range.
use Rattle.std.proofs.Common.{◌≡◌, ◌∙◌, ap, refl, subst, true, false, ℕ, Bool, List, [], ◌∷◌, Option, Some, None}
use Rattle.std.proofs.Common.{◌≤◌, ◌<◌}
use Rattle.std.proofs.Common.{◌^◌, ◌==◌, cond, drop, arith, eqb-true, Result, Ok}
use Rattle.std.specs.Prelude.{unwrap_or, option_map, pos}
use Rattle.std.specs.Str.Parse.{IsNumeral, ParsesUnsigned, digits_value, starts_with_minus, without_leading_plus}
use Rattle.std.specs.Str.Parse.{without_leading_sign}
use Rattle.std.proofs.lemmas.Int.{ints}
use Rattle.std.proofs.lemmas.Str.Parse.{digit_from_value}
use Rattle.clap.specs.Lexer.{without_minus}
use Rattle.clap.specs.Matches.{one_text, ReadsOne}
use Rattle.clap.specs.Values.{IsSignedIn}
use Rattle.clap.specs.ValueTests.{is_signed_in}
use Rattle.clap.specs.declared.parser.matches.Found.{Found}
use Rattle.clap.specs.declared.builder.value_parser.ValueParser.TheVariants as vp
use Rattle.clap.proofs.CallerReads.{signed_reads}
use Rattle.clap.proofs.ValueTestLemmas.{accepts-Accepts}
use Rattle.pg_words.specs.Asks.{number_in}
use Rattle.pg_words.specs.Found.{IsOfUses, value_behind}
use Rattle.pg_words.specs.Gives.{IsNumberUpTo}
use Rattle.pg_words.specs.Line.{Word, Number, Use, last_value}

-- a numeral has no sign
numeral_first : (d : ℕ) (ds : Word) → IsNumeral 10 (d ∷ ds) → (b : Bool) → (d == 43) ≡ b → drop (cond b 1 0) (d ∷ ds)
    ≡ d ∷ ds
numeral_first d ds h false e = refl
numeral_first d ds h true e =
    let plus : d ≡ 43 = eqb-true _ _ e in
    absurd (omega (arith, plus, digit_from_value d h.1.0))

no_sign : (ds : Word) → IsNumeral 10 ds → without_leading_plus ds ≡ ds
no_sign [] h = refl
no_sign (d ∷ ds) h = numeral_first d ds h (d == 43) refl

-- one sign is dropped by either way
same_digits : (t : Word) → IsNumeral 10 (without_leading_sign t) → without_leading_plus (without_minus t)
    ≡ without_leading_sign t
same_digits [] h = refl
same_digits (x ∷ xs) h = go (x == 45) h
  where
    go : (b : Bool) → IsNumeral 10 (cond b xs (without_leading_plus (x ∷ xs)))
        → without_leading_plus (unwrap_or (cond b (Some xs) None) (x ∷ xs)) ≡ cond b xs (without_leading_plus (x ∷ xs))
    go true h = no_sign xs h
    go false h = refl

abbrev digits : Word → ℕ
digits t = digits_value 10 (without_leading_sign t)

passes : (low high : ℕ) (t : Word) → is_signed_in (pos low) (pos high) t ≡ true → IsSignedIn (pos low) (pos high) t
passes low high t e = accepts-Accepts false (vp.Signed (pos low) (pos high)) t e

in_range : (low high : ℕ) (t : Word) → IsSignedIn (pos low) (pos high) t → (low ≤ digits t) × (digits t ≤ high)
in_range low high t passed = go (starts_with_minus t) refl
  where
    go : (b : Bool) → starts_with_minus t ≡ b → (low ≤ digits t) × (digits t ≤ high)
    go true minus =
        let above = rw minus at passed.2 in
        let below = rw minus at passed.3 in
        rw minus (omega (arith, ints), omega (arith, ints))
    go false minus =
        let above = rw minus at passed.2 in
        let below = rw minus at passed.3 in
        rw minus (omega (arith, ints), omega (arith, ints))

module _ {E : Type 0} (G : Word → Result ℕ E → Type 0) (k : ℕ)
    (only : (u : Word) (x : Result ℕ E) → G u x → ParsesUnsigned k 10 u x) where
  number_read : (low high : ℕ) (t : Word) (r : Option ℕ) → ReadsOne G (without_minus t) r → high < 2 ^ k
      → IsSignedIn (pos low) (pos high) t → r ≡ Some (digits t)
  number_read low high t r read small passed =
      let got = signed_reads E G k low high t r read only small passed in
      let parsed = only (without_minus t) (Ok got.0)
      (subst (λ (o : Option ℕ). ReadsOne G (without_minus t) o) got.1 read) in
      got.1 ∙ ap (λ (n : ℕ). Some n) (parsed.1 ∙ ap (digits_value 10) (same_digits t passed.0))

  pub number_found : (us : List Use) (f : Found) (name : Word) (most : ℕ) (r : Option ℕ) → IsOfUses us f
      → IsNumberUpTo most name
      → most < 2 ^ k → (one_text f name ≡ None → r ≡ None) → ((t : Word) → one_text f name ≡ Some t → ReadsOne G t r)
      → r ≡ number_in name us
  number_found us f name most r is behind small none value = go (last_value name us) refl
    where
      go : (v : Option Word) → last_value name us ≡ v → r ≡ option_map digits v
      go None last = none (is.number name behind.0 behind.1 behind.2 ∙ ap (option_map without_minus) last)
      go (Some t) last = number_read behind.0 behind.1 t r
          (value (without_minus t) (is.number name behind.0 behind.1 behind.2 ∙ ap (option_map without_minus) last))
          (omega (arith, small, behind.3))
          (passes behind.0 behind.1 t (is.fit name (Number behind.0 behind.1) behind.2 t last))

-- and it is in the range
pub number_within : (us : List Use) (f : Found) (name : Word) (low high default n : ℕ) → IsOfUses us f
    → value_behind name ≡ Some (Number low high) → low ≤ default → default ≤ high → n
    ≡ unwrap_or (number_in name us) default
    → (low ≤ n) × (n ≤ high)
number_within us f name low high default n is behind at_least at_most same = go (last_value name us) refl same
  where
    go : (v : Option Word) → last_value name us ≡ v → n ≡ unwrap_or (option_map digits v) default → (low ≤ n)
        × (n ≤ high)
    go None last same = rw same (at_least, at_most)
    go (Some t) last same =
        rw same (in_range low high t (passes low high t (is.fit name (Number low high) behind t last)))
