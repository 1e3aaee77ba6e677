-- The modes that options of a table ask for, one after another: for `modes_among`.
use Rattle.std.proofs.Common.{◌≡◌, ◌∙◌, ap, refl, sym, true, false, ℕ, zero, suc, ◌+◌, ◌<◌, Bool, List, [], ◌∷◌, ◌++◌}
use Rattle.std.proofs.Common.{Option, Some, None, is_some, drop, get_or, length, option_map, arith}
use Rattle.clap.proofs.WalkLemmas.{both}
use Rattle.pg_rows.specs.declared.format.Mode.{Mode}
use Rattle.pg_words.specs.Asks.{modes_given}
use Rattle.pg_words.specs.Found.{value_behind}
use Rattle.pg_words.specs.Line.{Value, Nothing, AnyText, Number, Opt, Use, is_given, own, table}
use Rattle.pg_words.specs.Options.{are_flags, given_modes, mode_table}
use Rattle.pg_words.specs.Spelled.{is_flag}
use Rattle.pg_words.specs.declared.options.GivenModes.TheVariants.{Several}
use Rattle.pg_words.specs.declared.options.ModeOption.{ModeOption}
use Rattle.pg_words.proofs.Table.{next_row}

-- an option that is a flag has no value
flag_value : (o : Option Opt) → is_flag o ≡ true → option_map (λ o. o.value) o ≡ Some Nothing
flag_value None e = cc
flag_value (Some o) e = go o.value e
  where
    go : (v : Value) → is_flag (Some (record o { value = v })) ≡ true → Some v ≡ Some Nothing
    go Nothing e = refl
    go AnyText e = cc
    go (Number low high) e = cc

pub flag_at : (options : List ModeOption) (i : ℕ) (d : ModeOption) → are_flags options ≡ true → i < length options
    → value_behind (get_or options i d).0.now ≡ Some Nothing
flag_at [] i d e within = absurd (omega (arith, within))
flag_at (o ∷ options) zero d e within =
    flag_value (own table o.0.now) (both (is_flag (own table o.0.now)) (are_flags options) e).0
flag_at (o ∷ options) (suc i) d e within =
    flag_at options i d (both (is_flag (own table o.0.now)) (are_flags options) e).1 (omega (arith, within))

-- the mode that was asked for so far
abbrev pub so_far : Option Mode → List Mode
so_far None = []
so_far (Some mode) = mode ∷ []

-- so much is asked for before the options that are left
abbrev pub IsBehind : Option Mode → (left all : List ModeOption) → List Use → Type 0
IsBehind only left all us = so_far only ++ modes_given (mode_table left) us ≡ modes_given (mode_table all) us

module _ (options : List ModeOption) (i : ℕ) (d : ModeOption) (us : List Use) (within : i < length options) where
  abbrev here : ModeOption
  here = get_or options i d

  abbrev left : List Mode
  left = modes_given (mode_table (drop (i + 1) options)) us

  next : modes_given (mode_table (drop i options)) us
      ≡ modes_given (mode_table (here ∷ drop (i + 1) options)) us
  next = ap (λ (l : List ModeOption). modes_given (mode_table l) us) (next_row options i d within)

  given : (b : Bool) → b ≡ is_given here.0.now us → b ≡ true
      → modes_given (mode_table (drop i options)) us ≡ here.1 ∷ left
  given b is e = next ∙ rw (sym is, e) refl

  not_given : (b : Bool) → b ≡ is_given here.0.now us → b ≡ false → modes_given (mode_table (drop i options)) us ≡ left
  not_given b is e = next ∙ rw (sym is, e) refl

  pub mode_again : (b : Bool) (only : Option Mode) → b ≡ is_given here.0.now us → b ≡ true → is_some only ≡ true
      → IsBehind only (drop i options) options us → Several ≡ given_modes (modes_given (mode_table options) us)
  mode_again b None is e some before = cc
  mode_again b (Some mode) is e some before =
      ap given_modes (ap (λ (l : List Mode). mode ∷ l) (sym (given b is e)) ∙ before)

  pub mode_next : (b : Bool) (only : Option Mode) → b ≡ is_given here.0.now us → b ≡ true → is_some only ≡ false
      → IsBehind only (drop i options) options us → IsBehind (Some here.1) (drop (i + 1) options) options us
  mode_next b None is e none before = sym (given b is e) ∙ before
  mode_next b (Some mode) is e none before = cc

  pub mode_passed : (b : Bool) (only : Option Mode) → b ≡ is_given here.0.now us → b ≡ false
      → IsBehind only (drop i options) options us → IsBehind only (drop (i + 1) options) options us
  mode_passed b only is e before = ap (λ (l : List Mode). so_far only ++ l) (sym (not_given b is e)) ∙ before
