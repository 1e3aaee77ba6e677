-- Our options: each is the only one of its name, and its letter is ASCII.
use Rattle.std.proofs.Common.{◌≡◌, ap, refl, sym, true, false, true≢false, ◌∙◌, ℕ, ◌<◌, ◌≤◌, ◌⊎◌, inl, inr, Bool, List}
use Rattle.std.proofs.Common.{[], ◌∷◌, ◌&&◌, not, cond, codes, nat_lt, Some}
use Rattle.std.specs.Option.{option_map_or}
use Rattle.std.specs.Str.{bytes_eq}
use Rattle.std.proofs.lemmas.Slice.Eq.{bytes_eq-Decides}
use Rattle.clap.proofs.WalkLemmas.{both}
use Rattle.clap.proofs.SimpleLemmas.{is_false}
use Rattle.pg_words.specs.Joined.{letter_takes_value, takes_value}
use Rattle.pg_words.specs.Line.{Word, Opt, own, table}
use Rattle.pg_words.proofs.Found.{IsRow, ascii_letters}
use Rattle.pg_words.proofs.Uses.{EachOpt}
use Rattle.pg_words.proofs.Walks.{lt_or_le}

-- none of the options has this name
abbrev none_called : Word → List Opt → Bool
none_called name [] = true
none_called name (o ∷ os) = not (bytes_eq name o.name) && none_called name os

-- its name isn't that of the operands, and its letter is ASCII
abbrev is_fit : Opt → Bool
is_fit o = not (bytes_eq (codes "operands") o.name)
    && (not (bytes_eq o.name (codes "operands")) && option_map_or (λ letter. nat_lt letter 128) o.letter true)

abbrev are_apart : List Opt → Bool
are_apart [] = true
are_apart (o ∷ os) = is_fit o && (none_called o.name os && are_apart os)

-- what is the only one of its name among some is so behind an option of another name
behind : (o : Opt) (os rows : List Opt) → none_called o.name rows ≡ true → EachOpt (IsRow os) rows
    → EachOpt (IsRow (o ∷ os)) rows
behind o os [] none each = tt
behind o os (x ∷ rows) none each =
    let parts = both (not (bytes_eq o.name x.name)) (none_called o.name rows) none in (
      (
        ap (λ (b : Bool). cond b (Some o) (own os x.name)) (is_false (bytes_eq o.name x.name) parts.0) ∙ each.0.0,
        each.0.1,
        each.0.2,
        each.0.3,
      ),
      behind o os rows parts.1 each.1,
    )

first : (o : Opt) (os : List Opt) → is_fit o ≡ true → IsRow (o ∷ os) o
first o os fit =
    let ascii = option_map_or (λ letter. nat_lt letter 128) o.letter true in
    let operands = codes "operands" in
    let parts = both (not (bytes_eq operands o.name)) (not (bytes_eq o.name operands) && ascii) fit in
    let rest = both (not (bytes_eq o.name operands)) ascii parts.1 in (
      ap (λ (b : Bool). cond b (Some o) (own os o.name)) ((bytes_eq-Decides o.name o.name).1 refl),
      is_false (bytes_eq operands o.name) parts.0,
      is_false (bytes_eq o.name operands) rest.0,
      rest.1,
    )

rows_apart : (os : List Opt) → are_apart os ≡ true → EachOpt (IsRow os) os
rows_apart [] apart = tt
rows_apart (o ∷ os) apart =
    let parts = both (is_fit o) (none_called o.name os && are_apart os) apart in
    let rest = both (none_called o.name os) (are_apart os) parts.1 in
    (first o os parts.0, behind o os os rest.0 (rows_apart os rest.1))

pub all_rows : EachOpt (IsRow table) table
all_rows = rows_apart table refl

pub ascii_letter : (x : ℕ) → letter_takes_value x ≡ true → x < 128
ascii_letter x e = go (lt_or_le x)
  where
    go : (x < 128) ⊎ (128 ≤ x) → x < 128
    go (inl low) = low
    go (inr high) = absurd (true≢false (sym e ∙ ap takes_value (ascii_letters table table all_rows x high)))
