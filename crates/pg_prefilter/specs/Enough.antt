-- The literals that are enough where others aren't.
use Rattle.std.specs.Prelude.{◌≡◌, ℕ, List, [], true, IsTrue, Option, None, Some}
use Rattle.std.specs.List.{Any, list_all}
use Rattle.std.specs.Set.{is_member}
use Rattle.std.specs.Str.{bytes_eq}
use Rattle.pg_literal.specs.declared.literal.Literal.{Literal}
use Rattle.pg_strings.specs.Outcomes.{strings_of}
use Rattle.pg_strings.specs.declared.set.StringSet.{StringSet}

-- the string is the text of a literal that is enough
abbrev pub IsOneEnough : {A : Type 0} → List (Literal A) → List ℕ → Type 0
IsOneEnough literals string = Any (λ literal. IsTrue literal.is_enough × (literal.text.items ≡ string)) literals

-- the strings of a set, if there is one
abbrev pub strings_if_some : {A : Type 0} → Option (StringSet A) → List (List ℕ)
strings_if_some None = []
strings_if_some (Some set) = strings_of set

-- some of the strings
abbrev pub AreSomeOf : List (List ℕ) → List (List ℕ) → Type 0
AreSomeOf strings some = list_all (is_member bytes_eq strings) some ≡ true
