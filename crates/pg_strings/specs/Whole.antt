-- Strings that are known by all their bytes.
use Rattle.std.specs.Prelude.{◌≡◌, ℕ, ◌+◌, ◌*◌, ◌/◌, ◌%◌, ◌<◌, ◌≤◌, Bool, true, List, [], ◌∷◌, Option}
use Rattle.std.specs.Prelude.{length, map, nat_eq, take, drop, slice_index_or}
use Rattle.std.specs.Option.{ForSome}
use Rattle.std.specs.List.{All, list_any, sum_by}
use Rattle.std.specs.List.Sorted.{IsNonDecreasing}
use Rattle.memchr.specs.Find.{OccursAt}
use Rattle.pg_strings.specs.Keys.{AreChains}
use Rattle.pg_strings.specs.Sets.{work}
use Rattle.pg_strings.specs.declared.whole.PrefixHash.{PrefixHash}
use Rattle.pg_strings.specs.declared.whole.WholeStrings.{WholeStrings}

-- a hash of a text's bytes, behind others that have this one
abbrev pub hash_behind : ℕ → List ℕ → ℕ
hash_behind before [] = before
hash_behind before (byte ∷ text) =
    hash_behind ((before * 11400714819323198485 % 18446744073709551616 + byte) % 18446744073709551616) text

-- the chain of the strings that have a hash
abbrev pub home_by : ℕ → ℕ
home_by hash = hash * 11400714819323198485 % 18446744073709551616 / 2251799813685248

-- the chain of a string, by all its bytes
abbrev pub whole_home : List ℕ → ℕ
whole_home string = home_by (hash_behind 0 string)

-- the flag of the beginnings of strings that have a hash
abbrev pub flag_by : ℕ → ℕ
flag_by hash = hash * 11400714819323198485 % 18446744073709551616 / 140737488355328

-- each beginning of the string that has one of the lengths, and isn't all of it, is flagged
abbrev pub IsFlaggedAt : (lengths : List ℕ) (flags : List Bool) → List ℕ → Type 0
IsFlaggedAt lengths flags string = All (λ len. len < length string
    → slice_index_or flags (flag_by (hash_behind 0 (take len string))) true ≡ true) lengths

-- a flag that was set is set
abbrev pub KeepsFlags : (before after : List Bool) → Type 0
KeepsFlags before after = (k : ℕ) → slice_index_or before k true ≡ true → slice_index_or after k true ≡ true

-- no string that stands at the place is longer
abbrev pub NoneLonger : List (List ℕ) → List ℕ → ℕ → ℕ → Type 0
NoneLonger strings bytes place len = All (λ string. OccursAt bytes string place → length string ≤ len) strings

-- it has the hash of so many bytes from a place on
pub record IsPrefixHash (bytes : List ℕ) (place : ℕ) (prefix : PrefixHash) : Type 0 where
  pub within : place + prefix.len ≤ length bytes
  pub hash : prefix.hash ≡ hash_behind 0 (take prefix.len (drop place bytes))

-- The length of each string is among these, which cost no more to look at than the strings; and the strings are in
-- chains by all their bytes.
pub record AreIndexed (lengths first next : List ℕ) (strings : List (List ℕ)) : Type 0 where
  pub all : All (λ string. list_any (λ len. nat_eq len (length string)) lengths ≡ true) strings
  pub worth : sum_by (λ len. 1 + len) lengths ≤ work strings
  pub linked : AreChains first next (map whole_home strings)

-- the lengths and chains are those of these strings
abbrev pub HasChainsOf : {A : Type 0} → WholeStrings A → List (List ℕ) → Type 0
HasChainsOf whole strings = AreIndexed whole.lengths.items whole.chains.first.items whole.chains.next.items strings

-- the tables are those of these strings
pub record IsWholeOf {A : Type 0} (whole : WholeStrings A) (strings : List (List ℕ)) : Type 0 where
  pub chains : HasChainsOf whole strings
  pub rises : IsNonDecreasing whole.lengths.items
  pub all_flags : length whole.flags.items ≡ 131072
  pub flagged : All (IsFlaggedAt whole.lengths.items whole.flags.items) strings

-- the tables, if there are any, are those of these strings
abbrev pub KnowsWhole : {A : Type 0} → Option (WholeStrings A) → List (List ℕ) → Type 0
KnowsWhole whole strings = ForSome whole (λ tables. IsWholeOf tables strings)
