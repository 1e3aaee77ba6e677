-- The states of fixed strings, for the functions of strings.rt.
use Rattle.std.proofs.Common.{◌≡◌, ℕ, ◌+◌, ◌<◌, ◌≤◌, Bool, List, [], ◌∷◌, length, get_or, Some, refl, ap, ◌∙◌}
use Rattle.std.proofs.Common.{subst, arith, All}
use Rattle.std.specs.Prelude.{slice_get, option_map}
use Rattle.std.specs.Borrow.{Bor}
use Rattle.std.proofs.lemmas.List.Elements.{All-map}
use Rattle.std.proofs.lemmas.Option.{slice_get-get_or, slice_get-map}
use Rattle.pg_bytes.specs.ByteSets.{bytes}
use Rattle.pg_bytes.specs.Sets.{one}
use Rattle.pg_bytes.specs.declared.byte_set.ByteSet.{ByteSet}
use Rattle.pg_pattern.specs.Patterns.{Pattern, Set, Cat, IsProper, folded}
use Rattle.pg_pattern.specs.Lengths.{HasAtMost, IsReachOf, HitsEndWithin}
use Rattle.pg_pattern.specs.declared.bounds.Bounds.{Bounds}
use Rattle.pg_pattern.specs.declared.bounds.Bounds.TheVariants.{Any, Word, Whole}
use Rattle.pg_pattern.proofs.LengthLemmas.{hits_end}
use Rattle.pg_match.specs.Automata.{IsTidy}
use Rattle.pg_match.specs.Sizes.{size_of}
use Rattle.pg_match.specs.Strings.{string_pattern, string_patterns, with_string}
use Rattle.pg_match.specs.Tables.{Added, Implements, KeepsStates, NoAccept, Pushed}
use Rattle.pg_match.specs.declared.state.State.{State}
use Rattle.pg_match.specs.declared.state.State.TheVariants.{Jump, Read}
use Rattle.pg_match.proofs.TableLemmas.{pushed_length, pushed_keeps, pushed_is, pushed_tidy, pushed_plain}

-- a pattern grows by a state for each byte behind it
size_behind : (fold : Bool) (p : Pattern) (text : List ℕ) → size_of (with_string fold p text) ≡ size_of p + length text
size_behind fold p [] = omega arith
size_behind fold p (b ∷ text) =
    let rest = size_behind fold (Cat p (Set (folded fold (one b)))) text in
    omega (arith, rest)

-- the size of a string
pub size_string : (fold : Bool) (text : List ℕ) → 0 < length text → size_of (string_pattern fold text) ≡ length text
size_string fold [] some = absurd (omega (arith, some))
size_string fold (b ∷ text) some = let rest = size_behind fold (Set (folded fold (one b))) text in omega (arith, rest)

-- and of one with no byte
pub size_nothing : (fold : Bool) (text : List ℕ) → length text ≡ 0 → size_of (string_pattern fold text) ≡ 1
size_nothing fold [] none = refl
size_nothing fold (b ∷ text) none = absurd (omega (arith, none))

-- no repetition stands in a string
proper_behind : (fold : Bool) (p : Pattern) (text : List ℕ) → IsProper p → IsProper (with_string fold p text)
proper_behind fold p [] proper = proper
proper_behind fold p (b ∷ text) proper = proper_behind fold (Cat p (Set (folded fold (one b)))) text (proper, tt)

string_proper : (fold : Bool) (text : List ℕ) → IsProper (string_pattern fold text)
string_proper fold [] = tt
string_proper fold (b ∷ text) = proper_behind fold (Set (folded fold (one b))) text tt

pub strings_proper : (fold : Bool) (strings : List (Bor (List ℕ))) → All IsProper (string_patterns fold strings)
strings_proper fold strings =
    All-map IsProper (λ (s : Bor (List ℕ)). string_pattern fold s.now) strings
    (λ k d less. string_proper fold (get_or strings k d).now)

-- a match has as many bytes as the string
long_behind : (fold : Bool) (p : Pattern) (most : ℕ) (text : List ℕ) → HasAtMost p most
    → HasAtMost (with_string fold p text) (most + length text)
long_behind fold p most [] long = λ line i j m. let own = long line i j m in omega (arith, own)
long_behind fold p most (b ∷ text) long =
    let more : HasAtMost (Cat p (Set (folded fold (one b)))) (most + 1) =
    λ line i j m. let own = long line i m.0 m.1 in omega (arith, own, m.2.3) in
    λ line i j m.
    let all = long_behind fold (Cat p (Set (folded fold (one b)))) (most + 1) text more line i j m in
    omega (arith, all)

string_long : (fold : Bool) (text : List ℕ) → HasAtMost (string_pattern fold text) (length text)
string_long fold [] = λ line i j m. omega (arith, m)
string_long fold (b ∷ text) = λ line i j m.
    let all = long_behind fold (Set (folded fold (one b))) 1 text (λ l x y n. omega (arith, n.3)) line i j m in
    omega (arith, all)

reach_of_string : (bounds : Bounds) (p : Pattern) (most : ℕ) → HasAtMost p most → IsReachOf bounds most p
reach_of_string Any p most long = λ line i j m. (j, long line i j m, m)
reach_of_string Word p most long = long
reach_of_string Whole p most long = long

-- so a hit ends within the length of the longest
pub strings_end : (fold : Bool) (bounds : Bounds) (strings : List (Bor (List ℕ))) (most : ℕ)
    → All (λ string. length string.now ≤ most) strings → HitsEndWithin (string_patterns fold strings) bounds most
strings_end fold bounds strings most each =
    hits_end (string_patterns fold strings) bounds most (All-map (IsReachOf bounds most)
    (λ (s : Bor (List ℕ)). string_pattern fold s.now) strings (λ k d less.
    reach_of_string bounds (string_pattern fold (get_or strings k d).now) most (λ line i j m.
    let own = string_long fold (get_or strings k d).now line i j m in
    let low = each k d less in
    omega (arith, own, low))))

-- from e the table reads these bytes, one state each, and goes on at x
abbrev Reads : Bool → List State → List ℕ → ℕ → ℕ → Type 0
Reads fold t [] e x = e ≡ x
Reads fold t (b ∷ text) e x =
    (s : ByteSet) × (k : ℕ) × (bytes s ≡ folded fold (one b)) × (slice_get t e ≡ Some (Read s k))
    × Reads fold t text k x

reads_kept : (fold : Bool) (old new : List State) → KeepsStates old new → (text : List ℕ) (e x : ℕ)
    → Reads fold old text e x
    → Reads fold new text e x
reads_kept fold old new keeps [] e x same = same
reads_kept fold old new keeps (b ∷ text) e x (s, k, is, at, rest) =
    (s, k, is, keeps e (Read s k) at, reads_kept fold old new keeps text k x rest)

-- the states of a pattern, and of bytes behind it
implements_behind : (fold : Bool) (t : List State) (p : Pattern) (text : List ℕ) (e k x : ℕ) → Implements t p e k
    → Reads fold t text k x → Implements t (with_string fold p text) e x
implements_behind fold t p [] e k x first same = subst (Implements t p e) same first
implements_behind fold t p (b ∷ text) e k x first (s, n, is, at, rest) =
    implements_behind fold t (Cat p (Set (folded fold (one b)))) text e n x (k, first, (s, is, at)) rest

-- the table grew by the states of these bytes, which begin at e and go on at x
pub record AddedBytes (fold : Bool) (old new : List State) (text : List ℕ) (e x : ℕ) : Type 0 where
  pub reads : Reads fold new text e x
  pub keeps : KeepsStates old new
  pub plain : NoAccept old new
  pub tidy : IsTidy new
  pub inside : e < length new
  pub size : length new ≡ length old + length text

-- none yet
pub bytes_none : (fold : Bool) (t : List State) (x : ℕ) → IsTidy t → x < length t → AddedBytes fold t t [] x x
bytes_none fold t x tidy within = record {
  reads = refl;
  keeps = λ q s at. at;
  plain = λ q at. at;
  tidy = tidy;
  inside = within;
  size = omega arith;
}

-- one more in front
pub bytes_more : (fold : Bool) (old mid new : List State) (b : ℕ) (text : List ℕ) (s : ByteSet) (e f x : ℕ)
    → bytes s ≡ folded fold (one b) → AddedBytes fold old mid text e x → Pushed mid new (Read s e) f
    → AddedBytes fold old new (b ∷ text) f x
bytes_more fold old mid new b text s e f x is added pushed =
    let keeps = pushed_keeps mid new (Read s e) f pushed in
    let len = pushed_length mid new (Read s e) f pushed in
    record {
      reads = (s, e, is, pushed_is mid new (Read s e) f pushed, reads_kept fold mid new keeps text e x added.reads);
      keeps = λ q w at. keeps q w (added.keeps q w at);
      plain = λ q at. added.plain q (pushed_plain mid new (Read s e) f pushed (λ w. cc) q at);
      tidy = pushed_tidy mid new (Read s e) f pushed added.tidy (omega (arith, len, added.inside));
      inside = omega (arith, len, pushed.place);
      size = omega (arith, len, added.size);
    }

-- all of a string
pub bytes_all : (fold : Bool) (old new : List State) (text : List ℕ) (e x : ℕ) → 0 < length text
    → AddedBytes fold old new text e x → Added old new (string_pattern fold text) e x
bytes_all fold old new [] e x some added = absurd (omega (arith, some))
bytes_all fold old new (b ∷ text) e x some added =
    let size = size_string fold (b ∷ text) some in
    let r = added.reads in
    record {
      implements = implements_behind fold new (Set (folded fold (one b))) text e r.1 x (r.0, r.2, r.3) r.4;
      keeps = added.keeps;
      plain = added.plain;
      tidy = added.tidy;
      inside = added.inside;
      size = omega (arith, added.size, size);
    }

-- the state of a string with no byte
pub nothing_added : (fold : Bool) (old new : List State) (text : List ℕ) (e x : ℕ) → length text ≡ 0 → IsTidy old
    → x < length old → Pushed old new (Jump x) e → Added old new (string_pattern fold text) e x
nothing_added fold old new (b ∷ text) e x none tidy within pushed = absurd (omega (arith, none))
nothing_added fold old new [] e x none tidy within pushed =
    let len = pushed_length old new (Jump x) e pushed in
    record {
      implements = pushed_is old new (Jump x) e pushed;
      keeps = pushed_keeps old new (Jump x) e pushed;
      plain = pushed_plain old new (Jump x) e pushed (λ w. cc);
      tidy = pushed_tidy old new (Jump x) e pushed tidy (omega (arith, len, within));
      inside = omega (arith, len, pushed.place);
      size = omega (arith, len);
    }

-- a string among others, and its pattern among theirs
pub pattern_at : (fold : Bool) (strings : List (Bor (List ℕ))) (i : ℕ) (d : Bor (List ℕ)) → i < length strings
    → slice_get (string_patterns fold strings) i ≡ Some (string_pattern fold (get_or strings i d).now)
pattern_at fold strings i d less =
    let F : Bor (List ℕ) → Pattern = λ s. string_pattern fold s.now in
    slice_get-map F strings i ∙ ap (option_map F) (slice_get-get_or strings i d less)
