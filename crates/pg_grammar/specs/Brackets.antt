-- Bracket expressions (XBD 9.3.5, 9.4.5).
use Rattle.std.specs.Prelude.{ℕ, ◌≡◌, ◌≢◌, ◌≤◌, ◌<◌, ◌⊎◌, Bool, true, false, not, ◌&&◌, ◌||◌, ◌==◌, List, []}
use Rattle.std.specs.Prelude.{◌∷◌, ◌++◌, Option, Some, None, option_and_then, if◌then◌else◌}
use Rattle.pg_bytes.specs.Sets.{Bytes, empty, one, between, union, complement}
use Rattle.pg_bytes.specs.Classes.{class}
use Rattle.pg_pattern.specs.Patterns.{folded}

-- one byte, or what stands in `[: :]`, `[= =]` or `[. .]`, told by its mark `:`, `=` or `.`
pub data Element : Type 0 where
  Single : ℕ → Element
  Enclosed : ℕ → List ℕ → Element

-- a mark stands at the front
abbrev pub opens : List ℕ → Bool
opens [] = false
opens (c ∷ t) = (c == 58) || ((c == 61) || (c == 46))

-- the mark and a `]` stand somewhere in the content
abbrev pub has_end : ℕ → List ℕ → Bool
has_end c [] = false
has_end c (a ∷ []) = false
has_end c (a ∷ b ∷ t) = ((a == c) && (b == 93)) || has_end c (b ∷ t)

-- The elements up to the `]` that closes the bracket. A `]` that stands first is an element (rule 1), and `[` with a
-- mark begins an element that runs to the first such mark with a `]` (rules 4 to 6).
pub data Inside : Bool → List ℕ → List Element → Type 0 where
  close : Inside false (93 ∷ []) []
  single : {first : Bool} {b : ℕ} {t : List ℕ} {es : List Element} → ((b == 93) && not first) ≡ false
      → ((b == 91) && opens t) ≡ false → Inside false t es → Inside first (b ∷ t) (Single b ∷ es)
  enclosed : {first : Bool} {c : ℕ} {content t : List ℕ} {es : List Element} → opens (c ∷ []) ≡ true
      → has_end c content ≡ false → Inside false t es
      → Inside first (91 ∷ c ∷ content ++ (c ∷ 93 ∷ t)) (Enclosed c content ∷ es)

-- The element stands at the front of a text, and this follows it. A byte is no element where it begins an enclosed one.
abbrev pub IsFront : Element → List ℕ → List ℕ → Type 0
IsFront (Single b) text rest = (text ≡ b ∷ rest) × (((b == 91) && opens rest) ≡ false)
IsFront (Enclosed c content) text rest =
    (text ≡ 91 ∷ c ∷ content ++ (c ∷ 93 ∷ rest)) × (opens (c ∷ []) ≡ true) × (has_end c content ≡ false)

-- From where they start, elements of a bracket are read up to this rest. None but the first of them is a `]`; the test
-- says that none was read.
pub data ReadsUpTo (start : List ℕ) : Bool → List ℕ → Type 0 where
  begin : ReadsUpTo start true start
  onward : {first : Bool} {e : Element} {text rest : List ℕ} → ReadsUpTo start first text → IsFront e text rest
      → (first ≡ true) ⊎ (e ≢ Single 93) → ReadsUpTo start false rest

-- the byte of a content of one byte
abbrev pub only_byte : List ℕ → Option ℕ
only_byte [] = None
only_byte (b ∷ []) = Some b
only_byte (b ∷ c ∷ t) = None

-- the bytes that an element stands for: those of a class (rule 6), or the one byte of a collating symbol (rule 4) or
-- of an equivalence class (rule 5)
abbrev pub member : Element → Option Bytes
member (Single b) = Some (one b)
member (Enclosed c content) = if c == 58 then class content else option_and_then (λ b. Some (one b)) (only_byte content)

-- the byte of an element that may begin or end a range: a byte or a collating symbol (rule 7)
abbrev pub end_point : Element → Option ℕ
end_point (Single b) = Some b
end_point (Enclosed c content) = if c == 46 then only_byte content else None

-- no range goes from one element to another: one of them can't end a range, or the second stands below the first
abbrev pub HaveNoRange : Element → Element → Type 0
HaveNoRange low high = (m n : ℕ) → end_point low ≡ Some m → end_point high ≡ Some n → n < m

-- the single byte `-`
abbrev pub is_dash : Element → Bool
is_dash (Single b) = b == 45
is_dash (Enclosed c content) = false

-- a `-` stands at the front that isn't the last element
abbrev pub ranges : List Element → Bool
ranges [] = false
ranges (d ∷ []) = false
ranges (d ∷ b ∷ es) = is_dash d

-- The bytes of the elements (rules 2 and 7). A `-` between two elements makes a range of them, and after a range no
-- other one may begin.
pub data MembersOf : List Element → Bytes → Type 0 where
  none : MembersOf [] empty
  alone : {a : Element} {es : List Element} {s t : Bytes} → member a ≡ Some s → ranges es ≡ false → MembersOf es t
      → MembersOf (a ∷ es) (union s t)
  range : {a d b : Element} {es : List Element} {m n : ℕ} {t : Bytes} → is_dash d ≡ true → end_point a ≡ Some m
      → end_point b ≡ Some n → m ≤ n → ranges es ≡ false → MembersOf es t
      → MembersOf (a ∷ d ∷ b ∷ es) (union (between m n) t)

-- a `^` stands at the front
abbrev pub negates : List ℕ → Bool
negates [] = false
negates (b ∷ t) = b == 94

-- a `[` stands at the front of a text, a `^` may follow, and then the elements
abbrev pub OpensBracket : List ℕ → List ℕ → Type 0
OpensBracket text elements = ((text ≡ 91 ∷ elements) × (negates elements ≡ false)) ⊎ (text ≡ 91 ∷ 94 ∷ elements)

-- A bracket and its set. With a `^` behind the `[` it is the complement (rule 3), taken after case was folded.
pub data IsBracket (fold : Bool) : List ℕ → Bytes → Type 0 where
  plain : {t : List ℕ} {es : List Element} {s : Bytes} → negates t ≡ false → Inside true t es → MembersOf es s
      → IsBracket fold (91 ∷ t) (folded fold s)
  negated : {t : List ℕ} {es : List Element} {s : Bytes} → Inside true t es → MembersOf es s
      → IsBracket fold (91 ∷ 94 ∷ t) (complement (folded fold s))
