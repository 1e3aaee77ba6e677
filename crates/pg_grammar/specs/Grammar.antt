-- Which text spells which pattern (XBD 9.3 and 9.4; XCU grep for fixed strings). The texts of the two expression
-- syntaxes have one grammar, which differs where they do.
use Rattle.std.specs.Prelude.{ℕ, suc, ◌≡◌, ◌≢◌, ◌<◌, ◌≤◌, Bool, not, ◌==◌, List, [], ◌∷◌}
use Rattle.std.specs.Prelude.{◌++◌, length, Option, Some, None, IsTrue, ◌⊎◌, codes}
use Rattle.std.specs.List.{list_any}
use Prim.Native.String.{String}
use Rattle.pg_bytes.specs.Sets.{Bytes, one, all}
use Rattle.pg_pattern.specs.Patterns.{Pattern, Empty, Set, Begin, End, Cat, Alt, Rep, folded}
use Rattle.pg_grammar.specs.Brackets.{IsBracket}
use Rattle.pg_grammar.specs.Intervals.{IsBounds}
use Rattle.pg_grammar.specs.declared.syntax.Syntax.{Syntax}
use Rattle.pg_grammar.specs.declared.syntax.Syntax.TheVariants as S
use Rattle.pg_grammar.specs.declared.syntax.Syntax.TheVariants.{Basic, Extended}
use Rattle.pg_grammar.specs.declared.pattern_list.Kind.{Kind}
use Rattle.pg_grammar.specs.declared.pattern_list.Kind.TheVariants as K

infix 60 ◌∈◌
-- the byte is one of the string's
abbrev pub ◌∈◌ : ℕ → String → Bool
b ∈ s = list_any (λ c. b == c) (codes s)

-- what opens a group (XBD 9.3.6, 9.4.6)
abbrev pub opening : Syntax → List ℕ
opening Basic = 92 ∷ 40 ∷ []
opening Extended = 40 ∷ []

-- what closes a group
abbrev pub closing : Syntax → List ℕ
closing Basic = 92 ∷ 41 ∷ []
closing Extended = 41 ∷ []

-- what opens an interval (XBD 9.3.6, 9.4.6)
abbrev pub brace : Syntax → List ℕ
brace Basic = 92 ∷ 123 ∷ []
brace Extended = 123 ∷ []

-- what closes an interval
abbrev pub unbrace : Syntax → List ℕ
unbrace Basic = 92 ∷ 125 ∷ []
unbrace Extended = 125 ∷ []

-- a byte that a backslash makes ordinary: the special ones (XBD 9.3.2, 9.4.2), and some whose escape XBD leaves open
abbrev pub is_escaped : Syntax → ℕ → Bool
is_escaped Basic b = b ∈ ".[]\\*^$/-\"#%&,:;=@!~"
is_escaped Extended b = b ∈ ".[]\\()*+?{}|^$/-\"#%&,:;=@!~"

-- A byte that stands for itself (XBD 9.3.2, 9.3.3, 9.3.8; 9.4.2, 9.4.3, 9.4.9), in d groups, where `before` and
-- `after` are the rest of its body: in a basic expression also `^` that isn't first, `$` that isn't last, and `*` that
-- is first or follows the `^` that is; in an extended one also `)` outside all groups.
abbrev pub IsOrdinary : Syntax → ℕ → List ℕ → ℕ → List ℕ → Type 0
IsOrdinary Basic d before b after =
    IsTrue (not (b ∈ "\\[.")) × (b ≡ 94 → before ≢ []) × (b ≡ 36 → after ≢ [])
    × (b ≡ 42 → (before ≡ []) ⊎ (before ≡ 94 ∷ []))
IsOrdinary Extended d before b after = IsTrue (not (b ∈ "\\[.(*+?{^$|")) × (b ≡ 41 → d ≡ 0)

-- what repeats the item to its left, with the least and the greatest count (XBD 9.3.6, 9.4.6)
pub data Mark (syntax : Syntax) : List ℕ → ℕ → Option ℕ → Type 0 where
  star : Mark syntax (42 ∷ []) 0 None
  plus : syntax ≡ Extended → Mark syntax (43 ∷ []) 1 None
  question : syntax ≡ Extended → Mark syntax (63 ∷ []) 0 (Some 1)
  interval : {t : List ℕ} {m : ℕ} {n : Option ℕ} → IsBounds t m n
      → Mark syntax (brace syntax ++ (t ++ unbrace syntax)) m n

mutual
  -- An ordinary byte, an escaped one, `.` (XBD 9.3.4, 9.4.4, which except NUL: here every file is text, and `.` is any
  -- byte), a bracket, or a group (XBD 9.3.6, 9.4.6) within at most 99 others, where `before` and `after` are the rest
  -- of its body. A group is what stands in it. The `$` of an extended expression is one too (XBD 9.4.9).
  pub data Atom (syntax : Syntax) (fold : Bool) : (before text after : List ℕ) → Pattern → ℕ → Type 0 where
    byte : {before after : List ℕ} {b d : ℕ} → IsOrdinary syntax d before b after
        → Atom syntax fold before (b ∷ []) after (Set (folded fold (one b))) d
    escape : {before after : List ℕ} {b d : ℕ} → IsTrue (is_escaped syntax b)
        → Atom syntax fold before (92 ∷ b ∷ []) after (Set (folded fold (one b))) d
    dot : {before after : List ℕ} {d : ℕ} → Atom syntax fold before (46 ∷ []) after (Set all) d
    bracket : {before text after : List ℕ} {s : Bytes} {d : ℕ} → IsBracket fold text s
        → Atom syntax fold before text after (Set s) d
    group : {before text after : List ℕ} {p : Pattern} {d : ℕ} → d < 100 → Body syntax fold text p (suc d)
        → Atom syntax fold before (opening syntax ++ (text ++ closing syntax)) after p d
    dollar : {before after : List ℕ} {d : ℕ} → syntax ≡ Extended → Atom syntax fold before (36 ∷ []) after End d

  -- An atom and its marks. Several in a row are undefined in the standard (XBD 9.3.6, 9.4.6); here each repeats all
  -- that stands to its left in the item.
  pub data Item (syntax : Syntax) (fold : Bool) : (before text after : List ℕ) → Pattern → ℕ → Type 0 where
    atom : {before text after : List ℕ} {p : Pattern} {d : ℕ} → Atom syntax fold before text after p d
        → Item syntax fold before text after p d
    marked : {before text mark after : List ℕ} {p : Pattern} {m : ℕ} {n : Option ℕ} {d : ℕ}
        → Item syntax fold before text (mark ++ after) p d → Mark syntax mark m n
        → Item syntax fold before (text ++ mark) after (Rep p m n) d

  -- an item, or an anchor that takes no mark: in a basic expression `^` first and `$` last (XBD 9.3.8), in an extended
  -- one `^` anywhere (XBD 9.4.9)
  pub data Piece (syntax : Syntax) (fold : Bool) : (before text after : List ℕ) → Pattern → ℕ → Type 0 where
    item : {before text after : List ℕ} {p : Pattern} {d : ℕ} → Item syntax fold before text after p d
        → Piece syntax fold before text after p d
    begin : {after : List ℕ} {d : ℕ} → syntax ≡ Basic → Piece syntax fold [] (94 ∷ []) after Begin d
    end : {before : List ℕ} {d : ℕ} → syntax ≡ Basic → Piece syntax fold before (36 ∷ []) [] End d
    caret : {before after : List ℕ} {d : ℕ} → syntax ≡ Extended → Piece syntax fold before (94 ∷ []) after Begin d

  -- one or more pieces from the front of a body on (XBD 9.3.6, 9.4.6: concatenation), where `after` is the rest of it
  pub data Seq (syntax : Syntax) (fold : Bool) : (text after : List ℕ) → Pattern → ℕ → Type 0 where
    first : {text after : List ℕ} {p : Pattern} {d : ℕ} → Piece syntax fold [] text after p d
        → Seq syntax fold text after p d
    more : {text next after : List ℕ} {p q : Pattern} {d : ℕ} → Seq syntax fold text (next ++ after) p d
        → Piece syntax fold text next after q d → Seq syntax fold (text ++ next) after (Cat p q) d

  -- the whole text, or what stands in a group: in an extended expression one or more alternatives (XBD 9.4.7)
  pub data Body (syntax : Syntax) (fold : Bool) : List ℕ → Pattern → ℕ → Type 0 where
    single : {text : List ℕ} {p : Pattern} {d : ℕ} → Seq syntax fold text [] p d → Body syntax fold text p d
    bar : {text next : List ℕ} {p q : Pattern} {d : ℕ} → syntax ≡ Extended → Body syntax fold text p d
        → Seq syntax fold next [] q d → Body syntax fold (text ++ 124 ∷ next) (Alt p q) d

-- one or more bytes that stand for themselves (XCU grep, -F)
pub data Literal (fold : Bool) : List ℕ → Pattern → Type 0 where
  first : (b : ℕ) → Literal fold (b ∷ []) (Set (folded fold (one b)))
  more : {text : List ℕ} {p : Pattern} → Literal fold text p → (b : ℕ)
      → Literal fold (text ++ b ∷ []) (Cat p (Set (folded fold (one b))))

-- a text that isn't empty, as an expression of its kind
abbrev pub Expression : Kind → Bool → List ℕ → Pattern → Type 0
Expression K.Basic fold text p = Body S.Basic fold text p 0
Expression K.Extended fold text p = Body S.Extended fold text p 0
Expression K.Fixed fold text p = Literal fold text p

-- The text, of at most 4,096 bytes, spells the pattern. The empty text spells the empty pattern.
pub data Spells (kind : Kind) (fold : Bool) : List ℕ → Pattern → Type 0 where
  nothing : Spells kind fold [] Empty
  some : {text : List ℕ} {p : Pattern} → length text ≤ 4096 → Expression kind fold text p → Spells kind fold text p
