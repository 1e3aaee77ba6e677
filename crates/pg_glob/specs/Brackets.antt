-- Bracket expressions in globs (XCU 2.13.1; XBD 9.3.5, with `!` for `^`, which is taken too). A backslash quotes the
-- byte behind it.
use Rattle.std.specs.Prelude.{ℕ, zero, suc, ◌+◌, ◌-◌, ◌&&◌, ◌||◌, ◌==◌, nat_lt, Bool, not, if◌then◌else◌, List, [], ◌∷◌}
use Rattle.std.specs.Prelude.{Option, Some, None, option_map, option_and_then, slice_index, drop, take, unwrap_or}
use Rattle.pg_bytes.specs.Sets.{Bytes, between, complement, empty, lower, one, union}
use Rattle.pg_bytes.specs.Classes.{class}

abbrev pub Text : Type 0
Text = List ℕ

-- `[`, a mark, any byte, the mark again and `]` stand at the head of a text: with a dot (46) as the mark it is `[.x.]`,
-- with an equals sign (61) `[=x=]`
unfoldable pub is_enclosed : ℕ → Text → Bool
is_enclosed mark t =
    (slice_index t 0 == 91 && slice_index t 1 == mark) && (slice_index t 3 == mark && slice_index t 4 == 93)

-- behind a backslash: the byte itself
abbrev pub quoted_byte : Text → Option (ℕ × ℕ)
quoted_byte [] = None
quoted_byte (x ∷ t) = Some (x, 2)

-- one byte that may begin or end a range, as it is written at the head of a text, and how many bytes write it: quoted
-- by a backslash (92), as `[.x.]`, or the byte itself
unfoldable pub single : Text → Option (ℕ × ℕ)
single [] = None
single (x ∷ t) =
    if x == 92 then quoted_byte t
    else (if is_enclosed 46 (x ∷ t) then Some (slice_index (x ∷ t) 2, 5) else Some (x, 1))

-- how many lower case letters a text begins with
abbrev pub count_of_letters : Text → ℕ
count_of_letters [] = 0
count_of_letters (x ∷ t) = if lower x then count_of_letters t + 1 else 0

-- behind `[:`: the class whose name has so many bytes, if `:]` (58 and 93) follows it, and how many bytes write all of
-- it; a name that no class has stands for no byte
abbrev pub class_named : Text → ℕ → Option (Bytes × ℕ)
class_named t n =
    if slice_index t n == 58 && slice_index t (n + 1) == 93
    then Some (unwrap_or (class (take n t)) empty, n + 4)
    else None

-- `[:name:]` at the head of a text
unfoldable pub class_at : Text → Option (Bytes × ℕ)
class_at [] = None
class_at (x ∷ []) = None
class_at (x ∷ y ∷ t) = if x == 91 && y == 58 then class_named t (count_of_letters t) else None

-- the other end of a range that goes on from this text: behind a hyphen (45), unless a `]` (93) follows that
unfoldable pub range_end : Text → Option (ℕ × ℕ)
range_end [] = None
range_end (x ∷ t) = if x == 45 && not (slice_index t 0 == 93) then single t else None

-- the range from one byte to another, or where there is no other the byte alone
abbrev pub range_or_one : ℕ × ℕ → Option (ℕ × ℕ) → Bytes × ℕ
range_or_one low None = (one low.0, low.1)
range_or_one low (Some high) = (between low.0 high.0, low.1 + 1 + high.1)

-- what begins with this byte: it alone, or a range
abbrev pub range_from : Text → ℕ × ℕ → Bytes × ℕ
range_from t low = range_or_one low (range_end (drop low.1 t))

-- a byte, or a range
abbrev pub range_at : Text → Option (Bytes × ℕ)
range_at t = option_map (range_from t) (single t)

-- what stands for members at the head of a text, and how many bytes write it: `[=x=]`, a class, a range or one byte
unfoldable pub member_at : Text → Option (Bytes × ℕ)
member_at t =
    if is_enclosed 61 t then Some (one (slice_index t 2), 5)
    else elim (class_at t) [ None ↦ range_at t | Some c ↦ Some c ]

-- The members from a place of a bracket on, up to its `]`, with those before it, and how many bytes they take with the
-- `]`. So many bytes belong to the member before the place, and so many stand before the place; a `]` that comes first
-- is a member.
abbrev pub members_behind : ℕ → Bytes → ℕ → Text → Option (Bytes × ℕ)
members_behind k set n [] = None
members_behind zero set n (x ∷ t) =
    if x == 93 && nat_lt 0 n then Some (set, n + 1)
    else option_and_then (λ m. members_behind (m.1 - 1) (union set m.0) (n + 1) t) (member_at (x ∷ t))
members_behind (suc k) set n (x ∷ t) = members_behind k set (n + 1) t

unfoldable pub members_at : Text → Option (Bytes × ℕ)
members_at t = members_behind 0 empty 0 t

-- the bytes that aren't in a set, which one byte more writes
abbrev pub complemented : Bytes × ℕ → Bytes × ℕ
complemented m = (complement m.0, m.1 + 1)

-- behind `[`: the set, and how many bytes write the rest of it
unfoldable pub bracket_at : Text → Option (Bytes × ℕ)
bracket_at [] = None
bracket_at (x ∷ t) = if x == 33 || x == 94 then option_map complemented (members_at t) else members_at (x ∷ t)
