-- Globs, and the texts that they match (XCU 2.13). A slash and a leading dot are bytes like any other here, other than
-- where a shell looks for files.
use Rattle.std.specs.Prelude.{ℕ, zero, suc, ◌≡◌, Bool, true, false, ◌&&◌, ◌||◌, ◌==◌, if◌then◌else◌, List, [], ◌∷◌}
use Rattle.std.specs.Prelude.{◌++◌, Option, Some, None}
use Rattle.pg_bytes.specs.Sets.{Bytes, all, empty, one}
use Rattle.pg_glob.specs.Brackets.{Text, bracket_at}

-- what stands in a glob: `*`, which matches any bytes, or what matches one byte of a set
pub data GlobPiece : Type 0 where
  AnyBytes : GlobPiece
  OneOf : Bytes → GlobPiece

-- ---- how a glob is written

-- behind a backslash: the byte itself; at the glob's end it matches nothing
abbrev pub quoted : Text → GlobPiece × ℕ
quoted [] = (OneOf empty, 0)
quoted (x ∷ t) = (OneOf (one x), 1)

-- a `[` that no bracket goes on from stands for itself
abbrev pub bracket_or : Option (Bytes × ℕ) → GlobPiece × ℕ
bracket_or None = (OneOf (one 91), 0)
bracket_or (Some b) = (OneOf b.0, b.1)

-- the piece that a byte begins, and how many of the bytes behind it belong to that: `*` (42), `?` (63), a backslash
-- (92), `[` (91), or the byte itself
unfoldable pub piece : ℕ → Text → GlobPiece × ℕ
piece x t =
    if x == 42 then (AnyBytes, 0)
    else (if x == 63 then (OneOf all, 0)
    else (if x == 92 then quoted t
    else (if x == 91 then bracket_or (bracket_at t)
    else (OneOf (one x), 0))))

-- the pieces of a text, of which so many bytes belong to the piece before it
abbrev pub pieces_behind : ℕ → Text → List GlobPiece
pieces_behind k [] = []
pieces_behind zero (x ∷ t) = (piece x t).0 ∷ pieces_behind (piece x t).1 t
pieces_behind (suc k) (x ∷ t) = pieces_behind k t

abbrev pub pieces_of : Text → List GlobPiece
pieces_of t = pieces_behind 0 t

-- ---- what a glob matches

-- the pieces match all of the text
abbrev pub Matches : List GlobPiece → Text → Type 0
Matches [] t = t ≡ []
Matches (AnyBytes ∷ ps) t = (here : Text) × (rest : Text) × (t ≡ here ++ rest) × Matches ps rest
Matches (OneOf set ∷ ps) t = (x : ℕ) × (rest : Text) × (t ≡ x ∷ rest) × (set x ≡ true) × Matches ps rest

-- whether the pieces match all of the text, computed
abbrev pub matches : List GlobPiece → Text → Bool
matches [] [] = true
matches [] (x ∷ t) = false
matches (AnyBytes ∷ ps) [] = matches ps []
matches (AnyBytes ∷ ps) (x ∷ t) = matches ps (x ∷ t) || matches (AnyBytes ∷ ps) t
matches (OneOf set ∷ ps) [] = false
matches (OneOf set ∷ ps) (x ∷ t) = set x && matches ps t
