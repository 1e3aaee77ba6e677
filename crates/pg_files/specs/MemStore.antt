-- What a store in memory holds, and what it has left of the open file.
use Rattle.std.specs.Prelude.{◌≡◌, ℕ, nat_eq, min, List, [], ◌∷◌, map, length, take, drop, Option, Some, None, Result}
use Rattle.std.specs.Prelude.{Ok, Err, slice_get, if◌then◌else◌, option_and_then, option_map}
use Rattle.std.specs.String.{string_bytes}
use Rattle.std.specs.declared.alloc.Allocator.{Ghosts}
use lib.Pointwise.{pointwise}
use Rattle.pg_files.specs.declared.mem_store.Ending.{Ending}
use Rattle.pg_files.specs.declared.mem_store.Ending.TheVariants.{Ends, Fails}
use Rattle.pg_files.specs.declared.mem_store.MemFile.{MemFile}
use Rattle.pg_files.specs.declared.mem_store.MemStore.{MemStore}

-- bytes that reads give, and what happens behind them
pub record MemContent : Type 0 where
  pub bytes : List ℕ
  pub ending : Ending

abbrev pub stored_file : MemFile → List ℕ × MemContent
stored_file file = (string_bytes file.path, record { bytes = file.bytes.items; ending = file.ending })

-- the paths with their files, in the order in which they were added
abbrev pub files : {A : Type 0} {asks : Ghosts A} → MemStore A asks → List (List ℕ × MemContent)
files store = map stored_file store.files.items

-- the first file at a path
abbrev pub file_at : List (List ℕ × MemContent) → List ℕ → Option MemContent
file_at [] path = None
file_at (f ∷ fs) path = if pointwise nat_eq f.0 path then Some f.1 else file_at fs path

-- the content behind its first bytes
abbrev pub content_behind : ℕ → MemContent → MemContent
content_behind count content = record content { bytes = drop count content.bytes }

-- what a file has left behind its first bytes, if one is open
abbrev pub left_of : List (List ℕ × MemContent) → Option ℕ → ℕ → Option MemContent
left_of fs place at = option_map (λ f. content_behind at f.1) (option_and_then (slice_get fs) place)

-- what the open file has left
abbrev pub content_left : {A : Type 0} {asks : Ghosts A} → MemStore A asks → Option MemContent
content_left store = left_of (files store) store.open store.at

-- bytes are left, or the file ends
abbrev pub MayRead : MemContent → Type 0
MayRead content = content.bytes ≡ [] → content.ending ≡ Ends

-- A read with room for so many bytes gives as many of those that are left as it may, and into a buffer. It fails where
-- no file is open, and exactly where nothing is left of one that fails.
abbrev pub TakesContent : {E : Type 0} → Option MemContent → Option MemContent → ℕ → List ℕ → Result ℕ E → Type 0
TakesContent None after room into (Ok count) = ⊥
TakesContent None after room into (Err _) = after ≡ None
TakesContent (Some content) after room into (Ok count) =
    MayRead content × (count ≡ min (length content.bytes) room) × (take count into ≡ take count content.bytes)
    × (after ≡ Some (content_behind count content))
TakesContent (Some content) after room into (Err _) = (content.bytes ≡ []) × (content.ending ≡ Fails)
    × (after ≡ Some content)

-- These are all bytes that the open file has left, and none are left behind them.
abbrev pub TakesAll : Option MemContent → Option MemContent → List ℕ → Type 0
TakesAll None after taken = ⊥
TakesAll (Some content) after taken =
    (taken ≡ content.bytes) × (after ≡ Some (content_behind (length taken) content))
