-- Announced blocks, their places and their results.
use Rattle.std.specs.Prelude.{◌≡◌, ℕ, zero, suc, ◌+◌, nat_lt, slice_get, Bool, false, ◌&&◌, is_some, Option, Some, None}
use Rattle.std.specs.Prelude.{IfSome, List, [], ◌∷◌, length, get_or, if◌then◌else◌}
use Rattle.std.specs.List.{prefix_len, list_any}
use Rattle.std.specs.Str.{bytes_eq}
use Rattle.std.specs.Arc.{arc_value}
use Rattle.pg_selection.specs.Search.{Search, HasItsTrees, terminator}
use Rattle.pg_blocks.specs.Lines.{lines}
use Rattle.pg_blocks.specs.Blocks.{BlockData}
use Rattle.pg_selection.specs.Selection.{selects}
use Rattle.pg_selection.specs.Searched.{SearchedBlock}
use Rattle.pg_plan.specs.History.{if_same}
use Rattle.pg_plan.specs.declared.answers.Arrival.{Arrival}
use Rattle.pg_plan.specs.declared.answers.Arrival.TheVariants.{Double, Stranger}
use Rattle.pg_seq.specs.declared.slot.Slot.{Slot}

-- where a file's block stands among all announced blocks, by the files' starts and the number of all blocks
abbrev pub place_of : List ℕ → ℕ → ℕ → ℕ → Option ℕ
place_of starts total file number =
    if nat_lt file (length starts) && nat_lt (get_or starts file 0 + number) (get_or starts (file + 1) total)
    then Some (get_or starts file 0 + number)
    else None

-- what stands at a place
abbrev pub at_place : {X : Type 0} → List X → Option ℕ → Option X
at_place xs None = None
at_place xs (Some k) = slice_get xs k

abbrev pub slot_block : {A : Type 0} → Slot A → BlockData
slot_block slot = arc_value slot.block

abbrev pub has_result : {A : Type 0} → Slot A → Bool
has_result slot = is_some slot.result

-- whether a result of the query has a selected line
abbrev pub result_selects : Search → Option SearchedBlock → Bool
result_selects q None = false
result_selects q (Some r) = list_any (selects q) (lines (terminator q) r.block.bytes)

abbrev pub slot_selects : {A : Type 0} → Search → Slot A → Bool
slot_selects q slot = result_selects q slot.result

-- how many slots from the first on have their results
abbrev pub ready : {A : Type 0} → List (Slot A) → ℕ
ready slots = prefix_len has_result slots

-- what a block with a slot's file and number is
abbrev pub slot_arrival : {A : Type 0} → Slot A → BlockData → Arrival
slot_arrival slot b = if has_result slot then Double else if_same (bytes_eq b.bytes (slot_block slot).bytes)

abbrev pub arrival_at_slot : {A : Type 0} → Option (Slot A) → BlockData → Arrival
arrival_at_slot None b = Stranger
arrival_at_slot (Some slot) b = slot_arrival slot b

-- what a block of the query is, by the files' starts and the slots of all announced blocks
abbrev pub arrival_among : {A : Type 0} → List ℕ → List (Slot A) → BlockData → Arrival
arrival_among starts slots b = arrival_at_slot (at_place slots (place_of starts (length slots) b.file b.number)) b

-- the slots with a result at a place
abbrev pub with_result : {A : Type 0} → List (Slot A) → ℕ → SearchedBlock → List (Slot A)
with_result [] k r = []
with_result (slot ∷ slots) zero r = record slot { result = Some r } ∷ slots
with_result (slot ∷ slots) (suc k) r = slot ∷ with_result slots k r

-- a result, where there is one, is the query's and the block's
abbrev pub IsResultOf : {A : Type 0} → Search → Slot A → Type 0
IsResultOf q slot = IfSome slot.result (λ r. (r.query ≡ q.text) × (r.block ≡ slot_block slot))

-- For the query whose result it is, this is whether a slot's result has a selected line.
pub record TellsSelected {A : Type 0} (slot : Slot A) (selected : Bool) : Type 0 where
  pub tells : (q : Search) → HasItsTrees q → IsResultOf q slot → selected ≡ slot_selects q slot
