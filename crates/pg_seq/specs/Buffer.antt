-- What the calls of a reorder buffer do to it.
use Rattle.std.specs.Prelude.{◌≡◌, ℕ, ◌+◌, ◌≤◌, true, false, ◌||◌, Some, None, List, [], ◌∷◌, ◌++◌, length, drop}
use Rattle.std.specs.List.{AllByRecursion}
use Rattle.pg_selection.specs.Search.{Search, HasItsTrees}
use Rattle.pg_blocks.specs.Blocks.{BlockData}
use Rattle.pg_selection.specs.Searched.{SearchedBlock}
use Rattle.pg_seq.specs.Slots.{slot_block, has_result, slot_selects, place_of, arrival_among, with_result, IsResultOf}
use Rattle.pg_plan.specs.declared.answers.Arrival.{Arrival}
use Rattle.pg_seq.specs.declared.slot.Slot.{Slot}
use Rattle.pg_seq.specs.declared.reorder_buffer.ReorderBuffer.{ReorderBuffer}

-- slots that can be those of the blocks that were handed out: as many, and each with its result
pub record AreGone {A : Type 0} (buffer : ReorderBuffer A) (gone : List (Slot A)) : Type 0 where
  pub count : length gone ≡ buffer.handed
  pub results : AllByRecursion (λ slot. has_result slot ≡ true) gone

-- no file and no block has come
pub record IsUnused {A : Type 0} (buffer : ReorderBuffer A) : Type 0 where
  pub starts : buffer.starts ≡ []
  pub slots : buffer.slots.items ≡ []
  pub handed : buffer.handed ≡ 0
  pub selected : buffer.selected ≡ false

-- nothing but the room has changed
pub record SameButRoom {A : Type 0} (old new : ReorderBuffer A) : Type 0 where
  pub starts : new.starts ≡ old.starts
  pub slots : new.slots.items ≡ old.slots.items
  pub handed : new.handed ≡ old.handed
  pub selected : new.selected ≡ old.selected

-- a file comes that starts behind all announced blocks
pub record OpensFile {A : Type 0} (old new : ReorderBuffer A) : Type 0 where
  pub starts : new.starts ≡ old.starts ++ (old.handed + length old.slots.items) ∷ []
  pub slots : new.slots.items ≡ old.slots.items
  pub handed : new.handed ≡ old.handed
  pub selected : new.selected ≡ old.selected

-- a block without a result comes last
pub record Pushes {A : Type 0} (block : BlockData) (old new : ReorderBuffer A) : Type 0 where
  pub slot : Slot A
  pub is : slot_block slot ≡ block
  pub empty : slot.result ≡ None
  pub starts : new.starts ≡ old.starts
  pub slots : new.slots.items ≡ old.slots.items ++ slot ∷ []
  pub handed : new.handed ≡ old.handed
  pub selected : new.selected ≡ old.selected

-- a block of the query is this, by the slots that are held and those that were given up
abbrev pub IsArrival : {A : Type 0} → ReorderBuffer A → BlockData → Arrival → Type 0
IsArrival {A} buffer block arrival =
    (gone : List (Slot A)) → AreGone buffer gone →
    arrival ≡ arrival_among buffer.starts (gone ++ buffer.slots.items) block

-- a result stands at its block's place
pub record Puts {A : Type 0} (found : SearchedBlock) (old new : ReorderBuffer A) : Type 0 where
  pub starts : new.starts ≡ old.starts
  pub slots : (gone : List (Slot A)) (k : ℕ) → length gone ≡ old.handed → old.handed ≤ k →
      place_of old.starts (length (gone ++ old.slots.items)) found.block.file found.block.number ≡ Some k →
      gone ++ new.slots.items ≡ with_result (gone ++ old.slots.items) k found
  pub handed : new.handed ≡ old.handed
  pub selected : new.selected ≡ old.selected

-- The first block was given up. Of what is selected this speaks for the query whose result it has.
pub record HandsOut {A : Type 0} (slot : Slot A) (old new : ReorderBuffer A) : Type 0 where
  pub starts : new.starts ≡ old.starts
  pub slots : old.slots.items ≡ slot ∷ new.slots.items
  pub handed : new.handed ≡ old.handed + 1
  pub selected : (q : Search) → HasItsTrees q → IsResultOf q slot →
      new.selected ≡ (old.selected || slot_selects q slot)

-- the block behind so many has this result
pub record HasResult {A : Type 0} (buffer : ReorderBuffer A) (count : ℕ) (found : SearchedBlock) : Type 0 where
  pub slot : Slot A
  pub later : List (Slot A)
  pub slots : drop count buffer.slots.items ≡ slot ∷ later
  pub result : slot.result ≡ Some found
