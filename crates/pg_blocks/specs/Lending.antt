-- What a cutter ends as, where its room was lent.
use Rattle.std.specs.Prelude.{◌≡◌, ℕ, ◌≤◌, List, Vec, ◌++◌, length, take, drop}
use Rattle.std.specs.Borrow.{Lends, MutBor, Fml, RattleType, Array, u8}
use Rattle.std.specs.Vec.{with_items_from}
use Rattle.std.specs.declared.alloc.Allocator.{Ghosts}
use Rattle.std.proofs.Common.{◌∙◌, sym, ap, subst, arith, append_assoc}
use Rattle.std.proofs.lemmas.List.{take-take, take-append-le, length-take-le}
use Rattle.pg_blocks.specs.Blocks.{IsUnfinished}
use Rattle.pg_blocks.specs.declared.cutter.Cutter.{Cutter}
use Rattle.pg_blocks.specs.contracts.cutter.Cutter.{the_row}

-- what a buffer holds once these were written from a place on
abbrev written : {A : Type 0} → Vec ℕ A → ℕ → List ℕ → List ℕ
written v n ws = (with_items_from v n ws).items

-- what stands before a place stays where others are written from it on
pub front_stays : {A : Type 0} (v : Vec ℕ A) (n : ℕ) (ws : List ℕ) → n ≤ length v.items
    → take n (written v n ws) ≡ take n v.items
front_stays v n ws h =
    let behind = ws ++ drop (length ws) (drop n v.items) in
    let all = take n v.items ++ behind in
    let front = length-take-le n v.items h in
    take-take n v.len (all ++ drop (length all) v.items) (omega (arith, v.ok.0))
    ∙ (ap (take n) (append_assoc (take n v.items) behind (drop (length all) v.items))
    ∙ (take-append-le n (take n v.items) (behind ++ drop (length all) v.items) (omega (arith, front))
    ∙ take-take n n v.items (omega arith)))

-- a place within the items is so still once others are written from it on
pub within_stays : {A : Type 0} (v : Vec ℕ A) (n : ℕ) (ws : List ℕ) → n ≤ length v.items → n ≤ length (written v n ws)
within_stays v n ws h = omega (arith, h, v.ok.0, (with_items_from v n ws).ok.0)

-- what stands before a place has no finished block once others are written from it on, where it had none before
pub unfinished_stays : {A : Type 0} (end size : ℕ) (v : Vec ℕ A) (n : ℕ) (ws : List ℕ) → n ≤ length v.items
    → IsUnfinished end size (take n v.items) → IsUnfinished end size (take n (written v n ws))
unfinished_stays end size v n ws h unfinished =
    let P : List ℕ → Type 0 = λ xs. IsUnfinished end size xs in
    subst P (sym (front_stays v n ws h)) unfinished

-- the cutter with these bytes in its room
abbrev pub with_room : {A : Type 0} → Cutter A → List ℕ → Cutter A
with_room c bytes = record c {
  rest = with_items_from c.rest c.filled bytes;
  within = within_stays c.rest c.filled bytes c.within;
  unfinished = unfinished_stays c.end c.size c.rest c.filled bytes c.within c.unfinished;
}

-- once the borrow r ends, the room holds the bytes that r shows last
abbrev pub LendsRoom : (A : RattleType) → Ghosts A.Denot → MutBor (Cutter A.Denot) → MutBor (List ℕ) → Fml
LendsRoom A g c r = Lends (the_row A g) (Array u8 0) c r (with_room c.now)
