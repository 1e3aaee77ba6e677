-- The room behind the open block.
use Rattle.std.proofs.Common.{◌≡◌, ℕ, ◌+◌, ◌<◌, ◌≤◌, ◌^◌, refl, List, Vec, ◌++◌, length, take, sym, ap, ◌∙◌, subst}
use Rattle.std.proofs.Common.{Result, Ok, Err}
use Rattle.std.specs.Prelude.{OnErr}
use Rattle.std.proofs.Props.{props}
use Rattle.pg_blocks.specs.Blocks.{BlockData, AreNumbered, IsUnfinished}
use Rattle.pg_blocks.specs.Cutter.{CutterPast, CutsFed, IsCutterAfter, KeepsCutter, bytes_held, room_of}
use Rattle.pg_blocks.specs.Lending.{front_stays, with_room}
use Rattle.pg_blocks.specs.declared.cutter.Cutter.{Cutter}
use Rattle.pg_blocks.proofs.BufferLemmas.{back_is}

-- a cutter with the same open block that is the same but for its room
pub held_stays : {A : Type 0} (old new : Cutter A) (past : CutterPast) → IsCutterAfter old past
    → new.file ≡ old.file → new.size ≡ old.size → new.longest ≡ old.longest → new.end ≡ old.end
    → new.number ≡ old.number → new.total ≡ old.total → new.line ≡ old.line
    → new.ready.items ≡ old.ready.items → bytes_held new ≡ bytes_held old → IsCutterAfter new past
held_stays old new past s file size longest end number total line ready same =
    let C : List BlockData → Type 0 = λ bs. CutsFed past (past.taken ++ bs) (bytes_held old) in
    let D : List ℕ → Type 0 = λ xs. CutsFed past (past.taken ++ new.ready.items) xs in
    let N : List BlockData → Type 0 = λ bs. AreNumbered past.file 0 (past.taken ++ bs) in
    record {
      terminator = s.terminator ∙ sym end;
      file = s.file ∙ sym file;
      size = s.size ∙ sym size;
      longest = s.longest ∙ sym longest;
      cut = subst D (sym same) (subst C (sym ready) s.cut);
      numbered = subst N (sym ready) s.numbered;
      next = number ∙ (s.next ∙ ap (λ bs. length (past.taken ++ bs)) (sym ready));
      total = total ∙ s.total;
      short = s.short;
      line = line ∙ s.line;
    }

-- a cutter with another buffer, by the facts that it keeps
abbrev Facts : {A : Type 0} → Cutter A → Vec ℕ A → Type 0
Facts c rest =
    ((0 < c.size) × (c.size ≤ 2 ^ 24)) × (c.filled ≤ length rest.items)
    × IsUnfinished c.end c.size (take c.filled rest.items) × (c.total ≤ 2 ^ 62) × (c.number + c.filled ≤ c.total)
    × (c.line ≤ c.longest)

abbrev with_facts : {A : Type 0} (c : Cutter A) (rest : Vec ℕ A) → Facts c rest → Cutter A
with_facts c rest f =
    record c { rest = rest; sized = f.0; within = f.1; unfinished = f.2; few = f.3; numbers = f.4; line_fits = f.5 }

pub same_facts : {A : Type 0} (c : Cutter A) (rest : Vec ℕ A) (f g : Facts c rest)
    → with_facts c rest f ≡ with_facts c rest g
same_facts c rest f g =
    let one : (a b : Facts c rest) → a ≡ b = Prim.hlevel props in
    ap (with_facts c rest) (one f g)

-- a cutter whose room was written
pub written_room : {A : Type 0} (c : Cutter A) (bytes : List ℕ) → length bytes ≡ length (room_of c)
    → KeepsCutter c (with_room c bytes) × (room_of (with_room c bytes) ≡ bytes)
written_room c bytes fits =
    let same = front_stays c.rest c.filled bytes c.within in (
      record {
        stands = λ past s. held_stays c (with_room c bytes) past s refl refl refl refl refl refl refl refl same;
        drained = λ d. d;
      },
      back_is c.rest c.filled bytes c.within fits,
    )

pub on_err : {T E : Type 0} (P : Type 0) (r : Result T E) → P → OnErr r P
on_err P (Ok x) h = tt
on_err P (Err e) h = h
