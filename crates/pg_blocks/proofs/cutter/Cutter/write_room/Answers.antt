use Rattle.std.proofs.Common.{◌∙◌, ◌++◌, ℕ, List, cond, is_ok, subst, sym, ap, refl, take}
use Rattle.std.proofs.lemmas.List.{length-take-le}
use Rattle.pg_blocks.specs.Blocks.{IsUnfinished}
use Rattle.pg_blocks.proofs.BufferLemmas.{put_behind}
use Rattle.pg_blocks.proofs.RoomLemmas.{held_stays}
use Rattle.pg_blocks.proofs.cutter.Cutter.write_room.Goals as goal

pub invariant_of-self : goal.invariant_of-self
invariant_of-self g c =
    let self = c.args.self.now in
    let piece = c.args.piece.now in
    let size = length-take-le self.filled self.rest.items self.within in
    let r = c.extend_from_slice.result in
    let is = c.extend_from_slice.ensures.items
    ∙ ap (λ xs. cond (is_ok r) (xs ++ piece) xs) c.truncate.ensures.items in
    let put = put_behind r self.filled (take self.filled self.rest.items) piece _ size is in
    let P : List ℕ → Type 0 = λ xs. IsUnfinished self.end self.size xs in
    record {
      sized = self.sized;
      within = put.1;
      unfinished = subst P (sym put.0) self.unfinished;
      few = self.few;
      numbers = self.numbers;
      line_fits = self.line_fits;
    }

pub returns-clause-room : goal.returns-clause-room
returns-clause-room g c =
    let self = c.args.self.now in
    let piece = c.args.piece.now in
    let size = length-take-le self.filled self.rest.items self.within in
    let r = c.extend_from_slice.result in
    let is = c.extend_from_slice.ensures.items
    ∙ ap (λ xs. cond (is_ok r) (xs ++ piece) xs) c.truncate.ensures.items in
    (put_behind r self.filled (take self.filled self.rest.items) piece _ size is).2

pub returns-clause-keeps : goal.returns-clause-keeps
returns-clause-keeps g c =
    let self = c.args.self.now in
    let piece = c.args.piece.now in
    let size = length-take-le self.filled self.rest.items self.within in
    let r = c.extend_from_slice.result in
    let is = c.extend_from_slice.ensures.items
    ∙ ap (λ xs. cond (is_ok r) (xs ++ piece) xs) c.truncate.ensures.items in
    let held' = (put_behind r self.filled (take self.filled self.rest.items) piece _ size is).0 in
    record {
      stands = λ past s. held_stays self _ past s refl refl refl refl refl refl refl refl held';
      drained = λ d. d;
    }

pub returns-clause-goes_on : goal.returns-clause-goes_on
returns-clause-goes_on g c = λ n h. record { fits = h.fits; within = h.within; short = h.short; behind = h.behind }
