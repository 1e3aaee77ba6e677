use Rattle.std.proofs.Common.{◌≤◌, ℕ, List, length, sym, subst, arith, refl, is_ok, length-drop}
use Rattle.pg_blocks.specs.Blocks.{IsUnfinished}
use Rattle.pg_blocks.proofs.BufferLemmas.{front_grown, length_grown, room_made}
use Rattle.pg_blocks.proofs.RoomLemmas.{held_stays}
use Rattle.pg_blocks.proofs.cutter.Cutter.make_room.Goals as goal

pub invariant_of-self : goal.invariant_of-self
invariant_of-self g c =
    let self = c.take_spare.new.self in
    let len = c.buffer_len-len.result in
    let old = self.rest.items in
    let grown : length old ≤ len = omega (arith, c.if-len.false, c.len-2.ensures, self.rest.ok.0) in
    let longer =
    length_grown (is_ok c.resize.result) c.resize.new.self.len len self.rest.len (omega (arith, grown, self.rest.ok.0))
    c.resize.ensures.len in
    let P : List ℕ → Type 0 = λ xs. IsUnfinished self.end self.size xs in
    record {
      sized = self.sized;
      within = omega (arith, self.within, longer, self.rest.ok.0, c.resize.new.self.ok.0);
      unfinished =
          subst P (sym (front_grown _ self.filled len old _ _ self.within grown c.resize.ensures.items))
          self.unfinished;
      few = self.few;
      numbers = self.numbers;
      line_fits = self.line_fits;
    }

pub returns-clause-keeps : goal.returns-clause-keeps
returns-clause-keeps g c =
    let self = c.take_spare.new.self in
    let len = c.buffer_len-len.result in
    let old = self.rest.items in
    let grown : length old ≤ len = omega (arith, c.if-len.false, c.len-2.ensures, self.rest.ok.0) in
    let same = front_grown _ self.filled len old _ _ self.within grown c.resize.ensures.items in
    let kept = c.take_spare.ensures in
    record {
      stands = λ past s. held_stays self _ past (kept.stands past s) refl refl refl refl refl refl refl refl same;
      drained = λ d. kept.drained d;
    }

pub returns-then-len-clause-some : goal.returns-then-len-clause-some
returns-then-len-clause-some g c =
    let self = c.take_spare.new.self in
    let behind = length-drop self.filled self.rest.items in
    omega (arith, behind, self.rest.ok.0, c.buffer_len-len.ensures, c.if-len.true, c.len-2.ensures)

pub returns-clause-some : goal.returns-clause-some
returns-clause-some g c =
    let new = c.resize.new.self in
    room_made c.resize.result c.take_spare.new.self.filled c.buffer_len-len.result new.len _ new.items new.ok.0
    c.buffer_len-len.ensures c.resize.ensures.len
