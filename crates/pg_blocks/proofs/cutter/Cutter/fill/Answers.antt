use Rattle.std.proofs.Common.{List, ℕ, subst, refl, arith}
use Rattle.pg_blocks.specs.Cutter.{FitsBehind}
use Rattle.pg_blocks.proofs.BufferLemmas.{piece_is}
use Rattle.pg_blocks.proofs.RoomLemmas.{on_err}
use Rattle.pg_blocks.proofs.FaultLemmas.{piece_within, further}
use Rattle.pg_blocks.proofs.FeedLemmas.{piece_refused, memory_refused, piece_taken, told_alike}
use Rattle.pg_blocks.proofs.cutter.Cutter.fill.Goals as goal

-- a piece that the file can't go on with

pub returns-in_err-line-clause-fed : goal.returns-in_err-line-clause-fed
returns-in_err-line-clause-fed g c =
    let self = c.args.self.now in
    let is = piece_is self.filled c.args.count self.rest.items c.deref.result.now c.deref.ensures.value in
    piece_refused c.from_residual.result (told_alike is c.in_err-line.ensures.why) c.from_residual.ensures.1

pub returns-in_err-line-clause-same : goal.returns-in_err-line-clause-same
returns-in_err-line-clause-same g c = on_err _ c.from_residual.result refl

-- no memory for its blocks

pub returns-in_err-take_in-clause-fed : goal.returns-in_err-take_in-clause-fed
returns-in_err-take_in-clause-fed g c =
    let self = c.args.self.now in
    let is = piece_is self.filled c.args.count self.rest.items c.deref.result.now c.deref.ensures.value in
    let r = c.from_residual-in_err-take_in in
    memory_refused r.result (told_alike is c.in_ok-line.ensures.why) r.ensures.1 c.in_err-take_in.ensures.err.stands

pub returns-in_err-take_in-clause-same : goal.returns-in_err-take_in-clause-same
returns-in_err-take_in-clause-same g c = on_err _ c.from_residual-in_err-take_in.result c.in_err-take_in.ensures.same

-- the bytes of the room are taken

pub take_in-requires-clause-goes_on : goal.take_in-requires-clause-goes_on
take_in-requires-clause-goes_on g c =
    let self = c.args.self.now in
    let is = piece_is self.filled c.args.count self.rest.items c.deref.result.now c.deref.ensures.value in
    let P : List ℕ → Type 0 = λ xs. FitsBehind self xs c.in_ok-line.line in
    subst P is c.in_ok-line.ensures.ok

pub returns-clause-fed : goal.returns-clause-fed
returns-clause-fed g c =
    let self = c.args.self.now in
    let is = piece_is self.filled c.args.count self.rest.items c.deref.result.now c.deref.ensures.value in
    piece_taken (told_alike is c.in_ok-line.ensures.why) c.in_ok-take_in.ensures.ok

pub returns-clause-same : goal.returns-clause-same
returns-clause-same g c = tt

pub overflow_add-self : goal.overflow_add-self
overflow_add-self g c =
    let within = piece_within c.args.self.now.rest.items c.args.self.now.within c.requires in
    omega arith

pub slice_bounds-line_behind-count : goal.slice_bounds-line_behind-count
slice_bounds-line_behind-count g c = further c.args.self.now.filled c.args.count

pub slice_bounds-line_behind-start : goal.slice_bounds-line_behind-start
slice_bounds-line_behind-start g c =
    let within = piece_within c.args.self.now.rest.items c.args.self.now.within c.requires in
    omega arith

pub slice_bounds-line_behind-end : goal.slice_bounds-line_behind-end
slice_bounds-line_behind-end g c =
    let within = piece_within c.args.self.now.rest.items c.args.self.now.within c.requires in
    omega arith
