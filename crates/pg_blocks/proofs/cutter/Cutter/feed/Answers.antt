use Rattle.std.proofs.Common.{◌≡◌, ◌∙◌, List, ℕ, length, take, subst, sym, ap, arith}
use Rattle.std.proofs.Math.Seq.{take-length}
use Rattle.pg_blocks.specs.Cutter.{IsCutterAfter, fed, room_of, FitsBehind}
use Rattle.pg_blocks.proofs.FeedLemmas.{piece_refused, memory_refused, piece_taken}
use Rattle.pg_blocks.proofs.cutter.Cutter.feed.Goals as goal

pub returns-in_err-line : goal.returns-in_err-line
returns-in_err-line g c = piece_refused c.from_residual.result c.in_err-line.ensures.why c.from_residual.ensures.1

pub returns-in_err-write_room : goal.returns-in_err-write_room
returns-in_err-write_room g c =
    let r = c.from_residual-in_err-write_room in
    memory_refused r.result c.in_ok-line.ensures.why r.ensures.1 c.in_err-write_room.ensures.keeps.stands

pub returns-in_err-take_in : goal.returns-in_err-take_in
returns-in_err-take_in g c =
    let r = c.from_residual-in_err-take_in in
    memory_refused r.result c.in_ok-line.ensures.why r.ensures.1
    (λ past s. c.in_err-take_in.ensures.err.stands past (c.in_ok-write_room.ensures.keeps.stands past s))

-- The room holds the piece, which is taken.

pub take_in-requires-clause-within : goal.take_in-requires-clause-within
take_in-requires-clause-within g c = omega (arith, ap length c.in_ok-write_room.ensures.room)

pub take_in-requires-clause-goes_on : goal.take_in-requires-clause-goes_on
take_in-requires-clause-goes_on g c =
    let mid = c.write_room.new.self in
    let piece = c.args.piece.now in
    let all : take (length piece) (room_of mid) ≡ piece =
    ap (take (length piece)) c.in_ok-write_room.ensures.room ∙ take-length piece in
    let P : List ℕ → Type 0 = λ xs. FitsBehind mid xs c.in_ok-line.line in
    subst P (sym all) (c.in_ok-write_room.ensures.goes_on c.in_ok-line.line c.in_ok-line.ensures.ok)

pub returns : goal.returns
returns g c =
    piece_taken c.in_ok-line.ensures.why
    (λ past s.
    let mid = c.write_room.new.self in
    let piece = c.args.piece.now in
    let all : take (length piece) (room_of mid) ≡ piece =
    ap (take (length piece)) c.in_ok-write_room.ensures.room ∙ take-length piece in
    let P : List ℕ → Type 0 = λ xs. IsCutterAfter c.take_in.new.self (fed past xs) in
    subst P all (c.in_ok-take_in.ensures.ok past (c.in_ok-write_room.ensures.keeps.stands past s)))
