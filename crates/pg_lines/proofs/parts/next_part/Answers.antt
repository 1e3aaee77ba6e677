use Rattle.std.proofs.Common.{length}
use Rattle.pg_selection.specs.Search.{bounds_of}
use Rattle.pg_prefilter.proofs.NearLemmas.{within_behind, piece_behind}
use Rattle.pg_lines.proofs.PartLemmas.{machine_of, part_within}
use Rattle.pg_lines.proofs.parts.next_part.Goals as goal

pub returns-in-Found-clause-within : goal.returns-in-Found-clause-within
returns-in-Found-clause-within g c =
    let own = c.machine-machine.ensures.compiled in
    let next = c.in-Found.ensures own.0 own.1 in
    (next.later, next.some, next.hit.within)

pub returns-in-Found-clause-next : goal.returns-in-Found-clause-next
returns-in-Found-clause-next g c = λ trees spelled. c.in-Found.ensures trees spelled

pub returns-in-Nowhere-clause-next : goal.returns-in-Nowhere-clause-next
returns-in-Nowhere-clause-next g c = λ trees spelled i j low some hit. c.in-Nowhere.ensures trees spelled i j low hit

pub returns-in-OnlyEmpty-clause-next : goal.returns-in-OnlyEmpty-clause-next
returns-in-OnlyEmpty-clause-next g c = λ trees spelled. c.in-OnlyEmpty.ensures trees spelled

pub returns-in-GaveUp-clause-within : goal.returns-in-GaveUp-clause-within
returns-in-GaveUp-clause-within g c =
    let q = c.args.query.now in
    let own = c.machine-machine.ensures.compiled in
    let is = machine_of q c.machine-machine.result.now c.machine-machine.ensures.machine own in
    part_within own.0 (bounds_of q.text) c.args.line.now c.args.from c.next_part-in-GaveUp.result
    (c.next_part-in-GaveUp.ensures.next own.0 (bounds_of q.text) (is own.0 own.1))

pub returns-in-GaveUp-clause-next : goal.returns-in-GaveUp-clause-next
returns-in-GaveUp-clause-next g c = λ trees spelled.
    let q = c.args.query.now in
    let own = c.machine-machine.ensures.compiled in
    let is = machine_of q c.machine-machine.result.now c.machine-machine.ensures.machine own in
    c.next_part-in-GaveUp.ensures.next trees (bounds_of q.text) (is trees spelled)

pub next_part-requires-clause-from_in : goal.next_part-requires-clause-from_in
next_part-requires-clause-from_in g c =
    let own = c.machine-machine.ensures.compiled in
    (c.in-Behind.ensures own.0 own.1).1

pub returns-in-Behind-clause-within : goal.returns-in-Behind-clause-within
returns-in-Behind-clause-within g c =
    let q = c.args.query.now in
    let own = c.machine-machine.ensures.compiled in
    let is = machine_of q c.machine-machine.result.now c.machine-machine.ensures.machine own in
    let behind = c.in-Behind.ensures own.0 own.1 in
    within_behind c.args.from c.in-Behind.place (length c.args.line.now) c.next_part.result behind.0
    (part_within own.0 (bounds_of q.text) c.args.line.now c.in-Behind.place c.next_part.result
    (c.next_part.ensures.next own.0 (bounds_of q.text) (is own.0 own.1)))

pub returns-in-Behind-clause-next : goal.returns-in-Behind-clause-next
returns-in-Behind-clause-next g c = λ trees spelled.
    let q = c.args.query.now in
    let own = c.machine-machine.ensures.compiled in
    let is = machine_of q c.machine-machine.result.now c.machine-machine.ensures.machine own in
    let behind = c.in-Behind.ensures trees spelled in
    piece_behind trees (bounds_of q.text) c.args.line.now c.args.from c.in-Behind.place behind.2 behind.0
    c.next_part.result (c.next_part.ensures.next trees (bounds_of q.text) (is trees spelled))
