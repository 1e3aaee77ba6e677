use Rattle.std.proofs.Common.{◌≡◌, ◌∙◌, List, ℕ, ap}
use Rattle.std.specs.Arc.{arc_value}
use Rattle.pg_tests.proofs.ReadingLemmas.{block_of, may_announce, announced}
use Rattle.pg_tests.proofs.planning.announce_block.Goals as goal

pub announce-requires : goal.announce-requires
announce-requires g c =
    let r = c.requires.reading in
    let block : arc_value c.in_ok-block.block ≡ block_of c.args.file c.args.number c.args.bytes.now =
    c.in_ok-block.ensures.ok
    ∙ ap (λ (bytes : List ℕ). block_of c.args.file c.args.number bytes) c.in_ok-from_slice.ensures.items in
    let may = may_announce c.args.sequencer.now c.args.file c.args.number c.args.bytes.now
    (arc_value c.in_ok-block.block) r c.requires.few c.requires.block block in
    (r.past, (r.stands, may))

pub returns-in-Ok : goal.returns-in-Ok
returns-in-Ok g c =
    let r = c.requires.reading in
    let block : arc_value c.in_ok-block.block ≡ block_of c.args.file c.args.number c.args.bytes.now =
    c.in_ok-block.ensures.ok
    ∙ ap (λ (bytes : List ℕ). block_of c.args.file c.args.number bytes) c.in_ok-from_slice.ensures.items in
    let may = may_announce c.args.sequencer.now c.args.file c.args.number c.args.bytes.now
    (arc_value c.in_ok-block.block) r c.requires.few c.requires.block block in
    announced c.args.sequencer.now c.announce.new.self c.args.file c.args.number c.args.bytes.now
    (arc_value c.in_ok-block.block) r c.requires.block block (c.in-Ok.ensures.ok r.past r.stands may)

pub announce-requires-in-Err : goal.announce-requires-in-Err
announce-requires-in-Err g c =
    let r = c.requires.reading in
    let block : arc_value c.in_ok-again.again ≡ block_of c.args.file c.args.number c.args.bytes.now =
    c.in_ok-again.ensures ∙ c.in_ok-block.ensures.ok
    ∙ ap (λ (bytes : List ℕ). block_of c.args.file c.args.number bytes) c.in_ok-from_slice.ensures.items in
    let may = may_announce c.args.sequencer.now c.args.file c.args.number c.args.bytes.now
    (arc_value c.in_ok-again.again) r c.requires.few c.requires.block block in
    (r.past, (c.in-Err.ensures.err r.past r.stands, may))

pub returns-in_ok-announce-in-Err : goal.returns-in_ok-announce-in-Err
returns-in_ok-announce-in-Err g c =
    let r = c.requires.reading in
    let block : arc_value c.in_ok-again.again ≡ block_of c.args.file c.args.number c.args.bytes.now =
    c.in_ok-again.ensures ∙ c.in_ok-block.ensures.ok
    ∙ ap (λ (bytes : List ℕ). block_of c.args.file c.args.number bytes) c.in_ok-from_slice.ensures.items in
    let may = may_announce c.args.sequencer.now c.args.file c.args.number c.args.bytes.now
    (arc_value c.in_ok-again.again) r c.requires.few c.requires.block block in
    announced c.args.sequencer.now c.announce-in-Err.new.self c.args.file c.args.number c.args.bytes.now
    (arc_value c.in_ok-again.again) r c.requires.block block
    (c.in_ok-announce-in-Err.ensures.ok r.past (c.in-Err.ensures.err r.past r.stands) may)
