use Rattle.std.proofs.Common.{◌≡◌, ◌∙◌, take, drop, ap, arith, refl}
use Rattle.std.proofs.lemmas.List.{take_all}
use Rattle.pg_blocks.proofs.BufferLemmas.{none_held}
use Rattle.pg_blocks.proofs.RoomLemmas.{held_stays}
use Rattle.pg_blocks.proofs.FeedLemmas.{feeds_behind}
use Rattle.pg_blocks.proofs.cutter.Cutter.feed_owned.Goals as goal

pub returns : goal.returns
returns g c =
    let self = c.args.self.now in
    let piece = c.args.piece.items in
    let none : self.filled ≡ 0 = omega (arith, c.if-self-gt0.false) in
    let all : take c.len-count.result (drop self.filled piece) ≡ piece =
    ap (λ k. take c.len-count.result (drop k piece)) none
    ∙ take_all c.len-count.result piece (omega (arith, c.len-count.ensures, c.args.piece.ok.0)) in
    let same = none_held self.filled piece self.rest.items none in
    feeds_behind all (λ past s. held_stays self _ past s refl refl refl refl refl refl refl refl same)
    c.fill.ensures.fed
