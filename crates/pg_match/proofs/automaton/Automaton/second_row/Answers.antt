use Rattle.std.proofs.Common.{◌≡◌, ◌+◌, ◌*◌, ◌<◌, None, ap, ◌∙◌, get_or, arith, refl}
use Rattle.pg_match.specs.Views.{nfa, dfa}
use Rattle.pg_match.proofs.AnchoredLemmas.{behind_byte, follows_first}
use Rattle.pg_match.proofs.automaton.Automaton.second_row.Goals as goal

pub index-next-requires : goal.index-next-requires
index-next-requires g c =
    let byte = c.type_inv.line 0 in
    omega (arith, c.start_row.ensures, c.requires.cache.shape.steps_size, byte)

pub returns : goal.returns
returns g c =
    let m = nfa c.args.self.now in
    let t = dfa c.args.cache.now in
    let l = c.args.line.now in
    let v = c.index-next.result.now in
    let byte : get_or l 0 0 < 256 = omega (arith, c.type_inv.line 0) in
    let two : 256 * c.start_row.result + get_or l 0 0 ≡ 512 + get_or l 0 0 = omega (arith, c.start_row.ensures) in
    let read = c.index-next.ensures ∙ ap (λ i. get_or t.steps i v) two in
    let f = follows_first m t c.requires.cache l 0 c.requires.built.runs 2 refl (omega arith) (omega arith) in
    let b = behind_byte m t c.requires.cache l 0 c.requires.built.runs 0 512 v None f byte (omega arith) read
    (omega (arith, c.if-next-lt-STRIDE.false)) in
    record { first = omega (arith, c.if-from-gt0.false); more = omega arith; known = b.0; stands = b.1 }
