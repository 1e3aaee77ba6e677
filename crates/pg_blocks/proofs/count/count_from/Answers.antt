use Rattle.std.proofs.Common.{◌≡◌, ◌==◌, ◌+◌, ◌-◌, ◌/◌, ◌^◌, ℕ, Bool, cond, length, take, drop, map, ap, ◌∙◌, arith}
use Rattle.std.specs.Int.RustNames.{count_ones}
use Rattle.std.specs.List.{count_by}
use lib.Lanes.{chunk, mask_l}
use Rattle.std.proofs.lemmas.List.{drop-drop, take_all, length-drop}
use Rattle.std.proofs.lemmas.List.Sums.{sum_by-take-drop, count_by-le-length}
use Rattle.std.proofs.lemmas.Simd.{length-chunk, ones-mask_l}
use Rattle.pg_blocks.proofs.LaneLemmas.{ones-shifted}
use Rattle.pg_blocks.proofs.count.count_from.Goals as goal

pub loop-at-preserved : goal.loop-at-preserved
loop-at-preserved c =
    let p : ℕ → Bool = λ b. b == c.args.byte in
    let at = c.loop-at.at in
    let bytes = c.args.bytes.now in
    let wide : (at + 16) - at ≡ 16 = omega arith in
    let part : count_ones c.hits_in_chunk.result ≡ count_by p (chunk at 16 bytes) =
    ap count_ones (c.hits_in_chunk.ensures ∙ ap (λ n. mask_l (map p (take n (drop at bytes)))) wide)
    ∙ ones-mask_l p (chunk at 16 bytes) in
    let long = length-chunk at 16 bytes (omega arith) in
    let rest = ap (count_by p) (drop-drop 16 at bytes) in
    record {
      within = omega arith;
      behind = omega arith;
      few = omega (arith, part, c.loop-at.invariant.few, count_by-le-length p (chunk at 16 bytes), long);
      counted = omega (
        arith,
        part,
        rest,
        c.loop-at.invariant.counted,
        sum_by-take-drop (λ x. cond (p x) 1 0) (drop at bytes) 16,
      );
    }

pub returns : goal.returns
returns c =
    let p : ℕ → Bool = λ b. b == c.args.byte in
    let at = c.loop-at.at in
    let bytes = c.args.bytes.now in
    let last = length bytes - 16 in
    let wide : last + (at - last) ≡ at = omega arith in
    let all : take ((last + 16) - last) (drop last bytes) ≡ drop last bytes =
    take_all ((last + 16) - last) (drop last bytes) (omega (arith, length-drop last bytes)) in
    let rest : count_ones (c.hits_in_chunk-2.result / 2 ^ (at - last)) ≡ count_by p (drop at bytes) =
    ap (λ n. count_ones (n / 2 ^ (at - last))) (c.hits_in_chunk-2.ensures ∙ ap (λ xs. mask_l (map p xs)) all)
    ∙ (ones-shifted p (drop last bytes) (at - last)
    ∙ ap (count_by p) (drop-drop (at - last) last bytes ∙ ap (λ n. drop n bytes) wide)) in
    omega (arith, rest, c.loop-at.invariant.counted)
