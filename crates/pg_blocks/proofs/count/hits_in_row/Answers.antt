use Rattle.std.proofs.Common.{◌≡◌, ◌==◌, ◌+◌, ◌-◌, ℕ, Bool, eqb, take, drop, replicate, ap, sym, ◌∙◌, arith, w8}
use lib.Lanes.{chunk, sel_l}
use Rattle.std.proofs.lemmas.Simd.{length-chunk, tops_compared, zip2_splat}
use Rattle.pg_blocks.proofs.LaneLemmas.{ones_at, select_ones}
use Rattle.pg_blocks.proofs.count.hits_in_row.Goals as goal

pub returns : goal.returns
returns c =
    let at = c.args.at in
    let bytes = c.args.bytes.now in
    let row = chunk at 64 bytes in
    let p : ℕ → Bool = λ b. b == c.args.byte in
    let long = length-chunk at 64 bytes c.requires in
    let wide : (at + 64) - at ≡ 64 = omega arith in
    ap (λ ms. sel_l ms (replicate 64 1) (replicate 64 0))
    (tops_compared w8 eqb row (replicate 64 c.args.byte) ∙ zip2_splat eqb row 64 c.args.byte long)
    ∙ (select_ones p row 64 long ∙ ap (λ n. ones_at p (take n (drop at bytes))) (sym wide))
