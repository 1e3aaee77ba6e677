use Rattle.std.proofs.Common.{◌≡◌, ◌==◌, ◌+◌, ◌-◌, ℕ, Bool, eqb, map, take, drop, ap, sym, ◌∙◌, arith, w8}
use lib.Lanes.{chunk, mask_l}
use Rattle.std.proofs.lemmas.Simd.{length-chunk, bitmask_splat}
use Rattle.pg_blocks.proofs.count.hits_in_chunk.Goals as goal

pub returns : goal.returns
returns c =
    let at = c.args.at in
    let bytes = c.args.bytes.now in
    let p : ℕ → Bool = λ b. b == c.args.byte in
    let long = length-chunk at 16 bytes c.requires in
    let wide : (at + 16) - at ≡ 16 = omega arith in
    bitmask_splat w8 eqb (chunk at 16 bytes) 16 c.args.byte long (omega arith)
    ∙ ap (λ n. mask_l (map p (take n (drop at bytes)))) (sym wide)
