use Rattle.std.proofs.Common.{◌≡◌, ◌==◌, ◌+◌, ◌-◌, ◌*◌, ℕ, Bool, cond, length, take, drop, ap, ◌∙◌, arith}
use Rattle.std.specs.List.{count_by}
use Rattle.std.proofs.Math.Seq.{take-add}
use Rattle.std.proofs.lemmas.List.{take_all, length-drop}
use Rattle.std.proofs.lemmas.List.Sums.{sum_by-append, sum_by-take-drop}
use Rattle.pg_blocks.proofs.count.count_byte.Goals as goal

pub loop-at-preserved : goal.loop-at-preserved
loop-at-preserved c =
    let p : ℕ → Bool = λ b. b == c.args.byte in
    let at = c.loop-at.at in
    let bytes = c.args.bytes.now in
    let len = c.min-rows.result * 64 in
    let all : take (length bytes - at) (drop at bytes) ≡ drop at bytes =
    take_all (length bytes - at) (drop at bytes) (omega (arith, length-drop at bytes)) in
    let rows = c.count_in_rows-count.ensures ∙ ap (λ xs. count_by p (take len xs)) all in
    let both : count_by p (take (at + len) bytes) ≡ count_by p (take at bytes) + count_by p (take len (drop at bytes)) =
    ap (count_by p) (take-add at len bytes)
    ∙ sum_by-append (λ x. cond (p x) 1 0) (take at bytes) (take len (drop at bytes)) in
    record {
      within = omega arith;
      counted = omega (arith, rows, both, c.loop-at.invariant.counted);
    }

pub returns : goal.returns
returns c =
    let at = c.loop-at.at in
    let bytes = c.args.bytes.now in
    let p : ℕ → Bool = λ b. b == c.args.byte in
    omega (arith, c.loop-at.invariant.counted, c.count_from.ensures, sum_by-take-drop (λ x. cond (p x) 1 0) bytes at)
