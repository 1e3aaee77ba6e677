use Rattle.std.proofs.Common.{◌≡◌, ◌==◌, ◌+◌, ◌-◌, ◌*◌, ℕ, Bool, cond, take, drop, ap, ◌∙◌, sym, arith}
use Rattle.std.proofs.Common.{w32, replicate}
use Rattle.std.specs.List.{count_by}
use Rattle.std.proofs.Math.Seq.{take-add}
use lib.Lanes.{chunk, dots}
use Rattle.std.proofs.lemmas.List.Sums.{sum_by-append}
use Rattle.std.proofs.lemmas.Simd.{length-chunk, dot4_Fits, fold-sum, sum_fits, sum_bound, bytes_below}
use Rattle.pg_blocks.proofs.LaneLemmas.{ones_at, one_more_fits, one_more_few, one_more_sum, sum_l-fours}
use Rattle.pg_blocks.proofs.count.count_in_rows.Goals as goal

row_is : (c : goal.After-row_known-in-loop-row-1) → c.hits_in_row-columns.result
    ≡ ones_at (λ b. b == c.args.byte) (chunk (c.loop-row.row * 64) 64 c.args.bytes.now)
row_is c =
    let at = c.loop-row.row * 64 in
    let wide : (at + 64) - at ≡ 64 = omega arith in
    c.hits_in_row-columns.ensures
    ∙ ap (λ n. ones_at (λ b. b == c.args.byte) (take n (drop at c.args.bytes.now))) wide

pub overflow_add-columns : goal.overflow_add-columns
overflow_add-columns c =
    let row = chunk (c.loop-row.row * 64) 64 c.args.bytes.now in
    one_more_fits (λ b. b == c.args.byte) c.loop-row.row c.loop-row.columns row c.hits_in_row-columns.result
    (row_is c) (omega arith) c.loop-row.invariant.few

pub loop-row-preserved : goal.loop-row-preserved
loop-row-preserved c =
    let p : ℕ → Bool = λ b. b == c.args.byte in
    let at = c.loop-row.row * 64 in
    let bytes = c.args.bytes.now in
    let row = chunk at 64 bytes in
    let counts = c.loop-row.columns in
    let hits = c.hits_in_row-columns.result in
    let long = length-chunk at 64 bytes (omega arith) in
    let next : (c.loop-row.row + 1) * 64 ≡ at + 64 = omega arith in
    let both : count_by p (take (at + 64) bytes) ≡ count_by p (take at bytes) + count_by p row =
    ap (count_by p) (take-add at 64 bytes) ∙ sum_by-append (λ x. cond (p x) 1 0) (take at bytes) row in
    record {
      few = one_more_few p c.loop-row.row counts row hits (row_is c) c.loop-row.invariant.few;
      counted =
          one_more_sum p counts row hits (row_is c) (c.loop-row.auto.columns.0 ∙ sym long)
          ∙ (ap (λ n. n + count_by p row) c.loop-row.invariant.counted
          ∙ (sym both ∙ ap (λ n. count_by p (take n bytes)) (sym next)));
    }

pub dot4 : goal.dot4
dot4 c = (dot4_Fits c.loop-row.columns (replicate 64 1) c.loop-row.auto.columns.1 tt, tt)

pub overflow_add-result : goal.overflow_add-result
overflow_add-result c =
    let counts = c.loop-row.columns in
    let long = c.loop-row.auto.columns.0 in
    let few = sum_bound 255 counts (bytes_below counts c.loop-row.auto.columns.1) in
    sum_fits w32 0 (dots counts (replicate 64 1)) (omega (arith, few, long, sum_l-fours counts long))

pub returns : goal.returns
returns c =
    let counts = c.loop-row.columns in
    let all : c.loop-row.row ≡ c.args.rows = omega arith in
    fold-sum 0 (dots counts (replicate 64 1))
    ∙ (omega (arith, sum_l-fours counts c.loop-row.auto.columns.0, c.loop-row.invariant.counted)
    ∙ ap (λ n. count_by (λ b. b == c.args.byte) (take (n * 64) c.args.bytes.now)) all)
