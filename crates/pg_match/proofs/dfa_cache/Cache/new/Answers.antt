use Rattle.std.proofs.Common.{◌≡◌, ◌-◌, Bool, Option, None, Some, ◌∙◌, ◌++◌, ap, arith, length, refl, replicate}
use Rattle.std.proofs.Common.{sym, take, rules}
use Rattle.std.specs.Vec.{vec_len}
use Rattle.pg_match.proofs.CacheLemmas.{blank_table, zeros, nones}
use Rattle.pg_match.proofs.dfa_cache.Cache.new.Goals as goal

none_only : (P : Option Bool → Type 0) → ((b : Bool) → P (Some b) → ⊥) → (y : Option Bool) → P y → y ≡ None
none_only P other None h = refl
none_only P other (Some b) h = absurd (other b h)

pub returns : goal.returns
returns g c =
    let l = c.in_ok-ends.ensures.items_if_clones_equal (none_only _ (λ b e. e)) in
    let u = c.in_ok-cuts.ensures.items_if_clones_equal (λ y h. search rules) in
    let l_ok = c.in_ok-ends.ends.ok.0 in
    let f_ok = c.in_ok-flags.flags.ok.0 in
    let u_ok = c.in_ok-cuts.cuts.ok.0 in
    let zero = zeros _ 258 u in
    let none : length c.in_ok-pool.pool.items ≡ 0 = ap length c.in_ok-pool.ensures.items in
    let steps = c.in_ok-resize.ensures.items
    ∙ ap (λ xs. take 256 xs ++ replicate (256 - vec_len c.in_ok-steps.steps) 0) c.in_ok-steps.ensures.items in
    blank_table _ (omega (arith, c.in_ok-resize.ensures.len, c.resize.new.self.ok.0))
    (omega (arith, c.in_ok-ends.ensures.len)) (omega (arith, none)) (omega (arith, c.in_ok-cuts.ensures.len))
    (omega (arith, c.in_ok-flags.ensures.len)) refl (zeros _ _ steps) (nones _ 257 l) (zero 0 ∙ sym (zero 1))
    (omega (arith, zero 1))

pub overflow_add-vec : goal.overflow_add-vec
overflow_add-vec g c = omega arith
