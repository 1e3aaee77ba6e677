use Rattle.std.proofs.Common.{List, ℕ, ◌++◌, cond, is_ok, ap, ◌∙◌}
use Rattle.pg_rows.proofs.prefix.Prefix.new.Goals as goal

pub returns : goal.returns
returns g c =
    let before = c.in_ok-buffer.buffer.items in
    let name = c.args.name.now in
    c.extend_from_slice.ensures.items ∙ (ap (λ r. cond (is_ok r) (before ++ name) before) c.unwrap.ensures
    ∙ ap (λ (xs : List ℕ). xs ++ name) c.in_ok-buffer.ensures.items)
