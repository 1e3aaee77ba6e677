use Rattle.std.proofs.Common.{◌∙◌, ◌+◌, ℕ, Option, Some, ap, arith}
use Rattle.std.specs.Option.{unwrap_or}
use Rattle.pg_seq.proofs.PlaceLemmas.{place_within, no_place_within}
use Rattle.pg_seq.proofs.reorder_buffer.place_in.Goals as goal

pub returns-then-from-saturating_sub : goal.returns-then-from-saturating_sub
returns-then-from-saturating_sub g c =
    ap (λ n. Some (c.in_ok-start.start + n)) c.from-then-from-saturating_sub.ensures
    ∙ place_within c.args.starts.now c.args.total c.args.file c.args.number c.in_ok-start.start c.unwrap_or-stop.result
    c.in_ok-start.ensures
    (c.unwrap_or-stop.ensures ∙ ap (λ (next : Option ℕ). unwrap_or next c.args.total) c.get-2.ensures) (omega arith)

pub returns-else-from-saturating_sub : goal.returns-else-from-saturating_sub
returns-else-from-saturating_sub g c =
    no_place_within c.args.starts.now c.args.total c.args.file c.args.number c.in_ok-start.start c.unwrap_or-stop.result
    c.in_ok-start.ensures
    (c.unwrap_or-stop.ensures ∙ ap (λ (next : Option ℕ). unwrap_or next c.args.total) c.get-2.ensures) (omega arith)
