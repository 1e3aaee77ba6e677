use Rattle.std.proofs.Common.{◌≡◌, ℕ, ◌+◌, List, [], ◌∷◌, ◌++◌, replicate, vec_len, ap, ◌∙◌, sym, arith}
use Rattle.crossbeam_queue.specs.SegTies.{SegId}
use Rattle.pg_board.specs.declared.puts.PassView.{PassView}
use Rattle.pg_board.specs.Tray.{PutView, put_view}
use Rattle.pg_board.specs.TrayRule.{first_values}
use Rattle.pg_board.proofs.BoardLemmas.{copies_more}
use Rattle.pg_board.proofs.TrayLemmas.{begins, makes_pass}
use Rattle.pg_board.proofs.tray.Tray.open.Goals as goal

pub with_rule-requires : goal.with_rule-requires
with_rule-requires g c = begins

pub another-new-requires-clause-rule : goal.another-new-requires-clause-rule
another-new-requires-clause-rule g c = makes_pass _ _ c.loop-number.invariant.takers

pub loop-number-preserved : goal.loop-number-preserved
loop-number-preserved g c =
    let T : Type 0 = g.row.T.Denot in let A : Type 0 = g.row.A.Denot in let i = c.loop-number.invariant in let new =
    c.another-new.ensures in let pushed = c.push_reserved.ensures in
    let n : ℕ = vec_len c.loop-number.passes in let queue : SegId A = c.in_ok-queue.queue in let fresh : PutView T A =
    put_view queue [] in
    let values : first_values c.another-new.result.me.view.client.passes ≡ [] =
    ap (λ (v : PassView T). first_values v.passes) new.rule.1 in
    let same : put_view record { web = c.another-new.result.web; heap = c.another-new.result.heap }
    (first_values c.another-new.result.me.view.client.passes) ≡ fresh =
    λ j. put_view record { web = new.queue.2.0.0 j; heap = new.queue.2.0.1 j } (values j) in
    record {
      ticket = new.queue.0;
      takers = ap (λ (v : PassView T). v.takers) new.rule.0 ∙ i.takers;
      passes = ap (λ (v : PassView T). v.passes) new.rule.0 ∙ i.passes;
      taken = ap (λ (v : PassView T). v.taken) new.rule.0 ∙ i.taken;
      made = ap (λ (v : PassView T). v.made) new.rule.0 ∙ ap (λ (k : ℕ). k + 1) i.made ∙ sym pushed.len;
      count = (let k = i.count in let l = pushed.len in omega arith);
      room = (let k = i.room in let l = pushed.capacity in omega arith);
      items = pushed.items ∙ ap (λ (v : PutView T A). c.loop-number.passes.items ++ v ∷ []) same
          ∙ ap (λ (l : List (PutView T A)). l ++ fresh ∷ []) i.items ∙ copies_more n fresh
          ∙ ap (λ (k : ℕ). replicate k fresh) (sym pushed.len);
    }

pub invariant_of-result : goal.invariant_of-result
invariant_of-result g c =
    let i = c.loop-number.invariant in (i.ticket.1, i.ticket.2, i.takers, i.passes)

pub returns-clause-passes : goal.returns-clause-passes
returns-clause-passes g c =
    let i = c.loop-number.invariant in
    let all : vec_len c.loop-number.passes ≡ c.args.workers = (let k = i.count in omega arith) in
    let fresh : PutView g.row.T.Denot g.row.A.Denot = put_view c.in_ok-queue.queue [] in
    i.items ∙ ap (λ (k : ℕ). replicate k fresh) all
