use Rattle.std.proofs.Common.{◌≡◌, List, length, vec_len, ap, ◌∙◌, sym, arith}
use Rattle.std.proofs.lemmas.List.{length-map}
use Rattle.pg_board.specs.declared.puts.Entry.{Entry}
use Rattle.pg_board.specs.declared.puts.Puts.{Puts}
use Rattle.pg_board.specs.Tray.{PutView, TakeView, delivered}
use Rattle.pg_board.specs.TrayRule.{values_in}
use Rattle.pg_board.proofs.tray.Tray.close.Goals as goal

pub invariant_of-result : goal.invariant_of-result
invariant_of-result g c =
    let T : Type 0 = g.row.T.Denot in let A : Type 0 = g.row.A.Denot in let t = c.gather.ensures.ticket in
    let put : PutView T A → List T = λ p. p.put in let values : Puts T → List T = λ p. p.values in
    let passes : List (Puts T) = c.gather.new.ticket.me.view.client.passes in
    let long : length passes ≡ length c.args.passes.items =
    sym (length-map passes values) ∙ ap (length {A = List T}) c.gather.ensures.lists
    ∙ length-map c.args.passes.items put in
    let workers : c.pass.inside.ticket.me.view.client.made ≡ c.args.pass.workers =
    ap (λ (v : TakeView T A). v.workers) c.pass.view_is in
    let made : c.gather.new.ticket.me.view.client.made ≡ c.pass.inside.ticket.me.view.client.made = t.2 in
    let all : vec_len c.args.passes ≡ c.args.pass.workers = c.requires.all.1 in
    (t.0.0.0, t.0.0.1, t.0.1, t.0.2, t.1, omega (arith, c.args.passes.ok.0))

pub returns : goal.returns
returns g c =
    let T : Type 0 = g.row.T.Denot in let A : Type 0 = g.row.A.Denot in
    let taken : values_in c.gather.new.ticket.me.view.client.taken ≡ c.args.pass.taken =
    ap (λ (l : List (Entry T)). values_in l) c.gather.ensures.ticket.3
    ∙ ap (λ (v : TakeView T A). v.taken) c.pass.view_is in
    λ i. delivered (c.gather.ensures.lists i) (taken i)
