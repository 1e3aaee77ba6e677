use Rattle.std.proofs.Common.{◌≡◌, List, All, [], ◌∷◌, ◌++◌, map, append_assoc, append-nil, refl, ap, ◌∙◌, sym, subst}
use Rattle.std.proofs.lemmas.List.{map-append}
use Rattle.crossbeam_queue.specs.SegTies.{SegId, IsSegPassOf}
use Rattle.pg_board.specs.declared.puts.PassView.{PassView}
use Rattle.pg_board.specs.declared.puts.Puts.{Puts}
use Rattle.pg_board.specs.Tray.{PutView}
use Rattle.pg_board.specs.TrayRule.{lists_of}
use Rattle.pg_board.proofs.CountLemmas.{all_last, all_front}
use Rattle.pg_board.proofs.TrayLemmas.{brings_back}
use Rattle.pg_board.proofs.tray.gather.Goals as goal

pub absorb-requires-clause-queue : goal.absorb-requires-clause-queue
absorb-requires-clause-queue g c =
    let T : Type 0 = g.row.T.Denot in let A : Type 0 = g.row.A.Denot in let i = c.loop-pass.invariant in let back =
    c.into_ticket-back.ensures in
    let IsOf : PutView T A → Type 0 = λ p. p.tray ≡ c.args.queue.now in
    let rest : List (PutView T A) = c.pop.new.self.items in let pass : PutView T A = c.in-Some.pass in
    let e : ◌≡◌ {A = List (PutView T A)} c.loop-pass.passes.items (rest ++ pass ∷ []) = c.in-Some.ensures.items in
    let last = all_last IsOf rest pass (subst (λ (l : List (PutView T A)). All IsOf l) e i.all) in
    (i.ticket, subst (λ (t : SegId A). IsSegPassOf t c.into_ticket-back.result) last back.ticket.0)

pub absorb-requires-clause-rule : goal.absorb-requires-clause-rule
absorb-requires-clause-rule g c = brings_back _ _ _ _ c.loop-pass.invariant.takers c.into_ticket-back.ensures.ticket.1

pub loop-pass-preserved : goal.loop-pass-preserved
loop-pass-preserved g c =
    let T : Type 0 = g.row.T.Denot in let A : Type 0 = g.row.A.Denot in let i = c.loop-pass.invariant in let back =
    c.into_ticket-back.ensures in let joined = c.absorb.ensures in
    let IsOf : PutView T A → Type 0 = λ p. p.tray ≡ c.args.queue.now in
    let rest : List (PutView T A) = c.pop.new.self.items in let pass : PutView T A = c.in-Some.pass in
    let e : ◌≡◌ {A = List (PutView T A)} c.loop-pass.passes.items (rest ++ pass ∷ []) = c.in-Some.ensures.items in
    let was : List (Puts T) = c.loop-pass.ticket.me.view.client.passes in
    let put : PutView T A → List T = λ p. p.put in
    let lists : lists_of c.absorb.new.pass.me.view.client.passes ≡ pass.put ∷ lists_of was =
    ap (λ (v : PassView T). lists_of v.passes) joined.rule
    ∙ ap (λ (ps : List (Puts T)). lists_of (ps ++ was)) back.puts.1 in
    record {
      ticket = joined.queue.0;
      takers = ap (λ (v : PassView T). v.takers) joined.rule ∙ i.takers;
      made = ap (λ (v : PassView T). v.made) joined.rule ∙ i.made;
      taken = ap (λ (v : PassView T). v.taken) joined.rule ∙ i.taken;
      all = all_front IsOf rest pass (subst (λ (l : List (PutView T A)). All IsOf l) e i.all);
      lists = ap (λ (l : List (List T)). map put rest ++ l) lists
          ∙ sym (append_assoc (map put rest) (pass.put ∷ []) (lists_of was))
          ∙ ap (λ (l : List (List T)). l ++ lists_of was) (sym (map-append put rest (pass ∷ [])))
          ∙ ap (λ (l : List (PutView T A)). map put l ++ lists_of was) (sym e) ∙ i.lists;
    }

pub loop-pass-init : goal.loop-pass-init
loop-pass-init g c =
    let put : PutView g.row.T.Denot g.row.A.Denot → List g.row.T.Denot = λ p. p.put in
    let all : List (PutView g.row.T.Denot g.row.A.Denot) = c.args.passes.items in
    record {
      ticket = c.requires.ticket.0;
      takers = c.requires.ticket.1;
      made = refl;
      taken = refl;
      all = c.requires.all;
      lists = ap (λ (ps : List (Puts g.row.T.Denot)). map put all ++ lists_of ps) c.requires.ticket.2
          ∙ append-nil (map put all);
    }
