use Rattle.std.proofs.Common.{◌∙◌, ap, sym, subst, arith, ℕ, ◌≡◌, ◌+◌, ◌<◌, ◌≤◌}
use Rattle.std.proofs.lemmas.Result.{err_from_is_err_and}
use Rattle.pg_workers.specs.Workers.{AreBack}
use Rattle.pg_reader.proofs.GoingLemmas.{gone_on_none}
use Rattle.pg_round.proofs.ReceiptLemmas.{takes_no_memory, takes_fault, takes_refused, takes_round}
use Rattle.pg_round.proofs.searching.search_round.Goals as goal

-- what was lent is back
scratches_back : (left count old opened back new : ℕ) → opened ≡ count → left + count ≡ old → back ≡ opened
    → new ≡ left + back → new ≡ old
scratches_back left count old opened back new o l b n = omega arith

-- lists of the same length
same_count : (a b len len' : ℕ) → a ≡ len → b ≡ len' → len' ≡ len → b ≡ a
same_count a b len len' p q same = omega arith

pub open_round-requires-clause-few : goal.open_round-requires-clause-few
open_round-requires-clause-few g c =
    let n = c.count_workers-count.ensures in
    let l = c.len.ensures in
    (n.0, n.1, subst (λ k. c.count_workers-count.result ≤ k) l n.2, c.requires.few.2)

pub close_round-requires-clause-spent : goal.close_round-requires-clause-spent
close_round-requires-clause-spent g c = (c.in_ok-search_rest.ensures.spent, sym c.in_ok-board.ensures.board.0)

pub search_rest-requires : goal.search_rest-requires
unfolding AreBack
search_rest-requires g c =
    let opened = c.in_ok-board.ensures in let back = c.in_ok-workers.ensures in
    let count = same_count _ _ _ _ c.in_ok-board.field-0.workers.ok.0 c.in_ok-workers.workers.ok.0 back.back.0 in
    record {
      ready = (sym opened.board.0, c.requires.may);
      worked = (back.back.1, subst (λ k. 0 < k) (sym (count ∙ opened.workers.0)) c.count_workers-count.ensures.0);
    }

pub close_round-requires-clause-all : goal.close_round-requires-clause-all
unfolding AreBack
close_round-requires-clause-all g c =
    let opened = c.in_ok-board.ensures in let back = c.in_ok-workers.ensures in
    let same = same_count _ _ _ _ c.in_ok-board.field-0.workers.ok.0 c.in_ok-workers.workers.ok.0 back.back.0 in
    let count = c.in_ok-search_rest.ensures.finished.0 ∙ same ∙ opened.workers.0 in (
      count ∙ sym opened.board.1,
      count ∙ sym (back.same.1 ∙ ap (λ t. t.workers) opened.take),
      back.same.0,
    )

pub deliver-requires : goal.deliver-requires
deliver-requires g c = record { sees = c.requires.sees }

pub returns-in_err-board : goal.returns-in_err-board
returns-in_err-board g c =
    let p = err_from_is_err_and c.from_residual.result c.from_residual.ensures.1 in
    rw (p.1, p.2) (record {
      took = takes_no_memory _ _ _;
      read = gone_on_none c.requires.reader;
      scratches = tt;
    })

pub returns-in_err-workers : goal.returns-in_err-workers
returns-in_err-workers g c =
    let p = err_from_is_err_and c.from_residual-in_err-workers.result c.from_residual-in_err-workers.ensures.1 in
    let e = c.in_err-workers.ensures in
    rw (p.1, p.2) (record { took = takes_fault _ _ _ _ _ _ e.took; read = e.read; scratches = tt })

pub returns-in_err-search_rest : goal.returns-in_err-search_rest
returns-in_err-search_rest g c =
    let left = c.from_residual-in_err-search_rest in
    let p = err_from_is_err_and left.result left.ensures.1 in
    let e = c.in_ok-workers.ensures in
    let mid = g.S.Collector.stands c.search_beside.new.collector in let taken = c.search_beside.new.take.taken in
    rw (p.1, p.2) (record { took = takes_refused _ _ mid taken _ _ e.took _; read = e.read; scratches = tt })

pub returns-in_err-delivered : goal.returns-in_err-delivered
returns-in_err-delivered g c =
    let p = err_from_is_err_and c.from_residual-in_err-delivered.result c.from_residual-in_err-delivered.ensures.1 in
    let e = c.in_ok-workers.ensures in
    let mid = g.S.Collector.stands c.search_beside.new.collector in let taken = c.search_beside.new.take.taken in
    rw (p.1, p.2) (record { took = takes_refused _ _ mid taken _ _ e.took _; read = e.read; scratches = tt })

pub returns-in_err-deliver : goal.returns-in_err-deliver
returns-in_err-deliver g c =
    let p = err_from_is_err_and c.from_residual-in_err-deliver.result c.from_residual-in_err-deliver.ensures.1 in
    let e = c.in_ok-workers.ensures in
    let d = c.in_ok-delivered.ensures in
    let mid = g.S.Collector.stands c.search_beside.new.collector in let taken = c.search_beside.new.take.taken in
    let last = g.S.Collector.stands c.deliver.new.collector in
    rw (p.1, p.2) (record {
      took = takes_round _ _ mid taken _ _ e.took _ last _ _ _ _ _ d.taken d.all c.in_err-deliver.ensures.took;
      read = e.read;
      scratches = tt;
    })

pub returns : goal.returns
unfolding AreBack
returns g c =
    let e = c.in_ok-workers.ensures in
    let d = c.in_ok-delivered.ensures in
    let opened = c.in_ok-board.ensures.workers.0 in let lent = c.in_ok-board.ensures.scratches.1 in
    let rest = c.in_ok-search_rest.ensures.finished.0
    ∙ same_count _ _ _ _ c.in_ok-board.field-0.workers.ok.0 c.in_ok-workers.workers.ok.0 e.back.0 in
    let mid = g.S.Collector.stands c.search_beside.new.collector in let taken = c.search_beside.new.take.taken in
    let last = g.S.Collector.stands c.deliver.new.collector in
    record {
      took = takes_round _ _ mid taken _ _ e.took _ last _ _ _ _ _ d.taken d.all c.in_ok-deliver.ensures.took;
      read = e.read;
      scratches = (scratches_back _ _ _ _ _ _ opened lent rest d.count, d.fits);
    }

pub count_workers-count-requires : goal.count_workers-count-requires
count_workers-count-requires g c =
    let n = c.requires.few in
    let l = c.len.ensures in
    (subst (λ k. 0 < k) (sym l) n.0, subst (λ k. k ≤ 65) (sym l) n.1, n.2, n.3)

pub search_beside-requires-clause-ready : goal.search_beside-requires-clause-ready
search_beside-requires-clause-ready g c κs within = (sym c.in_ok-board.ensures.board.0, c.requires.may)

pub search_beside-requires-clause-finished : goal.search_beside-requires-clause-finished
search_beside-requires-clause-finished g c κs within = c.in_ok-board.ensures.workers.1

pub search_beside-requires-clause-take : goal.search_beside-requires-clause-take
search_beside-requires-clause-take g c κs within =
    let t = c.in_ok-board.ensures.take in
    (ap (λ t. t.tray) t, ap (λ t. t.taken) t)

pub search_beside-requires-clause-reader : goal.search_beside-requires-clause-reader
search_beside-requires-clause-reader g c κs within = c.requires.reader

pub search_beside-requires-clause-sees : goal.search_beside-requires-clause-sees
search_beside-requires-clause-sees g c κs within = c.requires.sees
