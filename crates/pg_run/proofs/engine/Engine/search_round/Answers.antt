use Rattle.std.proofs.Common.{◌≡◌, ◌<◌, ◌≤◌, ◌∙◌, ℕ, ap, length, List, map, arith, refl, subst, sym}
use Rattle.std.specs.List.{All}
use Rattle.std.specs.Arc.{arc_value}
use Rattle.std.specs.declared.sync.Arc.{Arc}
use Rattle.pg_blocks.specs.Blocks.{BlockData}
use Rattle.pg_seq.specs.Standing.{IsAfter}
use Rattle.pg_run.specs.Holding.{past_of, format_of}
use Rattle.pg_run.specs.Searches.{AreScratches}
use Rattle.pg_round.specs.Receipts.{HasRound}
use Rattle.pg_reader.proofs.GoingLemmas.{gone_on_none}
use Rattle.pg_run.proofs.HoldLemmas.{broke_now, fails_by}
use Rattle.pg_run.proofs.RoundLemmas.{short_round, safe_now, round_done, round_failed}
use Rattle.pg_base.proofs.SinkLemmas.{ok_of_err}
use Rattle.pg_run.proofs.engine.Engine.search_round.Goals as goal

pub search_round-requires-clause-may : goal.search_round-requires-clause-may
search_round-requires-clause-may g c κs within =
    let view = g.Q.BlockSearch.seen c.args.self.now.query.now in
    let S : List (Arc BlockData g.row.A.Denot) → Type 0 = λ xs. All view.may xs in
    subst S (sym c.deref.ensures.value) (short_round c.requires.holds.2)

pub returns-in_err-equip-clause-empties : goal.returns-in_err-equip-clause-empties
returns-in_err-equip-clause-empties g c = record {
  kept = (refl, refl);
  none = ok_of_err c.from_residual.result _ c.from_residual.ensures.0;
  outcome = λ aim steps h.
      fails_by c.from_residual.result _ _ c.from_residual.ensures.1 (broke_now h);
}

pub returns-in_err-search_round-clause-empties : goal.returns-in_err-search_round-clause-empties
returns-in_err-search_round-clause-empties g c =
    let failed = c.from_residual-in_err-search_round in
    let err = c.in_err-search_round.ensures in
    record {
      kept = (refl, refl);
      none = ok_of_err failed.result _ failed.ensures.0;
      outcome = λ aim steps h.
          let out' = g.W.Sink.stream c.search_round.new.out in
          let past = past_of aim.query (format_of aim) h.events h.written in
          let fault = c.in_err-search_round.field-0.0 in
          let failure = err.took.outcome past h.stands refl (safe_now h) in
          fails_by failed.result _ _ failed.ensures.1
          (round_failed h out' fault failure.0 failure.1 err.took.calm);
    }

pub returns-clause-empties : goal.returns-clause-empties
returns-clause-empties g c = record {
  kept = (refl, refl);
  none = c.clear.ensures.items;
  outcome = λ aim steps h.
      let out' = g.W.Sink.stream c.search_round.new.out in
      let past = past_of aim.query (format_of aim) h.events h.written in
      let view = g.Q.BlockSearch.seen c.args.self.now.query.now in
      let R : List (Arc BlockData g.row.A.Denot) → Type 0 =
      λ xs. HasRound (IsAfter c.search_round.new.collector) view.finds xs past
      (g.W.Sink.stream c.args.out.now).taken out'.taken in
      round_done h _ out' h.same h.set h.count (ap (λ xs. map arc_value xs) c.clear.ensures.items)
      (subst R c.deref.ensures.value (c.in_ok-search_round.ensures.took.outcome past h.stands refl (safe_now h)))
      c.in_ok-search_round.ensures.took.calm;
}

pub search_round-requires-clause-fits : goal.search_round-requires-clause-fits
search_round-requires-clause-fits g c κs within = λ k d below.
    c.in_ok-equip.ensures.scratches.1 k d below

pub invariant_of-self : goal.invariant_of-self
invariant_of-self g c =
    let s = c.args.self.now in
    record {
      fits = s.fits;
      few_scratches = s.few_scratches;
      all_fit = s.all_fit;
      endless = s.endless;
      at_once = s.at_once;
      few = s.few;
    }

pub invariant_of-self-in-Break-1 : goal.invariant_of-self-in-Break-1
invariant_of-self-in-Break-1 g c =
    let engine = c.args.self.now in
    let none = ap (λ v. v.items) c.replace-scratches.ensures.after ∙ c.new.ensures.items in
    record {
      fits = engine.fits;
      few_scratches = omega (arith, ap length none);
      all_fit = λ k d below. absurd (omega (arith, ap length none, below));
      endless = engine.endless;
      at_once = engine.at_once;
      few = engine.few;
    }

pub invariant_of-self-in-Break-branch-2 : goal.invariant_of-self-in-Break-branch-2
invariant_of-self-in-Break-branch-2 g c =
    let engine = c.args.self.now in
    let none = ap (λ v. v.items) c.replace-scratches.ensures.after ∙ c.new.ensures.items in
    record {
      fits = engine.fits;
      few_scratches = omega (arith, ap length none);
      all_fit = λ k d below. absurd (omega (arith, ap length none, below));
      endless = engine.endless;
      at_once = engine.at_once;
      few = engine.few;
    }

pub invariant_of-self-2 : goal.invariant_of-self-2
invariant_of-self-2 g c =
    let engine = c.args.self.now in
    let back = c.in_ok-search_round.ensures.scratches in
    record {
      fits = engine.fits;
      few_scratches = omega (arith, back.0, c.in_ok-equip.ensures.scratches.0);
      all_fit = back.1;
      endless = engine.endless;
      at_once = λ e. c.clear.ensures.items;
      few = omega (arith, ap length c.clear.ensures.items);
    }

few_blocks : (blocks waiting round : ℕ) → blocks ≡ waiting → waiting ≤ round → round ≤ 1024 → blocks ≤ 1024
few_blocks blocks waiting round same few in_range = omega arith

some_scratch : (len scratches : ℕ) → len ≡ scratches → 0 < scratches → 0 < len
some_scratch len scratches same some = omega arith

few_scratches : (len scratches : ℕ) → len ≡ scratches → scratches ≤ 65 → len ≤ 65
few_scratches len scratches same few = omega arith

pub equip-requires-clause-scratches : goal.equip-requires-clause-scratches
equip-requires-clause-scratches g c =
    let engine = c.args.self.now in
    subst (AreScratches (g.Q.BlockSearch.seen engine.query.now) 65)
    (sym (ap (λ v. v.items) c.replace-scratches.ensures.value)) (engine.few_scratches, engine.all_fit)

pub search_round-requires-clause-few : goal.search_round-requires-clause-few
search_round-requires-clause-few g c κs within =
    let engine = c.args.self.now in
    let scratches = c.equip.new.scratches in (
      some_scratch _ _ scratches.ok.0 c.in_ok-equip.ensures.some,
      few_scratches _ _ scratches.ok.0 c.in_ok-equip.ensures.scratches.0,
      few_blocks _ _ engine.setup.round (ap length c.deref.ensures.value) engine.few engine.setup.round_in_range.1,
      c.workers-workers.ensures,
    )

pub search_round-requires-clause-sees : goal.search_round-requires-clause-sees
search_round-requires-clause-sees g c κs within = λ found. refl

pub search_round-requires-clause-reader : goal.search_round-requires-clause-reader
search_round-requires-clause-reader g c κs within = c.requires.ready

pub returns-in_err-equip-clause-read : goal.returns-in_err-equip-clause-read
returns-in_err-equip-clause-read g c = gone_on_none c.requires.ready
