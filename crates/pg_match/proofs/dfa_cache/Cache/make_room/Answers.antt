use Rattle.std.proofs.Common.{◌∙◌, ◌+◌, ◌≤◌, IsTrue, ap, arith, length, not, refl, sym}
use Rattle.std.specs.Prelude.{slice_index}
use Rattle.std.specs.Result.{is_ok}
use Rattle.std.proofs.lemmas.List.{get_or_read}
use Rattle.pg_match.proofs.CacheLemmas.{padded, resized}
use Rattle.pg_match.proofs.dfa_cache.Cache.make_room.Goals as goal

pub returns-clause-widened : goal.returns-clause-widened
returns-clause-widened g c = λ t.
    let old = c.args.self.now in
    let pool = c.reserve.new.self in
    let steps_ok : IsTrue (is_ok c.resize.result) = c.is_err-2.ensures.negation ∙ ap not c.if-is_err-2.false in
    let pool_ok : IsTrue (is_ok c.resize-2.result) = sym c.is_ok.ensures.value ∙ t in
    let wider : length old.steps.items ≤ c.max-steps.result = omega arith in
    let larger : length pool.items ≤ c.max-states.result = omega (arith, ap length c.reserve.ensures.items) in
    let steps_len = resized c.max-steps.result _ _ (is_ok c.resize.result) steps_ok c.resize.ensures.len in
    let pool_len = resized c.max-states.result _ _ (is_ok c.resize-2.result) pool_ok c.resize-2.ensures.len in
    let shape = c.requires.shape in
    let start = get_or_read old.cuts.items (old.count + 1) c.index.result.now
    (omega (arith, shape.cuts_size, shape.few)) c.index.ensures 0 in
    record {
      steps = padded old.steps.items c.resize.new.self.items c.max-steps.result _ (is_ok c.resize.result) steps_ok wider
          c.resize.ensures.items;
      pool = λ i.
          padded pool.items c.resize-2.new.self.items c.max-states.result _ (is_ok c.resize-2.result) pool_ok larger
          c.resize-2.ensures.items i
          ∙ ap (λ v. slice_index v i) c.reserve.ensures.items;
      more_steps = omega (arith, steps_len, c.resize.new.self.ok.0);
      more_states = omega (arith, pool_len);
      few = omega (arith, pool_len, start, shape.room, shape.pool_size);
      ends = refl;
      flags = refl;
      cuts = refl;
      count = refl;
    }
