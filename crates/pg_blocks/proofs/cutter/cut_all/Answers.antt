use Rattle.std.proofs.Common.{◌≡◌, ◌∙◌, ◌+◌, ◌-◌, ◌++◌, ◌∷◌, [], sym, ap, arith, refl, List, ℕ, take, drop, length}
use Rattle.std.proofs.Common.{length-drop, subst}
use Rattle.std.proofs.lemmas.List.{take_rest, length_push}
use Rattle.std.specs.List.{AllByRecursion}
use Rattle.pg_blocks.specs.Blocks.{BlockData, joined, IsFinished, IsUnfinished, AreNumbered}
use Rattle.pg_blocks.proofs.CutLemmas.{joined_more, finished_more, numbered_more}
use Rattle.pg_blocks.proofs.cutter.cut_all.Goals as goal

pub loop-len-preserved : goal.loop-len-preserved
loop-len-preserved g c =
    let k = c.args.cutting in
    let bytes = c.args.bytes.now in
    let at = c.loop-len.at in
    let len = c.in-Some.len in
    let blocks : List BlockData = c.loop-len.blocks.items in
    let b : BlockData = record { file = k.file; number = c.loop-len.number; bytes = c.in_ok-block.block.items } in
    let items : c.push_back.new.self.items ≡ blocks ++ b ∷ [] = c.in_ok-push_back.ensures.items in
    let n : length c.push_back.new.self.items ≡ length blocks + 1 = ap length items ∙ length_push blocks b in
    let less : (at + len) - at ≡ len = omega arith in
    let is : b.bytes ≡ take len (drop at bytes) = c.in_ok-block.ensures.items ∙ ap (λ k. take k (drop at bytes)) less in
    let i = c.loop-len.invariant in
    let P : List ℕ → Type 0 = λ ys. IsFinished k.end k.size (take len ys) in
    let Q : List ℕ → Type 0 = λ ys. IsFinished k.end k.size ys in
    let W : List BlockData → Type 0 = λ bs. bytes ≡ joined bs ++ drop (at + len) bytes in
    let F : List BlockData → Type 0 = λ bs. AllByRecursion (λ x. IsFinished k.end k.size x.bytes) bs in
    let N : List BlockData → Type 0 = λ bs. AreNumbered k.file c.args.first bs in
    let some = c.in-Some.ensures.within in
    let rest_len : length (take (length bytes - at) (drop at bytes)) ≡ length (drop at bytes) =
    ap length (take_rest bytes at) in
    record {
      within = omega (arith, length-drop at bytes);
      few = omega (arith, i.few);
      number = omega (arith, i.number);
      whole = subst W (sym items) (joined_more bytes blocks at len b i.whole is);
      finished =
          subst F (sym items)
          (finished_more k.end k.size blocks b i.finished
          (subst Q (sym is) (subst P (take_rest bytes at) c.in-Some.ensures.some)));
      numbered = subst N (sym items) (numbered_more k.file c.args.first blocks b i.numbered refl i.number);
    }

pub returns-clause-cut : goal.returns-clause-cut
returns-clause-cut g c =
    let P : List ℕ → Type 0 = λ ys. IsUnfinished c.args.cutting.end c.args.cutting.size ys in
    record {
      whole = c.loop-len.invariant.whole;
      finished = c.loop-len.invariant.finished;
      unfinished = subst P (take_rest c.args.bytes.now c.loop-len.at) c.in_default.ensures.none;
    }
