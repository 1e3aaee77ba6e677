use Rattle.std.proofs.Common.{◌≡◌, ◌++◌, ℕ, List, take, drop, sym, ap, ◌∙◌, subst}
use Rattle.std.proofs.Math.Seq.{take-add}
use Rattle.pg_blocks.specs.Blocks.{IsFinished, IsUnfinished}
use Rattle.pg_blocks.specs.Long.{CutsOff}
use Rattle.pg_blocks.proofs.CutterLemmas.{cuts_none}
use Rattle.pg_blocks.proofs.cutter.cut_filled.Goals as goal

pub first_cut-requires-clause-unfinished : goal.first_cut-requires-clause-unfinished
first_cut-requires-clause-unfinished g c =
    let P : List ℕ → Type 0 = λ xs. IsUnfinished c.args.cutting.end c.args.cutting.size xs in
    subst P (sym (c.split_at.ensures.front ∙ ap (take c.args.block.filled) c.as_slice.ensures.value))
    c.requires.unfinished

pub returns-in-None-clause-ok : goal.returns-in-None-clause-ok
returns-in-None-clause-ok g c =
    let k = c.args.cutting in
    let filled = c.args.block.filled in
    let number = c.args.block.number in
    let count = c.args.count in
    let all = c.args.rest.now.items in
    let ready = c.args.ready.now.items in
    let rest = take filled all in
    let piece = take count (drop filled all) in
    let front : c.split_at.result.0.now ≡ rest =
    c.split_at.ensures.front ∙ ap (take filled) c.as_slice.ensures.value in
    let back : take count c.split_at.result.1.now ≡ piece =
    ap (take count) (c.split_at.ensures.back ∙ ap (drop filled) c.as_slice.ensures.value) in
    let P : List ℕ → Type 0 = λ xs. IsUnfinished k.end k.size (xs ++ take count c.split_at.result.1.now) in
    let Q : List ℕ → Type 0 = λ xs. IsUnfinished k.end k.size (rest ++ xs) in
    let R : List ℕ → Type 0 = λ xs. CutsOff k.end k.size k.file number (rest ++ piece) ready ready xs 0 in
    subst R (sym (take-add filled count all))
    (cuts_none k.end k.size k.file number rest piece ready (subst Q back (subst P front c.in-None.ensures.none)))

pub cut_open-requires-clause-finished : goal.cut_open-requires-clause-finished
cut_open-requires-clause-finished g c =
    let k = c.args.cutting in
    let all = c.args.rest.now.items in
    let len = c.in-Some.len in
    let front = c.split_at.ensures.front ∙ ap (take c.args.block.filled) c.as_slice.ensures.value in
    let back = c.split_at.ensures.back ∙ ap (drop c.args.block.filled) c.as_slice.ensures.value in
    let P : List ℕ → Type 0 =
    λ xs. IsFinished k.end k.size (xs ++ take len (take c.args.count c.split_at.result.1.now)) in
    let Q : List ℕ → Type 0 =
    λ xs. IsFinished k.end k.size (take c.args.block.filled all ++ take len (take c.args.count xs)) in
    subst Q back (subst P front c.in-Some.ensures.some)
