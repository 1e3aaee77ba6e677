use Rattle.pg_blocks.proofs.RoomLemmas.{on_err}
use Rattle.std.proofs.Common.{◌≡◌, ◌+◌, ◌-◌, ◌++◌, ◌∷◌, [], ℕ, List, Vec, length, take, drop, sym, ap}
use Rattle.std.proofs.Common.{◌∙◌, refl}
use Rattle.std.proofs.Common.{subst}
use Rattle.std.proofs.lemmas.List.{take_rest, take-take}
use Rattle.std.proofs.Math.Seq.{take-add}
use Rattle.pg_blocks.specs.Blocks.{BlockData, Cuts}
use Rattle.pg_blocks.specs.Long.{CutsOff}
use Rattle.pg_blocks.proofs.CutterLemmas.{cuts_first}
use Rattle.pg_blocks.proofs.cutter.cut_open.Goals as goal

pub returns-clause-ok : goal.returns-clause-ok
returns-clause-ok g c =
    let items : Vec ℕ g.row.A.Denot → List ℕ = λ v. v.items in
    let k = c.args.cutting in
    let number = c.args.block.number in
    let len = c.args.len in
    let all = c.args.rest.now.items in
    let rest = take c.args.block.filled all in
    let behind = drop c.args.block.filled all in
    let piece = take c.args.count behind in
    let ready = c.args.ready.now.items in
    let blocks = c.in_ok-blocks.blocks.items in
    let at = c.in_ok-blocks.at in
    let given = take c.args.count c.split_at.result.1.now in
    let given-is : given ≡ piece =
    ap (take c.args.count) (c.split_at.ensures.back ∙ ap (drop c.args.block.filled) c.as_slice.ensures.value) in
    let P : List ℕ → Type 0 = λ xs. Cuts k.end k.size xs blocks (drop at xs) in
    let Q : List ℕ → Type 0 = λ xs. Cuts k.end k.size (drop len xs) blocks (drop at (drop len xs)) in
    let cuts = subst Q given-is (subst P (take_rest given len) c.in_ok-blocks.ensures.cut) in
    let front : take len behind ≡ take len piece = sym (take-take len c.args.count behind c.requires.len.1) in
    let first : c.truncate.new.self.items ≡ rest ++ take len piece =
    c.truncate.ensures.items ∙ (take-add c.args.block.filled len all ∙ ap (λ xs. rest ++ xs) front) in
    let tail = take (length given - (len + at)) (drop (len + at) given) in
    let rest' = take (length tail) c.hand_over.new.rest.items in
    let left : rest' ≡ drop (len + at) piece =
    ap (take (length tail)) (ap items c.hand_over.ensures.left)
    ∙ (c.in_ok-left.ensures.begins ∙ (take_rest given (len + at) ∙ ap (drop (len + at)) given-is)) in
    let b : BlockData = record { file = k.file; number = number; bytes = c.truncate.new.self.items } in
    let appended =
    c.hand_over.ensures.ready ∙ ap (λ (bs : List BlockData). (bs ++ b ∷ []) ++ blocks) c.in_ok-reserve.ensures.items in
    let ready' = c.hand_over.new.ready.items in
    let count : c.len-2.result ≡ length blocks = c.len-2.ensures ∙ c.in_ok-blocks.blocks.ok.0 in
    let N : ℕ → Type 0 = λ n. CutsOff k.end k.size k.file number (rest ++ piece) ready ready' rest' (n + 1) in
    subst N (sym count)
    (cuts_first k.end k.size k.file number len at rest piece b.bytes rest' blocks ready ready' c.requires.finished cuts
    c.in_ok-blocks.ensures.numbered first left appended)

pub returns-in_err-blocks-clause-err : goal.returns-in_err-blocks-clause-err
returns-in_err-blocks-clause-err g c = on_err _ c.from_residual.result (refl, refl)

pub returns-in_err-reserve-clause-err : goal.returns-in_err-reserve-clause-err
returns-in_err-reserve-clause-err g c =
    on_err _ c.from_residual-in_err-reserve.result (refl, c.in_err-reserve.ensures.items)

pub returns-in_err-left-clause-err : goal.returns-in_err-left-clause-err
returns-in_err-left-clause-err g c = on_err _ c.from_residual-in_err-left.result (refl, c.in_ok-reserve.ensures.items)

pub returns-clause-err : goal.returns-clause-err
returns-clause-err g c = tt
