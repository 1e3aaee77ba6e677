use Rattle.std.proofs.Common.{◌∙◌, ◌++◌, ◌∷◌, [], ℕ, List, Vec, is_ok, cond, ap}
use Rattle.pg_blocks.specs.Blocks.{BlockData}
use Rattle.pg_blocks.proofs.cutter.hand_over.Goals as goal

pub returns-clause-ready : goal.returns-clause-ready
returns-clause-ready g c =
    let ready = c.args.ready.now.items in
    let blocks = c.args.blocks.now.items in
    let with : Vec ℕ g.row.A.Denot → List BlockData =
    λ v. ready ++ record { file = c.args.file; number = c.args.number; bytes = v.items } ∷ [] in
    let first = c.push_back_reserved.new.self.items in
    c.append.ensures.items
    ∙ (ap (λ r. cond (is_ok r) (first ++ blocks) first) c.unwrap.ensures
    ∙ ap (λ (bs : List BlockData). bs ++ blocks) (c.push_back_reserved.ensures.items ∙ ap with c.replace.ensures.value))
