use Rattle.std.proofs.Common.{◌≡◌, ◌≢◌, ℕ, List, [], Some, length, ap, sym, ◌∙◌, subst}
use Rattle.std.proofs.lemmas.Bool.{eqb-true, eqb-false}
use Rattle.std.proofs.lemmas.List.{nil_from_length}
use Rattle.pg_blocks.specs.Blocks.{BlockData}
use Rattle.pg_blocks.specs.Cutter.{past_handed, bytes_held, AreAllBlocks}
use Rattle.pg_blocks.proofs.CutterLemmas.{finished_some, finished_none}
use Rattle.pg_blocks.proofs.cutter.Cutter.finish.Goals as goal

pub returns-then-is_empty : goal.returns-then-is_empty
returns-then-is_empty g c = λ past s.
    let rest = c.truncate.new.self in
    let none : length rest.items ≡ 0 = sym rest.ok.0 ∙ eqb-true rest.len 0 (cc) in
    finished_none c.args.self past s c.requires (sym c.truncate.ensures.items ∙ nil_from_length rest.items none)

pub returns : goal.returns
returns g c = λ past s.
    let self = c.args.self in
    let rest = c.truncate.new.self in
    let is : rest.items ≡ bytes_held self = c.truncate.ensures.items in
    let some : bytes_held self ≢ [] = λ e.
    let n : length rest.items ≡ 0 = ap length (is ∙ e) in
    eqb-false rest.len 0 (sym c.is_empty.ensures ∙ c.if-is_empty.false) (rest.ok.0 ∙ n) in
    let B : List ℕ → BlockData = λ xs. record { file = self.file; number = self.number; bytes = xs } in
    let P : List ℕ → Type 0 = λ xs. AreAllBlocks (past_handed past (Some (B xs))) in
    subst P (sym is) (finished_some self past s c.requires some)
