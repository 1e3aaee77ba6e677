use Rattle.std.proofs.Common.{◌≡◌, ◌∙◌, ℕ, Bool, false, cond, Some, None, sym, ap, arith}
use Rattle.pg_blocks.proofs.LongLemmas.{short_piece, open_behind, open_alone}
use Rattle.pg_blocks.proofs.cutter.line_after.Goals as goal

chosen : (b : Bool) (n m : ℕ) → b ≡ false → n ≡ m → Some n ≡ cond b None (Some m)
chosen b n m e same = ap Some same ∙ sym (ap (λ t. cond t None (Some m)) e)

pub returns-in-Some-clause-value : goal.returns-in-Some-clause-value
returns-in-Some-clause-value c =
    chosen _ _ _ (short_piece c.args.end c.args.longest c.args.line c.args.piece.now (omega arith))
    (sym (open_behind c.args.end c.args.line c.args.piece.now c.in-Some.last c.in-Some.ensures))

pub returns-in-None-clause-value : goal.returns-in-None-clause-value
returns-in-None-clause-value c =
    chosen _ _ _ (short_piece c.args.end c.args.longest c.args.line c.args.piece.now (omega arith))
    (sym (open_alone c.args.end c.args.line c.args.piece.now c.in-None.ensures))
