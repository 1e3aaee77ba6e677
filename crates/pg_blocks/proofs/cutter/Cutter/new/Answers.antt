use Rattle.std.proofs.Common.{List, [], arith, rules, refl, sym, subst, ap, length}
use Rattle.pg_blocks.specs.Blocks.{BlockData, AreNumbered}
use Rattle.pg_blocks.specs.Cutter.{CutsFed, unfed}
use Rattle.pg_blocks.proofs.cutter.Cutter.new.Goals as goal

pub returns-clause-stands : goal.returns-clause-stands
returns-clause-stands g c =
    let none = sym c.new.ensures.items in
    let C : List BlockData → Type 0 = λ bs. CutsFed (unfed c.args.end c.args.file c.args.size c.args.longest) bs [] in
    let N : List BlockData → Type 0 = λ bs. AreNumbered c.args.file 0 bs in
    record {
      terminator = refl;
      file = refl;
      size = refl;
      longest = refl;
      cut =
          subst C none (record {
            later = [];
            rest = [];
            blocks_are = refl;
            bytes_are = refl;
            lines = tt;
            cut = record { whole = refl; finished = tt; unfinished = λ n low high _. absurd (omega arith) };
          });
      numbered = subst N none tt;
      next = ap length none;
      total = refl;
      short = search rules;
      line = refl;
    }
