use Rattle.std.proofs.Common.{◌≡◌, ◌<◌, List, ◌∷◌, [], length, drop, refl, arith}
use Rattle.std.proofs.lemmas.List.{drop_all, length-drop}
use Rattle.pg_seq.proofs.AheadLemmas.{no_file, file_next}
use Rattle.pg_seq.proofs.assembler.Assembler.file_ahead.Goals as goal

first_of : {X : Type 0} (xs : List X) → 0 < length xs → (x : X) × (rest : List X) × (xs ≡ x ∷ rest)
first_of [] some = absurd (omega (arith, some))
first_of (x ∷ xs) some = (x, xs, refl)

pub returns-then-ahead-len : goal.returns-then-ahead-len
returns-then-ahead-len g c =
    let s = c.args.self.now in
    record {
      further = λ past h i.
          no_file s past h c.args.ahead i c.requires
          (drop_all c.args.ahead.files s.waiting.items
          (omega (arith, c.if-ahead-len.true, c.len.ensures, s.waiting.ok.0)));
      fewer = tt;
    }

pub returns : goal.returns
returns g c =
    let s = c.args.self.now in
    let a = c.args.ahead in
    record {
      further = λ past h i.
          let some : 0 < length (drop a.files s.waiting.items) = omega
          (arith, length-drop a.files s.waiting.items, c.if-ahead-len.false, c.len.ensures, s.waiting.ok.0) in
          let first = first_of (drop a.files s.waiting.items) some in
          file_next s past h a i first.0 first.1 c.requires first.2 _ refl refl refl c.new.ensures refl;
      fewer = omega (arith, c.if-ahead-len.false, c.len.ensures, s.waiting.ok.0);
    }
