use Rattle.std.proofs.Common.{◌∙◌, ◌≤◌, ◌+◌, ℕ, List, subst, sym, ap, arith, refl, length, take, drop}
use Rattle.std.proofs.lemmas.Result.{IfOk-from_err}
use Rattle.std.proofs.lemmas.List.{length-take-le}
use Rattle.pg_blocks.specs.Blocks.{IsUnfinished}
use Rattle.pg_blocks.specs.Cutter.{room_of}
use Rattle.pg_blocks.proofs.CutterLemmas.{no_long, fed_stands}
use Rattle.pg_blocks.proofs.RoomLemmas.{held_stays, on_err}
use Rattle.pg_blocks.proofs.FaultLemmas.{room_fits, numbers_fit, numbers_more, piece_within}
use Rattle.pg_blocks.proofs.cutter.Cutter.take_in.Goals as goal

pub invariant_of-self : goal.invariant_of-self
invariant_of-self g c =
    let self = c.args.self.now in
    let same = c.in_err-blocks.ensures.err.0 in
    let P : List ℕ → Type 0 = λ xs. IsUnfinished self.end self.size (take self.filled xs) in
    record {
      sized = self.sized;
      within = subst (λ (xs : List ℕ). self.filled ≤ length xs) (sym same) self.within;
      unfinished = subst P (sym same) self.unfinished;
      few = self.few;
      numbers = self.numbers;
      line_fits = self.line_fits;
    }

pub invariant_of-self-2 : goal.invariant_of-self-2
invariant_of-self-2 g c =
    let self = c.args.self.now in
    let cut = c.in_ok-blocks.ensures in
    record {
      sized = self.sized;
      within = cut.within;
      unfinished = cut.ok.cuts.unfinished;
      few = room_fits _ c.args.count (room_of self) c.requires.within c.requires.goes_on.fits;
      numbers = numbers_more self.number self.filled _ _ c.args.count self.numbers cut.few;
      line_fits = c.requires.goes_on.within;
    }

pub returns-clause-ok : goal.returns-clause-ok
returns-clause-ok g c = λ past s.
    let self = c.args.self.now in
    let piece = take c.args.count (room_of self) in
    let size = ap (λ n. self.total + n) (sym (length-take-le c.args.count (room_of self) c.requires.within)) in
    fed_stands self _ past piece _ _ _ s refl refl refl refl refl size c.requires.goes_on.behind refl refl
    c.in_ok-blocks.ensures.ok (no_long self past piece s c.requires.goes_on.short)

pub returns-clause-err : goal.returns-clause-err
returns-clause-err g c = tt

pub returns-clause-same : goal.returns-clause-same
returns-clause-same g c = tt

pub returns-in_err-blocks-clause-ok : goal.returns-in_err-blocks-clause-ok
returns-in_err-blocks-clause-ok g c = λ past s. IfOk-from_err c.from_residual.result _ c.from_residual.ensures.0

pub returns-in_err-blocks-clause-err : goal.returns-in_err-blocks-clause-err
returns-in_err-blocks-clause-err g c =
    let self = c.args.self.now in
    let err = c.in_err-blocks.ensures.err in
    on_err _ c.from_residual.result record {
      stands =
          λ past s. held_stays self _ past s refl refl refl refl refl refl refl err.1 (ap (take self.filled) err.0);
      drained = λ d. err.1 ∙ d;
    }

pub returns-in_err-blocks-clause-same : goal.returns-in_err-blocks-clause-same
returns-in_err-blocks-clause-same g c =
    let room = ap (drop c.args.self.now.filled) c.in_err-blocks.ensures.err.0 in
    on_err _ c.from_residual.result room

pub cut_filled-requires-clause-number : goal.cut_filled-requires-clause-number
cut_filled-requires-clause-number g c =
    let self = c.args.self.now in
    numbers_fit self.number self.filled c.args.count self.numbers
    (room_fits _ c.args.count (room_of self) c.requires.within c.requires.goes_on.fits)

pub cut_filled-requires-clause-within : goal.cut_filled-requires-clause-within
cut_filled-requires-clause-within g c = piece_within c.args.self.now.rest.items c.args.self.now.within c.requires.within

pub overflow_add-self : goal.overflow_add-self
overflow_add-self g c =
    let self = c.args.self.now in
    let fits = room_fits _ c.args.count (room_of self) c.requires.within c.requires.goes_on.fits in
    omega (arith, c.in_ok-blocks.ensures.few, self.numbers, fits)

pub overflow_add-self-2 : goal.overflow_add-self-2
overflow_add-self-2 g c =
    let fits = room_fits _ c.args.count (room_of c.args.self.now) c.requires.within c.requires.goes_on.fits in
    omega (arith, fits)
