use Rattle.std.proofs.Common.{◌≡◌, ◌-◌, ◌≤◌, ◌∙◌, ℕ, List, length, take, sym, ap, subst, refl, arith}
use Rattle.pg_blocks.specs.Blocks.{IsUnfinished}
use Rattle.pg_blocks.proofs.CutterLemmas.{no_lines, early_lines, early_stands}
use Rattle.pg_blocks.proofs.EarlyLemmas.{unfinished_behind}
use Rattle.pg_blocks.proofs.cutter.Cutter.take_lines.Goals as goal

pub returns-then-self-open-clause-none : goal.returns-then-self-open-clause-none
returns-then-self-open-clause-none g c = λ past s.
    no_lines c.args.self.now past s c.requires c.if-self-open.true

pub invariant_of-self : goal.invariant_of-self
invariant_of-self g c =
    let self = c.args.self.now in
    let same = c.in_err-bytes.ensures.err in
    let P : List ℕ → Type 0 = λ xs. IsUnfinished self.end self.size (take self.filled xs) in
    record {
      sized = self.sized;
      within = subst (λ (xs : List ℕ). self.filled ≤ length xs) (sym same) self.within;
      unfinished = subst P (sym same) self.unfinished;
      few = self.few;
      numbers = self.numbers;
      line_fits = self.line_fits;
    }

pub invariant_of-self-2 : goal.invariant_of-self-2
invariant_of-self-2 g c =
    let self = c.args.self.now in
    let less = c.if-self-open.false in
    let n : self.filled - (self.filled - self.line) ≡ self.line = omega arith in
    let bytes = c.take_front.new.rest.items in
    let left = sym (ap (λ k. take k bytes) n) ∙ c.in_ok-bytes.ensures.left in
    let P : List ℕ → Type 0 = λ xs. IsUnfinished self.end self.size xs in
    record {
      sized = self.sized;
      within = omega (arith, c.in_ok-bytes.ensures.within, n);
      unfinished =
          subst P (sym left)
          (unfinished_behind self.end self.size (self.filled - self.line) (take self.filled self.rest.items)
          self.sized.0 self.unfinished);
      few = self.few;
      numbers = omega (arith, self.numbers, less);
      line_fits = self.line_fits;
    }

pub returns-clause-stands : goal.returns-clause-stands
returns-clause-stands g c = λ past s.
    let self = c.args.self.now in
    let n : self.filled - (self.filled - self.line) ≡ self.line = omega (arith, c.if-self-open.false) in
    let left = sym (ap (λ k. take k c.take_front.new.rest.items) n) ∙ c.in_ok-bytes.ensures.left in
    early_stands self past s c.requires (omega (arith, c.if-self-open.false)) c.in_ok-bytes.bytes.items
    c.in_ok-bytes.ensures.front _ refl refl refl refl refl refl refl c.requires left

pub returns-clause-some : goal.returns-clause-some
returns-clause-some g c = λ past s.
    early_lines c.args.self.now past s c.requires (omega (arith, c.if-self-open.false)) c.in_ok-bytes.bytes.items
    c.in_ok-bytes.ensures.front
