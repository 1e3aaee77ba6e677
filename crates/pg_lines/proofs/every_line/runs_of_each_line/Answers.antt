use Rattle.std.proofs.Common.{◌≡◌, ◌∙◌, ◌-◌, ◌++◌, ◌∷◌, [], ℕ, List, Vec, cond, nat_lt, ap, arith, drop, length}
use Rattle.std.proofs.Common.{refl, subst, sym, take, true, false}
use Rattle.std.proofs.lemmas.List.{take_all}
use Rattle.pg_blocks.specs.Lines.{lines}
use Rattle.pg_selection.specs.Runs.{AreRuns}
use Rattle.pg_selection.specs.Search.{SearchText, search_of, terminator_of}
use Rattle.pg_selection.specs.declared.run.Run.{Run}
use Rattle.pg_lines.proofs.EachLineLemmas.{each_selected, each_unselected, none_of_each, not_asked, run_of_each}
use Rattle.pg_lines.proofs.every_line.runs_of_each_line.Goals.{then-not-text+in_ok-push_run, else-not-text}
use Rattle.pg_lines.proofs.every_line.runs_of_each_line.Goals as goal

-- all lines were counted
counted : (bytes : List ℕ) (n given end stop : ℕ) → given ≡ end → stop ≡ length bytes
    → n ≡ length (lines given (take (stop - 0) (drop 0 bytes))) → n ≡ length (lines end bytes)
counted bytes n given end stop same all count =
    count ∙ (ap (λ t. length (lines t (take (stop - 0) bytes))) same
    ∙ ap (λ xs. length (lines end xs)) (take_all (stop - 0) bytes (omega (arith, all))))

pub returns : goal.returns
returns g c =
    let text = c.args.query.now.text in
    let bytes = c.args.bytes.now in
    let same = ap (λ (t : SearchText). t.invert) (c.behind-query.view_is ∙ c.text.ensures.text) in
    let run = c.run_between-run.result in
    let between = c.run_between-run.ensures in
    let count = counted bytes run.count c.terminator.result (terminator_of text) (length bytes) c.terminator.ensures
    refl between.count in
    record {
      runs = λ trees spelled.
          let q = search_of text trees in
          let P : List Run → Type 0 = λ rs. AreRuns q 0 0 bytes rs in
          let each = c.requires.each trees spelled in
          elim c.if-not-text.branch [
            | then-not-text+in_ok-push_run w ↦
                let upright : text.invert ≡ false = sym same ∙ w.if-not-text.true in
                let is = ap (λ (r : Vec Run g.row.A.Denot). r.items) w.runs-is
                ∙ (w.in_ok-push_run.ensures
                ∙ ap (λ (rs : List Run). rs ++ cond (nat_lt run.span.start run.span.end) (run ∷ []) [])
                c.new-runs.ensures.items) in
                subst P (sym is) (run_of_each q bytes run (λ line. each_selected q line upright (each line))
                between.span.0 between.span.1 between.first count)
            | else-not-text w ↦
                let inverted : text.invert ≡ true = sym same ∙ w.if-not-text.false in
                let is = ap (λ (r : Vec Run g.row.A.Denot). r.items) w.runs-is ∙ c.new-runs.ensures.items in
                subst P (sym is) (none_of_each q bytes (λ line. each_unselected q line inverted (each line)))
          ];
      parts = λ trees spelled. c.new.ensures.items ∙ not_asked text.with_parts _ c.requires.plain;
      lines = count;
    }
