use Rattle.std.proofs.Common.{◌≡◌, ◌≤◌, ℕ, List, length, take, subst, true, false, map, ap, sym, ◌∙◌, inl, inr}
use Rattle.pg_selection.specs.Search.{SearchText, search_of}
use Rattle.pg_selection.specs.Selection.{parts_of_line}
use Rattle.pg_selection.specs.BlockParts.{part_at}
use Rattle.pg_prefilter.proofs.JudgeLemmas.{judges_front}
use Rattle.pg_lines.proofs.PartLemmas.{kept_none, no_parts}
use Rattle.pg_lines.proofs.parts.push_line_parts.Goals as goal
use Rattle.pg_lines.proofs.parts.push_line_parts.Goals.{else-options-via-then-options+else-not-options}
use Rattle.pg_lines.proofs.parts.push_line_parts.Goals.{else-options-via-else-options}

pub returns-else-options-clause-parts : goal.returns-else-options-clause-parts
returns-else-options-clause-parts g c = λ trees spelled text one chosen.
    let q = search_of c.args.query.now.text trees in
    let put = part_at c.args.line.start c.args.number in
    let view = c.options.view_is ∙ c.text-options.ensures.text in
    let invert : c.options.inside.invert ≡ q.text.invert = ap (λ (t : SearchText). t.invert) view in
    let pieces : c.options.inside.with_parts ≡ q.text.with_parts = ap (λ (t : SearchText). t.with_parts) view in
    elim c.else-options.branch [
      | else-options-via-then-options+else-not-options w ↦
          let inverted : c.options.inside.invert ≡ true = w.if-not-options.false in
          kept_none c.args.found.now.items (map put (parts_of_line q text)) q.text.with_parts
          (inr (ap (map put) (no_parts q text (sym invert ∙ inverted) chosen)))
      | else-options-via-else-options w ↦
          let unasked : c.options.inside.with_parts ≡ false = w.if-options.false in
          kept_none c.args.found.now.items (map put (parts_of_line q text)) q.text.with_parts
          (inl (sym pieces ∙ unasked))
    ]

pub push_parts-requires-clause-line : goal.push_parts-requires-clause-line
push_parts-requires-clause-line g c =
    let text = c.text_of-text.result.now in
    let Front : List ℕ → Type 0 = λ l. (text ≡ take (length text) l) × (length text ≤ length l) in
    let front = subst Front c.of.ensures (c.text_of-text.ensures.front, c.text_of-text.ensures.short) in
    judges_front c.args.query.now.text c.args.bytes.now c.args.judge.now c.requires.judge text c.args.line.start
    c.args.line.end c.requires.ordered c.requires.within front.0 front.1
