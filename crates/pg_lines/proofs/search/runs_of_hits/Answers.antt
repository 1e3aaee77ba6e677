use Rattle.std.proofs.Common.{◌≡◌, ◌+◌, ◌-◌, ℕ, Bool, false, List, ◌++◌, [], cond, length, drop, map, sym, ap, ◌∙◌}
use Rattle.std.proofs.Common.{subst, arith}
use Rattle.std.proofs.Common.{refl}
use Rattle.std.proofs.lemmas.List.{take_rest}
use Rattle.pg_blocks.specs.Lines.{lines, AreShort}
use Rattle.pg_selection.specs.Search.{SearchText, Pattern, AreTreesOf, search_of, uninverted, terminator_of}
use Rattle.pg_selection.specs.Selection.{parts_of_line}
use Rattle.pg_selection.specs.Runs.{AllLines, AreRuns}
use Rattle.pg_selection.specs.BlockParts.{part_at}
use Rattle.pg_prefilter.specs.NextHits.{IsNextLine}
use Rattle.pg_lines.specs.Gathered.{IsGathered}
use Rattle.pg_prefilter.specs.Candidates.{AreNeedles}
use Rattle.pg_selection.specs.declared.run.Run.{Run}
use Rattle.pg_selection.specs.declared.run.Part.{Part}
use Rattle.pg_blocks.specs.declared.span.Span.{Span}
use Rattle.pg_lines.proofs.GatherLemmas.{gathered_none, gathered_all, all_counted, short_behind}
use Rattle.pg_lines.proofs.PartLemmas.{line_one, line_short, parts_with_line, parts_of_all, parts_before_none}
use Rattle.pg_lines.proofs.search.runs_of_hits.Goals as goal

-- where nothing is inverted, the lines with a hit are those that are selected
upright : (text : SearchText) → text.invert ≡ false → uninverted text ≡ text
upright text plain = ap turned (sym plain)
  where
    turned : Bool → SearchText
    turned invert = record {
      kind = text.kind;
      lists = text.lists;
      fold = text.fold;
      whole = text.whole;
      word = text.word;
      invert = invert;
      with_parts = text.with_parts;
      zero = text.zero;
    }

next_of : (text : SearchText) (trees : List Pattern) (at : ℕ) (bytes : List ℕ) (line : Span) → text.invert ≡ false
    → IsNextLine (search_of (uninverted text) trees) at bytes line → IsNextLine (search_of text trees) at bytes line
next_of text trees at bytes line plain found =
    subst (λ t. IsNextLine (search_of t trees) at bytes line) (upright text plain) found

none_of : (text : SearchText) (trees : List Pattern) (bytes : List ℕ) → text.invert ≡ false
    → AllLines (search_of (uninverted text) trees) false bytes → AllLines (search_of text trees) false bytes
none_of text trees bytes plain none = subst (λ t. AllLines (search_of t trees) false bytes) (upright text plain) none

pub loop-line-init : goal.loop-line-init
loop-line-init g c =
    let text = c.args.query.now.text in
    let bytes = c.args.bytes.now in
    record {
      fits = c.requires.ready.fits;
      within = omega arith;
      few = omega arith;
      needles = c.requires.ready.needles;
      short = c.requires.ready.short;
      gathered = λ trees spelled.
          let run : Run = record { span = record { start = 0; end = 0 }; first = 0; count = 0 } in
          let P : List Run → Type 0 = λ runs. IsGathered (search_of text trees) bytes runs run in
          subst P (sym c.new-runs.ensures.items) (gathered_none (search_of text trees) bytes run refl refl refl refl);
      parts = λ trees spelled. c.new-parts.ensures.items ∙ sym (parts_before_none (search_of text trees) bytes);
    }

pub push_line_parts-requires-clause-one : goal.push_line_parts-requires-clause-one
push_line_parts-requires-clause-one g c =
    let own = c.requires.compiled in
    let q = search_of c.args.query.now.text own.0 in
    let bytes = c.args.bytes.now in
    let i = c.loop-line.invariant in
    let runs = c.loop-line.runs.items in
    let run = c.loop-line.run in
    let line = c.in-Some.line in
    let gathered = i.gathered own.0 own.1 in
    let found = next_of c.args.query.now.text own.0 c.loop-line.run.span.end
    (drop c.loop-line.run.span.end c.args.bytes.now) c.in-Some.line c.requires.upright
    (c.in-Some.ensures.found.first own.0 own.1) in
    let one = line_one q bytes runs run gathered line found in
    (one.0, line_short q bytes runs run gathered line found i.short, one.2)

pub loop-line-preserved : goal.loop-line-preserved
loop-line-preserved g c =
    let text = c.args.query.now.text in
    let own = c.requires.compiled in
    let bytes = c.args.bytes.now in
    let i = c.loop-line.invariant in
    let runs = c.loop-line.runs.items in
    let run = c.loop-line.run in
    let line = c.in-Some.line in
    let new = c.in_ok-run.run' in
    let longer = c.in_ok-run.ensures in
    let number = new.first + new.count - 1 in
    let counted : number + 1 ≡ new.first + new.count = omega (arith, longer.few.0) in
    let Short : ℕ → Type 0 = λ n. AreShort (terminator_of text) (drop n bytes) in
    record {
      fits = c.push_line_parts.ensures.fits;
      within = omega (arith, longer.stop, c.in-Some.ensures.found.within.2);
      few = longer.few.1;
      needles = subst (λ n. AreNeedles text bytes n c.next_hit.new.needles) (sym longer.stop) c.in-Some.ensures.needles;
      short = subst Short (sym longer.stop)
          (short_behind (search_of text own.0) bytes run.span.end 0 _
          (next_of c.args.query.now.text own.0 c.loop-line.run.span.end
          (drop c.loop-line.run.span.end c.args.bytes.now) c.in-Some.line c.requires.upright
          (c.in-Some.ensures.found.first own.0 own.1)).1 i.short);
      gathered = λ trees spelled. longer.gathered (search_of text trees) c.terminator-end.ensures
          (i.gathered trees spelled) (next_of c.args.query.now.text trees c.loop-line.run.span.end
          (drop c.loop-line.run.span.end c.args.bytes.now) c.in-Some.line c.requires.upright
          (c.in-Some.ensures.found.first trees spelled));
      parts = λ trees spelled.
          let q = search_of text trees in
          let gathered = i.gathered trees spelled in
          let found = next_of c.args.query.now.text trees c.loop-line.run.span.end
          (drop c.loop-line.run.span.end c.args.bytes.now) c.in-Some.line c.requires.upright
          (c.in-Some.ensures.found.first trees spelled) in
          let gathered' = longer.gathered q c.terminator-end.ensures gathered found in
          let one = line_one q bytes runs run gathered line found in
          let put : List Part = cond text.with_parts (map (part_at line.start number) (parts_of_line q one.0)) [] in
          c.in_ok-push_line_parts.ensures.parts trees spelled one.0 one.2 one.1
          ∙ (ap (λ ps. ps ++ put) (i.parts trees spelled)
          ∙ sym (parts_with_line q bytes runs run gathered line found c.with_line.new.runs.items new gathered'
          longer.stop one.0 one.2 one.1 number counted));
    }

pub returns-clause-found : goal.returns-clause-found
returns-clause-found g c =
    let text = c.args.query.now.text in
    let bytes = c.args.bytes.now in
    let kept = c.loop-line.runs.items in
    let run = c.loop-line.run in
    let i = c.loop-line.invariant in
    let none : (trees : List Pattern) → AreTreesOf text trees
    → AllLines (search_of text trees) false (drop run.span.end bytes) = λ trees spelled.
    none_of text trees (drop run.span.end bytes) c.requires.upright (c.in_default.ensures.found trees spelled) in
    record {
      runs = λ trees spelled.
          let P : List Run → Type 0 = λ runs. AreRuns (search_of text trees) 0 0 bytes runs in
          subst P (sym c.in_ok-push_run.ensures)
          (gathered_all (search_of text trees) bytes kept run (i.gathered trees spelled) (none trees spelled));
      parts = λ trees spelled. i.parts trees spelled
          ∙ parts_of_all (search_of text trees) bytes kept run (i.gathered trees spelled) (none trees spelled);
      lines =
          let own = c.requires.compiled in
          let all = all_counted (search_of text own.0) bytes kept run (i.gathered own.0 own.1) in
          let rest : c.count_lines.result ≡ length (lines (terminator_of text) (drop run.span.end bytes)) =
          c.count_lines.ensures.count
          ∙ (ap (λ xs. length (lines c.terminator-end.result xs)) (take_rest bytes run.span.end)
          ∙ ap (λ t. length (lines t (drop run.span.end bytes))) c.terminator-end.ensures) in
          omega (arith, all, rest);
    }

pub next_hit-requires : goal.next_hit-requires
next_hit-requires g c =
    let i = c.loop-line.invariant in
    record {
      within = i.within;
      judge = c.requires.ready.judge;
      needles = i.needles;
      fits = i.fits;
      short = i.short;
    }
