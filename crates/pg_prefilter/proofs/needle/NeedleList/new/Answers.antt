use Rattle.std.proofs.Common.{◌++◌, ◌∷◌, [], map, take, sym, ap, ◌∙◌, subst}
use Rattle.std.specs.List.{All}
use Rattle.std.proofs.lemmas.List.{map-append, map_more}
use Rattle.std.proofs.lemmas.List.Elements.{All-push}
use Rattle.pg_prefilter.specs.Literals.{data_of}
use Rattle.pg_prefilter.specs.Candidates.{literal_of, IsAhead}
use Rattle.pg_prefilter.specs.declared.needle.Needle.{Needle}
use Rattle.pg_prefilter.proofs.needle.NeedleList.new.Goals as goal

pub loop-literal-preserved : goal.loop-literal-preserved
loop-literal-preserved g c =
    let needles = c.loop-literal.needles.items in
    let literals = c.args.literals.now in
    let i = c.loop-literal.literal-index in
    let one = c.new.result in
    let joins = c.in_ok-push.ensures.items in
    let own = c.new.ensures.literal ∙ ap data_of c.literal-item.is in
    record {
      literals = ap (map literal_of) joins
          ∙ (map-append literal_of needles (one ∷ [])
          ∙ (ap (λ ls. ls ++ literal_of one ∷ []) c.loop-literal.invariant.literals
          ∙ (ap (λ l. map data_of (take i literals) ++ l ∷ []) own
          ∙ sym (map_more data_of literals i c.literal-item.result c.loop-literal-test.true))));
      ahead = λ bytes.
          let Ahead : Needle → Type 0 = IsAhead bytes 0 in
          subst (λ ns. All Ahead ns) (sym joins)
          (All-push Ahead needles one (c.loop-literal.invariant.ahead bytes) (c.new.ensures.ahead bytes));
    }
