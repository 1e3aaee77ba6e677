-- What was found in the patterns of a query, by which lines are judged before the automaton.
use Rattle.std.specs.Prelude.{IsTrue, IfSome, map}
use Rattle.pg_selection.specs.Search.{SearchText}
use Rattle.pg_strings.specs.Outcomes.{strings_of}
use Rattle.pg_prefilter.specs.Literals.{AreLiterals, IsRowOf, TellHeads, data_of}
use Rattle.pg_prefilter.specs.Strings.{AreNonEmpty, HitsIgnoreFront, IsTextReach, IsSetOf, IsSuffixOf}
use Rattle.pg_prefilter.specs.declared.prefilter.Prefilter.{Prefilter}

-- all that it holds is true of the query's hits
pub record IsPrefilterOf {A : Type 0} (text : SearchText) (found : Prefilter A) : Type 0 where
  pub literals : AreLiterals text (map data_of found.literals.items)
  pub heads : TellHeads text found.literals.items
  pub set : IfSome found.literal_set (IsSetOf text)
  pub non_empty : IfSome found.non_empty (λ set. AreNonEmpty text (strings_of set))
  pub suffix : IfSome found.suffix (IsSuffixOf text)
  pub front : IsTrue found.ignores_front → HitsIgnoreFront text
  pub reach : IfSome found.reach (IsTextReach text)
  pub row : IfSome found.row (IsRowOf text)
