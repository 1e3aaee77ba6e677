-- What a query finds in a block, as a run sees it.
use Rattle.std.specs.declared.sync.Arc.{Arc}
use Rattle.std.proofs.Props.{props}
use Rattle.pg_blocks.specs.Blocks.{BlockData}
use Rattle.pg_match.specs.Machines.{Room, Fits}
use Rattle.pg_selection.specs.Searched.{SearchedBlock}
use Rattle.pg_lines.specs.Queries.{Compiled}
use Rattle.pg_workers.specs.Searches.{SearchView}
use Rattle.pg_run.specs.Searches.{HasShortLines, IsFoundIn}

module _ {A : Type 0} where
  -- blocks with short lines may be searched, by scratches for the query's machine
  abbrev pub seen_of : Compiled → SearchView (Arc BlockData A) Room SearchedBlock
  seen_of query = record {
    may = HasShortLines query.text;
    fits = λ scratch. Fits scratch query.machine;
    fits_once = λ scratch. Prim.hlevel props;
    finds = IsFoundIn query.text;
  }
