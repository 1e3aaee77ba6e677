-- A text that is written part by part. Serves `write_each`.
use Rattle.std.proofs.Common.{ℕ, ◌+◌, ◌<◌, List, length, drop, get_or, ap}
use Rattle.std.proofs.lemmas.List.{drop_more}
use Rattle.std.specs.List.{flat_map}
use Rattle.pg_base.specs.Sink.{Stream, WritesAll, WritesPart}
use Rattle.pg_base.proofs.WriteLemmas.{WritesAllBut, left_less, left_part}

-- of what a list's elements give, the next element's text was written
pub left_of_parts : {X : Type 0} (f : X → List ℕ) (xs : List X) (k : ℕ) (d : X) (before middle after : Stream)
    → k < length xs → WritesAllBut (flat_map f xs) (flat_map f (drop k xs)) before middle
    → WritesAll (f (get_or xs k d)) middle after → WritesAllBut (flat_map f xs) (flat_map f (drop (k + 1) xs)) before
    after
left_of_parts f xs k d before middle after below h w =
    left_less (flat_map f xs) (flat_map f (drop k xs)) (flat_map f (drop (k + 1) xs)) (f (get_or xs k d)) before middle
    after (ap (flat_map f) (drop_more xs k d below)) w h

pub part_of_parts : {X : Type 0} (f : X → List ℕ) (xs : List X) (k : ℕ) (d : X) (before middle after : Stream)
    → k < length xs → WritesAllBut (flat_map f xs) (flat_map f (drop k xs)) before middle
    → WritesPart (f (get_or xs k d)) middle after → WritesPart (flat_map f xs) before after
part_of_parts f xs k d before middle after below h w =
    left_part (flat_map f xs) (flat_map f (drop k xs)) (flat_map f (drop (k + 1) xs)) (f (get_or xs k d)) before middle
    after (ap (flat_map f) (drop_more xs k d below)) w h
