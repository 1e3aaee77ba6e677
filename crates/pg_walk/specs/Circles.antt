-- Whether links lead back to a directory from within.
use Rattle.std.specs.Prelude.{ℕ, ◌==◌, ◌&&◌, Bool, false, Option, Some, None}
use Rattle.std.specs.List.{list_any}
use Rattle.pg_walk.specs.Answers.{Path, Answers}
use Rattle.pg_walk.specs.Paths.{above}
use Rattle.pg_walk.specs.declared.tree.Identity.{Identity}

-- both identities can be told, and are of one file
abbrev pub are_one : Option Identity → Option Identity → Bool
are_one None other = false
are_one (Some x) None = false
are_one (Some x) (Some y) = (x.device == y.device) && (x.number == y.number)

-- at the path of an entry of this depth stands one of the directories that the entry lies in
abbrev pub lies_in_itself : Answers → (depth : ℕ) → (path : Path) → Bool
lies_in_itself a depth path =
    list_any (λ directory. are_one (a.identity directory) (a.identity path)) (above depth path)
