-- Files that are read one after the other.
use Rattle.std.proofs.Common.{◌≡◌, ◌∙◌, ◌+◌, ◌<◌, List, [], ◌∷◌, ◌++◌, ℕ, length, take, drop, get_or}
use Rattle.std.proofs.Common.{Result, Ok, Err, ap, subst, sym}
use Rattle.std.specs.Borrow.{Bor}
use Rattle.std.specs.Result.{IfErr, IsErrAnd}
use Rattle.pg_grammar.specs.Slices.{bytes_of}
use Rattle.pg_grammar.proofs.ListLemmas.{texts-more, texts-whole}
use Rattle.pg_base.specs.Entries.{Ended}
use Rattle.pg_files.specs.Given.{FileOutcome, File}
use Rattle.pg_request.specs.Reading.{HasRead, StopsAt, FailsToReadAll}
use Rattle.pg_request.specs.declared.fault.Fault.{Fault}

-- what follows of the one error holds of it
pub if_err : {T E : Type 0} (P Q : E → Type 0) (r : Result T E) → IsErrAnd r Q → ((e : E) → Q e → P e) → IfErr r P
if_err P Q (Ok x) h f = tt
if_err P Q (Err e) h f = f e h

-- one more file was read
pub read_next : (paths contents : List (List ℕ)) (path content : List ℕ) (past mid past' : List FileOutcome)
    → HasRead past mid paths contents → past' ≡ File path content Ended ∷ mid
    → HasRead past past' (paths ++ path ∷ []) (contents ++ content ∷ [])
read_next [] [] path content past mid past' h r = r ∙ ap (λ p. File path content Ended ∷ p) h
read_next [] (c ∷ contents) path content past mid past' h r = absurd h
read_next (p ∷ paths) [] path content past mid past' h r = absurd h
read_next (p ∷ paths) (c ∷ contents) path content past mid past' h r =
    read_next paths contents path content (File p c Ended ∷ past) mid past' h r

-- the same, with the paths up to a place
pub read_more : (paths : List (Bor (List ℕ))) (i : ℕ) (d : Bor (List ℕ)) (contents : List (List ℕ))
    (content : List ℕ) (past mid past' : List FileOutcome) → i < length paths
    → HasRead past mid (bytes_of (take i paths)) contents → past' ≡ File (get_or paths i d).now content Ended ∷ mid
    → HasRead past past' (bytes_of (take (i + 1) paths)) (contents ++ content ∷ [])
read_more paths i d contents content past mid past' h r whole =
    let P : List (List ℕ) → Type 0 = λ ps. HasRead past past' ps (contents ++ content ∷ []) in
    subst P (sym (texts-more paths i d h))
    (read_next (bytes_of (take i paths)) contents (get_or paths i d).now content past mid past' r whole)

-- the file that wasn't read stands behind those that were
pub stops_behind : (paths : List (Bor (List ℕ))) (i : ℕ) (d : Bor (List ℕ)) (contents : List (List ℕ))
    (past mid past' : List FileOutcome) (fault : Fault) → i < length paths
    → HasRead past mid (bytes_of (take i paths)) contents → StopsAt (get_or paths i d).now mid past' fault
    → FailsToReadAll (bytes_of paths) past past' fault
stops_behind paths i d contents past mid past' fault h r s = record {
  front = bytes_of (take i paths);
  path = (get_or paths i d).now;
  rest = bytes_of (drop (i + 1) paths);
  joins = texts-whole paths i d h;
  contents = contents;
  between = mid;
  read = r;
  stops = s;
}
