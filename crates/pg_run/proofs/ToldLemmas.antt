-- What is told of files. Serves the law `told_of_shares`.
use Rattle.std.proofs.Common.{◌≡◌, Bool, true, false, List, [], ◌∷◌, ◌++◌, refl, sym, ap, ◌∙◌, append_assoc}
use Rattle.std.proofs.lemmas.List.{append-nil}
use Rattle.pg_files.specs.Given.{FileOutcome}
use Rattle.pg_run.specs.Told.{fault_of, faults_of, told_of}

faults_join : (first later : List FileOutcome) → faults_of (later ++ first) ≡ faults_of first ++ faults_of later
faults_join first [] = sym (append-nil (faults_of first))
faults_join first (g ∷ later) =
    ap (λ xs. xs ++ fault_of g) (faults_join first later)
    ∙ append_assoc (faults_of first) (faults_of later) (fault_of g)

pub told_join : (silent : Bool) (first later : List FileOutcome)
    → told_of silent (later ++ first) ≡ told_of silent first ++ told_of silent later
told_join true first later = refl
told_join false first later = faults_join first later
