-- Filters whose files are read one after the other. For `read_globs` and `file_filter`.
use Rattle.std.proofs.Common.{◌≡◌, ◌∙◌, ℕ, ◌+◌, ◌<◌, ◌≤◌, List, [], ◌∷◌, ◌++◌, Option, Some, None, length, drop, get_or}
use Rattle.std.proofs.Common.{add-one, drop-cons, append_assoc, append-nil, ap, refl, subst, sym}
use Rattle.std.proofs.lemmas.List.{drop_all}
use Rattle.pg_files.specs.Given.{FileOutcome}
use Rattle.pg_words.specs.Filters.{filter_said, filters_of}
use Rattle.pg_words.specs.declared.request.FileFilter.{FileFilter}
use Rattle.pg_request.specs.Asked.{before_files, glob_file, glob_files}
use Rattle.pg_request.specs.Reading.{FailsToReadAll, HasRead, StopsAt}
use Rattle.pg_request.specs.declared.fault.Fault.{Fault}

-- the filters from a place on
pub filters_here : (filters : List FileFilter) (i : ℕ) (d f : FileFilter) → i < length filters → f ≡ get_or filters i d
    → filters_of (drop i filters) ≡ filter_said f ∷ filters_of (drop (i + 1) filters)
filters_here filters i d f h is = rw (add-one, drop-cons filters i d h, is) refl

-- behind the last one nothing is left
pub filters_end : (filters : List FileFilter) (i : ℕ) → length filters ≤ i → filters_of (drop i filters) ≡ []
filters_end filters i h = ap filters_of (drop_all i filters h)

-- These paths and those of the filters from a place on are all that are read.
module _ (filters : List FileFilter) (i : ℕ) (d f : FileFilter) (h : i < length filters) (is : f ≡ get_or filters i d)
    (front : List (List ℕ))
    (joins : front ++ glob_files (filters_of (drop i filters)) ≡ glob_files (filters_of filters))
  where
    abbrev rest : List (List ℕ)
    rest = glob_files (filters_of (drop (i + 1) filters))

    paths_here : (o : Option (List ℕ)) → glob_file (filter_said f) ≡ o
        → front ++ before_files o rest ≡ glob_files (filters_of filters)
    paths_here o e =
        ap (λ ps. front ++ ps)
        (sym (ap glob_files (filters_here filters i d f h is) ∙ ap (λ (p : Option (List ℕ)). before_files p rest) e))
        ∙ joins

    pub no_path : glob_file (filter_said f) ≡ None → front ++ rest ≡ glob_files (filters_of filters)
    no_path e = paths_here None e

    pub one_path : (path : List ℕ) → glob_file (filter_said f) ≡ Some path
        → (front ++ path ∷ []) ++ rest ≡ glob_files (filters_of filters)
    one_path path e = append_assoc front (path ∷ []) rest ∙ paths_here (Some path) e

    -- the file that wasn't read stands behind those that were
    pub stops_there : (path : List ℕ) (contents : List (List ℕ)) (past mid past' : List FileOutcome) (fault : Fault)
        → glob_file (filter_said f) ≡ Some path → HasRead past mid front contents → StopsAt path mid past' fault
        → FailsToReadAll (glob_files (filters_of filters)) past past' fault
    stops_there path contents past mid past' fault e read stops = record {
      front = front;
      path = path;
      rest = rest;
      joins = sym (paths_here (Some path) e);
      contents = contents;
      between = mid;
      read = read;
      stops = stops;
    }

-- all of them were read
pub all_read : (filters : List FileFilter) (i : ℕ) (front contents : List (List ℕ)) (past past' : List FileOutcome)
    → length filters ≤ i
    → front ++ glob_files (filters_of (drop i filters)) ≡ glob_files (filters_of filters)
    → HasRead past past' front contents → HasRead past past' (glob_files (filters_of filters)) contents
all_read filters i front contents past past' h joins read =
    let same : front ≡ glob_files (filters_of filters) =
    sym (append-nil front) ∙ (ap (λ ps. front ++ glob_files ps) (sym (filters_end filters i h)) ∙ joins) in
    subst (λ paths. HasRead past past' paths contents) same read
