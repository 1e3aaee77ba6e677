use Rattle.std.proofs.Common.{◌≡◌, ◌∙◌, ◌-◌, ◌<◌, ℕ, List, [], Option, Some, get_or, take, drop, map, length, ap, sym}
use Rattle.std.proofs.Common.{arith, take_all}
use Rattle.std.specs.Prelude.{option_map, slice_get}
use Rattle.std.proofs.lemmas.List.{drop_all, length-drop}
use Rattle.std.proofs.lemmas.Option.{slice_get-map, slice_get-get_or}
use Rattle.pg_files.specs.MemStore.{stored_file, content_behind, left_of}
use Rattle.pg_files.specs.declared.mem_store.MemFile.{MemFile}
use Rattle.pg_files.proofs.mem_store.MemStore.left_of.Goals as goal

-- the file at a place, and what it has left
left_at : (files : List MemFile) (given : Option ℕ) (place at : ℕ) (file : MemFile) (left : List ℕ) → given ≡ Some place
    → place < length files
    → ((d : MemFile) → file ≡ get_or files place d) → left ≡ drop at file.bytes.items
    → Some (record { bytes = left; ending = file.ending }) ≡ left_of (map stored_file files) given at
left_at files given place at file left which within is same =
    let here : slice_get files place ≡ Some file = slice_get-get_or files place file within ∙ ap Some (sym (is file)) in
    rw (which, same) (sym
    (ap (option_map (λ f. content_behind at f.1)) (slice_get-map stored_file files place
    ∙ ap (option_map stored_file) here)))

pub returns-then-at-bytes-clause-left : goal.returns-then-at-bytes-clause-left
returns-then-at-bytes-clause-left g c =
    let bytes = c.as_slice-bytes.result.now in
    let at = c.args.at in
    let all : take (length bytes - at) (drop at bytes) ≡ drop at bytes =
    take_all (length bytes - at) (drop at bytes) (omega (arith, length-drop at bytes)) in
    left_at c.args.files.now c.args.place c.in_ok-place.field-0 at c.in_ok-file.file.now _ c.in_ok-place.was
    c.in_ok-file.ensures.lookup.3.0 c.in_ok-file.ensures.lookup.3.1
    (all ∙ ap (drop at) c.as_slice-bytes.ensures.value)

pub returns-else-at-bytes-clause-left : goal.returns-else-at-bytes-clause-left
returns-else-at-bytes-clause-left g c =
    let bytes = c.as_slice-bytes.result.now in
    let at = c.args.at in
    left_at c.args.files.now c.args.place c.in_ok-place.field-0 at c.in_ok-file.file.now [] c.in_ok-place.was
    c.in_ok-file.ensures.lookup.3.0 c.in_ok-file.ensures.lookup.3.1
    (sym (drop_all at bytes (omega (arith, c.if-at-bytes.false))) ∙ ap (drop at) c.as_slice-bytes.ensures.value)
