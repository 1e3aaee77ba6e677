-- What a store in memory has left of the open file.
use Rattle.std.proofs.Common.{◌≡◌, ℕ, ◌<◌, List, [], ◌∷◌, ◌++◌, Option, Some, None, option_map}
use Rattle.std.proofs.Common.{slice_get, map, length, refl, sym, ap, ◌∙◌, arith, length-append}
use Rattle.std.proofs.lemmas.Option.{slice_get-map, slice_get-get_or}
use Rattle.std.proofs.lemmas.List.{get_or_append_left}
use Rattle.pg_files.specs.MemStore.{stored_file, left_of, content_behind}
use Rattle.pg_files.specs.declared.mem_store.MemFile.{MemFile}

-- what is added stands behind what was there
same_place : {X : Type 0} (xs ys : List X) (k : ℕ) → k < length xs → slice_get (xs ++ ys) k ≡ slice_get xs k
same_place [] ys k within = absurd (omega (arith, within))
same_place (x ∷ xs) ys k within =
    slice_get-get_or ((x ∷ xs) ++ ys) k x (omega (arith, within, length-append (x ∷ xs) ys))
    ∙ ap Some (get_or_append_left (x ∷ xs) ys x k within) ∙ sym (slice_get-get_or (x ∷ xs) k x within)

-- files that are added leave the open one as it is
pub left_added : (xs ys more : List MemFile) → ys ≡ xs ++ more → (place : Option ℕ) (at : ℕ)
    → ((k : ℕ) → place ≡ Some k → k < length xs)
    → left_of (map stored_file ys) place at ≡ left_of (map stored_file xs) place at
left_added xs ys more e None at within = refl
left_added xs ys more e (Some k) at within =
    let same : slice_get ys k ≡ slice_get xs k = ap (λ zs. slice_get zs k) e ∙ same_place xs more k (within k refl) in
    ap (option_map (λ f. content_behind at f.1))
    (slice_get-map stored_file ys k ∙ ap (option_map stored_file) same ∙ sym (slice_get-map stored_file xs k))
