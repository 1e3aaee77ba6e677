-- The items of a walk as files that are given.
use Rattle.std.proofs.Common.{◌≡◌, ℕ, zero, suc, Bool, true, false, List, [], ◌∷◌, length, map, take, drop}
use Rattle.std.proofs.Common.{reverse, Result, Ok, Err, Some, None, refl, sym, ap, subst, ◌∙◌, arith, inl}
use Rattle.std.proofs.Common.{inr, ◌||◌, ◌++◌, Option, append-nil}
use Rattle.std.specs.List.{list_any}
use Rattle.std.specs.Option.{option_map}
use Rattle.std.proofs.lemmas.Bool.{false≢true}
use Rattle.std.proofs.lemmas.List.{reverse-append, map-append}
use Rattle.std.proofs.Math.Logic.{∥∥₁_map}
use Rattle.pg_base.specs.Entries.{Left}
use Rattle.pg_walk.specs.Answers.{Answers, Path}
use Rattle.pg_walk.specs.Scopes.{Scope}
use Rattle.pg_walk.specs.Items.{Found, File as AFile, Fault, found, path_in}
use Rattle.pg_walk.specs.Left.{BeginsWalk, HasGiven, Spot, shown as found_in}
use Rattle.pg_walk.specs.declared.item.Item.{Item}
use Rattle.pg_files.specs.Given.{FileOutcome, NoFile, File, is_reading, gave_bytes, gave_end}
use Rattle.pg_files.specs.Given.{AreGiven, MaySpare, is_output, name_of, names_in, shown_name}
use Rattle.pg_files.specs.Asking.{ReadGives, TakesBuffered, read_given}
use Rattle.pg_files.specs.Listed.{asked_for, file_paths, of_items, under_name, AreOpened, AreSpared}
use Rattle.pg_files.specs.Listed.{Sought, given_by, sought, Reaches}
use Rattle.pg_files.specs.declared.files.Step.{Step}

-- one more item is asked for
pub asked_more : {A : Type 0} (items : List (Item A)) (item : Item A) →
    asked_for (items ++ item ∷ []) ≡ found item ∷ asked_for items
asked_more items item =
    ap reverse (map-append found items (item ∷ [])) ∙ reverse-append (map found items) (found item ∷ [])

-- a file that is open goes on by bytes
bytes_by : (input : List ℕ) (more : List ℕ) (items : List Found) (past : List FileOutcome)
    → is_reading (given_by input items past) ≡ true →
    given_by input items (gave_bytes more past) ≡ gave_bytes more (given_by input items past)
bytes_by input more [] past r = absurd (false≢true r)
bytes_by input more (Fault path cause ∷ items) past r = absurd (false≢true r)
bytes_by input more (AFile path ∷ items) [] r = absurd (false≢true r)
bytes_by input more (AFile path ∷ items) (NoFile name cause ∷ past) r = refl
bytes_by input more (AFile path ∷ items) (File name bytes ending ∷ past) r = refl

-- and so by its end
end_by : (input : List ℕ) (failed : Bool) (items : List Found) (past : List FileOutcome)
    → is_reading (given_by input items past) ≡ true →
    given_by input items (gave_end failed past) ≡ gave_end failed (given_by input items past)
end_by input failed [] past r = absurd (false≢true r)
end_by input failed (Fault path cause ∷ items) past r = absurd (false≢true r)
end_by input failed (AFile path ∷ items) [] r = absurd (false≢true r)
end_by input failed (AFile path ∷ items) (NoFile name cause ∷ past) r = refl
end_by input failed (AFile path ∷ items) (File name bytes ending ∷ past) r = refl

given_count : (input : List ℕ) (into : List ℕ) (count : ℕ) (items : List Found) (past : List FileOutcome) →
    is_reading (given_by input items past) ≡ true →
    given_by input items (read_given into count past) ≡ read_given into count (given_by input items past)
given_count input into zero items past r = end_by input false items past r
given_count input into (suc count) items past r = bytes_by input (take (suc count) into) items past r

-- a read of the store's file is one of the file that is given
pub read_by : {E : Type 0} (input into : List ℕ) (items : List Found) (past past' : List FileOutcome)
    (result : Result ℕ E) →
    is_reading (given_by input items past) ≡ true → ReadGives into past past' result →
    ReadGives into (given_by input items past) (given_by input items past') result
read_by input into items past past' (Ok count) r gives =
    (gives.0, ap (given_by input items) gives.1 ∙ given_count input into count items past r)
read_by input into items past past' (Err e) r gives = ap (given_by input items) gives ∙ end_by input true items past r

-- so is what is taken whole of it
pub taken_by : (input : List ℕ) (items : List Found) (past past' : List FileOutcome) (taken : Option (List ℕ)) →
    is_reading (given_by input items past) ≡ true → TakesBuffered taken past past' →
    TakesBuffered taken (given_by input items past) (given_by input items past')
taken_by input items past past' None r gives = ap (given_by input items) gives
taken_by input items past past' (Some bytes) r gives =
    (gives.0, ap (given_by input items) gives.1 ∙ bytes_by input bytes items past r)

-- what is behind the open file stays
bytes_behind : (input : List ℕ) (more : List ℕ) (items : List Found) (past : List FileOutcome)
    → is_reading (given_by input items past) ≡ true →
    drop (length (file_paths items)) (gave_bytes more past) ≡ drop (length (file_paths items)) past
bytes_behind input more [] past r = absurd (false≢true r)
bytes_behind input more (Fault path cause ∷ items) past r = absurd (false≢true r)
bytes_behind input more (AFile path ∷ items) [] r = refl
bytes_behind input more (AFile path ∷ items) (NoFile name cause ∷ past) r = refl
bytes_behind input more (AFile path ∷ items) (File name bytes ending ∷ past) r = refl

end_behind : (input : List ℕ) (failed : Bool) (items : List Found) (past : List FileOutcome)
    → is_reading (given_by input items past) ≡ true →
    drop (length (file_paths items)) (gave_end failed past) ≡ drop (length (file_paths items)) past
end_behind input failed [] past r = absurd (false≢true r)
end_behind input failed (Fault path cause ∷ items) past r = absurd (false≢true r)
end_behind input failed (AFile path ∷ items) [] r = refl
end_behind input failed (AFile path ∷ items) (NoFile name cause ∷ past) r = refl
end_behind input failed (AFile path ∷ items) (File name bytes ending ∷ past) r = refl

count_behind : (input : List ℕ) (into : List ℕ) (count : ℕ) (items : List Found) (past : List FileOutcome) →
    is_reading (given_by input items past) ≡ true →
    drop (length (file_paths items)) (read_given into count past) ≡ drop (length (file_paths items)) past
count_behind input into zero items past r = end_behind input false items past r
count_behind input into (suc count) items past r = bytes_behind input (take (suc count) into) items past r

pub read_behind : {E : Type 0} (input into : List ℕ) (items : List Found) (past past' : List FileOutcome)
    (result : Result ℕ E) →
    is_reading (given_by input items past) ≡ true → ReadGives into past past' result →
    drop (length (file_paths items)) past' ≡ drop (length (file_paths items)) past
read_behind input into items past past' (Ok count) r gives =
    ap (drop (length (file_paths items))) gives.1 ∙ count_behind input into count items past r
read_behind input into items past past' (Err e) r gives =
    ap (drop (length (file_paths items))) gives ∙ end_behind input true items past r

pub taken_behind : (input : List ℕ) (items : List Found) (past past' : List FileOutcome) (taken : Option (List ℕ)) →
    is_reading (given_by input items past) ≡ true → TakesBuffered taken past past' →
    drop (length (file_paths items)) past' ≡ drop (length (file_paths items)) past
taken_behind input items past past' None r gives = ap (drop (length (file_paths items))) gives
taken_behind input items past past' (Some bytes) r gives =
    ap (drop (length (file_paths items))) gives.1 ∙ bytes_behind input bytes items past r

-- a path was opened after the others
paths_more : (path : List ℕ) (items : List Found) (g : FileOutcome) (past : List FileOutcome) → name_of g ≡ path →
    AreOpened items past → AreOpened (AFile path ∷ items) (g ∷ past)
paths_more path items g past p are =
    ap (λ x. x ∷ map name_of (of_items items past)) p ∙ ap (λ xs. path ∷ xs) are

-- and it wasn't refused as the output's own, unless that was asked for
spared_more : (spares : Bool) (path : List ℕ) (items : List Found) (g : FileOutcome) (past : List FileOutcome) →
    MaySpare spares g → AreSpared spares items past → AreSpared spares (AFile path ∷ items) (g ∷ past)
spared_more spares path items g past may are = λ e.
    ap (λ b. b || list_any is_output (of_items items past)) (may e) ∙ are e

same_names : (more : List ℕ) (given : List FileOutcome) (n : ℕ) →
    map name_of (take n (gave_bytes more given)) ≡ map name_of (take n given)
same_names more given zero = refl
same_names more [] (suc n) = refl
same_names more (NoFile name cause ∷ given) (suc n) = refl
same_names more (File name bytes ending ∷ given) (suc n) = refl

same_names_end : (failed : Bool) (given : List FileOutcome) (n : ℕ) →
    map name_of (take n (gave_end failed given)) ≡ map name_of (take n given)
same_names_end failed given zero = refl
same_names_end failed [] (suc n) = refl
same_names_end failed (NoFile name cause ∷ given) (suc n) = refl
same_names_end failed (File name bytes ending ∷ given) (suc n) = refl

same_names_count : (into : List ℕ) (count : ℕ) (given : List FileOutcome) (n : ℕ) →
    map name_of (take n (read_given into count given)) ≡ map name_of (take n given)
same_names_count into zero given n = same_names_end false given n
same_names_count into (suc count) given n = same_names (take (suc count) into) given n

-- a read opens no file
pub opened_by_read : {E : Type 0} (into : List ℕ) (items : List Found) (past past' : List FileOutcome)
    (result : Result ℕ E) → ReadGives into past past' result → AreOpened items past → AreOpened items past'
opened_by_read into items past past' (Ok count) gives are =
    ap (λ gs. map name_of (of_items items gs)) gives.1
    ∙ same_names_count into count past (length (file_paths items)) ∙ are
opened_by_read into items past past' (Err f) gives are =
    ap (λ gs. map name_of (of_items items gs)) gives ∙ same_names_end true past (length (file_paths items)) ∙ are

-- nor does what is taken whole
pub opened_by_taking : (items : List Found) (past past' : List FileOutcome) (taken : Option (List ℕ)) →
    TakesBuffered taken past past' → AreOpened items past → AreOpened items past'
opened_by_taking items past past' None gives are = ap (λ gs. map name_of (of_items items gs)) gives ∙ are
opened_by_taking items past past' (Some bytes) gives are =
    ap (λ gs. map name_of (of_items items gs)) gives.1
    ∙ same_names bytes past (length (file_paths items)) ∙ are

same_output : (more : List ℕ) (given : List FileOutcome) (n : ℕ) →
    list_any is_output (take n (gave_bytes more given)) ≡ list_any is_output (take n given)
same_output more given zero = refl
same_output more [] (suc n) = refl
same_output more (NoFile name cause ∷ given) (suc n) = refl
same_output more (File name bytes ending ∷ given) (suc n) = refl

same_output_end : (failed : Bool) (given : List FileOutcome) (n : ℕ) →
    list_any is_output (take n (gave_end failed given)) ≡ list_any is_output (take n given)
same_output_end failed given zero = refl
same_output_end failed [] (suc n) = refl
same_output_end failed (NoFile name cause ∷ given) (suc n) = refl
same_output_end failed (File name bytes ending ∷ given) (suc n) = refl

same_output_count : (into : List ℕ) (count : ℕ) (given : List FileOutcome) (n : ℕ) →
    list_any is_output (take n (read_given into count given)) ≡ list_any is_output (take n given)
same_output_count into zero given n = same_output_end false given n
same_output_count into (suc count) given n = same_output (take (suc count) into) given n

-- a read refuses no file
pub spared_by : {E : Type 0} (into : List ℕ) (spares : Bool) (items : List Found) (past past' : List FileOutcome)
    (result : Result ℕ E) → ReadGives into past past' result → AreSpared spares items past →
    AreSpared spares items past'
spared_by into spares items past past' (Ok count) gives are = λ e.
    ap (λ gs. list_any is_output (of_items items gs)) gives.1
    ∙ same_output_count into count past (length (file_paths items)) ∙ are e
spared_by into spares items past past' (Err f) gives are = λ e.
    ap (λ gs. list_any is_output (of_items items gs)) gives ∙ same_output_end true past (length (file_paths items))
    ∙ are e

-- nor does what is taken whole
pub spared_by_taking : (spares : Bool) (items : List Found) (past past' : List FileOutcome) (taken : Option (List ℕ)) →
    TakesBuffered taken past past' → AreSpared spares items past → AreSpared spares items past'
spared_by_taking spares items past past' None gives are = λ e.
    ap (λ gs. list_any is_output (of_items items gs)) gives ∙ are e
spared_by_taking spares items past past' (Some bytes) gives are = λ e.
    ap (λ gs. list_any is_output (of_items items gs)) gives.1 ∙ same_output bytes past (length (file_paths items))
    ∙ are e

abbrev head_or : List (List ℕ) → List ℕ
head_or [] = []
head_or (x ∷ xs) = x

abbrev behind_first : List (List ℕ) → List (List ℕ)
behind_first [] = []
behind_first (x ∷ xs) = xs

name_shown : (input : List ℕ) (g : FileOutcome) → name_of (under_name input g) ≡ shown_name input (name_of g)
name_shown input (NoFile path cause) = refl
name_shown input (File path bytes ending) = refl

-- items are given under their names
names_by : (input : List ℕ) (items : List Found) (past : List FileOutcome) → AreOpened items past →
    map name_of (given_by input items past) ≡ names_in input items
names_by input [] past are = refl
names_by input (Fault path cause ∷ items) past are =
    ap (λ xs. shown_name input path ∷ xs) (names_by input items past are)
names_by input (AFile path ∷ items) [] are =
    absurd (let l : 0 ≡ length (path ∷ file_paths items) = ap length are in omega arith)
names_by input (AFile path ∷ items) (g ∷ past) are =
    ap (λ x. x ∷ map name_of (given_by input items past))
    (name_shown input g ∙ ap (shown_name input) (ap head_or are))
    ∙ ap (λ xs. shown_name input path ∷ xs) (names_by input items past (ap behind_first are))

map-reverse : {X Y : Type 0} (f : X → Y) (xs : List X) → map f (reverse xs) ≡ reverse (map f xs)
map-reverse f [] = refl
map-reverse f (x ∷ xs) =
    ap (map f) (reverse-append (x ∷ []) xs)
    ∙ (map-append f (reverse xs) (x ∷ [])
    ∙ (ap (λ ys. ys ++ f x ∷ []) (map-reverse f xs) ∙ sym (reverse-append (f x ∷ []) (map f xs))))

-- and so all that were asked for
pub all_given : {A : Type 0} (input : List ℕ) (items : List (Item A)) (past : List FileOutcome) →
    AreOpened (asked_for items) past →
    AreGiven (names_in input (map found items)) (given_by input (asked_for items) past)
all_given input items past are =
    names_by input (asked_for items) past are
    ∙ map-reverse (λ item. shown_name input (path_in item)) (map found items)

-- What stands before and after the next item was reached, behind those that were asked for.
module _ (so_far : List Found) where
  opened_by : (spares : Bool) (f : Found) (step : Step) (past past' : List FileOutcome)
      → Reaches spares f step past past' →
      AreOpened so_far past → AreOpened (f ∷ so_far) past'
  opened_by spares (Fault path cause) step past past' r are = subst (AreOpened so_far) (sym r.1) are
  opened_by spares (AFile path) step past past' (inl r) are =
      subst (AreOpened (AFile path ∷ so_far)) (sym r.1) (paths_more path so_far (File path [] Left) past refl are)
  opened_by spares (AFile path) step past past' (inr r) are =
      subst (AreOpened (AFile path ∷ so_far)) (sym r.2) (paths_more path so_far (NoFile path r.0) past refl are)

  spare_by : (spares : Bool) (f : Found) (step : Step) (past past' : List FileOutcome)
      → Reaches spares f step past past' →
      AreSpared spares so_far past → AreSpared spares (f ∷ so_far) past'
  spare_by spares (Fault path cause) step past past' r are = subst (AreSpared spares so_far) (sym r.1) are
  spare_by spares (AFile path) step past past' (inl r) are =
      subst (AreSpared spares (AFile path ∷ so_far)) (sym r.1)
      (spared_more spares path so_far (File path [] Left) past (λ e. refl) are)
  spare_by spares (AFile path) step past past' (inr r) are =
      subst (AreSpared spares (AFile path ∷ so_far)) (sym r.2)
      (spared_more spares path so_far (NoFile path r.0) past r.3 are)

  -- the same where the item stands in front of those
  module _ (f : Found) (asked : List Found) (more : asked ≡ f ∷ so_far) (spares : Bool) (step : Step)
      (past past' : List FileOutcome) (reaches : Reaches spares f step past past') where
    pub next_opened : AreOpened so_far past → AreOpened asked past'
    next_opened are =
        subst (λ items. AreOpened items past') (sym more) (opened_by spares f step past past' reaches are)

    pub next_spared : AreSpared spares so_far past → AreSpared spares asked past'
    next_spared are =
        subst (λ items. AreSpared spares items past') (sym more) (spare_by spares f step past past' reaches are)

-- The walk goes on in the same tree.
module _ {X : Type 0} (tells : X → Type 0) (answers : X → Answers) (ops : List Path) (tree tree' : X)
    (scope scope' : Scope) (tree_is : tree' ≡ tree) (scope_is : scope' ≡ scope) where
  pub same_given : (items : List Found) (spots : List Spot) →
      HasGiven (tells tree) (answers tree) ops scope items spots →
      HasGiven (tells tree') (answers tree') ops scope' items spots
  same_given items spots h =
      let P : X → Type 0 = λ t. HasGiven (tells t) (answers t) ops scope items spots in
      let Q : Scope → Type 0 = λ r. HasGiven (tells tree') (answers tree') ops r items spots in
      subst Q (sym scope_is) (subst P (sym tree_is) h)

  pub same_begins : (items : List Found) → ∥ BeginsWalk (tells tree) (answers tree) ops scope items ∥₁ →
      ∥ BeginsWalk (tells tree') (answers tree') ops scope' items ∥₁
  same_begins items h =
      let P : X → Type 0 = λ t. ∥ BeginsWalk (tells t) (answers t) ops scope items ∥₁ in
      let Q : Scope → Type 0 = λ r. ∥ BeginsWalk (tells tree') (answers tree') ops r items ∥₁ in
      subst Q (sym scope_is) (subst P (sym tree_is) h)

  -- the same is looked for
  pub same_sought : (spares : Bool) (input : List ℕ) (asked asked' : List Found) (past past' : List FileOutcome) →
      drop (length (file_paths asked')) past' ≡ drop (length (file_paths asked)) past →
      sought tree' ops scope' spares input asked' past' ≡ sought tree ops scope spares input asked past
  same_sought spares input asked asked' past past' behind =
      let at : X → Scope → List FileOutcome → Sought X = λ t r earlier.
      record { tree = t; operands = ops; scope = r; spares = spares; input_name = input; earlier = earlier } in
      ap (λ t. at t scope' (drop (length (file_paths asked')) past')) tree_is
      ∙ ap (λ r. at tree r (drop (length (file_paths asked')) past')) scope_is ∙ ap (at tree scope) behind

  -- it gave an item, or none
  pub goes_on : {A : Type 0} (items items' : List (Item A)) (given is : Option (Item A)) (before after : List Spot) →
      given ≡ is → map found items' ≡ map found items ++ found_in (option_map found is) →
      ∥ HasGiven (tells tree) (answers tree) ops scope (map found items) before ∥₁ →
      (HasGiven (tells tree) (answers tree) ops scope (map found items) before →
      HasGiven (tells tree) (answers tree) ops scope (map found items ++ found_in (option_map found given)) after) →
      ∥ HasGiven (tells tree') (answers tree') ops scope' (map found items') after ∥₁
  goes_on items items' given is before after e more h step =
      let P : List Found → Type 0 = λ fs. HasGiven (tells tree') (answers tree') ops scope' fs after in
      let now : map found items' ≡ map found items ++ found_in (option_map found given) =
      more ∙ ap (λ o. map found items ++ found_in (option_map found o)) (sym e) in
      ∥∥₁_map h (λ x. subst P (sym now)
      (same_given (map found items ++ found_in (option_map found given)) after (step x)))

-- no more items, and one more
pub none_more : {A : Type 0} (items : List (Item A)) → map found items ≡ map found items ++ []
none_more items = sym (append-nil (map found items))

pub one_more : {A : Type 0} (items : List (Item A)) (item : Item A) →
    map found (items ++ item ∷ []) ≡ map found items ++ found item ∷ []
one_more items item = map-append found items (item ∷ [])

-- what nothing was asked of
pub none_asked : {A : Type 0} (P : List Path → List Found → Type 0) (ops ops' : List Path) (items : List (Item A)) →
    ops' ≡ ops → items ≡ [] → P ops [] → P ops' (map found items)
none_asked P ops ops' items e f h =
    let Q : List Path → Type 0 = λ o. P o [] in
    let R : List Found → Type 0 = λ i. P ops' i in
    subst R (sym (ap (map found) f)) (subst Q (sym e) h)

pub none_newest : {A : Type 0} (items : List (Item A)) → items ≡ [] → [] ≡ take 1 (asked_for items)
none_newest items e = ap (λ i. take 1 (asked_for i)) (sym e)

pub none_opened : {A : Type 0} (items : List (Item A)) (past : List FileOutcome) → items ≡ [] →
    AreOpened (asked_for items) past
none_opened items past e = subst (λ i. AreOpened (asked_for i) past) (sym e) refl

pub none_spared : {A : Type 0} (items : List (Item A)) (spares : Bool) (past : List FileOutcome) → items ≡ [] →
    AreSpared spares (asked_for items) past
none_spared items spares past e = subst (λ i. AreSpared spares (asked_for i) past) (sym e) (λ s. refl)
