use Rattle.std.proofs.Common.{◌≡◌, ◌∙◌, ◌+◌, ◌∷◌, ◌<◌, Some, true, get_or, drop, map, length, ap, sym, refl, arith}
use Rattle.std.specs.Prelude.{nat_eq, option_map, slice_get}
use Rattle.std.specs.String.{string_bytes}
use Rattle.std.proofs.lemmas.List.{drop_more}
use Rattle.std.proofs.lemmas.Option.{slice_get-map, slice_get-get_or}
use lib.Pointwise.{pointwise}
use Rattle.pg_files.specs.MemStore.{stored_file, file_at}
use Rattle.pg_files.proofs.mem_store.MemStore.place_of.Goals as goal

pub returns-then-eq-clause-place : goal.returns-then-eq-clause-place
returns-then-eq-clause-place g c =
    let items = c.args.self.now.files.items in
    let path = c.args.path.now in
    let item = c.file-item.result in
    let place = c.loop-place.place in
    let within : place < length items =
    omega (arith, ap length c.deref-file-items.ensures.value, c.loop-place-test.true) in
    let is : item ≡ get_or items place item =
    c.file-item.is ∙ ap (λ xs. get_or xs place item) c.deref-file-items.ensures.value in
    let here : slice_get items place ≡ Some item = slice_get-get_or items place item within ∙ ap Some (sym is) in
    let step : drop place items ≡ item ∷ drop (place + 1) items = drop_more items place item within
    ∙ ap (λ x. x ∷ drop (place + 1) items) (sym is) in
    let met : pointwise nat_eq (string_bytes item.path) path ≡ true =
    ap (λ text. pointwise nat_eq text path) (sym c.as_str.ensures.value) ∙ (sym c.eq.ensures ∙ c.if-eq.true) in
    let first : file_at (map stored_file (item ∷ drop (place + 1) items)) path
    ≡ Some (stored_file item).1 = rw met refl in
    ap (option_map (λ f. f.1)) (slice_get-map stored_file items place ∙ ap (option_map stored_file) here)
    ∙ (sym first ∙ (ap (λ fs. file_at (map stored_file fs) path) (sym step) ∙ c.loop-place.invariant))
