-- A walk over any operands has a list of items.
use Rattle.std.proofs.Common.{ℕ, zero, suc, ◌≡◌, ◌≤◌, ◌+◌, ◌-◌, ◌↔◌, Bool, true, false, List, [], ◌∷◌, ◌++◌}
use Rattle.std.proofs.Common.{length, take, get_or, Option, Some, None, ◌⊎◌, inl, inr, refl, sym, ap, ◌∙◌, subst}
use Rattle.std.proofs.Common.{take_all, arith}
use Rattle.std.specs.List.{Contains}
use Rattle.std.specs.declared.cmp.Ordering.{Ordering}
use Rattle.std.specs.declared.cmp.Ordering.TheVariants.{Less, Equal, Greater}
use Rattle.std.specs.Ordering.{nat_cmp, ordering_reverse}
use Rattle.std.specs.Cmp.Lexicographic.{slice_cmp}
use Rattle.std.proofs.lemmas.Cmp.{nat_list_cmp_total}
use Rattle.std.proofs.lemmas.List.Elements.{All-cons, All-weaker, All-contains}
use Rattle.pg_walk.specs.Answers.{Path, Content}
use Rattle.pg_walk.specs.Scopes.{Sight, Sights, Is, IsLeftOut, IsUntold}
use Rattle.pg_walk.specs.Items.{Found, File, Fault}
use Rattle.pg_walk.specs.Places.{Names, child, is_standard_input}
use Rattle.pg_walk.specs.Walks.{place_cmp, directory_gives, Ascending, ItemsOf, FilesOf}
use Rattle.pg_walk.specs.Descent.{EntryGives, InsideGives, OperandGives}
use Rattle.pg_walk.proofs.Joins.{Adds}
use Rattle.pg_walk.specs.Left.{Spot, Operand, Entry, spot_gives, AreLeft, shown}
use Rattle.pg_walk.specs.declared.tree.FileKind.TheVariants.{Regular, Directory, Link, Other}
use Rattle.pg_base.specs.declared.cause.Cause.TheVariants.{CannotOpen, IsDirectory, CannotList, BadName, TooDeep}
use Rattle.pg_base.specs.declared.cause.Cause.TheVariants.{InCircle}
use Rattle.pg_walk.proofs.Lists.{contains_none, contains_more, contains_one, front_or_rest, all_none, all_from_contains}
use Rattle.pg_walk.proofs.Lists.{bytes_same}
use Rattle.pg_walk.proofs.Steps.{entry_leaf, entry_deep, entry_circle, entry_inside, inside_fails, some_bad, some_good}
use Rattle.pg_walk.proofs.Steps.{some_more, some_all, SomeGive, operand_standard, operand_kind, operand_none}
use Rattle.pg_walk.proofs.Steps.{operand_refused, operand_circle, operand_inside}
use Rattle.pg_walk.proofs.Steps.{first_none, first_more, first_all, FirstGive}

-- one more name in its place among ascending ones; `more` are the later ones with it
abbrev placed : Ordering → Path → Path → List Path → List Path → List Path
placed Less n x xs more = n ∷ x ∷ xs
placed Equal n x xs more = x ∷ xs
placed Greater n x xs more = x ∷ more

abbrev put : Path → List Path → List Path
put n [] = n ∷ []
put n (x ∷ xs) = placed (slice_cmp nat_cmp n x) n x xs (put n xs)

abbrev in_order : List Path → List Path
in_order [] = []
in_order (n ∷ ns) = put n (in_order ns)

at_front : {X : Type 0} (x : X) (xs : List X) (y : X) → x ≡ y → Contains (x ∷ xs) y
at_front x xs y e = (0, omega arith, e)

placed_has : (o : Ordering) (n x : Path) (xs more : List Path) (m : Path) → slice_cmp nat_cmp n x ≡ o
    → ((n ≡ m) ⊎ Contains xs m) ↔ Contains more m → ((n ≡ m) ⊎ Contains (x ∷ xs) m) ↔ Contains (placed o n x xs more) m
placed_has Less n x xs more m e rest = (
  λ h. elim h [
    | inl s ↦ at_front n (x ∷ xs) m s
    | inr c ↦ contains_more n (x ∷ xs) m c
  ],
  λ c. front_or_rest n (x ∷ xs) m c,
)
placed_has Equal n x xs more m e rest = (
  λ h. elim h [
    | inl s ↦ at_front x xs m (sym (bytes_same n x e) ∙ s)
    | inr c ↦ c
  ],
  λ c. inr c,
)
placed_has Greater n x xs more m e rest = (
  λ h. elim h [
    | inl s ↦ contains_more x more m (rest.0 (inl s))
    | inr c ↦ elim (front_or_rest x xs m c) [
      | inl s ↦ at_front x more m s
      | inr d ↦ contains_more x more m (rest.0 (inr d))
    ]
  ],
  λ c. elim (front_or_rest x more m c) [
    | inl s ↦ inr (at_front x xs m s)
    | inr d ↦ elim (rest.1 d) [
      | inl s ↦ inl s
      | inr f ↦ inr (contains_more x xs m f)
    ]
  ],
)

put_has : (n : Path) (xs : List Path) (m : Path) → ((n ≡ m) ⊎ Contains xs m) ↔ Contains (put n xs) m
put_has n [] m = (
  λ h. elim h [
    | inl s ↦ at_front n [] m s
    | inr c ↦ absurd (contains_none m c)
  ],
  λ c. inl (contains_one n m c),
)
put_has n (x ∷ xs) m = placed_has (slice_cmp nat_cmp n x) n x xs (put n xs) m refl (put_has n xs m)

in_order_has : (ns : List Path) (m : Path) → Contains (in_order ns) m ↔ Contains ns m
in_order_has [] m = (λ h. h, λ h. h)
in_order_has (n ∷ ns) m = (
  λ h. elim ((put_has n (in_order ns) m).1 h) [
    | inl s ↦ at_front n ns m s
    | inr c ↦ contains_more n ns m ((in_order_has ns m).0 c)
  ],
  λ h. elim (front_or_rest n ns m h) [
    | inl s ↦ (put_has n (in_order ns) m).0 (inl s)
    | inr c ↦ (put_has n (in_order ns) m).0 (inr ((in_order_has ns m).1 c))
  ],
)

placed_up : (o : Ordering) (n x : Path) (xs more : List Path) → slice_cmp nat_cmp n x ≡ o
    → Ascending (slice_cmp nat_cmp) (x ∷ xs) → Ascending (slice_cmp nat_cmp) more
    → ((y : Path) → Contains more y → (n ≡ y) ⊎ Contains xs y) → Ascending (slice_cmp nat_cmp) (placed o n x xs more)
placed_up Less n x xs more e up above from = (
  All-cons (λ y. slice_cmp nat_cmp n y ≡ Less) x xs e
      (All-weaker (λ y. slice_cmp nat_cmp x y ≡ Less) (λ y. slice_cmp nat_cmp n y ≡ Less)
      (λ y h. nat_list_cmp_total.trans n x y e h) xs up.0),
  up,
)
placed_up Equal n x xs more e up above from = up
placed_up Greater n x xs more e up above from =
    let less : slice_cmp nat_cmp x n ≡ Less = nat_list_cmp_total.antisymm x n ∙ ap ordering_reverse e in (
      all_from_contains (λ y. slice_cmp nat_cmp x y ≡ Less) more (λ y c. elim (from y c) [
        | inl s ↦ let Q : Path → Type 0 = λ z. slice_cmp nat_cmp x z ≡ Less in subst Q s less
        | inr d ↦ All-contains (λ z. slice_cmp nat_cmp x z ≡ Less) xs y up.0 d
      ]),
      above,
    )

put_up : (n : Path) (xs : List Path) → Ascending (slice_cmp nat_cmp) xs → Ascending (slice_cmp nat_cmp) (put n xs)
put_up n [] up = (all_none (λ y. slice_cmp nat_cmp n y ≡ Less), tt)
put_up n (x ∷ xs) up = placed_up (slice_cmp nat_cmp n x) n x xs (put n xs) refl up (put_up n xs up.1)
    (λ y c. (put_has n xs y).1 c)

in_order_up : (ns : List Path) → Ascending (slice_cmp nat_cmp) (in_order ns)
in_order_up [] = tt
in_order_up (n ∷ ns) = put_up n (in_order ns) (in_order_up ns)

-- there are items that these are
abbrev HasItems : (Names → Found → Type 0) → Type 0
HasItems gives = (items : List Found) × Adds gives [] items

-- any items before it
behind : (gives : Names → Found → Type 0) (old : List Found) → HasItems gives → (new : List Found) × Adds gives old new
behind gives old f = (old ++ f.1.items, record { items = f.1.items; are = f.1.are; joined = refl })

flag_some : (a : Sights) (depth : ℕ) (path : Path) (c : Content) (b : Bool) → c.nameless ≡ b
    → HasItems (SomeGive a depth path c [])
flag_some a depth path c true e = (Fault path BadName ∷ [], some_bad a depth path c e [] _ refl)
flag_some a depth path c false e = ([], some_good a depth path c e [] _ refl)

names_some : (a : Sights) (depth : ℕ) (path : Path) (c : Content) (xs : List Path) → Ascending (slice_cmp nat_cmp) xs
    → ((p : Path) → HasItems (EntryGives a (depth + 1) p)) → (k : ℕ) → k ≤ length xs
    → HasItems (SomeGive a depth path c (take k xs))
names_some a depth path c xs up below zero h = flag_some a depth path c c.nameless refl
names_some a depth path c xs up below (suc k) h =
    let f = names_some a depth path c xs up below k (omega arith) in
    let e = behind (EntryGives a (depth + 1) (child path (get_or xs k []))) f.0 (below (child path (get_or xs k []))) in
    let next : k + 1 ≡ suc k = omega arith in
    let Q : ℕ → Type 0 = λ n. Adds (SomeGive a depth path c (take n xs)) [] e.0 in
    (e.0, subst Q next (some_more a depth path c xs k up (omega arith) [] f.0 e.0 f.1 e.1))

inside_by : (a : Sights) (depth : ℕ) (path : Path) (o : Option Content) → a.content path ≡ o
    → ((p : Path) → HasItems (EntryGives a (depth + 1) p)) → HasItems (InsideGives a depth path)
inside_by a depth path None e below = (Fault path CannotList ∷ [], inside_fails a depth path e [] _ refl)
inside_by a depth path (Some c) e below =
    let xs = in_order c.names in
    let f = names_some a depth path c xs (in_order_up c.names) below (length xs) (omega arith) in
    let Q : List Path → Type 0 = λ t. Adds (SomeGive a depth path c t) [] f.0 in (
      f.0,
      some_all a depth path c xs e (in_order_has c.names) [] f.0
          (subst Q (take_all (length xs) xs (omega arith)) f.1),
    )

entry_by : (a : Sights) (depth : ℕ) (path : Path) (o : Sight) → a.kind path false ≡ o
    → (o ≡ Is Directory → HasItems (EntryGives a depth path)) → HasItems (EntryGives a depth path)
entry_by a depth path IsUntold e directory = (
  Fault path CannotOpen ∷ [],
  entry_leaf a depth path IsUntold (Some (Fault path CannotOpen)) e refl (λ k d c. cc) [] _ refl,
)
entry_by a depth path (Is Regular) e directory =
    (File path ∷ [], entry_leaf a depth path (Is Regular) (Some (File path)) e refl (λ k d c. cc) [] _ refl)
entry_by a depth path (Is Link) e directory =
    ([], entry_leaf a depth path (Is Link) None e refl (λ k d c. cc) [] _ refl)
entry_by a depth path (Is Other) e directory =
    ([], entry_leaf a depth path (Is Other) None e refl (λ k d c. cc) [] _ refl)
entry_by a depth path IsLeftOut e directory =
    ([], entry_leaf a depth path IsLeftOut None e refl (λ k d c. cc) [] _ refl)
entry_by a depth path (Is Directory) e directory = directory refl

-- an entry that is a directory at most 256 levels down
level_has : (a : Sights) (depth : ℕ) (path : Path) → a.kind path false ≡ Is Directory → depth ≤ 256
    → HasItems (InsideGives a depth path) → (b : Bool) → a.circle depth path ≡ b → HasItems (EntryGives a depth path)
level_has a depth path k h f true c = (Fault path InCircle ∷ [], entry_circle a depth path k h c [] _ refl)
level_has a depth path k h f false c = (f.0, entry_inside a depth path k h c [] f.0 f.1)

entry_has : (a : Sights) (levels depth : ℕ) → levels + depth ≡ 257 → (path : Path) → HasItems (EntryGives a depth path)
entry_has a zero depth h path =
    entry_by a depth path (a.kind path false) refl
    (λ e. (Fault path TooDeep ∷ [], entry_deep a depth path e (omega arith) [] _ refl))
entry_has a (suc levels) depth h path =
    entry_by a depth path (a.kind path false) refl
    (λ e.
    let f = inside_by a depth path (a.content path) refl (entry_has a levels (depth + 1) (omega arith)) in
    level_has a depth path e (omega arith) f (a.circle depth path) refl)

visited_has : (a : Sights) (r : Bool) (path : Path) → is_standard_input path ≡ false → r ≡ true
    → a.kind path true ≡ Is Directory → (b : Bool) → a.circle 0 path ≡ b → HasItems (OperandGives a r path)
visited_has a r path s t k true c =
    (shown (directory_gives path (a.content path)), operand_circle a r path s t k c)
visited_has a r path s t k false c =
    let f = inside_by a 0 path (a.content path) refl (entry_has a 256 1 refl) in
    (f.0, operand_inside a r path s t k c [] f.0 f.1)

directory_has : (a : Sights) (r : Bool) (path : Path) → is_standard_input path ≡ false
    → a.kind path true ≡ Is Directory → (b : Bool) → r ≡ b → HasItems (OperandGives a r path)
directory_has a r path s k true t = visited_has a r path s t k (a.circle 0 path) refl
directory_has a r path s k false t = (Fault path IsDirectory ∷ [], operand_refused a r path s t k [] _ refl)

kind_has : (a : Sights) (r : Bool) (path : Path) → is_standard_input path ≡ false → (o : Sight)
    → a.kind path true ≡ o → HasItems (OperandGives a r path)
kind_has a r path s IsUntold k = (
  Fault path CannotOpen ∷ [],
  operand_kind a r path IsUntold (Fault path CannotOpen) s k refl (λ d. cc) [] _ refl,
)
kind_has a r path s (Is Regular) k = (
  File path ∷ [],
  operand_kind a r path (Is Regular) (File path) s k refl (λ d. cc) [] _ refl,
)
kind_has a r path s (Is Link) k = (
  Fault path CannotOpen ∷ [],
  operand_kind a r path (Is Link) (Fault path CannotOpen) s k refl (λ d. cc) [] _ refl,
)
kind_has a r path s (Is Other) k = (
  File path ∷ [],
  operand_kind a r path (Is Other) (File path) s k refl (λ d. cc) [] _ refl,
)
kind_has a r path s IsLeftOut k = ([], operand_none a r path s k)
kind_has a r path s (Is Directory) k = directory_has a r path s k r refl

operand_has : (a : Sights) (r : Bool) (path : Path) (b : Bool) → is_standard_input path ≡ b
    → HasItems (OperandGives a r path)
operand_has a r path true s = (File path ∷ [], operand_standard a r path s [] _ refl)
operand_has a r path false s = kind_has a r path s (a.kind path true) refl

first_has : (a : Sights) (ops : List Path) (r : Bool) (k : ℕ) → (items : List Found)
    × ItemsOf place_cmp (FirstGive a ops r k) items
first_has a ops r zero = ([], first_none a ops r)
first_has a ops r (suc k) =
    let f = first_has a ops r k in
    let path = get_or ops k [] in
    let e = behind (OperandGives a r path) f.0 (operand_has a r path (is_standard_input path) refl) in
    let next : k + 1 ≡ suc k = omega arith in
    let Q : ℕ → Type 0 = λ n. ItemsOf place_cmp (FirstGive a ops r n) e.0 in
    (e.0, subst Q next (first_more a ops r k f.0 e.0 f.1 e.1))

pub some_items : (a : Sights) (ops : List Path) (r : Bool) → (items : List Found) × FilesOf a ops r items
some_items a ops r =
    let f = first_has a ops r (length ops) in
    (f.0, first_all a ops r (length ops) f.0 refl f.1)

shallow_or_deep : (depth : ℕ) → (depth ≤ 257) ⊎ (257 ≤ depth)
shallow_or_deep depth = grind arith

entry_any : (a : Sights) (depth : ℕ) (path : Path) → HasItems (EntryGives a depth path)
entry_any a depth path = elim (shallow_or_deep depth) [
  | inl h ↦ entry_has a (257 - depth) depth (omega (arith, h)) path
  | inr h ↦ entry_by a depth path (a.kind path false) refl
      (λ e. (Fault path TooDeep ∷ [], entry_deep a depth path e (omega (arith, h)) [] _ refl))
]

spot_has : (a : Sights) (r : Bool) (spot : Spot) → HasItems (spot_gives a r spot)
spot_has a r (Operand path) = operand_has a r path (is_standard_input path) refl
spot_has a r (Entry path depth) = entry_any a depth path

pub some_left : (a : Sights) (r : Bool) (spots : List Spot) → (items : List Found) × AreLeft a r spots items
some_left a r [] = ([], refl)
some_left a r (spot ∷ spots) =
    let here = spot_has a r spot in
    let more = some_left a r spots in
    (here.1.items ++ more.0, (here.1.items, more.0, here.1.are, more.1, refl))
