-- What was searched.
use Rattle.std.proofs.Common.{◌≡◌, ℕ, Bool, true, List, [], length, map, drop, ap, subst, ◌∙◌}
use Rattle.pg_walk.specs.Answers.{Answers as Tree}
use Rattle.pg_walk.specs.Items.{Found, found}
use Rattle.pg_walk.specs.Left.{BeginsWalk, IsWalk}
use Rattle.pg_walk.specs.Scopes.{Scope}
use Rattle.pg_walk.specs.declared.item.Item.{Item}
use Rattle.pg_selection.specs.Search.{Search, SearchText}
use Rattle.pg_files.specs.Given.{FileOutcome, names_in}
use Rattle.pg_files.specs.Listed.{asked_for, file_paths, files_past, AreOpened, AreSpared, Sought, sought}
use Rattle.pg_base.specs.Sink.{Stream}
use Rattle.pg_run.specs.Outcome.{RunFinishes}
use Rattle.pg_run.specs.declared.setup.Setup.{Setup}
use Rattle.pg_search.specs.Outcome.{SearchBreaksOff}
use Rattle.pg_search.specs.declared.fault.SearchFault.{SearchFault}
use Rattle.pg_command.specs.Answers.{HasReadFor, IsSetup, MayBeNames, Work}
use Rattle.pg_request.specs.Asked.{Asked, input_name, scope_for, spares_output}

-- what a walk over the operands looks for, behind what was given before
abbrev pub sought_for : {X : Type 0} → X → Asked → (globs : List (List ℕ)) → List FileOutcome → Sought X
sought_for tree asked globs earlier = record {
  tree = tree;
  operands = asked.files;
  scope = scope_for asked globs;
  spares = spares_output asked.format.mode;
  input_name = input_name asked;
  earlier = earlier;
}

-- it is looked for, part by part
pub is_sought : {X : Type 0} (tree : X) (asked : Asked) (globs : List (List ℕ)) (earlier : List FileOutcome)
    (s : Sought X) → s.tree ≡ tree
    → s.operands ≡ asked.files → s.scope ≡ scope_for asked globs → s.spares ≡ spares_output asked.format.mode
    → s.input_name ≡ input_name asked → s.earlier ≡ earlier → s ≡ sought_for tree asked globs earlier
is_sought {X} tree asked globs earlier s t o r p n e =
    let at : X → List (List ℕ) → Scope → Bool → List ℕ → List FileOutcome → Sought X = λ a b c d i f.
    record { tree = a; operands = b; scope = c; spares = d; input_name = i; earlier = f } in
    ap (λ a. at a s.operands s.scope s.spares s.input_name s.earlier) t
    ∙ (ap (λ b. at tree b s.scope s.spares s.input_name s.earlier) o
    ∙ (ap (λ c. at tree asked.files c s.spares s.input_name s.earlier) r
    ∙ (ap (λ d. at tree asked.files (scope_for asked globs) d s.input_name s.earlier) p
    ∙ (ap (λ i. at tree asked.files (scope_for asked globs) (spares_output asked.format.mode) i s.earlier) n
    ∙ ap (at tree asked.files (scope_for asked globs) (spares_output asked.format.mode) (input_name asked)) e))))

-- and so where nothing was asked for yet
pub first_sought : {X A : Type 0} (tree tree' : X) (asked : Asked) (globs : List (List ℕ)) (items : List (Item A))
    (operands : List (List ℕ))
    (scope : Scope) (spares : Bool) (input : List ℕ) (past between : List FileOutcome) → items ≡ [] → tree' ≡ tree
    → operands ≡ asked.files → scope ≡ scope_for asked globs → spares ≡ spares_output asked.format.mode
    → input ≡ input_name asked → past ≡ between
    → sought tree' operands scope spares input (asked_for items) past ≡ sought_for tree asked globs between
first_sought tree tree' asked globs items operands scope spares input past between none t o r p n e =
    is_sought tree asked globs between (sought tree' operands scope spares input (asked_for items) past) t o r p n
    (ap (λ is. drop (length (file_paths (asked_for is))) past) none ∙ e)

-- Where it is so at the end of a run.
module _ {X : Type 0} (tells : X → Type 0) (answers : X → Tree) (tree : X) (asked : Asked)
    (globs : List (List ℕ)) (between : List FileOutcome) (s : Sought X)
    (is : s ≡ sought_for tree asked globs between) where
  abbrev pub work_of : {A : Type 0} → (past past' : List FileOutcome) → (contents : List (List ℕ))
      → HasReadFor asked past between contents globs → (items : List (Item A))
      → ∥ BeginsWalk (tells s.tree) (answers s.tree) s.operands s.scope (map found items) ∥₁ → (setup : Setup)
      → IsSetup (tells tree) (answers tree) asked setup → (done : Bool)
      → (done ≡ true → ∥ IsWalk (tells s.tree) (answers s.tree) s.operands s.scope (map found items) ∥₁)
      → AreOpened (asked_for items) past' → AreSpared s.spares (asked_for items) past'
      → drop (length (file_paths (asked_for items))) past' ≡ s.earlier
      → Work (tells tree) (answers tree) asked past past'
  work_of past past' contents read items begins setup is_setup done whole opened spared earlier =
      let B : Sought X → Type 0 = λ q.
      ∥ BeginsWalk (tells q.tree) (answers q.tree) q.operands q.scope (map found items) ∥₁ in
      let W : Sought X → Type 0 = λ q.
      ∥ IsWalk (tells q.tree) (answers q.tree) q.operands q.scope (map found items) ∥₁ in
      record {
        contents = contents;
        globs = globs;
        between = between;
        read = read;
        items = map found items;
        begins = subst B is begins;
        setup = setup;
        is_setup = is_setup;
        done = done;
        whole = λ d. subst W is (whole d);
        opened = opened;
        spared = subst (λ q. AreSpared q.spares (asked_for items) past') is spared;
        earlier = earlier ∙ ap (λ q. q.earlier) is;
      }

  pub finishes_so : (search : Search) (setup : Setup) (done : Bool) (asked_so : List Found) (past : List FileOutcome)
      (out out' told told' : Stream) (status : ℕ)
      → RunFinishes search setup (λ names. (items : List Found)
      × ∥ IsWalk (tells s.tree) (answers s.tree) s.operands s.scope items ∥₁ × (names ≡ names_in s.input_name items))
      (files_past s.input_name done asked_so past) out out' told told' status
      → RunFinishes search setup (MayBeNames (tells tree) (answers tree) asked globs)
      (files_past (input_name asked) done asked_so past) out out' told told' status
  finishes_so search setup done asked_so past out out' told told' status f =
      let F : Sought X → Type 0 = λ q. RunFinishes search setup
      (λ names. (items : List Found)
      × ∥ IsWalk (tells q.tree) (answers q.tree) q.operands q.scope items ∥₁ × (names ≡ names_in q.input_name items))
      (files_past q.input_name done asked_so past) out out' told told' status in
      subst F is f

  pub breaks_so : (text : SearchText) (setup : Setup) (done : Bool) (asked_so : List Found) (past : List FileOutcome)
      (out out' told told' : Stream) (fault : SearchFault)
      → SearchBreaksOff text setup (files_past s.input_name done asked_so past) out out' told told' fault
      → SearchBreaksOff text setup (files_past (input_name asked) done asked_so past) out out' told told' fault
  breaks_so text setup done asked_so past out out' told told' fault b =
      let F : Sought X → Type 0 = λ q.
      SearchBreaksOff text setup (files_past q.input_name done asked_so past) out out' told told' fault in
      subst F is b
