-- Each put and each take of a tray keeps its rule.
use Rattle.std.proofs.Common.{◌≡◌, ◌≢◌, ℕ, zero, suc, Bool, true, false, ◌+◌, ◌<◌, ◌≤◌, List, [], ◌∷◌, ◌++◌, length}
use Rattle.std.proofs.Common.{set, sym, refl, ap, ◌∙◌, subst, ⊎_elim, arith, if◌then◌else◌, ◌==◌, eq-eqb, ne_eqb}
use Rattle.std.proofs.Common.{append_assoc, append-nil, length-append}
use Rattle.std.specs.List.{AllByRecursion}
use Rattle.std.proofs.lemmas.List.{map-append}
use mathlib.Core.Option.{some, some-injective, some-ne-none}
use lib.ListN.{get_elem?}
use Rattle.std.proofs.lemmas.Bool.Decides.{nat_tests}
use Rattle.crossbeam_queue.specs.Fifo.{Pushes, Pops, Forks, Merges, Learns}
use Rattle.crossbeam_queue.proofs.Lists.{at_set, at_snoc}
use Rattle.pg_board.specs.declared.puts.Entry.{Entry}
use Rattle.pg_board.specs.declared.puts.Puts.{Puts}
use Rattle.pg_board.specs.declared.puts.PassView.{PassView}
use Rattle.pg_board.specs.Counts.{total, once_below}
use Rattle.pg_board.specs.Merge.{IsMerge}
use Rattle.pg_board.specs.TrayRule.{puts, pass_view, put_by, values_in, lists_of, first_values, passes_numbered}
use Rattle.pg_board.specs.TrayRule.{Knows, KeepsTray, PutOne, TakeOne, HandOutOne, IsWholeMerge}
use Rattle.pg_board.proofs.CountLemmas.{total_set, total-append, total_at, total_two, total_one, total_empty, once_next}
use Rattle.pg_board.proofs.MergeLemmas.{all_weaker, merges}

abbrev pub entry : {T : Type 0} → ℕ → T → Entry T
entry pass value = record { pass = pass; value = value }

in_once : (p n : ℕ) → 1 ≤ once_below p n → p < n
in_once p n h = grind (arith, nat_tests)

-- all of joined lists
all-append : {X : Type 0} (P : X → Type 0) (xs ys : List X) → AllByRecursion P xs → AllByRecursion P ys
    → AllByRecursion P (xs ++ ys)
all-append P [] ys h k = k
all-append P (x ∷ xs) ys h k = (h.0, all-append P xs ys h.1 k)

module _ {T : Type 0} where
  abbrev takers_in : PassView T → ℕ
  takers_in v = v.takers

  abbrev passes_in : PassView T → ℕ
  passes_in v = length v.passes

  abbrev numbered_in : ℕ → PassView T → ℕ
  numbered_in n v = passes_numbered n v.passes

  -- a pass's list is all that it put
  abbrev IsAllOf : List (Entry T) → Puts T → Type 0
  IsAllOf whole p = p.values ≡ put_by p.pass whole

  put_step : (b : Bool) (x : T) (k l m : List T) → k ≡ l ++ m → (if b then x ∷ k else k) ≡ (if b then x ∷ l else l) ++ m
  put_step true x k l m e = ap (λ (n : List T). x ∷ n) e
  put_step false x k l m e = e

  put_by-append : (n : ℕ) (xs ys : List (Entry T)) → put_by n (xs ++ ys) ≡ put_by n xs ++ put_by n ys
  put_by-append n [] ys = refl
  put_by-append n (x ∷ xs) ys = put_step (x.pass == n) x.value (put_by n (xs ++ ys)) (put_by n xs) (put_by n ys)
      (put_by-append n xs ys)

  put_here : (n : ℕ) (x : T) → put_by n (entry n x ∷ []) ≡ x ∷ []
  put_here n x = ap (λ (b : Bool). if b then x ∷ [] else []) (eq-eqb n n refl)

  put_else : (m n : ℕ) (x : T) → m ≢ n → put_by n (entry m x ∷ []) ≡ []
  put_else m n x ne = ap (λ (b : Bool). if b then x ∷ [] else []) (ne_eqb m n ne)

  -- no pass of this number put anything
  put_none : (made n : ℕ) (es : List (Entry T)) → made ≤ n → AllByRecursion (λ e. e.pass < made) es → put_by n es ≡ []
  put_none made n [] high h = refl
  put_none made n (e ∷ es) high h = ap (λ (b : Bool). if b then e.value ∷ put_by n es else put_by n es)
      (ne_eqb e.pass n (λ is. absurd (let a = h.0 in omega arith))) ∙ put_none made n es high h.1

  -- one entry more
  put_more : (n : ℕ) (taken items : List (Entry T)) (m : Entry T)
      → put_by n (taken ++ (items ++ m ∷ [])) ≡ put_by n (taken ++ items) ++ put_by n (m ∷ [])
  put_more n taken items m = ap (put_by n) (sym (append_assoc taken items (m ∷ [])))
      ∙ put_by-append n (taken ++ items) (m ∷ [])

  put_same : (m n : ℕ) (x : T) (taken items : List (Entry T)) → m ≢ n
      → put_by n (taken ++ (items ++ entry m x ∷ [])) ≡ put_by n (taken ++ items)
  put_same m n x taken items ne = put_more n taken items (entry m x)
      ∙ ap (λ (l : List T). put_by n (taken ++ items) ++ l) (put_else m n x ne) ∙ append-nil (put_by n (taken ++ items))

  -- what holds of passes of other numbers
  others_map : (P Q : Puts T → Type 0) (n : ℕ) (ps : List (Puts T)) → ((p : Puts T) → p.pass ≢ n → P p → Q p)
      → passes_numbered n ps ≡ 0 → AllByRecursion P ps → AllByRecursion Q ps
  others_map P Q n [] f absent h = tt
  others_map P Q n (p ∷ ps) f absent h = (
    f p (λ is. let one : ◌≡◌ {A = ℕ} (if p.pass == n then 1 else 0) 1 =
        ap (λ (b : Bool). if b then 1 else 0) (eq-eqb p.pass n is) in absurd (omega arith)) h.0,
    others_map P Q n ps f (omega arith) h.1,
  )

  -- the views after one of them changed
  views_set : (F G : PassView T → Type 0) (views : List (PassView T)) (at : ℕ) (w : PassView T)
      → ((j : ℕ) (v : PassView T) → get_elem? views j ≡ some v → F v) → G w
      → ((j : ℕ) (u : PassView T) → j ≢ at → get_elem? views j ≡ some u → F u → G u) → (j : ℕ) (u : PassView T)
      → get_elem? (set views at w) j ≡ some u → G u
  views_set F G views at w all mine others j u e =
      ⊎_elim (λ (x : (j ≡ at) × (w ≡ u)). subst (λ (y : PassView T). G y) x.1 mine)
      (λ (x : (j ≢ at) × (get_elem? views j ≡ some u)). others j u x.0 x.1 (all j u x.1)) (at_set views at j w u e)

  pub begins : KeepsTray {T = T} [] (pass_view [] 1 0 [] ∷ [])
  begins = record {
    made = 0;
    taken = [];
    one_taker = refl;
    all_passes = refl;
    each_pass = λ n. sym (let e : once_below n 0 ≡ 0 = grind (arith, nat_tests) in e);
    numbered = tt;
    each_view = go;
  }
    where
      go : (at : ℕ) (v : PassView T) → get_elem? (pass_view [] 1 0 [] ∷ []) at ≡ some v → Knows 0 [] [] v
      go zero v e = subst (λ (y : PassView T). Knows 0 [] [] y) (some-injective (pass_view [] 1 0 []) v e)
          (record { taker = λ _. (refl, refl); putters = tt })
      go (suc at) v e = absurd (some-ne-none v (sym e))

  pub puts_one : (n at : ℕ) (v : PassView T) (p : ℕ) (l : List T) (x : T) → v.passes ≡ puts p l ∷ [] → v.takers ≡ 0
      → Pushes KeepsTray n at v (entry p x) (PutOne v (entry p x))
  puts_one n at v p l x one idle items views room h here =
      let m : Entry T = entry p x in let now : List T = first_values v.passes ++ x ∷ [] in let w : PassView T =
      pass_view (puts p now ∷ []) v.takers v.made v.taken in
      let mine = h.each_view at v here in
      let putters : AllByRecursion (IsAllOf (h.taken ++ items)) (puts p l ∷ []) =
      subst (λ (ps : List (Puts T)). AllByRecursion (IsAllOf (h.taken ++ items)) ps) one mine.putters in
      let has : numbered_in p v ≡ 1 = ap (passes_numbered p) one
      ∙ ap (λ (b : Bool). (if b then 1 else 0) + 0) (eq-eqb p p refl) in
      let low : p < h.made = in_once p h.made
      (let a = total_at (numbered_in p) views at v here in let b = h.each_pass p in omega arith) in
      let grown : now ≡ put_by p (h.taken ++ (items ++ m ∷ [])) =
      ap (λ (ps : List (Puts T)). first_values ps ++ x ∷ []) one ∙ ap (λ (k : List T). k ++ x ∷ []) putters.0
      ∙ ap (λ (k : List T). put_by p (h.taken ++ items) ++ k) (sym (put_here p x))
      ∙ sym (put_more p h.taken items m) in (
        w,
        record {
          made = h.made;
          taken = h.taken;
          one_taker = (let a = total_set takers_in views at v w here in let b = h.one_taker in omega arith);
          all_passes = (let a = total_set passes_in views at v w here in let b =
              h.all_passes in let s : passes_in v ≡ 1 = ap (length {A = Puts T}) one in omega arith);
          each_pass = λ q. (let a = total_set (numbered_in q) views at v w here in let b =
              h.each_pass q in let s : numbered_in q v ≡ numbered_in q w = ap (passes_numbered q) one in omega arith);
          numbered = subst (λ (es : List (Entry T)). AllByRecursion (λ e. e.pass < h.made) es)
              (append_assoc h.taken items (m ∷ []))
              (all-append (λ (e : Entry T). e.pass < h.made) (h.taken ++ items) (m ∷ []) h.numbered (low, tt));
          each_view = views_set (Knows h.made h.taken items)
              (Knows h.made h.taken (items ++ m ∷ [])) views at w h.each_view
              (record { taker = λ some_takers. absurd (omega arith); putters = (grown, tt) })
              (λ j u other e knows. record {
                taker = knows.taker;
                putters = others_map (IsAllOf (h.taken ++ items)) (IsAllOf (h.taken ++ (items ++ m ∷ []))) p u.passes
                    (λ e ne was. was ∙ sym (put_same p e.pass x h.taken items (λ is. ne (sym is))))
                    (let a = total_two (numbered_in p) views at j v u (λ is. other (sym is)) here e in let b =
                    h.each_pass p in let c : once_below p h.made ≤ 1 = grind (arith, nat_tests) in omega arith)
                    knows.putters;
              });
        },
        refl,
      )

  -- what stands last in the one list left the front of the other
  pub takes_one : (at : ℕ) (v : PassView T) → v.takers ≡ 1 → Pops KeepsTray at v (TakeOne v)
  takes_one at v one x items views h here =
      let w : PassView T = pass_view v.passes v.takers v.made (v.taken ++ x ∷ []) in let now : List (Entry T) =
      h.taken ++ x ∷ [] in
      let mine = h.each_view at v here in let know = mine.taker (omega arith) in
      let same : h.taken ++ (x ∷ items) ≡ now ++ items = sym (append_assoc h.taken (x ∷ []) items) in
      let putters : (ps : List (Puts T)) → AllByRecursion (IsAllOf (h.taken ++ (x ∷ items))) ps
      → AllByRecursion (IsAllOf (now ++ items)) ps =
      λ ps k. subst (λ (l : List (Entry T)). AllByRecursion (IsAllOf l) ps) same k in (
        w,
        record {
          made = h.made;
          taken = now;
          one_taker = (let a = total_set takers_in views at v w here in let b = h.one_taker in omega arith);
          all_passes = (let a = total_set passes_in views at v w here in let b = h.all_passes in omega arith);
          each_pass = λ q. (let a = total_set (numbered_in q) views at v w here in let b =
              h.each_pass q in omega arith);
          numbered = subst (λ (es : List (Entry T)). AllByRecursion (λ e. e.pass < h.made) es) same h.numbered;
          each_view = views_set (Knows h.made h.taken (x ∷ items)) (Knows h.made now items) views at w h.each_view
              (record {
                taker = λ _. (ap (λ (l : List (Entry T)). l ++ x ∷ []) know.0, know.1);
                putters =
                    putters v.passes mine.putters;
              })
              (λ j u other e knows. record {
                taker = λ two. absurd (let a =
                    total_two takers_in views at j v u (λ is. other (sym is)) here e in let b =
                    h.one_taker in omega arith);
                putters = putters u.passes knows.putters;
              });
        },
        refl,
      )

  -- one pass more
  pub makes_pass : (at : ℕ) (v : PassView T) → v.takers ≡ 1
      → Forks KeepsTray at v (pass_view v.passes v.takers (v.made + 1) v.taken) (pass_view (puts v.made [] ∷ []) 0 0 [])
  makes_pass at v one items views h here =
      let l : PassView T = pass_view v.passes v.takers (v.made + 1) v.taken in let r : PassView T =
      pass_view (puts v.made [] ∷ []) 0 0 [] in
      let mine = h.each_view at v here in let know = mine.taker (omega arith) in let vs : List (PassView T) =
      set views at l in
      let made : v.made ≡ h.made = know.1 in
      let all : (f : PassView T → ℕ) → f l ≡ f v
      → total f (vs ++ r ∷ []) ≡ total f views + f r =
      λ f e. (let a = total_set f views at v l here in let b = total-append f vs (r ∷ []) in omega arith) in
      record {
        made = h.made + 1;
        taken = h.taken;
        one_taker = all takers_in refl ∙ (let b = h.one_taker in omega arith);
        all_passes = all passes_in refl ∙ (let b = h.all_passes in omega arith);
        each_pass = λ q. all (numbered_in q) refl
            ∙ (let b = h.each_pass q in let c =
            once_next q h.made in let d : numbered_in q r ≡ (if h.made == q then 1 else 0) =
            ap (λ (k : ℕ). (if k == q then 1 else 0) + 0) made ∙ (omega arith) in omega arith);
        numbered = all_weaker (λ (e : Entry T). e.pass < h.made) (λ (e : Entry T). e.pass < h.made + 1)
            (h.taken ++ items) (λ e low. omega arith) h.numbered;
        each_view = λ j u e. ⊎_elim
            (views_set (Knows h.made h.taken items) (Knows (h.made + 1) h.taken items) views at l h.each_view
            (record { taker = λ _. (know.0, ap (λ (k : ℕ). k + 1) made); putters = mine.putters })
            (λ j u other e knows. record {
              taker =
                  λ two. absurd (let a = total_two takers_in views at j v u (λ is. other (sym is)) here e in let b =
                  h.one_taker in omega arith);
              putters = knows.putters;
            }) j u)
            (λ (is : r ≡ u). subst (λ (y : PassView T). Knows (h.made + 1) h.taken items y) is
            (record {
              taker = λ some_takers. absurd (omega arith);
              putters =
                  (sym (put_none h.made v.made (h.taken ++ items) (omega arith) h.numbered), tt);
            }))
            (at_snoc vs r u j e);
      }

  -- a put pass comes back to the one that takes
  pub brings_back : (at : ℕ) (v : PassView T) (other : ℕ) (u : PassView T) → v.takers ≡ 1 → u.takers ≡ 0
      → Merges KeepsTray at v other u (pass_view (u.passes ++ v.passes) v.takers v.made v.taken) (pass_view [] 0 0 [])
  brings_back at v other u one idle items views h here two there =
      let both : PassView T = pass_view (u.passes ++ v.passes) v.takers v.made v.taken in let gone : PassView T =
      pass_view [] 0 0 [] in
      let mine = h.each_view at v here in let know = mine.taker (omega arith) in let vs : List (PassView T) =
      set views at both in
      let was : get_elem? views other ≡ some u =
      ⊎_elim (λ x. absurd (two x.0)) (λ x. x.1) (at_set views at other both u there) in let theirs =
      h.each_view other u was in
      let all : (f : PassView T → ℕ) → f both ≡ f v + f u → f gone ≡ 0
      → total f (set vs other gone) ≡ total f views =
      λ f e z. (let a = total_set f views at v both here in let b =
      total_set f vs other u gone there in omega arith) in
      record {
        made = h.made;
        taken = h.taken;
        one_taker = all takers_in (omega arith) refl ∙ h.one_taker;
        all_passes = all passes_in (let a = length-append u.passes v.passes in omega arith) refl ∙ h.all_passes;
        each_pass = λ q. all (numbered_in q)
            (let a = total-append (λ (p : Puts T). if p.pass == q then 1 else 0) u.passes v.passes in omega arith) refl
            ∙ h.each_pass q;
        numbered = h.numbered;
        each_view = views_set (Knows h.made h.taken items) (Knows h.made h.taken items) vs other gone
            (views_set (Knows h.made h.taken items) (Knows h.made h.taken items) views at both h.each_view
            (record {
              taker = λ _. know;
              putters =
                  all-append (IsAllOf (h.taken ++ items)) u.passes v.passes theirs.putters mine.putters;
            })
            (λ j y apart e knows. knows))
            (record { taker = λ some_takers. absurd (omega arith); putters = tt }) (λ j y apart e knows. knows);
      }

  -- the one that takes, once it has all passes, knows that what was taken, and then what is held, is a merge of what
  -- they put
  pub learns : (at : ℕ) (v : PassView T) → v.takers ≡ 1 → v.made ≡ length v.passes
      → Learns KeepsTray at v (IsWholeMerge v)
  learns at v one all items views h here =
      let mine = h.each_view at v here in let know = mine.taker (omega arith) in
      let whole : total passes_in views ≡ passes_in v = h.all_passes ∙ sym know.1 ∙ all in
      let each : (n : ℕ) → passes_numbered n v.passes ≡ once_below n h.made =
      λ n. sym (total_one passes_in (numbered_in n) views at v here
      (λ j u e z. total_empty (λ (p : Puts T). if p.pass == n then 1 else 0) u.passes z) whole) ∙ h.each_pass n in
      subst (λ (l : List (Entry T)). IsMerge (lists_of v.passes) (values_in (l ++ items))) (sym know.0)
      (merges v.passes h.made (h.taken ++ items) each h.numbered mine.putters)

  pub hands_out : (at : ℕ) (v : PassView T) → v.takers ≡ 1 → v.made ≡ length v.passes
      → Pops KeepsTray at v (HandOutOne v)
  hands_out at v one all x items views h here =
      let t = takes_one at v one x items views h here in
      let value : Entry T → T = λ e. e.value in
      let same : values_in (v.taken ++ (x ∷ items)) ≡ (values_in v.taken ++ x.value ∷ []) ++ values_in items =
      map-append value v.taken (x ∷ items)
      ∙ sym (append_assoc (values_in v.taken) (x.value ∷ []) (values_in items)) in (
        t.0,
        t.1,
        (
          t.2,
          (
            values_in items,
            subst (λ (l : List T). IsMerge (lists_of v.passes) l) same
                (learns at v one all (x ∷ items) views h here),
          ),
        ),
      )
