-- Walks along chains: what holds of the strings that were passed.
use Rattle.std.proofs.Common.{◌≡◌, ℕ, ◌+◌, ◌-◌, ◌/◌, ◌<◌, ◌≤◌, List, [], length, map, drop, get_or, sym, ap, ◌∙◌}
use Rattle.std.proofs.Common.{arith, subst, inl, inr}
use Rattle.std.specs.Prelude.{slice_index}
use Rattle.std.specs.List.{sum_by}
use Rattle.std.proofs.lemmas.Bool.{cases_lt}
use Rattle.std.proofs.lemmas.List.{get_or-map, get_or_default, length-map, drop-drop}
use Rattle.std.proofs.lemmas.List.Sums.{sum_by-take-drop, sum_by-drop_more}
use Rattle.memchr.specs.Find.{OccursAt}
use Rattle.pg_strings.specs.Keys.{key, home, Weighs, AreLong, AreChains}
use Rattle.pg_strings.proofs.KeyLemmas.{key_at_place}

-- what was seen of a chain, from its end down to a link: P holds of the strings behind the link
pub record IsWalked (P : List ℕ → Type 0) (H : List ℕ → ℕ) (strings : List (List ℕ)) (link h : ℕ) : Type 0 where
  pub own : 0 < link → H (get_or strings (link - 1) []) ≡ h
  pub seen : (i : ℕ) → i < length strings → link ≤ i → H (get_or strings i []) ≡ h → P (get_or strings i [])

home_of : (H : List ℕ → ℕ) (strings : List (List ℕ)) (i : ℕ) → i < length strings
    → slice_index (map H strings) i ≡ H (get_or strings i [])
home_of H strings i less = get_or-map H strings i [] 0 less

-- at the last string of a chain nothing has to be seen
walk_starts : (P : List ℕ → Type 0) (H : List ℕ → ℕ) (strings : List (List ℕ)) (first next : List ℕ) (h : ℕ) → h < 8192
    → AreChains first next (map H strings) → IsWalked P H strings (slice_index first h) h
walk_starts P H strings first next h within chains =
    let len = length-map strings H in
    let top = chains.starts h within in
    record {
      own = λ some. sym (home_of H strings (slice_index first h - 1) (omega (arith, some, top, len)))
          ∙ chains.own h within some;
      seen = λ i less low is.
          let at : slice_index (map H strings) i ≡ h = home_of H strings i less ∙ is in
          let covered = chains.covers h i (omega (arith, less, len)) at in
          absurd (omega (arith, covered, low));
    }

-- where P holds of the string at the link, the walk goes on to the one before it
walk_goes_on : (P : List ℕ → Type 0) (H : List ℕ → ℕ) (strings : List (List ℕ)) (first next : List ℕ) (link h : ℕ)
    → AreChains first next (map H strings) → 0 < link → link ≤ length strings
    → IsWalked P H strings link h → P (get_or strings (link - 1) [])
    → IsWalked P H strings (slice_index next (link - 1)) h
walk_goes_on P H strings first next link h chains some within walked last =
    let len = length-map strings H in
    let less : link - 1 < length strings = omega (arith, some, within) in
    let less' : link - 1 < length (map H strings) = omega (arith, less, len) in
    let falls = chains.falls (link - 1) less' in
    let here : slice_index (map H strings) (link - 1) ≡ h =
    home_of H strings (link - 1) less ∙ walked.own some in
    record {
      own = λ more. sym (home_of H strings (slice_index next (link - 1) - 1) (omega (arith, more, falls, less)))
          ∙ (chains.own_before (link - 1) less' more ∙ here);
      seen = λ i low behind is. elim (cases_lt i (link - 1)) [
        | inl before ↦
            let at : slice_index (map H strings) i ≡ h = home_of H strings i low ∙ is in
            let covered = chains.covers_before i (link - 1) before less' (at ∙ sym here) in
            absurd (omega (arith, covered, behind))
        | inr after ↦ elim (cases_lt (link - 1) i) [
          | inl later ↦ walked.seen i low (omega (arith, later)) is
          | inr same ↦
              let e : link - 1 ≡ i = omega (arith, after, same) in
              subst (λ n. P (get_or strings n [])) e last
        ]
      ];
    }

-- the walk begins at the link that was read
pub walk_first : (P : List ℕ → Type 0) (H : List ℕ → ℕ) (strings : List (List ℕ)) (first next : List ℕ) (h link : ℕ)
    → h < 8192
    → AreChains first next (map H strings) → link ≡ get_or first h link
    → (link ≤ length strings) × IsWalked P H strings link h
walk_first P H strings first next h link within chains read =
    let count = chains.count in
    let top = chains.starts h within in
    let at : link ≡ get_or first h 0 = read ∙ get_or_default first h link 0 (omega (arith, within, count)) in (
      omega (arith, at, top, length-map strings H),
      subst (λ l. IsWalked P H strings l h) (sym at) (walk_starts P H strings first next h within chains),
    )

-- and goes on at the one that was read there
pub walk_next : (P : List ℕ → Type 0) (H : List ℕ → ℕ) (strings : List (List ℕ)) (first next : List ℕ)
    (link h before : ℕ)
    → AreChains first next (map H strings) → 0 < link → link ≤ length strings
    → IsWalked P H strings link h → P (get_or strings (link - 1) []) → before ≡ get_or next (link - 1) before
    → (before ≤ link - 1) × IsWalked P H strings before h
walk_next P H strings first next link h before chains some within walked last read =
    let len = length-map strings H in
    let links = chains.links in
    let less : link - 1 < length (map H strings) = omega (arith, some, within, len) in
    let at : before ≡ get_or next (link - 1) 0 =
    read ∙ get_or_default next (link - 1) before 0 (omega (arith, less, links)) in (
      omega (arith, at, chains.falls (link - 1) less),
      subst (λ l. IsWalked P H strings l h) (sym at)
          (walk_goes_on P H strings first next link h chains some within walked last),
    )

-- the link before is less
pub link_falls : (H : List ℕ → ℕ) (strings : List (List ℕ)) (first next : List ℕ) (link before : ℕ)
    → AreChains first next (map H strings) → 0 < link → link ≤ length strings
    → before ≡ get_or next (link - 1) before → before < link
link_falls H strings first next link before chains some within read =
    let len = length-map strings H in
    let links = chains.links in
    let less : link - 1 < length (map H strings) = omega (arith, some, within, len) in
    let at : before ≡ get_or next (link - 1) 0 =
    read ∙ get_or_default next (link - 1) before 0 (omega (arith, less, links)) in
    omega (arith, at, chains.falls (link - 1) less, some)

-- what was seen holds of less
pub walk_weaker : (P Q : List ℕ → Type 0) (H : List ℕ → ℕ) (strings : List (List ℕ)) (link h : ℕ)
    → ((string : List ℕ) → P string → Q string) → IsWalked P H strings link h → IsWalked Q H strings link h
walk_weaker P Q H strings link h weaker walked = record {
  own = walked.own;
  seen = λ i less low is. weaker (get_or strings i []) (walked.seen i less low is);
}

-- at the end of the chain of a place, P holds of all strings of three bytes and more that stand there
pub walk_ends : (P : List ℕ → Type 0) (factor width : ℕ) (strings : List (List ℕ)) (bytes : List ℕ) (place h : ℕ)
    → Weighs factor width → AreLong width strings → h ≡ key factor (drop place bytes) / 16
    → IsWalked P (home factor) strings 0 h → (i : ℕ) (string : List ℕ) → i < length strings
    → get_or strings i string ≡ string → 3 ≤ length string → OccursAt bytes string place → P string
walk_ends P factor width strings bytes place h weighs are_long e walked i string less is three occurs =
    let at : get_or strings i [] ≡ string = get_or_default strings i [] string less ∙ is in
    let long : width ≤ length string =
    subst (λ t. 3 ≤ length t → width ≤ length t) is (are_long i string less).1 three in
    let same : key factor (drop place bytes) ≡ key factor string =
    key_at_place factor width bytes string place weighs long occurs in
    subst P at (walked.seen i less (omega arith) (ap (λ t. home factor t) at ∙ sym (e ∙ ap (λ v. v / 16) same)))

-- the strings from a later link on weigh no more
weighs_less : (f : List ℕ → ℕ) (strings : List (List ℕ)) (i j : ℕ) → i ≤ j
    → sum_by f (drop j strings) ≤ sum_by f (drop i strings)
weighs_less f strings i j low =
    let e : i + (j - i) ≡ j = omega arith in
    let same : drop (j - i) (drop i strings) ≡ drop j strings =
    drop-drop (j - i) i strings ∙ ap (λ n. drop n strings) e in
    let all = sum_by-take-drop f (drop i strings) (j - i) in
    let part : sum_by f (drop (j - i) (drop i strings)) ≡ sum_by f (drop j strings) = ap (sum_by f) same in
    omega (arith, all, part)

-- what was spent on the strings behind a link, with the one at the link, is no more than all behind the one before
pub spent_more : (f : List ℕ → ℕ) (strings : List (List ℕ)) (link before old left now : ℕ) → 0 < link
    → link ≤ length strings → before ≤ link - 1 → old ≤ left + sum_by f (drop link strings)
    → left ≤ now + f (get_or strings (link - 1) []) → old ≤ now + sum_by f (drop before strings)
spent_more f strings link before old left now some within low was cost =
    let less : link - 1 < length strings = omega arith in
    let e : link - 1 + 1 ≡ link = omega arith in
    let one = sum_by-drop_more f strings (link - 1) [] less in
    let two : sum_by f (drop (link - 1 + 1) strings) ≡ sum_by f (drop link strings) =
    ap (λ n. sum_by f (drop n strings)) e in
    omega (arith, one, two, weighs_less f strings before (link - 1) low)

-- all strings weigh no less than some
pub spent_all : (f : List ℕ → ℕ) (strings : List (List ℕ)) (link old now : ℕ)
    → old ≤ now + sum_by f (drop link strings) → old ≤ now + sum_by f strings
spent_all f strings link old now was = omega (arith, sum_by-take-drop f strings link)
