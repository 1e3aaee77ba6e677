-- Chains.
use Rattle.std.proofs.Common.{◌≡◌, ℕ, ◌+◌, ◌<◌, List, [], ◌∷◌, ◌++◌, length, set, arith}
use Rattle.std.specs.Prelude.{slice_index}
use Rattle.std.proofs.lemmas.Grind.{common_steps}
use Rattle.pg_strings.specs.Keys.{AreChains}

-- the next thing is put into a chain
pub pushed : (first next homes : List ℕ) (h : ℕ) → h < 8192 → AreChains first next homes
    → AreChains (set first h (length homes + 1)) (next ++ (slice_index first h ∷ [])) (homes ++ (h ∷ []))
pushed first next homes h within chains =
    let count = chains.count in
    let links = chains.links in
    record {
      count = grind (arith, common_steps, count);
      links = grind (arith, common_steps, links);
      starts = λ k low. grind (arith, common_steps, count, chains.starts k low);
      falls = λ j low. grind (arith, common_steps, count, links, chains.falls j, chains.starts h within);
      covers = λ k i low is. grind (arith, common_steps, count, links, chains.covers k i);
      covers_before = λ i j less low same. grind (
        arith,
        common_steps,
        count,
        links,
        chains.covers_before i j,
        chains.covers h i,
      );
      own = λ k low some. grind (arith, common_steps, count, links, chains.own k low, chains.starts k low);
      own_before = λ j low some. grind (
        arith,
        common_steps,
        count,
        links,
        chains.own_before j,
        chains.own h within,
        chains.falls j,
        chains.starts h within,
      );
    }

pub pushed_as : (first next homes next' : List ℕ) (h n b : ℕ) → n ≡ length homes → b ≡ slice_index first h
    → next' ≡ next ++ (b ∷ []) → h < 8192 → AreChains first next homes
    → AreChains (set first h (n + 1)) next' (homes ++ (h ∷ []))
pushed_as first next homes next' h n b len before items within chains =
    rw (len, items, before) (pushed first next homes h within chains)
