-- The bounds of an interval expression (XBD 9.3.6, 9.4.6).
use Rattle.std.specs.Prelude.{ℕ, ◌≡◌, ◌≢◌, ◌≤◌, ◌+◌, ◌-◌, ◌*◌, List, [], ◌∷◌, ◌++◌, Option, Some, None, IsTrue}
use Rattle.std.specs.List.{list_all}
use Rattle.pg_bytes.specs.Classes.{digit}

-- the number that decimal digits write behind the digits of n
abbrev pub decimal : ℕ → List ℕ → ℕ
decimal n [] = n
decimal n (c ∷ t) = decimal (10 * n + (c - 48)) t

-- one or more decimal digits, of a value up to 255 (XBD 9.3.6: RE_DUP_MAX)
pub record IsNumber (t : List ℕ) (n : ℕ) : Type 0 where
  pub some : t ≢ []
  pub digits : IsTrue (list_all digit t)
  pub value : decimal 0 t ≡ n
  pub small : n ≤ 255

-- `m`, `m,` or `m,n`, where m is at most n: the least and the greatest count
pub data IsBounds : List ℕ → ℕ → Option ℕ → Type 0 where
  exactly : {t : List ℕ} {m : ℕ} → IsNumber t m → IsBounds t m (Some m)
  at_least : {t : List ℕ} {m : ℕ} → IsNumber t m → IsBounds (t ++ 44 ∷ []) m None
  from_to : {t u : List ℕ} {m n : ℕ} → IsNumber t m → IsNumber u n → m ≤ n → IsBounds (t ++ 44 ∷ u) m (Some n)
