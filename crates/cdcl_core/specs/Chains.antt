-- Lists that are linked through a table of next places: 0 ends a list.
use Rattle.std.specs.Prelude.{ℕ, ◌≡◌, ◌+◌, ◌<◌, ◌≤◌, ◌==◌, zero, suc, List, [], ◌∷◌, length, map, cond, slice_index}
use Rattle.std.specs.List.{sum_by}

-- the places from h on, at most n of them
unfoldable pub follow : List ℕ → ℕ → ℕ → List ℕ
follow ns zero h = []
follow ns (suc n) h = cond (h == 0) [] (h ∷ follow ns n (slice_index ns h))

-- the table leads from h through exactly the places of the list
unfoldable pub IsChain : List ℕ → ℕ → List ℕ → Type 0
IsChain ns h [] = h ≡ 0
IsChain ns h (x ∷ xs) = (h ≡ x) × ((0 < x) × ((x < length ns) × IsChain ns (slice_index ns x) xs))

abbrev pub lists_of : List ℕ → List ℕ → List (List ℕ)
lists_of ns rs = map (follow ns (length ns)) rs

-- how often k stands in a list
unfoldable pub times : ℕ → List ℕ → ℕ
times k [] = 0
times k (x ∷ xs) = cond (x == k) 1 0 + times k xs

-- each list is a chain that ends, and no place stands twice
pub record IsLinked (ns rs : List ℕ) : Type 0 where
  pub ends : (i : ℕ) → i < length rs → IsChain ns (slice_index rs i) (follow ns (length ns) (slice_index rs i))
  pub once : (k : ℕ) → sum_by (times k) (lists_of ns rs) ≤ 1

abbrev pub first_of : List ℕ → ℕ
first_of [] = 0
first_of (x ∷ _) = x

abbrev pub rest_of : List ℕ → List ℕ
rest_of [] = []
rest_of (_ ∷ xs) = xs
