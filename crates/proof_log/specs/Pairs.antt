-- What is kept for pairs of a lower and an upper term.
use Rattle.std.specs.Prelude.{ℕ, zero, suc, ◌<◌, ◌≤◌, ◌==◌, ◌&&◌, if◌then◌else◌, List, [], ◌∷◌, ◌++◌, map, Option, Some, None}
use Rattle.std.specs.List.{AllByRecursion}

module _ {V : Type 0} where
  -- what is kept for a lower term among those of an upper one
  abbrev pub kept_for : List (ℕ × V) → ℕ → Option V
  kept_for [] t = None
  kept_for (e ∷ es) t = if t == e.0 then Some e.1 else kept_for es t

  -- the lower terms rise, so that none stands twice
  abbrev pub AreRising : List (ℕ × V) → Type 0
  AreRising [] = Unit {0}
  AreRising (e ∷ es) = AllByRecursion (λ f. e.0 < f.0) es × AreRising es

  -- below the place are the terms that are lower, from it on those that are not
  abbrev pub Splits : List (ℕ × V) → ℕ → ℕ → Type 0
  Splits es t zero = AllByRecursion (λ e. t ≤ e.0) es
  Splits [] t (suc p) = ⊥
  Splits (e ∷ es) t (suc p) = (e.0 < t) × Splits es t p

  -- one more value of a partial function of two numbers
  abbrev pub with_pair : (ℕ → ℕ → Option V) → ℕ → ℕ → V → ℕ → ℕ → Option V
  with_pair f t u a x y = if (x == t) && (y == u) then Some a else f x y

  -- what is kept for a lower and an upper term: each entry has the upper term, the lower one, and what is kept
  abbrev pub found : List (ℕ × (ℕ × V)) → ℕ → ℕ → Option V
  found [] t u = None
  found (e ∷ es) t u = if (t == e.1.0) && (u == e.0) then Some e.1.1 else found es t u

  -- the entries of rows, each row that of an upper term from n on
  abbrev pub flat : ℕ → List (List (ℕ × V)) → List (ℕ × (ℕ × V))
  flat n [] = []
  flat n (row ∷ rows) = map (λ e. (n, e)) row ++ flat (suc n) rows
