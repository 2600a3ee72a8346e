-- The trail as a stamp for each literal's code: 0 where it is not true, else one more than its decision level.
use Rattle.std.specs.Prelude.{ℕ, ◌≡◌, ◌≢◌, ◌+◌, ◌-◌, ◌*◌, ◌%◌, ◌^◌, ◌<◌, ◌≤◌, ◌==◌, ◌⊎◌, zero, suc, Bool, true, false, List, length, take, cond, slice_index, map}
use Rattle.std.specs.List.{count_by}
use Rattle.cnf_base.specs.Literals.{Literal, code_of}
use Rattle.cdcl_core.specs.Chains.{times}

-- the code of the opposite literal; the other place of a clause
unfoldable pub neg : ℕ → ℕ
neg l = cond (l % 2 == 0) (l + 1) (l - 1)

abbrev pub is_set : ℕ → Bool
is_set zero = false
is_set (suc n) = true

-- the codes of a clause
abbrev pub codes : List Literal → List ℕ
codes c = map code_of c

-- the literal's code stands in the clause
abbrev pub Has : List ℕ → ℕ → Type 0
Has c l = 0 < times l c

abbrev pub IsTrueAt : List ℕ → ℕ → ℕ → Type 0
IsTrueAt ss j l = (0 < slice_index ss l) × (slice_index ss l ≤ j + 1)

-- every literal is false
abbrev pub IsFalse : List ℕ → List ℕ → Type 0
IsFalse ss c = (l : ℕ) → Has c l → 0 < slice_index ss (neg l)

-- the literal is false, unless it is this one
abbrev pub IsFalseBut : List ℕ → ℕ → ℕ → Type 0
IsFalseBut ss other l = l ≢ other → 0 < slice_index ss (neg l)

-- the literal stands in the clause, is not this one, and is not false
abbrev pub IsFreeIn : List ℕ → List ℕ → ℕ → ℕ → Type 0
IsFreeIn ss c other l = Has c l × ((l ≢ other) × (slice_index ss (neg l) ≡ 0))

-- at the end of level j the clause has a true literal, or two that are not false
abbrev pub RestsAt : List ℕ → ℕ → List ℕ → Type 0
RestsAt ss j c =
    ((l : ℕ) × (Has c l × IsTrueAt ss j l))
    ⊎ ((l : ℕ) × ((m : ℕ) × (Has c l × (Has c m × ((l ≢ m) × ((IsTrueAt ss j (neg l) → ⊥) × (IsTrueAt ss j (neg m) → ⊥)))))))

-- the stamps rise by at most one along the trail, and the last literal has the current level's
pub record IsLevelled (ss es : List ℕ) (len level : ℕ) : Type 0 where
  pub rise : (i : ℕ) → i + 1 < len → slice_index ss (slice_index es i) ≤ slice_index ss (slice_index es (i + 1))
  pub step : (i : ℕ) → i + 1 < len → slice_index ss (slice_index es (i + 1)) ≤ slice_index ss (slice_index es i) + 1
  pub start : 0 < len → slice_index ss (slice_index es 0) ≤ 2
  pub last : 0 < level → (0 < len) × (slice_index ss (slice_index es (len - 1)) ≡ level + 1)

-- the first `len` of the codes are the true literals in order, each once; those before `head` were propagated. Of a literal and
-- its negation at most one is true, so half as many codes as stamps are room enough. There are so few that a stamp, a code and a place take 4 bytes each
pub record IsTrail (ss es : List ℕ) (len head level : ℕ) : Type 0 where
  pub once : (l : ℕ) → times l (take len es) ≡ cond (is_set (slice_index ss l)) 1 0
  pub apart : (l : ℕ) → 0 < slice_index ss l → slice_index ss (neg l) ≡ 0
  pub named : (l : ℕ) → 0 < slice_index ss l → 2 ≤ l
  pub top : (l : ℕ) → slice_index ss l ≤ level + 1
  pub below : (l : ℕ) → 0 < slice_index ss l → slice_index ss l ≤ level → 0 < times l (take head es)
  pub count : count_by is_set ss ≡ len
  pub size : length ss ≤ 2 * length es
  pub few : length ss ≤ 2 ^ 32
  pub even : length ss % 2 ≡ 0
  pub reached : head ≤ len
  pub levels : IsLevelled ss es len level

-- how late the literal became false: the greatest number where it is not false
unfoldable pub rank : List ℕ → ℕ → ℕ
rank ss l = cond (slice_index ss (neg l) == 0) (2 ^ 64 - 1) (slice_index ss (neg l))
