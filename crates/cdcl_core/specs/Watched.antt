-- What is true of the watches. List 0 has the places that are still to be visited, list 1 one place of each free slot, and
-- list 1 + l the places that watch the literal of code l.
use Rattle.std.specs.Prelude.{ℕ, ◌≡◌, ◌≢◌, ◌+◌, ◌*◌, ◌/◌, ◌%◌, ◌<◌, ◌≤◌, ◌⊎◌, Bool, true, false, List, [], length, take, slice_index, slice_index_or}
use Rattle.cdcl_core.specs.declared.watches.Kind.{Kind}
use Rattle.cdcl_core.specs.declared.watches.Kind.TheVariants.{Free, Fixed, Watched, Parked}
use Rattle.cdcl_core.specs.Chains.{times}
use Rattle.cdcl_core.specs.Stamps.{neg, Has}

abbrev pub kind_at : List Kind → ℕ → Kind
kind_at ks s = slice_index_or ks s Free

-- whether a slot of this kind has a clause that is held
abbrev pub is_held : Kind → Bool
is_held Free = false
is_held Fixed = true
is_held Watched = true
is_held Parked = false

abbrev pub IsHeld : Kind → Type 0
IsHeld k = is_held k ≡ true

-- the literal b was true when a became false, or at the same level
abbrev pub Kept : List ℕ → ℕ → ℕ → Type 0
Kept ss a b = (0 < slice_index ss b) × (slice_index ss b ≤ slice_index ss (neg a))

-- a place of a clause that is watched
pub record IsWatching (ks : List Kind) (k : ℕ) : Type 0 where
  pub low : 2 ≤ k
  pub high : k < 2 * length ks
  pub kind : kind_at ks (k / 2) ≡ Watched

-- a place that stands in list i
pub record IsPlace (ws : List ℕ) (ks : List Kind) (p i k : ℕ) : Type 0 where
  pub low : 2 ≤ k
  pub high : k < 2 * length ks
  pub visited : i ≡ 0 → slice_index ws k ≡ p
  pub listed : 0 < i → slice_index ws k + 1 ≡ i
  pub watched : i ≢ 1 → kind_at ks (k / 2) ≡ Watched
  pub free : i ≡ 1 → kind_at ks (k / 2) ≡ Free
  pub first : i ≡ 1 → k % 2 ≡ 0

-- p is the literal that is being visited, and stop is not 0 once a false clause was found
pub record IsWatched (links : List (List ℕ)) (ws : List ℕ) (ks : List Kind) (cs : List (List ℕ)) (ss es : List ℕ) (head p stop : ℕ) : Type 0 where
  pub lists : length ss + 2 ≤ length links
  pub slots : 2 * length ks ≤ length ws
  pub clauses : length ks ≤ length cs
  pub known : (k : ℕ) → IsWatching ks k → (0 < times k (slice_index_or links (slice_index ws k + 1) [])) ⊎ (0 < times k (slice_index_or links 0 []))
  pub sound : (i k : ℕ) → 0 < times k (slice_index_or links i []) → IsPlace ws ks p i k
  pub inside : (k : ℕ) → IsWatching ks k → Has (slice_index_or cs (k / 2) []) (slice_index ws k)
  pub differ : (k : ℕ) → IsWatching ks k → slice_index ws k ≢ slice_index ws (neg k)
  pub named : (s l : ℕ) → Has (slice_index_or cs s []) l → 2 ≤ l
  pub within : (s l : ℕ) → Has (slice_index_or cs s []) l → l < length ss
  pub kept : (k : ℕ) → IsWatching ks k → slice_index ws k ≢ p → 0 < times (neg (slice_index ws k)) (take head es) → Kept ss (slice_index ws k) (slice_index ws (neg k))
  pub here : (k : ℕ) → IsWatching ks k → slice_index ws k ≡ p → stop ≡ 0 → times k (slice_index_or links 0 []) ≡ 0 → Kept ss (slice_index ws k) (slice_index ws (neg k))
