-- The assertion levels of a session (SMT-LIB 2.6, section 4.1.4, and the commands of section 4.2.2).
use Rattle.std.specs.Prelude.{◌≡◌, ℕ, ◌+◌, ◌-◌, ◌<◌, ◌≤◌, nat_le, if◌then◌else◌, ◌==◌, List, [], ◌∷◌, ◌++◌, length, slice_get, filter, find, All, AllPairs, Option, Some, Result, Ok, Err}
use Rattle.std.specs.List.Sorted.{IsNonDecreasingBy}
use Rattle.std.specs.Option.{option_and_then}
use Rattle.scope_selectors.specs.declared.live.Live.{Live}
use Rattle.scope_selectors.specs.declared.fault.OutOfRange.{OutOfRange}

-- how many levels stand above the first, the live assertions in the order in which they were made, each with how many
-- levels stood then, how many assertions were ever made, and the term of each of these by its number
pub record ScopesValue : Type 0 where
  pub levels : ℕ
  pub live : List Live
  pub made : ℕ
  pub terms : List ℕ

-- so many levels may stand above the first
abbrev pub most_levels : ℕ
most_levels = 1000000

-- numbers rise and stand for assertions that were made, with the terms that these have; levels do not fall and stand
pub record AreScopes (v : ScopesValue) : Type 0 where
  pub numbered : AllPairs (λ (a b : Live). a.assertion < b.assertion) v.live
  pub made : All (λ (a : Live). a.assertion < v.made) v.live
  pub counted : length v.terms ≡ v.made
  pub known : All (λ (a : Live). slice_get v.terms a.assertion ≡ Some a.term) v.live
  pub leveled : IsNonDecreasingBy (λ (a : Live). a.level) v.live
  pub standing : All (λ (a : Live). a.level ≤ v.levels) v.live
  pub within : v.levels ≤ most_levels

abbrev pub no_scopes : ScopesValue
no_scopes = record { levels = 0; live = []; made = 0; terms = [] }

abbrev pub out_of_range : ScopesValue → OutOfRange
out_of_range v = record { held = v.levels }

-- so many levels more, none of them with an assertion
abbrev pub pushed : ScopesValue → ℕ → Result ScopesValue OutOfRange
pushed v n = if nat_le (v.levels + n) most_levels then Ok (record { levels = v.levels + n; live = v.live; made = v.made; terms = v.terms }) else Err (out_of_range v)

-- the assertions that were made while no more levels stood
abbrev pub made_within : ℕ → List Live → List Live
made_within levels = filter (λ a. nat_le a.level levels)

-- so many levels less, and the assertions that were made in them go
abbrev pub popped : ScopesValue → ℕ → Result ScopesValue OutOfRange
popped v n = if nat_le n v.levels then Ok (record { levels = v.levels - n; live = made_within (v.levels - n) v.live; made = v.made; terms = v.terms }) else Err (out_of_range v)

-- one more assertion in the innermost level, with the next number
abbrev pub asserted : ScopesValue → ℕ → Option (List ℕ) → ScopesValue
asserted v term name = record { levels = v.levels; live = v.live ++ record { assertion = v.made; term = term; name = name; level = v.levels } ∷ []; made = v.made + 1; terms = v.terms ++ term ∷ [] }

-- the first level alone and no assertion; the numbers go on
abbrev pub without_assertions : ScopesValue → ScopesValue
without_assertions v = record { levels = 0; live = []; made = v.made; terms = v.terms }

-- the name of a live assertion, if it has one
abbrev pub name_of : ScopesValue → ℕ → Option (List ℕ)
name_of v a = option_and_then (λ (l : Live). l.name) (find (λ l. l.assertion == a) v.live)
