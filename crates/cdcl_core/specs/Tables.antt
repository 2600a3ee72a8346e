-- The tables behind linked places.
use Rattle.std.specs.Prelude.{ℕ, ◌≤◌, ◌*◌, ◌^◌, List, map, length}
use Rattle.cdcl_core.specs.declared.lists.Place.{Place}
use Rattle.cdcl_core.specs.Lists.{Lists}
use Rattle.cdcl_core.specs.Chains.{lists_of, IsLinked}

abbrev pub nexts : List Place → List ℕ
nexts ps = map (λ p. p.next) ps

abbrev pub literals : List Place → List ℕ
literals ps = map (λ p. p.literal) ps

abbrev pub shown : List Place → List ℕ → Lists
shown ps rs = record { lists = lists_of (nexts ps) rs; literals = literals ps }

abbrev pub IsWell : List Place → List ℕ → Type 0
IsWell ps rs = IsLinked (nexts ps) rs

-- the numbers of places and of lists take 4 bytes
pub record AreFew (ps : List Place) (rs : List ℕ) : Type 0 where
  pub places : length ps ≤ 2 ^ 32
  pub lists : length rs ≤ 2 ^ 32

-- each clause, with two places, has a start of its scan
abbrev pub HaveStarts : List Place → List ℕ → Type 0
HaveStarts ps starts = length ps ≤ 2 * length starts
