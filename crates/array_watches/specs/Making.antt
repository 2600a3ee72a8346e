-- Making terms one after the other, until they are all made or one is refused.
use Rattle.std.specs.Prelude.{◌≡◌, ◌↔◌, ℕ, suc, ◌+◌, ◌<◌, ◌≤◌, List, ◌++◌, length, Contains, Result, Ok, Err, if◌then◌else◌}
use Rattle.std.specs.List.{filter}
use Rattle.smt_terms.specs.declared.sort.Sort.{Sort}
use Rattle.smt_terms.specs.declared.node.Node.{Node}
use Rattle.smt_terms.specs.declared.fault.MakeFault.TheVariants.{TermLimit}
use Rattle.smt_terms.specs.declared.fault.MakeError.{MakeError}
use Rattle.smt_terms.specs.declared.fault.MakeError.TheVariants.{NoMemory, Fault}
use Rattle.smt_terms.specs.Terms.{TermsValue, node_sort}
use Rattle.array_watches.specs.Reaching.{is_among}
use Rattle.array_watches.specs.Needed.{number_in, with_node, has_width, with_words}

abbrev pub value_of : List Node → ℕ → TermsValue
value_of nodes limit = record { nodes = nodes; limit = limit }

-- the same numbers are among both
abbrev pub AreSame : List ℕ → List ℕ → Type 0
AreSame xs ys = (x : ℕ) → Contains xs x ↔ Contains ys x

-- the node has a sort over these terms
abbrev pub IsWellSorted : List Node → Node → Type 0
IsWellSorted nodes n = (s : Sort) × (node_sort nodes n ≡ Ok s)

-- the terms begin with the old ones
pub record Extends (old new : TermsValue) : Type 0 where
  pub more : List Node
  pub nodes : new.nodes ≡ old.nodes ++ more
  pub limit : new.limit ≡ old.limit

-- the words of a width, if it is one of these, as many as there are such indexes and one more
abbrev pub with_width_words : List Node → List ℕ → List ℕ → ℕ → List Node
with_width_words nodes indexes widths n = if is_among widths n then with_words nodes n (suc (length (filter (has_width nodes n) indexes))) else nodes

-- one node was put: it has its number; or it is refused, exactly where it is new and the limit is met
abbrev pub IsPut : TermsValue → Node → Result ℕ MakeError → TermsValue → Type 0
IsPut old n (Ok t) new = (t ≡ number_in old.nodes n) × (new ≡ value_of (with_node old.nodes n) old.limit)
IsPut old n (Err (Fault f)) new = (f ≡ TermLimit) × (old.limit < length (with_node old.nodes n)) × (new ≡ old)
IsPut old n (Err NoMemory) new = new ≡ old

-- These nodes are more than may be held, where the limit is told; then, and for want of memory, some may have been made.
abbrev pub IsRefused : List Node → MakeError → TermsValue → TermsValue → Type 0
IsRefused goal (Fault f) old new = (f ≡ TermLimit) × (old.limit < length goal) × Extends old new
IsRefused goal NoMemory old new = Extends old new

-- The terms are made up to these nodes, or that is refused.
abbrev pub IsMaking : List Node → {X : Type 0} → Result X MakeError → TermsValue → TermsValue → Type 0
IsMaking goal (Ok u) old new = new ≡ value_of goal old.limit
IsMaking goal (Err e) old new = IsRefused goal e old new

-- These nodes are more than may be held, where the limit is told; then, and for want of memory, the terms are as before.
abbrev pub IsUnmade : List Node → MakeError → TermsValue → TermsValue → Type 0
IsUnmade goal (Fault f) old new = (f ≡ TermLimit) × (old.limit < length goal) × (new ≡ old)
IsUnmade goal NoMemory old new = new ≡ old

-- The terms are these nodes, no more than may be held, or they are as before.
abbrev pub IsMade : List Node → {X : Type 0} → Result X MakeError → TermsValue → TermsValue → Type 0
IsMade goal (Ok u) old new = (length goal ≤ old.limit) × (new ≡ value_of goal old.limit)
IsMade goal (Err e) old new = IsUnmade goal e old new

-- How many nodes come to terms, where all of them may be held; where they may not the limit is told.
abbrev pub IsCount : List Node → TermsValue → Result ℕ MakeError → Type 0
IsCount goal old (Ok n) = (length goal ≤ old.limit) × (length goal ≡ n + length old.nodes)
IsCount goal old (Err (Fault f)) = (f ≡ TermLimit) × (old.limit < length goal)
IsCount goal old (Err NoMemory) = Unit {0}
