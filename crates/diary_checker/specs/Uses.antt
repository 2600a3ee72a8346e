-- Which hints stand where, and which held clauses say as much as another.
use Rattle.std.specs.Prelude.{◌≡◌, ℕ, ◌<◌, ◌≤◌, ◌↔◌, ◌⊎◌, Bool, true, List, Option, Some, None, Contains, drop, map, slice_index_or}
use Rattle.cnf_base.specs.Literals.{Literal, negated}
use Rattle.cnf_base.specs.Clauses.{no_id}
use Rattle.cnf_base.specs.declared.clause.ClauseId.{ClauseId}
use Rattle.hint_chain.specs.Chains.{Lookup, HasPair}
use Rattle.proof_log.specs.Diaries.{StandsIn, EachIsUsed}
use Rattle.diary_checker.specs.Tables.{Stamps, number_of, IsFiled}

-- A literal's number is one more than the number of the last hint with the literal, and 0 where no hint has it.
abbrev pub AreLasts : Lookup → Stamps → List ClauseId → Type 0
AreLasts look t hints = (l : Literal) (k : ℕ) → (k < number_of t l) ↔ StandsIn look (drop k hints) l

-- a held clause, of which each literal is in the table
pub record Subsumes (look : Lookup) (held : ℕ → Bool) (t : Stamps) (id : ClauseId) : Type 0 where
  pub is_held : held id.pos ≡ true
  pub clause : List Literal
  pub is : look id ≡ Some clause
  pub within : (l : Literal) → Contains clause l → 0 < number_of t l

-- where a clause of literals of this one may be filed
abbrev pub MayBeUnder : List Literal → Option Literal → Type 0
MayBeUnder clause None = Unit {0}
MayBeUnder clause (Some l) = Contains clause l

-- a clause of this name has the literal
abbrev pub HasIn : Lookup → ClauseId → Literal → Type 0
HasIn look id l = (h : List Literal) × (look id ≡ Some h) × Contains h l

-- the literal stands there and got the number, or it does not and its number is as before
abbrev pub IsGiven : Type 0 → ℕ → Stamps → Stamps → Literal → Type 0
IsGiven There number old new l = (There × (number_of new l ≡ number)) ⊎ ((¬ There) × (number_of new l ≡ number_of old l))

-- one hint from number k on, and before number n, has the literal
abbrev pub StandsFrom : Lookup → List ClauseId → ℕ → ℕ → Literal → Type 0
StandsFrom look hints k n l = (i : ℕ) × (k ≤ i) × (i < n) × HasIn look (slice_index_or hints i no_id) l

-- ---- what may be put, in two halves

-- the clause follows from held clauses, of which each literal of the clause and each step has need
pub record IsDerived (look : Lookup) (held : ℕ → Bool) (clause : List Literal) (hints : List ClauseId) : Type 0 where
  pub from_held : (id : ClauseId) → Contains hints id → held id.pos ≡ true
  pub from_hints : (l : Literal) → Contains clause l → StandsIn look hints l
  pub used : EachIsUsed look (map negated clause) hints

-- the clause says something that neither the held clauses nor the given literals say by themselves
pub record IsApart (look : Lookup) (held : ℕ → Bool) (given : List Literal) (clause : List Literal) : Type 0 where
  pub no_pair : HasPair clause → ⊥
  pub is_new : (id : ClauseId) (c : List Literal) → held id.pos ≡ true → look id ≡ Some c → ((l : Literal) → Contains c l → Contains clause l) → ⊥
  pub not_given : (l : Literal) → Contains clause l → Contains given l → ⊥

-- each held clause is filed under one of its literals
abbrev pub AreFiled : Lookup → (ℕ → Bool) → List (List ClauseId) → Type 0
AreFiled look held lists = (id : ClauseId) (c : List Literal) → held id.pos ≡ true → look id ≡ Some c → IsFiled lists id c
