-- What the calls of a board promise.
use Rattle.std.specs.Prelude.{◌≡◌, ◌⊎◌, ℕ, suc, true, List, [], ◌∷◌, ◌++◌, length, Option, Some, None}
use Rattle.std.specs.List.{AllByRecursion}
use Rattle.cnf_base.specs.Literals.{Literal}
use Rattle.cnf_base.specs.declared.clause.ClauseId.{ClauseId}
use Rattle.smt_terms.specs.declared.node.Node.{Node}
use Rattle.smt_terms.specs.Terms.{TermsValue}
use Rattle.smt_terms.specs.Bits.{TermBits, bits_in, image_in}
use Rattle.proof_log.specs.declared.board.Sync.{Sync}
use Rattle.proof_log.specs.declared.entry.Entry.{Entry}
use Rattle.proof_log.specs.declared.entry.Role.TheVariants as role
use Rattle.proof_log.specs.Roles.{role_of}
use Rattle.proof_log.specs.Diaries.{is_chain}
use Rattle.proof_log.specs.Logs.{clause_at, entry_at, state_of, IsLog}
use Rattle.proof_log.specs.Stored.{LogValue}

-- a step that a search adds: a chain
abbrev pub IsOfSearch : Entry → Type 0
IsOfSearch e = is_chain (Some e) ≡ true

-- a step that makes no term, gives no term bits, and no assertion a selector
abbrev pub IsAdded : Entry → Type 0
IsAdded e = role_of e ≡ role.Search

-- the new log is the old one, then steps of searches
pub record Grows (old new : List Entry) : Type 0 where
  pub more : List Entry
  pub is : new ≡ old ++ more
  pub of_search : AllByRecursion IsOfSearch more

-- what every call keeps: the terms, what stands, and what is known
pub record IsLater (terms terms' : List Node) (log log' : List Entry) (known known' : ℕ → Type 0) : Type 0 where
  pub nodes : terms' ≡ terms
  pub grows : Grows log log'
  pub knows : (p : ℕ) → known p → known' p
  pub stands : IsLog terms' log'

-- the step stands at this position, the last that was seen: of others may stand before it that were not seen yet
pub record IsPutAt (old : List Entry) (entry : Entry) (at : ℕ) (new : List Entry) : Type 0 where
  pub between : List Entry
  pub is : new ≡ (old ++ between) ++ entry ∷ []
  pub place : at ≡ suc (length (old ++ between))

-- a put makes known what it put, and nothing else
abbrev pub KnowsOneMore : (ℕ → Type 0) → ℕ → (ℕ → Type 0) → Type 0
KnowsOneMore known at known' = known' at × ((p : ℕ) → known' p → known p ⊎ (p ≡ at))

-- a clause that is shown is the one of this name; where none is, the position is not known or has none
abbrev pub IsClauseOf : List Node → List Entry → (ℕ → Type 0) → ClauseId → Option (List Literal) → Type 0
IsClauseOf nodes log knows id None = knows id.pos → clause_at (state_of nodes log).clauses id ≡ None
IsClauseOf nodes log knows id (Some c) = clause_at (state_of nodes log).clauses id ≡ Some c

-- a step that is shown is the one at this position; where none is, the position is not known or has none
abbrev pub IsEntryOf : List Entry → (ℕ → Type 0) → ℕ → Option Entry → Type 0
IsEntryOf log knows at None = knows at → entry_at log at ≡ None
IsEntryOf log knows at (Some e) = entry_at log at ≡ Some e

-- the bits of each term
abbrev pub AreBitsIn : List Node → List Entry → List TermBits → Type 0
AreBitsIn nodes log bits = (t : ℕ) → bits_in bits t ≡ (state_of nodes log).bits t

-- the image of each term that has one
abbrev pub AreImagesIn : List Node → List Entry → List TermBits → Type 0
AreImagesIn nodes log bits = (t : ℕ) → image_in bits t ≡ (state_of nodes log).images t

-- a log alone, over its terms, and what was told of it last
pub record LogBoardValue : Type 0 where
  pub terms : TermsValue
  pub log : LogValue
  pub told : Sync
