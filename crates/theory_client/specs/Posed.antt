-- What is asked of a search with lemmas over a log.
use Rattle.std.specs.Prelude.{◌≡◌, ◌<◌, ℕ, suc, false, List, None, length, Contains, IsSome}
use Rattle.cnf_base.specs.Literals.{Literal}
use Rattle.cnf_base.specs.Assignments.{AreBelow}
use Rattle.smt_terms.specs.declared.node.Node.{Node}
use Rattle.smt_terms.specs.Bits.{bits_in, image_in}
use Rattle.proof_log.specs.declared.entry.Entry.{Entry}
use Rattle.proof_log.specs.Logs.{entry_at, state_of}
use Rattle.proof_log.specs.Places.{GivesBits}
use Rattle.proof_log.specs.Stored.{LogValue}
use Rattle.proof_log.specs.Diaries.{is_chain}
use Rattle.theory_search.specs.Theories.{IsWalkableLog, AreEnough}

-- these are the positions below a number, and none is a chain's
pub record AreAllBelow (log : List Entry) (positions : List ℕ) (bound : ℕ) : Type 0 where
  pub below : (p : ℕ) → Contains positions p → p < bound
  pub plain : (p : ℕ) → Contains positions p → is_chain (entry_at log p) ≡ false
  pub all : (p : ℕ) → p < bound → Contains positions p

-- these are the positions of the log, and none is a chain's
abbrev pub AreAll : List Entry → List ℕ → Type 0
AreAll log positions = AreAllBelow log positions (suc (length log))

-- the term has no bits, or its own, by a step of the log
pub record IsPlaced (log : LogValue) (t : ℕ) : Type 0 where
  pub own : image_in log.bits t ≡ None
  pub step : IsSome (bits_in log.bits t) → (p : ℕ) × GivesBits log.entries t p

-- A search over all positions of the log may look at its models from these terms, under these literals.
pub record IsPosed (nodes : List Node) (log : List Entry) (roots positions : List ℕ) (given : List Literal) : Type 0 where
  pub positions_are : AreAll log positions
  pub walkable : IsWalkableLog nodes log roots
  pub enough : AreEnough nodes log roots positions
  pub below : AreBelow (state_of nodes log).next given
