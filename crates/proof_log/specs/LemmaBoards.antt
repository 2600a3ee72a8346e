-- What the calls of a board promise that takes equalities and lemmas too.
use Rattle.std.specs.Prelude.{◌≡◌, ℕ, List, ◌++◌, Some, IsSome}
use Rattle.std.specs.List.{AllByRecursion}
use Rattle.cnf_base.specs.Literals.{Literal}
use Rattle.smt_terms.specs.declared.node.Node.{Node}
use Rattle.proof_log.specs.declared.entry.Entry.{Entry}
use Rattle.proof_log.specs.declared.entry.Entry.TheVariants as step
use Rattle.proof_log.specs.Logs.{entry_at, state_of, IsLog}
use Rattle.proof_log.specs.Stored.{EqualRows, equal_in, pair_place}
use Rattle.proof_log.specs.Boards.{IsAdded}

-- the new log is the old one, then steps that make no term, give no term bits, and no assertion a selector
pub record Adds (old new : List Entry) : Type 0 where
  pub more : List Entry
  pub is : new ≡ old ++ more
  pub added : AllByRecursion IsAdded more

-- what every call keeps: the terms, what stands, and what is known
pub record IsLaterByMore (terms terms' : List Node) (log log' : List Entry) (known known' : ℕ → Type 0) : Type 0 where
  pub nodes : terms' ≡ terms
  pub adds : Adds log log'
  pub knows : (p : ℕ) → known p → known' p
  pub stands : IsLog terms' log'

-- The equalities that are shown are of the log, each with its literal and the position of its step; that of each step whose
-- position is known is among them.
pub record AreEqualsIn (nodes : List Node) (log : List Entry) (knows : ℕ → Type 0) (equals : EqualRows) : Type 0 where
  pub literals : (t u : ℕ) (l : Literal) → equal_in equals t u ≡ Some l → (state_of nodes log).equals t u ≡ Some l
  pub places : (t u p : ℕ) → pair_place equals t u ≡ Some p → entry_at log p ≡ Some (step.Equal t u)
  pub known : (t u p : ℕ) → knows p → entry_at log p ≡ Some (step.Equal t u) → IsSome (equal_in equals t u)
