-- Networks while constant arrays get their accesses.
use Rattle.std.specs.Prelude.{◌≡◌, ℕ, List, Some, Contains}
use Rattle.smt_terms.specs.declared.node.Node.{Node}
use Rattle.smt_terms.specs.Bits.{TermBits}
use Rattle.theory_terms.specs.declared.atom.Landing.{Landing}
use Rattle.theory_terms.specs.declared.lemma.Start.TheVariants.{Const}
use Rattle.theory_terms.specs.Lemmas.{landing_of}
use Rattle.access_tables.specs.Held.{IsAccess}
use Rattle.access_walk.specs.declared.network.Network.{Network}
use Rattle.access_walk.specs.Building.{IsSound}
use Rattle.access_walk.specs.Valued.{IsWordTerm}

-- held words that have bits
abbrev pub AreIndexTerms : List Node → List TermBits → List ℕ → Type 0
AreIndexTerms nodes bits indexes = (j : ℕ) → Contains indexes j → IsWordTerm nodes bits j

-- The network is sound. Its accesses are of arrays among these terms, their indexes among the given ones, and all that they
-- name has bits.
pub record IsFilling (nodes : List Node) (bits : List TermBits) (arrays indexes : List ℕ) (n : Network) : Type 0 where
  pub sound : IsSound nodes arrays n
  pub accesses : (l : Landing) → Contains n.landings.items l → IsAccess nodes bits arrays l
  pub among : (l : Landing) → Contains n.landings.items l → Contains indexes l.index

-- the accesses of the constant array at these indexes are there
abbrev pub HasFillings : List Node → List ℕ → Network → ℕ → Type 0
HasFillings nodes indexes n t = (j : ℕ) (l : Landing) → Contains indexes j → landing_of nodes (Const t j) ≡ Some l → Contains n.landings.items l
