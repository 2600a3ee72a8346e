-- What a check has that made its watches, gave bits to what is live, and is to be walked over.
use Rattle.std.specs.Prelude.{◌≡◌, ◌<◌, ℕ, true, List, ◌++◌, length, All}
use Rattle.smt_terms.specs.declared.node.Node.{Node}
use Rattle.smt_terms.specs.Terms.{IsTermList, AreDifferent}
use Rattle.array_watches.specs.Needed.{watched}
use Rattle.watch_roots.specs.Roots.{AreLive}
use Rattle.proof_log.specs.Stored.{LogValue, Stands}
use Rattle.session_terms.specs.Placed.{has_bits, IsInOrder}

-- The terms begin with the old ones of a check and its watches; the log stands over them, and what is live has bits in it, as far as
-- the check's own terms and the watches are.
pub record IsEncoded (old nodes : List Node) (log : LogValue) (roots live : List ℕ) : Type 0 where
  pub list : IsTermList nodes
  pub different : AreDifferent nodes
  pub more : List Node
  pub begins : nodes ≡ watched old roots ++ more
  pub held : All (λ t. t < length old) roots
  pub stands : Stands nodes log
  pub order : IsInOrder nodes log.bits
  pub all : AreLive (watched old roots) roots live
  pub bits : All (λ t. has_bits log.bits t ≡ true) live
