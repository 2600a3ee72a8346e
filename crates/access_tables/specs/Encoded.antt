-- Terms with bits, and assignments of the variables that make the clauses of their circuits true.
use Rattle.std.specs.Prelude.{◌≡◌, ◌⊎◌, ℕ, ◌<◌, Bool, true, List, Some, length}
use Rattle.cnf_base.specs.Literals.{Literal}
use Rattle.cnf_base.specs.Clauses.{all_true}
use Rattle.cnf_base.specs.Gates.{gates_clauses}
use Rattle.smt_terms.specs.declared.node.Node.{Node}
use Rattle.smt_terms.specs.Nodes.{node_at}
use Rattle.smt_terms.specs.Bits.{TermBits, bits_in, image_in}
use Rattle.smt_terms.specs.Terms.{sort_of}
use Rattle.theory_terms.specs.Shapes.{IsPlain}
use Rattle.term_reach.specs.Reach.{IsAcyclic}
use Rattle.bit_blast.specs.Blocks.{Block, block_of}
use Rattle.access_tables.specs.Leading.{leads}
use Rattle.access_tables.specs.Held.{HasRow}
use Rattle.access_tables.specs.Ready.{IsOwn, AreImages, AreKept, IsFree}

-- Each Bool and each word among these terms has as many bits as its sort, and no array has bits. No way through arguments,
-- images and witness selects leads back.
pub record HaveBits (nodes : List Node) (bits : List TermBits) (Here : ℕ → Type 0) : Type 0 where
  pub held : (t : ℕ) → Here t → t < length nodes
  pub acyclic : IsAcyclic (leads nodes (image_in bits))
  pub images : AreImages nodes (image_in bits)
  pub rows : (t : ℕ) → Here t → IsPlain (sort_of nodes t) → HasRow nodes bits t
  pub alone : (t : ℕ) (row : List Literal) → bits_in bits t ≡ Some row → IsPlain (sort_of nodes t)

-- the bits of the term are those of a block of its operator over the bits of its arguments, and the block's clauses are true
pub record IsSatisfied (nodes : List Node) (bits : List TermBits) (f : ℕ → Bool) (t : ℕ) : Type 0 where
  pub first : ℕ
  pub block : Block
  pub is : block_of first (bits_in bits) (node_at nodes t) ≡ Some block
  pub own : bits_in bits t ≡ Some block.bits
  pub clauses : all_true f (gates_clauses first block.gates) ≡ true

-- The assignment makes variable 1 true and the clauses of the circuits of these terms, where no circuit has declared constants,
-- elements of arrays, equalities of arrays, witnesses and applications. A term with an image has its bits, and its value
-- whatever words witnesses are.
pub record AreSatisfied (nodes : List Node) (bits : List TermBits) (f : ℕ → Bool) (Here : ℕ → Type 0) : Type 0 where
  pub first : f 1 ≡ true
  pub kept : AreKept nodes (image_in bits)
  pub linked : (t u : ℕ) → Here t → image_in bits t ≡ Some u → bits_in bits t ≡ bits_in bits u
  pub each : (t : ℕ) → IsOwn Here (image_in bits) t → IsPlain (sort_of nodes t) → IsFree nodes t ⊎ IsSatisfied nodes bits f t
