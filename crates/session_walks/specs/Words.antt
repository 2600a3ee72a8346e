-- The bits of index words.
use Rattle.std.specs.Prelude.{ℕ, List}
use Rattle.smt_terms.specs.declared.node.Node.{Node}
use Rattle.smt_terms.specs.Bits.{TermBits}
use Rattle.access_tables.specs.Held.{HasRow}
use Rattle.array_images.specs.Walking.{IsMadeWord}

-- each index word that the check made has bits
abbrev pub HaveWordBits : List Node → List Node → List TermBits → List ℕ → Type 0
HaveWordBits old nodes bits roots = (n k w : ℕ) → IsMadeWord old nodes roots n k w → HasRow nodes bits w
