-- When the values of declared constants are those of their bits.
use Rattle.std.specs.Prelude.{◌≡◌, ℕ, Bool, List, Some, None, IsSome, Contains}
use Rattle.std.specs.BTreeMap.{BTreeMap, get}
use Rattle.std.specs.Ordering.{nat_cmp}
use Rattle.cnf_base.specs.Literals.{Literal}
use Rattle.smt_terms.specs.declared.node.Node.{Node}
use Rattle.smt_terms.specs.Nodes.{node_at}
use Rattle.smt_terms.specs.Terms.{sort_of}
use Rattle.smt_terms.specs.Bits.{bits_in}
use Rattle.smt_terms.specs.Values.{Interpretation, value}
use Rattle.smt_values.specs.declared.value.Value.{Value}
use Rattle.smt_values.specs.Held.{constant_of, function_of}
use Rattle.bit_blast.specs.Meanings.{AreBitsOf}
use Rattle.proof_log.specs.declared.entry.Entry.{Entry}
use Rattle.proof_log.specs.declared.entry.Entry.TheVariants as step
use Rattle.proof_log.specs.Logs.{constant_width, entry_at}
use Rattle.proof_log.specs.Stored.{LogValue}
use Rattle.reached_steps.specs.Opening.{AreOpeningSteps}

-- the interpretation in which the map's values are set for declarations
abbrev pub interpretation_of : BTreeMap ℕ Value → Interpretation
interpretation_of set = record { constants = λ d. constant_of (get nat_cmp set d); functions = λ d. function_of (get nat_cmp set d) }

-- the step at the position gave bits to a leaf that is no declared Bool or word
abbrev pub IsOtherLeaf : List Node → List Entry → ℕ → Type 0
IsOtherLeaf nodes log p = (t : ℕ) × (entry_at log p ≡ Some (step.Leaf t)) × (constant_width (node_at nodes t).op ≡ None)

-- so it is at one of these positions
abbrev pub HasOtherLeaf : List Node → List Entry → List ℕ → Type 0
HasOtherLeaf nodes log positions = (p : ℕ) × Contains positions p × IsOtherLeaf nodes log p

-- under the assignment the bits of the term, where it has some, are those of its value
abbrev pub HasItsBits : Interpretation → List Node → LogValue → (ℕ → Bool) → ℕ → Type 0
HasItsBits M nodes log v t = (row : List Literal) → bits_in log.bits t ≡ Some row → AreBitsOf v (sort_of nodes t) row (value M nodes t)

-- so it is of all terms for which a search over these positions is enough
abbrev pub HaveTheirBits : Interpretation → List Node → LogValue → (ℕ → Bool) → List ℕ → Type 0
HaveTheirBits M nodes log v positions = (reached : List ℕ) (t : ℕ) → AreOpeningSteps nodes log.entries reached positions → Contains reached t → HasItsBits M nodes log v t

-- where the step at the position gave bits to a leaf, this is a declared Bool or word, and they are those of its value
abbrev pub IsReadLeaf : Interpretation → List Node → LogValue → (ℕ → Bool) → ℕ → Type 0
IsReadLeaf M nodes log v p = (t : ℕ) → entry_at log.entries p ≡ Some (step.Leaf t) → IsSome (constant_width (node_at nodes t).op) × HasItsBits M nodes log v t

-- what is so in the one interpretation is so in the other
abbrev pub KeepsRead : List Node → LogValue → (ℕ → Bool) → Interpretation → Interpretation → Type 0
KeepsRead nodes log v old new = (p : ℕ) → IsReadLeaf old nodes log v p → IsReadLeaf new nodes log v p
