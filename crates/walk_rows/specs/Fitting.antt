-- What is looked at, term by term, before a walk may be called for: terms with bits of their own.
use Rattle.std.specs.Prelude.{◌≡◌, ◌⊎◌, ◌<◌, ℕ, Bool, List, Option, Some, None, Ok, length, All, IsSome}
use Rattle.cnf_base.specs.Literals.{Literal}
use Rattle.smt_terms.specs.declared.sort.Sort.TheVariants as sort
use Rattle.smt_terms.specs.declared.node.Node.{Node}
use Rattle.smt_terms.specs.declared.node.Op.TheVariants.{Word}
use Rattle.smt_terms.specs.Nodes.{node_at, leaf}
use Rattle.smt_terms.specs.Bits.{TermBits, bits_in, image_in, with_bits}
use Rattle.smt_terms.specs.Terms.{TermsValue, sort_of, declaration_of, make}
use Rattle.theory_terms.specs.declared.shape.Shape.TheVariants.{Filling, Equating}
use Rattle.theory_terms.specs.Shapes.{IsPlain, shape_at}
use Rattle.theory_terms.specs.Lemmas.{watch}
use Rattle.bit_blast.specs.Circuits.{literal_bits}
use Rattle.access_tables.specs.Encoded.{AreSatisfied}
use Rattle.access_tables.specs.Held.{HasRow, assigned_value}
use Rattle.access_tables.specs.Ready.{IsFree}
use Rattle.access_walk.specs.Maps.{AreLinked}
use Rattle.access_walk.specs.Walked.{IsHeldWord, HaveWordValues}

-- no term has the bits of another
abbrev pub AreUnlinked : List TermBits → Type 0
AreUnlinked bits = (t : ℕ) → image_in bits t ≡ None

-- no term is of this declaration
abbrev pub IsUnused : List Node → ℕ → Type 0
IsUnused nodes d = (t : ℕ) → t < length nodes → declaration_of (node_at nodes t).op ≡ Some d → ⊥

-- a term gets these bits, if it has none
abbrev pub given : List TermBits → ℕ → List Literal → Option (List Literal) → List TermBits
given bits t row None = with_bits bits t row
given bits t row (Some old) = bits

-- the number is the node's, as terms are made; or there is none, and the terms are as before
abbrev pub Puts : Node → Option ℕ → TermsValue → TermsValue → Type 0
Puts node None old new = new ≡ old
Puts node (Some t) old new = make old node ≡ Ok (t, new)

-- a Bool or a word has as many bits as its sort, and an array has none
pub record IsFitted (nodes : List Node) (bits : List TermBits) (t : ℕ) : Type 0 where
  pub row : IsPlain (sort_of nodes t) → HasRow nodes bits t
  pub alone : (row : List Literal) → bits_in bits t ≡ Some row → IsPlain (sort_of nodes t)

-- an equality of arrays has the selects of its sides at their witness
abbrev pub HasWatch : List Node → ℕ → Type 0
HasWatch nodes t = (a b n m : ℕ) → shape_at nodes t ≡ Equating a b → sort_of nodes a ≡ sort.Array n m → IsSome (watch nodes a b)

-- a constant array has index width 1, both words of which are made and have bits
abbrev pub HasWords : List Node → List TermBits → ℕ → Type 0
HasWords nodes bits t = (x n m : ℕ) → shape_at nodes t ≡ Filling x → sort_of nodes t ≡ sort.Array n m → (n ≡ 1) × IsHeldWord nodes bits 1 0 × IsHeldWord nodes bits 1 1

-- what a walk needs of a term
pub record IsFit (nodes : List Node) (bits : List TermBits) (t : ℕ) : Type 0 where
  pub bits_are : IsFitted nodes bits t
  pub watches : HasWatch nodes t
  pub words : HasWords nodes bits t

-- the terms are held, and so is all that a walk needs of any term
pub record AreFit (nodes : List Node) (bits : List TermBits) (live : List ℕ) : Type 0 where
  pub held : All (λ t. t < length nodes) live
  pub fit : (t : ℕ) → t < length nodes → IsFit nodes bits t

-- a word of width 1, whose bit is that of its number
abbrev pub IsLiteral : List Node → List TermBits → ℕ → Type 0
IsLiteral nodes bits t = (k : ℕ) × (k < 2) × (node_at nodes t ≡ leaf (Word 1 k)) × (bits_in bits t ≡ Some (literal_bits 1 k))

-- a term whose value no circuit gives, or an array, or a word of width 1; and every such word has its bit
pub record IsGiven (nodes : List Node) (bits : List TermBits) (t : ℕ) : Type 0 where
  pub value : IsPlain (sort_of nodes t) → IsFree nodes t ⊎ IsLiteral nodes bits t
  pub words : (n k : ℕ) → node_at nodes t ≡ leaf (Word n k) → IsLiteral nodes bits t

-- words have their numbers as values, terms those of their images, and the clauses of all circuits are true
pub record IsReady (nodes : List Node) (bits : List TermBits) (f : ℕ → Bool) : Type 0 where
  pub words : HaveWordValues nodes bits f
  pub linked : AreLinked (image_in bits) (assigned_value nodes bits f)
  pub satisfied : AreSatisfied nodes bits f (λ t. t < length nodes)
