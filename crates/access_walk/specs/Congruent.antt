-- Applications, and those that have different values though they are of one declaration to arguments of equal values.
use Rattle.std.specs.Prelude.{◌≡◌, ◌⊎◌, ◌<◌, ℕ, Bool, true, if◌then◌else◌, List, ◌∷◌, length, map, None, Contains}
use Rattle.std.specs.List.{AllByRecursion}
use Rattle.smt_terms.specs.declared.node.Node.{Node}
use Rattle.smt_terms.specs.Bits.{TermBits, image_in}
use Rattle.smt_terms.specs.Nodes.{node_at}
use Rattle.smt_terms.specs.Ranks.{is_plain}
use Rattle.smt_terms.specs.Terms.{sort_of}
use Rattle.smt_terms.specs.Values.{Value, VBool, VWord, VArray}
use Rattle.theory_terms.specs.declared.lemma.Lemma.{Lemma}
use Rattle.theory_terms.specs.declared.lemma.Lemma.TheVariants.{Congruence}
use Rattle.theory_terms.specs.declared.shape.Shape.TheVariants.{Applying}
use Rattle.theory_terms.specs.Shapes.{shape_at}
use Rattle.access_tables.specs.Held.{HasRow, assigned_value}
use Rattle.access_tables.specs.Ready.{IsOwn}
use Rattle.access_walk.specs.declared.congruence.Application.{Application}
use Rattle.access_walk.specs.Walked.{IsFalseLemma}

-- ---- applications

-- a held Bool or word that has bits
abbrev pub IsScalarTerm : List Node → List TermBits → ℕ → Type 0
IsScalarTerm nodes bits t = (t < length nodes) × (is_plain (sort_of nodes t) ≡ true) × HasRow nodes bits t

-- an application among these terms; its value and its arguments are Bools and words that have bits
pub record IsApplied (nodes : List Node) (bits : List TermBits) (Here : ℕ → Type 0) (a : Application) : Type 0 where
  pub own : IsOwn Here (image_in bits) a.term
  pub shape : shape_at nodes a.term ≡ Applying a.declaration
  pub held : IsScalarTerm nodes bits a.term
  pub args : AllByRecursion (IsScalarTerm nodes bits) (node_at nodes a.term).args

-- the term is no application, or has an image
abbrev pub IsNoApplication : List Node → List TermBits → ℕ → Type 0
IsNoApplication nodes bits t = (d : ℕ) → image_in bits t ≡ None → shape_at nodes t ≡ Applying d → ⊥

-- exactly the applications among these terms
pub record AreApplications (nodes : List Node) (bits : List TermBits) (Here : ℕ → Type 0) (found : List Application) : Type 0 where
  pub each : (a : Application) → Contains found a → IsApplied nodes bits Here a
  pub all : (t d : ℕ) → IsOwn Here (image_in bits) t → shape_at nodes t ≡ Applying d → Contains found (record { term = t; declaration = d })

-- ---- keys

-- the number of a word; of a truth value 0 or 1
abbrev pub code_of : Value → ℕ
code_of (VBool b) = if b then 1 else 0
code_of (VWord n x) = x
code_of (VArray n m a) = 0

-- the declaration of an application, and the numbers of its arguments
abbrev pub key_of : List Node → (ℕ → Value) → Application → List ℕ
key_of nodes val a = a.declaration ∷ map (λ t. code_of (val t)) (node_at nodes a.term).args

-- ---- conflicts

-- two applications among these terms, of one declaration to arguments of equal values
pub record AreAlike (nodes : List Node) (bits : List TermBits) (Here : ℕ → Type 0) (val : ℕ → Value) (t u : ℕ) : Type 0 where
  pub declaration : ℕ
  pub left : IsOwn Here (image_in bits) t
  pub right : IsOwn Here (image_in bits) u
  pub left_shape : shape_at nodes t ≡ Applying declaration
  pub right_shape : shape_at nodes u ≡ Applying declaration
  pub args : map val (node_at nodes t).args ≡ map val (node_at nodes u).args

-- the lemma says of two such applications that they are equal, and is false: they have different values
pub record IsCongruenceConflict (nodes : List Node) (bits : List TermBits) (f : ℕ → Bool) (Here : ℕ → Type 0) (lemma : Lemma) : Type 0 where
  pub left : ℕ
  pub right : ℕ
  pub is : lemma ≡ Congruence left right
  pub alike : AreAlike nodes bits Here (assigned_value nodes bits f) left right
  pub differ : assigned_value nodes bits f left ≡ assigned_value nodes bits f right → ⊥
  pub falses : IsFalseLemma nodes bits f lemma

-- some of the lemmas is of applications that are like this one
abbrev pub HasConflict : List Node → List TermBits → (ℕ → Bool) → (ℕ → Type 0) → List Lemma → ℕ → Type 0
HasConflict nodes bits f Here lemmas t =
    (v : ℕ) × (w : ℕ) × Contains lemmas (Congruence v w) × AreAlike nodes bits Here (assigned_value nodes bits f) t v

-- Each lemma is such a conflict. Two such applications have one value, or some lemma is of applications that are like them.
pub record AreCongruenceConflicts (nodes : List Node) (bits : List TermBits) (f : ℕ → Bool) (Here : ℕ → Type 0) (lemmas : List Lemma) : Type 0 where
  pub each : (l : Lemma) → Contains lemmas l → IsCongruenceConflict nodes bits f Here l
  pub all : (t u : ℕ) → AreAlike nodes bits Here (assigned_value nodes bits f) t u
      → (assigned_value nodes bits f t ≡ assigned_value nodes bits f u) ⊎ HasConflict nodes bits f Here lemmas t
