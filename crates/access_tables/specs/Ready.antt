-- What an assignment says of terms with bits, before arrays and functions are looked at.
use Rattle.std.specs.Prelude.{◌≡◌, ◌⊎◌, ℕ, ◌<◌, true, false, List, Option, Some, None, length, map}
use Rattle.std.specs.List.{AllByRecursion}
use Rattle.smt_terms.specs.declared.sort.Sort.{Sort}
use Rattle.smt_terms.specs.declared.node.Node.{Node}
use Rattle.smt_terms.specs.Nodes.{node_at}
use Rattle.smt_terms.specs.Ranks.{is_array}
use Rattle.smt_terms.specs.Terms.{sort_of}
use Rattle.smt_terms.specs.Values.{Value, HasSort, Interpretation, op_value}
use Rattle.smt_terms.specs.Evaluations.{is_witness, IsEvaluation}
use Rattle.theory_terms.specs.declared.shape.Shape.{Shape}
use Rattle.theory_terms.specs.declared.shape.Shape.TheVariants.{Selecting, Storing, Filling, Choosing, Equating, Witnessing, Applying, Declaring, Other}
use Rattle.theory_terms.specs.Shapes.{IsPlain, shape_at}
use Rattle.term_reach.specs.Reach.{IsAcyclic, IsClosed}
use Rattle.access_tables.specs.Leading.{leads}

-- a term that is there without an image
abbrev pub IsOwn : (ℕ → Type 0) → (ℕ → Option ℕ) → ℕ → Type 0
IsOwn Here image t = Here t × (image t ≡ None)

-- images are of Bools and words, and of their sort
pub record AreImages (nodes : List Node) (image : ℕ → Option ℕ) : Type 0 where
  pub plain : (t u : ℕ) → image t ≡ Some u → IsPlain (sort_of nodes t)
  pub sort : (t u : ℕ) → image t ≡ Some u → sort_of nodes u ≡ sort_of nodes t

-- each image has its term's value, whatever words witnesses are
abbrev pub AreKept : List Node → (ℕ → Option ℕ) → Type 0
AreKept nodes image = (M : Interpretation) (v : ℕ → Value) → IsEvaluation M nodes v → (t u : ℕ) → image t ≡ Some u → v t ≡ v u

-- a term whose value no circuit gives
abbrev pub IsFreeShape : (ℕ → Sort) → Shape → Type 0
IsFreeShape s (Selecting a i) = Unit {0}
IsFreeShape s (Storing b j x) = ⊥
IsFreeShape s (Filling x) = ⊥
IsFreeShape s (Choosing c a b) = ⊥
IsFreeShape s (Equating a b) = is_array (s a) ≡ true
IsFreeShape s (Witnessing a b) = Unit {0}
IsFreeShape s (Applying d) = Unit {0}
IsFreeShape s (Declaring d q) = Unit {0}
IsFreeShape s Other = ⊥

-- an element of an array, an equality of arrays, a witness, an application, a declared constant
abbrev pub IsFree : List Node → ℕ → Type 0
IsFree nodes t = IsFreeShape (sort_of nodes) (shape_at nodes t)

-- a term over Bools and words whose value is that of its operator for the values of its arguments
pub record IsComputed (nodes : List Node) (val : ℕ → Value) (t : ℕ) : Type 0 where
  pub plain : AllByRecursion IsPlain (map (sort_of nodes) (node_at nodes t).args)
  pub operator : is_witness (node_at nodes t).op ≡ false
  pub is : (M : Interpretation) → val t ≡ op_value M (node_at nodes t).op (map val (node_at nodes t).args)

-- Terms that are closed under all to which they lead, and a value for each Bool and each word among them: that of its image,
-- or any value of its sort where no circuit gives it, or the value of its operator.
pub record IsReady (nodes : List Node) (image : ℕ → Option ℕ) (Here : ℕ → Type 0) (val : ℕ → Value) : Type 0 where
  pub held : (t : ℕ) → Here t → t < length nodes
  pub closed : IsClosed (leads nodes image) Here
  pub acyclic : IsAcyclic (leads nodes image)
  pub images : AreImages nodes image
  pub kept : AreKept nodes image
  pub sorted : (t : ℕ) → Here t → IsPlain (sort_of nodes t) → HasSort (sort_of nodes t) (val t)
  pub linked : (t u : ℕ) → Here t → image t ≡ Some u → val t ≡ val u
  pub each : (t : ℕ) → IsOwn Here image t → IsPlain (sort_of nodes t) → IsFree nodes t ⊎ IsComputed nodes val t
