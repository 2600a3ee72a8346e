-- Well-sorted interpretations: each symbol has a value of its sort, or a function of its rank (SMT-LIB 2.6, section 5.3).
use Rattle.std.specs.Prelude.{◌≡◌, ℕ, List, [], ◌∷◌, Option, Some, Contains}
use Rattle.std.specs.List.{AllByRecursion}
use Rattle.smt_words.specs.Words.{IsWord}
use Rattle.smt_terms.specs.declared.sort.Sort.{Sort}
use Rattle.smt_terms.specs.declared.sort.Signature.{Signature}
use Rattle.smt_terms.specs.declared.scalar.Scalar.{Scalar}
use Rattle.smt_terms.specs.declared.node.Node.{Node}
use Rattle.smt_terms.specs.Nodes.{node_at}
use Rattle.smt_terms.specs.Bits.{TermBits, image_in}
use Rattle.smt_terms.specs.Terms.{declaration_of, signature_of}
use Rattle.smt_values.specs.declared.table.Row.{Row}
use Rattle.smt_values.specs.declared.value.Value.{Value}
use Rattle.smt_values.specs.declared.value.Value.TheVariants as held
use Rattle.smt_values.specs.Arrays.{IsArray}
use Rattle.smt_values.specs.Tables.{TableFields, AreRowsRising}
use Rattle.smt_values.specs.Held.{value_of, set_for, IsOfSort}
use Rattle.access_tables.specs.Ready.{IsOwn}

-- ---- values of sorts and signatures

-- a truth value, a word that fits its width, or an array whose words fit theirs and whose indexes rise
abbrev pub IsWellMade : Value → Type 0
IsWellMade (held.Bool b) = Unit {0}
IsWellMade (held.Word w) = IsWord w.width w.value
IsWellMade (held.Array a) = IsArray a
IsWellMade (held.Fun t) = ⊥

-- such a value, of this sort
abbrev pub IsValueOf : Sort → Value → Type 0
IsValueOf q v = IsOfSort q v × IsWellMade v

-- truth values and words of these sorts, one by one
abbrev pub AreValuesOf : List Sort → List Scalar → Type 0
AreValuesOf [] [] = Unit {0}
AreValuesOf [] (x ∷ xs) = ⊥
AreValuesOf (q ∷ qs) [] = ⊥
AreValuesOf (q ∷ qs) (x ∷ xs) = IsValueOf q (value_of x) × AreValuesOf qs xs

-- arguments and a value of the function's sorts
abbrev pub IsRowOf : Signature → Row → Type 0
IsRowOf g r = AreValuesOf g.args r.args × IsValueOf g.value (value_of r.value)

-- a default and rows of the function's sorts; the arguments of the rows rise, so that none stand twice
pub record IsTableOf (g : Signature) (t : TableFields) : Type 0 where
  pub default : IsValueOf g.value (value_of t.default)
  pub rows : AllByRecursion (IsRowOf g) t.rows
  pub rising : AreRowsRising t.rows

abbrev pub IsFunctionOf : Signature → Value → Type 0
IsFunctionOf g (held.Fun t) = IsTableOf g t
IsFunctionOf g _ = ⊥

-- with these arguments: a constant has a value of its sort, a function a table
abbrev pub IsOfArguments : List Sort → Signature → Value → Type 0
IsOfArguments [] g v = IsValueOf g.value v
IsOfArguments (q ∷ qs) g v = IsFunctionOf g v

-- a value that a declaration of this signature may have
abbrev pub IsOfSignature : Signature → Value → Type 0
IsOfSignature g v = IsOfArguments g.args g v

-- ---- interpretations

-- one of these terms, without an image
abbrev pub IsOwnTerm : List TermBits → List ℕ → ℕ → Type 0
IsOwnTerm bits terms t = IsOwn (Contains terms) (image_in bits) t

-- the term is the constant or an application of this declaration
abbrev pub IsTermOf : List Node → ℕ → ℕ → Type 0
IsTermOf nodes t d = declaration_of (node_at nodes t).op ≡ Some d

-- Each declaration that one of these terms without an image names has a value, one that it may have; no other has any.
pub record IsWellSorted (nodes : List Node) (bits : List TermBits) (terms : List ℕ) (values : List (Option Value)) : Type 0 where
  pub valued : (t d : ℕ) → IsOwnTerm bits terms t → IsTermOf nodes t d → (v : Value) × (set_for values d ≡ Some v) × IsOfSignature (signature_of (node_at nodes t).op) v
  pub only : (d : ℕ) (v : Value) → set_for values d ≡ Some v → (t : ℕ) × IsOwnTerm bits terms t × IsTermOf nodes t d
