-- Lists of terms, their sorts, and the number that a node gets.
use Rattle.std.specs.Prelude.{◌≡◌, ℕ, ◌<◌, ◌≤◌, ◌^◌, nat_lt, if◌then◌else◌, List, [], ◌∷◌, ◌++◌, length, map, position, slice_get, take, Option, Some, None, Result, Ok, Err}
use Rattle.std.specs.List.{AllByRecursion}
use Rattle.smt_terms.specs.declared.sort.Sort.{Sort}
use Rattle.smt_terms.specs.declared.sort.Sort.TheVariants as sort
use Rattle.smt_terms.specs.declared.sort.Signature.{Signature}
use Rattle.smt_terms.specs.declared.node.Op.{Op}
use Rattle.smt_terms.specs.declared.node.Op.TheVariants.{Plain, Word, Extract, ZeroExtend, SignExtend, RotateLeft, RotateRight, Repeat, ConstantArray, Constant, Apply, Param}
use Rattle.smt_terms.specs.declared.node.Node.{Node}
use Rattle.smt_terms.specs.declared.fault.MakeFault.{MakeFault}
use Rattle.smt_terms.specs.declared.fault.MakeFault.TheVariants.{TermLimit}
use Rattle.smt_terms.specs.declared.fault.MakeError.{MakeError}
use Rattle.smt_terms.specs.declared.fault.MakeError.TheVariants.{NoMemory, Fault}
use Rattle.smt_terms.specs.Same.{same_node}
use Rattle.smt_terms.specs.Nodes.{node_at, at_term}
use Rattle.smt_terms.specs.Ranks.{ranked, rank_of, and_then}

-- ---- sorts of terms

abbrev pub or_bool : Result Sort MakeFault → Sort
or_bool (Ok s) = s
or_bool (Err e) = sort.Bool

-- the sort that an operator gives for arguments of these sorts, or the first fault
abbrev pub op_rank : Op → List Sort → Result Sort MakeFault
op_rank op ss = ranked (rank_of op) 0 (map Some ss)

abbrev pub op_sort : Op → List Sort → Sort
op_sort op ss = or_bool (op_rank op ss)

-- the sort of a term
abbrev pub sort_of : List Node → ℕ → Sort
sort_of nodes t = at_term sort.Bool (λ u. op_sort) nodes t

-- the sort of a term, if it is held
abbrev pub held_sort : List Node → ℕ → Option Sort
held_sort nodes t = if nat_lt t (length nodes) then Some (sort_of nodes t) else None

-- the sort of a node over these terms, or its first fault
abbrev pub node_sort : List Node → Node → Result Sort MakeFault
node_sort nodes n = ranked (rank_of n.op) 0 (map (held_sort nodes) n.args)

-- the widths in a sort are 1 to 128
abbrev pub IsSort : Sort → Type 0
IsSort sort.Bool = Unit {0}
IsSort (sort.Word n) = (1 ≤ n) × (n ≤ 128)
IsSort (sort.Array n m) = (1 ≤ n) × (n ≤ 128) × (1 ≤ m) × (m ≤ 128)

-- ---- lists of terms

-- a term's arguments come before it, and its operator takes their sorts
pub record IsTerm (nodes : List Node) (t : ℕ) : Type 0 where
  pub earlier : AllByRecursion (λ a. a < t) (node_at nodes t).args
  pub rank : op_rank (node_at nodes t).op (map (sort_of nodes) (node_at nodes t).args) ≡ Ok (sort_of nodes t)

abbrev pub IsTermList : List Node → Type 0
IsTermList nodes = (t : ℕ) → t < length nodes → IsTerm nodes t

abbrev pub AreDifferent : List Node → Type 0
AreDifferent nodes = (t u : ℕ) → t < length nodes → u < length nodes → node_at nodes t ≡ node_at nodes u → t ≡ u

-- the declaration that an operator names
abbrev pub declaration_of : Op → Option ℕ
declaration_of (Plain o) = None
declaration_of (Word n x) = None
declaration_of (Extract i j) = None
declaration_of (ZeroExtend i) = None
declaration_of (SignExtend i) = None
declaration_of (RotateLeft i) = None
declaration_of (RotateRight i) = None
declaration_of (Repeat i) = None
declaration_of (ConstantArray k) = None
declaration_of (Constant d s) = Some d
declaration_of (Apply d s) = Some d
declaration_of (Param k s) = None

abbrev pub constant_signature : Sort → Signature
constant_signature s = record { args = []; value = s }

-- the signature of the declaration that an operator names
abbrev pub signature_of : Op → Signature
signature_of (Plain o) = constant_signature sort.Bool
signature_of (Word n x) = constant_signature sort.Bool
signature_of (Extract i j) = constant_signature sort.Bool
signature_of (ZeroExtend i) = constant_signature sort.Bool
signature_of (SignExtend i) = constant_signature sort.Bool
signature_of (RotateLeft i) = constant_signature sort.Bool
signature_of (RotateRight i) = constant_signature sort.Bool
signature_of (Repeat i) = constant_signature sort.Bool
signature_of (ConstantArray k) = constant_signature sort.Bool
signature_of (Constant d s) = constant_signature s
signature_of (Apply d s) = s
signature_of (Param k s) = constant_signature sort.Bool

-- no term gives the declaration that an operator names another signature
abbrev pub Agrees : List Node → Op → Type 0
Agrees nodes op = (t d : ℕ) → declaration_of (node_at nodes t).op ≡ Some d → declaration_of op ≡ Some d → signature_of (node_at nodes t).op ≡ signature_of op

-- each declaration has one signature
abbrev pub HaveOneSignature : List Node → Type 0
HaveOneSignature nodes = (t : ℕ) → Agrees nodes (node_at nodes t).op

-- a list of terms, and how many there may be
pub record TermsValue : Type 0 where
  pub nodes : List Node
  pub limit : ℕ

-- different terms, each over earlier ones, no more than there may be
pub record AreTerms (v : TermsValue) : Type 0 where
  pub list : IsTermList v.nodes
  pub different : AreDifferent v.nodes
  pub declared : HaveOneSignature v.nodes
  pub within : length v.nodes ≤ v.limit
  pub limit : v.limit ≤ 2 ^ 24

-- the sorts of the terms in order
pub record HaveSorts (nodes : List Node) (sorts : List Sort) : Type 0 where
  pub count : length sorts ≡ length nodes
  pub each : (t : ℕ) → t < length nodes → slice_get sorts t ≡ Some (sort_of nodes t)

-- ---- making terms

abbrev pub no_terms : ℕ → TermsValue
no_terms limit = record { nodes = []; limit = limit }

-- the terms before a number
abbrev pub cut_at : TermsValue → ℕ → TermsValue
cut_at v len = record { nodes = take len v.nodes; limit = v.limit }

-- the terms, and one more
abbrev pub with_node : TermsValue → Node → TermsValue
with_node v n = record { nodes = v.nodes ++ n ∷ []; limit = v.limit }

-- an equal node keeps its number, a new one gets the next
abbrev pub numbered : TermsValue → Node → Option ℕ → Result (ℕ × TermsValue) MakeFault
numbered v n (Some t) = Ok (t, v)
numbered v n None = if nat_lt (length v.nodes) v.limit then Ok (length v.nodes, with_node v n) else Err TermLimit

-- a node's number, and the terms with it, or the node's first fault
unfoldable pub make : TermsValue → Node → Result (ℕ × TermsValue) MakeFault
make v n = and_then (node_sort v.nodes n) λ _. numbered v n (position (same_node n) v.nodes)

-- The answer is what making gives, with the new terms. After a fault, or for want of memory, the terms are as before.
abbrev pub Makes : Result (ℕ × TermsValue) MakeFault → Result ℕ MakeError → TermsValue → TermsValue → Type 0
Makes made (Ok t) old new = made ≡ Ok (t, new)
Makes made (Err (Fault f)) old new = (made ≡ Err f) × (new ≡ old)
Makes made (Err NoMemory) old new = new ≡ old
