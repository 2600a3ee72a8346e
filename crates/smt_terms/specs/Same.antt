-- Nodes are the same exactly where they are equal.
use Rattle.std.proofs.Common.{◌≡◌, ℕ, Bool, true, false, ◌&&◌, List, [], ◌∷◌, refl, ap, eq-eqb}
use Rattle.std.proofs.lemmas.Bool.{eqb-true, and_parts}
use Rattle.std.specs.Prelude.{◌==◌, ◌++◌, IsTrue, nat_eq}
use Rattle.std.specs.Cmp.{IsEquivalence}
use Rattle.std.specs.Cmp.Lexicographic.{pointwise}
use Rattle.std.specs.Hash as fed
use Rattle.smt_terms.specs.declared.sort.Sort.{Sort}
use Rattle.smt_terms.specs.declared.sort.Sort.TheVariants as sort
use Rattle.smt_terms.specs.declared.sort.Signature.{Signature}
use Rattle.smt_terms.specs.declared.node.Op.{Op}
use Rattle.smt_terms.specs.declared.node.Op.TheVariants.{Plain, Word, Extract, ZeroExtend, SignExtend, RotateLeft, RotateRight, Repeat, ConstantArray, Constant, Apply, Param}
use Rattle.smt_terms.specs.declared.node.Node.{Node}
use Rattle.smt_terms.specs.Equivalences.{equivalence_by}
use Rattle.smt_terms.specs.Operators.{same_operator, operator_same, operator_itself, code_of}

abbrev pub same_sort : Sort → Sort → Bool
same_sort sort.Bool sort.Bool = true
same_sort sort.Bool _ = false
same_sort (sort.Word m) (sort.Word n) = m == n
same_sort (sort.Word m) _ = false
same_sort (sort.Array i m) (sort.Array j n) = (i == j) && (m == n)
same_sort (sort.Array i m) _ = false

abbrev pub same_numbers : List ℕ → List ℕ → Bool
same_numbers = pointwise nat_eq

abbrev pub same_sorts : List Sort → List Sort → Bool
same_sorts = pointwise same_sort

abbrev pub same_signature : Signature → Signature → Bool
same_signature a b = same_sorts a.args b.args && same_sort a.value b.value

abbrev pub same_op : Op → Op → Bool
same_op (Plain a) (Plain b) = same_operator a b
same_op (Plain a) _ = false
same_op (Word n x) (Word m y) = (n == m) && (x == y)
same_op (Word n x) _ = false
same_op (Extract i j) (Extract k l) = (i == k) && (j == l)
same_op (Extract i j) _ = false
same_op (ZeroExtend i) (ZeroExtend j) = i == j
same_op (ZeroExtend i) _ = false
same_op (SignExtend i) (SignExtend j) = i == j
same_op (SignExtend i) _ = false
same_op (RotateLeft i) (RotateLeft j) = i == j
same_op (RotateLeft i) _ = false
same_op (RotateRight i) (RotateRight j) = i == j
same_op (RotateRight i) _ = false
same_op (Repeat i) (Repeat j) = i == j
same_op (Repeat i) _ = false
same_op (ConstantArray i) (ConstantArray j) = i == j
same_op (ConstantArray i) _ = false
same_op (Constant c s) (Constant d t) = (c == d) && same_sort s t
same_op (Constant c s) _ = false
same_op (Apply c s) (Apply d t) = (c == d) && same_signature s t
same_op (Apply c s) _ = false
same_op (Param c s) (Param d t) = (c == d) && same_sort s t
same_op (Param c s) _ = false

abbrev pub same_node : Node → Node → Bool
same_node a b = same_op a.op b.op && same_numbers a.args b.args

-- ---- what is the same is equal

two_numbers : {A : Type 0} (f : ℕ → ℕ → A) (a b c d : ℕ) → (a == b) && (c == d) ≡ true → f a c ≡ f b d
two_numbers f a b c d e =
    let h = and_parts (a == b) (c == d) e in
    let p : a ≡ b = eqb-true a b h.0 in
    let q : c ≡ d = eqb-true c d h.1 in cc

pub sort_same : (s t : Sort) → same_sort s t ≡ true → s ≡ t
sort_same sort.Bool sort.Bool e = refl
sort_same sort.Bool (sort.Word n) e = cc
sort_same sort.Bool (sort.Array i n) e = cc
sort_same (sort.Word m) sort.Bool e = cc
sort_same (sort.Word m) (sort.Word n) e = ap sort.Word (eqb-true m n e)
sort_same (sort.Word m) (sort.Array i n) e = cc
sort_same (sort.Array i m) sort.Bool e = cc
sort_same (sort.Array i m) (sort.Word n) e = cc
sort_same (sort.Array i m) (sort.Array j n) e = two_numbers sort.Array i j m n e

pub numbers_same : (xs ys : List ℕ) → same_numbers xs ys ≡ true → xs ≡ ys
numbers_same [] [] e = refl
numbers_same [] (y ∷ ys) e = cc
numbers_same (x ∷ xs) [] e = cc
numbers_same (x ∷ xs) (y ∷ ys) e =
    let b = and_parts (x == y) (same_numbers xs ys) e in
    let p : x ≡ y = eqb-true x y b.0 in
    let q : xs ≡ ys = numbers_same xs ys b.1 in cc

pub sorts_same : (xs ys : List Sort) → same_sorts xs ys ≡ true → xs ≡ ys
sorts_same [] [] e = refl
sorts_same [] (y ∷ ys) e = cc
sorts_same (x ∷ xs) [] e = cc
sorts_same (x ∷ xs) (y ∷ ys) e =
    let b = and_parts (same_sort x y) (same_sorts xs ys) e in
    let p : x ≡ y = sort_same x y b.0 in
    let q : xs ≡ ys = sorts_same xs ys b.1 in cc

pub signature_same : (a b : Signature) → same_signature a b ≡ true → a ≡ b
signature_same a b e =
    let c = and_parts (same_sorts a.args b.args) (same_sort a.value b.value) e in
    let p : a.args ≡ b.args = sorts_same a.args b.args c.0 in
    let q : a.value ≡ b.value = sort_same a.value b.value c.1 in
    (λ i. record { args = p i; value = q i })

with_sort : (f : ℕ → Sort → Op) (c d : ℕ) (s t : Sort) → (c == d) && same_sort s t ≡ true → f c s ≡ f d t
with_sort f c d s t e =
    let b = and_parts (c == d) (same_sort s t) e in
    let p : c ≡ d = eqb-true c d b.0 in
    let q : s ≡ t = sort_same s t b.1 in cc

pub op_same : (a b : Op) → same_op a b ≡ true → a ≡ b
op_same (Plain a) (Plain b) e = ap Plain (operator_same a b e)
op_same (Plain a) _ e = cc
op_same (Word n x) (Word m y) e = two_numbers Word n m x y e
op_same (Word n x) _ e = cc
op_same (Extract i j) (Extract k l) e = two_numbers Extract i k j l e
op_same (Extract i j) _ e = cc
op_same (ZeroExtend i) (ZeroExtend j) e = ap ZeroExtend (eqb-true i j e)
op_same (ZeroExtend i) _ e = cc
op_same (SignExtend i) (SignExtend j) e = ap SignExtend (eqb-true i j e)
op_same (SignExtend i) _ e = cc
op_same (RotateLeft i) (RotateLeft j) e = ap RotateLeft (eqb-true i j e)
op_same (RotateLeft i) _ e = cc
op_same (RotateRight i) (RotateRight j) e = ap RotateRight (eqb-true i j e)
op_same (RotateRight i) _ e = cc
op_same (Repeat i) (Repeat j) e = ap Repeat (eqb-true i j e)
op_same (Repeat i) _ e = cc
op_same (ConstantArray i) (ConstantArray j) e = ap ConstantArray (eqb-true i j e)
op_same (ConstantArray i) _ e = cc
op_same (Constant c s) (Constant d t) e = with_sort Constant c d s t e
op_same (Constant c s) _ e = cc
op_same (Apply c s) (Apply d t) e =
    let b = and_parts (c == d) (same_signature s t) e in
    let p : c ≡ d = eqb-true c d b.0 in
    let q : s ≡ t = signature_same s t b.1 in cc
op_same (Apply c s) _ e = cc
op_same (Param c s) (Param d t) e = with_sort Param c d s t e
op_same (Param c s) _ e = cc

pub node_same : (a b : Node) → same_node a b ≡ true → a ≡ b
node_same a b e =
    let c = and_parts (same_op a.op b.op) (same_numbers a.args b.args) e in
    let p : a.op ≡ b.op = op_same a.op b.op c.0 in
    let q : a.args ≡ b.args = numbers_same a.args b.args c.1 in
    (λ i. record { op = p i; args = q i })

-- ---- what is equal is the same

self_number : (n : ℕ) → (n == n) ≡ true
self_number n = eq-eqb n n refl

pub sort_itself : (s : Sort) → same_sort s s ≡ true
sort_itself sort.Bool = refl
sort_itself (sort.Word n) = self_number n
sort_itself (sort.Array i n) = rw (self_number i, self_number n) refl

numbers_itself : (xs : List ℕ) → same_numbers xs xs ≡ true
numbers_itself [] = refl
numbers_itself (x ∷ xs) = rw (self_number x, numbers_itself xs) refl

sorts_itself : (xs : List Sort) → same_sorts xs xs ≡ true
sorts_itself [] = refl
sorts_itself (x ∷ xs) = rw (sort_itself x, sorts_itself xs) refl

signature_itself : (a : Signature) → same_signature a a ≡ true
signature_itself a = rw (sorts_itself a.args, sort_itself a.value) refl

op_itself : (a : Op) → same_op a a ≡ true
op_itself (Plain a) = operator_itself a
op_itself (Word n x) = rw (self_number n, self_number x) refl
op_itself (Extract i j) = rw (self_number i, self_number j) refl
op_itself (ZeroExtend i) = self_number i
op_itself (SignExtend i) = self_number i
op_itself (RotateLeft i) = self_number i
op_itself (RotateRight i) = self_number i
op_itself (Repeat i) = self_number i
op_itself (ConstantArray i) = self_number i
op_itself (Constant c s) = rw (self_number c, sort_itself s) refl
op_itself (Apply c s) = rw (self_number c, signature_itself s) refl
op_itself (Param c s) = rw (self_number c, sort_itself s) refl

pub node_itself : (a : Node) → same_node a a ≡ true
node_itself a = rw (op_itself a.op, numbers_itself a.args) refl

-- ---- the laws of `==`

pub signature_equivalence : IsEquivalence same_signature
signature_equivalence = equivalence_by same_signature signature_same signature_itself

pub op_equivalence : IsEquivalence same_op
op_equivalence = equivalence_by same_op op_same op_itself

pub node_equivalence : IsEquivalence same_node
node_equivalence = equivalence_by same_node node_same node_itself

-- ---- what a hash reads

abbrev pub numbers_input : List ℕ → List (List ℕ)
numbers_input = fed.slice fed.u32

-- the number that tells the kind of operator: that of an operator without an index is its own, which is below 64
abbrev pub tag_of : Op → ℕ
tag_of (Plain a) = code_of a
tag_of (Word n x) = 64
tag_of (Extract i j) = 65
tag_of (ZeroExtend i) = 66
tag_of (SignExtend i) = 67
tag_of (RotateLeft i) = 68
tag_of (RotateRight i) = 69
tag_of (Repeat i) = 70
tag_of (Constant d s) = 71
tag_of (Apply d s) = 72
tag_of (Param k s) = 73
tag_of (ConstantArray i) = 74

-- what its indexes add, and the declaration or place that it names
abbrev pub indexes_input : Op → List (List ℕ)
indexes_input (Plain a) = []
indexes_input (Word n x) = fed.u64 n ++ fed.u128 x
indexes_input (Extract i j) = fed.u64 i ++ fed.u64 j
indexes_input (ZeroExtend i) = fed.u64 i
indexes_input (SignExtend i) = fed.u64 i
indexes_input (RotateLeft i) = fed.u64 i
indexes_input (RotateRight i) = fed.u64 i
indexes_input (Repeat i) = fed.u64 i
indexes_input (ConstantArray i) = fed.u64 i
indexes_input (Constant d s) = fed.u32 d
indexes_input (Apply d s) = fed.u32 d
indexes_input (Param k s) = fed.u32 k

abbrev pub op_input : Op → List (List ℕ)
op_input op = fed.u8 (tag_of op) ++ indexes_input op

abbrev pub node_input : Node → List (List ℕ)
node_input n = op_input n.op ++ numbers_input n.args

pub op_respects : (a b : Op) → IsTrue (same_op a b) → op_input a ≡ op_input b
op_respects a b e = ap op_input (op_same a b e)

pub node_respects : (a b : Node) → IsTrue (same_node a b) → node_input a ≡ node_input b
node_respects a b e = ap node_input (node_same a b e)
