-- What the bits of terms mean.
use Rattle.std.specs.Prelude.{◌≡◌, ℕ, ◌+◌, ◌^◌, ◌<◌, ◌≤◌, Bool, true, List, [], ◌∷◌, length, Option, Some, Ok}
use Rattle.std.specs.List.{AllByRecursion}
use Rattle.cnf_base.specs.Literals.{Literal}
use Rattle.cnf_base.specs.Clauses.{lit_true, all_true, number}
use Rattle.cnf_base.specs.Gates.{gates_clauses, HaveMeaning, AreOrdered}
use Rattle.cnf_base.specs.Assignments.{AreBelow, with_gates}
use Rattle.cnf_base.specs.Circuits.{IsDetermined}
use Rattle.smt_terms.specs.declared.sort.Sort.{Sort}
use Rattle.smt_terms.specs.declared.sort.Sort.TheVariants as sort
use Rattle.smt_terms.specs.declared.node.Op.{Op}
use Rattle.smt_terms.specs.declared.node.Node.{Node}
use Rattle.smt_terms.specs.Terms.{op_rank}
use Rattle.smt_terms.specs.Scalars.{is_fixed}
use Rattle.smt_terms.specs.Values.{Value, VBool, VWord, Interpretation, op_value}
use Rattle.bit_blast.specs.Circuits.{built}
use Rattle.bit_blast.specs.Blocks.{Block, circuit_of, all_bits}

-- Under an assignment the literals are the bits of a value of a sort: a Bool has one, a word as many as its width, the
-- lowest first. An array has none.
abbrev pub AreBitsOf : (ℕ → Bool) → Sort → List Literal → Value → Type 0
AreBitsOf v sort.Bool bits x = (l : Literal) × (bits ≡ l ∷ []) × (x ≡ VBool (lit_true v l))
AreBitsOf v (sort.Word n) bits x = (length bits ≡ n) × (x ≡ VWord n (number v bits))
AreBitsOf v (sort.Array n m) bits x = ⊥

-- each row has the bits of a value, and there are as many sorts as rows and values
abbrev pub EachIsBits : (ℕ → Bool) → List Sort → List (List Literal) → List Value → Type 0
EachIsBits v [] [] [] = Unit {0}
EachIsBits v [] [] (x ∷ xs) = ⊥
EachIsBits v [] (b ∷ bs) xs = ⊥
EachIsBits v (s ∷ ss) [] xs = ⊥
EachIsBits v (s ∷ ss) (b ∷ bs) [] = ⊥
EachIsBits v (s ∷ ss) (b ∷ bs) (x ∷ xs) = AreBitsOf v s b x × EachIsBits v ss bs xs

-- In every assignment that makes variable 1 true and gives each gate of a block its meaning, the bits of the block are
-- those of the value that the operator gives of the values whose bits its arguments are.
abbrev pub BlocksAreCorrect : Type 0
BlocksAreCorrect =
    (M : Interpretation) (v : ℕ → Bool) (g : ℕ) (op : Op) (ss : List Sort) (rows : List (List Literal)) (xs : List Value) (s : Sort) (b : Block)
    → v 1 ≡ true → op_rank op ss ≡ Ok s → EachIsBits v ss rows xs → built (circuit_of op) g rows ≡ Some b → HaveMeaning v g b.gates
    → AreBitsOf v s b.bits (op_value M op xs)

-- the gates of a block whose arguments are below its first variable stand after their inputs, and its bits are below the next variable
abbrev pub BlocksAreOrdered : Type 0
BlocksAreOrdered =
    (g : ℕ) (op : Op) (rows : List (List Literal)) (b : Block)
    → 1 < g → AllByRecursion (AreBelow g) rows → built (circuit_of op) g rows ≡ Some b
    → AreOrdered g b.gates × AreBelow (g + length b.gates) b.bits

-- In every assignment that makes variable 1 true and satisfies the clauses of a block, the bits of the block are those of
-- the value that the operator gives of the values whose bits its arguments are.
abbrev pub ClausesFixValues : Type 0
ClausesFixValues =
    (M : Interpretation) (v : ℕ → Bool) (g : ℕ) (op : Op) (ss : List Sort) (rows : List (List Literal)) (xs : List Value) (s : Sort) (b : Block)
    → v 1 ≡ true → op_rank op ss ≡ Ok s → EachIsBits v ss rows xs → built (circuit_of op) g rows ≡ Some b → all_true v (gates_clauses g b.gates) ≡ true
    → AreBitsOf v s b.bits (op_value M op xs)

-- An assignment of the variables below a block's first one, in which the arguments are the bits of values, goes on over
-- the block in exactly one way, and the bits of the block are then those of the operator's value of these.
abbrev pub BlocksExtendAssignments : Type 0
BlocksExtendAssignments =
    (M : Interpretation) (f : ℕ → Bool) (g : ℕ) (op : Op) (ss : List Sort) (rows : List (List Literal)) (xs : List Value) (s : Sort) (b : Block)
    → f 1 ≡ true → 1 < g → AllByRecursion (AreBelow g) rows
    → op_rank op ss ≡ Ok s → EachIsBits f ss rows xs → built (circuit_of op) g rows ≡ Some b
    → IsDetermined f g b.gates × AreBitsOf (with_gates f g b.gates) s b.bits (op_value M op xs)

-- In every assignment that makes variable 1 true and satisfies these clauses, the row is the bits of the value that a
-- node's operator gives of the values whose bits its arguments are.
abbrev pub Fix : List (List Literal) → (ℕ → Option (List Literal)) → Node → List Literal → Type 0
Fix clauses bits n row =
    (M : Interpretation) (v : ℕ → Bool) (ss : List Sort) (rows : List (List Literal)) (xs : List Value) (s : Sort)
    → v 1 ≡ true → all_true v clauses ≡ true → op_rank n.op ss ≡ Ok s → all_bits bits n.args ≡ Some rows → EachIsBits v ss rows xs
    → AreBitsOf v s row (op_value M n.op xs)

-- no block over rows of at most 128 bits has more than 2^17 gates
abbrev pub BlocksAreSmall : Type 0
BlocksAreSmall =
    (g : ℕ) (op : Op) (rows : List (List Literal)) (b : Block)
    → AllByRecursion (λ row. length row ≤ 128) rows → built (circuit_of op) g rows ≡ Some b
    → length b.gates ≤ 2 ^ 17

-- a row has as many bits as a sort: one for a Bool, for a word its width, which is not 0
abbrev pub IsRowOf : Sort → List Literal → Type 0
IsRowOf sort.Bool row = length row ≡ 1
IsRowOf (sort.Word n) row = (0 < n) × (length row ≡ n)
IsRowOf (sort.Array n m) row = ⊥

abbrev pub AreRowsOf : List Sort → List (List Literal) → Type 0
AreRowsOf [] [] = Unit {0}
AreRowsOf [] (row ∷ rows) = ⊥
AreRowsOf (s ∷ ss) [] = ⊥
AreRowsOf (s ∷ ss) (row ∷ rows) = IsRowOf s row × AreRowsOf ss rows

-- an operator that is no declaration and no parameter has a block over rows of the sorts that it takes
abbrev pub BlocksExist : Type 0
BlocksExist =
    (g : ℕ) (op : Op) (ss : List Sort) (rows : List (List Literal)) (s : Sort)
    → is_fixed op ≡ true → op_rank op ss ≡ Ok s → AreRowsOf ss rows
    → (b : Block) × (built (circuit_of op) g rows ≡ Some b)
