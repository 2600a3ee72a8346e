-- No operator has a circuit over four rows or more, and a block has its bits from rows that are there.
use Rattle.std.proofs.Common.{◌≡◌, ℕ, ◌≤◌, Bool, true, false, List, [], ◌∷◌, length, Option, Some, None, refl, sym, subst, arith}
use Rattle.std.specs.Prelude.{if◌then◌else◌, ◌==◌}
use Rattle.cnf_base.specs.Literals.{Literal, false_literal}
use Rattle.smt_terms.specs.declared.operator.Operator.{Operator}
use Rattle.smt_terms.specs.declared.operator.Operator.TheVariants as plain
use Rattle.smt_terms.specs.declared.node.Op.{Op}
use Rattle.smt_terms.specs.declared.node.Op.TheVariants.{Plain, Word, Extract, ZeroExtend, SignExtend, RotateLeft, RotateRight, Repeat, ConstantArray, Constant, Apply, Param}
use Rattle.smt_terms.specs.declared.node.Node.{Node}
use Rattle.smt_terms.specs.Bits.{TermBits, bits_in}
use Rattle.bit_blast.specs.declared.rows.Connective.TheVariants.{Both, Neither, ButNot, Differ}
use Rattle.bit_blast.specs.Circuits.{Makes, Lacks, built, two, two_some, choice, by_gate, below, not_above, signed_below, signed_not_above, shift_up, shift_down, signed_shift_down, product, quotient, remainder, signed_quotient, signed_remainder, signed_modulus, sum, difference, equality}
use Rattle.bit_blast.specs.Blocks.{Block, operator_circuit, circuit_of, with_first, all_bits, block_over, block_of, EachShort}

-- the bits of a term are few
pub short_of : (held : List TermBits) (t : ℕ) (b : List Literal) → EachShort held → Some b ≡ bits_in held t → length b ≤ 128
short_of [] t b h e = let f : ⊥ = cc in absurd f
short_of (x ∷ held) t b h e = go (short_of held t b h.1) (x.term == t) e
  where
    go : (Some b ≡ bits_in held t → length b ≤ 128) → (c : Bool) → Some b ≡ (if c then Some x.bits else bits_in held t) → length b ≤ 128
    go rest true e = let q : b ≡ x.bits = cc in subst (λ l. length l ≤ 128) (sym q) h.0
    go rest false e = rest e

two_many : (f : List Literal → List Literal → ℕ → Block) (g : ℕ) (w x y z : List Literal) (r : List (List Literal)) → built (two f) g (w ∷ x ∷ y ∷ z ∷ r) ≡ None
two_many f g w x y z r = go (length w == length x)
  where
    go : (c : Bool) → built (if c then Makes (f w x) else Lacks) g (y ∷ z ∷ r) ≡ None
    go true = refl
    go false = refl

some_many : (f : List Literal → List Literal → ℕ → Block) (g : ℕ) (w x y z : List Literal) (r : List (List Literal)) → built (two_some f) g (w ∷ x ∷ y ∷ z ∷ r) ≡ None
some_many f g w x y z r = go (length w == 0)
  where
    go : (c : Bool) → built (if c then Lacks else (if length w == length x then Makes (f w x) else Lacks)) g (y ∷ z ∷ r) ≡ None
    go true = refl
    go false = two_many f g w x y z r

choice_many : (g : ℕ) (w x y z : List Literal) (r : List (List Literal)) → built choice g (w ∷ x ∷ y ∷ z ∷ r) ≡ None
choice_many g [] x y z r = refl
choice_many g (c ∷ []) x y z r = go _ (length x == length y)
  where
    go : (m : ℕ → Block) (b : Bool) → built (if b then Makes m else Lacks) g (z ∷ r) ≡ None
    go m true = refl
    go m false = refl
choice_many g (c ∷ d ∷ cs) x y z r = refl

operator_many : (o : Operator) (g : ℕ) (w x y z : List Literal) (r : List (List Literal)) → built (operator_circuit o) g (w ∷ x ∷ y ∷ z ∷ r) ≡ None
operator_many plain.True g w x y z r = refl
operator_many plain.False g w x y z r = refl
operator_many plain.Not g w x y z r = refl
operator_many plain.And g w x y z r = two_many (by_gate Both true) g w x y z r
operator_many plain.Or g w x y z r = two_many (by_gate Neither false) g w x y z r
operator_many plain.Xor g w x y z r = two_many (by_gate Differ true) g w x y z r
operator_many plain.Implies g w x y z r = two_many (by_gate ButNot false) g w x y z r
operator_many plain.Ite g w x y z r = choice_many g w x y z r
operator_many plain.Equal g w x y z r = two_many (equality) g w x y z r
operator_many plain.Bvnot g w x y z r = refl
operator_many plain.Bvneg g w x y z r = refl
operator_many plain.Bvadd g w x y z r = two_many (sum false_literal) g w x y z r
operator_many plain.Bvsub g w x y z r = two_many (difference) g w x y z r
operator_many plain.Bvmul g w x y z r = some_many product g w x y z r
operator_many plain.Bvand g w x y z r = two_many (by_gate Both true) g w x y z r
operator_many plain.Bvor g w x y z r = two_many (by_gate Neither false) g w x y z r
operator_many plain.Bvxor g w x y z r = two_many (by_gate Differ true) g w x y z r
operator_many plain.Bvnand g w x y z r = two_many (by_gate Both false) g w x y z r
operator_many plain.Bvnor g w x y z r = two_many (by_gate Neither true) g w x y z r
operator_many plain.Bvxnor g w x y z r = two_many (by_gate Differ false) g w x y z r
operator_many plain.Bvudiv g w x y z r = some_many quotient g w x y z r
operator_many plain.Bvurem g w x y z r = some_many remainder g w x y z r
operator_many plain.Bvsdiv g w x y z r = some_many signed_quotient g w x y z r
operator_many plain.Bvsrem g w x y z r = some_many signed_remainder g w x y z r
operator_many plain.Bvsmod g w x y z r = some_many signed_modulus g w x y z r
operator_many plain.Bvshl g w x y z r = two_many (shift_up) g w x y z r
operator_many plain.Bvlshr g w x y z r = two_many (shift_down) g w x y z r
operator_many plain.Bvashr g w x y z r = some_many (signed_shift_down) g w x y z r
operator_many plain.Bvult g w x y z r = two_many (below) g w x y z r
operator_many plain.Bvule g w x y z r = two_many (not_above) g w x y z r
operator_many plain.Bvugt g w x y z r = two_many (λ a b. below b a) g w x y z r
operator_many plain.Bvuge g w x y z r = two_many (λ a b. not_above b a) g w x y z r
operator_many plain.Bvslt g w x y z r = some_many (signed_below) g w x y z r
operator_many plain.Bvsle g w x y z r = some_many (signed_not_above) g w x y z r
operator_many plain.Bvsgt g w x y z r = some_many (λ a b. signed_below b a) g w x y z r
operator_many plain.Bvsge g w x y z r = some_many (λ a b. signed_not_above b a) g w x y z r
operator_many plain.Bvcomp g w x y z r = two_many (equality) g w x y z r
operator_many plain.Concat g w x y z r = refl
operator_many plain.Select g w x y z r = refl
operator_many plain.Store g w x y z r = refl
operator_many plain.Witness g w x y z r = refl

circuit_many : (op : Op) (g : ℕ) (w x y z : List Literal) (r : List (List Literal)) → built (circuit_of op) g (w ∷ x ∷ y ∷ z ∷ r) ≡ None
circuit_many (Plain o) g w x y z r = operator_many o g w x y z r
circuit_many (Word n k) g w x y z r = refl
circuit_many (Extract i j) g w x y z r = refl
circuit_many (ZeroExtend i) g w x y z r = refl
circuit_many (SignExtend i) g w x y z r = refl
circuit_many (RotateLeft i) g w x y z r = refl
circuit_many (RotateRight i) g w x y z r = refl
circuit_many (Repeat i) g w x y z r = refl
circuit_many (ConstantArray k) g w x y z r = refl
circuit_many (Constant d s) g w x y z r = refl
circuit_many (Apply d s) g w x y z r = refl
circuit_many (Param k s) g w x y z r = refl

first_none : (o : Option (List (List Literal))) → with_first None o ≡ None
first_none o = refl

over_many : (op : Op) (g : ℕ) (a b c d : Option (List Literal)) (r : Option (List (List Literal))) → block_over op g (with_first a (with_first b (with_first c (with_first d r)))) ≡ None
over_many op g (Some a) (Some b) (Some c) (Some d) (Some r) = circuit_many op g a b c d r
over_many op g (Some a) (Some b) (Some c) (Some d) None = refl
over_many op g (Some a) (Some b) (Some c) None r = refl
over_many op g (Some a) (Some b) None d r = refl
over_many op g (Some a) None c d r = refl
over_many op g None b c d r = refl

-- a node of four arguments or more has no block
pub block_many : (g : ℕ) (bits : ℕ → Option (List Literal)) (n : Node) → 4 ≤ length n.args → block_of g bits n ≡ None
block_many g bits n h = go n.args h
  where
    go : (args : List ℕ) → 4 ≤ length args → block_over n.op g (all_bits bits args) ≡ None
    go [] h = absurd (omega arith)
    go (a ∷ []) h = absurd (omega arith)
    go (a ∷ b ∷ []) h = absurd (omega arith)
    go (a ∷ b ∷ c ∷ []) h = absurd (omega arith)
    go (a ∷ b ∷ c ∷ d ∷ r) h = over_many n.op g (bits a) (bits b) (bits c) (bits d) (all_bits bits r)
