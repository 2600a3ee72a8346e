-- What satisfies a block's clauses has the operator's value, and every assignment goes on over the block.
use Rattle.std.proofs.Common.{◌≡◌, ℕ, Bool, true, List, [], ◌∷◌, Option, Some, None, refl, sym, ap, ◌∙◌, subst}
use Rattle.std.specs.Prelude.{Result, Ok, Err, IfOk, IfSome, MatchOption}
use Rattle.std.specs.List.{AllByRecursion}
use Rattle.cnf_base.specs.Literals.{Literal}
use Rattle.cnf_base.specs.Assignments.{AgreeBelow, AreBelow, with_gates}
use Rattle.cnf_base.specs.Circuits.{CircuitValue}
use Rattle.cnf_base.proofs.Agreeing.{same_lit_true, same_number}
use Rattle.cnf_base.proofs.Meaning.{gates_mean}
use Rattle.cnf_base.proofs.Growing.{Gains-all}
use Rattle.cnf_base.proofs.Extending.{with_gates-agrees, with_gates-mean, gates-IsDetermined}
use Rattle.smt_terms.specs.declared.sort.Sort.{Sort}
use Rattle.smt_terms.specs.declared.sort.Sort.TheVariants as sort
use Rattle.smt_terms.specs.declared.node.Node.{Node}
use Rattle.smt_terms.specs.Bits.{TermBits, bits_in}
use Rattle.smt_terms.specs.Values.{Value, VBool, VWord, op_value}
use Rattle.bit_blast.specs.Circuits.{built}
use Rattle.bit_blast.specs.Blocks.{Block, circuit_of, all_bits, block_over, block_of, IsBuilt, HasNone}
use Rattle.bit_blast.specs.Meanings.{AreBitsOf, EachIsBits, ClausesFixValues, BlocksExtendAssignments, Fix}
use Rattle.bit_blast.proofs.Table.{op_correct}
use Rattle.bit_blast.proofs.Ordered.{op_ordered}
use Rattle.cnf_base.proofs.Options.{same_found}

pub clauses_fix : ClausesFixValues
clauses_fix M v g op ss rows xs s b one rank each is satisfied =
    op_correct M v g op ss rows xs s b one rank each is ((gates_mean v g b.gates).0 satisfied)

-- ---- assignments that agree below a variable

pub same_bits : (g : ℕ) (f v : ℕ → Bool) → AgreeBelow g f v → (s : Sort) (b : List Literal) (x : Value) → AreBelow g b → AreBitsOf f s b x → AreBitsOf v s b x
same_bits g f v agree sort.Bool b x below bits =
    let l = bits.0 in
    let here : AreBelow g (l ∷ []) = subst (AreBelow g) bits.1 below in
    (l, bits.1, bits.2 ∙ ap VBool (sym (same_lit_true g f v agree l here.0)))
same_bits g f v agree (sort.Word n) b x below bits = (bits.0, bits.1 ∙ ap (VWord n) (sym (same_number g f v agree b below)))
same_bits g f v agree (sort.Array n m) b x below bits = absurd bits

each_same : (g : ℕ) (f v : ℕ → Bool) → AgreeBelow g f v → (ss : List Sort) (rows : List (List Literal)) (xs : List Value) → AllByRecursion (AreBelow g) rows → EachIsBits f ss rows xs → EachIsBits v ss rows xs
each_same g f v agree [] [] [] all each = tt
each_same g f v agree [] [] (x ∷ xs) all each = absurd each
each_same g f v agree [] (b ∷ bs) xs all each = absurd each
each_same g f v agree (s ∷ ss) [] xs all each = absurd each
each_same g f v agree (s ∷ ss) (b ∷ bs) [] all each = absurd each
each_same g f v agree (s ∷ ss) (b ∷ bs) (x ∷ xs) all each = (same_bits g f v agree s b x all.0 each.0, each_same g f v agree ss bs xs all.1 each.1)

pub blocks_extend : BlocksExtendAssignments
blocks_extend M f g op ss rows xs s b one up all rank each is =
    let ordered = (op_ordered g op rows b up all is).0 in
    let agree = with_gates-agrees b.gates f g in
    let one_then : with_gates f g b.gates 1 ≡ true = agree 1 up ∙ one in (
      gates-IsDetermined f g b.gates ordered,
      op_correct M (with_gates f g b.gates) g op ss rows xs s b one_then rank (each_same g f (with_gates f g b.gates) agree ss rows xs all each) is (with_gates-mean b.gates f g ordered),
    )

-- ---- what a call appends

block_fixes : (old new : CircuitValue) (bits : ℕ → Option (List Literal)) (n : Node) (row : List Literal) (held : List (List Literal)) (k : Option Block)
    → all_bits bits n.args ≡ Some held → built (circuit_of n.op) old.next held ≡ k → IsBuilt k row old new → Fix new.clauses bits n row
block_fixes old new bits n row held None args is h = absurd h
block_fixes old new bits n row held (Some b) args is h = λ M v ss rows xs s one satisfied rank here each.
    let same : rows ≡ held = same_found (all_bits bits n.args) rows held here args in
    subst (λ (r : List Literal). AreBitsOf v s r (op_value M n.op xs)) (sym h.0)
    (op_correct M v old.next n.op ss held xs s b one rank (subst (λ (r : List (List Literal)). EachIsBits v ss r xs) same each) is (Gains-all v old new b.gates h.1 satisfied))

pub built_fixes : (old new : CircuitValue) (bits : ℕ → Option (List Literal)) (n : Node) (row : List Literal) → IsBuilt (block_of old.next bits n) row old new → Fix new.clauses bits n row
built_fixes old new bits n row h = go (all_bits bits n.args) refl h
  where
    go : (r : Option (List (List Literal))) → all_bits bits n.args ≡ r → IsBuilt (block_over n.op old.next r) row old new → Fix new.clauses bits n row
    go None args h = absurd h
    go (Some held) args h = block_fixes old new bits n row held (built (circuit_of n.op) old.next held) args refl h

-- a result that is built, if there is one, is fixed
pub result_fixes : {V E : Type 0} (r : Result (Option V) E) (items : V → List Literal) (old new : CircuitValue) (held : List TermBits) (n : Node)
    → IfOk r (λ o. MatchOption o (HasNone (block_of old.next (bits_in held) n) old new) (λ row. IsBuilt (block_of old.next (bits_in held) n) (items row) old new))
    → IfOk r (λ o. IfSome o (λ row. Fix new.clauses (bits_in held) n (items row)))
result_fixes (Err e) items old new held n h = tt
result_fixes (Ok None) items old new held n h = tt
result_fixes (Ok (Some row)) items old new held n h = built_fixes old new (bits_in held) n (items row) h
