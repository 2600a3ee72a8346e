-- Where no array is set, what is set suits every list of terms.
use Rattle.std.proofs.Common.{◌≡◌, ℕ, Bool, true, false, List, [], sym, subst, Option, Some, None}
use Rattle.std.specs.Prelude.{◌==◌, if◌then◌else◌}
use Rattle.smt_terms.specs.declared.sort.Sort.{Sort}
use Rattle.smt_terms.specs.declared.sort.Sort.TheVariants as sort
use Rattle.smt_terms.specs.declared.node.Op.{Op}
use Rattle.smt_terms.specs.declared.node.Op.TheVariants.{Plain, Word, Extract, ZeroExtend, SignExtend, RotateLeft, RotateRight, Repeat, ConstantArray, Constant, Apply, Param}
use Rattle.smt_terms.specs.declared.node.Node.{Node}
use Rattle.smt_terms.specs.Nodes.{node_at}
use Rattle.smt_values.specs.declared.value.Value.{Value}
use Rattle.smt_values.specs.declared.value.Value.TheVariants as held
use Rattle.smt_values.specs.Held.{set_for, Suits}
use Rattle.smt_eval.specs.Evaluated.{holds_array, IsSuited, AreSuited}

-- no array is set
abbrev pub IsNoArray : Option Value → Type 0
IsNoArray None = Unit {0}
IsNoArray (Some v) = holds_array v ≡ false

suits : (s : Sort) (o : Option Value) → IsNoArray o → Suits s o
suits sort.Bool o h = tt
suits (sort.Word n) o h = tt
suits (sort.Array n m) None h = tt
suits (sort.Array n m) (Some (held.Bool b)) h = tt
suits (sort.Array n m) (Some (held.Word w)) h = tt
suits (sort.Array n m) (Some (held.Array a)) h = let q : ⊥ = cc in absurd q
suits (sort.Array n m) (Some (held.Fun t)) h = tt

suited : (op : Op) (values : List (Option Value)) → ((d : ℕ) → IsNoArray (set_for values d)) → IsSuited op values
suited (Plain o) values h = tt
suited (Word n x) values h = tt
suited (Extract i j) values h = tt
suited (ZeroExtend i) values h = tt
suited (SignExtend i) values h = tt
suited (RotateLeft i) values h = tt
suited (RotateRight i) values h = tt
suited (Repeat i) values h = tt
suited (ConstantArray k) values h = tt
suited (Constant d s) values h = suits s (set_for values d) (h d)
suited (Apply d g) values h = tt
suited (Param k s) values h = tt

-- where no array is set for any declaration
pub without_arrays : (nodes : List Node) (values : List (Option Value)) → ((d : ℕ) → IsNoArray (set_for values d)) → AreSuited nodes values
without_arrays nodes values h = λ t lt. suited (node_at nodes t).op values h

pub nothing_set : (values : List (Option Value)) → values ≡ [] → (d : ℕ) → IsNoArray (set_for values d)
nothing_set values e d = subst (λ l. IsNoArray (set_for l d)) (sym e) tt

-- one more value is set that is no array
pub one_more_set : (values new : List (Option Value)) (k : ℕ) (v : Value) → ((d : ℕ) → IsNoArray (set_for values d)) → holds_array v ≡ false → ((d : ℕ) → set_for new d ≡ (if d == k then Some v else set_for values d)) → (d : ℕ) → IsNoArray (set_for new d)
one_more_set values new k v h p e d = subst IsNoArray (sym (e d)) (go (d == k)) where
  go : (b : Bool) → IsNoArray (if b then Some v else set_for values d)
  go true = p
  go false = h d
