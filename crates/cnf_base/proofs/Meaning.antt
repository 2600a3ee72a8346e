-- The clauses of gates are true exactly where each gate's variable has the gate's value.
use Rattle.std.proofs.Common.{◌≡◌, ℕ, suc, Bool, true, false, not, ◌&&◌, ◌||◌, if◌then◌else◌, List, [], ◌∷◌, refl, ◌∙◌, sym}
use Rattle.std.specs.Prelude.{◌↔◌}
use Rattle.std.specs.Cmp.{booleans_Decides}
use Rattle.std.proofs.Math.Bool.{beq}
use Rattle.cnf_base.specs.declared.gate.GateKind.{GateKind}
use Rattle.cnf_base.specs.declared.gate.GateKind.TheVariants.{And, Xor, Ite}
use Rattle.cnf_base.specs.Clauses.{lit_true, all_true}
use Rattle.cnf_base.specs.Gates.{gate_value, gate_clauses, gates_clauses, HaveMeaning}
use Rattle.cnf_base.proofs.Truth.{lit_true-negated, all_true_parts}

and_cases : (g a b : Bool) → ((not g || (a || false)) && ((not g || (b || false)) && ((g || (not a || (not b || false))) && true))) ≡ beq g (a && b)
and_cases true true true = refl
and_cases true true false = refl
and_cases true false true = refl
and_cases true false false = refl
and_cases false true true = refl
and_cases false true false = refl
and_cases false false true = refl
and_cases false false false = refl

xor_cases : (g a b : Bool) → ((not g || (a || (b || false))) && ((not g || (not a || (not b || false))) && ((g || (not a || (b || false))) && ((g || (a || (not b || false))) && true)))) ≡ beq g (if a then not b else b)
xor_cases true true true = refl
xor_cases true true false = refl
xor_cases true false true = refl
xor_cases true false false = refl
xor_cases false true true = refl
xor_cases false true false = refl
xor_cases false false true = refl
xor_cases false false false = refl

ite_cases : (g c a b : Bool) → ((not g || (not c || (a || false))) && ((g || (not c || (not a || false))) && ((not g || (c || (b || false))) && ((g || (c || (not b || false))) && true)))) ≡ beq g (if c then a else b)
ite_cases true true true true = refl
ite_cases true true true false = refl
ite_cases true true false true = refl
ite_cases true true false false = refl
ite_cases true false true true = refl
ite_cases true false true false = refl
ite_cases true false false true = refl
ite_cases true false false false = refl
ite_cases false true true true = refl
ite_cases false true true false = refl
ite_cases false true false true = refl
ite_cases false true false false = refl
ite_cases false false true true = refl
ite_cases false false true false = refl
ite_cases false false false true = refl
ite_cases false false false false = refl

pub gate_test : (v : ℕ → Bool) (g : ℕ) (k : GateKind) → all_true v (gate_clauses g k) ≡ beq (v g) (gate_value v k)
gate_test v g (And a b) = rw (lit_true-negated v a, lit_true-negated v b) (and_cases (v g) (lit_true v a) (lit_true v b))
gate_test v g (Xor a b) = rw (lit_true-negated v a, lit_true-negated v b) (xor_cases (v g) (lit_true v a) (lit_true v b))
gate_test v g (Ite c a b) = rw (lit_true-negated v c, lit_true-negated v a, lit_true-negated v b) (ite_cases (v g) (lit_true v c) (lit_true v a) (lit_true v b))

pub gate_means : (v : ℕ → Bool) (g : ℕ) (k : GateKind) → (all_true v (gate_clauses g k) ≡ true) ↔ (v g ≡ gate_value v k)
gate_means v g k =
    let d = booleans_Decides (v g) (gate_value v k) in
    ((λ h. d.0 (sym (gate_test v g k) ∙ h)), (λ h. gate_test v g k ∙ d.1 h))

pub gates_mean : (v : ℕ → Bool) (g : ℕ) (ks : List GateKind) → (all_true v (gates_clauses g ks) ≡ true) ↔ HaveMeaning v g ks
gates_mean v g [] = ((λ h. tt), (λ h. refl))
gates_mean v g (k ∷ ks) =
    let rest = gates_mean v (suc g) ks in
    let both = all_true_parts v (gate_clauses g k) (gates_clauses (suc g) ks) in
    let one = gate_means v g k in
    ((λ h. let p = both.0 h in (one.0 p.0, rest.0 p.1)), (λ h. both.1 (one.1 h.0, rest.1 h.1)))
