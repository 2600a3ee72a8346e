-- Each clause of an equality has a variable that no earlier chain has.
use Rattle.std.proofs.Common.{◌≡◌, ℕ, zero, suc, ◌+◌, ◌<◌, ◌≤◌, List, [], ◌∷◌, ◌++◌, length, take, append_assoc, Option, Some, None, sym, ap, ◌∙◌, subst, arith, length-append}
use Rattle.std.specs.Prelude.{Contains, slice_get}
use Rattle.std.specs.List.{AllByRecursion}
use Rattle.cnf_base.specs.Literals.{Literal, positive_of, negative_of, negated, true_literal}
use Rattle.cnf_base.specs.Choices.{equal_gates}
use Rattle.cnf_base.specs.Gates.{gate_clauses, gates_clauses}
use Rattle.cnf_base.specs.declared.clause.ClauseId.{ClauseId}
use Rattle.cnf_base.specs.declared.gate.GateKind.{GateKind}
use Rattle.cnf_base.specs.declared.gate.GateKind.TheVariants.{And, Xor, Ite}
use Rattle.cnf_base.proofs.Lists.{Contains-first, each_append, each_slice_get, slice_get-at}
use Rattle.smt_terms.specs.declared.node.Node.{Node}
use Rattle.proof_log.specs.declared.entry.Entry.{Entry}
use Rattle.proof_log.specs.declared.entry.Entry.TheVariants as step
use Rattle.proof_log.specs.Logs.{LogState, start, clause_in, entry_at, IsStep, after, state_from, state_of, AreSteps, IsLog}
use Rattle.proof_log.proofs.Growing.{below_member}
use Rattle.proof_log.proofs.Growth.{equal_row, row_of, step_adds, steps_rows}
use Rattle.proof_log.proofs.Staying.{step_holds}

-- the clause has a variable from this number on
abbrev HasFrom : ℕ → List Literal → Type 0
HasFrom n c = (l : Literal) × Contains c l × (n ≤ l.variable)

leads : (n : ℕ) (l : Literal) (c : List Literal) → n ≤ l.variable → HasFrom n (l ∷ c)
leads n l c le = (l, Contains-first l c, le)

gate_from : (n g : ℕ) (k : GateKind) → n ≤ g → AllByRecursion (HasFrom n) (gate_clauses g k)
gate_from n g (And a b) le = (leads n (negative_of g) (a ∷ []) le, (leads n (negative_of g) (b ∷ []) le, (leads n (positive_of g) (negated a ∷ negated b ∷ []) le, tt)))
gate_from n g (Xor a b) le = (
  leads n (negative_of g) (a ∷ b ∷ []) le,
  (leads n (negative_of g) (negated a ∷ negated b ∷ []) le, (leads n (positive_of g) (negated a ∷ b ∷ []) le, (leads n (positive_of g) (a ∷ negated b ∷ []) le, tt))),
)
gate_from n g (Ite c a b) le = (
  leads n (negative_of g) (negated c ∷ a ∷ []) le,
  (leads n (positive_of g) (negated c ∷ negated a ∷ []) le, (leads n (negative_of g) (c ∷ b ∷ []) le, (leads n (positive_of g) (c ∷ negated b ∷ []) le, tt))),
)

gates_from : (n g : ℕ) (ks : List GateKind) → n ≤ g → AllByRecursion (HasFrom n) (gates_clauses g ks)
gates_from n g [] le = tt
gates_from n g (k ∷ ks) le = each_append (HasFrom n) (gate_clauses g k) (gates_clauses (suc g) ks) (gate_from n g k le) (gates_from n (suc g) ks (omega (arith, le)))

equality_from : (s : LogState) (a b : Option (List Literal)) → AllByRecursion (HasFrom s.next) (equal_row s a b)
equality_from s None b = tt
equality_from s (Some a) None = tt
equality_from s (Some a) (Some b) = gates_from s.next s.next (equal_gates s.next true_literal a b) (omega arith)

-- ---- the step at a place of a log

step_there : (nodes : List Node) (s : LogState) (log : List Entry) (p : ℕ) (e : Entry) → AreSteps nodes s log → slice_get log p ≡ Some e → IsStep nodes (state_from nodes s (take p log)) e
step_there nodes s [] p e h q = let f : ⊥ = cc in absurd f
step_there nodes s (d ∷ log) zero e h q = let same : d ≡ e = cc in subst (IsStep nodes s) same h.0
step_there nodes s (d ∷ log) (suc p) e h q = step_there nodes (after nodes s d) log p e h.1 q

row_there : (nodes : List Node) (s : LogState) (log : List Entry) (p : ℕ) (e : Entry) → slice_get log p ≡ Some e → slice_get (state_from nodes s log).clauses (length s.clauses + p) ≡ Some (row_of nodes (state_from nodes s (take p log)) e)
row_there nodes s [] p e q = let f : ⊥ = cc in absurd f
row_there nodes s (d ∷ log) zero e q =
    let same : d ≡ e = cc in
    let k = steps_rows nodes (after nodes s d) log in
    let n : length s.clauses + 0 ≡ length s.clauses = omega arith in
    ap (λ i. slice_get (state_from nodes (after nodes s d) log).clauses i) n
    ∙ ap (λ rows. slice_get rows (length s.clauses)) (k.1 ∙ ap (λ rows. rows ++ k.0) (step_adds nodes s d) ∙ append_assoc s.clauses (row_of nodes s d ∷ []) k.0)
    ∙ slice_get-at s.clauses (row_of nodes s d) k.0
    ∙ ap (λ x. Some (row_of nodes s x)) same
row_there nodes s (d ∷ log) (suc p) e q =
    let n : length s.clauses + suc p ≡ length (after nodes s d).clauses + p = omega (arith, ap length (step_adds nodes s d), length-append s.clauses (row_of nodes s d ∷ [])) in
    ap (λ i. slice_get (state_from nodes (after nodes s d) log).clauses i) n ∙ row_there nodes (after nodes s d) log p e q

-- variables rise
lower : (nodes : List Node) (s : LogState) (log : List Entry) (q : ℕ) → AreSteps nodes s log → s.next ≤ (state_from nodes s (take q log)).next
lower nodes s log zero h = omega arith
lower nodes s [] (suc q) h = omega arith
lower nodes s (e ∷ log) (suc q) h = omega (arith, (step_holds nodes s e h.0).next, lower nodes (after nodes s e) log q h.1)

rises : (nodes : List Node) (s : LogState) (log : List Entry) (p q : ℕ) → AreSteps nodes s log → p ≤ q → (state_from nodes s (take p log)).next ≤ (state_from nodes s (take q log)).next
rises nodes s log zero q h le = lower nodes s log q h
rises nodes s log (suc p) zero h le = absurd (omega (arith, le))
rises nodes s [] (suc p) (suc q) h le = omega arith
rises nodes s (e ∷ log) (suc p) (suc q) h le = rises nodes (after nodes s e) log p q h.1 (omega (arith, le))

-- ---- a chain before an equality

-- a chain has not all variables of a clause of a later equality
pub chain_apart : (nodes : List Node) (log : List Entry) (p q part t u : ℕ) (c d : List Literal) (hints : List ClauseId) → IsLog nodes log → entry_at log p ≡ Some (step.Chain c hints) → entry_at log q ≡ Some (step.Equal t u) → p < q
    → clause_in (slice_get (state_of nodes log).clauses q) part ≡ Some d → ((l : Literal) → Contains d l → Contains c l) → ⊥
chain_apart nodes log zero q part t u c d hints is e f lt g sub = let z : ⊥ = cc in z
chain_apart nodes log (suc p) zero part t u c d hints is e f lt g sub = let z : ⊥ = cc in z
chain_apart nodes log (suc p) (suc q) part t u c d hints is e f lt g sub =
    let s = state_from nodes start (take q log) in
    let n : 1 + q ≡ suc q = omega arith in
    let row : slice_get (state_of nodes log).clauses (suc q) ≡ Some (equal_row s (s.bits t) (s.bits u)) = subst (λ i. slice_get (state_of nodes log).clauses i ≡ Some (equal_row s (s.bits t) (s.bits u))) n (row_there nodes start log q (step.Equal t u) f) in
    let at : slice_get (equal_row s (s.bits t) (s.bits u)) part ≡ Some d = sym (ap (λ o. clause_in o part) row) ∙ g in
    let has = each_slice_get (HasFrom s.next) (equal_row s (s.bits t) (s.bits u)) part d (equality_from s (s.bits t) (s.bits u)) at in
    let chain = step_there nodes start log p (step.Chain c hints) is e in
    let low = below_member (state_from nodes start (take p log)).next c has.0 chain.0 (sub has.0 has.1) in
    let far = rises nodes start log p q is (omega (arith, lt)) in
    omega (arith, low, far, has.2)
