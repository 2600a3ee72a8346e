-- A circuit that gains gates, and then more gates.
use Rattle.std.proofs.Common.{◌≡◌, ℕ, suc, ◌+◌, List, [], ◌∷◌, ◌++◌, length, ap, ◌∙◌, sym, arith, append_assoc, length-append, Bool, true}
use Rattle.std.proofs.Common.{refl, subst}
use Rattle.std.proofs.lemmas.List.{append-nil}
use Rattle.std.specs.Prelude.{◌↔◌}
use Rattle.std.specs.Prelude.{Result, Ok, Err, IfOk, OnOk}
use Rattle.std.specs.declared.alloc.AllocError.{AllocError}
use Rattle.cnf_base.specs.Literals.{Literal, positive_of}
use Rattle.cnf_base.specs.declared.gate.GateKind.{GateKind}
use Rattle.cnf_base.specs.Clauses.{lit_true, all_true}
use Rattle.cnf_base.specs.Gates.{gate_value, gate_clauses, gates_clauses, HaveMeaning}
use Rattle.cnf_base.specs.Circuits.{CircuitValue, Gains, MeansGates, Grows}
use Rattle.cnf_base.proofs.Truth.{all_true_parts}
use Rattle.cnf_base.proofs.Meaning.{gates_mean}

pub gates_clauses-append : (g : ℕ) (ks ls : List GateKind) → gates_clauses g (ks ++ ls) ≡ gates_clauses g ks ++ gates_clauses (g + length ks) ls
gates_clauses-append g [] ls = let e : g ≡ g + 0 = omega arith in ap (λ h. gates_clauses h ls) e
gates_clauses-append g (k ∷ ks) ls =
    let e : suc g + length ks ≡ g + suc (length ks) = omega arith in
    ap (λ t. gate_clauses g k ++ t) (gates_clauses-append (suc g) ks ls ∙ ap (λ h. gates_clauses (suc g) ks ++ gates_clauses h ls) e)
    ∙ sym (append_assoc (gate_clauses g k) (gates_clauses (suc g) ks) (gates_clauses (g + suc (length ks)) ls))

pub Gains-then : (a b c : CircuitValue) (ks ls : List GateKind) → Gains a b ks → Gains b c ls → Gains a c (ks ++ ls)
Gains-then a b c ks ls p q = record {
  next = omega (arith, p.next, q.next, length-append ks ls);
  clauses =
      q.clauses
      ∙ ap (λ t. t ++ gates_clauses b.next ls) p.clauses
      ∙ append_assoc a.clauses (gates_clauses a.next ks) (gates_clauses b.next ls)
      ∙ ap (λ h. a.clauses ++ (gates_clauses a.next ks ++ gates_clauses h ls)) p.next
      ∙ ap (λ t. a.clauses ++ t) (sym (gates_clauses-append a.next ks ls));
}

-- more gates: the clauses are true exactly where those before are, and each gate has its meaning
pub Gains-mean : (a b : CircuitValue) (ks : List GateKind) → Gains a b ks → MeansGates a b ks
Gains-mean a b ks h v =
    let row = gates_mean v a.next ks in
    let both = all_true_parts v a.clauses (gates_clauses a.next ks) in (
      (λ t. let p = both.0 (ap (all_true v) (sym h.clauses) ∙ t) in (p.0, row.0 p.1)),
      (λ t. ap (all_true v) h.clauses ∙ both.1 (t.0, row.1 t.1)),
    )

-- one gate more, if it was made
pub gate_gained : (a b : CircuitValue) (k : GateKind) (r : Result Literal AllocError) → IfOk r (λ l. l ≡ positive_of a.next) → OnOk r (Gains a b (k ∷ [])) → IfOk r (λ l. (v : ℕ → Bool) → (all_true v b.clauses ≡ true) ↔ ((all_true v a.clauses ≡ true) × (lit_true v l ≡ gate_value v k)))
gate_gained a b k (Ok l) e h = λ v.
    let whole = Gains-mean a b (k ∷ []) h v in
    let same : lit_true v l ≡ v a.next = ap (lit_true v) e in
    ((λ t. let p = whole.0 t in (p.0, same ∙ p.1.0)), (λ t. whole.1 (t.0, (sym same ∙ t.1, tt))))
gate_gained a b k (Err x) e h = tt

-- where the clauses are true, each gate has its meaning
pub Gains-all : (v : ℕ → Bool) (a b : CircuitValue) (ks : List GateKind) → Gains a b ks → all_true v b.clauses ≡ true → HaveMeaning v a.next ks
Gains-all v a b ks h t = ((Gains-mean a b ks h v).0 t).1

-- ---- a row of gates, some at a time

pub Grows-none : (a : CircuitValue) (ks : List GateKind) → Grows a a ks ks
Grows-none a ks = record {
  done = [];
  gains = record { next = omega arith; clauses = sym (append-nil a.clauses) };
  split = refl;
}

pub Grows-more : (s a b : CircuitValue) (ks ls rest whole : List GateKind) → Grows s a ls whole → Gains a b ks → ls ≡ ks ++ rest → Grows s b rest whole
Grows-more s a b ks ls rest whole h more e = record {
  done = h.done ++ ks;
  gains = Gains-then s a b h.done ks h.gains more;
  split = h.split ∙ ap (λ t. h.done ++ t) e ∙ sym (append_assoc h.done ks rest);
}

pub Grows-all : (s a : CircuitValue) (rest whole : List GateKind) → Grows s a rest whole → rest ≡ [] → Gains s a whole
Grows-all s a rest whole h e =
    let all : whole ≡ h.done = h.split ∙ ap (λ t. h.done ++ t) e ∙ append-nil h.done in
    subst (λ t. Gains s a t) (sym all) h.gains
