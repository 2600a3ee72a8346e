-- New variables get a value, and those before keep theirs.
use Rattle.std.proofs.Common.{◌≡◌, ℕ, zero, suc, ◌+◌, ◌/◌, ◌%◌, ◌^◌, ◌<◌, Bool, true, false, List, [], ◌∷◌, ◌++◌, length, refl, sym, ap, ◌∙◌, subst, arith}
use Rattle.std.specs.Prelude.{if◌then◌else◌, ◌==◌}
use Rattle.std.proofs.lemmas.Bool.{eq-eqb, ne_eqb, eqb-true}
use Rattle.std.proofs.lemmas.Bool.Decides.{nat_tests}
use Rattle.std.proofs.Math.Nat.{pow-suc}
use Rattle.cnf_base.specs.declared.gate.GateKind.{GateKind}
use Rattle.cnf_base.specs.declared.gate.GateKind.TheVariants.{And, Xor, Ite}
use Rattle.cnf_base.specs.Clauses.{number, bit}
use Rattle.cnf_base.specs.Gates.{gate_value, gates_clauses, gate_clauses, HaveMeaning, InputsBelow, AreOrdered}
use Rattle.cnf_base.specs.Assignments.{AgreeBelow, ClausesBelow, fresh_bits, with_variable, with_number, with_gates}
use Rattle.cnf_base.specs.Circuits.{IsDetermined}
use Rattle.cnf_base.proofs.Numbers.{bit-parity}
use Rattle.cnf_base.proofs.Agreeing.{ClausesBelow-append, ClausesBelow-more, same_gate_value}
use Rattle.cnf_base.proofs.Meaning.{gates_mean}

pub with_variable-here : (f : ℕ → Bool) (g : ℕ) (b : Bool) → with_variable f g b g ≡ b
with_variable-here f g b = ap (λ t. if t then b else f g) (eq-eqb g g refl)

pub with_variable-agrees : (f : ℕ → Bool) (g : ℕ) (b : Bool) → AgreeBelow g f (with_variable f g b)
with_variable-agrees f g b x lt =
    let other : x ≡ g → ⊥ = omega arith in
    ap (λ t. if t then b else f x) (ne_eqb x g other)

-- ---- numbers

pub with_number-agrees : (n : ℕ) (f : ℕ → Bool) (g x : ℕ) → AgreeBelow g f (with_number f g n x)
with_number-agrees zero f g x y lt = refl
with_number-agrees (suc n) f g x y lt =
    with_number-agrees n (with_variable f g (x % 2 == 1)) (suc g) (x / 2) y (omega arith) ∙ with_variable-agrees f g (x % 2 == 1) y lt

-- the new variables mean the number, where it fits them
pub number-with_number : (n : ℕ) (f : ℕ → Bool) (g x : ℕ) → x < 2 ^ n → number (with_number f g n x) (fresh_bits g n) ≡ x
number-with_number zero f g x lt = omega arith
number-with_number (suc n) f g x lt =
    let f' = with_variable f g (x % 2 == 1) in
    let half : x / 2 < 2 ^ n = omega (arith, pow-suc 2 n) in
    let rest = number-with_number n f' (suc g) (x / 2) half in
    let low = ap bit (with_number-agrees n f' (suc g) (x / 2) g (omega arith) ∙ with_variable-here f g (x % 2 == 1)) ∙ bit-parity x in
    omega (arith, rest, low)

-- ---- gates

pub with_gates-agrees : (ks : List GateKind) (f : ℕ → Bool) (g : ℕ) → AgreeBelow g f (with_gates f g ks)
with_gates-agrees [] f g y lt = refl
with_gates-agrees (k ∷ ks) f g y lt =
    with_gates-agrees ks (with_variable f g (gate_value f k)) (suc g) y (omega arith) ∙ with_variable-agrees f g (gate_value f k) y lt

-- the assignment gives each gate's variable the gate's value
pub with_gates-mean : (ks : List GateKind) (f : ℕ → Bool) (g : ℕ) → AreOrdered g ks → HaveMeaning (with_gates f g ks) g ks
with_gates-mean [] f g o = tt
with_gates-mean (k ∷ ks) f g o =
    let f' = with_variable f g (gate_value f k) in
    let all = with_gates-agrees ks f' (suc g) in
    let old : AgreeBelow g f (with_gates f' (suc g) ks) = λ x lt. all x (omega arith) ∙ with_variable-agrees f g (gate_value f k) x lt in (
      all g (omega arith) ∙ with_variable-here f g (gate_value f k) ∙ sym (same_gate_value g f (with_gates f' (suc g) ks) old k o.0),
      with_gates-mean ks f' (suc g) o.1,
    )

-- one variable more on which two assignments agree
AgreeBelow-suc : (g : ℕ) (f v : ℕ → Bool) (b : Bool) → AgreeBelow g f v → v g ≡ b → AgreeBelow (suc g) (with_variable f g b) v
AgreeBelow-suc g f v b a e x lt = go (x == g) refl
  where
    go : (t : Bool) → (x == g) ≡ t → v x ≡ (if t then b else f x)
    go true h = ap v (eqb-true x g h) ∙ e
    go false h = a x (grind (arith, nat_tests))

-- every other assignment in which the gates have their meaning is the same on their variables
pub with_gates-only : (ks : List GateKind) (f v : ℕ → Bool) (g : ℕ) → AreOrdered g ks → AgreeBelow g f v → HaveMeaning v g ks → AgreeBelow (g + length ks) (with_gates f g ks) v
with_gates-only [] f v g o a h = let e : g ≡ g + 0 = omega arith in subst (λ n. AgreeBelow n f v) e a
with_gates-only (k ∷ ks) f v g o a h =
    let here : v g ≡ gate_value f k = h.0 ∙ same_gate_value g f v a k o.0 in
    let e : suc g + length ks ≡ g + suc (length ks) = omega arith in
    subst (λ n. AgreeBelow n (with_gates f g (k ∷ ks)) v) e (with_gates-only ks (with_variable f g (gate_value f k)) v (suc g) o.1 (AgreeBelow-suc g f v (gate_value f k) a here) h.1)

pub gates-IsDetermined : (f : ℕ → Bool) (g : ℕ) (ks : List GateKind) → AreOrdered g ks → IsDetermined f g ks
gates-IsDetermined f g ks o = record {
  keeps = with_gates-agrees ks f g;
  satisfies = (gates_mean (with_gates f g ks) g ks).1 (with_gates-mean ks f g o);
  only = λ v a t. with_gates-only ks f v g o a ((gates_mean v g ks).0 t);
}

-- ---- the clauses are of variables below the next

gate_clauses-below : (g : ℕ) (k : GateKind) → InputsBelow g k → ClausesBelow (suc g) (gate_clauses g k)
gate_clauses-below g (And a b) i =
    let x : a.variable < suc g = omega (arith, i.0) in
    let y : b.variable < suc g = omega (arith, i.1) in
    let z : g < suc g = omega arith in
    ((z, (x, tt)), ((z, (y, tt)), ((z, (x, (y, tt))), tt)))
gate_clauses-below g (Xor a b) i =
    let x : a.variable < suc g = omega (arith, i.0) in
    let y : b.variable < suc g = omega (arith, i.1) in
    let z : g < suc g = omega arith in
    ((z, (x, (y, tt))), ((z, (x, (y, tt))), ((z, (x, (y, tt))), ((z, (x, (y, tt))), tt))))
gate_clauses-below g (Ite c a b) i =
    let w : c.variable < suc g = omega (arith, i.0) in
    let x : a.variable < suc g = omega (arith, i.1) in
    let y : b.variable < suc g = omega (arith, i.2) in
    let z : g < suc g = omega arith in
    ((z, (w, (x, tt))), ((z, (w, (x, tt))), ((z, (w, (y, tt))), ((z, (w, (y, tt))), tt))))

pub gates_clauses-below : (ks : List GateKind) (g : ℕ) → AreOrdered g ks → ClausesBelow (g + length ks) (gates_clauses g ks)
gates_clauses-below [] g o = tt
gates_clauses-below (k ∷ ks) g o =
    let e : suc g + length ks ≡ g + suc (length ks) = omega arith in
    ClausesBelow-append _ (gate_clauses g k) (gates_clauses (suc g) ks)
    (ClausesBelow-more (suc g) _ (omega arith) (gate_clauses g k) (gate_clauses-below g k o.0))
    (subst (λ n. ClausesBelow n (gates_clauses (suc g) ks)) e (gates_clauses-below ks (suc g) o.1))

-- ---- one row of gates after another

pub AreOrdered-append : (ks ls : List GateKind) (g : ℕ) → AreOrdered g ks → AreOrdered (g + length ks) ls → AreOrdered g (ks ++ ls)
AreOrdered-append [] ls g o p = let e : g + 0 ≡ g = omega arith in subst (λ n. AreOrdered n ls) e p
AreOrdered-append (k ∷ ks) ls g o p =
    let e : g + suc (length ks) ≡ suc g + length ks = omega arith in
    (o.0, AreOrdered-append ks ls (suc g) o.1 (subst (λ n. AreOrdered n ls) e p))
