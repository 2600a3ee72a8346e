-- Assignments that agree below a variable agree on what is of variables below it.
use Rattle.std.proofs.Common.{◌≡◌, ℕ, zero, suc, ◌+◌, ◌<◌, ◌≤◌, Bool, not, List, [], ◌∷◌, ◌++◌, refl, ap, ◌∙◌, sym, subst, arith, take, drop}
use Rattle.std.specs.Prelude.{if◌then◌else◌, map, replicate}
use Rattle.cnf_base.specs.Literals.{Literal, negated}
use Rattle.cnf_base.specs.Clauses.{lit_true, clause_true, all_true, number}
use Rattle.cnf_base.specs.declared.gate.GateKind.{GateKind}
use Rattle.cnf_base.specs.declared.gate.GateKind.TheVariants.{And, Xor, Ite}
use Rattle.cnf_base.specs.Gates.{gate_value, InputsBelow}
use Rattle.cnf_base.specs.Assignments.{AgreeBelow, AreBelow, ClausesBelow, fresh_bits}

pub AgreeBelow-refl : (n : ℕ) (f : ℕ → Bool) → AgreeBelow n f f
AgreeBelow-refl n f x h = refl

pub AgreeBelow-sym : (n : ℕ) (f g : ℕ → Bool) → AgreeBelow n f g → AgreeBelow n g f
AgreeBelow-sym n f g a x h = sym (a x h)

pub AgreeBelow-then : (n m : ℕ) (f g h : ℕ → Bool) → n ≤ m → AgreeBelow n f g → AgreeBelow m g h → AgreeBelow n f h
AgreeBelow-then n m f g h le a b x lt = b x (omega arith) ∙ a x lt

pub AgreeBelow-fewer : (n m : ℕ) (f g : ℕ → Bool) → n ≤ m → AgreeBelow m f g → AgreeBelow n f g
AgreeBelow-fewer n m f g le a x lt = a x (omega arith)

pub same_lit_true : (n : ℕ) (f g : ℕ → Bool) → AgreeBelow n f g → (l : Literal) → l.variable < n → lit_true g l ≡ lit_true f l
same_lit_true n f g a l h = ap (λ b. if l.positive then b else not b) (a l.variable h)

pub same_clause_true : (n : ℕ) (f g : ℕ → Bool) → AgreeBelow n f g → (c : List Literal) → AreBelow n c → clause_true g c ≡ clause_true f c
same_clause_true n f g a [] h = refl
same_clause_true n f g a (l ∷ c) h = rw (same_lit_true n f g a l h.0, same_clause_true n f g a c h.1) refl

pub same_all_true : (n : ℕ) (f g : ℕ → Bool) → AgreeBelow n f g → (cs : List (List Literal)) → ClausesBelow n cs → all_true g cs ≡ all_true f cs
same_all_true n f g a [] h = refl
same_all_true n f g a (c ∷ cs) h = rw (same_clause_true n f g a c h.0, same_all_true n f g a cs h.1) refl

pub same_number : (n : ℕ) (f g : ℕ → Bool) → AgreeBelow n f g → (bits : List Literal) → AreBelow n bits → number g bits ≡ number f bits
same_number n f g a [] h = refl
same_number n f g a (l ∷ bits) h = rw (same_lit_true n f g a l h.0, same_number n f g a bits h.1) refl

pub same_gate_value : (n : ℕ) (f g : ℕ → Bool) → AgreeBelow n f g → (k : GateKind) → InputsBelow n k → gate_value g k ≡ gate_value f k
same_gate_value n f g a (And x y) i = rw (same_lit_true n f g a x i.0, same_lit_true n f g a y i.1) refl
same_gate_value n f g a (Xor x y) i = rw (same_lit_true n f g a x i.0, same_lit_true n f g a y i.1) refl
same_gate_value n f g a (Ite c x y) i = rw (same_lit_true n f g a c i.0, same_lit_true n f g a x i.1, same_lit_true n f g a y i.2) refl

-- ---- what is below a variable

pub AreBelow-more : (n m : ℕ) → n ≤ m → (c : List Literal) → AreBelow n c → AreBelow m c
AreBelow-more n m le [] h = tt
AreBelow-more n m le (l ∷ c) h = (omega (arith, h.0), AreBelow-more n m le c h.1)

pub ClausesBelow-more : (n m : ℕ) → n ≤ m → (cs : List (List Literal)) → ClausesBelow n cs → ClausesBelow m cs
ClausesBelow-more n m le [] h = tt
ClausesBelow-more n m le (c ∷ cs) h = (AreBelow-more n m le c h.0, ClausesBelow-more n m le cs h.1)

pub AreBelow-append : (n : ℕ) (a b : List Literal) → AreBelow n a → AreBelow n b → AreBelow n (a ++ b)
AreBelow-append n [] b h i = i
AreBelow-append n (l ∷ a) b h i = (h.0, AreBelow-append n a b h.1 i)

pub ClausesBelow-append : (n : ℕ) (cs ds : List (List Literal)) → ClausesBelow n cs → ClausesBelow n ds → ClausesBelow n (cs ++ ds)
ClausesBelow-append n [] ds h i = i
ClausesBelow-append n (c ∷ cs) ds h i = (h.0, ClausesBelow-append n cs ds h.1 i)

pub AreBelow-take : (k n : ℕ) (a : List Literal) → AreBelow n a → AreBelow n (take k a)
AreBelow-take zero n a h = tt
AreBelow-take (suc k) n [] h = tt
AreBelow-take (suc k) n (l ∷ a) h = (h.0, AreBelow-take k n a h.1)

pub AreBelow-drop : (k n : ℕ) (a : List Literal) → AreBelow n a → AreBelow n (drop k a)
AreBelow-drop zero n a h = h
AreBelow-drop (suc k) n [] h = tt
AreBelow-drop (suc k) n (l ∷ a) h = AreBelow-drop k n a h.1

pub AreBelow-replicate : (k n : ℕ) (l : Literal) → l.variable < n → AreBelow n (replicate k l)
AreBelow-replicate zero n l h = tt
AreBelow-replicate (suc k) n l h = (h, AreBelow-replicate k n l h)

pub AreBelow-negated : (n : ℕ) (a : List Literal) → AreBelow n a → AreBelow n (map negated a)
AreBelow-negated n [] h = tt
AreBelow-negated n (l ∷ a) h = (h.0, AreBelow-negated n a h.1)

pub AreBelow-fresh_bits : (n g : ℕ) → AreBelow (g + n) (fresh_bits g n)
AreBelow-fresh_bits zero g = tt
AreBelow-fresh_bits (suc n) g =
    let e : suc g + n ≡ g + suc n = omega arith in
    (omega arith, subst (λ m. AreBelow m (fresh_bits (suc g) n)) e (AreBelow-fresh_bits n (suc g)))
