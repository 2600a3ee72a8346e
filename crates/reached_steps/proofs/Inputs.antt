-- Of which variables the literals of rows and the inputs of gates are.
use Rattle.std.proofs.Common.{ℕ, zero, suc, ◌≤◌, List, [], ◌∷◌, ◌++◌, take, drop, arith}
use Rattle.std.specs.Prelude.{map, replicate}
use Rattle.std.specs.List.{AllByRecursion}
use Rattle.cnf_base.specs.Literals.{Literal, negated}
use Rattle.cnf_base.specs.declared.gate.GateKind.{GateKind}
use Rattle.cnf_base.specs.declared.gate.GateKind.TheVariants.{And, Xor, Ite}
use Rattle.cnf_base.specs.Assignments.{fresh_bits}
use Rattle.cnf_base.proofs.Lists.{each_append}
use Rattle.circ_plain.specs.Signs.{sign_of}

-- each literal is of such a variable
abbrev pub AreOf : (ℕ → Type 0) → List Literal → Type 0
AreOf S = AllByRecursion (λ l. S l.variable)

-- the inputs of a gate are
abbrev pub Reads : (ℕ → Type 0) → GateKind → Type 0
Reads S (And a b) = S a.variable × S b.variable
Reads S (Xor a b) = S a.variable × S b.variable
Reads S (Ite c a b) = S c.variable × S a.variable × S b.variable

-- the inputs of each gate are
abbrev pub EachReads : (ℕ → Type 0) → List GateKind → Type 0
EachReads S = AllByRecursion (Reads S)

-- all variables from g on are such
abbrev pub HasFrom : (ℕ → Type 0) → ℕ → Type 0
HasFrom S g = (x : ℕ) → g ≤ x → S x

module _ (S : ℕ → Type 0) where
  pub later : (g h : ℕ) → g ≤ h → HasFrom S g → HasFrom S h
  later g h le up x k = up x (omega arith)

  pub of-append : (a b : List Literal) → AreOf S a → AreOf S b → AreOf S (a ++ b)
  of-append a b h k = each_append (λ l. S l.variable) a b h k

  pub reads-append : (ks ls : List GateKind) → EachReads S ks → EachReads S ls → EachReads S (ks ++ ls)
  reads-append ks ls h k = each_append (Reads S) ks ls h k

  pub of-replicate : (n : ℕ) (l : Literal) → S l.variable → AreOf S (replicate n l)
  of-replicate zero l h = tt
  of-replicate (suc n) l h = (h, of-replicate n l h)

  pub of-take : (n : ℕ) (a : List Literal) → AreOf S a → AreOf S (take n a)
  of-take zero [] h = tt
  of-take zero (l ∷ a) h = tt
  of-take (suc n) [] h = tt
  of-take (suc n) (l ∷ a) h = (h.0, of-take n a h.1)

  pub of-drop : (n : ℕ) (a : List Literal) → AreOf S a → AreOf S (drop n a)
  of-drop zero a h = h
  of-drop (suc n) [] h = tt
  of-drop (suc n) (l ∷ a) h = of-drop n a h.1

  pub of-negated : (a : List Literal) → AreOf S a → AreOf S (map negated a)
  of-negated [] h = tt
  of-negated (l ∷ a) h = (h.0, of-negated a h.1)

  pub of-fresh_bits : (n g : ℕ) → HasFrom S g → AreOf S (fresh_bits g n)
  of-fresh_bits zero g up = tt
  of-fresh_bits (suc n) g up = (up g (omega arith), of-fresh_bits n (suc g) (later g (suc g) (omega arith) up))

  pub of-sign : (a : List Literal) → S 1 → AreOf S a → S (sign_of a).variable
  of-sign [] one h = one
  of-sign (l ∷ []) one h = h.0
  of-sign (l ∷ m ∷ a) one h = of-sign (m ∷ a) one h.1
