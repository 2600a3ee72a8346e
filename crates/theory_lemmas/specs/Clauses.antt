-- The clause of a lemma: a literal for each atom.
use Rattle.std.specs.Prelude.{◌≡◌, ℕ, ◌==◌, ltb, Bool, true, false, ◌&&◌, if◌then◌else◌, List, [], ◌∷◌, Option, Some, None, Result, Ok, Err}
use Rattle.cnf_base.specs.Literals.{Literal, positive_of, negated}
use Rattle.cnf_base.specs.Clauses.{lit_true}
use Rattle.smt_terms.specs.declared.sort.Sort.{Sort}
use Rattle.smt_terms.specs.declared.sort.Sort.TheVariants as sort
use Rattle.smt_terms.specs.declared.node.Node.{Node}
use Rattle.smt_terms.specs.Values.{Value, is_true, same_value}
use Rattle.theory_terms.specs.declared.lemma.Lemma.{Lemma}
use Rattle.theory_terms.specs.declared.atom.Atom.{Atom}
use Rattle.theory_terms.specs.declared.atom.Atom.TheVariants.{Same, Differ, Holds, Fails}
use Rattle.theory_terms.specs.Lemmas.{atoms_of}
use Rattle.theory_lemmas.specs.declared.fault.LemmaError.{LemmaError}
use Rattle.theory_lemmas.specs.declared.fault.LemmaError.TheVariants.{NoMemory, Fault}
use Rattle.theory_lemmas.specs.declared.fault.LemmaFault.{LemmaFault}
use Rattle.theory_lemmas.specs.declared.fault.LemmaFault.TheVariants.{Shape, NoEqual}

-- the literal of the equality of a lower and a higher term, or that it has none
abbrev pub found_equal : ℕ → ℕ → Option Literal → Result Literal LemmaFault
found_equal t u None = Err (NoEqual t u)
found_equal t u (Some l) = Ok l

-- the literal that is true where two terms are equal: of a term with itself the true one, else that of the equality's variable
abbrev pub equal_lit : (ℕ → ℕ → Option Literal) → ℕ → ℕ → Result Literal LemmaFault
equal_lit equals t u = if t == u then Ok (positive_of 1) else if ltb t u then found_equal t u (equals t u) else found_equal u t (equals u t)

-- the one literal of a term's bits
abbrev pub only : Option (List Literal) → Result Literal LemmaFault
only None = Err Shape
only (Some []) = Err Shape
only (Some (l ∷ [])) = Ok l
only (Some (l ∷ k ∷ ls)) = Err Shape

abbrev pub bit_lit : (ℕ → Option (List Literal)) → ℕ → Result Literal LemmaFault
bit_lit bits t = only (bits t)

abbrev pub opposite : Result Literal LemmaFault → Result Literal LemmaFault
opposite (Err e) = Err e
opposite (Ok l) = Ok (negated l)

-- the literal of an atom
abbrev pub atom_lit : (ℕ → Option (List Literal)) → (ℕ → ℕ → Option Literal) → Atom → Result Literal LemmaFault
atom_lit bits equals (Same t u) = equal_lit equals t u
atom_lit bits equals (Differ t u) = opposite (equal_lit equals t u)
atom_lit bits equals (Holds t) = bit_lit bits t
atom_lit bits equals (Fails t) = opposite (bit_lit bits t)

abbrev pub put_lit : Result Literal LemmaFault → Result (List Literal) LemmaFault → Result (List Literal) LemmaFault
put_lit (Err e) c = Err e
put_lit (Ok l) (Err e) = Err e
put_lit (Ok l) (Ok c) = Ok (l ∷ c)

-- the literals of all atoms, or the first fault
abbrev pub lits_of : (ℕ → Option (List Literal)) → (ℕ → ℕ → Option Literal) → List Atom → Result (List Literal) LemmaFault
lits_of bits equals [] = Ok []
lits_of bits equals (a ∷ atoms) = put_lit (atom_lit bits equals a) (lits_of bits equals atoms)

abbrev pub has_bit : Result Literal LemmaFault → Bool
has_bit (Ok l) = true
has_bit (Err e) = false

-- the terms of which an atom names the bit have one
abbrev pub is_shown : (ℕ → Option (List Literal)) → Atom → Bool
is_shown bits (Same t u) = true
is_shown bits (Differ t u) = true
is_shown bits (Holds t) = has_bit (bit_lit bits t)
is_shown bits (Fails t) = has_bit (bit_lit bits t)

abbrev pub are_shown : (ℕ → Option (List Literal)) → List Atom → Bool
are_shown bits [] = true
are_shown bits (a ∷ atoms) = is_shown bits a && are_shown bits atoms

-- the literals of these atoms, if each bit that they name is there
abbrev pub of_atoms : (ℕ → Option (List Literal)) → (ℕ → ℕ → Option Literal) → Option (List Atom) → Result (List Literal) LemmaFault
of_atoms bits equals None = Err Shape
of_atoms bits equals (Some atoms) = if are_shown bits atoms then lits_of bits equals atoms else Err Shape

-- the clause of a lemma, or its fault: first its shape, then the first equality without a variable
abbrev pub clause_of : List Node → (ℕ → Option (List Literal)) → (ℕ → ℕ → Option Literal) → Lemma → Result (List Literal) LemmaFault
clause_of nodes bits equals lemma = of_atoms bits equals (atoms_of nodes lemma)

-- The variables mean what the terms are: 1 is true, a Bool's bit is its truth value, and an equality's literal tells
-- whether two terms have one value, whichever is named first.
pub record Means (f : ℕ → Bool) (sorts : ℕ → Sort) (v : ℕ → Value) (bits : ℕ → Option (List Literal)) (equals : ℕ → ℕ → Option Literal) : Type 0 where
  pub top : f 1 ≡ true
  pub bit : (t : ℕ) (l : Literal) → sorts t ≡ sort.Bool → bits t ≡ Some (l ∷ []) → lit_true f l ≡ is_true (v t)
  pub equal : (t u : ℕ) (l : Literal) → equals t u ≡ Some l → lit_true f l ≡ same_value (v t) (v u)
  pub back : (t u : ℕ) (l : Literal) → equals t u ≡ Some l → lit_true f l ≡ same_value (v u) (v t)

-- the answer of code: the literals or the fault, or want of memory
abbrev pub IsClauseOf : Result (List Literal) LemmaFault → Result (List Literal) LemmaError → Type 0
IsClauseOf (Ok c) (Ok d) = d ≡ c
IsClauseOf (Err e) (Ok d) = ⊥
IsClauseOf (Ok c) (Err (Fault f)) = ⊥
IsClauseOf (Err e) (Err (Fault f)) = e ≡ f
IsClauseOf (Ok c) (Err NoMemory) = Unit {0}
IsClauseOf (Err e) (Err NoMemory) = Unit {0}
