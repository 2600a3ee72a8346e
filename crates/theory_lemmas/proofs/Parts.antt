-- Where the literals of a clause come from.
use Rattle.std.proofs.Common.{◌≡◌, ℕ, Bool, true, false, List, [], ◌∷◌, Option, Some, None, Result, Ok, Err, refl, sym, ap}
use Rattle.std.specs.Prelude.{if◌then◌else◌}
use Rattle.cnf_base.specs.Literals.{Literal, negated}
use Rattle.theory_terms.specs.declared.atom.Atom.{Atom}
use Rattle.theory_lemmas.specs.declared.fault.LemmaFault.{LemmaFault}
use Rattle.theory_lemmas.specs.declared.fault.LemmaFault.TheVariants.{Shape}
use Rattle.theory_lemmas.specs.Clauses.{found_equal, only, opposite, put_lit, lits_of, are_shown, of_atoms}

pub found_is : (t u : ℕ) (o : Option Literal) (l : Literal) → found_equal t u o ≡ Ok l → o ≡ Some l
found_is t u None l e = let z : ⊥ = cc in absurd z
found_is t u (Some k) l e = let same : k ≡ l = cc in ap Some same

pub only_is : (o : Option (List Literal)) (l : Literal) → only o ≡ Ok l → o ≡ Some (l ∷ [])
only_is None l e = let z : ⊥ = cc in absurd z
only_is (Some []) l e = let z : ⊥ = cc in absurd z
only_is (Some (k ∷ [])) l e = let same : k ≡ l = cc in ap (λ (x : Literal). Some (x ∷ [])) same
only_is (Some (k ∷ m ∷ ls)) l e = let z : ⊥ = cc in absurd z

pub opposite_is : (o : Result Literal LemmaFault) (l : Literal) → opposite o ≡ Ok l → (k : Literal) × (o ≡ Ok k) × (l ≡ negated k)
opposite_is (Err x) l e = let z : ⊥ = cc in absurd z
opposite_is (Ok k) l e = let same : negated k ≡ l = cc in (k, refl, sym same)

-- a clause that begins with the literal of an atom
pub record IsPut (o : Result Literal LemmaFault) (w : Result (List Literal) LemmaFault) (c : List Literal) : Type 0 where
  pub literal : Literal
  pub rest : List Literal
  pub first : o ≡ Ok literal
  pub others : w ≡ Ok rest
  pub is : c ≡ literal ∷ rest

pub put_is : (o : Result Literal LemmaFault) (w : Result (List Literal) LemmaFault) (c : List Literal) → put_lit o w ≡ Ok c → IsPut o w c
put_is (Err x) w c e = let z : ⊥ = cc in absurd z
put_is (Ok l) (Err x) c e = let z : ⊥ = cc in absurd z
put_is (Ok l) (Ok d) c e =
    let same : l ∷ d ≡ c = cc in
    record { literal = l; rest = d; first = refl; others = refl; is = sym same }

-- the atoms of a lemma that has a clause
pub record HasAtoms (bits : ℕ → Option (List Literal)) (equals : ℕ → ℕ → Option Literal) (o : Option (List Atom)) (c : List Literal) : Type 0 where
  pub atoms : List Atom
  pub is : o ≡ Some atoms
  pub shown : are_shown bits atoms ≡ true
  pub literals : lits_of bits equals atoms ≡ Ok c

pub atoms_are : (bits : ℕ → Option (List Literal)) (equals : ℕ → ℕ → Option Literal) (o : Option (List Atom)) (c : List Literal) → of_atoms bits equals o ≡ Ok c → HasAtoms bits equals o c
atoms_are bits equals None c e = let z : ⊥ = cc in absurd z
atoms_are bits equals (Some atoms) c e = go (are_shown bits atoms) refl e where
  go : (b : Bool) → are_shown bits atoms ≡ b → (if b then lits_of bits equals atoms else Err Shape) ≡ Ok c → HasAtoms bits equals (Some atoms) c
  go true s q = record { atoms = atoms; is = refl; shown = s; literals = q }
  go false s q = let z : ⊥ = cc in absurd z
