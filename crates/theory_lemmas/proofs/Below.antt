-- A clause is of variables below a number, where those of bits and of equalities are.
use Rattle.std.proofs.Common.{◌≡◌, ℕ, ◌<◌, Bool, true, false, List, [], ◌∷◌, Option, Some, Result, Ok, sym, subst}
use Rattle.std.specs.Prelude.{◌==◌, ltb, if◌then◌else◌}
use Rattle.cnf_base.specs.Literals.{Literal, positive_of}
use Rattle.cnf_base.specs.Assignments.{AreBelow}
use Rattle.smt_terms.specs.declared.node.Node.{Node}
use Rattle.theory_terms.specs.declared.lemma.Lemma.{Lemma}
use Rattle.theory_terms.specs.declared.atom.Atom.{Atom}
use Rattle.theory_terms.specs.declared.atom.Atom.TheVariants.{Same, Differ, Holds, Fails}
use Rattle.theory_terms.specs.Lemmas.{atoms_of}
use Rattle.theory_lemmas.specs.declared.fault.LemmaFault.{LemmaFault}
use Rattle.theory_lemmas.specs.Clauses.{found_equal, equal_lit, bit_lit, opposite, atom_lit, lits_of, clause_of}
use Rattle.theory_lemmas.proofs.Parts.{found_is, only_is, opposite_is, put_is, atoms_are}

module _ (n : ℕ) (bits : ℕ → Option (List Literal)) (equals : ℕ → ℕ → Option Literal) (top : 1 < n) (bits_below : (t : ℕ) (b : List Literal) → bits t ≡ Some b → AreBelow n b) (equals_below : (t u : ℕ) (l : Literal) → equals t u ≡ Some l → l.variable < n) where
  abbrev IsBelow : Literal → Type 0
  IsBelow l = l.variable < n

  equal_below : (t u : ℕ) (l : Literal) → equal_lit equals t u ≡ Ok l → IsBelow l
  equal_below t u l e = go (t == u) (ltb t u) e where
    go : (b c : Bool) → (if b then Ok (positive_of 1) else if c then found_equal t u (equals t u) else found_equal u t (equals u t)) ≡ Ok l → IsBelow l
    go true c h = let same : positive_of 1 ≡ l = cc in subst IsBelow same top
    go false true h = equals_below t u l (found_is t u (equals t u) l h)
    go false false h = equals_below u t l (found_is u t (equals u t) l h)

  bit_below : (t : ℕ) (l : Literal) → bit_lit bits t ≡ Ok l → IsBelow l
  bit_below t l e = (bits_below t (l ∷ []) (only_is (bits t) l e)).0

  opposite_below : (o : Result Literal LemmaFault) (l : Literal) → ((k : Literal) → o ≡ Ok k → IsBelow k) → opposite o ≡ Ok l → IsBelow l
  opposite_below o l h e = let k = opposite_is o l e in subst IsBelow (sym k.2) (h k.0 k.1)

  atom_below : (a : Atom) (l : Literal) → atom_lit bits equals a ≡ Ok l → IsBelow l
  atom_below (Same t u) l e = equal_below t u l e
  atom_below (Differ t u) l e = opposite_below (equal_lit equals t u) l (equal_below t u) e
  atom_below (Holds t) l e = bit_below t l e
  atom_below (Fails t) l e = opposite_below (bit_lit bits t) l (bit_below t) e

  lits_below : (atoms : List Atom) (c : List Literal) → lits_of bits equals atoms ≡ Ok c → AreBelow n c
  lits_below [] c e = let same : [] ≡ c = cc in subst (AreBelow n) same tt
  lits_below (a ∷ atoms) c e =
      let p = put_is (atom_lit bits equals a) (lits_of bits equals atoms) c e in
      let all : AreBelow n (p.literal ∷ p.rest) = (atom_below a p.literal p.first, lits_below atoms p.rest p.others) in
      subst (AreBelow n) (sym p.is) all

  pub clause_below : (nodes : List Node) (lemma : Lemma) (c : List Literal) → clause_of nodes bits equals lemma ≡ Ok c → AreBelow n c
  clause_below nodes lemma c e =
      let h = atoms_are bits equals (atoms_of nodes lemma) c e in
      lits_below h.atoms c h.literals
