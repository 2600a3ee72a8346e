-- More bits and more variables of equalities leave a clause as it is.
use Rattle.std.proofs.Common.{◌≡◌, ℕ, Bool, true, false, ◌&&◌, List, [], ◌∷◌, Option, Some, Result, Ok, Err, refl, sym, ap, ◌∙◌}
use Rattle.std.specs.Prelude.{◌==◌, ltb, if◌then◌else◌}
use Rattle.std.proofs.lemmas.Bool.{and_parts}
use Rattle.cnf_base.specs.Literals.{Literal, positive_of}
use Rattle.smt_terms.specs.declared.node.Node.{Node}
use Rattle.theory_terms.specs.declared.lemma.Lemma.{Lemma}
use Rattle.theory_terms.specs.declared.atom.Atom.{Atom}
use Rattle.theory_terms.specs.declared.atom.Atom.TheVariants.{Same, Differ, Holds, Fails}
use Rattle.theory_terms.specs.Lemmas.{atoms_of}
use Rattle.theory_lemmas.specs.declared.fault.LemmaFault.{LemmaFault}
use Rattle.theory_lemmas.specs.declared.fault.LemmaFault.TheVariants.{Shape}
use Rattle.theory_lemmas.specs.Clauses.{found_equal, equal_lit, only, bit_lit, opposite, atom_lit, put_lit, lits_of, has_bit, is_shown, are_shown, of_atoms, clause_of}
use Rattle.theory_lemmas.proofs.Parts.{found_is, only_is, opposite_is, put_is, atoms_are}

module _ (bits more : ℕ → Option (List Literal)) (equals others : ℕ → ℕ → Option Literal) (bits_stay : (t : ℕ) (b : List Literal) → bits t ≡ Some b → more t ≡ Some b) (equals_stay : (t u : ℕ) (l : Literal) → equals t u ≡ Some l → others t u ≡ Some l) where
  found_stays : (t u : ℕ) (l : Literal) → found_equal t u (equals t u) ≡ Ok l → found_equal t u (others t u) ≡ Ok l
  found_stays t u l e = ap (found_equal t u) (equals_stay t u l (found_is t u (equals t u) l e))

  equal_stays : (t u : ℕ) (l : Literal) → equal_lit equals t u ≡ Ok l → equal_lit others t u ≡ Ok l
  equal_stays t u l e = go (t == u) (ltb t u) e where
    go : (b c : Bool) → (if b then Ok (positive_of 1) else if c then found_equal t u (equals t u) else found_equal u t (equals u t)) ≡ Ok l → (if b then Ok (positive_of 1) else if c then found_equal t u (others t u) else found_equal u t (others u t)) ≡ Ok l
    go true c h = h
    go false true h = found_stays t u l h
    go false false h = found_stays u t l h

  bit_stays : (t : ℕ) (l : Literal) → bit_lit bits t ≡ Ok l → bit_lit more t ≡ Ok l
  bit_stays t l e = ap only (bits_stay t (l ∷ []) (only_is (bits t) l e))

  opposite_stays : (o w : Result Literal LemmaFault) (l : Literal) → ((k : Literal) → o ≡ Ok k → w ≡ Ok k) → opposite o ≡ Ok l → opposite w ≡ Ok l
  opposite_stays o w l h e = let k = opposite_is o l e in ap opposite (h k.0 k.1) ∙ ap Ok (sym k.2)

  atom_stays : (a : Atom) (l : Literal) → atom_lit bits equals a ≡ Ok l → atom_lit more others a ≡ Ok l
  atom_stays (Same t u) l e = equal_stays t u l e
  atom_stays (Differ t u) l e = opposite_stays (equal_lit equals t u) (equal_lit others t u) l (equal_stays t u) e
  atom_stays (Holds t) l e = bit_stays t l e
  atom_stays (Fails t) l e = opposite_stays (bit_lit bits t) (bit_lit more t) l (bit_stays t) e

  lits_stay : (atoms : List Atom) (c : List Literal) → lits_of bits equals atoms ≡ Ok c → lits_of more others atoms ≡ Ok c
  lits_stay [] c e = e
  lits_stay (a ∷ atoms) c e =
      let p = put_is (atom_lit bits equals a) (lits_of bits equals atoms) c e in
      ap (λ o. put_lit o (lits_of more others atoms)) (atom_stays a p.literal p.first)
      ∙ ap (put_lit (Ok p.literal)) (lits_stay atoms p.rest p.others)
      ∙ ap Ok (sym p.is)

  has_stays : (o w : Result Literal LemmaFault) → ((k : Literal) → o ≡ Ok k → w ≡ Ok k) → has_bit o ≡ true → has_bit w ≡ true
  has_stays (Err x) w h e = let z : ⊥ = cc in absurd z
  has_stays (Ok k) w h e = ap has_bit (h k refl)

  is_shown_more : (a : Atom) → is_shown bits a ≡ true → is_shown more a ≡ true
  is_shown_more (Same t u) e = refl
  is_shown_more (Differ t u) e = refl
  is_shown_more (Holds t) e = has_stays (bit_lit bits t) (bit_lit more t) (bit_stays t) e
  is_shown_more (Fails t) e = has_stays (bit_lit bits t) (bit_lit more t) (bit_stays t) e

  are_shown_more : (atoms : List Atom) → are_shown bits atoms ≡ true → are_shown more atoms ≡ true
  are_shown_more [] e = refl
  are_shown_more (a ∷ atoms) e =
      let p = and_parts (is_shown bits a) (are_shown bits atoms) e in
      ap (λ b. b && are_shown more atoms) (is_shown_more a p.0) ∙ are_shown_more atoms p.1

  of_atoms_stays : (o : Option (List Atom)) (c : List Literal) → of_atoms bits equals o ≡ Ok c → of_atoms more others o ≡ Ok c
  of_atoms_stays o c e =
      let h = atoms_are bits equals o c e in
      ap (of_atoms more others) h.is
      ∙ ap (λ b. if b then lits_of more others h.atoms else Err Shape) (are_shown_more h.atoms h.shown)
      ∙ lits_stay h.atoms c h.literals

  pub clause_stays : (nodes : List Node) (lemma : Lemma) (c : List Literal) → clause_of nodes bits equals lemma ≡ Ok c → clause_of nodes more others lemma ≡ Ok c
  clause_stays nodes lemma c e = of_atoms_stays (atoms_of nodes lemma) c e
