-- A lemma's clause is true where its variables mean what the terms are.
use Rattle.std.proofs.Common.{◌≡◌, ℕ, Bool, true, false, not, ◌||◌, List, [], ◌∷◌, Option, Result, Ok, refl, sym, ap, ◌∙◌}
use Rattle.std.specs.Prelude.{◌==◌, ltb, if◌then◌else◌}
use Rattle.std.specs.List.{AllByRecursion}
use Rattle.std.proofs.lemmas.Bool.{eqb-true}
use Rattle.cnf_base.specs.Literals.{Literal, positive_of}
use Rattle.cnf_base.specs.Clauses.{lit_true, clause_true}
use Rattle.smt_terms.specs.declared.sort.Sort.TheVariants as sort
use Rattle.smt_terms.specs.declared.node.Node.{Node}
use Rattle.smt_terms.specs.Terms.{sort_of, IsTermList}
use Rattle.smt_terms.specs.Values.{Value, Interpretation, is_true, same_value, value}
use Rattle.theory_terms.specs.declared.lemma.Lemma.{Lemma}
use Rattle.theory_terms.specs.declared.atom.Atom.{Atom}
use Rattle.theory_terms.specs.declared.atom.Atom.TheVariants.{Same, Differ, Holds, Fails}
use Rattle.theory_terms.specs.Lemmas.{atom_true, some_true, atoms_of}
use Rattle.theory_terms.specs.Named.{NamesTruth}
use Rattle.theory_terms.proofs.Sound.{same_refl, lemma_sound}
use Rattle.theory_terms.proofs.Truths.{lemma_truths}
use Rattle.theory_lemmas.specs.declared.fault.LemmaFault.{LemmaFault}
use Rattle.theory_lemmas.specs.Clauses.{found_equal, equal_lit, bit_lit, opposite, atom_lit, lits_of, clause_of, Means}
use Rattle.theory_lemmas.proofs.Parts.{found_is, only_is, opposite_is, put_is, atoms_are}

lit_not : (b p : Bool) → (if not p then b else not b) ≡ not (if p then b else not b)
lit_not true true = refl
lit_not true false = refl
lit_not false true = refl
lit_not false false = refl

module _ (f : ℕ → Bool) (nodes : List Node) (v : ℕ → Value) (bits : ℕ → Option (List Literal)) (equals : ℕ → ℕ → Option Literal) (means : Means f (sort_of nodes) v bits equals) where
  equal_means : (t u : ℕ) (l : Literal) → equal_lit equals t u ≡ Ok l → lit_true f l ≡ same_value (v t) (v u)
  equal_means t u l e = go (t == u) refl e where
    ordered : (b : Bool) → (if b then found_equal t u (equals t u) else found_equal u t (equals u t)) ≡ Ok l → lit_true f l ≡ same_value (v t) (v u)
    ordered true h = means.equal t u l (found_is t u (equals t u) l h)
    ordered false h = means.back u t l (found_is u t (equals u t) l h)

    go : (b : Bool) → (t == u) ≡ b → (if b then Ok (positive_of 1) else if ltb t u then found_equal t u (equals t u) else found_equal u t (equals u t)) ≡ Ok l → lit_true f l ≡ same_value (v t) (v u)
    go true q h =
        let same : positive_of 1 ≡ l = cc in
        let is : t ≡ u = eqb-true t u q in
        ap (lit_true f) (sym same) ∙ means.top ∙ sym (same_refl (v t)) ∙ ap (λ k. same_value (v t) (v k)) is
    go false q h = ordered (ltb t u) h

  bit_means : (t : ℕ) (l : Literal) → sort_of nodes t ≡ sort.Bool → bit_lit bits t ≡ Ok l → lit_true f l ≡ is_true (v t)
  bit_means t l s e = means.bit t l s (only_is (bits t) l e)

  opposite_means : (o : Result Literal LemmaFault) (l : Literal) (b : Bool) → ((k : Literal) → o ≡ Ok k → lit_true f k ≡ b) → opposite o ≡ Ok l → lit_true f l ≡ not b
  opposite_means o l b h e =
      let k = opposite_is o l e in
      ap (lit_true f) k.2 ∙ lit_not (f k.0.variable) k.0.positive ∙ ap not (h k.0 k.1)

  atom_means : (a : Atom) (l : Literal) → NamesTruth nodes a → atom_lit bits equals a ≡ Ok l → lit_true f l ≡ atom_true v a
  atom_means (Same t u) l n e = equal_means t u l e
  atom_means (Differ t u) l n e = opposite_means (equal_lit equals t u) l (same_value (v t) (v u)) (equal_means t u) e
  atom_means (Holds t) l n e = bit_means t l n e
  atom_means (Fails t) l n e = opposite_means (bit_lit bits t) l (is_true (v t)) (λ k q. bit_means t k n q) e

  lits_mean : (atoms : List Atom) (c : List Literal) → AllByRecursion (NamesTruth nodes) atoms → lits_of bits equals atoms ≡ Ok c → clause_true f c ≡ some_true v atoms
  lits_mean [] c n e = let same : [] ≡ c = cc in ap (clause_true f) (sym same)
  lits_mean (a ∷ atoms) c n e =
      let p = put_is (atom_lit bits equals a) (lits_of bits equals atoms) c e in
      ap (clause_true f) p.is
      ∙ ap (λ b. b || clause_true f p.rest) (atom_means a p.literal n.0 p.first)
      ∙ ap (λ b. atom_true v a || b) (lits_mean atoms p.rest n.1 p.others)

pub clause_sound : (f : ℕ → Bool) (M : Interpretation) (nodes : List Node) (bits : ℕ → Option (List Literal)) (equals : ℕ → ℕ → Option Literal) (lemma : Lemma) (c : List Literal) → IsTermList nodes → Means f (sort_of nodes) (value M nodes) bits equals → clause_of nodes bits equals lemma ≡ Ok c → clause_true f c ≡ true
clause_sound f M nodes bits equals lemma c terms means e =
    let h = atoms_are bits equals (atoms_of nodes lemma) c e in
    lits_mean f nodes (value M nodes) bits equals means h.atoms c (lemma_truths nodes terms lemma h.atoms h.is) h.literals ∙ lemma_sound M nodes terms lemma h.atoms h.is
