-- Lemmas whose terms have bits.
use Rattle.std.proofs.Common.{◌≡◌, ℕ, zero, suc, List, [], ◌∷◌, ◌++◌, Option, Some, None, refl, sym, ap, subst, ⊎_elim}
use Rattle.std.specs.Prelude.{slice_get}
use Rattle.std.specs.Global.{Vec}
use Rattle.std.specs.List.{AllByRecursion}
use Rattle.smt_terms.specs.declared.node.Node.{Node}
use Rattle.smt_terms.specs.Bits.{TermBits}
use Rattle.theory_terms.specs.declared.atom.Atom.{Atom}
use Rattle.theory_terms.specs.declared.lemma.Lemma.{Lemma}
use Rattle.theory_terms.specs.Lemmas.{atoms_of}
use Rattle.theory_lemmas.specs.Arriving.{AreAtoms}
use Rattle.access_walk.specs.Spread.{IsEncodedLemma, AreEncodedLemmas}
use Rattle.access_walk.specs.Walked.{IsEncodedAtom}
use Rattle.access_walk.proofs.Lists.{member_cases}

pub all_by_places : {A : Type 0} (P : A → Type 0) (xs : List A) → ((k : ℕ) (x : A) → slice_get xs k ≡ Some x → P x) → AllByRecursion P xs
all_by_places P [] h = tt
all_by_places P (x ∷ xs) h = (h zero x refl, all_by_places P xs (λ k y q. h (suc k) y q))

are_atoms : (o : Option (List Atom)) (v : Vec Atom) → AreAtoms o (Some v) → o ≡ Some v.items
are_atoms None v h = absurd h
are_atoms (Some a) v h = ap Some (sym h)

module _ (nodes : List Node) (bits : List TermBits) where
  pub encoded_lemma : (l : Lemma) (v : Vec Atom) → AreAtoms (atoms_of nodes l) (Some v) → AllByRecursion (IsEncodedAtom nodes bits) v.items → IsEncodedLemma nodes bits l
  encoded_lemma l v h all = record { atoms = v.items; are = are_atoms (atoms_of nodes l) v h; encoded = all }

  pub one_more : (old new : List Lemma) (l : Lemma) → AreEncodedLemmas nodes bits old → IsEncodedLemma nodes bits l → new ≡ old ++ l ∷ [] → AreEncodedLemmas nodes bits new
  one_more old new l all one e m c = ⊎_elim (λ h. all m h) (λ same. subst (IsEncodedLemma nodes bits) same one) (member_cases old new l m e c)
