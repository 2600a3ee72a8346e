-- Lists of arguments, atoms and literals, one element after the other.
use Rattle.std.proofs.Common.{◌≡◌, ℕ, zero, suc, ◌≤◌, Bool, ◌&&◌, List, [], ◌∷◌, ◌++◌, length, Option, Some, None, Result, Ok, Err, refl, sym, ap, ◌∙◌, arith}
use Rattle.std.specs.Prelude.{drop, slice_get}
use Rattle.std.proofs.lemmas.List.{append_assoc, append-nil}
use Rattle.cnf_base.specs.Literals.{Literal}
use Rattle.theory_terms.specs.declared.atom.Atom.{Atom}
use Rattle.theory_terms.specs.declared.atom.Atom.TheVariants.{Differ}
use Rattle.theory_terms.specs.Lemmas.{put_front, pairs_atoms}
use Rattle.theory_lemmas.specs.declared.fault.LemmaFault.{LemmaFault}
use Rattle.theory_lemmas.specs.Clauses.{atom_lit, put_lit, lits_of, is_shown, are_shown}

pub drop_next : {A : Type 0} (xs : List A) (n : ℕ) (x : A) → slice_get xs n ≡ Some x → drop n xs ≡ x ∷ drop (suc n) xs
drop_next [] n x e = let f : ⊥ = cc in absurd f
drop_next (y ∷ xs) zero x e = let same : y ≡ x = cc in ap (λ k. k ∷ xs) same
drop_next (y ∷ xs) (suc n) x e = drop_next xs n x e

pub drop_all : {A : Type 0} (xs : List A) (n : ℕ) → length xs ≤ n → drop n xs ≡ []
drop_all [] zero le = refl
drop_all [] (suc n) le = refl
drop_all (x ∷ xs) zero le = absurd (omega arith)
drop_all (x ∷ xs) (suc n) le = drop_all xs n (omega arith)

pub pairs_unequal : (xs ys : List ℕ) (last : List Atom) → (length xs ≡ length ys → ⊥) → pairs_atoms xs ys last ≡ None
pairs_unequal [] [] last ne = absurd (ne refl)
pairs_unequal [] (y ∷ ys) last ne = refl
pairs_unequal (x ∷ xs) [] last ne = refl
pairs_unequal (x ∷ xs) (y ∷ ys) last ne = ap (put_front (Differ x y)) (pairs_unequal xs ys last (λ e. ne (ap suc e)))

abbrev pub fronted : List Atom → Option (List Atom) → Option (List Atom)
fronted done None = None
fronted done (Some r) = Some (done ++ r)

abbrev pub IsPaired : List ℕ → List ℕ → List Atom → List Atom → ℕ → Type 0
IsPaired xs ys last done n = pairs_atoms xs ys last ≡ fronted done (pairs_atoms (drop n xs) (drop n ys) last)

pub paired_first : (xs ys : List ℕ) (last : List Atom) → IsPaired xs ys last [] 0
paired_first xs ys last = same (pairs_atoms xs ys last) where
  same : (o : Option (List Atom)) → o ≡ fronted [] o
  same None = refl
  same (Some r) = refl

pub paired_next : (xs ys : List ℕ) (last done : List Atom) (n x y : ℕ) → slice_get xs n ≡ Some x → slice_get ys n ≡ Some y → IsPaired xs ys last done n → IsPaired xs ys last (done ++ Differ x y ∷ []) (suc n)
paired_next xs ys last done n x y ex ey h = h ∙ rw (drop_next xs n x ex, drop_next ys n y ey) (join (pairs_atoms (drop (suc n) xs) (drop (suc n) ys) last)) where
  join : (o : Option (List Atom)) → fronted done (put_front (Differ x y) o) ≡ fronted (done ++ Differ x y ∷ []) o
  join None = refl
  join (Some r) = ap Some (sym (append_assoc done (Differ x y ∷ []) r))

pub paired_last : (xs ys : List ℕ) (last done : List Atom) (n : ℕ) → length xs ≤ n → length ys ≤ n → IsPaired xs ys last done n → pairs_atoms xs ys last ≡ Some (done ++ last)
paired_last xs ys last done n le le' h = h ∙ rw (drop_all xs n le, drop_all ys n le') refl

module _ (bits : ℕ → Option (List Literal)) where
  pub shown_next : (atoms : List Atom) (n : ℕ) (a : Atom) (b : Bool) → slice_get atoms n ≡ Some a → is_shown bits a ≡ b → are_shown bits (drop n atoms) ≡ (b && are_shown bits (drop (suc n) atoms))
  shown_next atoms n a b at e = ap (are_shown bits) (drop_next atoms n a at) ∙ ap (λ c. c && are_shown bits (drop (suc n) atoms)) e

  module _ (equals : ℕ → ℕ → Option Literal) where
    abbrev pub put_all : List Literal → Result (List Literal) LemmaFault → Result (List Literal) LemmaFault
    put_all done (Err e) = Err e
    put_all done (Ok r) = Ok (done ++ r)

    abbrev pub IsRead : List Atom → List Literal → ℕ → Type 0
    IsRead atoms done n = lits_of bits equals atoms ≡ put_all done (lits_of bits equals (drop n atoms))

    pub read_first : (atoms : List Atom) → IsRead atoms [] 0
    read_first atoms = same (lits_of bits equals atoms) where
      same : (o : Result (List Literal) LemmaFault) → o ≡ put_all [] o
      same (Err e) = refl
      same (Ok r) = refl

    pub read_next : (atoms : List Atom) (done : List Literal) (n : ℕ) (a : Atom) (l : Literal) → slice_get atoms n ≡ Some a → atom_lit bits equals a ≡ Ok l → IsRead atoms done n → IsRead atoms (done ++ l ∷ []) (suc n)
    read_next atoms done n a l at e h =
        h ∙ ap (λ xs. put_all done (lits_of bits equals xs)) (drop_next atoms n a at) ∙ ap (λ o. put_all done (put_lit o (lits_of bits equals (drop (suc n) atoms)))) e ∙ join (lits_of bits equals (drop (suc n) atoms)) where
          join : (o : Result (List Literal) LemmaFault) → put_all done (put_lit (Ok l) o) ≡ put_all (done ++ l ∷ []) o
          join (Err f) = refl
          join (Ok r) = ap Ok (sym (append_assoc done (l ∷ []) r))

    pub read_fault : (atoms : List Atom) (done : List Literal) (n : ℕ) (a : Atom) (f : LemmaFault) → slice_get atoms n ≡ Some a → atom_lit bits equals a ≡ Err f → IsRead atoms done n → lits_of bits equals atoms ≡ Err f
    read_fault atoms done n a f at e h =
        h ∙ ap (λ xs. put_all done (lits_of bits equals xs)) (drop_next atoms n a at) ∙ ap (λ o. put_all done (put_lit o (lits_of bits equals (drop (suc n) atoms)))) e

    pub read_last : (atoms : List Atom) (done : List Literal) (n : ℕ) → length atoms ≤ n → IsRead atoms done n → lits_of bits equals atoms ≡ Ok done
    read_last atoms done n le h = h ∙ ap (λ xs. put_all done (lits_of bits equals xs)) (drop_all atoms n le) ∙ ap Ok (append-nil done)
