-- What a lemma wants before its clause may be put.
use mathlib.Core.Path.{fun_ext}
use Rattle.std.proofs.Common.{◌≡◌, ℕ, ◌<◌, ◌≤◌, Bool, true, false, List, [], ◌∷◌, length, Option, Some, None, Result, Ok, Err, refl, sym, ap, ◌∙◌, subst, ⊎_elim, arith}
use Rattle.std.specs.Prelude.{ltb, if◌then◌else◌, IsSome}
use Rattle.std.specs.List.{AllByRecursion}
use Rattle.std.proofs.lemmas.Bool.{ltb-true, lt-ltb, cases_lt}
use Rattle.std.proofs.lemmas.Bool.Decides.{eqb_tells}
use Rattle.cnf_base.specs.Literals.{Literal, positive_of}
use Rattle.cnf_base.proofs.Options.{some_value}
use Rattle.smt_terms.specs.declared.node.Node.{Node}
use Rattle.smt_terms.specs.declared.sort.Sort.TheVariants as sort
use Rattle.smt_terms.specs.Bits.{TermBits, bits_in}
use Rattle.smt_terms.specs.Terms.{TermsValue, IsTermList, sort_of}
use Rattle.theory_terms.specs.declared.lemma.Lemma.{Lemma}
use Rattle.theory_terms.specs.declared.atom.Atom.{Atom}
use Rattle.theory_terms.specs.declared.atom.Atom.TheVariants.{Same, Differ, Holds, Fails}
use Rattle.theory_terms.specs.Lemmas.{atoms_of}
use Rattle.theory_terms.specs.Named.{NamesTruth}
use Rattle.theory_terms.proofs.Truths.{lemma_truths}
use Rattle.theory_lemmas.specs.declared.fault.LemmaFault.{LemmaFault}
use Rattle.theory_lemmas.specs.declared.fault.LemmaFault.TheVariants.{Shape, NoEqual}
use Rattle.theory_lemmas.specs.Clauses.{found_equal, equal_lit, only, bit_lit, opposite, atom_lit, put_lit, lits_of, has_bit, is_shown, are_shown, of_atoms, clause_of, IsClauseOf}
use Rattle.theory_lemmas.specs.declared.fault.LemmaError.TheVariants.{Fault}
use Rattle.theory_lemmas.proofs.Keeping.{clause_stays}
use Rattle.bit_blast.specs.Meanings.{IsRowOf}
use Rattle.proof_log.specs.declared.entry.Entry.{Entry}
use Rattle.proof_log.specs.Logs.{LogState, state_of, IsPair, IsLemma, IsLog}
use Rattle.proof_log.specs.Boards.{AreBitsIn}
use Rattle.proof_log.proofs.Ordered.{log_is_ordered}
use Rattle.access_tables.specs.Held.{HasRow}
use Rattle.access_walk.specs.Walked.{IsEncodedAtom}
use Rattle.theory_search.specs.Theories.{IsNamed, IsReady}

-- ---- atoms whose terms have bits

-- no fault but an equality of terms that may be given a variable
abbrev pub IsMissing : List Node → LogState → LemmaFault → Type 0
IsMissing nodes s Shape = ⊥
IsMissing nodes s (NoEqual t u) = IsPair nodes s t u

module _ (nodes : List Node) (s : LogState) (held : (t : ℕ) → IsSome (s.bits t) → t < length nodes) (equals : ℕ → ℕ → Option Literal) where
  found_misses : (t u : ℕ) (e : LemmaFault) → t < u → IsSome (s.bits t) → IsSome (s.bits u) → sort_of nodes t ≡ sort_of nodes u → (o : Option Literal) → found_equal t u o ≡ Err e → IsMissing nodes s e
  found_misses t u e lt left right same None is =
      let q : NoEqual t u ≡ e = cc in
      subst (IsMissing nodes s) q (record { lower = lt; term = held u right; sort = same; left = left; right = right })
  found_misses t u e lt left right same (Some l) is = let f : ⊥ = cc in absurd f

  equal_misses : (t u : ℕ) (e : LemmaFault) → IsSome (s.bits t) → IsSome (s.bits u) → sort_of nodes t ≡ sort_of nodes u → equal_lit equals t u ≡ Err e → IsMissing nodes s e
  equal_misses t u e left right same is = ⊎_elim
      (λ q. (let one : Ok (positive_of 1) ≡ Err e = sym (ap (λ b. if b then Ok (positive_of 1) else if ltb t u then found_equal t u (equals t u) else found_equal u t (equals u t)) q.0) ∙ is in let f : ⊥ = cc in absurd f))
      (λ q. (let two : (if ltb t u then found_equal t u (equals t u) else found_equal u t (equals u t)) ≡ Err e = sym (ap (λ b. if b then Ok (positive_of 1) else if ltb t u then found_equal t u (equals t u) else found_equal u t (equals u t)) q.0) ∙ is in
      ⊎_elim
      (λ lt. found_misses t u e lt left right same (equals t u) (sym (ap (λ b. if b then found_equal t u (equals t u) else found_equal u t (equals u t)) (lt-ltb t u lt)) ∙ two))
      (λ le. other q.1 le (ltb t u) refl two)
      (cases_lt t u)))
      (eqb_tells t u)
    where
      other : (t ≡ u → ⊥) → u ≤ t → (b : Bool) → ltb t u ≡ b → (if b then found_equal t u (equals t u) else found_equal u t (equals u t)) ≡ Err e → IsMissing nodes s e
      other un le true p h = absurd (let lt = ltb-true t u p in omega (arith, lt, le))
      other un le false p h =
          let less : u < t = ⊎_elim (λ lt. lt) (λ ge. absurd (un (omega (arith, le, ge)))) (cases_lt u t) in
          found_misses u t e less right left (sym same) (equals u t) h

  opposite_misses : (o : Result Literal LemmaFault) (e : LemmaFault) → ((d : LemmaFault) → o ≡ Err d → IsMissing nodes s d) → opposite o ≡ Err e → IsMissing nodes s e
  opposite_misses (Ok l) e h is = let f : ⊥ = cc in absurd f
  opposite_misses (Err d) e h is = let q : d ≡ e = cc in subst (IsMissing nodes s) q (h d refl)

  bit_shown : (t : ℕ) → (l : Literal) × (s.bits t ≡ Some (l ∷ [])) → (e : LemmaFault) → bit_lit s.bits t ≡ Err e → IsMissing nodes s e
  bit_shown t h e is =
      let q : Ok h.0 ≡ Err e = sym (ap only h.1) ∙ is in
      let f : ⊥ = cc in absurd f

  atom_misses : (a : Atom) (e : LemmaFault) → IsNamed nodes s.bits a → atom_lit s.bits equals a ≡ Err e → IsMissing nodes s e
  atom_misses (Same t u) e h is = equal_misses t u e h.0 h.1 h.2 is
  atom_misses (Differ t u) e h is = opposite_misses (equal_lit equals t u) e (λ d q. equal_misses t u d h.0 h.1 h.2 q) is
  atom_misses (Holds t) e h is = bit_shown t h e is
  atom_misses (Fails t) e h is = opposite_misses (bit_lit s.bits t) e (λ d q. bit_shown t h d q) is

  atoms_miss : (atoms : List Atom) (e : LemmaFault) → AllByRecursion (IsNamed nodes s.bits) atoms → lits_of s.bits equals atoms ≡ Err e → IsMissing nodes s e
  atoms_miss [] e h is = let f : ⊥ = cc in absurd f
  atoms_miss (a ∷ atoms) e h is = go (atom_lit s.bits equals a) (lits_of s.bits equals atoms) refl (λ d q. atoms_miss atoms d h.1 q) is
    where
      go : (o : Result Literal LemmaFault) (os : Result (List Literal) LemmaFault) → atom_lit s.bits equals a ≡ o → ((d : LemmaFault) → os ≡ Err d → IsMissing nodes s d) → put_lit o os ≡ Err e → IsMissing nodes s e
      go (Err d) os p ih r = let same : d ≡ e = cc in subst (IsMissing nodes s) same (atom_misses a d h.0 p)
      go (Ok l) (Err d) p ih r = let same : d ≡ e = cc in subst (IsMissing nodes s) same (ih d refl)
      go (Ok l) (Ok c) p ih r = let f : ⊥ = cc in absurd f

  -- ---- each bit that they name is there

  shows : (a : Atom) → IsNamed nodes s.bits a → is_shown s.bits a ≡ true
  shows (Same t u) h = refl
  shows (Differ t u) h = refl
  shows (Holds t) h = ap (λ o. has_bit (only o)) h.1
  shows (Fails t) h = ap (λ o. has_bit (only o)) h.1

  all_show : (atoms : List Atom) → AllByRecursion (IsNamed nodes s.bits) atoms → are_shown s.bits atoms ≡ true
  all_show [] h = refl
  all_show (a ∷ atoms) h = rw (shows a h.0) (all_show atoms h.1)

  pub lemma_misses : (lemma : Lemma) (atoms : List Atom) (e : LemmaFault) → atoms_of nodes lemma ≡ Some atoms → AllByRecursion (IsNamed nodes s.bits) atoms → clause_of nodes s.bits equals lemma ≡ Err e → IsMissing nodes s e
  lemma_misses lemma atoms e are h is =
      atoms_miss atoms e h
      (sym (ap (λ b. if b then lits_of s.bits equals atoms else Err Shape) (all_show atoms h)) ∙ sym (ap (of_atoms s.bits equals) are) ∙ is)

-- ---- on a board

module _ (nodes : List Node) (terms : IsTermList nodes) (log : List Entry) (stands : IsLog nodes log) (bits : List TermBits) (are : AreBitsIn nodes log bits) (lemma : Lemma) where
  rows : bits_in bits ≡ (state_of nodes log).bits
  rows = fun_ext are

  within : (t : ℕ) → IsSome ((state_of nodes log).bits t) → t < length nodes
  within t has = let b = some_value ((state_of nodes log).bits t) has in ((log_is_ordered nodes log terms stands).bits t b.0 b.1).0

  pub fault_misses : (equals : ℕ → ℕ → Option Literal) (e : LemmaFault) → IsReady nodes log lemma → clause_of nodes (bits_in bits) equals lemma ≡ Err e → IsMissing nodes (state_of nodes log) e
  fault_misses equals e ready is =
      lemma_misses nodes (state_of nodes log) within equals lemma ready.atoms e ready.are ready.named (ap (λ f. clause_of nodes f equals lemma) (sym rows) ∙ is)

  pub clause_stands : (equals : ℕ → ℕ → Option Literal) (c : List Literal) → ((t u : ℕ) (l : Literal) → equals t u ≡ Some l → (state_of nodes log).equals t u ≡ Some l) → clause_of nodes (bits_in bits) equals lemma ≡ Ok c → IsLemma nodes (state_of nodes log) lemma
  clause_stands equals c more is = record {
    clause = c;
    is = clause_stays (bits_in bits) (state_of nodes log).bits equals (state_of nodes log).equals (λ t b e. sym (are t) ∙ e) more nodes lemma c is;
  }

-- what code tells of the clause
module _ (own : List Node) (terms : TermsValue) (e : own ≡ terms.nodes) (listed : IsTermList terms.nodes) (log : List Entry) (stands : IsLog own log) (bits : List TermBits) (are : AreBitsIn own log bits) (lemma : Lemma) (equals : ℕ → ℕ → Option Literal) where
  own_listed : IsTermList own
  own_listed = subst IsTermList (sym e) listed

  told_fault : (o : Result (List Literal) LemmaFault) (f : LemmaFault) → IsClauseOf o (Err (Fault f)) → o ≡ Err f
  told_fault (Ok c) f h = absurd h
  told_fault (Err d) f h = ap Err h

  told_clause : (o : Result (List Literal) LemmaFault) (c : List Literal) → IsClauseOf o (Ok c) → o ≡ Ok c
  told_clause (Ok c) d h = ap Ok (sym h)
  told_clause (Err f) d h = absurd h

  pub shape_never : IsReady own log lemma → IsClauseOf (clause_of terms.nodes (bits_in bits) equals lemma) (Err (Fault Shape)) → ⊥
  shape_never ready h = fault_misses own own_listed log stands bits are lemma equals Shape ready (ap (λ ns. clause_of ns (bits_in bits) equals lemma) e ∙ told_fault (clause_of terms.nodes (bits_in bits) equals lemma) Shape h)

  pub pair_wanted : (t u : ℕ) → IsReady own log lemma → IsClauseOf (clause_of terms.nodes (bits_in bits) equals lemma) (Err (Fault (NoEqual t u))) → IsPair own (state_of own log) t u
  pair_wanted t u ready h = fault_misses own own_listed log stands bits are lemma equals (NoEqual t u) ready (ap (λ ns. clause_of ns (bits_in bits) equals lemma) e ∙ told_fault (clause_of terms.nodes (bits_in bits) equals lemma) (NoEqual t u) h)

  pub lemma_stands : (c : List Literal) → ((t u : ℕ) (l : Literal) → equals t u ≡ Some l → (state_of own log).equals t u ≡ Some l) → IsClauseOf (clause_of terms.nodes (bits_in bits) equals lemma) (Ok c) → IsLemma own (state_of own log) lemma
  lemma_stands c more h = clause_stands own own_listed log stands bits are lemma equals c more (ap (λ ns. clause_of ns (bits_in bits) equals lemma) e ∙ told_clause (clause_of terms.nodes (bits_in bits) equals lemma) c h)

-- ---- lemmas of a walk

has_bits : (nodes : List Node) (log : List Entry) (bits : List TermBits) → AreBitsIn nodes log bits → (t : ℕ) → HasRow nodes bits t → IsSome ((state_of nodes log).bits t)
has_bits nodes log bits are t h = subst IsSome (are t) (subst IsSome (sym h.1) refl)

one_long : (row : List Literal) → length row ≡ 1 → (l : Literal) × (row ≡ l ∷ [])
one_long [] e = absurd (omega (arith, e))
one_long (l ∷ []) e = (l, refl)
one_long (l ∷ k ∷ ks) e = absurd (omega (arith, e))

one_bit : (nodes : List Node) (log : List Entry) (bits : List TermBits) → AreBitsIn nodes log bits → (t : ℕ) → sort_of nodes t ≡ sort.Bool → HasRow nodes bits t → (l : Literal) × ((state_of nodes log).bits t ≡ Some (l ∷ []))
one_bit nodes log bits are t bool h =
    let long : length h.0 ≡ 1 = subst (λ q. IsRowOf q h.0) bool h.2 in
    let o = one_long h.0 long in
    (o.0, sym (are t) ∙ h.1 ∙ ap Some o.1)

named_atom : (nodes : List Node) (log : List Entry) (bits : List TermBits) → AreBitsIn nodes log bits → (a : Atom) → NamesTruth nodes a → IsEncodedAtom nodes bits a → IsNamed nodes (state_of nodes log).bits a
named_atom nodes log bits are (Same t u) truth h = (has_bits nodes log bits are t h.0, has_bits nodes log bits are u h.1, h.2)
named_atom nodes log bits are (Differ t u) truth h = (has_bits nodes log bits are t h.0, has_bits nodes log bits are u h.1, h.2)
named_atom nodes log bits are (Holds t) truth h = one_bit nodes log bits are t truth h
named_atom nodes log bits are (Fails t) truth h = one_bit nodes log bits are t truth h

named_atoms : (nodes : List Node) (log : List Entry) (bits : List TermBits) → AreBitsIn nodes log bits → (atoms : List Atom) → AllByRecursion (NamesTruth nodes) atoms → AllByRecursion (IsEncodedAtom nodes bits) atoms → AllByRecursion (IsNamed nodes (state_of nodes log).bits) atoms
named_atoms nodes log bits are [] truths h = tt
named_atoms nodes log bits are (a ∷ atoms) truths h = (named_atom nodes log bits are a truths.0 h.0, named_atoms nodes log bits are atoms truths.1 h.1)

pub encoded_ready : (nodes : List Node) → IsTermList nodes → (log : List Entry) (bits : List TermBits) → AreBitsIn nodes log bits → (lemma : Lemma) (atoms : List Atom) → atoms_of nodes lemma ≡ Some atoms → AllByRecursion (IsEncodedAtom nodes bits) atoms → IsReady nodes log lemma
encoded_ready nodes terms log bits are lemma atoms is h = record {
  atoms = atoms;
  are = is;
  named = named_atoms nodes log bits are atoms (lemma_truths nodes terms lemma atoms is) h;
}
