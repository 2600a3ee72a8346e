-- Which steps stay valid where other lemmas and chains stand, and more that makes bits and variables.
use Rattle.std.proofs.Common.{◌≡◌, ℕ, ◌==◌, Bool, true, false, List, [], ◌∷◌, ◌++◌, map, Option, Some, Result, Ok, Err, refl, sym, ap, ap₂, subst, ◌∙◌, inl, inr, ⊎_elim}
use Rattle.std.specs.Prelude.{◌⊎◌, ◌&&◌, ltb, if◌then◌else◌, Contains}
use Rattle.std.proofs.lemmas.Bool.{and_parts}
use Rattle.std.proofs.lemmas.List.Elements.{Contains-append_cases}
use Rattle.cnf_base.specs.Literals.{Literal, negated, positive_of}
use Rattle.cnf_base.specs.declared.clause.ClauseId.{ClauseId}
use Rattle.cnf_base.proofs.Lists.{Contains-nil, Contains-one, Contains-first, Contains-later}
use Rattle.smt_terms.specs.declared.node.Node.{Node}
use Rattle.hint_chain.specs.Chains.{Lookup, ChainFrom, IsChain}
use Rattle.theory_terms.specs.declared.atom.Atom.{Atom}
use Rattle.theory_terms.specs.declared.atom.Atom.TheVariants as atom
use Rattle.theory_terms.specs.declared.lemma.Lemma.{Lemma}
use Rattle.theory_terms.specs.Lemmas.{atoms_of}
use Rattle.theory_lemmas.specs.declared.fault.LemmaFault.{LemmaFault}
use Rattle.theory_lemmas.specs.declared.fault.LemmaFault.TheVariants.{Shape}
use Rattle.theory_lemmas.specs.Clauses.{found_equal, equal_lit, only, bit_lit, opposite, atom_lit, put_lit, lits_of, has_bit, is_shown, are_shown, of_atoms, clause_of}
use Rattle.theory_lemmas.proofs.Parts.{found_is, only_is, opposite_is, put_is, atoms_are}
use Rattle.proof_log.specs.declared.entry.Entry.{Entry}
use Rattle.proof_log.specs.declared.entry.Entry.TheVariants as step
use Rattle.proof_log.specs.Logs.{LogState, IsStep}
use Rattle.proof_log.specs.Meanings.{GivesMore, GivesMorePairs}
use Rattle.proof_text.specs.Deletions.{is_deletable}
use Rattle.trimmed_proofs.proofs.States.{bare}

-- ---- steps that make something

bared : (nodes : List Node) (s : LogState) (e : Entry) → is_deletable (Some e) ≡ false → IsStep nodes s e → IsStep nodes (bare s) e
bared nodes s (step.Node n) m i = i
bared nodes s (step.Leaf t) m i = record { term = i.term; new = i.new; width = i.width; constant = i.constant }
bared nodes s (step.Encode t) m i = record { term = i.term; new = i.new; block = i.block; circuit = i.circuit }
bared nodes s (step.Selector a t) m i = record { term = i.term; sort = i.sort; new = i.new; bit = i.bit; encoded = i.encoded }
bared nodes s (step.Rewrite r) m i = record { ruled = i.ruled; new = i.new; held = i.held }
bared nodes s (step.Equal t u) m i = record {
  pair = record { lower = i.pair.lower; term = i.pair.term; sort = i.pair.sort; left = i.pair.left; right = i.pair.right };
  new = i.new;
}
bared nodes s (step.Lemma l) m i = let z : ⊥ = cc in absurd z
bared nodes s (step.Chain c hints) m i = let z : ⊥ = cc in absurd z

clad : (nodes : List Node) (s : LogState) (e : Entry) → is_deletable (Some e) ≡ false → IsStep nodes (bare s) e → IsStep nodes s e
clad nodes s (step.Node n) m i = i
clad nodes s (step.Leaf t) m i = record { term = i.term; new = i.new; width = i.width; constant = i.constant }
clad nodes s (step.Encode t) m i = record { term = i.term; new = i.new; block = i.block; circuit = i.circuit }
clad nodes s (step.Selector a t) m i = record { term = i.term; sort = i.sort; new = i.new; bit = i.bit; encoded = i.encoded }
clad nodes s (step.Rewrite r) m i = record { ruled = i.ruled; new = i.new; held = i.held }
clad nodes s (step.Equal t u) m i = record {
  pair = record { lower = i.pair.lower; term = i.pair.term; sort = i.pair.sort; left = i.pair.left; right = i.pair.right };
  new = i.new;
}
clad nodes s (step.Lemma l) m i = let z : ⊥ = cc in absurd z
clad nodes s (step.Chain c hints) m i = let z : ⊥ = cc in absurd z

-- a step that is neither a lemma nor a chain is valid whatever the clauses are
pub made_valid : (nodes : List Node) (s r : LogState) (e : Entry) → is_deletable (Some e) ≡ false → bare s ≡ bare r → IsStep nodes s e → IsStep nodes r e
made_valid nodes s r e m h i = clad nodes r e m (subst (λ (x : LogState). IsStep nodes x e) h (bared nodes s e m i))

-- ---- lemmas

-- the literal of an equality, where the terms are the same or in order
abbrev chosen : (ℕ → ℕ → Option Literal) → ℕ → ℕ → Bool → Bool → Result Literal LemmaFault
chosen equals t u same before = if same then Ok (positive_of 1) else if before then found_equal t u (equals t u) else found_equal u t (equals u t)

module _ (bits more : ℕ → Option (List Literal)) (equals others : ℕ → ℕ → Option Literal) (b : GivesMore bits more) (q : GivesMorePairs equals others) where
  found_more : (t u : ℕ) (l : Literal) → found_equal t u (equals t u) ≡ Ok l → found_equal t u (others t u) ≡ Ok l
  found_more t u l e = ap (found_equal t u) (q t u l (found_is t u (equals t u) l e))

  chosen_more : (t u : ℕ) (l : Literal) (c d : Bool) → chosen equals t u c d ≡ Ok l → chosen others t u c d ≡ Ok l
  chosen_more t u l true d e = e
  chosen_more t u l false true e = found_more t u l e
  chosen_more t u l false false e = found_more u t l e

  equal_more : (t u : ℕ) (l : Literal) → equal_lit equals t u ≡ Ok l → equal_lit others t u ≡ Ok l
  equal_more t u l e = chosen_more t u l (t == u) (ltb t u) e

  bit_more : (t : ℕ) (l : Literal) → bit_lit bits t ≡ Ok l → bit_lit more t ≡ Ok l
  bit_more t l e = ap only (b t (l ∷ []) (only_is (bits t) l e))

  opposite_more : (o p : Result Literal LemmaFault) (l : Literal) → ((k : Literal) → o ≡ Ok k → p ≡ Ok k) → opposite o ≡ Ok l → opposite p ≡ Ok l
  opposite_more o p l h e =
      let k = opposite_is o l e in
      ap opposite (h k.0 k.1) ∙ ap Ok (sym k.2)

  atom_more : (a : Atom) (l : Literal) → atom_lit bits equals a ≡ Ok l → atom_lit more others a ≡ Ok l
  atom_more (atom.Same t u) l e = equal_more t u l e
  atom_more (atom.Differ t u) l e = opposite_more (equal_lit equals t u) (equal_lit others t u) l (equal_more t u) e
  atom_more (atom.Holds t) l e = bit_more t l e
  atom_more (atom.Fails t) l e = opposite_more (bit_lit bits t) (bit_lit more t) l (bit_more t) e

  lits_more : (atoms : List Atom) (c : List Literal) → lits_of bits equals atoms ≡ Ok c → lits_of more others atoms ≡ Ok c
  lits_more [] c e = e
  lits_more (a ∷ atoms) c e =
      let p = put_is (atom_lit bits equals a) (lits_of bits equals atoms) c e in
      ap₂ put_lit (atom_more a p.literal p.first) (lits_more atoms p.rest p.others) ∙ ap Ok (sym p.is)

  has_more : (t : ℕ) → has_bit (bit_lit bits t) ≡ true → has_bit (bit_lit more t) ≡ true
  has_more t e = go (bit_lit bits t) refl e
    where
      go : (o : Result Literal LemmaFault) → bit_lit bits t ≡ o → has_bit o ≡ true → has_bit (bit_lit more t) ≡ true
      go (Ok l) h e = ap has_bit (bit_more t l h)
      go (Err f) h e = let z : ⊥ = cc in absurd z

  shown_more : (a : Atom) → is_shown bits a ≡ true → is_shown more a ≡ true
  shown_more (atom.Same t u) e = refl
  shown_more (atom.Differ t u) e = refl
  shown_more (atom.Holds t) e = has_more t e
  shown_more (atom.Fails t) e = has_more t e

  all_shown : (atoms : List Atom) → are_shown bits atoms ≡ true → are_shown more atoms ≡ true
  all_shown [] e = refl
  all_shown (a ∷ atoms) e =
      let both = and_parts (is_shown bits a) (are_shown bits atoms) e in
      ap₂ (λ (x y : Bool). x && y) (shown_more a both.0) (all_shown atoms both.1)

  -- a lemma has the same clause where there are more bits and equalities
  pub lemma_more : (nodes : List Node) (l : Lemma) (c : List Literal) → clause_of nodes bits equals l ≡ Ok c → clause_of nodes more others l ≡ Ok c
  lemma_more nodes l c e =
      let h = atoms_are bits equals (atoms_of nodes l) c e in
      ap (of_atoms more others) h.is
      ∙ ap (λ (x : Bool). if x then lits_of more others h.atoms else Err Shape) (all_shown h.atoms h.shown)
      ∙ lits_more h.atoms c h.literals

-- ---- chains

-- an element of a list is its first or one behind
pub first_or_later : {A : Type 0} (x y : A) (ys : List A) → Contains (x ∷ ys) y → (x ≡ y) ⊎ Contains ys y
first_or_later x y ys m = ⊎_elim (λ one. inl (Contains-one x y one)) (λ more. inr more) (Contains-append_cases (x ∷ []) ys y m)

-- a chain finds the clause of each hint
pub chain_finds : (look : Lookup) (trues : List Literal) (hints : List ClauseId) (i : ClauseId) → ChainFrom look trues hints → Contains hints i → (h : List Literal) × (look i ≡ Some h)
chain_finds look trues [] i c m = absurd c
chain_finds look trues (x ∷ []) i c m = let same = Contains-one x i m in (c.0, ap look (sym same) ∙ c.1)
chain_finds look trues (x ∷ y ∷ is) i c m =
    ⊎_elim (λ same. (c.0, ap look (sym same) ∙ c.2)) (λ more. chain_finds look (trues ++ c.1 ∷ []) (y ∷ is) i c.4 more) (first_or_later x i (y ∷ is) m)

module _ (look more : Lookup) (name : ClauseId → ClauseId) where
  chain_named : (trues : List Literal) (hints : List ClauseId) → ((i : ClauseId) → Contains hints i → more (name i) ≡ look i) → ChainFrom look trues hints → ChainFrom more trues (map name hints)
  chain_named trues [] h c = c
  chain_named trues (i ∷ []) h c = (c.0, h i (Contains-first i []) ∙ c.1, c.2)
  chain_named trues (i ∷ j ∷ is) h c = (c.0, c.1, h i (Contains-first i (j ∷ is)) ∙ c.2, c.3, chain_named (trues ++ c.1 ∷ []) (j ∷ is) (λ k m. h k (Contains-later i k (j ∷ is) m)) c.4)

  -- a chain is one by other names of the same clauses
  pub chain_by_names : (clause : List Literal) (hints : List ClauseId) → ((i : ClauseId) → Contains hints i → more (name i) ≡ look i) → IsChain look clause hints → IsChain more clause (map name hints)
  chain_by_names clause hints h c = ⊎_elim (λ p. inl (p.0, ap (map name) p.1)) (λ p. inr (p.0, chain_named (map negated clause) hints h p.1)) c

-- the hints of a chain find their clauses
pub hint_finds : (look : Lookup) (clause : List Literal) (hints : List ClauseId) (i : ClauseId) → IsChain look clause hints → Contains hints i → (h : List Literal) × (look i ≡ Some h)
hint_finds look clause hints i c m =
    ⊎_elim (λ p. absurd (Contains-nil i (subst (λ (hs : List ClauseId). Contains hs i) p.1 m))) (λ p. chain_finds look (map negated clause) hints i p.1 m) c
