-- What is walkable over reached terms, and lemmas behind others.
use Rattle.std.proofs.Common.{◌≡◌, ℕ, Bool, List, [], ◌∷◌, ◌++◌, length, Some, refl, sym, subst, inl, inr, ⊎_elim, arith}
use Rattle.std.specs.Prelude.{Contains, slice_get}
use Rattle.std.proofs.lemmas.List.Elements.{Contains-append_left, Contains-append_right, Contains-append_cases}
use Rattle.smt_terms.specs.declared.sort.Sort.TheVariants as sort
use Rattle.smt_terms.specs.declared.node.Node.{Node}
use Rattle.smt_terms.specs.Bits.{TermBits, image_in}
use Rattle.smt_terms.specs.Terms.{sort_of}
use Rattle.smt_terms.specs.Values.{Value}
use Rattle.theory_terms.specs.declared.lemma.Lemma.{Lemma}
use Rattle.theory_terms.specs.declared.lemma.Lemma.TheVariants.{Congruence, Witness}
use Rattle.theory_terms.specs.declared.shape.Shape.TheVariants.{Filling}
use Rattle.theory_terms.specs.Shapes.{shape_at}
use Rattle.term_reach.specs.Reach.{IsClosed, IsReach}
use Rattle.term_reach.proofs.Ways.{reached_further}
use Rattle.access_tables.specs.Leading.{leads}
use Rattle.access_tables.specs.Encoded.{HaveBits}
use Rattle.access_tables.specs.Held.{assigned_value}
use Rattle.access_tables.specs.Ready.{IsOwn}
use Rattle.access_walk.specs.Networks.{AreApart, AreCongruent}
use Rattle.access_walk.specs.Walked.{IsWalkable, HasHeldWords, IsFalseLemma}
use Rattle.access_walk.specs.Watched.{HaveWatches, AreWitnessConflicts}
use Rattle.access_walk.specs.Congruent.{HasConflict, AreCongruenceConflicts}
use Rattle.access_walk.specs.Searched.{AreAllConflicts, IsNoClash, AreNoClashes}
use Rattle.access_walk.specs.Spread.{AreFewClashes}
use Rattle.access_walk.proofs.Lists.{not_nil}

-- ---- conditions

module _ (nodes : List Node) (bits : List TermBits) (live terms : List ℕ) (walkable : IsWalkable nodes bits live) (reach : IsReach (leads nodes (image_in bits)) live terms) where
  pub bits_here : HaveBits nodes bits (Contains terms)
  bits_here = record {
    held = λ t c. walkable.bits_are.held t (reach.only t c);
    acyclic = walkable.bits_are.acyclic;
    images = walkable.bits_are.images;
    rows = λ t c p. walkable.bits_are.rows t (reach.only t c) p;
    alone = walkable.bits_are.alone;
  }

  pub closed_here : IsClosed (leads nodes (image_in bits)) (Contains terms)
  closed_here t u c n = reach.all u (reached_further (leads nodes (image_in bits)) live t u (reach.only t c) n)

  pub watches_here : HaveWatches nodes bits (Contains terms)
  watches_here t a b n m own shape sides = walkable.watches t a b n m (reach.only t own.0, own.1) shape sides

  pub words_here : (t x n m : ℕ) → IsOwn (Contains terms) (image_in bits) t → shape_at nodes t ≡ Filling x → sort_of nodes t ≡ sort.Array n m → HasHeldWords nodes bits (Contains terms) n
  words_here t x n m own shape array =
      let h = walkable.words t x n m (reach.only t own.0, own.1) shape array in
      record {
        indexes = h.indexes;
        among = λ u l o s i. h.among u l (reach.only u o.0, o.1) s i;
        words = h.words;
      }

-- ---- conflicts

module _ (nodes : List Node) (bits : List TermBits) (f : ℕ → Bool) (Here : ℕ → Type 0) where
  has_more : (old more : List Lemma) (t : ℕ) → HasConflict nodes bits f Here old t → HasConflict nodes bits f Here (old ++ more) t
  has_more old more t h = (h.0, h.1, Contains-append_left old more (Congruence h.0 h.1) h.2, h.3)

  pub all_of_both : (old more new : List Lemma) → new ≡ old ++ more → AreCongruenceConflicts nodes bits f Here old → AreWitnessConflicts nodes bits f Here more → AreAllConflicts nodes bits f Here new
  all_of_both old more new e a b = subst (AreAllConflicts nodes bits f Here) (sym e) (record {
    falses = λ l c. ⊎_elim (λ h. (a.each l h).falses) (λ h. (b.each l h).falses) (Contains-append_cases old more l c);
    congruent = λ t u h. ⊎_elim (λ same. inl same) (λ c. inr (has_more old more t c)) (a.all t u h);
    apart = λ t x y n m own shape sides denied. ⊎_elim (λ p. inl p) (λ c. inr (Contains-append_right old more (Witness t) c)) (b.all t x y n m own shape sides denied);
  })

  pub more_falses : (old more new : List Lemma) → new ≡ old ++ more → AreAllConflicts nodes bits f Here old → ((l : Lemma) → Contains more l → IsFalseLemma nodes bits f l) → AreAllConflicts nodes bits f Here new
  more_falses old more new e a b = subst (AreAllConflicts nodes bits f Here) (sym e) (record {
    falses = λ l c. ⊎_elim (λ h. a.falses l h) (λ h. b l h) (Contains-append_cases old more l c);
    congruent = λ t u h. ⊎_elim (λ same. inl same) (λ c. inr (has_more old more t c)) (a.congruent t u h);
    apart = λ t x y n m own shape sides denied. ⊎_elim (λ p. inl p) (λ c. inr (Contains-append_left old more (Witness t) c)) (a.apart t x y n m own shape sides denied);
  })

  -- neither kind is on accesses
  pub no_clashes : (old more new : List Lemma) → new ≡ old ++ more → AreCongruenceConflicts nodes bits f Here old → AreWitnessConflicts nodes bits f Here more → AreNoClashes new
  no_clashes old more new e a b = subst AreNoClashes (sym e)
      (λ l c. ⊎_elim (λ h. subst IsNoClash (sym (a.each l h).is) tt) (λ h. subst IsNoClash (sym (b.each l h).is) tt) (Contains-append_cases old more l c))

  -- where there is no lemma, applications are congruent and arrays that are said to differ do
  pub congruent_where_none : (lemmas : List Lemma) → lemmas ≡ [] → AreAllConflicts nodes bits f Here lemmas → AreCongruent nodes (image_in bits) Here (assigned_value nodes bits f)
  congruent_where_none lemmas none h t u d own other shape like args =
      ⊎_elim (λ e. e)
      (λ (p : HasConflict nodes bits f Here lemmas t). absurd (not_nil (Congruence p.0 p.1) (subst (λ xs. Contains xs (Congruence p.0 p.1)) none p.2)))
      (h.congruent t u (record { declaration = d; left = own; right = other; left_shape = shape; right_shape = like; args = args }))

  pub apart_where_none : (lemmas : List Lemma) → lemmas ≡ [] → AreAllConflicts nodes bits f Here lemmas → AreApart nodes (image_in bits) Here (assigned_value nodes bits f)
  apart_where_none lemmas none h t a b n m own shape sides denied =
      ⊎_elim (λ p. p) (λ c. absurd (not_nil (Witness t) (subst (λ xs. Contains xs (Witness t)) none c))) (h.apart t a b n m own shape sides denied)

pub none_of : (lemmas : List Lemma) → length lemmas ≡ 0 → lemmas ≡ []
none_of [] e = refl
none_of (l ∷ ls) e = absurd (omega (arith, e))

-- no clash at all
pub none_are_few : (nodes : List Node) (val : ℕ → Value) → AreFewClashes nodes val []
none_are_few nodes val = record {
  most = omega arith;
  each = λ l c. absurd (not_nil l c);
  single = λ i j l m a k p q u v. absurd (nothing i l p);
} where
  nothing : (i : ℕ) (l : Lemma) → slice_get [] i ≡ Some l → ⊥
  nothing i l p = let z : ⊥ = cc in z
