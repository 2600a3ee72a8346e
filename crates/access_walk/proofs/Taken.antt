-- The numbers of indexes, and the spare ones.
use Rattle.std.proofs.Common.{◌≡◌, ℕ, zero, suc, ◌+◌, ◌<◌, ◌≤◌, ◌^◌, Bool, true, false, List, [], ◌∷◌, ◌++◌, length, Option, Some, None, refl, sym, ap, ◌∙◌, subst, inl, inr, ⊎_elim, arith}
use Rattle.std.specs.Prelude.{◌⊎◌, ◌==◌, ◌↔◌, slice_get, if◌then◌else◌, Contains, IsPermutation, IsSome, IfSome, MatchOption, option_to_list}
use Rattle.std.proofs.lemmas.Bool.{cases_lt, eqb-true, eqb-false}
use Rattle.std.proofs.lemmas.List.Sorted.{Contains-permutation, IsPermutation-sym}
use Rattle.smt_words.specs.Words.{WordValue, IsWord, word}
use Rattle.smt_terms.specs.declared.sort.Sort.TheVariants as sort
use Rattle.smt_terms.specs.declared.node.Node.{Node}
use Rattle.smt_terms.specs.Bits.{TermBits, image_in}
use Rattle.smt_terms.specs.Nodes.{node_at}
use Rattle.smt_terms.specs.Terms.{sort_of, IsTermList, IsSort}
use Rattle.smt_terms.proofs.Widths.{sort_bounded}
use Rattle.smt_terms.specs.Values.{Value, number_of}
use Rattle.theory_terms.specs.declared.shape.Shape.{Shape}
use Rattle.theory_terms.specs.declared.shape.Shape.TheVariants.{Selecting, Storing, Filling, Choosing, Equating, Witnessing, Applying, Declaring, Other}
use Rattle.theory_terms.specs.declared.atom.Landing.{Landing}
use Rattle.theory_terms.specs.Shapes.{shape_at}
use Rattle.theory_terms.specs.Lemmas.{start_of}
use Rattle.std.proofs.lemmas.List.Elements.{Contains-append_left}
use Rattle.term_reach.specs.Reach.{IsClosed}
use Rattle.access_tables.specs.Leading.{leads, leads_by, watched}
use Rattle.access_tables.specs.Encoded.{HaveBits}
use Rattle.access_tables.specs.Tables.{IsTaken, IsSpare, IsSpareOf, AreSpare}
use Rattle.access_tables.specs.Held.{spare_in}
use Rattle.access_tables.proofs.Building.{args_at}
use Rattle.access_walk.specs.Spared.{HasIndexTerm, HasWidth, Widens, AreIndexTerms, AreFilledWidths, AreTaken, IsGap, IsSpareWord}
use Rattle.access_walk.proofs.Lists.{append_nil, later_member, place_of, at_place, within, same_at, not_nil, old_member, new_member, member_cases}

-- ---- the spare word of a width

module _ (nodes : List Node) (bits : List TermBits) (Here : ℕ → Type 0) (val : ℕ → Value) (n : ℕ) where
  pub taken_moved : (old new : List ℕ) → IsPermutation old new → AreTaken nodes bits Here val n old → AreTaken nodes bits Here val n new
  taken_moved old new p h = record {
    each = λ k c. h.each k (Contains-permutation new old k (IsPermutation-sym old new p) c);
    all = λ k t. Contains-permutation old new k p (h.all k t);
  }

  pub spare_is : (numbers : List ℕ) (gap : ℕ) → (1 ≤ n) × (n ≤ 128) → AreTaken nodes bits Here val n numbers → IsGap numbers gap
      → (o : Option WordValue) → (IsSome o ↔ IsWord n gap) → IfSome o (λ w. w ≡ word n gap) → IsSpareWord nodes bits Here val n o
  spare_is numbers gap wide taken is None found value = λ k lt. ⊎_elim
      (λ (less : gap < 2 ^ n). (let s : false ≡ true = found.1 ((let w = wide.0 in omega (arith, w)), wide.1, less) in let f : ⊥ = cc in absurd f))
      (λ (le : 2 ^ n ≤ gap). taken.each k (is.least k (omega (arith, lt, le))))
      (cases_lt gap (2 ^ n))
  spare_is numbers gap wide taken is (Some w) found value = (
    ap (λ (x : WordValue). x.width) value,
    subst (IsSpare nodes Here (image_in bits) val n) (sym (ap (λ (x : WordValue). x.value) value)) (record {
      within = (found.0 refl).2;
      apart = λ t. is.apart (taken.all gap t);
      least = λ k lt. taken.each k (is.least k lt);
    }),
  )

-- ---- the spare words of all widths

module _ (nodes : List Node) (bits : List TermBits) (Here : ℕ → Type 0) (val : ℕ → Value) where
  abbrev pub IsFull : ℕ → Type 0
  IsFull n = (k : ℕ) → k < 2 ^ n → IsTaken nodes Here (image_in bits) val n k

  -- those of the widths before a place
  pub record AreSparesTo (widths : List ℕ) (count : ℕ) (spares : List WordValue) : Type 0 where
    pub each : (w : WordValue) → Contains spares w → IsSpare nodes Here (image_in bits) val w.width w.value
    pub all : (k n : ℕ) → k < count → slice_get widths k ≡ Some n → ((w : WordValue) × Contains spares w × (w.width ≡ n)) ⊎ IsFull n

  pub spares_none : (widths : List ℕ) → AreSparesTo widths 0 []
  spares_none widths = record { each = λ w c. absurd (not_nil w c); all = λ k n lt e. absurd (omega (arith, lt)) }

  pub spares_full : (widths : List ℕ) (count n : ℕ) (spares : List WordValue) → AreSparesTo widths count spares → slice_get widths count ≡ Some n → IsFull n → AreSparesTo widths (count + 1) spares
  spares_full widths count n spares h e full = record {
    each = h.each;
    all = λ k m lt at. ⊎_elim (λ less. h.all k m less at)
        (λ le. inr (subst IsFull (same_at widths count n m e (subst (λ i. slice_get widths i ≡ Some m) (let q : k ≡ count = omega (arith, lt, le) in q) at)) full))
        (cases_lt k count);
  }

  pub spares_more : (widths : List ℕ) (count n : ℕ) (spares new : List WordValue) (w : WordValue) → AreSparesTo widths count spares → slice_get widths count ≡ Some n
      → (w.width ≡ n) × IsSpare nodes Here (image_in bits) val n w.value → new ≡ spares ++ w ∷ [] → AreSparesTo widths (count + 1) new
  spares_more widths count n spares new w h e is push = record {
    each = λ x c. ⊎_elim (λ old. h.each x old) (λ (same : w ≡ x). subst (λ (y : WordValue). IsSpare nodes Here (image_in bits) val y.width y.value) same (subst (λ m. IsSpare nodes Here (image_in bits) val m w.value) (sym is.0) is.1)) (member_cases spares new w x push c);
    all = λ k m lt at. ⊎_elim
        (λ less. ⊎_elim (λ (p : (x : WordValue) × Contains spares x × (x.width ≡ m)). inl (p.0, old_member spares new w p.0 push p.1, p.2)) (λ full. inr full) (h.all k m less at))
        (λ le. inl (w, new_member spares new w push, is.0 ∙ same_at widths count n m e (subst (λ i. slice_get widths i ≡ Some m) (let q : k ≡ count = omega (arith, lt, le) in q) at)))
        (cases_lt k count);
  }

  pub spares_step : (widths : List ℕ) (count n : ℕ) (spares new : List WordValue) (o : Option WordValue) → AreSparesTo widths count spares → slice_get widths count ≡ Some n
      → IsSpareWord nodes bits Here val n o → new ≡ spares ++ option_to_list o → AreSparesTo widths (count + 1) new
  spares_step widths count n spares new None h e is push = subst (AreSparesTo widths (count + 1)) (sym (push ∙ append_nil spares)) (spares_full widths count n spares h e is)
  spares_step widths count n spares new (Some w) h e is push = spares_more widths count n spares new w h e is push

  -- what a width finds among words
  pub found_in : (spares : List WordValue) (n s : ℕ) → spare_in spares n ≡ Some s → (w : WordValue) × Contains spares w × (w.width ≡ n) × (w.value ≡ s)
  found_in [] n s e = let z : ⊥ = cc in absurd z
  found_in (w ∷ ws) n s e = go (w.width == n) refl e (found_in ws n s) where
    go : (b : Bool) → (w.width == n) ≡ b → (if b then Some w.value else spare_in ws n) ≡ Some s → (spare_in ws n ≡ Some s → (x : WordValue) × Contains ws x × (x.width ≡ n) × (x.value ≡ s)) → (x : WordValue) × Contains (w ∷ ws) x × (x.width ≡ n) × (x.value ≡ s)
    go true t e rest = (w, (0, omega arith, refl), eqb-true w.width n t, (let same : w.value ≡ s = cc in same))
    go false t e rest = let r = rest e in (r.0, later_member w ws r.0 r.1, r.2, r.3)

  pub absent_in : (spares : List WordValue) (n : ℕ) (w : WordValue) → spare_in spares n ≡ None → Contains spares w → w.width ≡ n → ⊥
  absent_in [] n w e c same = not_nil w c
  absent_in (x ∷ ws) n w e c same = go (x.width == n) refl e c (λ p q. absent_in ws n w p q same) where
    go : (b : Bool) → (x.width == n) ≡ b → (if b then Some x.value else spare_in ws n) ≡ None → Contains (x ∷ ws) w → (spare_in ws n ≡ None → Contains ws w → ⊥) → ⊥
    go true t e c rest = let f : ⊥ = cc in f
    go false t e (zero, lt, p) rest = eqb-false x.width n t (ap (λ (y : WordValue). y.width) p ∙ same)
    go false t e (suc k, lt, p) rest = rest e (k, omega (arith, lt), p)

  pub are_spare : (widths : List ℕ) → AreFilledWidths nodes bits Here widths → (count : ℕ) (spares : List WordValue) → AreSparesTo widths count spares → length widths ≤ count → AreSpare nodes Here (image_in bits) val (spare_in spares)
  are_spare widths is count spares h all n = go (spare_in spares n) refl where
    go : (o : Option ℕ) → spare_in spares n ≡ o → IsSpareOf nodes Here (image_in bits) val n o
    go (Some s) e =
        let r = found_in spares n s e in
        subst (λ m. IsSpare nodes Here (image_in bits) val n m) r.3 (subst (λ m. IsSpare nodes Here (image_in bits) val m r.0.value) r.2 (h.each r.0 r.1))
    go None e = λ t x m k own shape array lt.
        let at = at_place widths n (is.all t n own.0 (x, m, own.1, shape, array)) in
        let inside = within widths at.0 n at.1 in
        ⊎_elim (λ (p : (w : WordValue) × Contains spares w × (w.width ≡ n)). absurd (absent_in spares n p.0 e p.1 p.2)) (λ full. full k lt) (h.all at.0 n (omega (arith, inside, all)) at.1)

-- ---- the numbers of a width

module _ (nodes : List Node) (bits : List TermBits) (Here : ℕ → Type 0) (val : ℕ → Value) (indexes : List ℕ) (n : ℕ) where
  -- those of the indexes before a place
  pub record AreTakenTo (count : ℕ) (numbers : List ℕ) : Type 0 where
    pub each : (k : ℕ) → Contains numbers k → IsTaken nodes Here (image_in bits) val n k
    pub all : (k j : ℕ) → k < count → slice_get indexes k ≡ Some j → sort_of nodes j ≡ sort.Word n → Contains numbers (number_of (val j))

  pub taken_none : AreTakenTo 0 []
  taken_none = record { each = λ k c. absurd (not_nil k c); all = λ k j lt e s. absurd (omega (arith, lt)) }

  pub taken_kept : (count j : ℕ) (numbers : List ℕ) → AreTakenTo count numbers → slice_get indexes count ≡ Some j → (sort_of nodes j ≡ sort.Word n → ⊥) → AreTakenTo (count + 1) numbers
  taken_kept count j numbers h e other = record {
    each = h.each;
    all = λ k m lt at s. ⊎_elim (λ less. h.all k m less at s)
        (λ le. absurd (other (ap (sort_of nodes) (same_at indexes count j m e (subst (λ x. slice_get indexes x ≡ Some m) (let q : k ≡ count = omega (arith, lt, le) in q) at)) ∙ s)))
        (cases_lt k count);
  }

  pub taken_more : AreIndexTerms nodes bits Here indexes → (count j : ℕ) (numbers new : List ℕ) → AreTakenTo count numbers → slice_get indexes count ≡ Some j → sort_of nodes j ≡ sort.Word n → new ≡ numbers ++ number_of (val j) ∷ [] → AreTakenTo (count + 1) new
  taken_more is count j numbers new h e s push = record {
    each = λ k c. ⊎_elim (λ old. h.each k old)
        (λ (same : number_of (val j) ≡ k).
        let w = is.each j (place_of indexes count j e) in
        let l = w.2 in
        (w.0, l.0, (w.1, l.1), l.2, ap (sort_of nodes) l.3 ∙ s, ap (λ x. number_of (val x)) l.3 ∙ same))
        (member_cases numbers new (number_of (val j)) k push c);
    all = λ k m lt at t. ⊎_elim (λ less. old_member numbers new (number_of (val j)) (number_of (val m)) push (h.all k m less at t))
        (λ le. subst (λ x. Contains new (number_of (val x))) (same_at indexes count j m e (subst (λ x. slice_get indexes x ≡ Some m) (let q : k ≡ count = omega (arith, lt, le) in q) at)) (new_member numbers new (number_of (val j)) push))
        (cases_lt k count);
  }

  pub taken_step : AreIndexTerms nodes bits Here indexes → (count j : ℕ) (numbers new : List ℕ) (o : Option ℕ) → AreTakenTo count numbers → slice_get indexes count ≡ Some j
      → MatchOption o (sort_of nodes j ≡ sort.Word n → ⊥) (λ k. (sort_of nodes j ≡ sort.Word n) × (k ≡ number_of (val j))) → new ≡ numbers ++ option_to_list o → AreTakenTo (count + 1) new
  taken_step is count j numbers new None h e m push = subst (AreTakenTo (count + 1)) (sym (push ∙ append_nil numbers)) (taken_kept count j numbers h e m)
  taken_step is count j numbers new (Some k) h e m push = taken_more is count j numbers new h e m.0 (push ∙ ap (λ x. numbers ++ x ∷ []) m.1)

  pub taken_all : AreIndexTerms nodes bits Here indexes → (count : ℕ) (numbers : List ℕ) → AreTakenTo count numbers → length indexes ≤ count → AreTaken nodes bits Here val n numbers
  taken_all is count numbers h past = record {
    each = h.each;
    all = λ k t.
        let at = at_place indexes t.1.index (is.all t.0 t.1.index t.2.0 (t.1, t.2.1, t.3, refl)) in
        let inside = within indexes at.0 t.1.index at.1 in
        subst (Contains numbers) t.5 (h.all at.0 t.1.index (omega (arith, inside, past)) at.1 t.4);
  }

-- ---- the indexes

module _ (nodes : List Node) (bits : List TermBits) where
  pub image_index : (t u i : ℕ) → image_in bits t ≡ Some u → HasIndexTerm nodes bits t i → ⊥
  image_index t u i e h = let z : Some u ≡ None = sym e ∙ h.1 in let f : ⊥ = cc in f

  pub image_width : (t u n : ℕ) → image_in bits t ≡ Some u → HasWidth nodes bits t n → ⊥
  image_width t u n e h = let z : Some u ≡ None = sym e ∙ h.2 in let f : ⊥ = cc in f

  pub one_index : (t i j : ℕ) → HasIndexTerm nodes bits t i → HasIndexTerm nodes bits t j → i ≡ j
  one_index t i j h k =
      let z : Some h.0 ≡ Some k.0 = sym h.2 ∙ k.2 in
      let same : h.0 ≡ k.0 = cc in
      sym h.3 ∙ ap (λ (l : Landing). l.index) same ∙ k.3

  pub one_width : (t n m : ℕ) → HasWidth nodes bits t n → HasWidth nodes bits t m → n ≡ m
  one_width t n m h k =
      let z : sort.Array n h.1 ≡ sort.Array m k.1 = sym h.4 ∙ k.4 in cc

  module _ (terms : List ℕ) where
    -- the indexes of the terms before a place
    pub record AreIndexTermsTo (count : ℕ) (found : List ℕ) : Type 0 where
      pub each : (j : ℕ) → Contains found j → (t : ℕ) × Contains terms t × HasIndexTerm nodes bits t j
      pub all : (k t j : ℕ) → k < count → slice_get terms k ≡ Some t → HasIndexTerm nodes bits t j → Contains found j

    pub indexes_none : AreIndexTermsTo 0 []
    indexes_none = record { each = λ j c. absurd (not_nil j c); all = λ k t j lt e h. absurd (omega (arith, lt)) }

    pub indexes_kept : (count t : ℕ) (found : List ℕ) → AreIndexTermsTo count found → slice_get terms count ≡ Some t → ((i : ℕ) → HasIndexTerm nodes bits t i → ⊥) → AreIndexTermsTo (count + 1) found
    indexes_kept count t found h e none = record {
      each = h.each;
      all = λ k u j lt at i. ⊎_elim (λ less. h.all k u j less at i)
          (λ le. absurd (none j (subst (λ x. HasIndexTerm nodes bits x j) (same_at terms count u t (subst (λ x. slice_get terms x ≡ Some u) (let q : k ≡ count = omega (arith, lt, le) in q) at) e) i)))
          (cases_lt k count);
    }

    pub indexes_more : (count t i : ℕ) (found new : List ℕ) → AreIndexTermsTo count found → slice_get terms count ≡ Some t → HasIndexTerm nodes bits t i → new ≡ found ++ i ∷ [] → AreIndexTermsTo (count + 1) new
    indexes_more count t i found new h e is push = record {
      each = λ j c. ⊎_elim (λ old. h.each j old) (λ (same : i ≡ j). (t, place_of terms count t e, subst (HasIndexTerm nodes bits t) same is)) (member_cases found new i j push c);
      all = λ k u j lt at x. ⊎_elim (λ less. old_member found new i j push (h.all k u j less at x))
          (λ le.
          let here : u ≡ t = same_at terms count u t (subst (λ y. slice_get terms y ≡ Some u) (let q : k ≡ count = omega (arith, lt, le) in q) at) e in
          subst (Contains new) (one_index t i j is (subst (λ y. HasIndexTerm nodes bits y j) here x)) (new_member found new i push))
          (cases_lt k count);
    }

    pub indexes_step : (count t : ℕ) (found new : List ℕ) (o : Option ℕ) → AreIndexTermsTo count found → slice_get terms count ≡ Some t → MatchOption o ((i : ℕ) → HasIndexTerm nodes bits t i → ⊥) (HasIndexTerm nodes bits t) → new ≡ found ++ option_to_list o → AreIndexTermsTo (count + 1) new
    indexes_step count t found new None h e is push = subst (AreIndexTermsTo (count + 1)) (sym (push ∙ append_nil found)) (indexes_kept count t found h e is)
    indexes_step count t found new (Some i) h e is push = indexes_more count t i found new h e is push

    pub indexes_all : (count : ℕ) (found : List ℕ) → AreIndexTermsTo count found → length terms ≤ count → AreIndexTerms nodes bits (Contains terms) found
    indexes_all count found h past = record {
      each = h.each;
      all = λ t j c i. let at = at_place terms t c in let inside = within terms at.0 t at.1 in h.all at.0 t j (omega (arith, inside, past)) at.1 i;
    }

    -- the widths of the terms before a place
    pub record AreWidthsTo (count : ℕ) (found : List ℕ) : Type 0 where
      pub each : (n : ℕ) → Contains found n → (t : ℕ) × Contains terms t × HasWidth nodes bits t n
      pub all : (k t n : ℕ) → k < count → slice_get terms k ≡ Some t → HasWidth nodes bits t n → Contains found n

    pub widths_none : AreWidthsTo 0 []
    widths_none = record { each = λ j c. absurd (not_nil j c); all = λ k t j lt e h. absurd (omega (arith, lt)) }

    pub widths_kept : (count t : ℕ) (found : List ℕ) → AreWidthsTo count found → slice_get terms count ≡ Some t → ((n : ℕ) → HasWidth nodes bits t n → Contains found n) → AreWidthsTo (count + 1) found
    widths_kept count t found h e old = record {
      each = h.each;
      all = λ k u n lt at i. ⊎_elim (λ less. h.all k u n less at i)
          (λ le. old n (subst (λ x. HasWidth nodes bits x n) (same_at terms count u t (subst (λ x. slice_get terms x ≡ Some u) (let q : k ≡ count = omega (arith, lt, le) in q) at) e) i))
          (cases_lt k count);
    }

    pub widths_more : (count t n : ℕ) (found new : List ℕ) → AreWidthsTo count found → slice_get terms count ≡ Some t → HasWidth nodes bits t n → new ≡ found ++ n ∷ [] → AreWidthsTo (count + 1) new
    widths_more count t n found new h e is push = record {
      each = λ m c. ⊎_elim (λ old. h.each m old) (λ (same : n ≡ m). (t, place_of terms count t e, subst (HasWidth nodes bits t) same is)) (member_cases found new n m push c);
      all = λ k u m lt at x. ⊎_elim (λ less. old_member found new n m push (h.all k u m less at x))
          (λ le.
          let here : u ≡ t = same_at terms count u t (subst (λ y. slice_get terms y ≡ Some u) (let q : k ≡ count = omega (arith, lt, le) in q) at) e in
          subst (Contains new) (one_width t n m is (subst (λ y. HasWidth nodes bits y m) here x)) (new_member found new n push))
          (cases_lt k count);
    }

    pub widths_step : (count t : ℕ) (found new : List ℕ) (o : Option ℕ) → AreWidthsTo count found → slice_get terms count ≡ Some t → MatchOption o ((n : ℕ) → HasWidth nodes bits t n → ⊥) (HasWidth nodes bits t) → Widens found new o → AreWidthsTo (count + 1) new
    widths_step count t found new o h e is w = record {
      each = λ n c. ⊎_elim (λ old. h.each n old) (λ given. (t, place_of terms count t e, given_width o is n given)) (w.0 n c);
      all = λ k u n lt at x. ⊎_elim (λ less. w.1 n (h.all k u n less at x))
          (λ le.
          let here : u ≡ t = same_at terms count u t (subst (λ y. slice_get terms y ≡ Some u) (let q : k ≡ count = omega (arith, lt, le) in q) at) e in
          w.2 n (width_given o is n (subst (λ y. HasWidth nodes bits y n) here x)))
          (cases_lt k count);
    } where
      given_width : (o : Option ℕ) → MatchOption o ((n : ℕ) → HasWidth nodes bits t n → ⊥) (HasWidth nodes bits t) → (n : ℕ) → o ≡ Some n → HasWidth nodes bits t n
      given_width None is n g = let f : ⊥ = cc in absurd f
      given_width (Some m) is n g = let same : m ≡ n = cc in subst (HasWidth nodes bits t) same is

      width_given : (o : Option ℕ) → MatchOption o ((n : ℕ) → HasWidth nodes bits t n → ⊥) (HasWidth nodes bits t) → (n : ℕ) → HasWidth nodes bits t n → o ≡ Some n
      width_given None is n x = absurd (is n x)
      width_given (Some m) is n x = ap Some (one_width t m n is x)

    pub widths_all : (count : ℕ) (found : List ℕ) → AreWidthsTo count found → length terms ≤ count → AreFilledWidths nodes bits (Contains terms) found
    widths_all count found h past = record {
      each = h.each;
      all = λ t n c i. let at = at_place terms t c in let inside = within terms at.0 t at.1 in h.all at.0 t n (omega (arith, inside, past)) at.1 i;
    }

-- ---- the indexes have bits

module _ (nodes : List Node) (bits : List TermBits) (Here : ℕ → Type 0) (have : HaveBits nodes bits Here) (closed : IsClosed (leads nodes (image_in bits)) Here) where
  start_index : (t : ℕ) (k : Shape) (l : Landing) → shape_at nodes t ≡ k → start_of t k ≡ Some l → Contains (node_at nodes t).args l.index
  start_index t (Selecting a i) l e s =
      let z : Some (record { array = a; index = i; value = t }) ≡ Some l = s in
      let same : record { array = a; index = i; value = t } ≡ l = cc in
      subst (λ (x : Landing). Contains (node_at nodes t).args x.index) same (place_of (node_at nodes t).args 1 i (ap (λ xs. slice_get xs 1) (args_at nodes t (Selecting a i) e)))
  start_index t (Storing b j v) l e s =
      let z : Some (record { array = t; index = j; value = v }) ≡ Some l = s in
      let same : record { array = t; index = j; value = v } ≡ l = cc in
      subst (λ (x : Landing). Contains (node_at nodes t).args x.index) same (place_of (node_at nodes t).args 1 j (ap (λ xs. slice_get xs 1) (args_at nodes t (Storing b j v) e)))
  start_index t (Filling x) l e s = let z : ⊥ = cc in absurd z
  start_index t (Choosing c x y) l e s = let z : ⊥ = cc in absurd z
  start_index t (Equating x y) l e s = let z : ⊥ = cc in absurd z
  start_index t (Witnessing x y) l e s = let z : ⊥ = cc in absurd z
  start_index t (Applying d) l e s = let z : ⊥ = cc in absurd z
  start_index t (Declaring d q) l e s = let z : ⊥ = cc in absurd z
  start_index t Other l e s = let z : ⊥ = cc in absurd z

  pub index_here : (indexes : List ℕ) → AreIndexTerms nodes bits Here indexes → (j : ℕ) → Contains indexes j → Here j
  index_here indexes is j c =
      let w = is.each j c in
      let h = w.2 in
      let arg = start_index w.0 (shape_at nodes w.0) h.0 refl h.2 in
      let next : Contains (leads nodes (image_in bits) w.0) h.0.index = subst (λ xs. Contains xs h.0.index) (sym (ap (leads_by nodes w.0) h.1)) (Contains-append_left (node_at nodes w.0).args (watched nodes (shape_at nodes w.0)) h.0.index arg) in
      subst Here h.3 (closed w.0 h.0.index w.1 next)

-- ---- widths

module _ (nodes : List Node) (list : IsTermList nodes) (bits : List TermBits) (Here : ℕ → Type 0) (have : HaveBits nodes bits Here) where
  pub width_wide : (t n : ℕ) → Here t → HasWidth nodes bits t n → (1 ≤ n) × (n ≤ 128)
  width_wide t n here h =
      let b : IsSort (sort.Array n h.1) = subst IsSort h.4 (sort_bounded nodes list t (have.held t here)) in
      (b.0, b.1)

-- a width that stands among others is not put there again
pub widens_not : (xs : List ℕ) → Widens xs xs None
widens_not xs = (λ n c. inl c, λ n c. c, λ n e. (let f : ⊥ = cc in absurd f))

pub widens_has : (xs : List ℕ) (w : ℕ) → Contains xs w → Widens xs xs (Some w)
widens_has xs w h = (λ n c. inl c, λ n c. c, λ n e. (let same : w ≡ n = cc in subst (Contains xs) same h))

pub widens_more : (xs ys : List ℕ) (w : ℕ) → ys ≡ xs ++ w ∷ [] → Widens xs ys (Some w)
widens_more xs ys w push = (
  λ n c. ⊎_elim (λ old. inl old) (λ same. inr (ap Some same)) (member_cases xs ys w n push c),
  λ n c. old_member xs ys w n push c,
  λ n e. (let same : w ≡ n = cc in subst (Contains ys) same (new_member xs ys w push)),
)
