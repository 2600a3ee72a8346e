-- One access more that is looked at.
use Rattle.std.proofs.Common.{◌≡◌, ℕ, suc, ◌<◌, ◌^◌, Bool, true, false, List, [], length, Option, Some, None, refl, sym, ap, ◌∙◌, subst, inl, inr, ⊎_elim, arith}
use Rattle.std.specs.Prelude.{◌==◌, ◌⊎◌, slice_get, Contains}
use Rattle.std.proofs.lemmas.Bool.{cases_lt, eqb-true, eqb-false}
use Rattle.std.proofs.lemmas.Option.{slice_get_within, get_or_from_slice_get, slice_get-get_or}
use Rattle.smt_words.specs.Words.{WordValue, IsWidth, word}
use Rattle.smt_terms.specs.declared.sort.Sort.TheVariants as sort
use Rattle.smt_terms.specs.declared.node.Node.{Node}
use Rattle.smt_terms.specs.Terms.{sort_of, TermsValue, AreTerms}
use Rattle.smt_terms.specs.Values as of
use Rattle.smt_terms.specs.Values.{VArray, with_entry, held_at, store_of, VWord}
use Rattle.smt_terms.proofs.Arrays.{stored_same, stored_other}
use Rattle.smt_values.specs.declared.value.Value.{Value}
use Rattle.smt_values.specs.declared.value.Value.TheVariants as held
use Rattle.smt_values.specs.Arrays.{ArrayFields, IsOfWidth, elements_of, element_at, constant_array, with_element}
use Rattle.smt_values.specs.Held.{set_for}
use Rattle.smt_values.proofs.Changing.{element_stored}
use Rattle.smt_values.proofs.Reading.{entered_array}
use Rattle.theory_terms.specs.declared.shape.Shape.{Shape}
use Rattle.theory_terms.specs.declared.shape.Shape.TheVariants.{Selecting, Storing, Filling, Choosing, Equating, Witnessing, Applying, Declaring, Other}
use Rattle.theory_terms.specs.declared.atom.Landing.{Landing}
use Rattle.theory_terms.specs.Shapes.{shape_at}
use Rattle.access_tables.specs.Tables.{Says, Has, look, or_else, spare_word, default_at, index_width, word_at}
use Rattle.access_tables.specs.Held.{TableValue, spare_in}
use Rattle.access_tables.proofs.Closed.{look_has, has_look}
use Rattle.model_build.specs.Drafts.{Sets, Stays, entered_in, RowShape, SetsDefault, GivesDefault, GivesElement, HasIn, HoldsShape, IsUniform, IsFilled}
use Rattle.model_build.proofs.Declared.{one_term, not_both}
use Rattle.model_build.proofs.Keeping.{sets_at, sets_other, Names, kept}

-- ---- accesses of a list by their places

contained : (rows : List Landing) (j : ℕ) (r : Landing) → slice_get rows j ≡ Some r → Contains rows r
contained rows j r e = (j, slice_get_within rows j r e, get_or_from_slice_get rows j r r e)

pub in_has : (val : ℕ → of.Value) (rows : List Landing) (count a k x : ℕ) → HasIn val rows count a k x → Has val rows a k x
in_has val rows count a k x h = (h.1, contained rows h.0 h.1 h.3, h.4)

pub has_in : (val : ℕ → of.Value) (rows : List Landing) (a k x : ℕ) → Has val rows a k x → HasIn val rows (length rows) a k x
has_in val rows a k x h = (h.1.0, h.0, h.1.1, slice_get-get_or rows h.1.0 h.0 h.1.1 ∙ ap Some h.1.2, h.2)

module _
    (v : TermsValue) (terms : AreTerms v) (val : ℕ → of.Value) (table : TableValue)
    (consistent : (a k x y : ℕ) → Has val table.rows a k x → Has val table.rows a k y → x ≡ y)
    (count : ℕ) (r : Landing) (at : slice_get table.rows count ≡ Some r) where
  own : Has val table.rows r.array (of.number_of (val r.index)) (of.number_of (val r.value))
  own = (r, contained table.rows count r at, record { array = refl; index = refl; value = refl })

  own_in : HasIn val table.rows (suc count) r.array (of.number_of (val r.index)) (of.number_of (val r.value))
  own_in = (count, r, omega arith, at, record { array = refl; index = refl; value = refl })

  more_in : (a k x : ℕ) → HasIn val table.rows count a k x → HasIn val table.rows (suc count) a k x
  more_in a k x h = (h.0, h.1, (let lt = h.2 in omega (arith, lt)), h.3, h.4)

  -- an access among one more is among those before, or is this one
  split : (a k x : ℕ) → HasIn val table.rows (suc count) a k x → HasIn val table.rows count a k x ⊎ Says val r a k x
  split a k x h = ⊎_elim
      (λ less. inl (h.0, h.1, less, h.3, h.4))
      (λ more.
      let lt = h.2 in
      let here : h.0 ≡ count = omega (arith, lt, more) in
      let both : Some h.1 ≡ Some r = sym h.3 ∙ ap (slice_get table.rows) here ∙ at in
      let same : h.1 ≡ r = cc in
      inr (subst (λ (l : Landing). Says val l a k x) same h.4))
      (cases_lt h.0 count)

  -- of another array there is no access more
  other_in : (t k x : ℕ) → (r.array ≡ t → ⊥) → HasIn val table.rows (suc count) t k x → HasIn val table.rows count t k x
  other_in t k x ne h = ⊎_elim (λ i. i) (λ (s : Says val r t k x). absurd (ne s.array)) (split t k x h)

  module _ (old new : List (Option Value)) where
    -- what is done at the array of the access leaves all other terms as they were
    module _ (P : ℕ → ℕ → ℕ → Type 0) (leaves : (d n m : ℕ) → P d n m → (e : ℕ) → (e ≡ d → ⊥) → set_for new e ≡ set_for old e) where
      others : (k : Shape) → shape_at v.nodes r.array ≡ k → RowShape P (Stays old new) k → (t : ℕ) → (r.array ≡ t → ⊥) → (e : ℕ) → Names (shape_at v.nodes t) e → set_for new e ≡ set_for old e
      others (Declaring d sort.Bool) e s t ne x n = s x
      others (Declaring d (sort.Word l)) e s t ne x n = s x
      others (Declaring d (sort.Array l m)) e s t ne x n = by_case (x == d) refl where
        clash : (k : Shape) → shape_at v.nodes t ≡ k → Names k x → x ≡ d → ⊥
        clash (Declaring c q) f n same = ne (one_term v terms r.array t d (sort.Array l m) q e (f ∙ ap (λ y. Declaring y q) (n ∙ same)))
        clash (Applying c) f n same = not_both v terms r.array t d (sort.Array l m) e (f ∙ ap Applying (n ∙ same))
        clash (Selecting a i) f n same = n
        clash (Storing b j y) f n same = n
        clash (Filling y) f n same = n
        clash (Choosing c a b) f n same = n
        clash (Equating a b) f n same = n
        clash (Witnessing a b) f n same = n
        clash Other f n same = n

        by_case : (b : Bool) → (x == d) ≡ b → set_for new x ≡ set_for old x
        by_case true p = absurd (clash (shape_at v.nodes t) refl n (eqb-true x d p))
        by_case false p = leaves d l m s x (eqb-false x d p)
      others (Applying d) e s t ne x n = s x
      others (Selecting a i) e s t ne x n = s x
      others (Storing b j y) e s t ne x n = s x
      others (Filling y) e s t ne x n = s x
      others (Choosing c a b) e s t ne x n = s x
      others (Equating a b) e s t ne x n = s x
      others (Witnessing a b) e s t ne x n = s x
      others Other e s t ne x n = s x

    -- ---- defaults

    default_leaves : (d n m : ℕ) → SetsDefault val table.spares r d n m old new → (e : ℕ) → (e ≡ d → ⊥) → set_for new e ≡ set_for old e
    default_leaves d n m s e ne = ⊎_elim
        (λ p. sets_other d (λ o. Some (held.Array (constant_array n (word m (of.number_of (val r.value)))))) old new p.1 e ne)
        (λ p. p.1 e)
        s

    abbrev Uniform : ℕ → ℕ → ArrayFields → Type 0
    Uniform c = IsUniform v.nodes val table c

    uniform_other : (t : ℕ) (a : ArrayFields) → (r.array ≡ t → ⊥) → Uniform count t a → Uniform (suc count) t a
    uniform_other t a ne u = record { entries = u.entries; found = λ k x s h. u.found k x s (other_in t k x ne h); from = u.from }

    default_own : (n m : ℕ) → IsWidth n → IsWidth m → of.number_of (val r.value) < 2 ^ m → (k : Shape) → shape_at v.nodes r.array ≡ k
        → RowShape (λ d n' m'. (n' ≡ n) × (m' ≡ m)) (Unit {0}) k
        → RowShape (λ d n' m'. SetsDefault val table.spares r d n' m' old new) (Stays old new) k
        → HoldsShape (Uniform count) v.nodes val old r.array k → HoldsShape (Uniform (suc count)) v.nodes val new r.array k
    default_own n m wn wm lt (Declaring d (sort.Array l o)) e w s h = ⊎_elim
        (λ p.
        let a : ArrayFields = constant_array l (word o (of.number_of (val r.value))) in
        let wide : IsWidth l = subst IsWidth (sym w.0) wn in
        let long : IsWidth o = subst IsWidth (sym w.1) wm in
        let less : of.number_of (val r.value) < 2 ^ o = subst (λ z. of.number_of (val r.value) < 2 ^ z) (sym w.1) lt in
        record {
          array = a;
          set = sets_at d (λ z. Some (held.Array a)) old new p.1;
          index = refl;
          element = refl;
          well = record { index = wide; element = long; default = record { width = refl; fits = less }; entries = tt; rising = tt };
          is = record {
            entries = refl;
            found = λ k x z i.
                let both : Some (of.number_of (val r.index)) ≡ Some k = sym p.0 ∙ z in
                let same : of.number_of (val r.index) ≡ k = cc in
                consistent r.array k (of.number_of (val r.value)) x (subst (λ y. Has val table.rows r.array y (of.number_of (val r.value))) same own) (in_has val table.rows (suc count) r.array k x i);
            from = inr (of.number_of (val r.index), p.0, own);
          };
        })
        (λ p. record {
          array = h.array;
          set = p.1 d ∙ h.set;
          index = h.index;
          element = h.element;
          well = h.well;
          is = record {
            entries = h.is.entries;
            found = λ k x z i. ⊎_elim
                (λ before. h.is.found k x z before)
                (λ (y : Says val r r.array k x). absurd (p.0 (ap (spare_in table.spares) (sym h.index) ∙ z ∙ ap Some (sym y.index))))
                (split r.array k x i);
            from = h.is.from;
          };
        })
        s
    default_own n m wn wm lt (Declaring d sort.Bool) e w s h = (h.0, s d ∙ h.1, h.2)
    default_own n m wn wm lt (Declaring d (sort.Word l)) e w s h = (h.0, s d ∙ h.1, h.2)
    default_own n m wn wm lt (Applying d) e w s h = record { table = h.table; args = h.args; set = s d ∙ h.set; are = h.are; is = h.is }
    default_own n m wn wm lt (Selecting a i) e w s h = tt
    default_own n m wn wm lt (Storing b j x) e w s h = tt
    default_own n m wn wm lt (Filling x) e w s h = tt
    default_own n m wn wm lt (Choosing c a b) e w s h = tt
    default_own n m wn wm lt (Equating a b) e w s h = tt
    default_own n m wn wm lt (Witnessing a b) e w s h = tt
    default_own n m wn wm lt Other e w s h = tt

    pub one_default : (n m : ℕ) → IsWidth n → IsWidth m → of.number_of (val r.value) < 2 ^ m → RowShape (λ d n' m'. (n' ≡ n) × (m' ≡ m)) (Unit {0}) (shape_at v.nodes r.array)
        → GivesDefault v.nodes val table.spares r old new
        → (t : ℕ) → HoldsShape (Uniform count) v.nodes val old t (shape_at v.nodes t) → HoldsShape (Uniform (suc count)) v.nodes val new t (shape_at v.nodes t)
    one_default n m wn wm lt w s t h = by_case (r.array == t) refl where
      by_case : (b : Bool) → (r.array == t) ≡ b → HoldsShape (Uniform (suc count)) v.nodes val new t (shape_at v.nodes t)
      by_case true p =
          let same : r.array ≡ t = eqb-true r.array t p in
          subst (λ x. HoldsShape (Uniform (suc count)) v.nodes val new x (shape_at v.nodes x)) same
          (default_own n m wn wm lt (shape_at v.nodes r.array) refl w s (subst (λ x. HoldsShape (Uniform count) v.nodes val old x (shape_at v.nodes x)) (sym same) h))
      by_case false p =
          let ne : r.array ≡ t → ⊥ = eqb-false r.array t p in
          kept v.nodes val (Uniform count) (Uniform (suc count)) old new t (shape_at v.nodes t)
          (others (λ d n' m'. SetsDefault val table.spares r d n' m' old new) default_leaves (shape_at v.nodes r.array) refl s t ne)
          (λ d n' m' a e i j u. uniform_other t a ne u) h

    -- ---- elements

    abbrev element : ℕ → ℕ → Option Value → Option Value
    element n m = entered_in (word n (of.number_of (val r.index))) (word m (of.number_of (val r.value)))

    element_leaves : (d n m : ℕ) → Sets d (element n m) old new → (e : ℕ) → (e ≡ d → ⊥) → set_for new e ≡ set_for old e
    element_leaves d n m s e ne = sets_other d (element n m) old new s e ne

    abbrev Filled : ℕ → ℕ → ArrayFields → Type 0
    Filled c = IsFilled v.nodes val table c

    filled_other : (t : ℕ) (a : ArrayFields) → (r.array ≡ t → ⊥) → Filled count t a → Filled (suc count) t a
    filled_other t a ne u = record { entries = λ k x h. u.entries k x (other_in t k x ne h); others = λ k no. u.others k (λ x h. no x (more_in t k x h)) }

    stored : (a : ArrayFields) (i x : WordValue) → elements_of (with_element a i x) ≡ with_entry (elements_of a) i.value x.value
    stored a i x =
        let e : VArray a.index a.default.width (elements_of (with_element a i x)) ≡ VArray a.index a.default.width (with_entry (elements_of a) i.value x.value) = element_stored a i x in
        cc

    filled_own : (a : ArrayFields) (n m : ℕ) → Filled count r.array a → Filled (suc count) r.array (with_element a (word n (of.number_of (val r.index))) (word m (of.number_of (val r.value))))
    filled_own a n m u =
        let i : ℕ = of.number_of (val r.index) in
        let x : ℕ = of.number_of (val r.value) in
        let b : ArrayFields = with_element a (word n i) (word m x) in
        let is : elements_of b ≡ with_entry (elements_of a) i x = stored a (word n i) (word m x) in
        record {
          entries = λ k y h. by_case k y h (k == i) refl is;
          others = λ k no.
              let ne : k ≡ i → ⊥ = λ e. no x (subst (λ z. HasIn val table.rows (suc count) r.array z x) (sym e) own_in) in
              ap (λ z. held_at z k) is ∙ stored_other (elements_of a) i x k ne ∙ u.others k (λ y h. no y (more_in r.array k y h));
        } where
          by_case : (k y : ℕ) → HasIn val table.rows (suc count) r.array k y → (c : Bool) → (k == of.number_of (val r.index)) ≡ c
              → elements_of (with_element a (word n (of.number_of (val r.index))) (word m (of.number_of (val r.value)))) ≡ with_entry (elements_of a) (of.number_of (val r.index)) (of.number_of (val r.value))
              → element_at (with_element a (word n (of.number_of (val r.index))) (word m (of.number_of (val r.value)))) k ≡ y
          by_case k y h true p is =
              let same : k ≡ of.number_of (val r.index) = eqb-true k (of.number_of (val r.index)) p in
              ap (λ z. held_at z k) is ∙ stored_same (elements_of a) (of.number_of (val r.index)) (of.number_of (val r.value)) k same
              ∙ consistent r.array k (of.number_of (val r.value)) y (subst (λ z. Has val table.rows r.array z (of.number_of (val r.value))) (sym same) own) (in_has val table.rows (suc count) r.array k y h)
          by_case k y h false p is =
              let ne : k ≡ of.number_of (val r.index) → ⊥ = eqb-false k (of.number_of (val r.index)) p in
              ap (λ z. held_at z k) is ∙ stored_other (elements_of a) (of.number_of (val r.index)) (of.number_of (val r.value)) k ne
              ∙ ⊎_elim (λ before. u.entries k y before) (λ (s : Says val r r.array k y). absurd (ne (sym s.index))) (split r.array k y h)

    element_own : (n m : ℕ) → of.number_of (val r.index) < 2 ^ n → of.number_of (val r.value) < 2 ^ m → (k : Shape) → shape_at v.nodes r.array ≡ k
        → RowShape (λ d n' m'. (n' ≡ n) × (m' ≡ m)) (Unit {0}) k
        → RowShape (λ d n' m'. Sets d (element n' m') old new) (Stays old new) k
        → HoldsShape (Filled count) v.nodes val old r.array k → HoldsShape (Filled (suc count)) v.nodes val new r.array k
    element_own n m li lx (Declaring d (sort.Array l o)) e w s h =
        let i : WordValue = word l (of.number_of (val r.index)) in
        let x : WordValue = word o (of.number_of (val r.value)) in
        let less : of.number_of (val r.index) < 2 ^ l = subst (λ z. of.number_of (val r.index) < 2 ^ z) (sym w.0) li in
        let small : of.number_of (val r.value) < 2 ^ o = subst (λ z. of.number_of (val r.value) < 2 ^ z) (sym w.1) lx in
        let fi : IsOfWidth h.array.index i = subst (λ z. IsOfWidth z i) (sym h.index) (record { width = refl; fits = less }) in
        let fx : IsOfWidth h.array.default.width x = subst (λ z. IsOfWidth z x) (sym h.element) (record { width = refl; fits = small }) in
        record {
          array = with_element h.array i x;
          set = sets_at d (element l o) old new s ∙ ap (entered_in i x) h.set;
          index = h.index;
          element = h.element;
          well = entered_array h.array.index h.array.default h.array.entries i x h.well fi fx;
          is = filled_own h.array l o h.is;
        }
    element_own n m li lx (Declaring d sort.Bool) e w s h = (h.0, s d ∙ h.1, h.2)
    element_own n m li lx (Declaring d (sort.Word l)) e w s h = (h.0, s d ∙ h.1, h.2)
    element_own n m li lx (Applying d) e w s h = record { table = h.table; args = h.args; set = s d ∙ h.set; are = h.are; is = h.is }
    element_own n m li lx (Selecting a i) e w s h = tt
    element_own n m li lx (Storing b j x) e w s h = tt
    element_own n m li lx (Filling x) e w s h = tt
    element_own n m li lx (Choosing c a b) e w s h = tt
    element_own n m li lx (Equating a b) e w s h = tt
    element_own n m li lx (Witnessing a b) e w s h = tt
    element_own n m li lx Other e w s h = tt

    pub one_element : (n m : ℕ) → of.number_of (val r.index) < 2 ^ n → of.number_of (val r.value) < 2 ^ m → RowShape (λ d n' m'. (n' ≡ n) × (m' ≡ m)) (Unit {0}) (shape_at v.nodes r.array)
        → GivesElement v.nodes val r old new
        → (t : ℕ) → HoldsShape (Filled count) v.nodes val old t (shape_at v.nodes t) → HoldsShape (Filled (suc count)) v.nodes val new t (shape_at v.nodes t)
    one_element n m li lx w s t h = by_case (r.array == t) refl where
      by_case : (b : Bool) → (r.array == t) ≡ b → HoldsShape (Filled (suc count)) v.nodes val new t (shape_at v.nodes t)
      by_case true p =
          let same : r.array ≡ t = eqb-true r.array t p in
          subst (λ x. HoldsShape (Filled (suc count)) v.nodes val new x (shape_at v.nodes x)) same
          (element_own n m li lx (shape_at v.nodes r.array) refl w s (subst (λ x. HoldsShape (Filled count) v.nodes val old x (shape_at v.nodes x)) (sym same) h))
      by_case false p =
          let ne : r.array ≡ t → ⊥ = eqb-false r.array t p in
          kept v.nodes val (Filled count) (Filled (suc count)) old new t (shape_at v.nodes t)
          (others (λ d n' m'. Sets d (element n' m') old new) element_leaves (shape_at v.nodes r.array) refl s t ne)
          (λ d n' m' a e i j u. filled_other t a ne u) h

-- ---- from the defaults of all accesses to the elements of none

module _ (nodes : List Node) (val : ℕ → of.Value) (table : TableValue) where
  uniform_default : (t n m : ℕ) (a : ArrayFields) → sort_of nodes t ≡ sort.Array n m → a.index ≡ n → IsUniform nodes val table (length table.rows) t a → a.default.value ≡ default_at nodes val table.rows (spare_in table.spares) t
  uniform_default t n m a s i u = go (spare_in table.spares n) refl ∙ ap (λ z. spare_word val table.rows t (spare_in table.spares (index_width z))) (sym s) where
    spare : spare_in table.spares a.index ≡ spare_in table.spares n
    spare = ap (spare_in table.spares) i

    go : (o : Option ℕ) → spare_in table.spares n ≡ o → a.default.value ≡ spare_word val table.rows t (spare_in table.spares n)
    go None e = ⊎_elim
        (λ zero. zero ∙ sym (ap (spare_word val table.rows t) e))
        (λ (w : (k : ℕ) × (spare_in table.spares a.index ≡ Some k) × Has val table.rows t k a.default.value). (let z : None ≡ Some w.0 = sym e ∙ sym spare ∙ w.1 in let y : ⊥ = cc in absurd y))
        u.from
    go (Some k) e = word (look val table.rows t k) refl ∙ sym (ap (spare_word val table.rows t) e) where
      word : (o : Option ℕ) → look val table.rows t k ≡ o → a.default.value ≡ or_else (look val table.rows t k) 0
      word (Some x) q = u.found k x (spare ∙ e) (has_in val table.rows t k x (look_has val table.rows t k x q)) ∙ sym (ap (λ z. or_else z 0) q)
      word None q = ⊎_elim
          (λ zero. zero ∙ sym (ap (λ z. or_else z 0) q))
          (λ (w : (k : ℕ) × (spare_in table.spares a.index ≡ Some k) × Has val table.rows t k a.default.value).
          let both : Some w.0 ≡ Some k = sym w.1 ∙ spare ∙ e in
          let same : w.0 ≡ k = cc in
          let h : Has val table.rows t k a.default.value = subst (λ z. Has val table.rows t z a.default.value) same w.2 in
          let y = has_look val table.rows t k h.0 h.1 h.2.array h.2.index in
          let z : None ≡ Some y.0 = sym q ∙ y.1 in
          let f : ⊥ = cc in absurd f)
          u.from

  no_entries : (a : ArrayFields) (k : ℕ) → a.entries ≡ [] → element_at a k ≡ a.default.value
  no_entries a k e = ap (λ es. element_at (record { index = a.index; default = a.default; entries = es }) k) e

  pub none_filled : (t n m : ℕ) (a : ArrayFields) → sort_of nodes t ≡ sort.Array n m → a.index ≡ n → IsUniform nodes val table (length table.rows) t a → IsFilled nodes val table 0 t a
  none_filled t n m a s i u = record {
    entries = λ k x h. (let lt = h.2 in absurd (omega (arith, lt)));
    others = λ k no. no_entries a k u.entries ∙ uniform_default t n m a s i u;
  }

  -- the elements of all accesses are the table's words
  pub all_filled : (t : ℕ) (a : ArrayFields) → IsFilled nodes val table (length table.rows) t a → (k : ℕ) → element_at a k ≡ word_at nodes val table.rows (spare_in table.spares) t k
  all_filled t a f k = go (look val table.rows t k) refl where
    go : (o : Option ℕ) → look val table.rows t k ≡ o → element_at a k ≡ word_at nodes val table.rows (spare_in table.spares) t k
    go (Some x) e = f.entries k x (has_in val table.rows t k x (look_has val table.rows t k x e)) ∙ sym (ap (λ z. or_else z (default_at nodes val table.rows (spare_in table.spares) t)) e)
    go None e =
        f.others k (λ x h.
        let g = in_has val table.rows (length table.rows) t k x h in
        let y = has_look val table.rows t k g.0 g.1 g.2.array g.2.index in
        let z : None ≡ Some y.0 = sym e ∙ y.1 in
        let w : ⊥ = cc in w)
        ∙ sym (ap (λ z. or_else z (default_at nodes val table.rows (spare_in table.spares) t)) e)
