-- One term more that is entered.
use Rattle.std.proofs.Common.{◌≡◌, ℕ, suc, ◌<◌, Bool, true, false, List, Option, Some, None, refl, sym, ap, ◌∙◌, subst, ⊎_elim, arith}
use Rattle.std.specs.Prelude.{◌==◌, if◌then◌else◌, map, slice_get, Contains}
use Rattle.std.specs.Ordering.{is_eq}
use Rattle.std.proofs.lemmas.Bool.{cases_lt, eqb-true, eqb-false}
use Rattle.std.proofs.lemmas.Nat.{pow_pos}
use Rattle.smt_words.specs.Words.{IsWidth, word}
use Rattle.smt_terms.specs.declared.sort.Sort.{Sort}
use Rattle.smt_terms.specs.declared.sort.Sort.TheVariants as sort
use Rattle.smt_terms.specs.Nodes.{node_at}
use Rattle.smt_terms.specs.Scalars.{scalar_value}
use Rattle.smt_terms.specs.Terms.{sort_of, TermsValue, AreTerms}
use Rattle.smt_terms.specs.Values as of
use Rattle.smt_values.specs.declared.value.Value.{Value}
use Rattle.smt_values.specs.declared.value.Value.TheVariants as held
use Rattle.smt_values.specs.Arrays.{ArrayFields, constant_array}
use Rattle.smt_values.specs.Tables.{args_cmp, table_value, with_row}
use Rattle.smt_values.specs.Held.{set_for}
use Rattle.smt_values.proofs.Changing.{row_changes}
use Rattle.theory_terms.specs.declared.shape.Shape.{Shape}
use Rattle.theory_terms.specs.declared.shape.Shape.TheVariants.{Selecting, Storing, Filling, Choosing, Equating, Witnessing, Applying, Declaring, Other}
use Rattle.theory_terms.specs.Shapes.{shape_at}
use Rattle.model_build.specs.Drafts.{Stays, table_of, rowed_in, zero_of, IsFirstOf, EntersConstant, EntersRow, EntersShape, EntersBy, HoldsShape}
use Rattle.model_build.proofs.Declared.{one_term, not_both}
use Rattle.model_build.proofs.Arguments.{args_same, args_itself}
use Rattle.model_build.proofs.Values.{constant_is_array}
use Rattle.model_build.proofs.Keeping.{sets_at, sets_other, Names, kept}

module _
    (v : TermsValue) (terms : AreTerms v) (image : ℕ → Option ℕ) (val : ℕ → of.Value) (Is : ℕ → ArrayFields → Type 0) (ts : List ℕ)
    (first : (t d n m : ℕ) → shape_at v.nodes t ≡ Declaring d (sort.Array n m) → IsWidth n × IsWidth m × Is t (constant_array n (word m 0)))
    (congruent : (t u d : ℕ) → Contains ts t → image t ≡ None → Contains ts u → image u ≡ None → shape_at v.nodes t ≡ Applying d → shape_at v.nodes u ≡ Applying d
    → map val (node_at v.nodes t).args ≡ map val (node_at v.nodes u).args → val t ≡ val u) where
  abbrev Has : List (Option Value) → ℕ → Shape → Type 0
  Has values t k = HoldsShape Is v.nodes val values t k

  module _ (old new : List (Option Value)) (t₀ : ℕ) (here : Contains ts t₀) (free : image t₀ ≡ None) where
    stays : Stays old new → (t : ℕ) (k : Shape) → Has old t k → Has new t k
    stays s t k h = kept v.nodes val Is Is old new t k (λ e n. s e) (λ d n m a e p q i. i) h

    -- ---- a declared constant

    module _ (d : ℕ) (q : Sort) (is : shape_at v.nodes t₀ ≡ Declaring d q) (enters : EntersConstant (val t₀) d q old new) where
      at : set_for new d ≡ Some enters.value
      at = sets_at d (λ o. Some enters.value) old new enters.sets

      own_constant : (r : Sort) → q ≡ r → IsFirstOf (val t₀) r enters.value → Has new t₀ (Declaring d r)
      own_constant sort.Bool e f = (enters.value, at, f.0)
      own_constant (sort.Word n) e f = (enters.value, at, f.0)
      own_constant (sort.Array n m) e f =
          let p = first t₀ d n m (is ∙ ap (Declaring d) e) in
          record { array = constant_array n (word m 0); set = at ∙ ap Some f; index = refl; element = refl; well = constant_is_array n m 0 p.0 p.1 (pow_pos m); is = p.2 }

      new_constant : Has new t₀ (shape_at v.nodes t₀)
      new_constant = subst (Has new t₀) (sym is) (own_constant q refl enters.first)

      old_constant : (t : ℕ) (k : Shape) → shape_at v.nodes t ≡ k → Has old t k → Has new t k
      old_constant t k e h = go k e h (λ x. x) where
        other : (k : Shape) → shape_at v.nodes t ≡ k → (x : ℕ) → Names k x → (x ≡ d → ⊥) → set_for new x ≡ set_for old x
        other k e x n ne = sets_other d (λ o. Some enters.value) old new enters.sets x ne

        go : (k : Shape) → shape_at v.nodes t ≡ k → Has old t k → ((x : ℕ) → ℕ) → Has new t k
        go (Declaring c r) e h id = by_case (c == d) refl where
          by_case : (b : Bool) → (c == d) ≡ b → Has new t (Declaring c r)
          by_case true p =
              let same : t ≡ t₀ = one_term v terms t t₀ d r q (e ∙ ap (λ x. Declaring x r) (eqb-true c d p)) is in
              subst (Has new t) e (subst (λ x. Has new x (shape_at v.nodes x)) (sym same) new_constant)
          by_case false p = kept v.nodes val Is Is old new t (Declaring c r) (λ x n. other (Declaring c r) e x n (λ y. eqb-false c d p (n ∙ y))) (λ d' n m a z i j w. w) h
        go (Applying c) e h id = by_case (c == d) refl where
          by_case : (b : Bool) → (c == d) ≡ b → Has new t (Applying c)
          by_case true p = absurd (not_both v terms t₀ t d q is (e ∙ ap Applying (eqb-true c d p)))
          by_case false p = kept v.nodes val Is Is old new t (Applying c) (λ x n. other (Applying c) e x n (λ y. eqb-false c d p (n ∙ y))) (λ d' n m a z i j w. w) h
        go (Selecting a i) e h id = tt
        go (Storing b j x) e h id = tt
        go (Filling x) e h id = tt
        go (Choosing c a b) e h id = tt
        go (Equating a b) e h id = tt
        go (Witnessing a b) e h id = tt
        go Other e h id = tt

    -- ---- an application

    module _ (d : ℕ) (is : shape_at v.nodes t₀ ≡ Applying d) (enters : EntersRow (map val (node_at v.nodes t₀).args) (val t₀) (sort_of v.nodes t₀) d old new) where
      rows : set_for new d ≡ Some (held.Fun (with_row (table_of (zero_of (sort_of v.nodes t₀)) (set_for old d)) enters.args enters.value))
      rows = sets_at d (rowed_in (zero_of (sort_of v.nodes t₀)) enters.args enters.value) old new enters.sets

      new_row : Has new t₀ (shape_at v.nodes t₀)
      new_row = subst (Has new t₀) (sym is)
          (record {
            table = with_row (table_of (zero_of (sort_of v.nodes t₀)) (set_for old d)) enters.args enters.value;
            args = enters.args;
            set = rows;
            are = enters.are;
            is = row_changes (table_of (zero_of (sort_of v.nodes t₀)) (set_for old d)) enters.args enters.args enters.value
                ∙ ap (λ b. if b then scalar_value enters.value else table_value (table_of (zero_of (sort_of v.nodes t₀)) (set_for old d)) (map scalar_value enters.args)) (args_itself enters.args) ∙ enters.is;
          })

      old_row : (t : ℕ) → Contains ts t → image t ≡ None → (k : Shape) → shape_at v.nodes t ≡ k → Has old t k → Has new t k
      old_row t c f (Declaring x r) e h = by_case (x == d) refl where
        by_case : (b : Bool) → (x == d) ≡ b → Has new t (Declaring x r)
        by_case true p = absurd (not_both v terms t t₀ d r (e ∙ ap (λ y. Declaring y r) (eqb-true x d p)) is)
        by_case false p = kept v.nodes val Is Is old new t (Declaring x r) (λ y n. sets_other d (rowed_in (zero_of (sort_of v.nodes t₀)) enters.args enters.value) old new enters.sets y (λ z. eqb-false x d p (n ∙ z))) (λ d' n m a z i j w. w) h
      old_row t c f (Applying x) e h = by_case (x == d) refl where
        by_case : (b : Bool) → (x == d) ≡ b → Has new t (Applying x)
        by_case false p = kept v.nodes val Is Is old new t (Applying x) (λ y n. sets_other d (rowed_in (zero_of (sort_of v.nodes t₀)) enters.args enters.value) old new enters.sets y (λ z. eqb-false x d p (n ∙ z))) (λ d' n m a z i j w. w) h
        by_case true p =
            let same : x ≡ d = eqb-true x d p in
            let table : table_of (zero_of (sort_of v.nodes t₀)) (set_for old d) ≡ h.table = ap (table_of (zero_of (sort_of v.nodes t₀))) (ap (set_for old) (sym same) ∙ h.set) in
            record {
              table = with_row (table_of (zero_of (sort_of v.nodes t₀)) (set_for old d)) enters.args enters.value;
              args = h.args;
              set = ap (set_for new) same ∙ rows;
              are = h.are;
              is = row_changes (table_of (zero_of (sort_of v.nodes t₀)) (set_for old d)) enters.args h.args enters.value ∙ value (is_eq (args_cmp enters.args h.args)) refl
                  (ap (λ w. table_value w (map scalar_value h.args)) table ∙ h.is);
            } where
              value : (b : Bool) → is_eq (args_cmp enters.args h.args) ≡ b → table_value (table_of (zero_of (sort_of v.nodes t₀)) (set_for old d)) (map scalar_value h.args) ≡ val t
                  → (if is_eq (args_cmp enters.args h.args) then scalar_value enters.value else table_value (table_of (zero_of (sort_of v.nodes t₀)) (set_for old d)) (map scalar_value h.args)) ≡ val t
              value true z w =
                  ap (λ b. if b then scalar_value enters.value else table_value (table_of (zero_of (sort_of v.nodes t₀)) (set_for old d)) (map scalar_value h.args)) z ∙ enters.is
                  ∙ congruent t₀ t d here free c f is (e ∙ ap Applying (eqb-true x d p)) (sym enters.are ∙ args_same enters.args h.args z ∙ h.are)
              value false z w = ap (λ b. if b then scalar_value enters.value else table_value (table_of (zero_of (sort_of v.nodes t₀)) (set_for old d)) (map scalar_value h.args)) z ∙ w
      old_row t c f (Selecting a i) e h = tt
      old_row t c f (Storing b j x) e h = tt
      old_row t c f (Filling x) e h = tt
      old_row t c f (Choosing x a b) e h = tt
      old_row t c f (Equating a b) e h = tt
      old_row t c f (Witnessing a b) e h = tt
      old_row t c f Other e h = tt

    -- ---- either

    pub entered_old : (k : Shape) → shape_at v.nodes t₀ ≡ k → EntersShape v.nodes val t₀ k old new → (t : ℕ) → Contains ts t → image t ≡ None → Has old t (shape_at v.nodes t) → Has new t (shape_at v.nodes t)
    entered_old (Declaring d q) e s t c f h = old_constant d q e s t (shape_at v.nodes t) refl h
    entered_old (Applying d) e s t c f h = old_row d e s t c f (shape_at v.nodes t) refl h
    entered_old (Selecting a i) e s t c f h = stays s t (shape_at v.nodes t) h
    entered_old (Storing b j x) e s t c f h = stays s t (shape_at v.nodes t) h
    entered_old (Filling x) e s t c f h = stays s t (shape_at v.nodes t) h
    entered_old (Choosing x a b) e s t c f h = stays s t (shape_at v.nodes t) h
    entered_old (Equating a b) e s t c f h = stays s t (shape_at v.nodes t) h
    entered_old (Witnessing a b) e s t c f h = stays s t (shape_at v.nodes t) h
    entered_old Other e s t c f h = stays s t (shape_at v.nodes t) h

    pub entered_new : (k : Shape) → shape_at v.nodes t₀ ≡ k → EntersShape v.nodes val t₀ k old new → Has new t₀ (shape_at v.nodes t₀)
    entered_new (Declaring d q) e s = new_constant d q e s
    entered_new (Applying d) e s = new_row d e s
    entered_new (Selecting a i) e s = subst (Has new t₀) (sym e) tt
    entered_new (Storing b j x) e s = subst (Has new t₀) (sym e) tt
    entered_new (Filling x) e s = subst (Has new t₀) (sym e) tt
    entered_new (Choosing x a b) e s = subst (Has new t₀) (sym e) tt
    entered_new (Equating a b) e s = subst (Has new t₀) (sym e) tt
    entered_new (Witnessing a b) e s = subst (Has new t₀) (sym e) tt
    entered_new Other e s = subst (Has new t₀) (sym e) tt

  -- the first so many terms, and one more
  abbrev pub HasUpto : ℕ → List (Option Value) → Type 0
  HasUpto count values = (j t : ℕ) → j < count → slice_get ts j ≡ Some t → image t ≡ None → Has values t (shape_at v.nodes t)

  pub one_more : (old new : List (Option Value)) (count t₀ : ℕ) → slice_get ts count ≡ Some t₀ → (contained : (j t : ℕ) → slice_get ts j ≡ Some t → Contains ts t)
      → EntersBy v.nodes val t₀ (image t₀) old new → HasUpto count old → HasUpto (suc count) new
  one_more old new count t₀ at contained enters have j t lt e free = go (image t₀) refl enters where
    before : (o : Option ℕ) → image t₀ ≡ o → EntersBy v.nodes val t₀ o old new → j < count → Has new t (shape_at v.nodes t)
    before None p s less = entered_old old new t₀ (contained count t₀ at) p (shape_at v.nodes t₀) refl s t (contained j t e) free (have j t less e free)
    before (Some u) p s less = kept v.nodes val Is Is old new t (shape_at v.nodes t) (λ x n. s x) (λ d n m a z i k w. w) (have j t less e free)

    last : (o : Option ℕ) → image t₀ ≡ o → EntersBy v.nodes val t₀ o old new → t ≡ t₀ → Has new t (shape_at v.nodes t)
    last None p s same = subst (λ x. Has new x (shape_at v.nodes x)) (sym same) (entered_new old new t₀ (contained count t₀ at) p (shape_at v.nodes t₀) refl s)
    last (Some u) p s same = let z : None ≡ Some u = sym free ∙ ap image same ∙ p in let y : ⊥ = cc in absurd y

    go : (o : Option ℕ) → image t₀ ≡ o → EntersBy v.nodes val t₀ o old new → Has new t (shape_at v.nodes t)
    go o p s = ⊎_elim
        (λ less. before o p s less)
        (λ more.
        let here : j ≡ count = omega (arith, lt, more) in
        let both : Some t ≡ Some t₀ = sym e ∙ ap (slice_get ts) here ∙ at in
        let same : t ≡ t₀ = cc in
        last o p s same)
        (cases_lt j count)
