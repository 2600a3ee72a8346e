-- Drafts stay well sorted, and so is the interpretation of one that has all terms.
use Rattle.std.proofs.Common.{◌≡◌, ℕ, Bool, true, false, List, [], ◌∷◌, length, Option, Some, None, Ok, refl, sym, ap, ◌∙◌, subst, ⊎_elim}
use Rattle.std.specs.Prelude.{◌==◌, map, Contains}
use Rattle.std.specs.List.{AllByRecursion}
use Rattle.std.proofs.lemmas.Bool.{eqb-true, eqb-false}
use Rattle.std.proofs.lemmas.Nat.{pow_pos}
use Rattle.std.proofs.lemmas.Option.{slice_get_within}
use Rattle.smt_words.specs.Words.{WordValue, IsWidth, word}
use Rattle.smt_terms.specs.declared.sort.Sort.{Sort}
use Rattle.smt_terms.specs.declared.sort.Sort.TheVariants as sort
use Rattle.smt_terms.specs.declared.sort.Signature.{Signature}
use Rattle.smt_terms.specs.declared.node.Op.{Op}
use Rattle.smt_terms.specs.declared.node.Op.TheVariants.{Constant, Apply}
use Rattle.smt_terms.specs.declared.node.Node.{Node}
use Rattle.smt_terms.specs.Nodes.{node_at}
use Rattle.smt_terms.specs.Bits.{TermBits, image_in}
use Rattle.smt_terms.specs.Terms.{op_rank, sort_of, declaration_of, signature_of, constant_signature, TermsValue, AreTerms, IsSort}
use Rattle.smt_terms.specs.Values as of
use Rattle.smt_terms.specs.Values.{HasSort}
use Rattle.smt_terms.proofs.Widths.{sort_bounded}
use Rattle.smt_values.specs.declared.value.Value.{Value}
use Rattle.smt_values.specs.declared.value.Value.TheVariants as held
use Rattle.smt_values.specs.Arrays.{ArrayFields, constant_array}
use Rattle.smt_values.specs.Tables.{TableFields, with_row}
use Rattle.smt_values.specs.Held.{value_of, set_for}
use Rattle.theory_terms.specs.declared.shape.Shape.{Shape}
use Rattle.theory_terms.specs.declared.shape.Shape.TheVariants.{Selecting, Storing, Filling, Choosing, Equating, Witnessing, Applying, Declaring, Other}
use Rattle.theory_terms.specs.declared.atom.Landing.{Landing}
use Rattle.theory_terms.specs.Shapes.{IsPlain, shape_of, shape_at}
use Rattle.theory_terms.proofs.Ranked.{apply_rank}
use Rattle.term_reach.specs.Reach.{IsClosed}
use Rattle.term_reach.proofs.Tables.{at_contained}
use Rattle.access_tables.specs.Leading.{leads}
use Rattle.access_tables.specs.Encoded.{HaveBits}
use Rattle.access_tables.specs.Held.{TableValue, IsAccess, assigned_value}
use Rattle.access_tables.proofs.Encoded.{value_sort}
use Rattle.model_build.specs.Sorted.{IsValueOf, AreValuesOf, IsTableOf, IsOfSignature, IsOwnTerm, IsTermOf, IsWellSorted}
use Rattle.model_build.specs.Drafts.{IsPlainTerm, Sets, Stays, entered_in, table_of, rowed_in, zero_of, IsFirstOf, EntersConstant, EntersRow, EntersShape, EntersBy, Enters, RowShape, SetsDefault, SetsElement, GivesDefault, GivesElement, HoldsShape, IsFilled, HasElements, AreSorted}
use Rattle.model_build.proofs.Declared.{declaring_op, applying_op, some_arguments}
use Rattle.model_build.proofs.Given.{is_plain_is, row_sorted, array_free, declared_sort, applied_arguments, own_widths, index_less, value_less}
use Rattle.model_build.proofs.Keeping.{sets_at, sets_other, Names}
use Rattle.model_build.proofs.Values.{constant_is_array, element_entered, scalar_sorted, value_sorted, zero_sorted, arguments_sorted, row_entered, constant_table_sorted, table_sorted, sorted_table}

module _ (v : TermsValue) (terms : AreTerms v) (bits : List TermBits) (ts : List ℕ) where
  abbrev Own : ℕ → Type 0
  Own t = IsOwnTerm bits ts t

  abbrev Sorted : List (Option Value) → Type 0
  Sorted values = AreSorted v.nodes bits ts values

  abbrev signature : ℕ → Signature
  signature t = signature_of (node_at v.nodes t).op

  -- terms of one declaration have one signature
  same_signature : (t u d : ℕ) → IsTermOf v.nodes t d → IsTermOf v.nodes u d → signature t ≡ signature u
  same_signature t u d p q = terms.declared u t d p q

  -- ---- changes of one declaration

  stays_sorted : (old new : List (Option Value)) → Stays old new → Sorted old → Sorted new
  stays_sorted old new same s d w at = s d w (sym (same d) ∙ at)

  changed_sorted : (old new : List (Option Value)) (d : ℕ) (change : Option Value → Option Value) (t : ℕ) → Own t → IsTermOf v.nodes t d → ((w : Value) → change (set_for old d) ≡ Some w → IsOfSignature (signature t) w)
      → Sets d change old new → Sorted old → Sorted new
  changed_sorted old new d change t own names fine sets s e w at = by_case (e == d) refl where
    by_case : (b : Bool) → (e == d) ≡ b → (u : ℕ) × Own u × IsTermOf v.nodes u e × IsOfSignature (signature u) w
    by_case true p =
        let same : e ≡ d = eqb-true e d p in
        (t, own, names ∙ ap Some (sym same), fine w (sym (sets_at d change old new sets) ∙ ap (set_for new) (sym same) ∙ at))
    by_case false p = s e w (sym (sets_other d change old new sets e (eqb-false e d p)) ∙ at)

  -- ---- one term more that is entered

  module _ (f : ℕ → Bool) (have : HaveBits v.nodes bits (Contains ts)) (closed : IsClosed (leads v.nodes (image_in bits)) (Contains ts)) where
    abbrev val : ℕ → of.Value
    val = assigned_value v.nodes bits f

    module _ (old new : List (Option Value)) (t : ℕ) (own : Own t) (s : Sorted old) where
      bounded : IsSort (sort_of v.nodes t)
      bounded = sort_bounded v.nodes terms.list t (have.held t own.0)

      -- ---- a declared constant

      module _ (d : ℕ) (q : Sort) (is : shape_at v.nodes t ≡ Declaring d q) where
        constant_op : (node_at v.nodes t).op ≡ Constant d q
        constant_op = declaring_op (node_at v.nodes t).op (node_at v.nodes t).args d q is

        own_sort : sort_of v.nodes t ≡ q
        own_sort = declared_sort v.nodes terms.list t d q is

        plain_first : IsPlain q → HasSort q (val t)
        plain_first p = subst (λ r. HasSort r (val t)) own_sort (value_sort v.nodes terms.list bits f (Contains ts) have t own.0 (subst IsPlain (sym own_sort) p))

      first_sorted : (d : ℕ) (q : Sort) (w : Value) → shape_at v.nodes t ≡ Declaring d q → IsFirstOf (val t) q w → IsValueOf q w
      first_sorted d sort.Bool w is h = value_sorted sort.Bool w (val t) tt tt h.1 h.0 (plain_first d sort.Bool is tt)
      first_sorted d (sort.Word n) w is h = value_sorted (sort.Word n) w (val t) tt (subst IsSort (own_sort d (sort.Word n) is) bounded) h.1 h.0 (plain_first d (sort.Word n) is tt)
      first_sorted d (sort.Array n m) w is h =
          let b : IsSort (sort.Array n m) = subst IsSort (own_sort d (sort.Array n m) is) bounded in
          subst (IsValueOf (sort.Array n m)) (sym h) (refl, constant_is_array n m 0 (b.0, b.1) (b.2, b.3) (pow_pos m))

      constant_sorted : (d : ℕ) (q : Sort) → shape_at v.nodes t ≡ Declaring d q → EntersConstant (val t) d q old new → Sorted new
      constant_sorted d q is enters =
          let op : (node_at v.nodes t).op ≡ Constant d q = constant_op d q is in
          let first : IsValueOf q enters.value = first_sorted d q enters.value is enters.first in
          changed_sorted old new d (λ o. Some enters.value) t own (ap declaration_of op)
          (λ w e. (let same : enters.value ≡ w = cc in subst (λ g. IsOfSignature g w) (sym (ap signature_of op)) (subst (IsValueOf q) same first)))
          enters.sets s

      -- ---- an application

      argument_fits : (a : ℕ) → IsPlainTerm v.nodes bits a → IsPlain (sort_of v.nodes a) × IsSort (sort_of v.nodes a) × HasSort (sort_of v.nodes a) (val a)
      argument_fits a h = (is_plain_is (sort_of v.nodes a) h.1, sort_bounded v.nodes terms.list a h.0, row_sorted v.nodes bits f a h.2)

      arguments_fit : (args : List ℕ) → AllByRecursion (IsPlainTerm v.nodes bits) args → AllByRecursion (λ a. IsPlain (sort_of v.nodes a) × IsSort (sort_of v.nodes a) × HasSort (sort_of v.nodes a) (val a)) args
      arguments_fit [] h = tt
      arguments_fit (a ∷ args) h = (argument_fits a h.0, arguments_fit args h.1)

      module _ (d : ℕ) (is : shape_at v.nodes t ≡ Applying d) (g : Signature) (apply_op : (node_at v.nodes t).op ≡ Apply d g) (enters : EntersRow (map val (node_at v.nodes t).args) (val t) (sort_of v.nodes t) d old new) where
        rank : op_rank (Apply d g) (map (sort_of v.nodes) (node_at v.nodes t).args) ≡ Ok (sort_of v.nodes t)
        rank = ap (λ o. op_rank o (map (sort_of v.nodes) (node_at v.nodes t).args)) (sym apply_op) ∙ (terms.list t (have.held t own.0)).rank

        ranks : (map (sort_of v.nodes) (node_at v.nodes t).args ≡ g.args) × AllByRecursion IsPlain (map (sort_of v.nodes) (node_at v.nodes t).args) × (sort_of v.nodes t ≡ g.value) × IsPlain (sort_of v.nodes t)
        ranks = apply_rank d g (map (sort_of v.nodes) (node_at v.nodes t).args) (sort_of v.nodes t) rank

        some : g.args ≡ [] → ⊥
        some none = some_arguments d g (map (sort_of v.nodes) (node_at v.nodes t).args) (sort_of v.nodes t) none rank

        zero_is : IsValueOf g.value (value_of (zero_of (sort_of v.nodes t)))
        zero_is = subst (λ q. IsValueOf q (value_of (zero_of (sort_of v.nodes t)))) ranks.2 (zero_sorted (sort_of v.nodes t) ranks.3 bounded)

        value_is : IsValueOf g.value (value_of enters.value)
        value_is = subst (λ q. IsValueOf q (value_of enters.value)) ranks.2
            (scalar_sorted (sort_of v.nodes t) enters.value (val t) ranks.3 bounded enters.is (value_sort v.nodes terms.list bits f (Contains ts) have t own.0 ranks.3))

        arguments_are : AreValuesOf g.args enters.args
        arguments_are = subst (λ qs. AreValuesOf qs enters.args) ranks.0
            (arguments_sorted (sort_of v.nodes) val (node_at v.nodes t).args enters.args
            (arguments_fit (node_at v.nodes t).args (applied_arguments v.nodes terms.list bits (Contains ts) have closed t own.0 own.1 d is)) enters.are)

        old_table : (o : Option Value) → set_for old d ≡ o → IsTableOf g (table_of (zero_of (sort_of v.nodes t)) o)
        old_table None e = constant_table_sorted g (zero_of (sort_of v.nodes t)) zero_is
        old_table (Some w) e =
            let h = s d w e in
            let same : signature h.0 ≡ g = same_signature h.0 t d h.2 (ap declaration_of apply_op) ∙ ap signature_of apply_op in
            let k = sorted_table g w some (subst (λ x. IsOfSignature x w) same h.3) in
            subst (λ x. IsTableOf g (table_of (zero_of (sort_of v.nodes t)) (Some x))) (sym k.1) k.2

        application_sorted : Sorted new
        application_sorted =
            let table : TableFields = with_row (table_of (zero_of (sort_of v.nodes t)) (set_for old d)) enters.args enters.value in
            let sorted : IsTableOf g table = row_entered g (table_of (zero_of (sort_of v.nodes t)) (set_for old d)) enters.args enters.value (old_table (set_for old d) refl) arguments_are value_is in
            changed_sorted old new d (rowed_in (zero_of (sort_of v.nodes t)) enters.args enters.value) t own (ap declaration_of apply_op)
            (λ w e. (let same : held.Fun table ≡ w = cc in subst (λ x. IsOfSignature x w) (sym (ap signature_of apply_op)) (subst (IsOfSignature g) same (table_sorted g table some sorted))))
            enters.sets s

      -- ---- either

      shape_sorted : (k : Shape) → shape_at v.nodes t ≡ k → EntersShape v.nodes val t k old new → Sorted new
      shape_sorted (Declaring d q) e h = constant_sorted d q e h
      shape_sorted (Applying d) e h = let a = applying_op (node_at v.nodes t).op (node_at v.nodes t).args d e in application_sorted d e a.0 a.1 h
      shape_sorted (Selecting a i) e h = stays_sorted old new h s
      shape_sorted (Storing b j x) e h = stays_sorted old new h s
      shape_sorted (Filling x) e h = stays_sorted old new h s
      shape_sorted (Choosing c a b) e h = stays_sorted old new h s
      shape_sorted (Equating a b) e h = stays_sorted old new h s
      shape_sorted (Witnessing a b) e h = stays_sorted old new h s
      shape_sorted Other e h = stays_sorted old new h s

    pub term_sorted : (old new : List (Option Value)) (t : ℕ) → Contains ts t → Enters v.nodes bits f t old new → Sorted old → Sorted new
    term_sorted old new t here enters s = go (image_in bits t) refl enters where
      go : (o : Option ℕ) → image_in bits t ≡ o → EntersBy v.nodes val t o old new → Sorted new
      go None e h = shape_sorted old new t (here, e) s (shape_at v.nodes t) refl h
      go (Some u) e h = stays_sorted old new h s

  -- ---- one access more that is given

  module _ (f : ℕ → Bool) (have : HaveBits v.nodes bits (Contains ts)) (old new : List (Option Value)) (r : Landing) (access : IsAccess v.nodes bits ts r) (s : Sorted old) where
    own_array : Own r.array
    own_array = (access.here, array_free v.nodes bits (Contains ts) have r.array access.index access.element access.array)

    module _ (d n m : ℕ) (is : shape_at v.nodes r.array ≡ Declaring d (sort.Array n m)) where
      array_op : (node_at v.nodes r.array).op ≡ Constant d (sort.Array n m)
      array_op = declaring_op (node_at v.nodes r.array).op (node_at v.nodes r.array).args d (sort.Array n m) is

      -- what is an array of the widths may be the value
      of_signature : (w : Value) → IsValueOf (sort.Array n m) w → IsOfSignature (signature r.array) w
      of_signature w h = subst (λ x. IsOfSignature x w) (sym (ap signature_of array_op)) h

      widths : IsWidth n × IsWidth m
      widths = own_widths v.nodes terms.list bits f ts r access d n m is

      default_set_sorted : (spares : List WordValue) → SetsDefault (assigned_value v.nodes bits f) spares r d n m old new → Sorted new
      default_set_sorted spares h = ⊎_elim
          (λ p.
          let x : ℕ = of.number_of (assigned_value v.nodes bits f r.value) in
          let array : IsValueOf (sort.Array n m) (held.Array (constant_array n (word m x))) = (refl, constant_is_array n m x widths.0 widths.1 (value_less v.nodes terms.list bits f ts r access d n m is)) in
          changed_sorted old new d (λ o. Some (held.Array (constant_array n (word m x)))) r.array own_array (ap declaration_of array_op)
          (λ w e. (let same : held.Array (constant_array n (word m x)) ≡ w = cc in of_signature w (subst (IsValueOf (sort.Array n m)) same array))) p.1 s)
          (λ p. stays_sorted old new p.1 s)
          h

      element_set_sorted : SetsElement (assigned_value v.nodes bits f) r d n m old new → Sorted new
      element_set_sorted h =
          changed_sorted old new d (entered_in (word n i) (word m x)) r.array own_array (ap declaration_of array_op) (λ w e. entered (set_for old d) refl w e) h s where
            i : ℕ
            i = of.number_of (assigned_value v.nodes bits f r.index)

            x : ℕ
            x = of.number_of (assigned_value v.nodes bits f r.value)

            entered : (o : Option Value) → set_for old d ≡ o → (w : Value) → entered_in (word n i) (word m x) o ≡ Some w → IsOfSignature (signature r.array) w
            entered None e w q = let z : ⊥ = cc in absurd z
            entered (Some y) e w q =
                let k = s d y e in
                let same : signature k.0 ≡ constant_signature (sort.Array n m) = same_signature k.0 r.array d k.2 (ap declaration_of array_op) ∙ ap signature_of array_op in
                of_signature w (element_entered n m i x y w (index_less v.nodes terms.list bits f ts r access d n m is) (value_less v.nodes terms.list bits f ts r access d n m is) (subst (λ z. IsOfSignature z y) same k.3) q)

    default_shaped : (spares : List WordValue) (k : Shape) → shape_at v.nodes r.array ≡ k → RowShape (λ d n m. SetsDefault (assigned_value v.nodes bits f) spares r d n m old new) (Stays old new) k → Sorted new
    default_shaped spares (Declaring d (sort.Array n m)) e h = default_set_sorted d n m e spares h
    default_shaped spares (Declaring d sort.Bool) e h = stays_sorted old new h s
    default_shaped spares (Declaring d (sort.Word n)) e h = stays_sorted old new h s
    default_shaped spares (Selecting a i) e h = stays_sorted old new h s
    default_shaped spares (Storing b j x) e h = stays_sorted old new h s
    default_shaped spares (Filling x) e h = stays_sorted old new h s
    default_shaped spares (Choosing c a b) e h = stays_sorted old new h s
    default_shaped spares (Equating a b) e h = stays_sorted old new h s
    default_shaped spares (Witnessing a b) e h = stays_sorted old new h s
    default_shaped spares (Applying d) e h = stays_sorted old new h s
    default_shaped spares Other e h = stays_sorted old new h s

    element_shaped : (k : Shape) → shape_at v.nodes r.array ≡ k → RowShape (λ d n m. SetsElement (assigned_value v.nodes bits f) r d n m old new) (Stays old new) k → Sorted new
    element_shaped (Declaring d (sort.Array n m)) e h = element_set_sorted d n m e h
    element_shaped (Declaring d sort.Bool) e h = stays_sorted old new h s
    element_shaped (Declaring d (sort.Word n)) e h = stays_sorted old new h s
    element_shaped (Selecting a i) e h = stays_sorted old new h s
    element_shaped (Storing b j x) e h = stays_sorted old new h s
    element_shaped (Filling x) e h = stays_sorted old new h s
    element_shaped (Choosing c a b) e h = stays_sorted old new h s
    element_shaped (Equating a b) e h = stays_sorted old new h s
    element_shaped (Witnessing a b) e h = stays_sorted old new h s
    element_shaped (Applying d) e h = stays_sorted old new h s
    element_shaped Other e h = stays_sorted old new h s

    pub default_sorted : (spares : List WordValue) → GivesDefault v.nodes (assigned_value v.nodes bits f) spares r old new → Sorted new
    default_sorted spares h = default_shaped spares (shape_at v.nodes r.array) refl h

    pub element_sorted : GivesElement v.nodes (assigned_value v.nodes bits f) r old new → Sorted new
    element_sorted h = element_shaped (shape_at v.nodes r.array) refl h

pub nothing_sorted : (nodes : List Node) (bits : List TermBits) (ts : List ℕ) → AreSorted nodes bits ts []
nothing_sorted nodes bits ts d w e = let f : ⊥ = cc in absurd f

-- ---- a draft that has all terms

-- an operator of a declaration is that of a constant or of an application
named_shape : (op : Op) (args : List ℕ) (d : ℕ) → declaration_of op ≡ Some d → Names (shape_of op args) d
named_shape (Constant c q) args d e = let p : c ≡ d = cc in p
named_shape (Apply c g) args d e = let p : c ≡ d = cc in p
named_shape op args d e = let f : ⊥ = cc in absurd f

-- where the draft has all terms, a value is set
value_set : (Is : ℕ → ArrayFields → Type 0) (nodes : List Node) (val : ℕ → of.Value) (values : List (Option Value)) (t : ℕ) (k : Shape) (d : ℕ) → HoldsShape Is nodes val values t k → Names k d → (w : Value) × (set_for values d ≡ Some w)
value_set Is nodes val values t (Declaring c sort.Bool) d h n = (h.0, ap (set_for values) (sym n) ∙ h.1)
value_set Is nodes val values t (Declaring c (sort.Word l)) d h n = (h.0, ap (set_for values) (sym n) ∙ h.1)
value_set Is nodes val values t (Declaring c (sort.Array l m)) d h n = (held.Array h.array, ap (set_for values) (sym n) ∙ h.set)
value_set Is nodes val values t (Applying c) d h n = (held.Fun h.table, ap (set_for values) (sym n) ∙ h.set)
value_set Is nodes val values t (Selecting a i) d h n = absurd n
value_set Is nodes val values t (Storing b j x) d h n = absurd n
value_set Is nodes val values t (Filling x) d h n = absurd n
value_set Is nodes val values t (Choosing c a b) d h n = absurd n
value_set Is nodes val values t (Equating a b) d h n = absurd n
value_set Is nodes val values t (Witnessing a b) d h n = absurd n
value_set Is nodes val values t Other d h n = absurd n

pub well_sorted : (v : TermsValue) → AreTerms v → (bits : List TermBits) (f : ℕ → Bool) (table : TableValue) (draft values : List (Option Value)) → ((d : ℕ) → set_for values d ≡ set_for draft d)
    → HasElements v.nodes bits f table (length table.terms) (length table.rows) draft → AreSorted v.nodes bits table.terms draft → IsWellSorted v.nodes bits table.terms values
well_sorted v terms bits f table draft values same all sorted = record { valued = valued; only = only } where
  valued : (t d : ℕ) → IsOwnTerm bits table.terms t → IsTermOf v.nodes t d → (w : Value) × (set_for values d ≡ Some w) × IsOfSignature (signature_of (node_at v.nodes t).op) w
  valued t d own names =
      let at = at_contained table.terms t own.0 in
      let holds = all at.0 t (slice_get_within table.terms at.0 t at.1) at.1 own.1 in
      let set = value_set (IsFilled v.nodes (assigned_value v.nodes bits f) table (length table.rows)) v.nodes (assigned_value v.nodes bits f) draft t (shape_at v.nodes t) d holds (named_shape (node_at v.nodes t).op (node_at v.nodes t).args d names) in
      let h = sorted d set.0 set.1 in
      (set.0, same d ∙ set.1, subst (λ g. IsOfSignature g set.0) (terms.declared t h.0 d h.2 names) h.3)

  only : (d : ℕ) (w : Value) → set_for values d ≡ Some w → (t : ℕ) × IsOwnTerm bits table.terms t × IsTermOf v.nodes t d
  only d w e = let h = sorted d w (sym (same d) ∙ e) in (h.0, h.1, h.2)
