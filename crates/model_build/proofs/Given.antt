-- What the conditions of a build say of its parts.
use Rattle.std.proofs.Common.{◌≡◌, ℕ, ◌<◌, ◌≤◌, ◌^◌, Bool, true, List, [], ◌∷◌, length, Option, Some, None, refl, sym, ap, ◌∙◌, subst, inl, inr, ⊎_elim}
use Rattle.std.specs.Prelude.{map, Contains}
use Rattle.std.specs.List.{AllByRecursion}
use Rattle.std.proofs.lemmas.Bool.{cases_lt}
use Rattle.std.proofs.lemmas.List.{get_or_past}
use Rattle.std.proofs.lemmas.List.Elements.{Contains-append_left, Contains-append_right}
use Rattle.smt_words.specs.Words.{WordValue, IsWidth, word}
use Rattle.smt_terms.specs.declared.sort.Sort.{Sort}
use Rattle.smt_terms.specs.declared.sort.Sort.TheVariants as sort
use Rattle.smt_terms.specs.declared.node.Node.{Node}
use Rattle.smt_terms.specs.Nodes.{no_node, node_at}
use Rattle.smt_terms.specs.Bits.{TermBits, image_in}
use Rattle.smt_terms.specs.Ranks.{is_plain, is_word, width_of}
use Rattle.smt_terms.specs.Terms.{op_sort, sort_of, IsTermList, IsSort}
use Rattle.smt_terms.specs.Values as of
use Rattle.smt_terms.specs.Values.{HasSort}
use Rattle.smt_terms.proofs.Recursion.{at_term_is}
use Rattle.smt_terms.proofs.Widths.{sort_bounded}
use Rattle.smt_terms.proofs.Evaluating.{value_is_evaluation}
use Rattle.smt_values.specs.declared.value.Value.{Value}
use Rattle.smt_values.specs.declared.value.Value.TheVariants as held
use Rattle.smt_values.specs.Arrays.{IsOfWidth}
use Rattle.smt_values.specs.Held.{set_for}
use Rattle.theory_terms.specs.declared.shape.Shape.{Shape}
use Rattle.theory_terms.specs.declared.shape.Shape.TheVariants.{Selecting, Storing, Filling, Choosing, Equating, Witnessing, Applying, Declaring, Other}
use Rattle.theory_terms.specs.declared.atom.Landing.{Landing}
use Rattle.theory_terms.specs.Shapes.{IsPlain, shape_at}
use Rattle.theory_terms.proofs.Shapes.{FactsOf, facts}
use Rattle.term_reach.specs.Reach.{IsClosed}
use Rattle.term_reach.proofs.Tables.{contains_at}
use Rattle.access_tables.specs.Leading.{watched, leads_by, leads}
use Rattle.access_tables.specs.Encoded.{HaveBits}
use Rattle.access_tables.specs.Held.{HasRow, IsAccess, assigned_value, value_by}
use Rattle.access_tables.proofs.Encoded.{row_sort}
use Rattle.access_tables.proofs.Building.{word_lt}
use Rattle.access_tables.specs.Held.{spare_in}
use Rattle.smt_values.specs.Arrays.{constant_array}
use Rattle.model_build.specs.Drafts.{IsPlainTerm, Sets, RowShape, SetsDefault, SetsElement, Takes, entered_in, IsOpenArray}

past_sort : (nodes : List Node) (t : ℕ) → length nodes ≤ t → sort_of nodes t ≡ sort.Bool
past_sort nodes t le =
    let e : node_at nodes t ≡ no_node = get_or_past nodes t no_node le in
    at_term_is sort.Bool (λ u. op_sort) nodes t (rw e tt) ∙ rw e refl

-- a word is held
pub word_within : (nodes : List Node) (t n : ℕ) → sort_of nodes t ≡ sort.Word n → t < length nodes
word_within nodes t n e =
    ⊎_elim (λ lt. lt) (λ le. (let q : sort.Word n ≡ sort.Bool = sym e ∙ past_sort nodes t le in let f : ⊥ = cc in absurd f)) (cases_lt t (length nodes))

-- an array is held
pub array_within : (nodes : List Node) (t n m : ℕ) → sort_of nodes t ≡ sort.Array n m → t < length nodes
array_within nodes t n m e =
    ⊎_elim (λ lt. lt) (λ le. (let q : sort.Array n m ≡ sort.Bool = sym e ∙ past_sort nodes t le in let f : ⊥ = cc in absurd f)) (cases_lt t (length nodes))

pub array_widths : (nodes : List Node) → IsTermList nodes → (t n m : ℕ) → sort_of nodes t ≡ sort.Array n m → IsWidth n × IsWidth m
array_widths nodes terms t n m e =
    let h : IsSort (sort.Array n m) = subst IsSort e (sort_bounded nodes terms t (array_within nodes t n m e)) in
    ((h.0, h.1), (h.2, h.3))

plain_is : (s : Sort) → IsPlain s → is_plain s ≡ true
plain_is sort.Bool p = refl
plain_is (sort.Word n) p = refl
plain_is (sort.Array n m) p = absurd p

pub is_plain_is : (s : Sort) → is_plain s ≡ true → IsPlain s
is_plain_is sort.Bool p = tt
is_plain_is (sort.Word n) p = tt
is_plain_is (sort.Array n m) p = let f : ⊥ = cc in absurd f

pub word_is : (s : Sort) (n : ℕ) → s ≡ sort.Word n → is_word s ≡ true
word_is s n e = ap is_word e

-- a term with bits has a value of its sort
pub row_sorted : (nodes : List Node) (bits : List TermBits) (f : ℕ → Bool) (t : ℕ) → HasRow nodes bits t → HasSort (sort_of nodes t) (assigned_value nodes bits f t)
row_sorted nodes bits f t h = subst (HasSort (sort_of nodes t)) (sym (ap (value_by f (sort_of nodes t)) h.1)) (row_sort f (sort_of nodes t) h.0 h.2)

-- the number of a word with bits fits its width
pub word_fits : (nodes : List Node) (bits : List TermBits) (f : ℕ → Bool) (t n : ℕ) → sort_of nodes t ≡ sort.Word n → HasRow nodes bits t → of.number_of (assigned_value nodes bits f t) < 2 ^ n
word_fits nodes bits f t n e h = word_lt n (assigned_value nodes bits f t) (subst (λ s. HasSort s (assigned_value nodes bits f t)) e (row_sorted nodes bits f t h))

-- an array has no image
pub array_free : (nodes : List Node) (bits : List TermBits) (Here : ℕ → Type 0) → HaveBits nodes bits Here → (t n m : ℕ) → sort_of nodes t ≡ sort.Array n m → image_in bits t ≡ None
array_free nodes bits Here have t n m s = go (image_in bits t) refl where
  go : (o : Option ℕ) → image_in bits t ≡ o → image_in bits t ≡ None
  go None e = e
  go (Some u) e = absurd (subst IsPlain s (have.images.plain t u e))

-- the word of a term of this width
pub word_at_width : (nodes : List Node) (bits : List TermBits) (f : ℕ → Bool) (t n : ℕ) (w : WordValue) → sort_of nodes t ≡ sort.Word n
    → w ≡ word (width_of (sort_of nodes t)) (of.number_of (assigned_value nodes bits f t)) → w ≡ word n (of.number_of (assigned_value nodes bits f t))
word_at_width nodes bits f t n w e is = is ∙ ap (λ s. word (width_of s) (of.number_of (assigned_value nodes bits f t))) e

module _ (nodes : List Node) (terms : IsTermList nodes) where
  -- a declared array has the widths of its sort
  pub declared_sort : (t d : ℕ) (q : Sort) → shape_at nodes t ≡ Declaring d q → sort_of nodes t ≡ q
  declared_sort t d q e =
      let M : of.Interpretation = record { constants = λ x. of.no_value; functions = λ x vs. of.no_value } in
      (subst (FactsOf M (sort_of nodes) (of.value M nodes) t (node_at nodes t)) e (facts M nodes (of.value M nodes) terms (value_is_evaluation M nodes terms) t)).sort

  applied_plain : (t d : ℕ) → shape_at nodes t ≡ Applying d → IsPlain (sort_of nodes t) × AllByRecursion IsPlain (map (sort_of nodes) (node_at nodes t).args)
  applied_plain t d e =
      let M : of.Interpretation = record { constants = λ x. of.no_value; functions = λ x vs. of.no_value } in
      let f = subst (FactsOf M (sort_of nodes) (of.value M nodes) t (node_at nodes t)) e (facts M nodes (of.value M nodes) terms (value_is_evaluation M nodes terms) t) in
      (f.plain, f.plain_args)

  module _ (bits : List TermBits) (Here : ℕ → Type 0) (have : HaveBits nodes bits Here) (closed : IsClosed (leads nodes (image_in bits)) Here) (t : ℕ) (here : Here t) (free : image_in bits t ≡ None) where
    arg_here : (u : ℕ) → Contains (node_at nodes t).args u → Here u
    arg_here u c = closed t u here (subst (λ l. Contains l u) (sym (ap (leads_by nodes t) free)) (Contains-append_left (node_at nodes t).args (watched nodes (shape_at nodes t)) u c))

    plain_term : (u : ℕ) → Here u → IsPlain (sort_of nodes u) → IsPlainTerm nodes bits u
    plain_term u h p = (have.held u h, plain_is (sort_of nodes u) p, have.rows u h p)

    arguments_plain : (args : List ℕ) → ((u : ℕ) → Contains args u → Here u) → AllByRecursion IsPlain (map (sort_of nodes) args) → AllByRecursion (IsPlainTerm nodes bits) args
    arguments_plain [] sub p = tt
    arguments_plain (a ∷ args) sub p = (plain_term a (sub a (contains_at (a ∷ args) 0 a refl)) p.0, arguments_plain args (λ u c. sub u (Contains-append_right (a ∷ []) args u c)) p.1)

    pub applied_arguments : (d : ℕ) → shape_at nodes t ≡ Applying d → AllByRecursion (IsPlainTerm nodes bits) (node_at nodes t).args
    applied_arguments d e = arguments_plain (node_at nodes t).args arg_here (applied_plain t d e).1

    pub applied_term : (d : ℕ) → shape_at nodes t ≡ Applying d → IsPlainTerm nodes bits t
    applied_term d e = plain_term t here (applied_plain t d e).0

    pub declared_row : (d : ℕ) (q : Sort) → shape_at nodes t ≡ Declaring d q → is_plain q ≡ true → HasRow nodes bits t
    declared_row d q e p = have.rows t here (subst IsPlain (sym (declared_sort t d q e)) (is_plain_is q p))

  -- the widths of an access of a declared array
  access_widths : (bits : List TermBits) (ts : List ℕ) (r : Landing) (h : IsAccess nodes bits ts r) (k : Shape) → shape_at nodes r.array ≡ k → RowShape (λ d n m. (n ≡ h.index) × (m ≡ h.element)) (Unit {0}) k
  access_widths bits ts r h (Declaring d (sort.Array n m)) e =
      let both : sort.Array n m ≡ sort.Array h.index h.element = sym (declared_sort r.array d (sort.Array n m) e) ∙ h.array in
      let p : n ≡ h.index = cc in
      let q : m ≡ h.element = cc in
      (p, q)
  access_widths bits ts r h (Declaring d sort.Bool) e = tt
  access_widths bits ts r h (Declaring d (sort.Word n)) e = tt
  access_widths bits ts r h (Selecting a i) e = tt
  access_widths bits ts r h (Storing b j x) e = tt
  access_widths bits ts r h (Filling x) e = tt
  access_widths bits ts r h (Choosing c a b) e = tt
  access_widths bits ts r h (Equating a b) e = tt
  access_widths bits ts r h (Witnessing a b) e = tt
  access_widths bits ts r h (Applying d) e = tt
  access_widths bits ts r h Other e = tt

  pub access_shape : (bits : List TermBits) (ts : List ℕ) (r : Landing) (h : IsAccess nodes bits ts r) → RowShape (λ d n m. (n ≡ h.index) × (m ≡ h.element)) (Unit {0}) (shape_at nodes r.array)
  access_shape bits ts r h = access_widths bits ts r h (shape_at nodes r.array) refl

-- ---- one access of a declared array

module _ (nodes : List Node) (terms : IsTermList nodes) (bits : List TermBits) (f : ℕ → Bool) (ts : List ℕ) (r : Landing) (access : IsAccess nodes bits ts r) (d n m : ℕ) (shape : shape_at nodes r.array ≡ Declaring d (sort.Array n m)) where
  same_widths : (n ≡ access.index) × (m ≡ access.element)
  same_widths =
      let both : sort.Array n m ≡ sort.Array access.index access.element = sym (declared_sort nodes terms r.array d (sort.Array n m) shape) ∙ access.array in
      let p : n ≡ access.index = cc in
      let q : m ≡ access.element = cc in
      (p, q)

  pub own_widths : IsWidth n × IsWidth m
  own_widths = array_widths nodes terms r.array n m (declared_sort nodes terms r.array d (sort.Array n m) shape)

  pub index_wide : IsWidth n
  index_wide = own_widths.0

  pub index_less : of.number_of (assigned_value nodes bits f r.index) < 2 ^ n
  index_less = subst (λ z. of.number_of (assigned_value nodes bits f r.index) < 2 ^ z) (sym same_widths.0) (word_fits nodes bits f r.index access.index access.at access.index_bits)

  pub value_less : of.number_of (assigned_value nodes bits f r.value) < 2 ^ m
  value_less = subst (λ z. of.number_of (assigned_value nodes bits f r.value) < 2 ^ z) (sym same_widths.1) (word_fits nodes bits f r.value access.element access.value access.value_bits)

  pub index_word : (w : WordValue) → w ≡ word (width_of (sort_of nodes r.index)) (of.number_of (assigned_value nodes bits f r.index)) → w ≡ word n (of.number_of (assigned_value nodes bits f r.index))
  index_word w e = word_at_width nodes bits f r.index n w (access.at ∙ ap sort.Word (sym same_widths.0)) e

  pub value_word : (w : WordValue) → w ≡ word (width_of (sort_of nodes r.value)) (of.number_of (assigned_value nodes bits f r.value)) → w ≡ word m (of.number_of (assigned_value nodes bits f r.value))
  value_word w e = word_at_width nodes bits f r.value m w (access.value ∙ ap sort.Word (sym same_widths.1)) e

  pub default_set : (spares : List WordValue) (old new : List (Option Value)) (spare : ℕ) (at w : WordValue) → Some spare ≡ spare_in spares n → spare ≡ at.value
      → at ≡ word (width_of (sort_of nodes r.index)) (of.number_of (assigned_value nodes bits f r.index)) → w ≡ word (width_of (sort_of nodes r.value)) (of.number_of (assigned_value nodes bits f r.value))
      → Sets d (λ o. Some (held.Array (constant_array n w))) old new → SetsDefault (assigned_value nodes bits f) spares r d n m old new
  default_set spares old new spare at w e same p q s =
      inl (sym e ∙ ap Some (same ∙ ap (λ (x : WordValue). x.value) p), subst (λ x. Sets d (λ o. Some (held.Array (constant_array n x))) old new) (value_word w q) s)

  pub default_other : (spares : List WordValue) (old : List (Option Value)) (spare : ℕ) (at : WordValue) → Some spare ≡ spare_in spares n → (spare ≡ at.value → ⊥)
      → at ≡ word (width_of (sort_of nodes r.index)) (of.number_of (assigned_value nodes bits f r.index)) → SetsDefault (assigned_value nodes bits f) spares r d n m old old
  default_other spares old spare at e ne p =
      inr ((λ q. (let both : Some spare ≡ Some (of.number_of (assigned_value nodes bits f r.index)) = e ∙ q in let same : spare ≡ of.number_of (assigned_value nodes bits f r.index) = cc in ne (same ∙ sym (ap (λ (x : WordValue). x.value) p)))), λ x. refl)

  pub default_none : (spares : List WordValue) (old : List (Option Value)) → None ≡ spare_in spares n → SetsDefault (assigned_value nodes bits f) spares r d n m old old
  default_none spares old e = inr ((λ q. (let both : None ≡ Some (of.number_of (assigned_value nodes bits f r.index)) = e ∙ q in let z : ⊥ = cc in z)), λ x. refl)

  pub takes_element : (values : List (Option Value)) (at w : WordValue) → IsOpenArray values d n m
      → at ≡ word (width_of (sort_of nodes r.index)) (of.number_of (assigned_value nodes bits f r.index)) → w ≡ word (width_of (sort_of nodes r.value)) (of.number_of (assigned_value nodes bits f r.value))
      → Takes at w (set_for values d)
  takes_element values at w has p q =
      let i : at ≡ word n (of.number_of (assigned_value nodes bits f r.index)) = index_word at p in
      let x : w ≡ word m (of.number_of (assigned_value nodes bits f r.value)) = value_word w q in
      let fi : IsOfWidth n at = subst (IsOfWidth n) (sym i) (record { width = refl; fits = index_less }) in
      let fx : IsOfWidth m w = subst (IsOfWidth m) (sym x) (record { width = refl; fits = value_less }) in
      subst (Takes at w) (sym has.1) (subst (λ z. IsOfWidth z at) (sym has.2) fi, subst (λ z. IsOfWidth z w) (sym has.3) fx)

  pub element_set : (old new : List (Option Value)) (at w : WordValue)
      → at ≡ word (width_of (sort_of nodes r.index)) (of.number_of (assigned_value nodes bits f r.index)) → w ≡ word (width_of (sort_of nodes r.value)) (of.number_of (assigned_value nodes bits f r.value))
      → Sets d (entered_in at w) old new → SetsElement (assigned_value nodes bits f) r d n m old new
  element_set old new at w p q s = subst (λ y. Sets d (entered_in (word n (of.number_of (assigned_value nodes bits f r.index))) y) old new) (value_word w q) (subst (λ x. Sets d (entered_in x w) old new) (index_word at p) s)
