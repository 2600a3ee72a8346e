-- Where a table's words are coherent, the interpretation that has them gives each term the assignment's value.
use Rattle.std.proofs.Common.{◌≡◌, ℕ, zero, suc, ◌<◌, ◌^◌, Bool, true, false, List, [], ◌∷◌, ◌++◌, length, Option, Some, None, refl, sym, ap, ◌∙◌, subst, ⊎_elim, arith}
use Rattle.std.specs.Prelude.{◌==◌, if◌then◌else◌, map, slice_get, Contains}
use Rattle.std.specs.List.{AllByRecursion}
use Rattle.std.proofs.lemmas.Bool.{eq-eqb, eqb-true, eqb-false}
use Rattle.std.proofs.lemmas.List.Elements.{Contains-append_left, Contains-append_right}
use Rattle.smt_terms.specs.declared.sort.Sort.{Sort}
use Rattle.smt_terms.specs.declared.sort.Sort.TheVariants as sort
use Rattle.smt_terms.specs.declared.operator.Operator.TheVariants as plain
use Rattle.smt_terms.specs.declared.node.Op.{Op}
use Rattle.smt_terms.specs.declared.node.Op.TheVariants.{Plain, ConstantArray}
use Rattle.smt_terms.specs.declared.node.Node.{Node}
use Rattle.smt_terms.specs.Nodes.{node_at}
use Rattle.smt_terms.specs.Ranks.{is_array}
use Rattle.smt_terms.specs.Terms.{sort_of, IsTermList}
use Rattle.smt_terms.specs.Values.{Value, VBool, VWord, VArray, held_at, filled, with_entry, HasSort, read_at, Interpretation, is_true, number_of, width_in, same_value, op_value}
use Rattle.smt_terms.specs.Evaluations.{IsEvaluation}
use Rattle.smt_terms.proofs.Arrays.{stored_same, stored_other, each_all_below}
use Rattle.theory_terms.specs.declared.shape.Shape.{Shape}
use Rattle.theory_terms.specs.declared.shape.Shape.TheVariants.{Selecting, Storing, Filling, Choosing, Equating, Witnessing, Applying, Declaring, Other}
use Rattle.theory_terms.specs.Shapes.{IsPlain, shape_of, shape_at}
use Rattle.theory_terms.proofs.Shapes.{FactsOf, facts}
use Rattle.theory_terms.proofs.Sound.{same_arrays, watch_is}
use Rattle.term_reach.proofs.Tables.{contains_at}
use Rattle.access_tables.specs.Leading.{selects_of, watched, leads_by, leads}
use Rattle.access_tables.specs.Ready.{IsOwn, IsFreeShape, IsFree, IsComputed, IsReady}
use Rattle.access_tables.specs.Built.{IsCoherent, HasWords, IsBuilt}
use Rattle.access_tables.proofs.Giving.{other_plain}

-- ---- the arguments of a term, by its shape

abbrev pub ArgsOf : Shape → List ℕ → Type 0
ArgsOf (Selecting a i) args = args ≡ a ∷ i ∷ []
ArgsOf (Storing b j x) args = args ≡ b ∷ j ∷ x ∷ []
ArgsOf (Filling x) args = args ≡ x ∷ []
ArgsOf (Choosing c a b) args = args ≡ c ∷ a ∷ b ∷ []
ArgsOf (Equating a b) args = args ≡ a ∷ b ∷ []
ArgsOf (Witnessing a b) args = args ≡ a ∷ b ∷ []
ArgsOf (Applying d) args = Unit {0}
ArgsOf (Declaring d q) args = Unit {0}
ArgsOf Other args = Unit {0}

args_of : (op : Op) (args : List ℕ) → ArgsOf (shape_of op args) args
args_of (Plain plain.Ite) (a ∷ b ∷ c ∷ []) = refl
args_of (Plain plain.Equal) (a ∷ b ∷ []) = refl
args_of (Plain plain.Select) (a ∷ b ∷ []) = refl
args_of (Plain plain.Store) (a ∷ b ∷ c ∷ []) = refl
args_of (Plain plain.Witness) (a ∷ b ∷ []) = refl
args_of (ConstantArray k) (x ∷ []) = refl
args_of op args = tt

pub args_at : (nodes : List Node) (t : ℕ) (k : Shape) → shape_at nodes t ≡ k → ArgsOf k (node_at nodes t).args
args_at nodes t k e = subst (λ h. ArgsOf h (node_at nodes t).args) e (args_of (node_at nodes t).op (node_at nodes t).args)

-- ---- values of a sort

pub word_is : (n : ℕ) (x : Value) → HasSort (sort.Word n) x → x ≡ VWord n (number_of x)
word_is n x h = h.1 ∙ ap (VWord n) (sym (ap number_of h.1))

pub truth_is : (x : Value) → HasSort sort.Bool x → x ≡ VBool (is_true x)
truth_is x h = h.1 ∙ ap VBool (sym (ap is_true h.1))

pub word_lt : (n : ℕ) (x : Value) → HasSort (sort.Word n) x → number_of x < 2 ^ n
word_lt n x h = subst (λ k. k < 2 ^ n) (sym (ap number_of h.1)) h.2

array_sort : (s : Sort) → is_array s ≡ true → (n : ℕ) × (m : ℕ) × (s ≡ sort.Array n m)
array_sort sort.Bool h = let f : ⊥ = cc in absurd f
array_sort (sort.Word n) h = let f : ⊥ = cc in absurd f
array_sort (sort.Array n m) h = (n, m, refl)

-- ---- the theorem

module _
    (M : Interpretation) (nodes : List Node) (v : ℕ → Value) (terms : IsTermList nodes) (eval : IsEvaluation M nodes v)
    (image : ℕ → Option ℕ) (Here : ℕ → Type 0) (val : ℕ → Value) (ready : IsReady nodes image Here val)
    (at : ℕ → ℕ → ℕ) (coherent : IsCoherent nodes image Here val at) (built : IsBuilt nodes image Here val at M)
    (witnesses : (t a b : ℕ) → Here t → shape_at nodes t ≡ Witnessing a b → v t ≡ val t) where
  -- a term has the assignment's value, or the table's words
  abbrev pub Fine : ℕ → Type 0
  Fine t = (IsPlain (sort_of nodes t) → v t ≡ val t) × ((n m : ℕ) → sort_of nodes t ≡ sort.Array n m → HasWords n m (v t) (at t))

  fact : (t : ℕ) (k : Shape) → shape_at nodes t ≡ k → FactsOf M (sort_of nodes) v t (node_at nodes t) k
  fact t k e = subst (FactsOf M (sort_of nodes) v t (node_at nodes t)) e (facts M nodes v terms eval t)

  sorted_as : (t : ℕ) (q : Sort) → sort_of nodes t ≡ q → t < length nodes → HasSort q (v t)
  sorted_as t q e lt = subst (λ k. HasSort k (v t)) e (eval.sorted t lt)

  plain_as : (q r : Sort) → q ≡ r → IsPlain r → IsPlain q
  plain_as q r e p = subst IsPlain (sym e) p

  -- no array is a Bool or a word
  not_plain : (t n m : ℕ) → sort_of nodes t ≡ sort.Array n m → IsPlain (sort_of nodes t) → ⊥
  not_plain t n m s p = subst IsPlain s p

  -- ---- one term without an image, where all to which it leads are fine

  module _ (t : ℕ) (h : Here t) (free : image t ≡ None) (below : (u : ℕ) → Contains (leads nodes image t) u → Fine u) where
    within : t < length nodes
    within = ready.held t h

    own : IsOwn Here image t
    own = (h, free)

    leads_is : leads nodes image t ≡ (node_at nodes t).args ++ watched nodes (shape_at nodes t)
    leads_is = ap (leads_by nodes t) free

    arg : (u : ℕ) → Contains (node_at nodes t).args u → Fine u
    arg u c = below u (subst (λ l. Contains l u) (sym leads_is) (Contains-append_left (node_at nodes t).args (watched nodes (shape_at nodes t)) u c))

    arg_at : (k u : ℕ) → slice_get (node_at nodes t).args k ≡ Some u → Fine u
    arg_at k u e = arg u (contains_at (node_at nodes t).args k u e)

    args_known : (args : List ℕ) → ((u : ℕ) → Contains args u → Contains (node_at nodes t).args u) → AllByRecursion IsPlain (map (sort_of nodes) args) → map v args ≡ map val args
    args_known [] sub p = refl
    args_known (a ∷ args) sub p =
        rw ((arg a (sub a (contains_at (a ∷ args) 0 a refl))).0 p.0, args_known args (λ u c. sub u (Contains-append_right (a ∷ []) args u c)) p.1) refl

    all_known : AllByRecursion IsPlain (map (sort_of nodes) (node_at nodes t).args) → map v (node_at nodes t).args ≡ map val (node_at nodes t).args
    all_known p = args_known (node_at nodes t).args (λ u c. c) p

    -- ---- arrays

    module _ (n m : ℕ) (s : sort_of nodes t ≡ sort.Array n m) where
      store_words : (b j x : ℕ) → shape_at nodes t ≡ Storing b j x → HasWords n m (v t) (at t)
      store_words b j x e =
          let f = fact t (Storing b j x) e in
          let args = args_at nodes t (Storing b j x) e in
          let vj : v j ≡ val j = (arg_at 1 j (ap (λ l. slice_get l 1) args)).0 (plain_as (sort_of nodes j) (sort.Word f.index) f.index_sort tt) in
          let vx : v x ≡ val x = (arg_at 2 x (ap (λ l. slice_get l 2) args)).0 (plain_as (sort_of nodes x) (sort.Word f.element) f.value_sort tt) in
          let w = (arg_at 0 b (ap (λ l. slice_get l 0) args)).1 n m (f.array_sort ∙ sym f.sort ∙ s) in
          let put : v t ≡ VArray n m (with_entry w.0 (number_of (val j)) (number_of (val x))) = f.is ∙ rw (w.1, vj, vx) refl in
          (with_entry w.0 (number_of (val j)) (number_of (val x)), put, λ k lt. go b j x e w k lt (k == number_of (val j)) refl) where
            go : (b j x : ℕ) → shape_at nodes t ≡ Storing b j x → (w : HasWords n m (v b) (at b)) → (k : ℕ) → k < 2 ^ n → (c : Bool) → (k == number_of (val j)) ≡ c → held_at (with_entry w.0 (number_of (val j)) (number_of (val x))) k ≡ at t k
            go b j x e w k lt true q =
                let same : k ≡ number_of (val j) = eqb-true k (number_of (val j)) q in
                stored_same w.0 (number_of (val j)) (number_of (val x)) k same ∙ sym (coherent.stored t b j x own e) ∙ ap (at t) (sym same)
            go b j x e w k lt false q =
                let other : k ≡ number_of (val j) → ⊥ = eqb-false k (number_of (val j)) q in
                stored_other w.0 (number_of (val j)) (number_of (val x)) k other ∙ w.2 k lt ∙ sym (coherent.kept t b j x k own e other)

      filled_words : (x : ℕ) → shape_at nodes t ≡ Filling x → HasWords n m (v t) (at t)
      filled_words x e =
          let f = fact t (Filling x) e in
          let args = args_at nodes t (Filling x) e in
          let vx : v x ≡ val x = (arg_at 0 x (ap (λ l. slice_get l 0) args)).0 (plain_as (sort_of nodes x) (sort.Word f.element) f.element_sort tt) in
          let X : HasSort (sort.Word f.element) (v x) = sorted_as x (sort.Word f.element) f.element_sort (omega (arith, within, f.element_lt)) in
          let same : sort.Array f.index f.element ≡ sort.Array n m = sym f.sort ∙ s in
          let i : f.index ≡ n = cc in
          let j : f.element ≡ m = cc in
          let width : width_in (v x) ≡ m = ap width_in X.1 ∙ j in
          let is : v t ≡ VArray n m (filled (number_of (val x))) = f.is ∙ rw (i, width, vx) refl in
          (filled (number_of (val x)), is, λ k lt. sym (coherent.filled t x n m k own e s lt))

      choice_words : (c a b : ℕ) → shape_at nodes t ≡ Choosing c a b → HasWords n m (v t) (at t)
      choice_words c a b e =
          let f = fact t (Choosing c a b) e in
          let args = args_at nodes t (Choosing c a b) e in
          let vc : v c ≡ val c = (arg_at 0 c (ap (λ l. slice_get l 0) args)).0 (plain_as (sort_of nodes c) sort.Bool f.test_sort tt) in
          let wa = (arg_at 1 a (ap (λ l. slice_get l 1) args)).1 n m (f.then_sort ∙ s) in
          let wb = (arg_at 2 b (ap (λ l. slice_get l 2) args)).1 n m (f.else_sort ∙ s) in
          let is : v t ≡ (if is_true (val c) then v a else v b) = f.is ∙ ap (λ y. if is_true y then v a else v b) vc in
          go c a b e wa wb (is_true (val c)) refl is where
            go : (c a b : ℕ) → shape_at nodes t ≡ Choosing c a b → HasWords n m (v a) (at a) → HasWords n m (v b) (at b) → (y : Bool) → is_true (val c) ≡ y → v t ≡ (if is_true (val c) then v a else v b) → HasWords n m (v t) (at t)
            go c a b e wa wb true q is = (wa.0, is ∙ ap (λ y. if y then v a else v b) q ∙ wa.1, λ k lt. wa.2 k lt ∙ sym (coherent.chosen t c a b n m k own e s q))
            go c a b e wa wb false q is = (wb.0, is ∙ ap (λ y. if y then v a else v b) q ∙ wb.1, λ k lt. wb.2 k lt ∙ sym (coherent.refused t c a b n m k own e s q))

      declared_words : (d : ℕ) (q : Sort) → shape_at nodes t ≡ Declaring d q → HasWords n m (v t) (at t)
      declared_words d q e =
          let f = fact t (Declaring d q) e in
          let same : q ≡ sort.Array n m = sym f.sort ∙ s in
          let w = built.arrays t d n m own (e ∙ ap (Declaring d) same) in
          let is : v t ≡ VArray n m w.0 = f.is ∙ ap (λ r. read_at r (M.constants d)) same ∙ w.1 in
          (w.0, is, w.2)

      array_words : (k : Shape) → shape_at nodes t ≡ k → HasWords n m (v t) (at t)
      array_words (Storing b j x) e = store_words b j x e
      array_words (Filling x) e = filled_words x e
      array_words (Choosing c a b) e = choice_words c a b e
      array_words (Declaring d q) e = declared_words d q e
      array_words (Selecting a i) e = let f = fact t (Selecting a i) e in let z : sort.Array n m ≡ sort.Word f.element = sym s ∙ f.sort in let y : ⊥ = cc in absurd y
      array_words (Equating a b) e = let f = fact t (Equating a b) e in let z : sort.Array n m ≡ sort.Bool = sym s ∙ f.sort in let y : ⊥ = cc in absurd y
      array_words (Witnessing a b) e = let f = fact t (Witnessing a b) e in let z : sort.Array n m ≡ sort.Word f.index = sym s ∙ f.sort in let y : ⊥ = cc in absurd y
      array_words (Applying d) e = let f = fact t (Applying d) e in absurd (not_plain t n m s f.plain)
      array_words Other e = absurd (not_plain t n m s (other_plain nodes terms t within e))

    -- ---- Bools and words

    module _ (p : IsPlain (sort_of nodes t)) where
      computed : IsComputed nodes val t → v t ≡ val t
      computed c = eval.means t within c.operator ∙ ap (op_value M (node_at nodes t).op) (all_known c.plain) ∙ sym (c.is M)

      selected : (a i : ℕ) → shape_at nodes t ≡ Selecting a i → v t ≡ val t
      selected a i e =
          let f = fact t (Selecting a i) e in
          let args = args_at nodes t (Selecting a i) e in
          let vi : v i ≡ val i = (arg_at 1 i (ap (λ l. slice_get l 1) args)).0 (plain_as (sort_of nodes i) (sort.Word f.index) f.index_sort tt) in
          let w = (arg_at 0 a (ap (λ l. slice_get l 0) args)).1 f.index f.element f.array_sort in
          let I = sorted_as i (sort.Word f.index) f.index_sort (omega (arith, within, f.index_lt)) in
          let lt : number_of (val i) < 2 ^ f.index = subst (λ x. number_of x < 2 ^ f.index) vi (word_lt f.index (v i) I) in
          let T : HasSort (sort.Word f.element) (val t) = subst (λ q. HasSort q (val t)) f.sort (ready.sorted t h p) in
          let is : v t ≡ VWord f.element (held_at w.0 (number_of (val i))) = f.is ∙ rw (w.1, vi) refl in
          let there : held_at w.0 (number_of (val i)) ≡ number_of (val t) = w.2 (number_of (val i)) lt ∙ coherent.selected t a i own e in
          is ∙ ap (VWord f.element) there ∙ sym (word_is f.element (val t) T)

      applied : (d : ℕ) → shape_at nodes t ≡ Applying d → v t ≡ val t
      applied d e =
          let f = fact t (Applying d) e in
          f.is ∙ ap (λ vs. read_at (sort_of nodes t) (M.functions d vs)) (all_known f.plain_args) ∙ built.functions t d own e

      declared : (d : ℕ) (q : Sort) → shape_at nodes t ≡ Declaring d q → v t ≡ val t
      declared d q e = let f = fact t (Declaring d q) e in f.is ∙ built.constants t d q own e (subst IsPlain f.sort p)

      module _ (a b : ℕ) (e : shape_at nodes t ≡ Equating a b) (n m : ℕ) (sa : sort_of nodes a ≡ sort.Array n m) where
        left : HasWords n m (v a) (at a)
        left = (arg_at 0 a (ap (λ l. slice_get l 0) (args_at nodes t (Equating a b) e))).1 n m sa

        right : HasWords n m (v b) (at b)
        right = let f = fact t (Equating a b) e in (arg_at 1 b (ap (λ l. slice_get l 1) (args_at nodes t (Equating a b) e))).1 n m (sym f.same ∙ sa)

        equal_true : is_true (val t) ≡ true → same_value (v a) (v b) ≡ true
        equal_true is =
            let each : (k : ℕ) → k < 2 ^ n → (held_at left.0 k == held_at right.0 k) ≡ true = λ k lt. eq-eqb (held_at left.0 k) (held_at right.0 k) (left.2 k lt ∙ coherent.equal t a b n m k own e sa is ∙ sym (right.2 k lt)) in
            rw (left.1, right.1) (each_all_below (λ k. held_at left.0 k == held_at right.0 k) (2 ^ n) each)

        -- the witness select of a side
        select_known : (l c w : ℕ) → shape_at nodes l ≡ Selecting c w → Contains (leads nodes image t) l → v l ≡ val l
        select_known l c w q i = let f = fact l (Selecting c w) q in (below l i).0 (plain_as (sort_of nodes l) (sort.Word f.element) f.sort tt)

        equal_false : is_true (val t) ≡ false → same_value (v a) (v b) ≡ false
        equal_false is =
            let f = fact t (Equating a b) e in
            let d = coherent.differ t a b n m own e sa is in
            let w = d.0 in
            let i = watch_is nodes a b w d.1 in
            let more : leads nodes image t ≡ (node_at nodes t).args ++ w.left ∷ w.right ∷ [] = leads_is ∙ ap (λ z. (node_at nodes t).args ++ watched nodes z) e ∙ ap (λ o. (node_at nodes t).args ++ selects_of o) d.1 in
            let il : Contains (leads nodes image t) w.left = subst (λ l. Contains l w.left) (sym more) (Contains-append_right (node_at nodes t).args (w.left ∷ w.right ∷ []) w.left (contains_at (w.left ∷ w.right ∷ []) 0 w.left refl)) in
            let ir : Contains (leads nodes image t) w.right = subst (λ l. Contains l w.right) (sym more) (Contains-append_right (node_at nodes t).args (w.left ∷ w.right ∷ []) w.right (contains_at (w.left ∷ w.right ∷ []) 1 w.right refl)) in
            let vl = select_known w.left a w.witness i.left il in
            let vr = select_known w.right b w.witness i.right ir in
            let A = sorted_as a (sort.Array n m) sa (omega (arith, within, f.left_lt)) in
            let B = sorted_as b (sort.Array n m) (sym f.same ∙ sa) (omega (arith, within, f.right_lt)) in
            let l = fact w.left (Selecting a w.witness) i.left in
            let r = fact w.right (Selecting b w.witness) i.right in
            let n' : l.index ≡ n = let z : sort.Array l.index l.element ≡ sort.Array n m = sym l.array_sort ∙ sa in cc in
            let W : HasSort (sort.Word n) (v w.witness) = sorted_as w.witness (sort.Word n) (l.index_sort ∙ ap sort.Word n') i.within in
            go (same_value (v a) (v b)) refl (λ yes. d.2 (sym vl ∙ l.is ∙ same_arrays n m (v a) (v b) (v w.witness) A B W yes ∙ sym r.is ∙ vr)) where
              go : (c : Bool) → same_value (v a) (v b) ≡ c → (same_value (v a) (v b) ≡ true → ⊥) → same_value (v a) (v b) ≡ false
              go true q r = absurd (r q)
              go false q r = q

        equated : v t ≡ val t
        equated =
            let f = fact t (Equating a b) e in
            let T : HasSort sort.Bool (val t) = subst (λ q. HasSort q (val t)) f.sort (ready.sorted t h p) in
            f.is ∙ ap VBool (go (is_true (val t)) refl) ∙ sym (truth_is (val t) T) where
              go : (c : Bool) → is_true (val t) ≡ c → same_value (v a) (v b) ≡ is_true (val t)
              go true q = equal_true q ∙ sym q
              go false q = equal_false q ∙ sym q

      free_case : (k : Shape) → shape_at nodes t ≡ k → IsFreeShape (sort_of nodes) k → v t ≡ val t
      free_case (Selecting a i) e c = selected a i e
      free_case (Storing b j x) e c = absurd c
      free_case (Filling x) e c = absurd c
      free_case (Choosing x a b) e c = absurd c
      free_case (Equating a b) e c = let s = array_sort (sort_of nodes a) c in equated a b e s.0 s.1 s.2
      free_case (Witnessing a b) e c = witnesses t a b h e
      free_case (Applying d) e c = applied d e
      free_case (Declaring d q) e c = declared d q e
      free_case Other e c = absurd c

      plain_value : v t ≡ val t
      plain_value = ⊎_elim (λ (c : IsFree nodes t). free_case (shape_at nodes t) refl c) (λ (c : IsComputed nodes val t). computed c) (ready.each t own p)

    pub fine : Fine t
    fine = (plain_value, λ n m s. array_words n m s (shape_at nodes t) refl)

  -- ---- all terms, by their ranks

  linked : (t u : ℕ) → Here t → image t ≡ Some u → Fine u → Fine t
  linked t u h e f =
      (λ p. ready.kept M v eval t u e ∙ f.0 (subst IsPlain (sym (ready.images.sort t u e)) p) ∙ sym (ready.linked t u h e), λ n m s. absurd (not_plain t n m s (ready.images.plain t u e)))

  leads_to : (t u : ℕ) → image t ≡ Some u → Contains (leads nodes image t) u
  leads_to t u e = subst (λ o. Contains (leads_by nodes t o) u) (sym e) (contains_at (u ∷ []) 0 u refl)

  one_term : (t : ℕ) (o : Option ℕ) → image t ≡ o → Here t → ((u : ℕ) → Contains (leads nodes image t) u → Fine u) → Fine t
  one_term t None e h below = fine t h e below
  one_term t (Some u) e h below = linked t u h e (below u (leads_to t u e))

  upto : (bound t : ℕ) → ready.acyclic.0 t < bound → Here t → Fine t
  upto zero t lt h = absurd (omega (arith, lt))
  upto (suc bound) t lt h =
      one_term t (image t) refl h (λ u c. let less = ready.acyclic.1 t u c in upto bound u (omega (arith, lt, less)) (ready.closed t u h c))

  pub each_fine : (t : ℕ) → Here t → Fine t
  each_fine t h = upto (suc (ready.acyclic.0 t)) t (omega arith) h
