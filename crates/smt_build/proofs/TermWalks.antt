-- The walk of the reader of terms gives the term that is meant.
use Rattle.std.proofs.Common.{◌≡◌, ℕ, Bool, true, false, List, [], ◌∷◌, ◌++◌, length, take, refl, ap, sym, subst, ◌∙◌, append_assoc, append-nil, Result, Ok, Err}
use Rattle.std.proofs.Math.Seq.{take-append_seam, drop-append_seam}
use Rattle.std.specs.Prelude.{if◌then◌else◌}
use Rattle.smt_text.specs.declared.token.TokenKind.TheVariants as kind
use Rattle.smt_syntax.specs.Sexps.{Sexp, Sexps, atom, group, none, more}
use Rattle.smt_syntax.specs.Walk.{◌>>=◌, walk, walks}
use Rattle.smt_syntax.proofs.Walks.{bind_assoc, bind_same}
use Rattle.smt_build.specs.declared.fault.BuildFault.{BuildFault}
use Rattle.smt_build.specs.declared.reader.Want.TheVariants as want
use Rattle.smt_build.specs.Names.{SymbolsValue}
use Rattle.smt_build.specs.Binding.{Bound, new_variable, Progress, Read, application_in, indexed_in_scope, naming, is_label, alone}
use Rattle.smt_build.specs.Terms.{attributes_of, name_of, term_in, args_of, let_of, bindings_of, binding_of, body_of, annotated_of}
use Rattle.smt_build.specs.Indices.{Indices, one, with_index, Head, plain, indices_behind, indexed_in}
use Rattle.smt_build.specs.Heads.{head_in}
use Rattle.smt_build.specs.TermReader.{Part, term, head, name, label, passed, binding, Role, a_term, a_head, Open, started, marked, with_indices, application, let_started, let_bound, in_bindings, binding_started, binding_named, bang_started, annotated, labelled, unread, State, progress, state, after, as_part, at_word, opens, context, takes, closes, term_reader}
use Rattle.smt_build.proofs.SortWalks.{walk-as}

module _ (symbols : SymbolsValue) (may_name : Bool) where
  abbrev closed : Result (Open × State) BuildFault → Result (Part × State) BuildFault
  closed r = r >>= λ q. closes symbols q.0 q.1

  -- ---- names with indices

  -- what a name with indices gives where it stands
  abbrev finish : Role → State → Head → Result (Part × State) BuildFault
  finish a_term s h = as_part s (indexed_in_scope symbols s.scope.bound (progress s) h)
  finish a_head s h = Ok (head h, s)

  walk-indices : (r : Role) (f : List ℕ) (is : Indices) (s : State) (es : Sexps) → closed (walks (term_reader symbols may_name) (with_indices r f is) s es) ≡ indices_behind f is es >>= λ h. finish r s h
  unfolding walk walks at_word opens context takes closes
  walk-indices a_term f is s none = refl
  walk-indices a_head f is s none = refl
  walk-indices r f is s (more (atom kind.Numeral i) es) = walk-indices r f (with_index is i) s es
  walk-indices r f is s (more (atom _ i) es) = refl
  walk-indices r f is s (more (group x) es) = refl

  walk-marked : (r : Role) (s : State) (es : Sexps) → closed (walks (term_reader symbols may_name) (marked r) s es) ≡ indexed_in es >>= λ h. finish r s h
  unfolding walk walks at_word opens context takes closes
  walk-marked r s none = refl
  walk-marked r s (more (atom kind.Symbol f) none) = refl
  walk-marked r s (more (atom kind.Symbol f) (more (atom kind.Numeral i) es)) = walk-indices r f (one i) s es
  walk-marked r s (more (atom kind.Symbol f) (more (atom _ i) es)) = refl
  walk-marked r s (more (atom kind.Symbol f) (more (group x) es)) = refl
  walk-marked r s (more (atom _ f) es) = refl
  walk-marked r s (more (group x) es) = refl

  walk-head : (s : State) (x : Sexps) → walk (term_reader symbols may_name) want.Head s (group x) ≡ head_in symbols x >>= λ h. Ok (head h, s)
  unfolding walk walks at_word opens context takes closes
  walk-head s none = refl
  walk-head s (more (atom kind.Underscore l) es) = walk-marked a_head s es
  walk-head s (more (atom kind.As l) es) = walk-as symbols may_name s es
  walk-head s (more (atom _ l) es) = refl
  walk-head s (more (group x) es) = refl

  abbrev as_head : State → Result Head BuildFault → Result (Part × State) BuildFault
  as_head s r = r >>= λ h. Ok (head h, s)

  -- ---- attributes

  -- what stands in a list is passed over
  walk-unread : (s : State) (es : Sexps) → walks (term_reader symbols may_name) unread s es ≡ Ok (unread, s)
  unfolding walk walks at_word opens context takes closes
  walk-unread s none = refl
  walk-unread s (more (atom k x) es) = walk-unread s es
  walk-unread s (more (group xs) es) = rw (walk-unread s xs) (walk-unread s es)

  abbrev as_annotated : ℕ → State → Result Progress BuildFault → Result (Part × State) BuildFault
  as_annotated t s r = r >>= λ p. Ok (term t, after s p)

  by_label : (t : ℕ) (s : State) (es : Sexps) (b : Bool)
      → closed (walks (term_reader symbols may_name) (labelled t) s es) ≡ as_annotated t s (name_of symbols may_name t (progress s) es)
      → closed (walks (term_reader symbols may_name) (annotated t) s es) ≡ as_annotated t s (attributes_of symbols may_name t (progress s) es)
      → closed (takes (annotated t) (if b then label else passed) s >>= λ r. walks (term_reader symbols may_name) r.0 r.1 es) ≡ as_annotated t s (if b then name_of symbols may_name t (progress s) es else attributes_of symbols may_name t (progress s) es)
  unfolding takes
  by_label t s es true h k = h
  by_label t s es false h k = k

  abbrev as_passed : State → Result Progress BuildFault → Result (Part × State) BuildFault
  as_passed s r = r >>= λ p. Ok (passed, after s p)

  by_name : (t : ℕ) (s : State) (es : Sexps) (r : Result Progress BuildFault)
      → ((p : Progress) → closed (walks (term_reader symbols may_name) (annotated t) (after s p) es) ≡ as_annotated t s (attributes_of symbols may_name t p es))
      → closed (as_passed s r >>= λ v. takes (labelled t) v.0 v.1 >>= λ q. walks (term_reader symbols may_name) q.0 q.1 es) ≡ as_annotated t s (r >>= λ q. attributes_of symbols may_name t q es)
  unfolding takes
  by_name t s es (Ok p) h = h p
  by_name t s es (Err f) h = refl

  mutual
    unfolding walk walks at_word opens context takes closes attributes_of name_of

    walk-attributes : (t : ℕ) (s : State) (es : Sexps) → closed (walks (term_reader symbols may_name) (annotated t) s es) ≡ as_annotated t s (attributes_of symbols may_name t (progress s) es)
    walk-attributes t s none = refl
    walk-attributes t s (more (group xs) es) = rw (walk-unread s xs) (walk-attributes t s es)
    walk-attributes t s (more (atom k x) es) = by_label t s es (is_label k x) (walk-label t s es) (walk-attributes t s es)

    walk-label : (t : ℕ) (s : State) (es : Sexps) → closed (walks (term_reader symbols may_name) (labelled t) s es) ≡ as_annotated t s (name_of symbols may_name t (progress s) es)
    walk-label t s none = refl
    walk-label t s (more (group xs) es) = refl
    walk-label t s (more (atom k x) es) = by_name t s es (naming symbols may_name t (progress s) x) (λ p. walk-attributes t (after s p) es)

  -- ---- applications

  abbrev applied_term : Bound → Progress → Head → Sexps → Read
  applied_term bound p f es = args_of symbols may_name bound p [] es >>= λ a. application_in symbols bound a.1 f a.0

  abbrev behind : Bound → Bound → Head → Result (List ℕ × Progress) BuildFault → Result (Open × State) BuildFault
  behind bound coming f r = r >>= λ a. Ok (application f a.0, state a.1 bound coming)

  closes_application : (bound coming : Bound) (p : Progress) (f : Head) (r : Result (List ℕ × Progress) BuildFault) → closed (behind bound coming f r) ≡ as_part (state p bound coming) (r >>= λ a. application_in symbols bound a.1 f a.0)
  unfolding closes
  closes_application bound coming p f (Ok a) = refl
  closes_application bound coming p f (Err e) = refl

  behind_head : (bound coming : Bound) (p : Progress) (es : Sexps) (r : Result Head BuildFault) → ((f : Head) → walks (term_reader symbols may_name) (application f []) (state p bound coming) es ≡ behind bound coming f (args_of symbols may_name bound p [] es))
      → closed (as_head (state p bound coming) r >>= λ v. takes started v.0 v.1 >>= λ q. walks (term_reader symbols may_name) q.0 q.1 es) ≡ as_part (state p bound coming) (r >>= λ f. applied_term bound p f es)
  unfolding takes
  behind_head bound coming p es (Ok f) h = ap closed (h f) ∙ closes_application bound coming p f (args_of symbols may_name bound p [] es)
  behind_head bound coming p es (Err e) h = refl

  -- ---- one term, and the end of its list

  -- a term with what was made, under these variables
  abbrev shown_term : Bound → Bound → Read → Result (Part × State) BuildFault
  shown_term bound coming r = r >>= λ q. Ok (term q.0, state q.1 bound coming)

  abbrev shown_binding : Bound → Bound → List ℕ → Read → Result (Part × State) BuildFault
  shown_binding bound coming y r = r >>= λ q. Ok (binding y q.0, state q.1 bound coming)

  abbrev shown_pair : Bound → Bound → Result ((List ℕ × ℕ) × Progress) BuildFault → Result (Part × State) BuildFault
  shown_pair bound coming r = r >>= λ q. Ok (binding q.0.0 q.0.1, state q.1 bound coming)

  abbrev shown_list : Bound → Bound → Result (Bound × Progress) BuildFault → Result (Open × State) BuildFault
  shown_list bound coming r = r >>= λ q. Ok (in_bindings (length coming), state q.1 bound (coming ++ q.0))

  abbrev named_so : State → Result (List ℕ) BuildFault → Result (Part × State) BuildFault
  named_so s r = r >>= λ y. Ok (name y, s)

  abbrev paired : List ℕ → Read → Result ((List ℕ × ℕ) × Progress) BuildFault
  paired y r = r >>= λ q. Ok ((y, q.0), q.1)

  -- the body of a `let` is the last in its list
  let_ends : (bound coming : Bound) (n t : ℕ) (p : Progress) (es : Sexps) → closed (takes (let_bound n) (term t) (state p bound coming) >>= λ r. walks (term_reader symbols may_name) r.0 r.1 es) ≡ shown_term (take n bound) coming (alone {A = ℕ × Progress} (t, p) es)
  unfolding walk walks at_word opens context takes closes
  let_ends bound coming n t p none = refl
  let_ends bound coming n t p (more (atom k x) es) = refl
  let_ends bound coming n t p (more (group xs) es) = refl

  binding_ends : (bound coming : Bound) (y : List ℕ) (t : ℕ) (p : Progress) (es : Sexps) → closed (takes (binding_named y) (term t) (state p bound coming) >>= λ r. walks (term_reader symbols may_name) r.0 r.1 es) ≡ shown_binding bound coming y (alone {A = ℕ × Progress} (t, p) es)
  unfolding walk walks at_word opens context takes closes
  binding_ends bound coming y t p none = refl
  binding_ends bound coming y t p (more (atom k x) es) = refl
  binding_ends bound coming y t p (more (group xs) es) = refl

  -- ---- how the parts of a `let` and of an annotation are handed on

  body_with : (bound coming : Bound) (n : ℕ) (es : Sexps) (r : Read) → closed (shown_term bound coming r >>= λ v. takes (let_bound n) v.0 v.1 >>= λ q. walks (term_reader symbols may_name) q.0 q.1 es) ≡ shown_term (take n bound) coming (r >>= λ q. alone q es)
  body_with bound coming n es (Ok q) = let_ends bound coming n q.0 q.1 es
  body_with bound coming n es (Err f) = refl

  binding_with : (bound coming : Bound) (y : List ℕ) (es : Sexps) (r : Read) → closed (shown_term bound coming r >>= λ v. takes (binding_named y) v.0 v.1 >>= λ q. walks (term_reader symbols may_name) q.0 q.1 es) ≡ shown_binding bound coming y (r >>= λ q. alone q es)
  binding_with bound coming y es (Ok q) = binding_ends bound coming y q.0 q.1 es
  binding_with bound coming y es (Err f) = refl

  variable_with : (bound coming : Bound) (n : ℕ) (p : Progress) (es : Sexps) (r : Result (List ℕ) BuildFault)
      → ((y : List ℕ) → closed (walks (term_reader symbols may_name) (binding_named y) (state p bound coming) es) ≡ shown_binding bound coming y (body_of symbols may_name bound p es))
      → closed (named_so (state p bound coming) r >>= λ v. takes (binding_started n) v.0 v.1 >>= λ q. walks (term_reader symbols may_name) q.0 q.1 es) ≡ shown_pair bound coming (r >>= λ y. paired y (body_of symbols may_name bound p es))
  unfolding takes
  variable_with bound coming n p es (Ok y) h = h y ∙ sym (bind_assoc (body_of symbols may_name bound p es) _ _)
  variable_with bound coming n p es (Err f) h = refl

  bindings_with : (bound coming found : Bound) (bs : Sexps) (r : Result ((List ℕ × ℕ) × Progress) BuildFault)
      → ((q : (List ℕ × ℕ) × Progress) → walks (term_reader symbols may_name) (in_bindings (length coming)) (state q.1 bound (coming ++ (found ++ q.0 ∷ []))) bs ≡ shown_list bound coming (bindings_of symbols may_name bound q.1 (found ++ q.0 ∷ []) bs))
      → shown_pair bound (coming ++ found) r >>= (λ v. takes (in_bindings (length coming)) v.0 v.1 >>= λ u. walks (term_reader symbols may_name) u.0 u.1 bs) ≡ shown_list bound coming (r >>= λ q. bindings_of symbols may_name bound q.1 (found ++ q.0 ∷ []) bs)
  unfolding takes
  bindings_with bound coming found bs (Ok q) h = rw (append_assoc coming found (q.0 ∷ [])) (h q)
  bindings_with bound coming found bs (Err f) h = refl

  let_with : (bound coming : Bound) (p : Progress) (es : Sexps) (r : Result (Bound × Progress) BuildFault)
      → ((q : Bound × Progress) → closed (walks (term_reader symbols may_name) (let_bound (length bound)) (state q.1 (bound ++ q.0) coming) es) ≡ shown_term (take (length bound) (bound ++ q.0)) coming (body_of symbols may_name (bound ++ q.0) q.1 es))
      → closed (closed (shown_list bound coming r) >>= λ v. takes let_started v.0 v.1 >>= λ q. walks (term_reader symbols may_name) q.0 q.1 es) ≡ shown_term bound coming (r >>= λ q. body_of symbols may_name (bound ++ q.0) q.1 es)
  unfolding takes closes
  let_with bound coming p es (Ok q) h = rw (drop-append_seam coming q.0, take-append_seam coming q.0) (h q ∙ rw (take-append_seam bound q.0) refl)
  let_with bound coming p es (Err f) h = refl

  annotated_with : (bound coming : Bound) (p : Progress) (es : Sexps) (r : Read) → closed (shown_term bound coming r >>= λ v. takes bang_started v.0 v.1 >>= λ q. walks (term_reader symbols may_name) q.0 q.1 es) ≡ shown_term bound coming (r >>= λ q. attributes_of symbols may_name q.0 q.1 es >>= λ u. Ok (q.0, u))
  unfolding takes
  annotated_with bound coming p es (Ok q) = walk-attributes q.0 (state q.1 bound coming) es ∙ sym (bind_assoc (attributes_of symbols may_name q.0 q.1 es) _ _)
  annotated_with bound coming p es (Err f) = refl

  -- a list of bindings begins with none
  first : (bound coming : Bound) (p : Progress) (bs : Sexps) → walks (term_reader symbols may_name) (in_bindings (length coming)) (state p bound (coming ++ [])) bs ≡ shown_list bound coming (bindings_of symbols may_name bound p [] bs)
      → walks (term_reader symbols may_name) (in_bindings (length coming)) (state p bound coming) bs ≡ shown_list bound coming (bindings_of symbols may_name bound p [] bs)
  first bound coming p bs h = subst (λ (l : Bound). walks (term_reader symbols may_name) (in_bindings (length coming)) (state p bound l) bs ≡ shown_list bound coming (bindings_of symbols may_name bound p [] bs)) (append-nil coming) h

  -- ---- terms

  mutual
    unfolding walk walks term_in args_of let_of bindings_of binding_of body_of annotated_of at_word opens context takes closes

    pub walk-term : (bound coming : Bound) (p : Progress) (e : Sexp) → walk (term_reader symbols may_name) want.Term (state p bound coming) e ≡ as_part (state p bound coming) (term_in symbols may_name bound p e)
    walk-term bound coming p (atom k x) = refl
    walk-term bound coming p (group none) = refl
    walk-term bound coming p (group (more (group x) es)) = rw (walk-head (state p bound coming) x) (behind_head bound coming p es (head_in symbols x) (λ f. walk-args bound coming p f [] es))
    walk-term bound coming p (group (more (atom kind.Symbol f) es)) = ap closed (walk-args bound coming p (plain f) [] es) ∙ closes_application bound coming p (plain f) (args_of symbols may_name bound p [] es)
    walk-term bound coming p (group (more (atom kind.Underscore l) es)) = walk-marked a_term (state p bound coming) es ∙ sym (bind_assoc (indexed_in es) _ _)
    walk-term bound coming p (group (more (atom kind.Let l) es)) = walk-let bound coming p es
    walk-term bound coming p (group (more (atom kind.Bang l) es)) = walk-annotated bound coming p es
    walk-term bound coming p (group (more (atom _ f) es)) = refl

    pub walk-args : (bound coming : Bound) (p : Progress) (f : Head) (args : List ℕ) (es : Sexps) → walks (term_reader symbols may_name) (application f args) (state p bound coming) es ≡ args_of symbols may_name bound p args es >>= λ r. Ok (application f r.0, state r.1 bound coming)
    walk-args bound coming p f args none = refl
    walk-args bound coming p f args (more e es) =
        rw (walk-term bound coming p e) (simp bind_assoc (bind_same (term_in symbols may_name bound p e) _ _ (λ r. walk-args bound coming r.1 f (args ++ r.0 ∷ []) es)))

    walk-let : (bound coming : Bound) (p : Progress) (es : Sexps) → closed (walks (term_reader symbols may_name) let_started (state p bound coming) es) ≡ as_part (state p bound coming) (let_of symbols may_name bound p es)
    walk-let bound coming p none = refl
    walk-let bound coming p (more (atom k x) es) = refl
    walk-let bound coming p (more (group bs) es) =
        rw (first bound coming p bs (walk-bindings bound coming p [] bs)) (let_with bound coming p es (bindings_of symbols may_name bound p [] bs) (λ q. walk-let-body (bound ++ q.0) coming (length bound) q.1 es))

    walk-bindings : (bound coming : Bound) (p : Progress) (found : Bound) (bs : Sexps) → walks (term_reader symbols may_name) (in_bindings (length coming)) (state p bound (coming ++ found)) bs ≡ shown_list bound coming (bindings_of symbols may_name bound p found bs)
    walk-bindings bound coming p found none = refl
    walk-bindings bound coming p found (more b bs) =
        rw (walk-binding bound coming p found b) (bindings_with bound coming found bs (binding_of symbols may_name bound p found b) (λ q. walk-bindings bound coming q.1 (found ++ q.0 ∷ []) bs))

    walk-binding : (bound coming : Bound) (p : Progress) (found : Bound) (b : Sexp) → walk (term_reader symbols may_name) (want.Binding (length coming)) (state p bound (coming ++ found)) b ≡ shown_pair bound (coming ++ found) (binding_of symbols may_name bound p found b)
    walk-binding bound coming p found (atom k x) = refl
    walk-binding bound coming p found (group none) = refl
    walk-binding bound coming p found (group (more (group xs) es)) = refl
    walk-binding bound coming p found (group (more (atom k x) es)) =
        rw (drop-append_seam coming found) (variable_with bound (coming ++ found) (length coming) p es (new_variable found x) (λ y. walk-binding-body bound (coming ++ found) y p es))

    walk-let-body : (bound coming : Bound) (n : ℕ) (p : Progress) (es : Sexps) → closed (walks (term_reader symbols may_name) (let_bound n) (state p bound coming) es) ≡ shown_term (take n bound) coming (body_of symbols may_name bound p es)
    walk-let-body bound coming n p none = refl
    walk-let-body bound coming n p (more e es) = rw (walk-term bound coming p e) (body_with bound coming n es (term_in symbols may_name bound p e))

    walk-binding-body : (bound coming : Bound) (y : List ℕ) (p : Progress) (es : Sexps) → closed (walks (term_reader symbols may_name) (binding_named y) (state p bound coming) es) ≡ shown_binding bound coming y (body_of symbols may_name bound p es)
    walk-binding-body bound coming y p none = refl
    walk-binding-body bound coming y p (more e es) = rw (walk-term bound coming p e) (binding_with bound coming y es (term_in symbols may_name bound p e))

    walk-annotated : (bound coming : Bound) (p : Progress) (es : Sexps) → closed (walks (term_reader symbols may_name) bang_started (state p bound coming) es) ≡ as_part (state p bound coming) (annotated_of symbols may_name bound p es)
    walk-annotated bound coming p none = refl
    walk-annotated bound coming p (more e es) = rw (walk-term bound coming p e) (annotated_with bound coming p es (term_in symbols may_name bound p e))
