-- A node's number, over the terms that are stored.
use Rattle.std.proofs.Common.{◌≡◌, ℕ, zero, suc, ◌+◌, ◌<◌, ◌≤◌, Bool, true, false, List, [], ◌∷◌, ◌++◌, map, length, get_or, refl, ap, sym, ◌∙◌, subst, arith, rules, tests, ⊎_elim, Some, None, Result, Ok, Err, slice_get, position, length-append}
use Rattle.std.specs.Prelude.{nat_lt, take, drop, if◌then◌else◌}
use Rattle.std.specs.List.{list_any}
use Rattle.std.proofs.lemmas.Bool.{cases_lt, or_parts, lt-ltb, le-ltb}
use Rattle.std.proofs.lemmas.List.{length-take-le, take-append-drop}
use Rattle.std.proofs.lemmas.Option.{slice_get_past, slice_get-get_or}
use Rattle.smt_terms.specs.declared.sort.Sort.{Sort}
use Rattle.smt_terms.specs.declared.node.Node.{Node}
use Rattle.smt_terms.specs.declared.fault.MakeFault.{MakeFault}
use Rattle.smt_terms.specs.declared.fault.MakeFault.TheVariants.{TermLimit}
use Rattle.smt_terms.specs.Same.{same_node, node_itself}
use Rattle.smt_terms.specs.Nodes.{no_node, node_at}
use Rattle.smt_terms.specs.Ranks.{ranked, rank_of}
use Rattle.smt_terms.specs.Places.{sorts_at}
use Rattle.smt_terms.specs.Terms.{sort_of, held_sort, node_sort, AreTerms, IsTermList, AreDifferent, HaveOneSignature, HaveSorts, Agrees, TermsValue, make}
use Rattle.smt_terms.proofs.Growing.{held_is, sort_longer, sort_last, list_push, different_push, signature_push, list_shorter, different_shorter, signature_shorter}
use Rattle.cnf_base.proofs.Lists.{slice_get-append_left, slice_get-push}

abbrev pub value_of : List Node → ℕ → TermsValue
value_of nodes limit = record { nodes = nodes; limit = limit }

-- ---- the sorts that are stored

held_past : (nodes : List Node) (a : ℕ) → length nodes ≤ a → held_sort nodes a ≡ None
held_past nodes a le = ap (λ b. if b then Some (sort_of nodes a) else None) (not_below a (length nodes) le) where
  not_below : (n m : ℕ) → m ≤ n → nat_lt n m ≡ false
  not_below n m h = search (rules, tests)

stored_is : (nodes : List Node) (sorts : List Sort) → HaveSorts nodes sorts → (a : ℕ) → slice_get sorts a ≡ held_sort nodes a
stored_is nodes sorts h a =
    ⊎_elim
    (λ lt. h.each a lt ∙ sym (held_is nodes a lt))
    (λ le. slice_get_past sorts a (rw h.count le) ∙ sym (held_past nodes a le))
    (cases_lt a (length nodes))

same_sorts_at : (nodes : List Node) (sorts : List Sort) → HaveSorts nodes sorts → (args : List ℕ) → sorts_at sorts args ≡ map (held_sort nodes) args
same_sorts_at nodes sorts h [] = refl
same_sorts_at nodes sorts h (a ∷ args) = rw (stored_is nodes sorts h a, same_sorts_at nodes sorts h args) refl

pub same_rank : (nodes : List Node) (sorts : List Sort) (n : Node) → HaveSorts nodes sorts → ranked (rank_of n.op) 0 (sorts_at sorts n.args) ≡ node_sort nodes n
same_rank nodes sorts n h = ap (ranked (rank_of n.op) 0) (same_sorts_at nodes sorts h n.args)

-- ---- what making gives

module _ (v : TermsValue) (n : Node) where
  make_fault : (f : MakeFault) → node_sort v.nodes n ≡ Err f → make v n ≡ Err f
  unfolding make
  make_fault f e = rw e refl

  make_found : (s : Sort) (t : ℕ) → node_sort v.nodes n ≡ Ok s → position (same_node n) v.nodes ≡ Some t → make v n ≡ Ok (t, v)
  unfolding make
  make_found s t e p = rw (e, p) refl

  make_full : (s : Sort) → node_sort v.nodes n ≡ Ok s → position (same_node n) v.nodes ≡ None → nat_lt (length v.nodes) v.limit ≡ false → make v n ≡ Err TermLimit
  unfolding make
  make_full s e p l = rw (e, p, l) refl

  make_new : (s : Sort) → node_sort v.nodes n ≡ Ok s → position (same_node n) v.nodes ≡ None → nat_lt (length v.nodes) v.limit ≡ true → make v n ≡ Ok (length v.nodes, value_of (v.nodes ++ n ∷ []) v.limit)
  unfolding make
  make_new s e p l = rw (e, p, l) refl

-- ---- at the fields of a list of terms

any_none : {A : Type 0} (p : A → Bool) (xs : List A) (d : A) → list_any p xs ≡ false → (k : ℕ) → k < length xs → p (get_or xs k d) ≡ false
any_none p [] d e k lt = absurd (omega arith)
any_none p (x ∷ xs) d e zero lt = (or_parts (p x) (list_any p xs) e).0
any_none p (x ∷ xs) d e (suc k) lt = any_none p xs d (or_parts (p x) (list_any p xs) e).1 k (omega arith)

slice_get_take : {A : Type 0} (n : ℕ) (xs : List A) (i : ℕ) → i < n → slice_get (take n xs) i ≡ slice_get xs i
slice_get_take zero xs i lt = absurd (omega arith)
slice_get_take (suc n) [] i lt = refl
slice_get_take (suc n) (x ∷ xs) zero lt = refl
slice_get_take (suc n) (x ∷ xs) (suc i) lt = slice_get_take n xs i (omega arith)

is_new : (keys : List Node) (n : Node) → list_any (λ k. same_node n k) keys ≡ false → (t : ℕ) → t < length keys → node_at keys t ≡ n → ⊥
is_new keys n e t lt q =
    let a : same_node n (node_at keys t) ≡ false = any_none (λ k. same_node n k) keys no_node e t lt in
    let b : same_node n (node_at keys t) ≡ true = subst (λ m. same_node n m ≡ true) (sym q) (node_itself n) in
    let f : ⊥ = cc in f

module _ (keys : List Node) (sorts : List Sort) (limit : ℕ) (now : TermsValue) (n : Node) (v : value_of keys limit ≡ now) (h : AreTerms (value_of keys limit) × HaveSorts keys sorts) where
  at_rank : {r : Result Sort MakeFault} → r ≡ ranked (rank_of n.op) 0 (sorts_at sorts n.args) → node_sort keys n ≡ r
  at_rank e = sym (e ∙ same_rank keys sorts n h.1)

  pub gives_fault : (f : MakeFault) → Err f ≡ ranked (rank_of n.op) 0 (sorts_at sorts n.args) → make now n ≡ Err f
  gives_fault f e = subst (λ w. make w n ≡ Err f) v (make_fault (value_of keys limit) n f (at_rank e))

  pub gives_held : (s : Sort) (t : ℕ) → Ok s ≡ ranked (rank_of n.op) 0 (sorts_at sorts n.args) → Some t ≡ position (same_node n) keys → make now n ≡ Ok (t, now)
  gives_held s t e p = subst (λ w. make w n ≡ Ok (t, w)) v (make_found (value_of keys limit) n s t (at_rank e) (sym p))

  pub gives_full : (s : Sort) → Ok s ≡ ranked (rank_of n.op) 0 (sorts_at sorts n.args) → None ≡ position (same_node n) keys → limit ≤ length sorts → make now n ≡ Err TermLimit
  gives_full s e p l = subst (λ w. make w n ≡ Err TermLimit) v (make_full (value_of keys limit) n s (at_rank e) (sym p) (le-ltb (length keys) limit (rw (← h.1.count) l)))

  pub gives_next : (s : Sort) (t : ℕ) (new : List Node) → t ≡ length sorts → Ok s ≡ ranked (rank_of n.op) 0 (sorts_at sorts n.args) → None ≡ position (same_node n) keys → length sorts < limit → new ≡ keys ++ n ∷ [] → make now n ≡ Ok (t, value_of new limit)
  gives_next s t new i e p l k =
      subst (λ w. make w n ≡ Ok (t, value_of new limit)) v
      (make_new (value_of keys limit) n s (at_rank e) (sym p) (lt-ltb (length keys) limit (rw (← h.1.count) l)) ∙ rw (i ∙ h.1.count, k) refl)

  pub kept_next : (s : Sort) (new : List Node) (more : List Sort) → Ok s ≡ ranked (rank_of n.op) 0 (sorts_at sorts n.args) → list_any (λ k. same_node n k) keys ≡ false → Agrees now.nodes n.op → length sorts < limit → new ≡ keys ++ n ∷ [] → more ≡ sorts ++ s ∷ [] → AreTerms (value_of new limit) × HaveSorts new more
  kept_next s new more e p agrees l k m = rw (k, m) (terms, have) where
    ok : node_sort keys n ≡ Ok s
    ok = at_rank e

    terms : AreTerms (value_of (keys ++ n ∷ []) limit)
    terms = record {
      list = list_push keys n s ok h.0.list;
      different = different_push keys n (is_new keys n p) h.0.different;
      declared = signature_push keys n (subst (λ w. Agrees w.nodes n.op) (sym v) agrees) h.0.declared;
      within = omega (arith, length-append keys (n ∷ []), h.1.count);
      limit = h.0.limit;
    }

    have : HaveSorts (keys ++ n ∷ []) (sorts ++ s ∷ [])
    have = record {
      count = length-append sorts (s ∷ []) ∙ ap (λ k. k + 1) h.1.count ∙ sym (length-append keys (n ∷ []));
      each = λ t lt. ⊎_elim
          (λ less. slice_get-append_left sorts (s ∷ []) t (rw h.1.count less) ∙ h.1.each t less ∙ ap Some (sym (sort_longer keys (n ∷ []) t less)))
          (λ le.
          let q : t ≡ length keys = omega (arith, length-append keys (n ∷ [])) in
          let r : length sorts ≡ t = h.1.count ∙ sym q in
          ap (slice_get (sorts ++ s ∷ [])) (sym r) ∙ slice_get-push sorts s ∙ ap Some (sym (ap (sort_of (keys ++ n ∷ [])) q ∙ sort_last keys n s ok)))
          (cases_lt t (length keys));
    }

module _ (keys : List Node) (sorts : List Sort) (limit : ℕ) (now : TermsValue) (v : value_of keys limit ≡ now) (h : AreTerms (value_of keys limit) × HaveSorts keys sorts) where
  -- the terms before a number
  pub kept_cut : (len : ℕ) (new : List Node) (more : List Sort) → len ≤ length now.nodes → new ≡ take len keys → more ≡ take len sorts → AreTerms (value_of new limit) × HaveSorts new more
  kept_cut len new more le k m = rw (k, m) (terms, have) where
    whole : keys ≡ take len keys ++ drop len keys
    whole = sym (take-append-drop len keys)

    short : length (take len keys) ≡ len
    short = length-take-le len keys (subst (λ w. len ≤ length w.nodes) (sym v) le)

    terms : AreTerms (value_of (take len keys) limit)
    terms = record {
      list = list_shorter (take len keys) (drop len keys) (subst IsTermList whole h.0.list);
      different = different_shorter (take len keys) (drop len keys) (subst AreDifferent whole h.0.different);
      declared = signature_shorter (take len keys) (drop len keys) (subst HaveOneSignature whole h.0.declared);
      within = let w = h.0.within in omega (arith, short, subst (λ u. len ≤ length u.nodes) (sym v) le);
      limit = h.0.limit;
    }

    have : HaveSorts (take len keys) (take len sorts)
    have = record {
      count = length-take-le len sorts (rw h.1.count (subst (λ w. len ≤ length w.nodes) (sym v) le)) ∙ sym short;
      each = λ t lt.
          let less : t < len = rw short at lt in
          let inside : t < length keys = omega (arith, subst (λ w. len ≤ length w.nodes) (sym v) le) in
          slice_get_take len sorts t less ∙ h.1.each t inside ∙ ap Some (ap (λ l. sort_of l t) whole ∙ sort_longer (take len keys) (drop len keys) t lt);
    }

-- the sort that is stored at a held term
pub stored_sort : (keys : List Node) (sorts : List Sort) (limit : ℕ) (now : TermsValue) → value_of keys limit ≡ now → HaveSorts keys sorts → (t : ℕ) (s : Sort) → t < length now.nodes → s ≡ get_or sorts t s → s ≡ sort_of now.nodes t
stored_sort keys sorts limit now v h t s lt e =
    let within : t < length keys = subst (λ w. t < length w.nodes) (sym v) lt in
    let inside : t < length sorts = rw h.count within in
    let q : Some (get_or sorts t s) ≡ Some (sort_of keys t) = sym (slice_get-get_or sorts t s inside) ∙ h.each t within in
    let r : get_or sorts t s ≡ sort_of keys t = cc in
    e ∙ r ∙ ap (λ w. sort_of w.nodes t) v
