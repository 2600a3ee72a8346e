-- What making a node brings.
use Rattle.std.proofs.Common.{◌≡◌, ℕ, zero, suc, ◌<◌, Bool, true, false, List, [], ◌∷◌, length, get_or, refl, sym, ap, ◌∙◌, subst, arith, inl, inr, ⊎_elim, length-append, Option, Some, None, Result, Ok, Err, slice_get, position}
use Rattle.std.specs.Prelude.{nat_lt, if◌then◌else◌, ◌⊎◌, ◌↔◌, find}
use Rattle.std.specs.List.{position_or_len}
use Rattle.std.proofs.lemmas.Bool.{ltb-true, lt-ltb, cases_lt}
use Rattle.std.proofs.lemmas.List.Quantifiers.{position-Some}
use Rattle.std.proofs.lemmas.List.Folds.{find_at}
use Rattle.std.proofs.lemmas.Option.{slice_get_past}
use Rattle.smt_terms.specs.declared.sort.Sort.{Sort}
use Rattle.smt_terms.specs.declared.node.Node.{Node}
use Rattle.smt_terms.specs.declared.fault.MakeFault.{MakeFault}
use Rattle.smt_terms.specs.declared.fault.MakeFault.TheVariants.{TermLimit}
use Rattle.smt_terms.specs.Same.{same_node, node_same, node_itself}
use Rattle.smt_terms.specs.Nodes.{no_node, node_at}
use Rattle.smt_terms.specs.Ranks.{and_then}
use Rattle.smt_terms.specs.Terms.{node_sort, TermsValue, AreTerms, Agrees, numbered, make, with_node}
use Rattle.smt_terms.proofs.Growing.{node_longer, node_last, list_push, different_push, signature_push}

-- the node is new, there is room for it, and it came last
pub record IsNew (v w : TermsValue) (n : Node) (t : ℕ) : Type 0 where
  pub number : t ≡ length v.nodes
  pub pushed : w ≡ with_node v n
  pub room : length v.nodes < v.limit
  pub other : (u : ℕ) → u < length v.nodes → node_at v.nodes u ≡ n → ⊥

-- the node has a sort, it stands at its number, and it stood there or is new
pub record IsMade (v w : TermsValue) (n : Node) (t : ℕ) : Type 0 where
  pub sort : Sort
  pub rank : node_sort v.nodes n ≡ Ok sort
  pub within : t < length w.nodes
  pub node : node_at w.nodes t ≡ n
  pub grown : (w ≡ v) ⊎ IsNew v w n t

none_found : {A : Type 0} (p : A → Bool) (xs : List A) (d : A) → find p xs ≡ None → (k : ℕ) → k < length xs → p (get_or xs k d) ≡ false
none_found p [] d e k lt = absurd (omega arith)
none_found p (x ∷ xs) d e k lt = go (p x) refl (λ q. none_found p xs d q) e k lt where
  go : (b : Bool) → p x ≡ b → (find p xs ≡ None → (k : ℕ) → k < length xs → p (get_or xs k d) ≡ false) → (if b then Some x else find p xs) ≡ None → (k : ℕ) → k < suc (length xs) → p (get_or (x ∷ xs) k d) ≡ false
  go true f ih g k lt = let h : ⊥ = cc in absurd h
  go false f ih g zero lt = f
  go false f ih g (suc k) lt = ih g k (omega arith)

none_at : {A : Type 0} (p : A → Bool) (xs : List A) → position p xs ≡ None → find p xs ≡ None
none_at p xs e = find_at p xs ∙ go (nat_lt (position_or_len p xs) (length xs)) refl e where
  go : (b : Bool) → nat_lt (position_or_len p xs) (length xs) ≡ b → (if b then Some (position_or_len p xs) else None) ≡ None → slice_get xs (position_or_len p xs) ≡ None
  go true f g = let h : ⊥ = cc in absurd h
  go false f g = ⊎_elim (λ lt. let h : true ≡ false = sym (lt-ltb (position_or_len p xs) (length xs) lt) ∙ f in let i : ⊥ = cc in absurd i) (λ le. slice_get_past xs (position_or_len p xs) le) (cases_lt (position_or_len p xs) (length xs))

-- a node without a place is no held one
pub no_place : (nodes : List Node) (n : Node) → position (same_node n) nodes ≡ None → (u : ℕ) → u < length nodes → node_at nodes u ≡ n → ⊥
no_place nodes n e u lt q =
    let a : same_node n (node_at nodes u) ≡ false = none_found (same_node n) nodes no_node (none_at (same_node n) nodes e) u lt in
    let b : same_node n (node_at nodes u) ≡ true = subst (λ m. same_node n m ≡ true) (sym q) (node_itself n) in
    let f : ⊥ = cc in f

-- the place of a node that is held
pub at_place : (nodes : List Node) (n : Node) (t : ℕ) → position (same_node n) nodes ≡ Some t → (t < length nodes) × (node_at nodes t ≡ n)
at_place nodes n t e = let p = position-Some (same_node n) nodes t no_node e in (p.0, sym (node_same n (node_at nodes t) p.1))

pair_number : (a b : ℕ) (v w : TermsValue) → (let r : Result (ℕ × TermsValue) MakeFault = Ok (a, v) in r) ≡ Ok (b, w) → (a ≡ b) × (v ≡ w)
pair_number a b v w e = let q : (let p : ℕ × TermsValue = (a, v) in p) ≡ (b, w) = cc in (ap (λ p. p.0) q, ap (λ p. p.1) q)

module _ (v w : TermsValue) (n : Node) (t : ℕ) where
  held_made : (s : Sort) → node_sort v.nodes n ≡ Ok s → (u : ℕ) → position (same_node n) v.nodes ≡ Some u → (u ≡ t) × (v ≡ w) → IsMade v w n t
  held_made s r u p e =
      let h = at_place v.nodes n u p in
      record {
        sort = s;
        rank = r;
        within = rw (← e.1, ← e.0) h.0;
        node = rw (← e.1, ← e.0) h.1;
        grown = inl (sym e.1);
      }

  new_made : (s : Sort) → node_sort v.nodes n ≡ Ok s → position (same_node n) v.nodes ≡ None → nat_lt (length v.nodes) v.limit ≡ true → (length v.nodes ≡ t) × (with_node v n ≡ w) → IsMade v w n t
  new_made s r p l e = record {
    sort = s;
    rank = r;
    within = rw (← e.1, ← e.0) (omega (arith, length-append v.nodes (n ∷ [])));
    node = rw (← e.1, ← e.0) (node_last v.nodes n);
    grown = inr (record { number = sym e.0; pushed = sym e.1; room = ltb-true (length v.nodes) v.limit l; other = no_place v.nodes n p });
  }

  numbered_made : (s : Sort) → node_sort v.nodes n ≡ Ok s → (o : Option ℕ) → position (same_node n) v.nodes ≡ o → numbered v n o ≡ Ok (t, w) → IsMade v w n t
  numbered_made s r (Some u) p e = held_made s r u p (pair_number u t v w e)
  numbered_made s r None p e = go (nat_lt (length v.nodes) v.limit) refl e where
    go : (b : Bool) → nat_lt (length v.nodes) v.limit ≡ b → if◌then◌else◌ {A = Result (ℕ × TermsValue) MakeFault} b (Ok (length v.nodes, with_node v n)) (Err TermLimit) ≡ Ok (t, w) → IsMade v w n t
    go true l q = new_made s r p l (pair_number (length v.nodes) t (with_node v n) w q)
    go false l q = let h : ⊥ = cc in absurd h

  pub made : make v n ≡ Ok (t, w) → IsMade v w n t
  unfolding make
  made e = go (node_sort v.nodes n) refl e where
    go : (r : Result Sort MakeFault) → node_sort v.nodes n ≡ r → and_then r (λ _. numbered v n (position (same_node n) v.nodes)) ≡ Ok (t, w) → IsMade v w n t
    go (Ok s) r q = numbered_made s r (position (same_node n) v.nodes) refl q
    go (Err f) r q = let h : ⊥ = cc in absurd h

-- terms stay terms
pub terms_made : (v w : TermsValue) (n : Node) (t : ℕ) → AreTerms v → Agrees v.nodes n.op → IsMade v w n t → AreTerms w
terms_made v w n t h agrees m = ⊎_elim (λ e. subst AreTerms (sym e) h) (λ new. subst AreTerms (sym new.pushed) (pushed new)) m.grown where
  pushed : IsNew v w n t → AreTerms (with_node v n)
  pushed new = record {
    list = list_push v.nodes n m.sort m.rank h.list;
    different = different_push v.nodes n new.other h.different;
    declared = signature_push v.nodes n agrees h.declared;
    within = let r = new.room in omega (arith, length-append v.nodes (n ∷ []));
    limit = h.limit;
  }

-- a held term keeps its node
pub node_kept : (v w : TermsValue) (n : Node) (t : ℕ) → IsMade v w n t → (u : ℕ) → u < length v.nodes → (u < length w.nodes) × (node_at w.nodes u ≡ node_at v.nodes u)
node_kept v w n t m u lt =
    ⊎_elim
    (λ e. (rw e lt, ap (λ x. node_at x.nodes u) e))
    (λ new. (rw new.pushed (omega (arith, length-append v.nodes (n ∷ []))), ap (λ x. node_at x.nodes u) new.pushed ∙ node_longer v.nodes (n ∷ []) u lt))
    m.grown

-- two nodes, one made after the other, have one number exactly where they are equal
pub same_number : (v w x : TermsValue) (n m : Node) (t u : ℕ) → AreTerms w → Agrees w.nodes m.op → IsMade v w n t → IsMade w x m u → (t ≡ u) ↔ (n ≡ m)
same_number v w x n m t u h agrees a b =
    let k = node_kept w x m u b t a.within in
    ((λ e. sym (k.1 ∙ a.node) ∙ ap (node_at x.nodes) e ∙ b.node), (λ e. (terms_made w x m u h agrees b).different t u k.0 b.within (k.1 ∙ a.node ∙ e ∙ sym b.node)))
