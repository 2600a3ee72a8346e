-- Which terms a term reaches, and the ways to them.
use Rattle.std.proofs.Common.{◌≡◌, ℕ, zero, suc, ◌<◌, ◌≤◌, Bool, true, false, List, [], ◌∷◌, length, map, get_or, refl, ap, sym, ◌∙◌, subst, arith, inl, inr, ⊎_elim}
use Rattle.std.specs.Prelude.{◌⊎◌, ◌==◌, ◌&&◌, ◌||◌, ltb, All, Contains}
use Rattle.std.specs.List.{list_any}
use Rattle.std.proofs.lemmas.Bool.{eqb-true, eq-eqb, lt-ltb, ltb-true, cases_lt, or_left, or_right, or_cases, and_parts}
use Rattle.std.proofs.lemmas.List.Elements.{All-from_recursion, All-contains, Contains-get_or}
use Rattle.std.proofs.lemmas.List.Folds.{Any-from_list_any, list_any-from_Any}
use Rattle.smt_terms.specs.declared.node.Node.{Node}
use Rattle.smt_terms.specs.Nodes.{node_at, below, at_term}
use Rattle.smt_terms.specs.Terms.{IsTermList}
use Rattle.smt_terms.proofs.Recursion.{at_term_is}
use Rattle.term_reach.specs.Reach.{arguments, Reaches, IsReached}
use Rattle.term_reach.proofs.Ways.{reaches_itself, reaches_further, way_closed}
use Rattle.smt_build.specs.Definitions.{reaches}

-- ---- what is reached

any_member : (f : ℕ → Bool) (xs : List ℕ) (k d : ℕ) → k < length xs → f (get_or xs k d) ≡ true → list_any (λ b. b) (map f xs) ≡ true
any_member f [] k d lt e = absurd (omega arith)
any_member f (x ∷ xs) zero d lt e = or_left (f x) _ e
any_member f (x ∷ xs) (suc k) d lt e = or_right (f x) _ (any_member f xs k d (omega (arith, lt)) e)

any_found : (f : ℕ → Bool) (xs : List ℕ) → list_any (λ b. b) (map f xs) ≡ true → (k : ℕ) × (k < length xs) × (f (get_or xs k 0) ≡ true)
any_found f [] e = absurd (let z : ⊥ = cc in z)
any_found f (x ∷ xs) e =
    ⊎_elim
    (λ (p : f x ≡ true). let none : 0 < length (x ∷ xs) = omega arith in (0, none, p))
    (λ (p : list_any (λ b. b) (map f xs) ≡ true). let r = any_found f xs p in let more : suc r.0 < length (x ∷ xs) = omega (arith, r.1) in (suc r.0, more, r.2))
    (or_cases (f x) (list_any (λ b. b) (map f xs)) e)

module _ (nodes : List Node) where
  abbrev from : ℕ → ℕ → Bool
  from t u = at_term false (λ v op found. (v == u) || list_any (λ b. b) found) nodes t

  abbrev args : ℕ → List ℕ
  args t = (node_at nodes t).args

  itself : (t : ℕ) → from t t ≡ true
  unfolding below
  itself t = rw (eq-eqb t t refl) refl

  reach_from : (t u : ℕ) → t < length nodes → from t u ≡ true → reaches nodes t u ≡ true
  reach_from t u lt e = rw (lt-ltb t (length nodes) lt) e

  from_reach : (t u : ℕ) → t < length nodes → reaches nodes t u ≡ true → from t u ≡ true
  from_reach t u lt e = sym (ap (λ b. b && from t u) (lt-ltb t (length nodes) lt)) ∙ e

  pub reach_itself : (t : ℕ) → t < length nodes → reaches nodes t t ≡ true
  reach_itself t lt = reach_from t t lt (itself t)

  module _ (list : IsTermList nodes) where
    here : (t u : ℕ) → t < length nodes → from t u ≡ ((t == u) || list_any (λ b. b) (map (λ a. from a u) (args t)))
    here t u lt = at_term_is false (λ v op found. (v == u) || list_any (λ b. b) found) nodes t (list t lt).earlier

    earlier : (t k d : ℕ) → t < length nodes → k < length (args t) → get_or (args t) k d < t
    earlier t k d lt less = All-from_recursion (λ a. a < t) (args t) (list t lt).earlier k d less

    -- through an argument
    through : (t u k d : ℕ) → t < length nodes → k < length (args t) → from (get_or (args t) k d) u ≡ true → from t u ≡ true
    through t u k d lt less e = here t u lt ∙ or_right (t == u) _ (any_member (λ a. from a u) (args t) k d less e)

    apart : (t u : ℕ) → t < length nodes → from t u ≡ true → (t ≡ u) ⊎ ((k : ℕ) × (k < length (args t)) × (from (get_or (args t) k 0) u ≡ true))
    apart t u lt e = ⊎_elim (λ (p : (t == u) ≡ true). inl (eqb-true t u p)) (λ p. inr (any_found (λ a. from a u) (args t) p)) (or_cases (t == u) _ (sym (here t u lt) ∙ e))

    further : (n t v k d : ℕ) → t < n → t < length nodes → k < length (args v) → from t v ≡ true → from t (get_or (args v) k d) ≡ true
    further zero t v k d below lt less e = absurd (omega arith)
    further (suc n) t v k d below lt less e =
        ⊎_elim
        (λ (same : t ≡ v). through t (get_or (args v) k d) k d lt (subst (λ u. k < length (args u)) (sym same) less) (subst (λ u. from (get_or (args u) k d) (get_or (args v) k d) ≡ true) (sym same) (itself (get_or (args v) k d))))
        (λ (p : (j : ℕ) × (j < length (args t)) × (from (get_or (args t) j 0) v ≡ true)).
        let before : get_or (args t) p.0 0 < t = earlier t p.0 0 lt p.1 in
        through t (get_or (args v) k d) p.0 0 lt p.1 (further n (get_or (args t) p.0 0) v k d (omega (arith, before, below)) (omega (arith, before, lt)) less p.2))
        (apart t v lt e)

    pub reach_arguments : (body v : ℕ) → body < length nodes → reaches nodes body v ≡ true → All (λ a. reaches nodes body a ≡ true) (args v)
    reach_arguments body v lt e k d less = reach_from body (get_or (args v) k d) lt (further (suc body) body v k d (omega arith) lt less (from_reach body v lt e))

    -- what has all arguments of its members has all that is reached
    module _ (Is : ℕ → Type 0) (closed : (t : ℕ) → Is t → All Is (args t)) where
      carry : (n t u : ℕ) → t < n → t < length nodes → Is t → from t u ≡ true → Is u
      carry zero t u below lt is e = absurd (omega arith)
      carry (suc n) t u below lt is e =
          ⊎_elim
          (λ (same : t ≡ u). subst Is same is)
          (λ (p : (j : ℕ) × (j < length (args t)) × (from (get_or (args t) j 0) u ≡ true)).
          let before : get_or (args t) p.0 0 < t = earlier t p.0 0 lt p.1 in
          carry n (get_or (args t) p.0 0) u (omega (arith, before, below)) (omega (arith, before, lt)) (closed t is p.0 0 p.1) p.2)
          (apart t u lt e)

      pub reach_closed : (t u : ℕ) → t < length nodes → Is t → reaches nodes t u ≡ true → Is u
      reach_closed t u lt is e = carry (suc t) t u (omega arith) lt is (from_reach t u lt e)

-- ---- the ways to what is reached

module _ (nodes : List Node) (list : IsTermList nodes) where
  reaches_held : (r u : ℕ) → reaches nodes r u ≡ true → r < length nodes
  reaches_held r u e = ⊎_elim (λ lt. lt) (λ le. absurd (not_past r u le e)) (cases_lt r (length nodes)) where
    not_past : (r u : ℕ) → length nodes ≤ r → reaches nodes r u ≡ true → ⊥
    not_past r u le e = let lt : r < length nodes = ltb-true r (length nodes) (and_parts (ltb r (length nodes)) (at_term false (λ v op found. (v == u) || list_any (λ b. b) found) nodes r) e).0 in omega (arith, lt, le)

  -- what is told to be reached has a way
  pub way_told : (r u : ℕ) → reaches nodes r u ≡ true → Reaches (arguments nodes) r u
  way_told r u e =
      let on = λ (t : ℕ) (way : Reaches (arguments nodes) r t) (k d : ℕ) (lt : k < length (arguments nodes t)). reaches_further (arguments nodes) r t (get_or (arguments nodes t) k d) way (Contains-get_or (arguments nodes t) k d lt) in
      reach_closed nodes list (Reaches (arguments nodes) r) on r u (reaches_held r u e) (reaches_itself (arguments nodes) r) e

  -- what has a way is told to be reached
  pub told_way : (r u : ℕ) → r < length nodes → Reaches (arguments nodes) r u → reaches nodes r u ≡ true
  told_way r u lt way =
      let on = λ (a b : ℕ) (e : reaches nodes r a ≡ true) (c : Contains (arguments nodes a) b). All-contains (λ v. reaches nodes r v ≡ true) (arguments nodes a) b (reach_arguments nodes list r a lt e) c in
      way_closed (arguments nodes) (λ v. reaches nodes r v ≡ true) on r way.0 u way.1 (reach_itself nodes r lt)

  -- the same of what one of some terms reaches
  module _ (roots : List ℕ) where
    pub way_from_told : (u : ℕ) → list_any (λ r. reaches nodes r u) roots ≡ true → IsReached (arguments nodes) roots u
    way_from_told u e =
        let any = Any-from_list_any (λ r. reaches nodes r u) roots e in
        let r : ℕ = any.1 in
        (r, (any.0, any.2, any.3), way_told r u any.4)

    pub told_from_way : (u : ℕ) → All (λ t. t < length nodes) roots → IsReached (arguments nodes) roots u → list_any (λ r. reaches nodes r u) roots ≡ true
    told_from_way u held h =
        let r : ℕ = h.0 in
        let lt : r < length nodes = All-contains (λ t. t < length nodes) roots r held h.1 in
        list_any-from_Any (λ t. reaches nodes t u) roots (h.1.0, r, h.1.1, h.1.2, told_way r u lt h.2)
