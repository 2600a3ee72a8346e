-- The chain of a resolvent, and what it closes.
use Rattle.std.proofs.Common.{◌≡◌, ℕ, zero, suc, ◌<◌, List, [], ◌∷◌, ◌++◌, length, get_or, Some, sym, ap, ◌∙◌, subst, inl, inr, ⊎_elim, arith}
use Rattle.std.specs.Prelude.{◌≢◌, ◌⊎◌, All, Contains, map}
use Rattle.std.proofs.lemmas.List.Elements.{All-weaker, All-contains, Contains-append_left, Contains-push, Contains-get_or}
use Rattle.std.proofs.lemmas.Option.{same_Some}
use Rattle.cnf_base.specs.Literals.{Literal, negated, positive_of, negative_of}
use Rattle.cnf_base.specs.declared.clause.ClauseId.{ClauseId}
use Rattle.cnf_base.proofs.Codes.{negated-negated}
use Rattle.cnf_base.proofs.Lists.{Contains-first, Contains-later, Contains-map}
use Rattle.hint_chain.specs.Chains.{IsFalse, Lookup, ChainFrom, IsChain}
use Rattle.cube_tree.specs.Resolvents.{IsResolvent, AreHintsOf}
use Rattle.cube_tree.specs.Closing.{IsClosing, first_of, Closes}

-- ---- elements

pub members : {A : Type 0} (P : A → Type 0) (xs : List A) → ((x : A) → Contains xs x → P x) → All P xs
members P xs h = λ k d lt. h (get_or xs k d) (Contains-get_or xs k d lt)

cons_cases : (x : Literal) (xs : List Literal) (y : Literal) → Contains (x ∷ xs) y → (y ≡ x) ⊎ Contains xs y
cons_cases x xs y h = go h.0 h.1 h.2
  where
    go : (k : ℕ) → k < length (x ∷ xs) → get_or (x ∷ xs) k y ≡ y → (y ≡ x) ⊎ Contains xs y
    go zero lt e = inl (sym e)
    go (suc k) lt e = inr (k, omega (arith, lt), e)

map_contains : (xs : List Literal) (x : Literal) → Contains (map negated xs) (negated x) → Contains xs x
map_contains [] x h = absurd (omega (arith, h.1))
map_contains (y ∷ xs) x h =
    ⊎_elim
    (λ e. subst (Contains (y ∷ xs)) (sym (sym (negated-negated x) ∙ ap negated e ∙ negated-negated y)) (Contains-first y xs))
    (λ k. Contains-later y x xs (map_contains xs x k))
    (cons_cases (negated y) (map negated xs) (negated x) h)

-- ---- the chain

module _ (look : Lookup) (first second clause : List Literal) (l : Literal) (a b : ClauseId) (has_first : look a ≡ Some first) (has_second : look b ≡ Some second) (h : IsResolvent first second clause l) (inside : Contains first l) where
  both : (¬ (Contains clause l)) → ChainFrom look (map negated clause) (a ∷ b ∷ [])
  both absent = (
    first,
    l,
    has_first,
    record {
      among = inside;
      open_yet = λ f. absent (map_contains clause l f);
      others = All-weaker _ (λ k. (k ≡ l) ⊎ IsFalse (map negated clause) k) (λ k p. ⊎_elim (λ e. inl e) (λ q. inr (Contains-map negated clause k q)) p) first h.of_first;
    },
    (
      second,
      has_second,
      All-weaker _ (IsFalse (map negated clause ++ l ∷ []))
          (λ k p.
          ⊎_elim
          (λ e. subst (Contains (map negated clause ++ l ∷ [])) (sym (ap negated e ∙ negated-negated l)) (Contains-push (map negated clause) l))
          (λ q. Contains-append_left (map negated clause) (l ∷ []) (negated k) (Contains-map negated clause k q))
          p)
          second h.of_second,
    ),
  )

  one : Contains clause l → ChainFrom look (map negated clause) (a ∷ [])
  one here = (
    first,
    has_first,
    All-weaker _ (IsFalse (map negated clause)) (λ k p. ⊎_elim (λ e. subst (IsFalse (map negated clause)) (sym e) (Contains-map negated clause l here)) (λ q. Contains-map negated clause k q) p) first h.of_first,
  )

  pub is_chain : (hints : List ClauseId) → AreHintsOf clause l a b hints → IsChain look clause hints
  is_chain hints k =
      ⊎_elim
      (λ p. inl p)
      (λ p. inr (
        p.0,
        ⊎_elim
            (λ q. subst (ChainFrom look (map negated clause)) (sym q.1) (one q.0))
            (λ q. subst (ChainFrom look (map negated clause)) (sym q.1) (both q.0))
            p.1,
      ))
      k

-- ---- what it closes

-- what two clauses close is closed by a clause of literals of both
closes_both : (assumed : List Literal) (p : Literal) (cube first second clause : List Literal) → ((k : Literal) → Contains clause k → (Contains first k × (k ≢ negated p)) ⊎ (Contains second k × (k ≢ p)))
    → IsClosing assumed (p ∷ cube) first → IsClosing assumed (negated p ∷ cube) second → IsClosing assumed cube clause
closes_both assumed p cube first second clause from h0 h1 =
    members (λ l. Contains cube (negated l) ⊎ Contains assumed (negated l)) clause (λ k has.
    ⊎_elim
    (λ a.
    ⊎_elim
    (λ inside. ⊎_elim (λ e. absurd (a.1 (sym (negated-negated k) ∙ ap negated e))) (λ late. inl late) (cons_cases p cube (negated k) inside))
    (λ known. inr known)
    (All-contains (λ l. Contains (p ∷ cube) (negated l) ⊎ Contains assumed (negated l)) first k h0 a.0))
    (λ b.
    ⊎_elim
    (λ inside. ⊎_elim (λ e. absurd (b.1 (sym (negated-negated k) ∙ ap negated e ∙ negated-negated p))) (λ late. inl late) (cons_cases (negated p) cube (negated k) inside))
    (λ known. inr known)
    (All-contains (λ l. Contains (negated p ∷ cube) (negated l) ⊎ Contains assumed (negated l)) second k h1 b.0))
    (from k has))

none_closing : (assumed cube : List Literal) → IsClosing assumed cube []
none_closing assumed cube = members (λ l. Contains cube (negated l) ⊎ Contains assumed (negated l)) [] (λ k r. absurd (omega (arith, r.1)))

-- the first clause lacks the variable, so it closes what both cubes have in common
pub first_closes : (look : Lookup) (assumed : List Literal) (x : ℕ) (cube : List Literal) (p : ℕ) (first : List Literal) → look (first_of p) ≡ Some first → ¬ (Contains first (negative_of x))
    → Closes look assumed (positive_of x ∷ cube) p → Closes look assumed cube p
first_closes look assumed x cube p first e absent h = record {
  clause = h.clause;
  found = h.found;
  closing =
      let same = same_Some _ _ (sym e ∙ h.found) in
      closes_both assumed (positive_of x) cube h.clause [] h.clause (λ k inside. inl (inside, λ is. absent (subst (λ c. Contains c (negative_of x)) (sym same) (subst (Contains h.clause) is inside)))) h.closing (none_closing assumed (negative_of x ∷ cube));
}

pub second_closes : (look : Lookup) (assumed : List Literal) (x : ℕ) (cube : List Literal) (q : ℕ) (second : List Literal) → look (first_of q) ≡ Some second → ¬ (Contains second (positive_of x))
    → Closes look assumed (negative_of x ∷ cube) q → Closes look assumed cube q
second_closes look assumed x cube q second e absent h = record {
  clause = h.clause;
  found = h.found;
  closing =
      let same = same_Some _ _ (sym e ∙ h.found) in
      closes_both assumed (positive_of x) cube [] h.clause h.clause (λ k inside. inr (inside, λ is. absent (subst (λ c. Contains c (positive_of x)) (sym same) (subst (Contains h.clause) is inside)))) (none_closing assumed (positive_of x ∷ cube)) h.closing;
}

pub resolvent_closes : (look more : Lookup) (assumed : List Literal) (x : ℕ) (cube : List Literal) (p q r : ℕ) (first second clause : List Literal)
    → look (first_of p) ≡ Some first → look (first_of q) ≡ Some second → IsResolvent first second clause (negative_of x) → more (first_of r) ≡ Some clause
    → Closes look assumed (positive_of x ∷ cube) p → Closes look assumed (negative_of x ∷ cube) q → Closes more assumed cube r
resolvent_closes look more assumed x cube p q r first second clause e0 e1 h found h0 h1 = record {
  clause = clause;
  found = found;
  closing = closes_both assumed (positive_of x) cube first second clause h.only (subst (IsClosing assumed (positive_of x ∷ cube)) (same_Some _ _ (sym h0.found ∙ e0)) h0.closing) (subst (IsClosing assumed (negative_of x ∷ cube)) (same_Some _ _ (sym h1.found ∙ e1)) h1.closing);
}
