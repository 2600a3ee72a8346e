-- Variables that are listed, clause by clause and term by term.
use Rattle.std.proofs.Common.{◌≡◌, ℕ, ◌+◌, ◌<◌, ◌≤◌, List, [], ◌∷◌, length, take, get_or, Option, Some, None, refl, sym, ap, ◌∙◌, subst, inl, inr, ⊎_elim, arith}
use Rattle.std.specs.Prelude.{◌⊎◌, Contains}
use Rattle.std.proofs.lemmas.Bool.{cases_lt}
use Rattle.std.proofs.lemmas.List.Elements.{Contains-push, Contains-push_cases}
use Rattle.cnf_base.specs.Literals.{Literal}
use Rattle.cnf_base.specs.declared.clause.ClauseId.{ClauseId}
use Rattle.cnf_base.proofs.Lists.{Contains-nil}
use Rattle.smt_terms.specs.declared.node.Node.{Node}
use Rattle.variable_list.specs.Variables.{IsListed}
use Rattle.proof_log.specs.declared.entry.Entry.{Entry}
use Rattle.proof_log.specs.Logs.{clause_at, state_of}
use Rattle.cdcl_learn.proofs.Lists.{front_cases}
use Rattle.cdcl_core.specs.declared.watches.Watches.{Watches}
use Rattle.cube_search.specs.Holding.{AreAmong, IsLonger, IsListing, IsHolding}
use Rattle.cube_search.proofs.Filling.{no_later}
use Rattle.cube_search.proofs.Told.{longer_has, longer_same, longer_then, take_less, take_has}
use Rattle.theory_search.specs.Theories.{IsNaming, IsOfBits, AreListed, AreKnown}

pub in_one : (y x : ℕ) → Contains (y ∷ []) x → y ≡ x
in_one y x k = ⊎_elim (λ (n : Contains [] x). absurd (Contains-nil x n)) (λ e. e) (Contains-push_cases [] y x k)

among_more : (xs ys : List ℕ) (c : List Literal) → IsLonger xs ys → AreAmong xs c → AreAmong ys c
among_more xs ys c longer h l k = longer_has xs ys l.variable longer (h l k)

-- ---- term by term

pub naming_none : (bits : ℕ → Option (List Literal)) (old : List ℕ) → IsNaming bits old old []
naming_none bits old = record { longer = longer_same old old refl; only = λ x k. inl k; named = λ t row k e. absurd (Contains-nil t k) }

-- a term with these bits
pub naming_row : (bits : ℕ → Option (List Literal)) (old new : List ℕ) (t : ℕ) (row : List Literal) → bits t ≡ Some row → IsListing old row new → IsNaming bits old new (t ∷ [])
naming_row bits old new t row e listing = record {
  longer = listing.longer;
  only = λ x k. ⊎_elim (λ o. inl o) (λ m. inr (t, row, m.0, (0, omega arith, refl), e, m.1, m.2)) (listing.only x k);
  named = λ u c k is.
      let both : Some row ≡ Some c = sym e ∙ ap bits (in_one t u k) ∙ is in
      let same : row ≡ c = cc in
      subst (AreAmong new) same listing.among;
}

-- a term without bits
pub naming_no_row : (bits : ℕ → Option (List Literal)) (old : List ℕ) (t : ℕ) → bits t ≡ None → IsNaming bits old old (t ∷ [])
naming_no_row bits old t e = record {
  longer = longer_same old old refl;
  only = λ x k. inl k;
  named = λ u c k is. let both : None ≡ Some c = sym e ∙ ap bits (in_one t u k) ∙ is in let f : ⊥ = cc in absurd f;
}

of_bits_more : (bits : ℕ → Option (List Literal)) (ps qs : List ℕ) (x : ℕ) → ((t : ℕ) → Contains ps t → Contains qs t) → IsOfBits bits ps x → IsOfBits bits qs x
of_bits_more bits ps qs x more o = (o.0, o.1, o.2, more o.0 o.3, o.4, o.5, o.6)

pub naming_more : (bits : ℕ → Option (List Literal)) (old mid new ts : List ℕ) (i t : ℕ) → i < length ts → t ≡ get_or ts i t → IsNaming bits mid new (t ∷ []) → IsNaming bits old mid (take i ts) → IsNaming bits old new (take (i + 1) ts)
naming_more bits old mid new ts i t lt is step h = record {
  longer = longer_then old mid new h.longer step.longer;
  only = λ x k. ⊎_elim
      (λ m. ⊎_elim (λ o. inl o) (λ o. inr (of_bits_more bits (take i ts) (take (i + 1) ts) x (λ q there. take_less ts i t q lt there) o)) (h.only x m))
      (λ o. inr (of_bits_more bits (t ∷ []) (take (i + 1) ts) x (λ q there. subst (Contains (take (i + 1) ts)) (sym is ∙ in_one t q there) (take_has ts i t lt)) o))
      (step.only x k);
  named = λ u row k e. ⊎_elim
      (λ there. among_more mid new row step.longer (h.named u row there e))
      (λ q. step.named u row (subst (Contains (t ∷ [])) (is ∙ q) (0, omega arith, refl)) e)
      (front_cases ts i t u lt k);
}

-- ---- literals that are known

pub known_none : (variables : List ℕ) (next : ℕ) → AreKnown variables next []
known_none variables next l k = absurd (Contains-nil l k)

pub known_more : (variables : List ℕ) (next : ℕ) (c : List Literal) (i : ℕ) (l : Literal) → i < length c → l ≡ get_or c i l → (Contains variables l.variable ⊎ (next ≤ l.variable)) → AreKnown variables next (take i c) → AreKnown variables next (take (i + 1) c)
known_more variables next c i l lt is here h m k = ⊎_elim
    (λ a. h m a)
    (λ a. subst (λ (n : Literal). Contains variables n.variable ⊎ (next ≤ n.variable)) (is ∙ a) here)
    (front_cases c i l m lt k)

-- ---- all that is listed

module _ (nodes : List Node) (log : List Entry) (bits : ℕ → Option (List Literal)) (are : (t : ℕ) → bits t ≡ (state_of nodes log).bits t) (first named terms opening : List ℕ) where
  of_log : (x : ℕ) → IsOfBits bits terms x → IsOfBits (state_of nodes log).bits terms x
  of_log x o = (o.0, o.1, o.2, o.3, sym (are o.0) ∙ o.4, o.5, o.6)

  module _ (w : Watches) (own taken : List ℕ) (holding : IsHolding w (state_of nodes log).clauses own opening taken) (one : IsListed own 1 first) where
    first_one : Contains first 1
    first_one = ⊎_elim
        (λ p. subst (λ xs. Contains xs 1) (sym p.1) p.0)
        (λ p. subst (λ xs. Contains xs 1) (sym p.1) (Contains-push own 1))
        one

    first_longer : IsLonger own first
    first_longer = ⊎_elim (λ p. longer_same own first p.1) (λ p. (1 ∷ [], p.1)) one

    only_first : (x : ℕ) → Contains first x → Contains own x ⊎ (1 ≡ x)
    only_first x k = ⊎_elim
        (λ p. inl (subst (λ xs. Contains xs x) p.1 k))
        (λ p. Contains-push_cases own 1 x (subst (λ xs. Contains xs x) p.1 k))
        one

    pub listed_all : IsNaming bits first named terms → AreListed nodes log named terms opening
    listed_all n = record {
      one = longer_has first named 1 n.longer first_one;
      bits = λ t row k e. n.named t row k (are t ∙ e);
      clauses = λ id c k e. among_more first named c n.longer (among_more own first c first_longer (holding.among id c (holding.complete id c k e)));
      only = λ x k. ⊎_elim
          (λ o. ⊎_elim (λ m. inr (inr (holding.occurs x m))) (λ e. inl (sym e)) (only_first x o))
          (λ o. inr (inl (of_log x o)))
          (n.only x k);
    }

-- part by part
pub known_parts : (rows : List (List (List Literal))) (variables : List ℕ) (next pos part : ℕ) (clause : List Literal) → clause_at rows (record { pos = pos; part = part }) ≡ Some clause → AreKnown variables next clause
    → ((id : ClauseId) (c : List Literal) → id.pos ≡ pos → id.part < part → clause_at rows id ≡ Some c → AreKnown variables next c)
    → (id : ClauseId) (c : List Literal) → id.pos ≡ pos → id.part < part + 1 → clause_at rows id ≡ Some c → AreKnown variables next c
known_parts rows variables next pos part clause at own h id c p lt e = ⊎_elim
    (λ less. h id c p less e)
    (λ le. here (omega (arith, lt, le)))
    (cases_lt id.part part)
  where
    here : id.part ≡ part → AreKnown variables next c
    here q =
        let both : Some clause ≡ Some c = sym at ∙ ap (λ n. clause_at rows (record { pos = pos; part = n })) (sym q) ∙ ap (λ n. clause_at rows (record { pos = n; part = id.part })) (sym p) ∙ e in
        let same : clause ≡ c = cc in
        subst (AreKnown variables next) same own

pub known_all : (rows : List (List (List Literal))) (variables : List ℕ) (next pos part : ℕ) → clause_at rows (record { pos = pos; part = part }) ≡ None
    → ((id : ClauseId) (c : List Literal) → id.pos ≡ pos → id.part < part → clause_at rows id ≡ Some c → AreKnown variables next c)
    → (id : ClauseId) (c : List Literal) → id.pos ≡ pos → clause_at rows id ≡ Some c → AreKnown variables next c
known_all rows variables next pos part none h id c p e = h id c p before e
  where
    before : id.part < part
    before = ⊎_elim
        (λ less. less)
        (λ ge. absurd (no_later rows pos part id.part c none ge (ap (λ n. clause_at rows (record { pos = n; part = id.part })) (sym p) ∙ e)))
        (cases_lt id.part part)
