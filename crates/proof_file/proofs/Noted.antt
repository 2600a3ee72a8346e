-- An index stays one as a chain is noted.
use Rattle.std.proofs.Common.{◌≡◌, ℕ, zero, suc, ◌≤◌, Bool, true, false, List, [], length, Some, None, refl, sym, ap, ◌∙◌, subst, ⊎_elim, arith, eq-eqb}
use Rattle.std.specs.Prelude.{◌≢◌, not, Contains, if◌then◌else◌}
use Rattle.std.proofs.lemmas.Bool.{cases_eq, ne_eqb}
use Rattle.std.proofs.lemmas.Option.{slice_get_within}
use Rattle.cnf_base.specs.Literals.{Literal, positive_of, negated}
use Rattle.cnf_base.proofs.Lists.{Contains-nil}
use Rattle.cnf_base.specs.declared.clause.ClauseId.{ClauseId}
use Rattle.smt_terms.specs.declared.node.Node.{Node}
use Rattle.proof_log.specs.declared.entry.Entry.{Entry}
use Rattle.proof_log.specs.declared.entry.Entry.TheVariants as step
use Rattle.proof_log.specs.Logs.{Asserted, entry_at}
use Rattle.proof_file.specs.Places.{with_place}
use Rattle.proof_file.specs.Indexed.{StaleIndex, selected_by, noted_under, RestsOn, IsIndexOf, KnowsAll, IsNoted}
use Rattle.proof_file.specs.Noting.{DenyAmong, HasNoted}
use Rattle.proof_file.proofs.Selectors.{asserted}

pub entry_within : (log : List Entry) (p : ℕ) (e : Entry) → entry_at log p ≡ Some e → p ≤ length log
entry_within log zero e h = omega arith
entry_within log (suc p) e h = let lt = slice_get_within log p e h in omega (arith, lt)

place_here : (places : ℕ → ℕ) (p q x : ℕ) → x ≡ p → with_place places p q x ≡ q
place_here places p q x e = ap (λ (b : Bool). if b then q else places x) (eq-eqb x p e)

pub place_elsewhere : (places : ℕ → ℕ) (p q x : ℕ) → (x ≡ p → ⊥) → with_place places p q x ≡ places x
place_elsewhere places p q x ne = ap (λ (b : Bool). if b then q else places x) (ne_eqb x p ne)

-- a literal that is no variable is the negation of one
abbrev signed : ℕ → Bool → Literal
signed x b = record { variable = x; positive = b }

denies : (l : Literal) → l.positive ≡ false → negated (positive_of l.variable) ≡ l
denies l e = ap (signed l.variable) (sym e)

same_clause : (c d : List Literal) (g h : List ClauseId) → Some (step.Chain c g) ≡ Some (step.Chain d h) → c ≡ d
same_clause c d g h e = cc

module _ (nodes : List Node) (log : List Entry) (places : ℕ → ℕ) (old new : StaleIndex) (p q : ℕ) (c : List Literal) (hints : List ClauseId)
    (h : IsIndexOf old nodes log places) (all : KnowsAll old nodes log) (chain : entry_at log p ≡ Some (step.Chain c hints)) (n : HasNoted p (DenyAmong old.selected c) old new) where
  rests_here : (a : ℕ) → DenyAmong old.selected c a → RestsOn nodes log a p
  rests_here a d =
      let s = h.own d.0.variable a d.2.1 in
      record {
        selector = asserted d.0.variable s.0;
        made = s.1;
        clause = c;
        hints = hints;
        chain = chain;
        negation = subst (Contains c) (sym (denies d.0 d.2.0)) d.1;
      }

  -- the chain is noted under what it rests on
  denied_here : (a : ℕ) → RestsOn nodes log a p → DenyAmong old.selected c a
  denied_here a r =
      let known : selected_by old.selected r.selector.literal.variable ≡ Some a = all a r.selector r.made in
      let s = h.own r.selector.literal.variable a known in
      let two : Some r.selector ≡ Some (asserted r.selector.literal.variable s.0) = sym r.made ∙ s.1 in
      let it : r.selector ≡ asserted r.selector.literal.variable s.0 = cc in
      let sign : r.selector.literal.positive ≡ true = ap (λ (k : Asserted). k.literal.positive) it in
      (negated r.selector.literal, subst (λ d. Contains d (negated r.selector.literal)) (same_clause r.clause c r.hints hints (sym r.chain ∙ chain)) r.negation, (ap not sign, known))

  pub noted_index : IsIndexOf new nodes log (with_place places p q)
  noted_index = record {
    within = let w = h.within in let r = n.read in omega (arith, w, r);
    known = λ k a t lt g.
        let r = n.read in
        let f = h.known k a t (omega (arith, lt, r)) g in
        (f.0, f.1, ap (λ rows. selected_by rows f.0) n.selected ∙ f.2);
    own = λ x a g. h.own x a (sym (ap (λ rows. selected_by rows x) n.selected) ∙ g);
    placed = λ x ne. ⊎_elim
        (λ (e : x ≡ p). let le = entry_within log p (step.Chain c hints) chain in omega (arith, e, le))
        (λ (d : x ≡ p → ⊥). h.placed x (λ z. ne (place_elsewhere places p q x d ∙ z)))
        (cases_eq x p);
    each = λ a x i. ⊎_elim
        (λ k. h.each a x k)
        (λ k. subst (RestsOn nodes log a) (sym k.0) (rests_here a k.1))
        (n.only a x i);
    every = λ a x r ne. ⊎_elim
        (λ (e : x ≡ p). subst (Contains (noted_under new.noted a)) (sym e) (n.here a (denied_here a (subst (RestsOn nodes log a) e r))))
        (λ (d : x ≡ p → ⊥). n.kept a x (h.every a x r (λ z. ne (place_elsewhere places p q x d ∙ z))))
        (cases_eq x p);
    watched = n.watched h.watched;
  }

  pub noted_knows : KnowsAll new nodes log
  noted_knows a r e = ap (λ rows. selected_by rows r.literal.variable) n.selected ∙ all a r e

pub noted_is : (old new : StaleIndex) (p : ℕ) (c : List Literal) → HasNoted p (DenyAmong old.selected c) old new → IsNoted p c old new
noted_is old new p c n = λ nodes log places hints q h all chain.
    (noted_index nodes log places old new p q c hints h all chain n, noted_knows nodes log places old new p q c hints h all chain n)

-- a position that has no chain gets a place
pub other_placed : (v : StaleIndex) (nodes : List Node) (log : List Entry) (places : ℕ → ℕ) (p q : ℕ) (e : Entry) → entry_at log p ≡ Some e
    → ((c : List Literal) (hints : List ClauseId) → e ≢ step.Chain c hints) → IsIndexOf v nodes log places → IsIndexOf v nodes log (with_place places p q)
other_placed v nodes log places p q e at other h = record {
  within = h.within;
  known = h.known;
  own = h.own;
  placed = λ x ne. ⊎_elim
      (λ (d : x ≡ p). let le = entry_within log p e at in omega (arith, d, le))
      (λ (d : x ≡ p → ⊥). h.placed x (λ z. ne (place_elsewhere places p q x d ∙ z)))
      (cases_eq x p);
  each = h.each;
  every = λ a x r ne. ⊎_elim
      (λ (d : x ≡ p).
      let two : Some e ≡ Some (step.Chain r.clause r.hints) = sym at ∙ ap (entry_at log) (sym d) ∙ r.chain in
      let it : e ≡ step.Chain r.clause r.hints = cc in
      absurd (other r.clause r.hints it))
      (λ (d : x ≡ p → ⊥). h.every a x r (λ z. ne (place_elsewhere places p q x d ∙ z)))
      (cases_eq x p);
  watched = h.watched;
}

-- before the first step
pub index_none : (v : StaleIndex) (nodes : List Node) → v.read ≡ 0 → v.selected ≡ [] → v.noted ≡ [] → IsIndexOf v nodes [] (λ p. 0)
index_none v nodes read selected noted = record {
  within = omega (arith, read);
  known = λ p a t lt g. absurd (omega (arith, lt, read));
  own = λ x a g. let e : None ≡ Some a = sym (ap (λ rows. selected_by rows x) selected) ∙ g in let f : ⊥ = cc in absurd f;
  placed = λ p ne. absurd (ne refl);
  each = λ a p c. absurd (Contains-nil p (subst (λ rows. Contains (noted_under rows a) p) noted c));
  every = λ a p r ne. absurd (ne refl);
  watched = λ a p c. absurd (Contains-nil p (subst (λ rows. Contains (noted_under rows a) p) noted c));
}
