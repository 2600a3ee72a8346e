-- Hints are a chain or have one first fault, and never both.
use Rattle.std.proofs.Common.{◌≡◌, ℕ, suc, List, [], ◌∷◌, ◌++◌, Option, Some, None, sym, ◌∙◌, subst, ⊎_elim}
use Rattle.std.specs.Prelude.{◌⊎◌, Contains, map}
use Rattle.std.proofs.lemmas.List.Elements.{All-contains}
use Rattle.cnf_base.specs.Literals.{Literal, negated}
use Rattle.cnf_base.specs.declared.clause.ClauseId.{ClauseId}
use Rattle.hint_chain.specs.declared.fault.ChainFault.{ChainFault}
use Rattle.hint_chain.specs.Chains.{IsFalse, IsFalseClause, IsUnit, IsWide, Lookup, ChainFrom, IsChain}
use Rattle.hint_chain.specs.Faults.{FaultFrom, FirstFault}
use Rattle.cnf_base.proofs.Options.{same_found}

none_some : {A : Type 0} (o : Option A) (x : A) → o ≡ None → o ≡ Some x → ⊥
none_some o x e f = cc

-- ---- the three shapes of a clause exclude one another, and the open literal is one

false_unit : (ts h : List Literal) (l : Literal) → IsFalseClause ts h → IsUnit ts h l → ⊥
false_unit ts h l f u = u.open_yet (All-contains (IsFalse ts) h l f u.among)

false_wide : (ts h : List Literal) → IsFalseClause ts h → IsWide ts h → ⊥
false_wide ts h f w = w.first_open (All-contains (IsFalse ts) h w.first f w.has_first)

pub only_open : (ts h : List Literal) (l m : Literal) → IsUnit ts h l → Contains h m → ¬ (IsFalse ts m) → m ≡ l
only_open ts h l m u among open_yet =
    ⊎_elim (λ e. e) (λ f. absurd (open_yet f)) (All-contains (λ k. (k ≡ l) ⊎ IsFalse ts k) h m u.others among)

unit_wide : (ts h : List Literal) (l : Literal) → IsUnit ts h l → IsWide ts h → ⊥
unit_wide ts h l u w =
    w.differ (only_open ts h l w.first u w.has_first w.first_open ∙ sym (only_open ts h l w.second u w.has_second w.second_open))

one_open : (ts h : List Literal) (l m : Literal) → IsUnit ts h l → IsUnit ts h m → m ≡ l
one_open ts h l m u w = only_open ts h l m u w.among w.open_yet

-- ---- a chain has no fault

chain_no_fault : (look : Lookup) (ts : List Literal) (k : ℕ) (hints : List ClauseId) (f : ChainFault) → ChainFrom look ts hints → FaultFrom look ts k hints f → ⊥
chain_no_fault look ts k [] f c g = c
chain_no_fault look ts k (i ∷ []) f c g =
    ⊎_elim
    (λ p. none_some (look i) c.0 p.0 c.1)
    (λ p. p.2 (subst (IsFalseClause ts) (same_found (look i) c.0 p.0 c.1 p.1) c.2))
    g
chain_no_fault look ts k (i ∷ j ∷ is) f c g =
    ⊎_elim
    (λ p. none_some (look i) c.0 p.0 c.2)
    (λ g'. ⊎_elim
    (λ p. false_unit ts p.0 c.1 p.2 (subst (λ h. IsUnit ts h c.1) (same_found (look i) c.0 p.0 c.2 p.1) c.3))
    (λ g''. ⊎_elim
    (λ p. unit_wide ts p.0 c.1 (subst (λ h. IsUnit ts h c.1) (same_found (look i) c.0 p.0 c.2 p.1) c.3) p.2)
    (λ p.
    let unit = subst (λ h. IsUnit ts h c.1) (same_found (look i) c.0 p.0 c.2 p.2) c.3 in
    let same : p.1 ≡ c.1 = one_open ts p.0 c.1 p.1 unit p.3 in
    chain_no_fault look (ts ++ c.1 ∷ []) (suc k) (j ∷ is) f c.4 (subst (λ l. FaultFrom look (ts ++ l ∷ []) (suc k) (j ∷ is) f) same p.4))
    g'')
    g')
    g

pub IsChain-no_fault : (look : Lookup) (clause : List Literal) (hints : List ClauseId) (f : ChainFault) → IsChain look clause hints → FirstFault look clause hints f → ⊥
IsChain-no_fault look clause hints f c g =
    ⊎_elim
    (λ p. ⊎_elim (λ q. q.1 p.1) (λ q. q.0 p.0) g)
    (λ p. ⊎_elim (λ q. p.0 q.0) (λ q. chain_no_fault look (map negated clause) 0 hints f p.1 q.1) g)
    c

-- ---- the first fault is one

same_fault : (look : Lookup) (ts : List Literal) (k : ℕ) (hints : List ClauseId) (f g : ChainFault) → FaultFrom look ts k hints f → FaultFrom look ts k hints g → f ≡ g
same_fault look ts k [] f g a b = a ∙ sym b
same_fault look ts k (i ∷ []) f g a b =
    ⊎_elim
    (λ p. ⊎_elim (λ q. p.1 ∙ sym q.1) (λ q. absurd (none_some (look i) q.0 p.0 q.1)) b)
    (λ p. ⊎_elim (λ q. absurd (none_some (look i) p.0 q.0 p.1)) (λ q. p.3 ∙ sym q.3) b)
    a
same_fault look ts k (i ∷ j ∷ is) f g a b =
    ⊎_elim
    (λ p. ⊎_elim
    (λ q. p.1 ∙ sym q.1)
    (λ b'. ⊎_elim (λ q. absurd (none_some (look i) q.0 p.0 q.1)) (λ b''. ⊎_elim (λ q. absurd (none_some (look i) q.0 p.0 q.1)) (λ q. absurd (none_some (look i) q.0 p.0 q.2)) b'') b')
    b)
    (λ a'. ⊎_elim
    (λ p. ⊎_elim
    (λ q. absurd (none_some (look i) p.0 q.0 p.1))
    (λ b'. ⊎_elim
    (λ q. p.3 ∙ sym q.3)
    (λ b''. ⊎_elim
    (λ q. absurd (false_wide ts q.0 (subst (IsFalseClause ts) (same_found (look i) p.0 q.0 p.1 q.1) p.2) q.2))
    (λ q. absurd (false_unit ts q.0 q.1 (subst (IsFalseClause ts) (same_found (look i) p.0 q.0 p.1 q.2) p.2) q.3))
    b'')
    b')
    b)
    (λ a''. ⊎_elim
    (λ p. ⊎_elim
    (λ q. absurd (none_some (look i) p.0 q.0 p.1))
    (λ b'. ⊎_elim
    (λ q. absurd (false_wide ts p.0 (subst (IsFalseClause ts) (same_found (look i) q.0 p.0 q.1 p.1) q.2) p.2))
    (λ b''. ⊎_elim
    (λ q. p.3 ∙ sym q.3)
    (λ q. absurd (unit_wide ts q.0 q.1 q.3 (subst (IsWide ts) (same_found (look i) p.0 q.0 p.1 q.2) p.2)))
    b'')
    b')
    b)
    (λ p. ⊎_elim
    (λ q. absurd (none_some (look i) p.0 q.0 p.2))
    (λ b'. ⊎_elim
    (λ q. absurd (false_unit ts p.0 p.1 (subst (IsFalseClause ts) (same_found (look i) q.0 p.0 q.1 p.2) q.2) p.3))
    (λ b''. ⊎_elim
    (λ q. absurd (unit_wide ts p.0 p.1 p.3 (subst (IsWide ts) (same_found (look i) q.0 p.0 q.1 p.2) q.2)))
    (λ q.
    let unit = subst (λ h. IsUnit ts h p.1) (same_found (look i) p.0 q.0 p.2 q.2) p.3 in
    let same : q.1 ≡ p.1 = one_open ts q.0 p.1 q.1 unit q.3 in
    same_fault look (ts ++ p.1 ∷ []) (suc k) (j ∷ is) f g p.4 (subst (λ l. FaultFrom look (ts ++ l ∷ []) (suc k) (j ∷ is) g) same q.4))
    b'')
    b')
    b)
    a'')
    a')
    a

pub FirstFault-one : (look : Lookup) (clause : List Literal) (hints : List ClauseId) (f g : ChainFault) → FirstFault look clause hints f → FirstFault look clause hints g → f ≡ g
FirstFault-one look clause hints f g a b =
    ⊎_elim
    (λ p. ⊎_elim (λ q. p.2 ∙ sym q.2) (λ q. absurd (q.0 p.0)) b)
    (λ p. ⊎_elim (λ q. absurd (p.0 q.0)) (λ q. same_fault look (map negated clause) 0 hints f g p.1 q.1) b)
    a
