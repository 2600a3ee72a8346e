-- Literals of two clauses that are put into one.
use Rattle.std.proofs.Common.{◌≡◌, ℕ, ◌+◌, ◌<◌, List, [], length, get_or, sym, ap, ◌∙◌, subst, inl, inr, ⊎_elim, arith}
use Rattle.std.specs.Prelude.{◌≢◌, ◌⊎◌, All, Contains}
use Rattle.std.specs.List.{AllWithin}
use Rattle.std.proofs.lemmas.Bool.{cases_lt}
use Rattle.std.proofs.lemmas.List.{get_or_default}
use Rattle.std.proofs.lemmas.List.Elements.{All-weaker}
use Rattle.cnf_base.specs.Literals.{Literal, negated}
use Rattle.cnf_base.proofs.Lists.{Contains-nil}
use Rattle.cube_tree.specs.Resolvents.{IsResolvent}

pub within_more : (from : List Literal) (i : ℕ) (skip k e : Literal) (old new : List Literal) → i < length from → k ≡ get_or from i e → ((m : Literal) → Contains old m → Contains new m) → ((k ≡ skip) ⊎ Contains new k)
    → AllWithin (λ m. (m ≡ skip) ⊎ Contains old m) from 0 i → AllWithin (λ m. (m ≡ skip) ⊎ Contains new m) from 0 (i + 1)
within_more from i skip k e old new lt is kept here before = λ j d lo hi.
    ⊎_elim
    (λ less. ⊎_elim (λ p. inl p) (λ p. inr (kept _ p)) (before j d lo less))
    (λ le.
    let same : i ≡ j = omega (arith, hi, le) in
    let at : k ≡ get_or from j d = is ∙ get_or_default from i e d lt ∙ ap (λ n. get_or from n d) same in
    subst (λ m. (m ≡ skip) ⊎ Contains new m) at here)
    (cases_lt j i)

pub only_more : (from : List Literal) (skip k : Literal) (start old new : List Literal) → Contains from k → ((m : Literal) → Contains new m → Contains old m ⊎ ((m ≡ k) × (k ≢ skip)))
    → ((m : Literal) → Contains old m → Contains start m ⊎ (Contains from m × (m ≢ skip))) → (m : Literal) → Contains new m → Contains start m ⊎ (Contains from m × (m ≢ skip))
only_more from skip k start old new inside step before m h =
    ⊎_elim (λ p. before m p) (λ p. inr (subst (Contains from) (sym p.0) inside, λ e. p.1 (sym p.0 ∙ e))) (step m h)

-- the literals of the first clause but l, and then those of the second but its opposite
pub merged : (first second : List Literal) (l m : Literal) (none one two : List Literal) → none ≡ [] → m ≡ negated l
    → All (λ k. (k ≡ l) ⊎ Contains one k) first → ((k : Literal) → Contains one k → Contains none k ⊎ (Contains first k × (k ≢ l)))
    → ((k : Literal) → Contains one k → Contains two k) → All (λ k. (k ≡ m) ⊎ Contains two k) second → ((k : Literal) → Contains two k → Contains one k ⊎ (Contains second k × (k ≢ m)))
    → IsResolvent first second two l
merged first second l m none one two e is has0 only0 kept has1 only1 = record {
  of_first = All-weaker _ (λ k. (k ≡ l) ⊎ Contains two k) (λ k p. ⊎_elim (λ s. inl s) (λ q. inr (kept k q)) p) first has0;
  of_second = All-weaker _ (λ k. (k ≡ negated l) ⊎ Contains two k) (λ k p. ⊎_elim (λ s. inl (s ∙ is)) (λ q. inr q) p) second has1;
  only = λ k h.
      ⊎_elim
      (λ p. ⊎_elim (λ q. absurd (Contains-nil k (subst (λ xs. Contains xs k) e q))) (λ q. inl q) (only0 k p))
      (λ p. inr (p.0, λ same. p.1 (same ∙ sym is)))
      (only1 k h);
}
