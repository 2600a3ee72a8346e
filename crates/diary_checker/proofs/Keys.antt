-- The key of a clause, one literal after the other.
use Rattle.std.proofs.Common.{◌≡◌, ℕ, ◌+◌, ◌<◌, ◌≤◌, List, [], ◌∷◌, ◌++◌, length, take, get_or, Option, Some, None, refl, sym, subst, ⊎_elim, arith}
use Rattle.std.specs.Prelude.{◌⊎◌, Contains}
use Rattle.std.proofs.lemmas.List.Elements.{Contains-append_left, Contains-push}
use Rattle.cnf_base.specs.Literals.{Literal}
use Rattle.cnf_base.specs.declared.clause.ClauseId.{ClauseId}
use Rattle.cnf_base.proofs.Rows.{take_at}
use Rattle.diary_checker.specs.Tables.{filed_under, IsKey, IsShortest}
use Rattle.diary_checker.proofs.Sets.{in_more}

none_in_nothing : (ls : List Literal) (l : Literal) → ls ≡ [] → Contains ls l → ⊥
none_in_nothing ls l e c = let d = subst (λ (xs : List Literal). Contains xs l) e c in absurd (omega (arith, d.1))

module _ (lists : List (List ClauseId)) (clause : List Literal) where
  pub key_none : IsShortest lists (take 0 clause) None
  key_none = record { is_key = refl; least = λ l c. absurd (omega (arith, c.1)) }

  pub key_more : (i : ℕ) (x r : Literal) (key : Option Literal) → i < length clause → x ≡ get_or clause i x → IsShortest lists (take i clause) key
      → (r ≡ x) ⊎ (key ≡ Some r)
      → length (filed_under lists (Some r)) ≤ length (filed_under lists (Some x))
      → ((k : Literal) → key ≡ Some k → length (filed_under lists (Some r)) ≤ length (filed_under lists (Some k)))
      → IsShortest lists (take (i + 1) clause) (Some r)
  key_more i x r key lt e before one here than = record {
    is_key = subst (λ ls. Contains ls r) (sym (take_at clause i x lt e)) (⊎_elim
        (λ same. subst (Contains (take i clause ++ x ∷ [])) (sym same) (Contains-push (take i clause) x))
        (λ old. Contains-append_left (take i clause) (x ∷ []) r (is_old key before.is_key old))
        one);
    least = λ l c. ⊎_elim (λ old. le key before than l old) (λ same. subst (λ k. length (filed_under lists (Some r)) ≤ length (filed_under lists (Some k))) same here) (in_more clause i x l lt e c);
  }
    where
      is_old : (k : Option Literal) → IsKey (take i clause) k → k ≡ Some r → Contains (take i clause) r
      is_old k h same = subst (IsKey (take i clause)) same h

      le : (k : Option Literal) → IsShortest lists (take i clause) k → ((m : Literal) → k ≡ Some m → length (filed_under lists (Some r)) ≤ length (filed_under lists (Some m))) → (l : Literal) → Contains (take i clause) l → length (filed_under lists (Some r)) ≤ length (filed_under lists (Some l))
      le None h f l c = absurd (none_in_nothing (take i clause) l h.is_key c)
      le (Some m) h f l c = omega (arith, f m refl, h.least l c)
