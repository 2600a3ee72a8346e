-- Clauses under an assignment.
use Rattle.std.proofs.Common.{◌≡◌, ℕ, Bool, true, false, List, [], ◌∷◌, refl, ap, ◌∙◌, inl, inr}
use Rattle.std.specs.Prelude.{Contains, ◌||◌}
use Rattle.cnf_base.specs.Literals.{Literal}
use Rattle.cnf_base.specs.Clauses.{lit_true, clause_true}
use Rattle.cnf_base.proofs.Lists.{Contains-nil}
use Rattle.cdcl_learn.proofs.Lists.{member_cases}

-- a clause of which a literal is true
pub clause_holds : (v : ℕ → Bool) (c : List Literal) (l : Literal) → Contains c l → lit_true v l ≡ true → clause_true v c ≡ true
clause_holds v [] l k e = absurd (Contains-nil l k)
clause_holds v (m ∷ c) l k e = elim (member_cases m l c k) [
  | inl a ↦ ap (λ b. b || clause_true v c) (ap (lit_true v) a ∙ e)
  | inr a ↦ later (lit_true v m) (clause_holds v c l a e)
]
  where
    later : (b : Bool) → clause_true v c ≡ true → (b || clause_true v c) ≡ true
    later true h = refl
    later false h = h
