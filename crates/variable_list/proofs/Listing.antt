-- What a list contains in which a variable was listed.
use Rattle.std.proofs.Common.{ℕ, List, [], ◌∷◌, sym, subst, ⊎_elim}
use Rattle.std.specs.Prelude.{Contains}
use Rattle.std.proofs.lemmas.List.Elements.{Contains-append_left, Contains-push}
use Rattle.variable_list.specs.Variables.{IsListed}

pub listed_here : (old new : List ℕ) (x : ℕ) → IsListed old x new → Contains new x
listed_here old new x h = ⊎_elim
    (λ k. subst (λ (xs : List ℕ). Contains xs x) (sym k.1) k.0)
    (λ k. subst (λ (xs : List ℕ). Contains xs x) (sym k.1) (Contains-push old x))
    h

pub listed_still : (old new : List ℕ) (x y : ℕ) → IsListed old x new → Contains old y → Contains new y
listed_still old new x y h c = ⊎_elim
    (λ k. subst (λ (xs : List ℕ). Contains xs y) (sym k.1) c)
    (λ k. subst (λ (xs : List ℕ). Contains xs y) (sym k.1) (Contains-append_left old (x ∷ []) y c))
    h
