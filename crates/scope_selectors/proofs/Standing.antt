-- A literal stands in a clause exactly where the test of codes says so.
use Rattle.std.proofs.Common.{◌≡◌, true, List, get_or, refl, subst, eq-eqb}
use Rattle.std.specs.Prelude.{◌==◌, Contains}
use Rattle.std.proofs.lemmas.Bool.{eqb-true}
use Rattle.std.proofs.lemmas.List.Folds.{Any-from_list_any, list_any-from_Any}
use Rattle.cnf_base.specs.Literals.{Literal, code_of}
use Rattle.cnf_base.proofs.Codes.{code_of-injective}
use Rattle.scope_selectors.specs.Cores.{stands}

pub contains_standing : (clause : List Literal) (l : Literal) → stands clause l ≡ true → Contains clause l
contains_standing clause l h =
    let found = Any-from_list_any (λ (k : Literal). code_of k == code_of l) clause h in
    let same : found.1 ≡ l = code_of-injective found.1 l (eqb-true _ _ found.4) in
    (found.0, found.2, subst (λ (x : Literal). get_or clause found.0 x ≡ x) same found.3)

pub standing_contained : (clause : List Literal) (l : Literal) → Contains clause l → stands clause l ≡ true
standing_contained clause l h = list_any-from_Any (λ (k : Literal). code_of k == code_of l) clause (h.0, l, h.1, h.2, eq-eqb _ _ refl)
