-- At which position a step gave a term its bits, an assertion its selector, or the equality of two terms its variable.
use Rattle.std.specs.Prelude.{◌≡◌, ◌⊎◌, ◌==◌, ◌&&◌, ℕ, suc, Bool, false, if◌then◌else◌, List, [], ◌∷◌, Option, Some, None, slice_index_or}
use Rattle.proof_log.specs.declared.entry.Entry.{Entry}
use Rattle.proof_log.specs.declared.entry.Entry.TheVariants as step
use Rattle.proof_log.specs.declared.entry.Role.TheVariants as role
use Rattle.proof_log.specs.Roles.{role_of}
use Rattle.proof_log.specs.Logs.{entry_at}

-- the step gives bits to this term and to no other
abbrev pub IsForTerm : ℕ → Entry → Type 0
IsForTerm t e = role_of e ≡ role.Bits t

-- the step gives neither bits nor a selector
abbrev pub IsPlain : Entry → Type 0
IsPlain e = (role_of e ≡ role.Term) ⊎ (role_of e ≡ role.Search)

-- the step at the position gave the term its bits
abbrev pub GivesBits : List Entry → ℕ → ℕ → Type 0
GivesBits log t p = (e : Entry) × (entry_at log p ≡ Some e) × IsForTerm t e

-- the step at the position gave the assertion its selector
abbrev pub GivesSelector : List Entry → ℕ → ℕ → Type 0
GivesSelector log a p = (t : ℕ) × (entry_at log p ≡ Some (step.Selector a t))

-- a position at which it is so, or none where there is no such position
abbrev pub IsPlaceOf : (ℕ → Type 0) → Option ℕ → Type 0
IsPlaceOf P None = (p : ℕ) → P p → ⊥
IsPlaceOf P (Some p) = P p

-- the position that is kept under a number
abbrev pub place_in : List (Option ℕ) → ℕ → Option ℕ
place_in held n = slice_index_or held n None

-- tables of the positions, by term and by assertion
pub record ArePlaces (log : List Entry) (terms assertions : List (Option ℕ)) : Type 0 where
  pub bits : (t : ℕ) → IsPlaceOf (GivesBits log t) (place_in terms t)
  pub selectors : (a : ℕ) → IsPlaceOf (GivesSelector log a) (place_in assertions a)

-- the step gives the equality of these terms its variable
abbrev pub is_equality : ℕ → ℕ → Entry → Bool
is_equality t u (step.Equal x y) = (x == t) && (y == u)
is_equality t u _ = false

-- the position of the first such step, where the first of these steps has this position
abbrev pub place_from : ℕ → List Entry → ℕ → ℕ → Option ℕ
place_from p [] t u = None
place_from p (e ∷ es) t u = if is_equality t u e then Some p else place_from (suc p) es t u

-- the position of the step of a log that gives the equality of these terms its variable, if there is one
abbrev pub place_of_pair : List Entry → ℕ → ℕ → Option ℕ
place_of_pair log t u = place_from 1 log t u
