-- Why terms keep their operators.
use Rattle.std.specs.Prelude.{◌≡◌, ◌⊎◌, ℕ, true, if◌then◌else◌, List, [], ◌∷◌, ◌++◌, All, take, slice_get, Some, None}
use Rattle.smt_terms.specs.declared.node.Node.{Node}
use Rattle.smt_terms.specs.Nodes.{node_at}
use Rattle.smt_terms.specs.Bits.{TermBits}
use Rattle.smt_terms.specs.Ranks.{is_plain}
use Rattle.smt_terms.specs.Terms.{TermsValue, sort_of}
use Rattle.bv_rewrite.specs.declared.simplifying.Use.{Use}
use Rattle.bv_rewrite.specs.declared.simplifying.Simplified.{Simplified}
use Rattle.bv_rewrite.specs.Kept.{stays_difference}
use Rattle.bv_rewrite.specs.Simplifying.{IsCrowded, IsEnd, IsGrown, IsSimplified}
use Rattle.reached_images.specs.declared.plan.Planned.{Planned}
use Rattle.reached_images.specs.Plans.{is_known, keeps_known, known_image, with_step, HasKnownArguments, IsKnown, IsPlan}

-- no rule takes the term further, or it is a difference that stays
abbrev pub IsSettled : List Node → ℕ → Type 0
IsSettled nodes t = IsEnd stays_difference nodes t

-- such a term, whose arguments are known
abbrev pub Stands : List Node → List TermBits → List Planned → ℕ → Type 0
Stands nodes bits steps t = IsSettled nodes t × HasKnownArguments nodes bits steps t

-- a term that is known, or stands
abbrev pub IsSupported : List Node → List TermBits → List Planned → ℕ → Type 0
IsSupported nodes bits steps t = IsKnown bits steps t ⊎ Stands nodes bits steps t

-- the steps of uses that lead from a term, the last of them first
abbrev pub way_steps : ℕ → List Use → List Planned
way_steps t [] = []
way_steps t (s ∷ ss) = way_steps s.to ss ++ record { term = t; used = Some s } ∷ []

-- a step of its own bits for the term
abbrev pub own_step : ℕ → Planned
own_step t = record { term = t; used = None }

-- the plan, and behind it steps of their own bits for those of the terms that are not known
abbrev pub with_own : List TermBits → List Planned → List ℕ → List Planned
with_own bits steps [] = steps
with_own bits steps (t ∷ ts) = with_own bits (with_step bits steps (own_step t)) ts

-- the same for the arguments of a term and then for the term, unless it is known
abbrev pub with_end : List Node → List TermBits → List Planned → ℕ → List Planned
with_end nodes bits steps t = if is_known bits steps t then steps else with_own bits steps ((node_at nodes t).args ++ t ∷ [])

-- behind the plan and the steps of the term at the end of a way the steps of its uses are none, as where a term on it has a step by then
abbrev pub IsBlocked : List Node → List TermBits → List Planned → ℕ → List Use → ℕ → Type 0
IsBlocked nodes bits before t uses last = IsPlan nodes bits (with_end nodes bits before last ++ way_steps t uses) → ⊥

-- what a term becomes cannot be planned: it has an argument that has to become another first, or the steps of its uses are none
abbrev pub IsInTheWay : List Node → List TermBits → List Planned → ℕ → Simplified → Type 0
IsInTheWay nodes bits before t s = (All (IsSupported nodes bits before) (node_at nodes s.term).args → ⊥) ⊎ IsBlocked nodes bits before t s.uses.items s.term

-- the term becomes another over these images, which cannot be planned
pub record IsTangled (v : TermsValue) (bits : List TermBits) (before : List Planned) (t : ℕ) : Type 0 where
  pub terms : TermsValue
  pub becomes : Simplified
  pub is : IsSimplified (keeps_known bits before) v terms (known_image bits before) t becomes
  pub why : IsInTheWay terms.nodes bits before t becomes

-- over terms that there were before, the limit leaves no room for what the term becomes, or it is tangled
pub record IsHindered (w : TermsValue) (bits : List TermBits) (before : List Planned) (t : ℕ) : Type 0 where
  pub terms : TermsValue
  pub grown : IsGrown terms w
  pub why : IsCrowded terms (known_image bits before) t ⊎ IsTangled terms bits before t

-- a Bool or a word that gets bits of its own is settled, or hindered
abbrev pub KeepsItself : TermsValue → List TermBits → List Planned → ℕ → Type 0
KeepsItself w bits before t = is_plain (sort_of w.nodes t) ≡ true → IsSettled w.nodes t ⊎ IsHindered w bits before t

-- so is each of the steps, behind those before it
abbrev pub AreOwn : TermsValue → List TermBits → List Planned → Type 0
AreOwn w bits steps = (k : ℕ) (p : Planned) → slice_get steps k ≡ Some p → p.used ≡ None → KeepsItself w bits (take k steps) p.term
