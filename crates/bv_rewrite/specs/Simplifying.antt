-- Ways along rules, from a term to one to which no rule but that on arguments applies.
use Rattle.std.specs.Prelude.{◌≡◌, ◌⊎◌, ℕ, zero, suc, ◌+◌, ◌<◌, ◌≤◌, ◌==◌, nat_lt, Bool, true, ◌&&◌, if◌then◌else◌, List, [], ◌∷◌, ◌++◌, length, map, Option, Some, None, Contains}
use Rattle.std.specs.List.{AllByRecursion}
use Rattle.smt_terms.specs.declared.node.Op.{Op}
use Rattle.smt_terms.specs.declared.node.Node.{Node}
use Rattle.smt_terms.specs.Nodes.{node_at, node_of}
use Rattle.smt_terms.specs.Ranks.{is_plain}
use Rattle.smt_terms.specs.Terms.{TermsValue, AreTerms, sort_of}
use Rattle.smt_terms.specs.declared.fault.MakeError.{MakeError}
use Rattle.smt_terms.specs.declared.fault.MakeError.TheVariants.{NoMemory, Fault}
use Rattle.smt_terms.specs.declared.fault.MakeFault.TheVariants.{TermLimit}
use Rattle.bv_rules.specs.declared.rule.Rule.{Rule}
use Rattle.bv_rules.specs.declared.rule.Rule.TheVariants.{Inner}
use Rattle.bv_rules.specs.Reading.{op_at}
use Rattle.bv_rules.specs.Arguments.{commutes_in}
use Rattle.bv_rules.specs.Matches.{matches}
use Rattle.bv_rewrite.specs.declared.simplifying.Use.{Use}
use Rattle.bv_rewrite.specs.declared.simplifying.Simplified.{Simplified}
use Rattle.bv_rewrite.specs.Becoming.{becomes}

-- ---- ways

-- each use takes the term before it to its own, from t to u
abbrev pub IsWay : List Node → (ℕ → Option ℕ) → ℕ → List Use → ℕ → Type 0
IsWay nodes images t [] u = t ≡ u
IsWay nodes images t (s ∷ ss) u = (matches nodes images s.rule t s.to ≡ true) × IsWay nodes images s.to ss u

-- no use is of the rule on arguments
abbrev pub AreOfTable : List Use → Type 0
AreOfTable uses = AllByRecursion (λ s. s.rule ≡ Inner → ⊥) uses

-- no rule of the table applies to the term
abbrev pub IsLast : List Node → ℕ → Type 0
IsLast nodes t = (rule : Rule) → becomes nodes rule t ≡ None

-- the term is one that is kept, or no rule of the table applies to it
abbrev pub IsEnd : (List Node → ℕ → Bool) → List Node → ℕ → Type 0
IsEnd keeps nodes t = (keeps nodes t ≡ true) ⊎ IsLast nodes t

-- a use leads to the term, or to one that has it as an argument
pub record IsNeeded (nodes : List Node) (uses : List Use) (t : ℕ) : Type 0 where
  pub by : Use
  pub among : Contains uses by
  pub held : by.to < length nodes
  pub is : (by.to ≡ t) ⊎ Contains (node_at nodes by.to).args t

-- each term that is not among the first so many is needed
abbrev pub AreNeeded : ℕ → List Node → List Use → Type 0
AreNeeded count nodes uses = (t : ℕ) → count ≤ t → t < length nodes → IsNeeded nodes uses t

-- ---- arguments

-- what follows from the image, or the term where it has none
abbrev pub from_image : ℕ → Option ℕ → (ℕ → ℕ) → ℕ
from_image a None f = a
from_image a (Some c) f = f c

-- the last of the images of a term, of so many at most
abbrev pub end_in : (ℕ → Option ℕ) → ℕ → ℕ → ℕ
end_in images zero a = a
end_in images (suc k) a = from_image a (images a) (λ c. end_in images k c)

-- the two arguments of an operator that commutes, the lower first
abbrev pub in_order : Op → List ℕ → List ℕ
in_order o (x ∷ y ∷ []) = if commutes_in o && nat_lt y x then y ∷ x ∷ [] else x ∷ y ∷ []
in_order o args = args

-- the operator of a term on the last images of its arguments, in order; no way of different terms has more steps than there
-- are terms
abbrev pub settled : List Node → (ℕ → Option ℕ) → ℕ → Node
settled nodes images t = node_of (op_at nodes t) (in_order (op_at nodes t) (map (end_in images (length nodes)) (node_at nodes t).args))

-- the use that leads to it, where it is another term
abbrev pub first_use : ℕ → ℕ → List Use
first_use t u = if t == u then [] else record { rule = Inner; to = u } ∷ []

-- the terms, and perhaps more behind them
pub record IsGrown (v w : TermsValue) : Type 0 where
  pub terms : AreTerms w
  pub more : List Node
  pub nodes : w.nodes ≡ v.nodes ++ more
  pub limit : w.limit ≡ v.limit

-- ---- the rules of the table, one after the other

-- from t so many uses more lead to u, whatever the images are
pub record IsOnWay (v w : TermsValue) (t : ℕ) (before uses : List Use) (u : ℕ) : Type 0 where
  pub grown : IsGrown v w
  pub rest : List Use
  pub added : uses ≡ before ++ rest
  pub table : AreOfTable rest
  pub way : (images : ℕ → Option ℕ) → IsWay w.nodes images t rest u
  pub held : u < length w.nodes
  pub plain : is_plain (sort_of w.nodes u) ≡ true
  pub needed : AreNeeded (length v.nodes) w.nodes rest

pub record IsFollowed (keeps : List Node → ℕ → Bool) (v w : TermsValue) (t : ℕ) (before uses : List Use) (u : ℕ) : Type 0 where
  pub on_way : IsOnWay v w t before uses u
  pub end : IsEnd keeps w.nodes u

-- nothing but the limit of terms is a fault
abbrev pub IsCause : MakeError → Type 0
IsCause e = (e ≡ NoMemory) ⊎ (e ≡ Fault TermLimit)

-- the terms have grown perhaps
pub record IsRefused (v w : TermsValue) (e : MakeError) : Type 0 where
  pub grown : IsGrown v w
  pub cause : IsCause e

-- There is room for one term more at most: a rule makes a term, and perhaps one beside it.
abbrev pub IsFull : TermsValue → Type 0
IsFull w = w.limit ≤ length w.nodes + 1

-- from t so many uses more lead to a term, where there is no room to go on
pub record IsStopped (v : TermsValue) (t : ℕ) (before : List Use) : Type 0 where
  pub terms : TermsValue
  pub uses : List Use
  pub at : ℕ
  pub on_way : IsOnWay v terms t before uses at
  pub full : IsFull terms

-- Uses of rules lead from t to a term, and with what they need, and nothing else, the terms leave no room to go on.
pub record IsCrowded (v : TermsValue) (images : ℕ → Option ℕ) (t : ℕ) : Type 0 where
  pub terms : TermsValue
  pub grown : IsGrown v terms
  pub uses : List Use
  pub at : ℕ
  pub way : IsWay terms.nodes images t uses at
  pub needed : AreNeeded (length v.nodes) terms.nodes uses
  pub full : IsFull terms

-- First the arguments are settled, then rules of the table lead to a term that is kept, or to which none of them applies. No
-- term is made but those of the uses and their arguments.
pub record IsSimplified (keeps : List Node → ℕ → Bool) (v w : TermsValue) (images : ℕ → Option ℕ) (t : ℕ) (s : Simplified) : Type 0 where
  pub grown : IsGrown v w
  pub start : ℕ
  pub settles : node_at w.nodes start ≡ settled v.nodes images t
  pub rest : List Use
  pub uses : s.uses.items ≡ first_use t start ++ rest
  pub table : AreOfTable rest
  pub way : IsWay w.nodes images t s.uses.items s.term
  pub held : s.term < length w.nodes
  pub end : IsEnd keeps w.nodes s.term
  pub needed : AreNeeded (length v.nodes) w.nodes s.uses.items
