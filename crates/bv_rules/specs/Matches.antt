-- Which rule takes which term to which, and what it keeps.
use Rattle.std.specs.Prelude.{◌≡◌, ℕ, ◌<◌, nat_lt, Bool, true, ◌&&◌, List, length, Option, Some}
use Rattle.smt_terms.specs.declared.node.Node.{Node}
use Rattle.smt_terms.specs.Same.{same_sort}
use Rattle.smt_terms.specs.Ranks.{is_plain}
use Rattle.smt_terms.specs.Terms.{sort_of}
use Rattle.smt_terms.specs.Values.{Value, Interpretation}
use Rattle.smt_terms.specs.Evaluations.{IsEvaluation}
use Rattle.bv_rules.specs.declared.rule.Rule.{Rule}
use Rattle.bv_rules.specs.Rules.{takes}

-- t and u are held Bools or words of one sort, and by the rule, over these images, t becomes u
abbrev pub matches : List Node → (ℕ → Option ℕ) → Rule → ℕ → ℕ → Bool
matches nodes images rule t u =
    nat_lt t (length nodes) && (nat_lt u (length nodes)
    && (is_plain (sort_of nodes t) && (same_sort (sort_of nodes t) (sort_of nodes u) && takes nodes images rule t u)))

-- two terms that have one sort and one value, in every evaluation
pub record IsImage (nodes : List Node) (t u : ℕ) : Type 0 where
  pub from : t < length nodes
  pub to : u < length nodes
  pub plain : is_plain (sort_of nodes t) ≡ true
  pub sort : sort_of nodes u ≡ sort_of nodes t
  pub value : (M : Interpretation) (v : ℕ → Value) → IsEvaluation M nodes v → v u ≡ v t

-- what has an image is a Bool or a word, and has the image's value
abbrev pub KeepValues : List Node → (ℕ → Value) → (ℕ → Option ℕ) → Type 0
KeepValues nodes v images = (t u : ℕ) → images t ≡ Some u → (is_plain (sort_of nodes t) ≡ true) × (v u ≡ v t)

-- each image is one
abbrev pub AreImages : List Node → (ℕ → Option ℕ) → Type 0
AreImages nodes images = (t u : ℕ) → images t ≡ Some u → IsImage nodes t u
