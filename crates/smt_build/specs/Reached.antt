-- How what stands for the terms that a body reaches is kept while a use is made.
use Rattle.std.specs.Prelude.{◌≡◌, ℕ, ◌<◌, ◌==◌, true, List, [], ◌∷◌, AllPairs, Contains, length, map, Option, Some, None, Ok, if◌then◌else◌}
use Rattle.smt_terms.specs.declared.node.Node.{Node}
use Rattle.smt_terms.specs.Nodes.{node_of, node_at}
use Rattle.smt_terms.specs.Terms.{TermsValue, IsTermList}
use Rattle.term_reach.specs.Reach.{IsOnce}
use Rattle.smt_build.specs.Building.{Built, made}
use Rattle.smt_build.specs.Definitions.{reaches, argument}

-- what stands for a term: the number that has the term's place; 0 where there is none
abbrev pub placed : List ℕ → List ℕ → ℕ → ℕ
placed [] images t = 0
placed (u ∷ us) [] t = 0
placed (u ∷ us) (x ∷ xs) t = if u == t then x else placed us xs t

-- a parameter is its argument; all else is made over what stands for its arguments
abbrev pub made_over : (ℕ → ℕ) → TermsValue → Node → Option ℕ → Built
made_over stands terms n (Some a) = Ok (a, terms)
made_over stands terms n None = made terms (node_of n.op (map stands n.args))

-- what stands for a term, by what stands for others
abbrev pub again : (ℕ → ℕ) → List ℕ → TermsValue → ℕ → Built
again stands args terms t = made_over stands terms (node_at terms.nodes t) (argument args (node_at terms.nodes t).op)

-- exactly the terms below a body that it reaches, each once, and the same in rising order
pub record AreRising (nodes : List Node) (body : ℕ) (reached order : List ℕ) : Type 0 where
  pub list : IsTermList nodes
  pub once : IsOnce reached
  pub below : (t : ℕ) → Contains reached t → t < body
  pub only : (t : ℕ) → Contains reached t → reaches nodes body t ≡ true
  pub all : (t : ℕ) → t < body → reaches nodes body t ≡ true → Contains reached t
  pub rises : AllPairs (λ (x y : ℕ). x < y) order
  pub size : length order ≡ length reached
  pub listed : (t : ℕ) → Contains reached t → Contains order t
  pub held : (t : ℕ) → Contains order t → Contains reached t
