-- Uses of defined names (SMT-LIB 2.6, section 4.2.3): the term of the body, with the arguments in place of the parameters.
use Rattle.std.specs.Prelude.{ℕ, zero, suc, ◌==◌, Bool, true, false, ◌&&◌, ◌||◌, nat_lt, List, [], ◌∷◌, ◌++◌, length, map, slice_get, slice_index_or, Option, Some, None, Ok, Err, if◌then◌else◌}
use Rattle.std.specs.List.{list_any}
use Rattle.smt_syntax.specs.Walk.{◌>>=◌}
use Rattle.smt_terms.specs.declared.sort.Sort.{Sort}
use Rattle.smt_terms.specs.declared.node.Op.{Op}
use Rattle.smt_terms.specs.declared.node.Op.TheVariants.{Param}
use Rattle.smt_terms.specs.declared.node.Node.{Node}
use Rattle.smt_terms.specs.Nodes.{node_of, node_at, at_term}
use Rattle.smt_terms.specs.Terms.{TermsValue, held_sort}
use Rattle.smt_build.specs.declared.definition.Definition.{Definition}
use Rattle.smt_build.specs.declared.fault.BuildFault.TheVariants.{WrongSort}
use Rattle.smt_build.specs.Building.{Built, made}
use Rattle.smt_build.specs.Grouping.{Listed, has_sort}

-- there are as many terms as sorts, each of its sort
abbrev pub have_sorts : List Node → List Sort → List ℕ → Bool
have_sorts nodes [] [] = true
have_sorts nodes [] (t ∷ ts) = false
have_sorts nodes (s ∷ ss) [] = false
have_sorts nodes (s ∷ ss) (t ∷ ts) = has_sort s (held_sort nodes t) && have_sorts nodes ss ts

-- ---- a body with terms in place of its parameters

-- a term reaches itself, and what its arguments reach
abbrev pub reaches : List Node → ℕ → ℕ → Bool
reaches nodes t u = nat_lt t (length nodes) && at_term false (λ v op found. (v == u) || list_any (λ b. b) found) nodes t

-- what stands for a term
abbrev pub image : List ℕ → ℕ → ℕ
image images u = slice_index_or images u 0

-- the argument at the place of a parameter
abbrev pub argument : List ℕ → Op → Option ℕ
argument args (Param place s) = slice_get args place
argument args op = None

-- a parameter is its argument; all else is made over what stands for its arguments
abbrev pub made_again : List ℕ → TermsValue → Node → Option ℕ → Built
made_again images terms n (Some a) = Ok (a, terms)
made_again images terms n None = made terms (node_of n.op (map (image images) n.args))

module _ (nodes : List Node) (body : ℕ) (args : List ℕ) where
  -- a term that the body does not reach stands for itself
  abbrev pub image_of : List ℕ × TermsValue → ℕ → Built
  image_of r u = if reaches nodes body u then made_again r.0 r.1 (node_at nodes u) (argument args (node_at nodes u).op) else Ok (u, r.1)

  -- what stands for the terms below a number, made in rising order, with the terms then
  unfoldable pub images : TermsValue → ℕ → Listed
  images terms zero = Ok ([], terms)
  images terms (suc u) = images terms u >>= λ r. image_of r u >>= λ q. Ok (r.0 ++ q.0 ∷ [], q.1)

-- the body with these arguments
unfoldable pub instance : TermsValue → ℕ → List ℕ → Built
instance terms body args = images terms.nodes body args terms body >>= λ r. image_of terms.nodes body args r body

abbrev pub with_arguments : TermsValue → Definition → List ℕ → Built
with_arguments terms f [] = Ok (f.body, terms)
with_arguments terms f (a ∷ args) = instance terms f.body (a ∷ args)

-- the term of a defined name and its arguments
abbrev pub used : TermsValue → Definition → List ℕ → Built
used terms f args = if have_sorts terms.nodes f.parameters args then with_arguments terms f args else Err WrongSort
