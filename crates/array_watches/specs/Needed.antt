-- The terms that a check makes before all else: the witness of each reached equality of arrays, the selects of its sides there,
-- and, where a constant array is reached, the first words of its index width.
use Rattle.std.specs.Prelude.{ℕ, zero, suc, ◌==◌, ◌^◌, nat_lt, Bool, false, List, [], ◌∷◌, ◌++◌, length, Option, Some, None, if◌then◌else◌}
use Rattle.std.specs.List.{filter, filter_map}
use Rattle.std.specs.Set.{distinct_count}
use Rattle.smt_terms.specs.declared.sort.Sort.{Sort}
use Rattle.smt_terms.specs.declared.sort.Sort.TheVariants as sort
use Rattle.smt_terms.specs.declared.node.Op.TheVariants.{Word}
use Rattle.smt_terms.specs.declared.node.Node.{Node}
use Rattle.smt_terms.specs.Nodes.{leaf}
use Rattle.smt_terms.specs.Same.{same_sort}
use Rattle.smt_terms.specs.Ranks.{is_array}
use Rattle.smt_terms.specs.Terms.{sort_of}
use Rattle.theory_terms.specs.declared.shape.Shape.{Shape}
use Rattle.theory_terms.specs.declared.shape.Shape.TheVariants.{Selecting, Storing, Filling, Equating}
use Rattle.theory_terms.specs.Shapes.{shape_at, term_of}
use Rattle.theory_terms.specs.Lemmas.{witness_node, select_node}
use Rattle.array_watches.specs.Reaching.{is_among, reached}

-- ---- a node more

abbrev pub or_next : ℕ → Option ℕ → ℕ
or_next n None = n
or_next n (Some t) = t

-- the number of a node: its own, or else the next
abbrev pub number_in : List Node → Node → ℕ
number_in nodes n = or_next (length nodes) (term_of nodes n)

abbrev pub with_new : List Node → Node → Option ℕ → List Node
with_new nodes n None = nodes ++ n ∷ []
with_new nodes n (Some t) = nodes

-- the terms with this node, which comes last where it is new
abbrev pub with_node : List Node → Node → List Node
with_node nodes n = with_new nodes n (term_of nodes n)

-- ---- watches

-- the term is an equality of arrays
abbrev pub equates_arrays : (ℕ → Sort) → Shape → Bool
equates_arrays s (Equating a b) = is_array (s a)
equates_arrays s _ = false

abbrev pub is_array_equality : List Node → ℕ → Bool
is_array_equality nodes t = equates_arrays (sort_of nodes) (shape_at nodes t)

-- the reached equalities of arrays, the lowest first
abbrev pub equalities : List Node → List ℕ → List ℕ
equalities nodes roots = filter (is_array_equality nodes) (reached nodes roots)

-- the terms with the selects of two arrays at an index
abbrev pub with_selects : List Node → ℕ → ℕ → ℕ → List Node
with_selects nodes a b i = with_node (with_node nodes (select_node a i)) (select_node b i)

-- the terms with the witness of two arrays, and then their selects there
abbrev pub with_watch : List Node → ℕ → ℕ → List Node
with_watch nodes a b = with_selects (with_node nodes (witness_node a b)) a b (number_in nodes (witness_node a b))

abbrev pub with_watch_by : List Node → Shape → List Node
with_watch_by nodes (Equating a b) = with_watch nodes a b
with_watch_by nodes _ = nodes

-- the terms with those of each of these equalities, one after the other
abbrev pub with_watches : List Node → List ℕ → List Node
with_watches nodes [] = nodes
with_watches nodes (t ∷ ts) = with_watches (with_watch_by nodes (shape_at nodes t)) ts

-- ---- index words

-- the index of a select or a store, and the witness of an equality of arrays
abbrev pub index_by : List Node → Shape → Option ℕ
index_by nodes (Selecting a i) = Some i
index_by nodes (Storing b j v) = Some j
index_by nodes (Equating a b) = term_of nodes (witness_node a b)
index_by nodes _ = None

abbrev pub index_at : List Node → ℕ → Option ℕ
index_at nodes t = index_by nodes (shape_at nodes t)

abbrev pub has_width : List Node → ℕ → ℕ → Bool
has_width nodes n i = same_sort (sort.Word n) (sort_of nodes i)

-- how many different indexes of this width these terms have
abbrev pub index_count : List Node → List ℕ → ℕ → ℕ
index_count nodes terms n = distinct_count (λ x y. x == y) (filter (has_width nodes n) (filter_map (index_at nodes) terms))

abbrev pub filled_by : Shape → Sort → Option ℕ
filled_by (Filling x) (sort.Array n m) = Some n
filled_by _ s = None

-- the index width of a constant array
abbrev pub filled_at : List Node → ℕ → Option ℕ
filled_at nodes t = filled_by (shape_at nodes t) (sort_of nodes t)

-- one of these terms is a constant array of this index width
abbrev pub is_filled : List Node → List ℕ → ℕ → Bool
is_filled nodes terms n = is_among (filter_map (filled_at nodes) terms) n

-- the terms with a number as word of a width, where the width has it
abbrev pub with_word : List Node → ℕ → ℕ → List Node
with_word nodes n x = if nat_lt x (2 ^ n) then with_node nodes (leaf (Word n x)) else nodes

-- the terms with the words of a width from 0 on, so many
abbrev pub with_words : List Node → ℕ → ℕ → List Node
with_words nodes n zero = nodes
with_words nodes n (suc x) = with_word (with_words nodes n x) n x

-- Over made terms, with the index words of the widths up to a number, the lowest width first: where one of these terms is a
-- constant array of the width, the words from 0 up to the number of the indexes of the width, or up to its last word.
abbrev pub with_index_words : List Node → List ℕ → ℕ → List Node
with_index_words made terms zero = made
with_index_words made terms (suc n) =
    if is_filled made terms (suc n) then with_words (with_index_words made terms n) (suc n) (suc (index_count made terms (suc n))) else with_index_words made terms n

-- ---- all of them

-- the terms, with all that a check makes before all else of what these terms reach
unfoldable pub watched : List Node → List ℕ → List Node
watched nodes roots = with_index_words (with_watches nodes (equalities nodes roots)) (reached nodes roots) 128
