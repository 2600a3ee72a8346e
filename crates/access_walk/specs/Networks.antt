-- Edges between arrays under numbers, which stand for the moves of accesses, and starts which stand for accesses.
use Rattle.std.specs.Prelude.{◌≡◌, ℕ, true, false, List, length, map, Option, Some, slice_get, slice_index_or}
use Rattle.smt_terms.specs.declared.sort.Sort.TheVariants as sort
use Rattle.smt_terms.specs.declared.node.Node.{Node}
use Rattle.smt_terms.specs.Terms.{sort_of}
use Rattle.smt_terms.specs.Ranks.{index_sort}
use Rattle.smt_terms.specs.Values.{Value, HasSort, is_true, number_of}
use Rattle.theory_terms.specs.declared.shape.Shape.TheVariants.{Filling, Equating, Applying}
use Rattle.theory_terms.specs.declared.lemma.Move.{Move}
use Rattle.theory_terms.specs.declared.lemma.Move.TheVariants.{Store as ByStore}
use Rattle.theory_terms.specs.declared.lemma.Start as of
use Rattle.theory_terms.specs.declared.lemma.Access.{Access}
use Rattle.theory_terms.specs.Shapes.{shape_at}
use Rattle.theory_terms.specs.declared.atom.Landing.{Landing}
use Rattle.theory_terms.specs.declared.atom.Turn.{Turn}
use Rattle.theory_terms.specs.Lemmas.{atom_true, start_of, landing_of, turn_of, watch}
use Rattle.theory_terms.specs.declared.atom.Watch.{Watch}
use Rattle.smt_terms.specs.Nodes.{node_at}
use Rattle.access_tables.specs.Tables.{IsAsked}
use Rattle.access_tables.specs.Ready.{IsOwn}
use Rattle.theory_terms.specs.Named.{mover}
use Rattle.access_spread.specs.declared.graph.Edge.{Edge}
use Rattle.access_spread.specs.declared.graph.Gate.{Gate}
use Rattle.access_spread.specs.declared.graph.Graph.{Graph}
use Rattle.access_spread.specs.declared.spreading.Start.{Start}
use Rattle.access_spread.specs.declared.spreading.Row.{Row}
use Rattle.access_spread.specs.Graphs.{passes, gate_at}
use Rattle.access_spread.specs.Spreads.{start_at}

-- the term is a word of the index width of the array
pub record IsIndexOf (nodes : List Node) (val : ℕ → Value) (i a : ℕ) : Type 0 where
  pub width : ℕ
  pub array : index_sort (sort_of nodes a) ≡ sort.Word width
  pub word : sort_of nodes i ≡ sort.Word width
  pub index : HasSort (sort.Word width) (val i)

-- the start stands for an access, and for how it begins
pub record IsStartOf (nodes : List Node) (val : ℕ → Value) (arrays : List ℕ) (s : Start) (o : of.Start) (l : Landing) : Type 0 where
  pub starts : landing_of nodes o ≡ Some l
  pub array : slice_get arrays s.array ≡ Some l.array
  pub index : s.index ≡ number_of (val l.index)
  pub value : s.value ≡ number_of (val l.value)
  pub sort : IsIndexOf nodes val l.index l.array

-- the edge stands for a move: where its gate lets an index pass, the move's atom is false
pub record IsEdgeOf (nodes : List Node) (val : ℕ → Value) (arrays : List ℕ) (gates : List Gate) (e : Edge) (m : Move) : Type 0 where
  pub from : ℕ
  pub to : ℕ
  pub is_from : slice_get arrays e.from ≡ Some from
  pub is_to : slice_get arrays e.to ≡ Some to
  pub same : sort_of nodes from ≡ sort_of nodes to
  pub turns : (i : ℕ) → (w : Turn) × (turn_of nodes i from m ≡ Some w) × (w.to ≡ to) × (passes (gate_at gates e.gate) (number_of (val i)) ≡ true → atom_true val w.unless ≡ false)

-- Of the terms, all starts and all moves are there; arrays have one number each.
pub record IsNetwork (nodes : List Node) (image : ℕ → Option ℕ) (Here : ℕ → Type 0) (val : ℕ → Value) (arrays : List ℕ) (moves : List Move) (origins : List of.Start) (landings : List Landing) (g : Graph) (gates : List Gate) (starts : List Start) : Type 0 where
  pub numbers : (a b t : ℕ) → slice_get arrays a ≡ Some t → slice_get arrays b ≡ Some t → a ≡ b
  pub count : length landings ≡ length starts
  pub landed : (s : ℕ) (l : Landing) → slice_get landings s ≡ Some l → (o : of.Start) × (slice_get origins s ≡ Some o) × IsStartOf nodes val arrays (start_at starts s) o l
  pub started : (t : ℕ) (l : Landing) → IsOwn Here image t → start_of t (shape_at nodes t) ≡ Some l → (s : ℕ) × (slice_get landings s ≡ Some l)
  pub filled : (t x n m k : ℕ) → IsOwn Here image t → shape_at nodes t ≡ Filling x → sort_of nodes t ≡ sort.Array n m → IsAsked nodes Here image val n k
      → (s : ℕ) × (l : Landing) × (slice_get landings s ≡ Some l) × (l.array ≡ t) × (l.value ≡ x) × (number_of (val l.index) ≡ k)
  pub everywhere : (t x n s : ℕ) (l : Landing) → IsOwn Here image t → shape_at nodes t ≡ Filling x → index_sort (sort_of nodes t) ≡ sort.Word n → slice_get landings s ≡ Some l → sort_of nodes l.index ≡ sort.Word n
      → (r : ℕ) × (k : Landing) × (slice_get landings r ≡ Some k) × (k.array ≡ t) × (k.value ≡ x) × (k.index ≡ l.index)
  pub edges : (j : ℕ) (e : Edge) → slice_get g.edges.items j ≡ Some e → (m : Move) × (slice_get moves j ≡ Some m) × IsEdgeOf nodes val arrays gates e m
  pub moved : (here i a : ℕ) (m : Move) (w : Turn) → slice_get arrays here ≡ Some a → IsIndexOf nodes val i a → IsOwn Here image (mover m)
      → turn_of nodes i a m ≡ Some w → atom_true val w.unless ≡ false
      → (j : ℕ) × (e : Edge) × (slice_get g.edges.items j ≡ Some e) × (e.from ≡ here) × (slice_get arrays e.to ≡ Some w.to) × (passes (gate_at gates e.gate) (number_of (val i)) ≡ true) × (slice_get moves j ≡ Some m)

-- arrays that are said to differ have different words at their witness
abbrev pub AreApart : List Node → (ℕ → Option ℕ) → (ℕ → Type 0) → (ℕ → Value) → Type 0
AreApart nodes image Here val =
    (t a b n m : ℕ) → IsOwn Here image t → shape_at nodes t ≡ Equating a b → sort_of nodes a ≡ sort.Array n m → is_true (val t) ≡ false
    → (w : Watch) × (watch nodes a b ≡ Some w) × (val w.left ≡ val w.right → ⊥)

-- applications of one declaration to equal arguments have equal values
abbrev pub AreCongruent : List Node → (ℕ → Option ℕ) → (ℕ → Type 0) → (ℕ → Value) → Type 0
AreCongruent nodes image Here val =
    (t u d : ℕ) → IsOwn Here image t → IsOwn Here image u → shape_at nodes t ≡ Applying d → shape_at nodes u ≡ Applying d
    → map val (node_at nodes t).args ≡ map val (node_at nodes u).args → val t ≡ val u

abbrev pub no_landing : Landing
no_landing = record { array = 0; index = 0; value = 0 }

abbrev pub landing_at : List Landing → ℕ → Landing
landing_at landings s = slice_index_or landings s no_landing

-- the access of a row
abbrev pub landing_of_row : List ℕ → List Landing → Row → Landing
landing_of_row arrays landings r = record { array = slice_index_or arrays r.array 0; index = (landing_at landings r.start).index; value = (landing_at landings r.start).value }

abbrev pub landings_of : List ℕ → List Landing → List Row → List Landing
landings_of arrays landings rows = map (landing_of_row arrays landings) rows

abbrev pub no_move : Move
no_move = ByStore 0

abbrev pub moves_at : List Move → List ℕ → List Move
moves_at moves js = map (λ j. slice_index_or moves j no_move) js

-- the access starts where the row does, and goes by the moves of these edges
pub record IsAccessOf (nodes : List Node) (moves : List Move) (landings : List Landing) (r : Row) (js : List ℕ) (a : Access) : Type 0 where
  pub starts : landing_of nodes a.start ≡ Some (landing_at landings r.start)
  pub path : a.path ≡ moves_at moves js
