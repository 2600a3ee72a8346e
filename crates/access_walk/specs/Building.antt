-- Networks that grow.
use Rattle.std.specs.Prelude.{◌≡◌, ℕ, true, List, length, Some, Contains, slice_get}
use Rattle.smt_terms.specs.declared.node.Node.{Node}
use Rattle.smt_terms.specs.Ranks.{is_array}
use Rattle.smt_terms.specs.Terms.{sort_of}
use Rattle.theory_terms.specs.declared.lemma.Move.{Move}
use Rattle.theory_terms.specs.declared.lemma.Start as of
use Rattle.theory_terms.specs.declared.lemma.Start.TheVariants.{Term, Const}
use Rattle.smt_terms.specs.Nodes.{node_at}
use Rattle.theory_terms.specs.declared.atom.Landing.{Landing}
use Rattle.theory_terms.specs.declared.atom.Turn.{Turn}
use Rattle.theory_terms.specs.Lemmas.{landing_of, between, turn_of, start_of}
use Rattle.theory_terms.specs.Named.{mover}
use Rattle.theory_terms.specs.Shapes.{shape_at}
use Rattle.access_spread.specs.declared.graph.Edge.{Edge}
use Rattle.access_spread.specs.Graphs.{IsGraph}
use Rattle.access_walk.specs.declared.guard.Guard.{Guard}
use Rattle.access_walk.specs.declared.network.Network.{Network}
use Rattle.access_walk.specs.Maps.{unless_of, AreIndexes, HasIndex, IsArc}

-- the term and its arguments are among these
abbrev pub IsWhole : List Node → List ℕ → ℕ → Type 0
IsWhole nodes arrays t = Contains arrays t × ((u : ℕ) → Contains (node_at nodes t).args u → Contains arrays u)

-- edges, moves and guards belong together, and so do origins and accesses; each move that is there goes both ways
pub record IsSound (nodes : List Node) (arrays : List ℕ) (n : Network) : Type 0 where
  pub graph : IsGraph n.graph
  pub count : length n.graph.fans.items ≡ length arrays
  pub moves : length n.moves.items ≡ length n.graph.edges.items
  pub guards : length n.guards.items ≡ length n.graph.edges.items
  pub origins : length n.origins.items ≡ length n.landings.items
  pub landed : (s : ℕ) (l : Landing) → slice_get n.landings.items s ≡ Some l → (o : of.Start) × (slice_get n.origins.items s ≡ Some o) × (landing_of nodes o ≡ Some l) × AreIndexes nodes l.array l.index
  pub arcs : (j : ℕ) (e : Edge) → slice_get n.graph.edges.items j ≡ Some e → (m : Move) × (u : Guard) × (slice_get n.moves.items j ≡ Some m) × (slice_get n.guards.items j ≡ Some u) × (e.gate ≡ j) × IsArc nodes arrays e m u
  pub moved : (here i a : ℕ) (m : Move) (w : Turn) → Contains n.moves.items m → slice_get arrays here ≡ Some a → turn_of nodes i a m ≡ Some w
      → (j : ℕ) × (e : Edge) × (slice_get n.graph.edges.items j ≡ Some e) × (e.from ≡ here) × (slice_get n.moves.items j ≡ Some m)
  pub made : (m : Move) → Contains n.moves.items m → IsWhole nodes arrays (mover m)

-- a select or a store that is whole, and no constant array
abbrev pub BeginsWhole : List Node → List ℕ → of.Start → Type 0
BeginsWhole nodes arrays (Term t) = IsWhole nodes arrays t
BeginsWhole nodes arrays (Const k j) = ⊥

-- the network is sound, and accesses begin at selects and stores alone
pub record IsEntered (nodes : List Node) (arrays : List ℕ) (n : Network) : Type 0 where
  pub sound : IsSound nodes arrays n
  pub began : (s : ℕ) (o : of.Start) → slice_get n.origins.items s ≡ Some o → BeginsWhole nodes arrays o

-- the move is between the terms at two places, where its guard lets accesses pass
pub record IsMoveOf (nodes : List Node) (arrays : List ℕ) (a b : ℕ) (m : Move) (u : Guard) : Type 0 where
  pub from : ℕ
  pub to : ℕ
  pub is_from : slice_get arrays a ≡ Some from
  pub is_to : slice_get arrays b ≡ Some to
  pub same : sort_of nodes from ≡ sort_of nodes to
  pub index : HasIndex nodes from u
  pub turns : (i here : ℕ) → turn_of nodes i here m ≡ between here from to (unless_of i u)

-- what was there is there
pub record Grows (old new : Network) : Type 0 where
  pub moves : (m : Move) → Contains old.moves.items m → Contains new.moves.items m
  pub landings : (l : Landing) → Contains old.landings.items l → Contains new.landings.items l

-- the access that the term begins is there, and the moves from arrays that name it
pub record HasTerm (nodes : List Node) (n : Network) (t : ℕ) : Type 0 where
  pub start : (l : Landing) → start_of t (shape_at nodes t) ≡ Some l → Contains n.landings.items l
  pub moves : (i a : ℕ) (m : Move) (w : Turn) → mover m ≡ t → is_array (sort_of nodes a) ≡ true → turn_of nodes i a m ≡ Some w → Contains n.moves.items m
