-- The arrays, moves and accesses of reached terms, before any assignment; and gates and starts under one.
use Rattle.std.specs.Prelude.{◌≡◌, ◌<◌, ◌≤◌, ◌^◌, ℕ, Bool, true, List, length, map, Some, Option, option_to_list, slice_get, Contains, if◌then◌else◌}
use Rattle.smt_terms.specs.declared.sort.Sort.TheVariants as sort
use Rattle.smt_terms.specs.declared.node.Node.{Node}
use Rattle.smt_terms.specs.Terms.{sort_of}
use Rattle.smt_terms.specs.Ranks.{index_sort, is_array}
use Rattle.smt_terms.specs.Values.{Value, HasSort, is_true, number_of}
use Rattle.theory_terms.specs.declared.lemma.Move.{Move}
use Rattle.theory_terms.specs.declared.atom.Atom.{Atom}
use Rattle.theory_terms.specs.declared.atom.Atom.TheVariants.{Same, Holds as IsHolding, Fails as IsFailing}
use Rattle.theory_terms.specs.declared.atom.Landing.{Landing}
use Rattle.theory_terms.specs.declared.atom.Turn.{Turn}
use Rattle.smt_terms.specs.declared.node.Op.TheVariants.{Word}
use Rattle.smt_terms.specs.Nodes.{leaf}
use Rattle.theory_terms.specs.declared.shape.Shape.TheVariants.{Filling}
use Rattle.theory_terms.specs.declared.lemma.Start as of
use Rattle.theory_terms.specs.Shapes.{shape_at, term_of}
use Rattle.theory_terms.specs.Lemmas.{start_of, landing_of, turn_of}
use Rattle.term_reach.specs.Reach.{Reaches}
use Rattle.access_tables.specs.Ready.{IsOwn}
use Rattle.access_tables.specs.Tables.{IsSpare}
use Rattle.theory_terms.specs.Named.{mover}
use Rattle.access_spread.specs.declared.graph.Edge.{Edge}
use Rattle.access_spread.specs.declared.graph.Gate.{Gate}
use Rattle.access_spread.specs.declared.graph.Gate.TheVariants.{Open, Shut, Except}
use Rattle.access_spread.specs.declared.graph.Graph.{Graph}
use Rattle.access_spread.specs.declared.spreading.Start.{Start}
use Rattle.access_spread.specs.Spreads.{start_at}
use Rattle.access_walk.specs.declared.guard.Guard.{Guard}
use Rattle.access_walk.specs.declared.guard.Guard.TheVariants.{Differs, Holds, Fails}

abbrev pub when : Bool → Gate → Gate → Gate
when b x y = if b then x else y

-- the gate of a guard under an assignment
abbrev pub gate_of : (ℕ → Value) → Guard → Gate
gate_of val (Differs j) = Except (number_of (val j))
gate_of val (Holds c) = when (is_true (val c)) Open Shut
gate_of val (Fails c) = when (is_true (val c)) Shut Open

-- the atom that is false where an access of this index goes over
abbrev pub unless_of : ℕ → Guard → Atom
unless_of i (Differs j) = Same i j
unless_of i (Holds c) = IsFailing c
unless_of i (Fails c) = IsHolding c

-- the two terms are words of the index width of the array
pub record AreIndexes (nodes : List Node) (a i : ℕ) : Type 0 where
  pub width : ℕ
  pub array : index_sort (sort_of nodes a) ≡ sort.Word width
  pub index : sort_of nodes i ≡ sort.Word width

abbrev pub HasIndex : List Node → ℕ → Guard → Type 0
HasIndex nodes a (Differs j) = AreIndexes nodes a j
HasIndex nodes a (Holds c) = Unit {0}
HasIndex nodes a (Fails c) = Unit {0}

-- the edge and the guard stand for a move
pub record IsArc (nodes : List Node) (arrays : List ℕ) (e : Edge) (m : Move) (u : Guard) : Type 0 where
  pub from : ℕ
  pub to : ℕ
  pub is_from : slice_get arrays e.from ≡ Some from
  pub is_to : slice_get arrays e.to ≡ Some to
  pub same : sort_of nodes from ≡ sort_of nodes to
  pub index : HasIndex nodes from u
  pub turns : (i : ℕ) → turn_of nodes i from m ≡ Some (record { to = to; unless = unless_of i u })

-- the term is this word
abbrev pub IsWordOf : List Node → ℕ → ℕ → ℕ → Type 0
IsWordOf nodes n k w = (term_of nodes (leaf (Word n k)) ≡ Some w) × (sort_of nodes w ≡ sort.Word n)

-- u is t, or images lead from t to it, one after the other
abbrev pub Becomes : (ℕ → Option ℕ) → ℕ → ℕ → Type 0
Becomes image t u = Reaches (λ x. option_to_list (image x)) t u

-- a term has the value of its image
abbrev pub AreLinked : (ℕ → Option ℕ) → (ℕ → Value) → Type 0
AreLinked image val = (t u : ℕ) → image t ≡ Some u → val t ≡ val u

-- each index of this width that a select or a store among the terms has becomes one of these
abbrev pub AreAllIndexes : List Node → (ℕ → Option ℕ) → (ℕ → Type 0) → ℕ → List ℕ → Type 0
AreAllIndexes nodes image Here n indexes = (t : ℕ) (l : Landing) → IsOwn Here image t → start_of t (shape_at nodes t) ≡ Some l → sort_of nodes l.index ≡ sort.Word n
    → (i : ℕ) × Contains indexes i × Becomes image l.index i

-- the array starts with this element at the words from 0 up to the number of the indexes of the width, or up to its last word
pub record HasFirstWords (nodes : List Node) (image : ℕ → Option ℕ) (Here : ℕ → Type 0) (landings : List Landing) (t x n : ℕ) : Type 0 where
  pub indexes : List ℕ
  pub among : AreAllIndexes nodes image Here n indexes
  pub words : (k : ℕ) → k < 2 ^ n → k ≤ length indexes → (s : ℕ) × (l : Landing) × (slice_get landings s ≡ Some l) × (l.array ≡ t) × (l.value ≡ x) × IsWordOf nodes n k l.index

-- Of the terms, all starts and all moves are there, whatever the assignment is; arrays have one number each; edge j has gate j.
-- A constant array starts with each index that some start has, and with the first words of its index width.
pub record IsMap (nodes : List Node) (image : ℕ → Option ℕ) (Here : ℕ → Type 0) (arrays : List ℕ) (moves : List Move) (guards : List Guard) (origins : List of.Start) (landings : List Landing) (g : Graph) : Type 0 where
  pub numbers : (a b t : ℕ) → slice_get arrays a ≡ Some t → slice_get arrays b ≡ Some t → a ≡ b
  pub landed : (s : ℕ) (l : Landing) → slice_get landings s ≡ Some l → (o : of.Start) × (slice_get origins s ≡ Some o) × (landing_of nodes o ≡ Some l) × AreIndexes nodes l.array l.index
  pub started : (t : ℕ) (l : Landing) → IsOwn Here image t → start_of t (shape_at nodes t) ≡ Some l → (s : ℕ) × (slice_get landings s ≡ Some l)
  pub everywhere : (t x n s : ℕ) (l : Landing) → IsOwn Here image t → shape_at nodes t ≡ Filling x → index_sort (sort_of nodes t) ≡ sort.Word n → slice_get landings s ≡ Some l → sort_of nodes l.index ≡ sort.Word n
      → (r : ℕ) × (k : Landing) × (slice_get landings r ≡ Some k) × (k.array ≡ t) × (k.value ≡ x) × (k.index ≡ l.index)
  pub words : (t x n m : ℕ) → IsOwn Here image t → shape_at nodes t ≡ Filling x → sort_of nodes t ≡ sort.Array n m → HasFirstWords nodes image Here landings t x n
  pub arcs : (j : ℕ) (e : Edge) → slice_get g.edges.items j ≡ Some e → (m : Move) × (u : Guard) × (slice_get moves j ≡ Some m) × (slice_get guards j ≡ Some u) × (e.gate ≡ j) × IsArc nodes arrays e m u
  pub moved : (here i a : ℕ) (m : Move) (w : Turn) → slice_get arrays here ≡ Some a → is_array (sort_of nodes a) ≡ true → IsOwn Here image (mover m) → turn_of nodes i a m ≡ Some w
      → (j : ℕ) × (e : Edge) × (slice_get g.edges.items j ≡ Some e) × (e.from ≡ here) × (slice_get moves j ≡ Some m)

-- Gates and starts are those of an assignment, which gives words of their sorts, terms the values of their images, and the spare index
-- its number where a word is made for it.
pub record IsValued (nodes : List Node) (image : ℕ → Option ℕ) (Here : ℕ → Type 0) (val : ℕ → Value) (arrays : List ℕ) (guards : List Guard) (landings : List Landing) (gates : List Gate) (starts : List Start) : Type 0 where
  pub linked : AreLinked image val
  pub indexes : (s n : ℕ) (l : Landing) → slice_get landings s ≡ Some l → sort_of nodes l.index ≡ sort.Word n → HasSort (sort.Word n) (val l.index)
  pub guarded : (j i n : ℕ) → slice_get guards j ≡ Some (Differs i) → sort_of nodes i ≡ sort.Word n → HasSort (sort.Word n) (val i)
  pub words : (t x n m k w : ℕ) → IsOwn Here image t → shape_at nodes t ≡ Filling x → sort_of nodes t ≡ sort.Array n m → IsSpare nodes Here image val n k
      → IsWordOf nodes n k w → number_of (val w) ≡ k
  pub gates_are : gates ≡ map (gate_of val) guards
  pub count : length landings ≡ length starts
  pub starts_are : (s : ℕ) (l : Landing) → slice_get landings s ≡ Some l
      → (slice_get arrays (start_at starts s).array ≡ Some l.array) × ((start_at starts s).index ≡ number_of (val l.index)) × ((start_at starts s).value ≡ number_of (val l.value))
