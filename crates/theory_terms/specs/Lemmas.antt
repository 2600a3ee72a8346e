-- Accesses, moves and lemmas, and of which atoms a lemma consists.
use Rattle.std.specs.Prelude.{ℕ, ◌==◌, Bool, true, false, not, ◌||◌, ◌&&◌, if◌then◌else◌, nat_lt, List, [], ◌∷◌, ◌++◌, length, Option, Some, None}
use Rattle.smt_terms.specs.declared.operator.Operator.TheVariants as plain
use Rattle.smt_terms.specs.declared.node.Op.TheVariants.{Plain}
use Rattle.smt_terms.specs.declared.node.Node.{Node}
use Rattle.smt_terms.specs.Nodes.{node_of, node_at}
use Rattle.smt_terms.specs.Same.{same_op, same_sort}
use Rattle.smt_terms.specs.Ranks.{index_sort}
use Rattle.smt_terms.specs.Terms.{sort_of}
use Rattle.smt_terms.specs.Values.{Value, same_value, is_true}
use Rattle.theory_terms.specs.declared.shape.Shape.{Shape}
use Rattle.theory_terms.specs.declared.shape.Shape.TheVariants.{Selecting, Storing, Filling, Choosing, Equating, Applying}
use Rattle.theory_terms.specs.declared.lemma.Move.{Move}
use Rattle.theory_terms.specs.declared.lemma.Move.TheVariants as by
use Rattle.theory_terms.specs.declared.lemma.Start.{Start}
use Rattle.theory_terms.specs.declared.lemma.Start.TheVariants.{Term, Const}
use Rattle.theory_terms.specs.declared.lemma.Access.{Access}
use Rattle.theory_terms.specs.declared.lemma.Lemma.{Lemma}
use Rattle.theory_terms.specs.declared.lemma.Lemma.TheVariants as lemma
use Rattle.theory_terms.specs.declared.atom.Atom.{Atom}
use Rattle.theory_terms.specs.declared.atom.Atom.TheVariants.{Same, Differ, Holds, Fails}
use Rattle.theory_terms.specs.declared.atom.Landing.{Landing}
use Rattle.theory_terms.specs.declared.atom.Turn.{Turn}
use Rattle.theory_terms.specs.declared.atom.Watch.{Watch}
use Rattle.theory_terms.specs.Shapes.{shape_at, term_of}

-- ---- atoms

-- an atom is true where terms have these values
abbrev pub atom_true : (ℕ → Value) → Atom → Bool
atom_true v (Same t u) = same_value (v t) (v u)
atom_true v (Differ t u) = not (same_value (v t) (v u))
atom_true v (Holds t) = is_true (v t)
atom_true v (Fails t) = not (is_true (v t))

-- some atom is true
abbrev pub some_true : (ℕ → Value) → List Atom → Bool
some_true v [] = false
some_true v (a ∷ atoms) = atom_true v a || some_true v atoms

-- ---- where accesses start

-- a select is an access of its array, a store one of itself
abbrev pub start_of : ℕ → Shape → Option Landing
start_of t (Selecting a i) = Some (record { array = a; index = i; value = t })
start_of t (Storing b j v) = Some (record { array = t; index = j; value = v })
start_of t _ = None

-- a held term may be an index of a held array
abbrev pub is_index : List Node → ℕ → ℕ → Bool
is_index nodes a j = nat_lt a (length nodes) && nat_lt j (length nodes) && same_sort (index_sort (sort_of nodes a)) (sort_of nodes j)

-- a constant array is an access of itself with each index
abbrev pub constant_start : List Node → ℕ → ℕ → Shape → Option Landing
constant_start nodes k j (Filling x) = if is_index nodes k j then Some (record { array = k; index = j; value = x }) else None
constant_start nodes k j _ = None

abbrev pub landing_of : List Node → Start → Option Landing
landing_of nodes (Term t) = start_of t (shape_at nodes t)
landing_of nodes (Const k j) = constant_start nodes k j (shape_at nodes k)

-- ---- moves

-- between two arrays, from the side where the path stands
abbrev pub between : ℕ → ℕ → ℕ → Atom → Option Turn
between here a b atom =
    if here == a then Some (record { to = b; unless = atom }) else if here == b then Some (record { to = a; unless = atom }) else None

abbrev pub store_turn : ℕ → ℕ → ℕ → Shape → Option Turn
store_turn here i t (Storing b j v) = between here t b (Same i j)
store_turn here i t _ = None

abbrev pub then_turn : ℕ → ℕ → Shape → Option Turn
then_turn here t (Choosing c a b) = between here t a (Fails c)
then_turn here t _ = None

abbrev pub else_turn : ℕ → ℕ → Shape → Option Turn
else_turn here t (Choosing c a b) = between here t b (Holds c)
else_turn here t _ = None

abbrev pub sides_turn : ℕ → ℕ → Shape → Option Turn
sides_turn here t (Equating a b) = between here a b (Fails t)
sides_turn here t _ = None

-- a move of an access with this index from this array
abbrev pub turn_of : List Node → ℕ → ℕ → Move → Option Turn
turn_of nodes i here (by.Store t) = store_turn here i t (shape_at nodes t)
turn_of nodes i here (by.Then t) = then_turn here t (shape_at nodes t)
turn_of nodes i here (by.Else t) = else_turn here t (shape_at nodes t)
turn_of nodes i here (by.Sides t) = sides_turn here t (shape_at nodes t)

-- where a path has come to, and the atoms of its moves
pub record Trip : Type 0 where
  pub to : ℕ
  pub unless : List Atom

abbrev pub longer : Atom → Option Trip → Option Trip
longer a None = None
longer a (Some r) = Some (record { to = r.to; unless = a ∷ r.unless })

abbrev pub then_trip : Option Turn → (ℕ → Option Trip) → Option Trip
then_trip None f = None
then_trip (Some w) f = longer w.unless (f w.to)

abbrev pub trip_of : List Node → ℕ → ℕ → List Move → Option Trip
trip_of nodes i here [] = Some (record { to = here; unless = [] })
trip_of nodes i here (m ∷ ms) = then_trip (turn_of nodes i here m) (λ to. trip_of nodes i to ms)

-- an access at the end of its path, and the atoms of its moves
pub record Arrival : Type 0 where
  pub landing : Landing
  pub unless : List Atom

abbrev pub arrive : Landing → Option Trip → Option Arrival
arrive l None = None
arrive l (Some r) = Some (record { landing = record l { array = r.to }; unless = r.unless })

abbrev pub from_landing : List Node → Option Landing → List Move → Option Arrival
from_landing nodes None moves = None
from_landing nodes (Some l) moves = arrive l (trip_of nodes l.index l.array moves)

-- where an access arrives, if its start and its moves fit
abbrev pub arrival_of : List Node → Access → Option Arrival
arrival_of nodes a = from_landing nodes (landing_of nodes a.start) a.path

-- ---- lemmas

-- two accesses of one array
abbrev pub arrays_atoms : Option Arrival → Option Arrival → Option (List Atom)
arrays_atoms None q = None
arrays_atoms (Some p) None = None
arrays_atoms (Some p) (Some q) =
    if p.landing.array == q.landing.array
    then Some (p.unless ++ q.unless ++ Differ p.landing.index q.landing.index ∷ Same p.landing.value q.landing.value ∷ [])
    else None

abbrev pub put_front : Atom → Option (List Atom) → Option (List Atom)
put_front a None = None
put_front a (Some atoms) = Some (a ∷ atoms)

-- an atom for each pair of arguments, and what follows
abbrev pub pairs_atoms : List ℕ → List ℕ → List Atom → Option (List Atom)
pairs_atoms [] [] last = Some last
pairs_atoms [] (b ∷ bs) last = None
pairs_atoms (a ∷ args) [] last = None
pairs_atoms (a ∷ args) (b ∷ bs) last = put_front (Differ a b) (pairs_atoms args bs last)

abbrev pub is_applying : Shape → Bool
is_applying (Applying d) = true
is_applying _ = false

-- two applications of one declaration
abbrev pub congruence_atoms : List Node → ℕ → ℕ → Option (List Atom)
congruence_atoms nodes t u =
    if is_applying (shape_at nodes t) && same_op (node_at nodes t).op (node_at nodes u).op
    then pairs_atoms (node_at nodes t).args (node_at nodes u).args (Same t u ∷ [])
    else None

abbrev pub witness_node : ℕ → ℕ → Node
witness_node a b = node_of (Plain plain.Witness) (a ∷ b ∷ [])

abbrev pub select_node : ℕ → ℕ → Node
select_node a i = node_of (Plain plain.Select) (a ∷ i ∷ [])

abbrev pub watch_of : ℕ → Option ℕ → Option ℕ → Option Watch
watch_of w None r = None
watch_of w (Some l) None = None
watch_of w (Some l) (Some r) = Some (record { witness = w; left = l; right = r })

abbrev pub watch_at : List Node → ℕ → ℕ → Option ℕ → Option Watch
watch_at nodes a b None = None
watch_at nodes a b (Some w) = watch_of w (term_of nodes (select_node a w)) (term_of nodes (select_node b w))

-- the witness of two arrays and their selects there, if the three terms are held
abbrev pub watch : List Node → ℕ → ℕ → Option Watch
watch nodes a b = watch_at nodes a b (term_of nodes (witness_node a b))

abbrev pub watch_atoms : ℕ → Option Watch → Option (List Atom)
watch_atoms t None = None
watch_atoms t (Some w) = Some (Holds t ∷ Differ w.left w.right ∷ [])

abbrev pub witness_atoms : List Node → ℕ → Shape → Option (List Atom)
witness_atoms nodes t (Equating a b) = watch_atoms t (watch nodes a b)
witness_atoms nodes t _ = None

-- the atoms of a lemma, if its terms and paths are those of one
abbrev pub atoms_of : List Node → Lemma → Option (List Atom)
atoms_of nodes (lemma.Congruence t u) = congruence_atoms nodes t u
atoms_of nodes (lemma.Arrays a b) = arrays_atoms (arrival_of nodes a) (arrival_of nodes b)
atoms_of nodes (lemma.Witness t) = witness_atoms nodes t (shape_at nodes t)
