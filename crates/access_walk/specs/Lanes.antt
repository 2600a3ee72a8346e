-- Which accesses take which moves while clashes are looked for.
use Rattle.std.specs.Prelude.{◌≡◌, ◌<◌, ◌==◌, ◌||◌, ℕ, Bool, false, List, length, Some, slice_get, slice_index_or, if◌then◌else◌}
use Rattle.theory_terms.specs.declared.lemma.Move.{Move}
use Rattle.theory_terms.specs.declared.lemma.Move.TheVariants.{Store, Then, Else, Sides}
use Rattle.access_spread.specs.declared.graph.Edge.{Edge}
use Rattle.access_spread.specs.declared.lane.Lane.{Lane}
use Rattle.access_spread.specs.declared.lane.Lane.TheVariants.{Open, Wide, Shut}
use Rattle.access_walk.specs.declared.network.Network.{Network}

-- from a store or a choice to what it is of
abbrev pub is_down : ℕ → Move → Bool
is_down array (Store t) = array == t
is_down array (Then t) = array == t
is_down array (Else t) = array == t
is_down array (Sides t) = false

-- up over a store go accesses of stores, up over a choice none; but where this leads under a true equality, all
abbrev pub lane_up : Move → Lane
lane_up (Store t) = Wide
lane_up (Then t) = Shut
lane_up (Else t) = Shut
lane_up (Sides t) = Open

abbrev pub lane_of : ℕ → Move → Bool → Lane
lane_of array by under = if under || is_down array by then Open else lane_up by

-- places of arrays, of which so many can be marked
abbrev pub AreMarks : List Bool → List ℕ → Type 0
AreMarks under marked = (k a : ℕ) → slice_get marked k ≡ Some a → a < length under

-- each edge has the lane of its move, by whether it leads to an array that is marked
abbrev pub AreLanes : List ℕ → Network → List Bool → List Lane → Type 0
AreLanes arrays n under lanes =
    (j : ℕ) (e : Edge) (m : Move) → slice_get n.graph.edges.items j ≡ Some e → slice_get n.moves.items j ≡ Some m → slice_get lanes j ≡ Some (lane_of (slice_index_or arrays e.from 0) m (slice_index_or under e.to false))
