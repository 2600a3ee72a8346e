-- Edges between arrays, and what passes their gates.
use Rattle.std.specs.Prelude.{◌≡◌, ◌<◌, ◌==◌, ℕ, Bool, true, false, not, List, [], ◌∷◌, length, Some, slice_get, slice_index_or}
use Rattle.access_spread.specs.declared.graph.Edge.{Edge}
use Rattle.access_spread.specs.declared.graph.Gate.{Gate}
use Rattle.access_spread.specs.declared.graph.Gate.TheVariants as gate
use Rattle.access_spread.specs.declared.graph.Graph.{Graph}
use Rattle.access_spread.specs.declared.lane.Lane.{Lane}
use Rattle.access_spread.specs.declared.lane.Lane.TheVariants as lane

-- an access of this index passes
abbrev pub passes : Gate → ℕ → Bool
passes gate.Open k = true
passes gate.Shut k = false
passes (gate.Except j) k = not (k == j)

abbrev pub gate_at : List Gate → ℕ → Gate
gate_at gates n = slice_index_or gates n gate.Open

-- an access takes an edge of this lane, if it is wide or is not
abbrev pub lane_takes : Lane → Bool → Bool
lane_takes lane.Open wide = true
lane_takes lane.Wide wide = wide
lane_takes lane.Shut wide = false

-- an access takes an edge, by the lanes of the edges; one that has none is taken by all
abbrev pub takes : List Lane → ℕ → Bool → Bool
takes lanes j wide = lane_takes (slice_index_or lanes j lane.Open) wide

-- edges are between the arrays, and the fan of each array has the places of its edges and no others
pub record IsGraph (g : Graph) : Type 0 where
  pub within : (j : ℕ) (e : Edge) → slice_get g.edges.items j ≡ Some e → (e.from < length g.fans.items) × (e.to < length g.fans.items)
  pub all : (j : ℕ) (e : Edge) (f : List ℕ) → slice_get g.edges.items j ≡ Some e → slice_get g.fans.items e.from ≡ Some f → (i : ℕ) × (slice_get f i ≡ Some j)
  pub only : (a i j : ℕ) (f : List ℕ) → slice_get g.fans.items a ≡ Some f → slice_get f i ≡ Some j → (e : Edge) × (slice_get g.edges.items j ≡ Some e) × (e.from ≡ a)

-- each edge has a gate
abbrev pub AreGated : Graph → List Gate → Type 0
AreGated g gates = (j : ℕ) (e : Edge) → slice_get g.edges.items j ≡ Some e → e.gate < length gates

-- a way over edges through which accesses of an index pass
abbrev pub IsTrail : List Edge → List Gate → ℕ → ℕ → List ℕ → ℕ → Type 0
IsTrail edges gates k a [] b = a ≡ b
IsTrail edges gates k a (j ∷ js) b = (e : Edge) × (slice_get edges j ≡ Some e) × (e.from ≡ a) × (passes (gate_at gates e.gate) k ≡ true) × IsTrail edges gates k e.to js b
