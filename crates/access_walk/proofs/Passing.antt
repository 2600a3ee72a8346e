-- Reading rows, their entries and the edges of their ways.
use Rattle.std.proofs.Common.{◌≡◌, ℕ, zero, suc, ◌<◌, List, [], ◌∷◌, length, Some, subst}
use Rattle.std.specs.Prelude.{slice_get, slice_index_or}
use Rattle.std.proofs.lemmas.Option.{slice_get_within}
use Rattle.access_spread.specs.declared.graph.Edge.{Edge}
use Rattle.access_spread.specs.declared.graph.Gate.{Gate}
use Rattle.access_spread.specs.declared.graph.Graph.{Graph}
use Rattle.access_spread.specs.declared.spreading.Row.{Row}
use Rattle.access_spread.specs.declared.spreading.Start.{Start}
use Rattle.access_spread.specs.Graphs.{IsTrail}
use Rattle.access_spread.specs.Spreads.{IsWayOf}
use Rattle.access_walk.specs.declared.values.Entry.{Entry}
use Rattle.access_walk.specs.Networks.{landing_at, no_landing}
use Rattle.access_walk.specs.Valuing.{landings_in}
use Rattle.access_walk.proofs.Lists.{read, some_at, mapped}

trail_within : (edges : List Edge) (gates : List Gate) (k a b : ℕ) (js : List ℕ) → IsTrail edges gates k a js b → (i j : ℕ) → slice_get js i ≡ Some j → j < length edges
trail_within edges gates k a b [] h i j q = let f : ⊥ = cc in absurd f
trail_within edges gates k a b (x ∷ js) h zero j q = let same : x ≡ j = cc in subst (λ z. z < length edges) same (slice_get_within edges x h.0 h.1)
trail_within edges gates k a b (x ∷ js) h (suc i) j q = trail_within edges gates k h.0.to b js h.4 i j q

-- each place of a way is that of an edge
pub edge_within : (g : Graph) (gates : List Gate) (starts : List Start) (rows : List Row) (p : ℕ) (js : List ℕ) (d : Row) → p < length rows → IsWayOf g gates starts rows p js → (i : ℕ) → i < length js → slice_index_or js i 0 < length g.edges.items
edge_within g gates starts rows p js d lt way i less =
    trail_within g.edges.items gates _ _ _ js (way (slice_index_or rows p d) (some_at rows p d lt)) i (slice_index_or js i 0) (some_at js i 0 less)

-- the access of a start, by its entry
pub landing_is : (entries : List Entry) (s : ℕ) (d : Entry) → s < length entries → landing_at (landings_in entries) s ≡ (slice_index_or entries s d).landing
landing_is entries s d lt = read (landings_in entries) s (slice_index_or entries s d).landing no_landing (mapped (λ (e : Entry). e.landing) entries s (slice_index_or entries s d) (some_at entries s d lt))
