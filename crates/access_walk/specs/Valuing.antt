-- Networks that are made, and their accesses under an assignment, sorted.
use Rattle.std.specs.Prelude.{◌≡◌, ◌<◌, ◌==◌, ℕ, Bool, false, List, length, map, Some, All, Contains, slice_get}
use Rattle.smt_terms.specs.declared.node.Node.{Node}
use Rattle.smt_terms.specs.Bits.{TermBits, image_in}
use Rattle.theory_terms.specs.declared.atom.Landing.{Landing}
use Rattle.theory_terms.specs.declared.lemma.Start as of
use Rattle.theory_terms.specs.declared.lemma.Start.TheVariants.{Term, Const}
use Rattle.access_spread.specs.declared.graph.Gate.{Gate}
use Rattle.access_spread.specs.declared.spreading.Start.{Start}
use Rattle.access_spread.specs.Graphs.{AreGated}
use Rattle.access_spread.specs.Spreads.{AreRising, start_at}
use Rattle.access_tables.specs.Held.{IsAccess, assigned_value}
use Rattle.access_walk.specs.declared.network.Network.{Network}
use Rattle.access_walk.specs.declared.values.Entry.{Entry}
use Rattle.access_walk.specs.Building.{IsSound}
use Rattle.access_walk.specs.Maps.{IsMap}
use Rattle.access_walk.specs.Networks.{IsNetwork}
use Rattle.access_walk.specs.Valued.{IsGuarded, start_of}

-- the access is that of a store
abbrev pub is_store : of.Start → Landing → Bool
is_store (Term t) l = l.array == t
is_store (Const k j) l = false

-- the access is that of a select
abbrev pub is_select : of.Start → Landing → Bool
is_select (Term t) l = l.value == t
is_select (Const k j) l = false

-- The network has all accesses and moves of these terms and no others; what its guards and its accesses name has bits.
pub record IsNetworkOf (nodes : List Node) (bits : List TermBits) (terms : List ℕ) (n : Network) : Type 0 where
  pub sound : IsSound nodes terms n
  pub maps : IsMap nodes (image_in bits) (Contains terms) terms n.moves.items n.guards.items n.origins.items n.landings.items n.graph
  pub guards : All (IsGuarded nodes bits) n.guards.items
  pub accesses : All (IsAccess nodes bits terms) n.landings.items

-- the entry is that of an access of the network, its numbers those of the assignment, and wide where it is a store's
pub record IsEntry (nodes : List Node) (bits : List TermBits) (f : ℕ → Bool) (terms : List ℕ) (n : Network) (e : Entry) : Type 0 where
  pub place : ℕ
  pub origin : slice_get n.origins.items place ≡ Some e.origin
  pub landing : slice_get n.landings.items place ≡ Some e.landing
  pub array : ℕ
  pub at : slice_get terms array ≡ Some e.landing.array
  pub start : e.start ≡ start_of (assigned_value nodes bits f) e.landing array (is_store e.origin e.landing)

-- the entries are those of all accesses
pub record AreEntries (nodes : List Node) (bits : List TermBits) (f : ℕ → Bool) (terms : List ℕ) (n : Network) (entries : List Entry) : Type 0 where
  pub each : (e : Entry) → Contains entries e → IsEntry nodes bits f terms n e
  pub all : (s : ℕ) (l : Landing) → slice_get n.landings.items s ≡ Some l → (e : Entry) × Contains entries e × (e.landing ≡ l)

abbrev pub starts_in : List Entry → List Start
starts_in entries = map (λ e. e.start) entries

abbrev pub origins_in : List Entry → List of.Start
origins_in entries = map (λ e. e.origin) entries

abbrev pub landings_in : List Entry → List Landing
landings_in entries = map (λ e. e.landing) entries

-- Gates and starts make the moves and the accesses a network under the assignment; the starts rise by their indexes.
pub record AreValues (nodes : List Node) (bits : List TermBits) (f : ℕ → Bool) (terms : List ℕ) (n : Network) (entries : List Entry) (gates : List Gate) (starts : List Start) : Type 0 where
  pub network : IsNetwork nodes (image_in bits) (Contains terms) (assigned_value nodes bits f) terms n.moves.items (origins_in entries) (landings_in entries) n.graph gates starts
  pub accesses : (e : Entry) → Contains entries e → IsAccess nodes bits terms e.landing
  pub starts_are : starts ≡ starts_in entries
  pub rising : AreRising starts
  pub count : length gates ≡ length n.graph.edges.items
  pub gated : AreGated n.graph gates
  pub within : (s : ℕ) → s < length starts → (start_at starts s).array < length n.graph.fans.items
