-- What the accesses of a network come to under an assignment: a closed table, or clashes.
use Rattle.std.specs.Prelude.{◌≡◌, ◌≤◌, ◌<◌, ◌++◌, ◌∷◌, [], ℕ, Bool, List, length, Some, Contains, slice_get}
use Rattle.std.specs.List.{AllByRecursion}
use Rattle.smt_terms.specs.declared.node.Node.{Node}
use Rattle.smt_terms.specs.Bits.{TermBits}
use Rattle.smt_terms.specs.Values.{Value, number_of}
use Rattle.theory_terms.specs.declared.atom.Atom.{Atom}
use Rattle.theory_terms.specs.declared.lemma.Access.{Access}
use Rattle.theory_terms.specs.declared.lemma.Lemma.{Lemma}
use Rattle.theory_terms.specs.declared.lemma.Lemma.TheVariants.{Arrays}
use Rattle.theory_terms.specs.Lemmas.{Arrival, arrival_of, atoms_of}
use Rattle.access_spread.specs.declared.graph.Gate.{Gate}
use Rattle.access_spread.specs.declared.spreading.Refusal.{Refusal}
use Rattle.access_spread.specs.declared.spreading.Row.{Row}
use Rattle.access_spread.specs.declared.spreading.Start.{Start}
use Rattle.access_spread.specs.Spreads.{IsWayOf, most_refused}
use Rattle.access_tables.specs.Held.{HasRow, assigned_value}
use Rattle.access_walk.specs.declared.network.Network.{Network}
use Rattle.access_walk.specs.declared.spreading.Clashes.{Clashes}
use Rattle.access_walk.specs.declared.spreading.Spreading.{Spreading}
use Rattle.access_walk.specs.declared.spreading.Spreading.TheVariants as of
use Rattle.access_walk.specs.declared.values.Entry.{Entry}
use Rattle.access_walk.specs.Networks.{moves_at}
use Rattle.access_walk.specs.Rows.{AreClosedRows}
use Rattle.access_walk.specs.Walked.{IsEncodedAtom, IsFalseLemma}

-- the access of the row at a place: it begins where the row's start does, and goes by the moves of the edges on which the row came
pub record IsAccessAt (n : Network) (entries : List Entry) (gates : List Gate) (starts : List Start) (rows : List Row) (p : ℕ) (a : Access) : Type 0 where
  pub way : List ℕ
  pub is_way : IsWayOf n.graph gates starts rows p way
  pub begins : (r : Row) (e : Entry) → slice_get rows p ≡ Some r → slice_get entries r.start ≡ Some e → a.start ≡ e.origin
  pub path : a.path ≡ moves_at n.moves.items way

-- the lemma of the row that stands and of the refused row, as if it stood behind the others
pub record IsClashLemma (n : Network) (entries : List Entry) (gates : List Gate) (starts : List Start) (rows : List Row) (c : Refusal) (lemma : Lemma) : Type 0 where
  pub left : Access
  pub right : Access
  pub is : lemma ≡ Arrays left right
  pub at_left : IsAccessAt n entries gates starts (rows ++ c.row ∷ []) c.standing left
  pub at_right : IsAccessAt n entries gates starts (rows ++ c.row ∷ []) (length rows) right

-- one for each
pub record AreClashLemmas (n : Network) (entries : List Entry) (gates : List Gate) (starts : List Start) (rows : List Row) (refused : List Refusal) (lemmas : List Lemma) : Type 0 where
  pub count : length lemmas ≡ length refused
  pub each : (k : ℕ) (c : Refusal) (l : Lemma) → slice_get refused k ≡ Some c → slice_get lemmas k ≡ Some l → IsClashLemma n entries gates starts rows c l

-- the lemma has its shape, and its terms have bits; it need not be false
pub record IsEncodedLemma (nodes : List Node) (bits : List TermBits) (lemma : Lemma) : Type 0 where
  pub atoms : List Atom
  pub are : atoms_of nodes lemma ≡ Some atoms
  pub encoded : AllByRecursion (IsEncodedAtom nodes bits) atoms

abbrev pub AreEncodedLemmas : List Node → List TermBits → List Lemma → Type 0
AreEncodedLemmas nodes bits lemmas = (l : Lemma) → Contains lemmas l → IsEncodedLemma nodes bits l

-- the term is held and has as many bits as its sort
abbrev pub IsHeldRow : List Node → List TermBits → ℕ → Type 0
IsHeldRow nodes bits t = (t < length nodes) × HasRow nodes bits t

-- the lemma is on two accesses of this array, the first of which has an index of this number
pub record IsClashAt (nodes : List Node) (val : ℕ → Value) (lemma : Lemma) (a k : ℕ) : Type 0 where
  pub left : Access
  pub right : Access
  pub is : lemma ≡ Arrays left right
  pub arrival : Arrival
  pub comes : arrival_of nodes left ≡ Some arrival
  pub array : arrival.landing.array ≡ a
  pub index : number_of (val arrival.landing.index) ≡ k

-- lemmas on accesses, as many at most as refused rows are kept, and no two at one array with one index number
pub record AreFewClashes (nodes : List Node) (val : ℕ → Value) (lemmas : List Lemma) : Type 0 where
  pub most : length lemmas ≤ most_refused
  pub each : (l : Lemma) → Contains lemmas l → (a : ℕ) × (k : ℕ) × IsClashAt nodes val l a k
  pub single : (i j : ℕ) (l m : Lemma) (a k : ℕ) → slice_get lemmas i ≡ Some l → slice_get lemmas j ≡ Some m → IsClashAt nodes val l a k → IsClashAt nodes val m a k → i ≡ j

-- false lemmas, of which there is one at least, but few, and further lemmas
pub record AreClashes (nodes : List Node) (bits : List TermBits) (f : ℕ → Bool) (c : Clashes) : Type 0 where
  pub some : length c.falses.items ≡ 0 → ⊥
  pub falses : (l : Lemma) → Contains c.falses.items l → IsFalseLemma nodes bits f l
  pub few : AreFewClashes nodes (assigned_value nodes bits f) c.falses.items
  pub siblings : AreEncodedLemmas nodes bits c.siblings.items

-- rows that are closed, or clashes
abbrev pub IsSpreading : List Node → List TermBits → (ℕ → Bool) → List ℕ → Spreading → Type 0
IsSpreading nodes bits f terms (of.Table rows) = AreClosedRows nodes bits f terms rows.items
IsSpreading nodes bits f terms (of.Clashes c) = AreClashes nodes bits f c
