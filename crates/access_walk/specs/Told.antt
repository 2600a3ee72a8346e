-- That no clash stays untold: where accesses begin, the ways that they go, and on which of them a clash is told.
use Rattle.std.specs.Prelude.{◌≡◌, ◌⊎◌, ◌<◌, ◌==◌, ℕ, Bool, true, false, List, [], ◌∷◌, Some, length, Contains}
use Rattle.smt_terms.specs.declared.sort.Sort.TheVariants as sort
use Rattle.smt_terms.specs.declared.node.Node.{Node}
use Rattle.smt_terms.specs.Bits.{TermBits, image_in}
use Rattle.smt_terms.specs.Terms.{sort_of}
use Rattle.smt_terms.specs.Values.{Value, number_of}
use Rattle.theory_terms.specs.declared.atom.Landing.{Landing}
use Rattle.theory_terms.specs.declared.atom.Turn.{Turn}
use Rattle.theory_terms.specs.declared.lemma.Lemma.{Lemma}
use Rattle.theory_terms.specs.declared.lemma.Move.{Move}
use Rattle.theory_terms.specs.declared.lemma.Move.TheVariants.{Store, Then, Else, Sides}
use Rattle.theory_terms.specs.declared.shape.Shape.TheVariants.{Filling}
use Rattle.theory_terms.specs.Lemmas.{atom_true, start_of, turn_of}
use Rattle.theory_terms.specs.Named.{mover}
use Rattle.theory_terms.specs.Shapes.{shape_at}
use Rattle.access_spread.specs.Spreads.{most_refused}
use Rattle.access_tables.specs.Held.{HasRow, assigned_value}
use Rattle.access_tables.specs.Ready.{IsOwn}
use Rattle.access_tables.specs.Tables.{IsAsked}
use Rattle.access_walk.specs.declared.spreading.Spreading.{Spreading}
use Rattle.access_walk.specs.declared.spreading.Spreading.TheVariants as of
use Rattle.access_walk.specs.Spread.{IsClashAt}

-- ---- where accesses begin

-- a constant array has its element at an index with bits whose number an index of its width has, or the spare one
pub record IsFilledAt (nodes : List Node) (bits : List TermBits) (Here : ℕ → Type 0) (val : ℕ → Value) (l : Landing) : Type 0 where
  pub index : ℕ
  pub element : ℕ
  pub own : IsOwn Here (image_in bits) l.array
  pub shape : shape_at nodes l.array ≡ Filling l.value
  pub array : sort_of nodes l.array ≡ sort.Array index element
  pub word : sort_of nodes l.index ≡ sort.Word index
  pub row : HasRow nodes bits l.index
  pub asked : IsAsked nodes Here (image_in bits) val index (number_of (val l.index))

-- it is the access of a select or of a store
abbrev pub IsBegun : List Node → List TermBits → (ℕ → Type 0) → Landing → Type 0
IsBegun nodes bits Here l = (t : ℕ) × IsOwn Here (image_in bits) t × (start_of t (shape_at nodes t) ≡ Some l)

-- an access that begins at these terms
abbrev pub Begins : List Node → List TermBits → (ℕ → Type 0) → (ℕ → Value) → Landing → Type 0
Begins nodes bits Here val l = IsBegun nodes bits Here l ⊎ IsFilledAt nodes bits Here val l

-- ---- ways

-- the move leads from a store or a choice to what it is of, or over an equality
abbrev pub leads_on : ℕ → Move → Bool
leads_on array (Store t) = array == t
leads_on array (Then t) = array == t
leads_on array (Else t) = array == t
leads_on array (Sides t) = true

-- no lemma is on two accesses of this array with an index of this number
abbrev pub IsUntold : List Node → (ℕ → Value) → List Lemma → ℕ → ℕ → Type 0
IsUntold nodes val lemmas a k = (l : Lemma) → Contains lemmas l → IsClashAt nodes val l a k → ⊥

-- an access with this index takes a move of these terms, which leads on and is open under the assignment, to where no clash is told
pub record IsStep (nodes : List Node) (bits : List TermBits) (Here : ℕ → Type 0) (val : ℕ → Value) (lemmas : List Lemma) (i a : ℕ) (m : Move) (b : ℕ) : Type 0 where
  pub own : IsOwn Here (image_in bits) (mover m)
  pub on : leads_on a m ≡ true
  pub turn : Turn
  pub is : turn_of nodes i a m ≡ Some turn
  pub to : turn.to ≡ b
  pub passes : atom_true val turn.unless ≡ false
  pub untold : IsUntold nodes val lemmas b (number_of (val i))

-- by such moves, one after the other, it goes from an array to an array
abbrev pub IsWay : List Node → List TermBits → (ℕ → Type 0) → (ℕ → Value) → List Lemma → ℕ → ℕ → List Move → ℕ → Type 0
IsWay nodes bits Here val lemmas i a [] b = a ≡ b
IsWay nodes bits Here val lemmas i a (m ∷ ms) b = (c : ℕ) × IsStep nodes bits Here val lemmas i a m c × IsWay nodes bits Here val lemmas i c ms b

-- it begins where no clash is told, and goes such a way to this array
pub record ComesTo (nodes : List Node) (bits : List TermBits) (Here : ℕ → Type 0) (val : ℕ → Value) (lemmas : List Lemma) (l : Landing) (b : ℕ) : Type 0 where
  pub begins : Begins nodes bits Here val l
  pub untold : IsUntold nodes val lemmas l.array (number_of (val l.index))
  pub moves : List Move
  pub way : IsWay nodes bits Here val lemmas l.index l.array moves b

-- ---- all clashes are told

-- Two accesses that come to one array with equal indexes agree there, unless a clash with this index is told on the way of one of
-- them; or as many clashes are told as are told at most.
abbrev pub AreAllTold : List Node → List TermBits → (ℕ → Bool) → (ℕ → Type 0) → List Lemma → Type 0
AreAllTold nodes bits f Here lemmas =
    length lemmas < most_refused → (l k : Landing) (b : ℕ) → ComesTo nodes bits Here (assigned_value nodes bits f) lemmas l b → ComesTo nodes bits Here (assigned_value nodes bits f) lemmas k b
    → number_of (assigned_value nodes bits f l.index) ≡ number_of (assigned_value nodes bits f k.index) → number_of (assigned_value nodes bits f l.value) ≡ number_of (assigned_value nodes bits f k.value)

-- so it is with what the accesses of a network come to
abbrev pub IsAllTold : List Node → List TermBits → (ℕ → Bool) → List ℕ → Spreading → Type 0
IsAllTold nodes bits f terms (of.Table rows) = AreAllTold nodes bits f (Contains terms) []
IsAllTold nodes bits f terms (of.Clashes c) = AreAllTold nodes bits f (Contains terms) c.falses.items
