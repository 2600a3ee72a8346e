-- Rows of accesses, and when they are all.
use Rattle.std.specs.Prelude.{◌≡◌, ◌⊎◌, ◌≤◌, ◌<◌, ◌+◌, ℕ, true, false, List, [], length, Option, Some, None, slice_get, slice_index_or}
use Rattle.access_spread.specs.declared.graph.Edge.{Edge}
use Rattle.access_spread.specs.declared.graph.Gate.{Gate}
use Rattle.access_spread.specs.declared.graph.Graph.{Graph}
use Rattle.access_spread.specs.declared.lane.Lane.{Lane}
use Rattle.access_spread.specs.declared.spreading.Start.{Start}
use Rattle.access_spread.specs.declared.spreading.Link.{Link}
use Rattle.access_spread.specs.declared.spreading.Row.{Row}
use Rattle.access_spread.specs.declared.spreading.Refusal.{Refusal}
use Rattle.access_spread.specs.declared.spreading.State.{State}
use Rattle.access_spread.specs.Graphs.{passes, gate_at, IsTrail, takes}

abbrev pub no_start : Start
no_start = record { array = 0; index = 0; value = 0; wide = false }

abbrev pub start_at : List Start → ℕ → Start
start_at starts s = slice_index_or starts s no_start

-- the numbers of the index of a row and of the value there
abbrev pub index_in : List Start → Row → ℕ
index_in starts r = (start_at starts r.start).index

abbrev pub value_in : List Start → Row → ℕ
value_in starts r = (start_at starts r.start).value

-- the starts rise by their indexes
abbrev pub AreRising : List Start → Type 0
AreRising starts = (i j : ℕ) → i ≤ j → j < length starts → (start_at starts i).index ≤ (start_at starts j).index

-- each row is of a start
abbrev pub AreStartsOf : List Start → List Row → Type 0
AreStartsOf starts rows = (p : ℕ) (r : Row) → slice_get rows p ≡ Some r → r.start < length starts

-- some row is at this array with an index and a value of these numbers
abbrev pub HasRow : List Start → List Row → ℕ → ℕ → ℕ → Type 0
HasRow starts rows a k x = (p : ℕ) × (r : Row) × (slice_get rows p ≡ Some r) × (r.array ≡ a) × (index_in starts r ≡ k) × (value_in starts r ≡ x)

-- the row stands at its start, or came from an earlier one over an edge through which it passes
abbrev pub CameBy : Graph → List Gate → List Start → List Row → ℕ → Row → Option Link → Type 0
CameBy g gates starts rows p r None = r.array ≡ (start_at starts r.start).array
CameBy g gates starts rows p r (Some l) =
    (l.row < p) × (q : Row) × (e : Edge) × (slice_get rows l.row ≡ Some q) × (q.start ≡ r.start) × (slice_get g.edges.items l.edge ≡ Some e)
    × (e.from ≡ q.array) × (e.to ≡ r.array) × (passes (gate_at gates e.gate) (index_in starts r) ≡ true)

abbrev pub IsFrom : Graph → List Gate → List Start → List Row → ℕ → Row → Type 0
IsFrom g gates starts rows p r = CameBy g gates starts rows p r r.from

-- so it is with each
abbrev pub AreDerived : Graph → List Gate → List Start → List Row → Type 0
AreDerived g gates starts rows = (p : ℕ) (r : Row) → slice_get rows p ≡ Some r → IsFrom g gates starts rows p r

-- the path leads from the start of the row at a place to its array
abbrev pub IsWayOf : Graph → List Gate → List Start → List Row → ℕ → List ℕ → Type 0
IsWayOf g gates starts rows p path = (r : Row) → slice_get rows p ≡ Some r → IsTrail g.edges.items gates (index_in starts r) (start_at starts r.start).array path r.array

-- the place is that of a row at the array with this index
abbrev pub IsStanding : List Start → State → ℕ → ℕ → ℕ → Type 0
IsStanding starts st a k p = (slice_get st.last.items a ≡ Some (Some p)) × (r : Row) × (slice_get st.rows.items p ≡ Some r) × (index_in starts r ≡ k)

-- the last row at the array has another index, if it has one
abbrev pub NoneStands : List Start → State → ℕ → ℕ → Type 0
NoneStands starts st a k = (p : ℕ) (r : Row) → slice_get st.last.items a ≡ Some (Some p) → slice_get st.rows.items p ≡ Some r → index_in starts r ≡ k → ⊥

-- the row at this place has another value
abbrev pub IsOther : List Start → List Row → ℕ → Row → Type 0
IsOther starts rows p row = (r : Row) → slice_get rows p ≡ Some r → value_in starts r ≡ value_in starts row → ⊥

-- the row could stand behind these rows, but for the one at the other's place, which is at its array with its index and another value
pub record IsRefused (g : Graph) (gates : List Gate) (starts : List Start) (rows : List Row) (c : Refusal) : Type 0 where
  pub start : c.row.start < length starts
  pub from : IsFrom g gates starts rows (length rows) c.row
  pub left : Row
  pub at_left : slice_get rows c.standing ≡ Some left
  pub array : left.array ≡ c.row.array
  pub index : index_in starts left ≡ index_in starts c.row
  pub value : value_in starts left ≡ value_in starts c.row → ⊥

abbrev pub AreRefused : Graph → List Gate → List Start → List Row → List Refusal → Type 0
AreRefused g gates starts rows refused = (k : ℕ) (c : Refusal) → slice_get refused k ≡ Some c → IsRefused g gates starts rows c

-- a row that is refused at this array with an index of this number is kept
abbrev pub HasRefusal : List Start → List Refusal → ℕ → ℕ → Type 0
HasRefusal starts refused a k = (i : ℕ) × (c : Refusal) × (slice_get refused i ≡ Some c) × (c.row.array ≡ a) × (index_in starts c.row ≡ k)

-- some row is at this array with an index and a value of these numbers, or one with this index is refused there
abbrev pub IsMet : List Start → List Row → List Refusal → ℕ → ℕ → ℕ → Type 0
IsMet starts rows refused a k x = HasRow starts rows a k x ⊎ HasRefusal starts refused a k

-- refused rows that are kept at most
abbrev pub most_refused : ℕ
most_refused = 30

-- at most so many, and no two at one array with one index
pub record AreFew (starts : List Start) (refused : List Refusal) : Type 0 where
  pub most : length refused ≤ most_refused
  pub single : (i j : ℕ) (c d : Refusal) → slice_get refused i ≡ Some c → slice_get refused j ≡ Some d → c.row.array ≡ d.row.array → index_in starts c.row ≡ index_in starts d.row → i ≡ j

-- no edge was left out and no row refused
abbrev pub IsComplete : List Lane → List Refusal → Type 0
IsComplete lanes refused = (lanes ≡ []) × (refused ≡ [])

-- Each array has at most one row for each index, the last one by its place; the rows came by edges; those from a place on have the
-- present index, and those before none above it.
pub record Fits (g : Graph) (gates : List Gate) (starts : List Start) (st : State) : Type 0 where
  pub count : length st.last.items ≡ length g.fans.items
  pub within : (p : ℕ) (r : Row) → slice_get st.rows.items p ≡ Some r → r.array < length g.fans.items
  pub started : AreStartsOf starts st.rows.items
  pub derived : AreDerived g gates starts st.rows.items
  pub last : (a p : ℕ) → slice_get st.last.items a ≡ Some (Some p) → (r : Row) × (slice_get st.rows.items p ≡ Some r) × (r.array ≡ a)
  pub latest : (a q : ℕ) (s : Row) → slice_get st.rows.items q ≡ Some s → s.array ≡ a → (p : ℕ) × (slice_get st.last.items a ≡ Some (Some p)) × (q ≤ p)
  pub rising : (p q : ℕ) (r s : Row) → p < q → slice_get st.rows.items p ≡ Some r → slice_get st.rows.items q ≡ Some s → r.array ≡ s.array → index_in starts r < index_in starts s
  pub below : (p : ℕ) (r : Row) → slice_get st.rows.items p ≡ Some r → index_in starts r ≤ st.index
  pub present : (p : ℕ) (r : Row) → st.begun ≤ p → slice_get st.rows.items p ≡ Some r → index_in starts r ≡ st.index
  pub refused : AreRefused g gates starts st.rows.items st.refused.items
  pub few : AreFew starts st.refused.items

-- rows stay at their places, and so do those that are refused
pub record Grows (old new : State) : Type 0 where
  pub rows : (p : ℕ) (r : Row) → slice_get old.rows.items p ≡ Some r → slice_get new.rows.items p ≡ Some r
  pub refusals : (k : ℕ) (c : Refusal) → slice_get old.refused.items k ≡ Some c → slice_get new.refused.items k ≡ Some c
  pub begun : new.begun ≡ old.begun
  pub index : new.index ≡ old.index

-- the last row and the one at this place are at one array with one index and have different values
pub record IsClash (g : Graph) (gates : List Gate) (starts : List Start) (rows : List Row) (p : ℕ) : Type 0 where
  pub derived : AreDerived g gates starts rows
  pub started : AreStartsOf starts rows
  pub last : ℕ
  pub more : length rows ≡ last + 1
  pub left : Row
  pub right : Row
  pub at_left : slice_get rows p ≡ Some left
  pub at_right : slice_get rows last ≡ Some right
  pub array : left.array ≡ right.array
  pub index : index_in starts left ≡ index_in starts right
  pub value : value_in starts left ≡ value_in starts right → ⊥

-- each edge through which the row passes leads to a row with its index and value
abbrev pub LeadOn : Graph → List Gate → List Start → List Row → Row → Type 0
LeadOn g gates starts rows r =
    (j : ℕ) (e : Edge) → slice_get g.edges.items j ≡ Some e → e.from ≡ r.array → passes (gate_at gates e.gate) (index_in starts r) ≡ true
    → HasRow starts rows e.to (index_in starts r) (value_in starts r)

-- each edge that the row takes and through which it passes leads to a row with its index and value, or to where one is refused
abbrev pub Meets : Graph → List Gate → List Lane → List Start → List Row → List Refusal → Row → Type 0
Meets g gates lanes starts rows refused r =
    (j : ℕ) (e : Edge) → slice_get g.edges.items j ≡ Some e → e.from ≡ r.array → takes lanes j (start_at starts r.start).wide ≡ true → passes (gate_at gates e.gate) (index_in starts r) ≡ true
    → IsMet starts rows refused e.to (index_in starts r) (value_in starts r)

-- so it is with the rows before a place
abbrev pub AreVisited : Graph → List Gate → List Lane → List Start → List Row → List Refusal → ℕ → Type 0
AreVisited g gates lanes starts rows refused at = (p : ℕ) (r : Row) → p < at → slice_get rows p ≡ Some r → Meets g gates lanes starts rows refused r

-- fewer are refused than are kept at most
abbrev pub IsRoomy : State → Type 0
IsRoomy st = length st.refused.items < most_refused

-- a row was refused, which is kept if there is room, and nothing else changed
pub record HasRefused (g : Graph) (gates : List Gate) (starts : List Start) (old new : State) (row : Row) : Type 0 where
  pub fits : Fits g gates starts new
  pub grows : Grows old new
  pub has : IsRoomy new → HasRefusal starts new.refused.items row.array (index_in starts row)

-- a row with the index and value of this one is at its array, or it was refused; and what stood stands
pub record HasArrived (g : Graph) (gates : List Gate) (starts : List Start) (old new : State) (row : Row) : Type 0 where
  pub fits : Fits g gates starts new
  pub grows : Grows old new
  pub met : IsRoomy new → IsMet starts new.rows.items new.refused.items row.array (index_in starts row) (value_in starts row)

pub record IsVisited (g : Graph) (gates : List Gate) (lanes : List Lane) (starts : List Start) (old new : State) (here : ℕ) : Type 0 where
  pub fits : Fits g gates starts new
  pub grows : Grows old new
  pub meets : IsRoomy new → (r : Row) → slice_get new.rows.items here ≡ Some r → Meets g gates lanes starts new.rows.items new.refused.items r

pub record IsDrained (g : Graph) (gates : List Gate) (lanes : List Lane) (starts : List Start) (old new : State) : Type 0 where
  pub fits : Fits g gates starts new
  pub grows : Grows old new
  pub visited : IsRoomy new → AreVisited g gates lanes starts new.rows.items new.refused.items (length new.rows.items)

pub record HasBegun (g : Graph) (gates : List Gate) (lanes : List Lane) (starts : List Start) (old new : State) (start : ℕ) : Type 0 where
  pub fits : Fits g gates starts new
  pub kept : (p : ℕ) (r : Row) → slice_get old.rows.items p ≡ Some r → slice_get new.rows.items p ≡ Some r
  pub refusals : (k : ℕ) (c : Refusal) → slice_get old.refused.items k ≡ Some c → slice_get new.refused.items k ≡ Some c
  pub visited : IsRoomy new → AreVisited g gates lanes starts new.rows.items new.refused.items (length new.rows.items)
  pub index : new.index ≡ (start_at starts start).index
  pub met : IsRoomy new → IsMet starts new.rows.items new.refused.items (start_at starts start).array (start_at starts start).index (start_at starts start).value

-- All starts have rows, the rows are closed under the edges through which they pass and came by them, and no two are at one array with
-- one index.
pub record IsTable (g : Graph) (gates : List Gate) (starts : List Start) (rows : List Row) : Type 0 where
  pub starts_have : (s : ℕ) → s < length starts → HasRow starts rows (start_at starts s).array (start_at starts s).index (start_at starts s).value
  pub closed : (p : ℕ) (r : Row) → slice_get rows p ≡ Some r → LeadOn g gates starts rows r
  pub single : (p q : ℕ) (r s : Row) → slice_get rows p ≡ Some r → slice_get rows q ≡ Some s → r.array ≡ s.array → index_in starts r ≡ index_in starts s → p ≡ q
  pub derived : AreDerived g gates starts rows
  pub started : AreStartsOf starts rows

-- no two rows are at one array with one index
abbrev pub AreSingle : List Start → List Row → Type 0
AreSingle starts rows = (p q : ℕ) (r s : Row) → slice_get rows p ≡ Some r → slice_get rows q ≡ Some s → r.array ≡ s.array → index_in starts r ≡ index_in starts s → p ≡ q

-- Each row came from a start by edges, and so would each that is refused, of which there are few; no two rows are at one array with
-- one index; and where no edge is left out by choice and no row is refused, the rows are all.
pub record IsSpread (g : Graph) (gates : List Gate) (lanes : List Lane) (starts : List Start) (rows : List Row) (refused : List Refusal) : Type 0 where
  pub derived : AreDerived g gates starts rows
  pub started : AreStartsOf starts rows
  pub refused_are : AreRefused g gates starts rows refused
  pub few : AreFew starts refused
  pub single : AreSingle starts rows
  pub table : IsComplete lanes refused → IsTable g gates starts rows

-- Unless as many rows are refused as are kept at most, each start has a row, and so has each edge that a row takes and passes, or one
-- is refused there.
pub record AreTold (g : Graph) (gates : List Gate) (lanes : List Lane) (starts : List Start) (rows : List Row) (refused : List Refusal) : Type 0 where
  pub starts_met : length refused < most_refused → (s : ℕ) → s < length starts → IsMet starts rows refused (start_at starts s).array (start_at starts s).index (start_at starts s).value
  pub rows_met : length refused < most_refused → (p : ℕ) (r : Row) → slice_get rows p ≡ Some r → Meets g gates lanes starts rows refused r
