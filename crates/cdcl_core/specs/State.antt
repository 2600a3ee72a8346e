-- The trail and the watches together.
use Rattle.std.specs.Prelude.{ℕ, ◌≡◌, ◌≢◌, ◌+◌, ◌*◌, ◌/◌, ◌<◌, ◌≤◌, ◌⊎◌, Bool, true, false, List, [], length, map, take, replicate, ◌++◌, slice_set, slice_index, slice_index_or, Some, None}
use Rattle.cnf_base.specs.Literals.{Literal, literal_of}
use Rattle.cnf_base.specs.Clauses.{no_id}
use Rattle.cnf_base.specs.declared.clause.ClauseId.{ClauseId}
use Rattle.cdcl_core.specs.declared.trail.Trail.{Trail}
use Rattle.cdcl_core.specs.declared.watches.Watches.{Watches}
use Rattle.cdcl_core.specs.declared.watches.Kind.{Kind}
use Rattle.cdcl_core.specs.declared.watches.Kind.TheVariants.{Free, Fixed, Parked}
use Rattle.cdcl_core.specs.Chains.{times, first_of}
use Rattle.cdcl_core.specs.Lists.{Lists}
use Rattle.cdcl_core.specs.Levels.{Row, StandsAt}
use Rattle.cdcl_core.specs.Stamps.{neg, codes, Has, IsFalse, RestsAt, IsTrail}
use Rattle.cdcl_core.specs.Watched.{kind_at, IsHeld, IsWatched}
use Rattle.cdcl_core.specs.Search.{literals_of}
use Rattle.cdcl_core.specs.Slots.{slot_in}

abbrev pub no_row : Row
no_row = (literal_of 0, 0, None)

abbrev pub all_codes : List (List Literal) → List (List ℕ)
all_codes cs = map codes cs

-- the rows show the codes and the stamps
pub record IsShown (rows : List Row) (ss es : List ℕ) (len : ℕ) : Type 0 where
  pub literal : (i : ℕ) → i < len → (slice_index_or rows i no_row).0 ≡ literal_of (slice_index es i)
  pub level : (i : ℕ) → i < len → (slice_index_or rows i no_row).1 + 1 ≡ slice_index ss (slice_index es i)
  pub width : length ss ≤ 2 * length rows

-- by variable the place of its literal, and room for each variable
pub record IsSpotted (ks ss es : List ℕ) (len : ℕ) : Type 0 where
  pub place : (i : ℕ) → i < len → slice_index ks (slice_index es i / 2) ≡ i
  pub width : length ss ≤ 2 * length ks

-- of a trail alone: its table of places
abbrev pub KeepsPlaces : Trail → Type 0
KeepsPlaces t = IsSpotted t.spots.items t.stamps.items t.codes.items t.len

-- each literal that was not decided is forced: its clause is kept, above level 0 held, and has it, and the clause's other
-- literals became false before it
pub record IsReasoned (cs : List (List ℕ)) (ks : List Kind) (ids : List ClauseId) (rows : List Row) (es rs : List ℕ) (len : ℕ) : Type 0 where
  pub decided : (i : ℕ) → i < len → slice_index rs i ≡ 0 → (slice_index_or rows i no_row).2 ≡ None
  pub forced : (i : ℕ) → i < len → 0 < slice_index rs i → slice_index rs i < length ks
  pub live : (i : ℕ) → i < len → 0 < slice_index rs i → kind_at ks (slice_index rs i) ≢ Free
  pub held : (i : ℕ) → i < len → 0 < slice_index rs i → 0 < (slice_index_or rows i no_row).1 → IsHeld (kind_at ks (slice_index rs i))
  pub name : (i : ℕ) → i < len → 0 < slice_index rs i → (slice_index_or rows i no_row).2 ≡ Some (slice_index_or ids (slice_index rs i) no_id)
  pub has : (i : ℕ) → i < len → 0 < slice_index rs i → Has (slice_index_or cs (slice_index rs i) []) (slice_index es i)
  pub others : (i m : ℕ) → i < len → 0 < slice_index rs i → Has (slice_index_or cs (slice_index rs i) []) m → m ≢ slice_index es i → 0 < times (neg m) (take i es)
  pub width : length es ≤ length rs

-- the table names exactly the slots that are not free
pub record IsNamed (slots : List (List ℕ)) (ids : List ClauseId) (ks : List Kind) : Type 0 where
  pub low : (id : ClauseId) (s : ℕ) → slot_in slots id ≡ Some s → 1 ≤ s
  pub high : (id : ClauseId) (s : ℕ) → slot_in slots id ≡ Some s → s < length ks
  pub name : (id : ClauseId) (s : ℕ) → slot_in slots id ≡ Some s → slice_index_or ids s no_id ≡ id
  pub live : (id : ClauseId) (s : ℕ) → slot_in slots id ≡ Some s → kind_at ks s ≢ Free
  pub held : (s : ℕ) → 1 ≤ s → s < length ks → kind_at ks s ≢ Free → slot_in slots (slice_index_or ids s no_id) ≡ Some s
  pub rows : length ks ≤ length ids
  pub some : 1 ≤ length ks

-- a clause that is held and not watched is true at level 0, or all its literals are false there, and then this is remembered
pub record IsFixed (ks : List Kind) (cs : List (List ℕ)) (ss : List ℕ) (refuted : Bool) : Type 0 where
  pub value : (s : ℕ) → 1 ≤ s → s < length ks → kind_at ks s ≡ Fixed →
      ((l : ℕ) × (Has (slice_index_or cs s []) l × (slice_index ss l ≡ 1)))
      ⊎ ((refuted ≡ true) × ((l : ℕ) → Has (slice_index_or cs s []) l → slice_index ss (neg l) ≡ 1))

-- what is true of a trail alone
abbrev pub IsConsistent : Trail → Type 0
IsConsistent t = IsTrail t.stamps.items t.codes.items t.len t.head t.level × IsShown t.rows.items t.stamps.items t.codes.items t.len

-- a trail on which nothing was done yet
pub record IsNew (t : Trail) : Type 0 where
  pub stamps : t.stamps.items ≡ []
  pub codes : t.codes.items ≡ []
  pub reasons : t.reasons.items ≡ []
  pub len : t.len ≡ 0
  pub head : t.head ≡ 0
  pub level : t.level ≡ 0

-- between two calls
pub record IsSettled (w : Watches) (t : Trail) : Type 0 where
  pub trail : IsTrail t.stamps.items t.codes.items t.len t.head t.level
  pub shown : IsShown t.rows.items t.stamps.items t.codes.items t.len
  pub spots : IsSpotted t.spots.items t.stamps.items t.codes.items t.len
  pub watched : IsWatched w.lists.lists w.lists.literals w.kinds.items (all_codes w.clauses.items) t.stamps.items t.codes.items t.head (length t.stamps.items) 0
  pub idle : slice_index_or w.lists.lists 0 [] ≡ []
  pub reasoned : IsReasoned (all_codes w.clauses.items) w.kinds.items w.ids.items t.rows.items t.codes.items t.reasons.items t.len
  pub named : IsNamed w.slots w.ids.items w.kinds.items
  pub fixed : IsFixed w.kinds.items (all_codes w.clauses.items) t.stamps.items w.refuted
  pub calm : 0 < t.level → w.refuted ≡ false

-- what is settled but for the names
pub record IsPlaced (w : Watches) (t : Trail) : Type 0 where
  pub trail : IsTrail t.stamps.items t.codes.items t.len t.head t.level
  pub shown : IsShown t.rows.items t.stamps.items t.codes.items t.len
  pub spots : IsSpotted t.spots.items t.stamps.items t.codes.items t.len
  pub watched : IsWatched w.lists.lists w.lists.literals w.kinds.items (all_codes w.clauses.items) t.stamps.items t.codes.items t.head (length t.stamps.items) 0
  pub idle : slice_index_or w.lists.lists 0 [] ≡ []
  pub reasoned : IsReasoned (all_codes w.clauses.items) w.kinds.items w.ids.items t.rows.items t.codes.items t.reasons.items t.len
  pub rows : length w.kinds.items ≤ length w.ids.items
  pub fixed : IsFixed w.kinds.items (all_codes w.clauses.items) t.stamps.items w.refuted
  pub calm : 0 < t.level → w.refuted ≡ false

-- a slot that waits for a clause: it is free, and the first of the list of free slots
pub record IsWaiting (w : Watches) (slot : ℕ) : Type 0 where
  pub low : 1 ≤ slot
  pub high : slot < length w.kinds.items
  pub free : kind_at w.kinds.items slot ≡ Free
  pub first : first_of (slice_index_or w.lists.lists 1 []) ≡ 2 * slot

-- a clause that may come at this level: its literals have rows, and at the end of no lower level it is false, or unit with its last literal open
pub record MayCome (t : Trail) (c : List ℕ) : Type 0 where
  pub named : (l : ℕ) → Has c l → 2 ≤ l
  pub within : (l : ℕ) → Has c l → l < length t.stamps.items
  pub rests : (j : ℕ) → j < t.level → RestsAt t.stamps.items j c

-- the slot has the clause, and nothing else changed but the lists
pub record Holds (old new : Watches) (slot : ℕ) (k : Kind) (c : List Literal) : Type 0 where
  pub kinds : new.kinds.items ≡ slice_set old.kinds.items slot k
  pub clauses : new.clauses.items ≡ slice_set old.clauses.items slot c
  pub ids : new.ids ≡ old.ids
  pub slots : new.slots ≡ old.slots

abbrev pub HoldsSome : Watches → Watches → ℕ → List Literal → Type 0
HoldsSome old new slot c = (k : Kind) × (IsHeld k × Holds old new slot k c)

-- the places of the slot stand in no list, and the others where they stood
pub record IsCleared (old new : Lists) (slot : ℕ) : Type 0 where
  pub literals : new.literals ≡ old.literals
  pub size : length new.lists ≡ length old.lists
  pub idle : slice_index_or new.lists 0 [] ≡ []
  pub gone : (i k : ℕ) → k / 2 ≡ slot → times k (slice_index_or new.lists i []) ≡ 0
  pub others : (i k : ℕ) → k / 2 ≢ slot → times k (slice_index_or new.lists i []) ≡ times k (slice_index_or old.lists i [])

-- the lists of the literals below this code are empty, and the others as before, or empty
pub record IsEmptied (old new : Lists) (count : ℕ) : Type 0 where
  pub literals : new.literals ≡ old.literals
  pub size : length new.lists ≡ length old.lists
  pub front : (i : ℕ) → i < 2 → slice_index_or new.lists i [] ≡ slice_index_or old.lists i []
  pub fewer : (i : ℕ) → (slice_index_or new.lists i [] ≡ slice_index_or old.lists i []) ⊎ (slice_index_or new.lists i [] ≡ [])
  pub done : (l : ℕ) → 2 ≤ l → l < count → slice_index_or new.lists (l + 1) [] ≡ []

-- the kind of a slot once nothing is held
abbrev pub IsParkedFrom : Kind → Kind → Type 0
IsParkedFrom old new = ((old ≡ Free) × (new ≡ Free)) ⊎ ((old ≢ Free) × (new ≡ Parked))

-- the tables of the slots have more rows, which are of no use yet
pub record IsWider (old new : Watches) : Type 0 where
  pub clauses : (n : ℕ) × (new.clauses.items ≡ old.clauses.items ++ replicate n [])
  pub ids : (ys : List ClauseId) × (new.ids.items ≡ old.ids.items ++ ys)
  pub literals : (ys : List ℕ) × (new.lists.literals ≡ old.lists.literals ++ ys)
  pub lists : new.lists.lists ≡ old.lists.lists
  pub kinds : new.kinds ≡ old.kinds
  pub slots : new.slots ≡ old.slots
  pub refuted : new.refuted ≡ old.refuted

-- the tables of the trail have more rows, of which the stamps are 0
pub record IsLonger (old new : Trail) (m : ℕ) : Type 0 where
  pub stamps : new.stamps.items ≡ old.stamps.items ++ replicate m 0
  pub codes : (ys : List ℕ) × (new.codes.items ≡ old.codes.items ++ ys)
  pub reasons : (ys : List ℕ) × (new.reasons.items ≡ old.reasons.items ++ ys)
  pub rows : (ys : List Row) × (new.rows.items ≡ old.rows.items ++ ys)
  pub spots : (ys : List ℕ) × (new.spots.items ≡ old.spots.items ++ ys)
  pub len : new.len ≡ old.len
  pub head : new.head ≡ old.head
  pub level : new.level ≡ old.level

-- while the places of the literal p are visited
pub record IsVisiting (w : Watches) (t : Trail) (p stop : ℕ) : Type 0 where
  pub trail : IsTrail t.stamps.items t.codes.items t.len t.head t.level
  pub shown : IsShown t.rows.items t.stamps.items t.codes.items t.len
  pub spots : IsSpotted t.spots.items t.stamps.items t.codes.items t.len
  pub watched : IsWatched w.lists.lists w.lists.literals w.kinds.items (all_codes w.clauses.items) t.stamps.items t.codes.items t.head p stop
  pub within : p < length t.stamps.items
  pub next : slice_index t.codes.items t.head ≡ neg p
  pub more : t.head < t.len
  pub reasoned : IsReasoned (all_codes w.clauses.items) w.kinds.items w.ids.items t.rows.items t.codes.items t.reasons.items t.len
  pub named : IsNamed w.slots w.ids.items w.kinds.items
  pub fixed : IsFixed w.kinds.items (all_codes w.clauses.items) t.stamps.items w.refuted
  pub calm : 0 < t.level → w.refuted ≡ false
  pub slot : stop ≢ 0 → stop < length w.kinds.items
  pub held : stop ≢ 0 → IsHeld (kind_at w.kinds.items stop)
  pub refuted : stop ≢ 0 → IsFalse t.stamps.items (slice_index_or (all_codes w.clauses.items) stop [])

-- what the held clauses force at the present level is on the trail
abbrev pub IsPropagated : Watches → Trail → Type 0
IsPropagated w t = (t.head ≡ t.len) × (w.refuted ≡ false)

-- the literals of the trail stay, and those that came are forced at the same level
pub record IsGrown (old new : Trail) : Type 0 where
  pub longer : old.len ≤ new.len
  pub codes : take old.len new.codes.items ≡ take old.len old.codes.items
  pub reasons : take old.len new.reasons.items ≡ take old.len old.reasons.items
  pub rows : take old.len new.rows.items ≡ take old.len old.rows.items
  pub forced : (i : ℕ) → old.len ≤ i → i < new.len → 0 < slice_index new.reasons.items i
  pub level : (i : ℕ) → old.len ≤ i → i < new.len → (slice_index_or new.rows.items i no_row).1 ≡ old.level

-- the literals above the level are open again, and the others keep their stamps
abbrev pub IsCutBack : List ℕ → ℕ → List ℕ → Type 0
IsCutBack old level new = (l : ℕ) → ((slice_index old l ≤ level + 1) × (slice_index new l ≡ slice_index old l)) ⊎ ((level + 1 < slice_index old l) × (slice_index new l ≡ 0))

-- the clause of this slot forced the literal
abbrev pub HasForced : Trail → ℕ → Literal → Type 0
HasForced t s l = (i : ℕ) × ((StandsAt (literals_of t) i l) × (slice_index t.reasons.items i ≡ s))
