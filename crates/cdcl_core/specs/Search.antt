-- The clauses and the trail, as the public calls speak of them.
use Rattle.std.specs.Prelude.{ℕ, ◌≡◌, ◌<◌, ◌≤◌, ◌≢◌, Bool, false, cond, List, Contains, length, take, Option, Some, None, option_and_then, slice_get}
use Rattle.cnf_base.specs.Literals.{Literal, code_of}
use Rattle.cnf_base.specs.declared.clause.ClauseId.{ClauseId}
use Rattle.cdcl_core.specs.declared.trail.Trail.{Trail}
use Rattle.cdcl_core.specs.declared.watches.Watches.{Watches}
use Rattle.cdcl_core.specs.declared.watches.Kind.{Kind}
use Rattle.cdcl_core.specs.Slots.{slot_in}
use Rattle.cdcl_core.specs.Levels.{Row, IsFalseBy, RestsBy, IsRefutedBy}
use Rattle.cdcl_core.specs.Watched.{kind_at, is_held}

-- the true literals in order
abbrev pub literals_of : Trail → List Row
literals_of t = take t.len t.rows.items

-- the present decision level
abbrev pub level_of : Trail → ℕ
level_of t = t.level

-- how many literals have a row in the tables, those of the lowest variables
abbrev pub rows_of : Trail → ℕ
rows_of t = length t.stamps.items

-- the literal has a row: every literal of a clause that was added has one, and each whose variable was reserved
abbrev pub IsKnown : Trail → Literal → Type 0
IsKnown t l = code_of l < rows_of t

-- the clause that is kept under this name, held or parked
abbrev pub clause_of : Watches → ClauseId → Option (List Literal)
clause_of w id = option_and_then (λ s. slice_get w.clauses.items s) (slot_in w.slots id)

-- whether the clause of this slot is held, where there is a slot
abbrev pub is_held_slot : List Kind → Option ℕ → Bool
is_held_slot ks None = false
is_held_slot ks (Some s) = is_held (kind_at ks s)

-- the held clause of this name: the kept one, unless it is parked
abbrev pub held_of : Watches → ClauseId → Option (List Literal)
held_of w id = cond (is_held_slot w.kinds.items (slot_in w.slots id)) (clause_of w id) None

-- the clause that forced the literal at this place of the trail, None for a decided one and where none stands
abbrev pub reason_of : Watches → Trail → ℕ → Option (List Literal)
reason_of w t p = option_and_then (λ (r : Row). option_and_then (clause_of w) r.2) (slice_get (literals_of t) p)

-- every clause that is kept is held
abbrev pub AreAllHeld : Watches → Type 0
AreAllHeld w = (id : ClauseId) → held_of w id ≡ clause_of w id

-- no held clause is false, or unit with its last literal open, now or at the end of any lower level
abbrev pub IsAtRest : Watches → Trail → Type 0
IsAtRest w t = (id : ClauseId) (c : List Literal) (j : ℕ) → held_of w id ≡ Some c → j ≤ level_of t → RestsBy (literals_of t) j c

-- the clause of this name is held, and every literal of it is false
abbrev pub IsConflict : Watches → Trail → ClauseId → Type 0
IsConflict w t id = (c : List Literal) × ((held_of w id ≡ Some c) × IsRefutedBy (literals_of t) (level_of t) c)

-- a literal with a reason is forced by it: the clause is kept and has the literal, and its other literals were false before
abbrev pub AreForced : Watches → Trail → Type 0
AreForced w t = (i : ℕ) (l : Literal) (level : ℕ) (id : ClauseId) → slice_get (literals_of t) i ≡ Some (l, level, Some id) →
    (c : List Literal) × ((clause_of w id ≡ Some c) × (Contains c l × ((m : Literal) → Contains c m → m ≢ l → IsFalseBy (take i (literals_of t)) (level_of t) m)))
