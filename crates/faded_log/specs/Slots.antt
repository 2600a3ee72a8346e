-- What the slots of a log say of its steps.
use Rattle.std.specs.Prelude.{◌≡◌, ◌≤◌, ℕ, true, false, Bool, List, [], ◌∷◌, ◌++◌, Option, Some, None, slice_get}
use Rattle.cnf_base.specs.Literals.{Literal}
use Rattle.smt_terms.specs.Terms.{TermsValue}
use Rattle.proof_log.specs.declared.entry.Entry.{Entry}
use Rattle.proof_log.specs.Faults.{IsValid, terms_after}
use Rattle.proof_log.specs.Logs.{entry_at, state_of}
use Rattle.proof_log.specs.Stored.{IsPushed, clauses_of}
use Rattle.faded_log.specs.declared.rows.Slot.{Slot}
use Rattle.faded_log.specs.declared.rows.Slot.TheVariants.{Plain, Chain, Blank}
use Rattle.faded_log.specs.Faded.{FadedValue, blank}

abbrev pub or_blank : Option Entry → Entry
or_blank None = blank
or_blank (Some e) = e

abbrev pub or_none : Option (List (List Literal)) → List (List Literal)
or_none None = []
or_none (Some row) = row

-- the step, where these are no chains
abbrev pub slot_entry : List Entry → Slot → Entry
slot_entry steps (Plain p) = or_blank (entry_at steps p)
slot_entry steps (Chain e) = e.value
slot_entry steps Blank = blank

-- its clauses, where these are those of the steps that are no chains
abbrev pub slot_row : List (List (List Literal)) → Slot → List (List Literal)
slot_row rows (Plain p) = or_none (slice_get rows p)
slot_row rows (Chain e) = clauses_of e.value []
slot_row rows Blank = clauses_of blank []

-- the slot is at one of so many steps that are no chains
abbrev pub IsWithin : ℕ → Slot → Type 0
IsWithin n (Plain p) = p ≤ n
IsWithin n (Chain e) = Unit {0}
IsWithin n Blank = Unit {0}

-- A step that is no chain was tried over these terms, against what the steps leave that are none: where it is valid it was added to
-- them, and has what they give it, else all is as before.
abbrev pub IsTriedPlain : TermsValue → TermsValue → FadedValue → FadedValue → Entry → Bool → Type 0
IsTriedPlain v w old new e true =
    (p : ℕ)
    × IsValid v (state_of v.nodes old.base.entries) e
    × (w ≡ terms_after v e)
    × IsPushed w.nodes old.base new.base e p
    × (new.entries ≡ old.entries ++ e ∷ [])
    × (new.clauses ≡ old.clauses ++ or_none (slice_get new.base.clauses p) ∷ [])
IsTriedPlain v w old new e false = (IsValid v (state_of v.nodes old.base.entries) e → ⊥) × (w ≡ v) × (new ≡ old)
