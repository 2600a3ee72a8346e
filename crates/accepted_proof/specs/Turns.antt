-- A command with its answer (SMT-LIB 2.6, sections 4.1.1 and 4.2), and for a check its steps and its record. A step adds
-- what later ones may name; chains are those of LRAT (Cruz-Filipe, Heule, Hunt, Kaufmann and Schneider-Kamp 2017). What
-- stands of these in a proof is a part: one of the second format may delete places between the steps.
use Rattle.std.specs.Prelude.{◌≡◌, ◌⊎◌, ℕ, Bool, false, List, [], ◌∷◌, ◌++◌, slice_get, Contains, Option, Some, None, IsSome, option_to_list}
use Rattle.std.specs.List.{flat_map, AllByRecursion}
use Rattle.cnf_base.specs.Literals.{Literal, negated}
use Rattle.smt_terms.specs.declared.node.Node.{Node}
use Rattle.script_state.specs.Readings.{Reading}
use Rattle.smt_build.specs.Names.{IsDeclared}
use Rattle.scope_selectors.specs.declared.live.Live.{Live}
use Rattle.script_state.specs.declared.answer.Answer.{Answer}
use Rattle.script_state.specs.declared.answer.Answer.TheVariants.{Check}
use Rattle.script_state.specs.declared.answer.Asked.{Asked}
use Rattle.script_state.specs.declared.answer.Verdict.{Verdict}
use Rattle.script_state.specs.declared.answer.Verdict.TheVariants as verdict
use Rattle.script_state.specs.States.{StateValue, concluded, assumptions}
use Rattle.script_state.specs.Steps.{step, settled}
use Rattle.proof_log.specs.declared.entry.Entry.{Entry}
use Rattle.proof_log.specs.declared.entry.Entry.TheVariants as entry
use Rattle.proof_log.specs.Logs.{Asserted, clause_at, state_of}
use Rattle.proof_log.specs.Faults.{IsValid, terms_after}
use Rattle.proof_text.specs.declared.line.Format.{Format}
use Rattle.proof_text.specs.declared.line.Format.TheVariants.{Two}
use Rattle.proof_text.specs.declared.line.Line.{Line}
use Rattle.proof_text.specs.declared.line.Line.TheVariants as line
use Rattle.proof_text.specs.Lines.{IsLine}
use Rattle.proof_text.specs.Deletions.{AreDeletable, cites, is_deleted}
use Rattle.proof_text.specs.Entries.{entry_line}
use Rattle.proof_text.specs.Records.{AreWritten, record_lines}
use Rattle.proof_text.specs.declared.record.Record.{Record}
use Rattle.proof_text.specs.declared.record.Record.TheVariants.{Sat, Unsat, Unknown}
use Rattle.accepted_proof.specs.Models.{IsWrittenModel}
use Rattle.accepted_proof.specs.Searching.{Limits, IsUnknown, IsUnknownWithout}

-- ---- steps of a check

-- what a step names of the script is as the script has it: an assertion with its term, a declaration with its signature
abbrev pub IsOfScript : StateValue → Entry → Type 0
IsOfScript s (entry.Node n) = IsDeclared s.symbols.signatures n.op
IsOfScript s (entry.Selector a t) = slice_get s.scopes.terms a ≡ Some t
IsOfScript s _ = Unit {0}

-- the terms after a step
abbrev pub with_step : StateValue → Entry → StateValue
with_step s e = record { symbols = s.symbols; terms = terms_after s.terms e; scopes = s.scopes; options = s.options; standing = s.standing; assumed = s.assumed }

abbrev pub with_steps : StateValue → List Entry → StateValue
with_steps s [] = s
with_steps s (e ∷ es) = with_steps (with_step s e) es

-- each step is valid against the terms and the log before it, and has a line
abbrev pub AreStepsOf : StateValue → List Entry → List Entry → Type 0
AreStepsOf s log [] = Unit {0}
AreStepsOf s log (e ∷ es) = IsValid s.terms (state_of s.terms.nodes log) e × IsOfScript s e × IsSome (entry_line e) × AreStepsOf (with_step s e) (log ++ e ∷ []) es

-- ---- records

-- the literal is the negated selector of a live assertion
pub record IsAgainst (s : StateValue) (nodes : List Node) (log : List Entry) (l : Literal) : Type 0 where
  pub assertion : Live
  pub live : Contains s.scopes.live assertion
  pub selector : Asserted
  pub made : (state_of nodes log).selectors assertion.assertion ≡ Some selector
  pub negation : l ≡ negated selector.literal

-- the literal is the negated bit of an assumption
pub record IsAgainstAssumed (s : StateValue) (nodes : List Node) (log : List Entry) (l : Literal) : Type 0 where
  pub assumption : Asked
  pub assumed : Contains (assumptions s) assumption
  pub bit : Literal
  pub bits : (state_of nodes log).bits assumption.term ≡ Some (bit ∷ [])
  pub negation : l ≡ negated bit

abbrev pub IsAgainstOne : StateValue → List Node → List Entry → Literal → Type 0
IsAgainstOne s nodes log l = IsAgainst s nodes log l ⊎ IsAgainstAssumed s nodes log l

-- the first clause of the position has negated selectors of live assertions and negated bits of assumptions alone
pub record IsRefutation (s : StateValue) (nodes : List Node) (log : List Entry) (p : ℕ) : Type 0 where
  pub clause : List Literal
  pub stands : clause_at (state_of nodes log).clauses (record { pos = p; part = 0 }) ≡ Some clause
  pub against : AllByRecursion (IsAgainstOne s nodes log) clause

-- the record may end a check of the live assertions under the assumptions, within these limits, over these terms and this log
abbrev pub IsShown : Limits → StateValue → List Node → List Entry → Record → Type 0
IsShown limits s nodes log (Sat values) = AreWritten (Sat values) × IsWrittenModel s values
IsShown limits s nodes log (Unsat p) = IsRefutation s nodes log p
IsShown limits s nodes log (Unknown d) = IsUnknown limits s nodes log d

-- the same where these places were deleted before: an `unsat` names none of them, and a search holds none at its start
abbrev pub IsShownWithout : List ℕ → Limits → StateValue → List Node → List Entry → Record → Type 0
IsShownWithout deleted limits s nodes log (Sat values) = AreWritten (Sat values) × IsWrittenModel s values
IsShownWithout deleted limits s nodes log (Unsat p) = (is_deleted deleted p ≡ false) × IsRefutation s nodes log p
IsShownWithout deleted limits s nodes log (Unknown d) = IsUnknownWithout deleted limits s nodes log d

-- the verdict that a record shows
abbrev pub verdict_of : Record → Verdict
verdict_of (Sat values) = verdict.Sat
verdict_of (Unsat p) = verdict.Unsat
verdict_of (Unknown d) = verdict.Unknown

-- ---- turns

-- the line on which the command begins, what it reads as, its answer, and the steps and the record of its check
pub record Turn : Type 0 where
  pub line : ℕ
  pub says : Reading
  pub answer : Answer
  pub steps : List Entry
  pub shown : Option Record

-- a check has steps and a record, and no other command has
abbrev pub HasProof : Limits → Answer → StateValue → List Entry → List Entry → Option Record → Type 0
HasProof limits Check s log steps None = ⊥
HasProof limits Check s log steps (Some r) = AreStepsOf s log steps × IsShown limits s (with_steps s steps).terms.nodes (log ++ steps) r
HasProof limits _ s log steps shown = (steps ≡ []) × (shown ≡ None)

-- the turn may follow in this state, with this log, within these limits
pub record IsTurn (limits : Limits) (s : StateValue) (log : List Entry) (t : Turn) : Type 0 where
  pub answer : t.answer ≡ (step s t.says).0
  pub proof : HasProof limits t.answer (step s t.says).1 log t.steps t.shown

-- a check that has a record stands with its verdict
abbrev pub concluded_by : StateValue → Option Record → StateValue
concluded_by s None = s
concluded_by s (Some r) = concluded s (verdict_of r)

-- the terms of `get-value` are forgotten
abbrev pub state_after : StateValue → Turn → StateValue
state_after s t = settled s t.answer (concluded_by (with_steps (step s t.says).1 t.steps) t.shown)

-- the turns may follow one after the other
abbrev pub AreTurns : Limits → StateValue → List Entry → List Turn → Type 0
AreTurns limits s log [] = Unit {0}
AreTurns limits s log (t ∷ ts) = IsTurn limits s log t × AreTurns limits (state_after s t) (log ++ t.steps) ts

-- ---- parts

-- what stands in a proof before the record of a check: a step, or the deletion of places
pub data Item : Type 0 where
  Step : (entry : Entry) → Item
  Delete : (places : List ℕ) → Item

abbrev pub steps_in : List Item → List Entry
steps_in [] = []
steps_in (Step e ∷ items) = e ∷ steps_in items
steps_in (Delete places ∷ items) = steps_in items

abbrev pub item_lines : Item → List Line
item_lines (Step e) = option_to_list (entry_line e)
item_lines (Delete places) = line.Delete places ∷ []

abbrev pub shown_lines : Option Record → List Line
shown_lines None = []
shown_lines (Some r) = record_lines r

-- the places that are deleted behind the items
abbrev pub deleted_behind : List ℕ → List Item → List ℕ
deleted_behind deleted [] = deleted
deleted_behind deleted (Step e ∷ items) = deleted_behind deleted items
deleted_behind deleted (Delete places ∷ items) = deleted_behind (deleted ++ places) items

-- In the second format alone places are deleted, those of lemmas and chains, each once; and no chain cites what is deleted
-- before it.
abbrev pub AreKept : Format → List ℕ → List Entry → List Item → Type 0
AreKept format deleted log [] = Unit {0}
AreKept format deleted log (Step e ∷ items) = (cites deleted e ≡ false) × AreKept format deleted (log ++ e ∷ []) items
AreKept format deleted log (Delete places ∷ items) = (format ≡ Two) × AreDeletable log deleted places × AreKept format (deleted ++ places) log items

-- what stands in a proof for a turn
pub record Part : Type 0 where
  pub line : ℕ
  pub says : Reading
  pub answer : Answer
  pub items : List Item
  pub shown : Option Record

abbrev pub turn_of : Part → Turn
turn_of p = record { line = p.line; says = p.says; answer = p.answer; steps = steps_in p.items; shown = p.shown }

abbrev pub part_lines : Part → List Line
part_lines p = flat_map item_lines p.items ++ shown_lines p.shown

-- a check has items and a record, and no other command has
abbrev pub HasPart : Format → Limits → Answer → StateValue → List Entry → List ℕ → List Item → Option Record → Type 0
HasPart format limits Check s log deleted items None = ⊥
HasPart format limits Check s log deleted items (Some r) =
    AreStepsOf s log (steps_in items) × AreKept format deleted log items × IsShownWithout (deleted_behind deleted items) limits s (with_steps s (steps_in items)).terms.nodes (log ++ steps_in items) r
HasPart format limits _ s log deleted items shown = (items ≡ []) × (shown ≡ None)

-- The turn may follow in this state, with this log, where these places were deleted before. Each of its lines can be read: a
-- step may be valid whose numbers are too large for a line, such as a rotation by 2^64, and no check takes it.
pub record IsPart (format : Format) (limits : Limits) (s : StateValue) (log : List Entry) (deleted : List ℕ) (p : Part) : Type 0 where
  pub answer : p.answer ≡ (step s p.says).0
  pub proof : HasPart format limits p.answer (step s p.says).1 log deleted p.items p.shown
  pub readable : AllByRecursion IsLine (part_lines p)

-- they may follow one after the other
abbrev pub AreParts : Format → Limits → StateValue → List Entry → List ℕ → List Part → Type 0
AreParts format limits s log deleted [] = Unit {0}
AreParts format limits s log deleted (p ∷ ps) = IsPart format limits s log deleted p × AreParts format limits (state_after s (turn_of p)) (log ++ steps_in p.items) (deleted_behind deleted p.items) ps
