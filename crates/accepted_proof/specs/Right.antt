-- What answers say (SMT-LIB 2.6, section 4.2.5), without a word of how they were found.
use Rattle.std.specs.Prelude.{◌≡◌, ℕ, List, [], ◌∷◌, ◌++◌, Option, Some, None}
use Rattle.cnf_base.specs.Literals.{Literal}
use Rattle.smt_values.specs.declared.value.Value.{Value}
use Rattle.script_state.specs.declared.answer.Answer.{Answer}
use Rattle.script_state.specs.declared.answer.Answer.TheVariants.{Model, Values, Core, Assumptions}
use Rattle.script_state.specs.States.{StateValue}
use Rattle.script_state.specs.Steps.{step}
use Rattle.proof_log.specs.declared.entry.Entry.{Entry}
use Rattle.proof_log.specs.Logs.{LogState, state_of}
use Rattle.proof_text.specs.declared.record.Record.{Record}
use Rattle.proof_text.specs.declared.record.Record.TheVariants.{Sat, Unsat, Unknown}
use Rattle.accepted_proof.specs.Models.{IsWrittenModel, HasNoModel}
use Rattle.accepted_proof.specs.Cores.{refuting_clause, IsCore, AreUnsatAssumptions}
use Rattle.accepted_proof.specs.Turns.{Turn, state_after}
use Rattle.accepted_proof.specs.Answers.{last_shown}

-- a `sat` stands beside a model of the live assertions and the assumptions, and where there is an `unsat` they have none
abbrev pub IsRight : StateValue → Option Record → Type 0
IsRight s None = Unit {0}
IsRight s (Some (Sat values)) = IsWrittenModel s values
IsRight s (Some (Unsat p)) = HasNoModel s
IsRight s (Some (Unknown d)) = Unit {0}

abbrev pub AreRight : StateValue → List Turn → Type 0
AreRight s [] = Unit {0}
AreRight s (t ∷ ts) = IsRight (step s t.says).1 t.shown × AreRight (state_after s t) ts

-- the last check before has the record of a model, and it is one of the assertions that are live now
abbrev pub HasModel : StateValue → Option Record → Type 0
HasModel s last = (values : List (ℕ × Value)) × (last ≡ Some (Sat values)) × IsWrittenModel s values

-- the last check before has the record of a refutation, with a clause of which this holds
abbrev pub HasRefutation : LogState → Option Record → (List Literal → Type 0) → Type 0
HasRefutation log last P = (clause : List Literal) × (refuting_clause log last ≡ Some clause) × P clause

-- Where a model or values are printed, they are those of the last check, whose model makes true what is live now. Where the
-- names of a core are printed, it has no model with the unnamed live assertions and the assumptions; where assumptions are,
-- they have none with the live assertions.
abbrev pub IsPrinted : StateValue → List Entry → Option Record → Answer → Type 0
IsPrinted s log last Model = HasModel s last
IsPrinted s log last (Values asked) = HasModel s last
IsPrinted s log last Core = HasRefutation (state_of s.terms.nodes log) last (IsCore s (state_of s.terms.nodes log))
IsPrinted s log last Assumptions = HasRefutation (state_of s.terms.nodes log) last (AreUnsatAssumptions s (state_of s.terms.nodes log))
IsPrinted s log last _ = Unit {0}

-- from this state on, with this log, where the last check before has this record
abbrev pub ArePrinted : StateValue → List Entry → Option Record → List Turn → Type 0
ArePrinted s log last [] = Unit {0}
ArePrinted s log last (t ∷ ts) = IsPrinted s log last t.answer × ArePrinted (state_after s t) (log ++ t.steps) (last_shown last t.shown) ts
