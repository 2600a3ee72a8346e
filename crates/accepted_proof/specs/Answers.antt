-- The texts of answers and of proofs.
use Rattle.std.specs.Prelude.{ℕ, ◌==◌, suc, Bool, true, false, List, [], ◌∷◌, ◌++◌, codes, length, map, slice_get, if◌then◌else◌, Option, Some, None}
use Rattle.std.specs.List.{flat_map}
use Rattle.std.specs.Fmt.{decimal}
use Rattle.script_state.specs.declared.answer.Answer.{Answer}
use Rattle.script_state.specs.declared.answer.Answer.TheVariants.{Done, Refused, Check, Says, Model, Values, Core, Assumptions, Exit}
use Rattle.script_state.specs.declared.answer.Asked.{Asked}
use Rattle.script_state.specs.declared.answer.Verdict.{Verdict}
use Rattle.script_state.specs.declared.answer.Verdict.TheVariants as verdict
use Rattle.script_state.specs.declared.error_text.ErrorText.{ErrorText}
use Rattle.script_state.specs.ErrorTexts.{text_of}
use Rattle.script_state.specs.declared.options.Options.{Options}
use Rattle.script_state.specs.States.{StateValue, no_state}
use Rattle.script_state.specs.Steps.{step}
use Rattle.smt_text.specs.Printing.{symbol_text}
use Rattle.smt_terms.specs.declared.sort.Sort.{Sort}
use Rattle.smt_terms.specs.declared.sort.Sort.TheVariants as sort
use Rattle.smt_terms.specs.declared.sort.Signature.{Signature}
use Rattle.smt_terms.specs.declared.scalar.Scalar.{Scalar}
use Rattle.smt_values.specs.declared.table.Row.{Row}
use Rattle.smt_values.specs.Held.{meaning}
use Rattle.smt_values.specs.declared.value.Value.{Value}
use Rattle.smt_values.specs.declared.value.Value.TheVariants as held
use Rattle.smt_build.specs.declared.symbols.LiveName.{LiveName}
use Rattle.cnf_base.specs.Literals.{Literal}
use Rattle.smt_terms.specs.declared.node.Node.{Node}
use Rattle.smt_terms.specs.Values.{Value as MeaningValue, VBool, VWord, VArray, Interpretation, value}
use Rattle.proof_log.specs.declared.entry.Entry.{Entry}
use Rattle.proof_log.specs.Logs.{LogState, state_of}
use Rattle.proof_text.specs.declared.line.Format.{Format}
use Rattle.proof_text.specs.declared.line.Line.TheVariants as line
use Rattle.proof_text.specs.declared.record.Record.{Record}
use Rattle.proof_text.specs.declared.record.Record.TheVariants.{Sat}
use Rattle.proof_text.specs.declared.list.WrittenScalar.TheVariants as plain
use Rattle.proof_text.specs.Lines.{digits_text, joined, line_text, scalar_text}
use Rattle.proof_text.specs.Records.{binary, written_scalar}
use Rattle.accepted_proof.specs.Models.{value_for, interpretation_of}
use Rattle.accepted_proof.specs.Searching.{Limits}
use Rattle.accepted_proof.specs.Cores.{core_names, blamed_assumptions, refuting_clause}
use Rattle.accepted_proof.specs.Turns.{Turn, Part, verdict_of, state_after, part_lines}

-- ---- answers (SMT-LIB 2.6, section 4.1.1)

-- an error, with the line of the command's first byte
abbrev pub error_text : ℕ → ErrorText → List ℕ
error_text line error = codes "(error \"line " ++ decimal line ++ codes ": " ++ text_of error ++ codes "\")" ++ 10 ∷ []

abbrev pub verdict_text : Verdict → List ℕ
verdict_text verdict.Sat = codes "sat" ++ 10 ∷ []
verdict_text verdict.Unsat = codes "unsat" ++ 10 ∷ []
verdict_text verdict.Unknown = codes "unknown" ++ 10 ∷ []

abbrev pub shown_text : Option Record → List ℕ
shown_text None = []
shown_text (Some r) = verdict_text (verdict_of r)

-- ---- sorts

abbrev pub word_sort_text : ℕ → List ℕ
word_sort_text n = codes "(_ BitVec " ++ decimal n ++ codes ")"

abbrev pub sort_text : Sort → List ℕ
sort_text sort.Bool = codes "Bool"
sort_text (sort.Word n) = word_sort_text n
sort_text (sort.Array n m) = codes "(Array " ++ word_sort_text n ++ codes " " ++ word_sort_text m ++ codes ")"

-- ---- values (SMT-LIB 2.6, section 4.2.6)

-- a word by its digits, as in the lines of a proof
abbrev pub word_text : ℕ → ℕ → List ℕ
word_text n x = digits_text (binary n x)

-- an array into which an entry is stored, where the array has another element by default
abbrev pub store_text : ℕ → ℕ → ℕ → ℕ × ℕ → List ℕ → List ℕ
store_text n m default e inside = if e.1 == default then inside else codes "(store " ++ inside ++ codes " " ++ word_text n e.0 ++ codes " " ++ word_text m e.1 ++ codes ")"

-- one after the other, the first innermost
abbrev pub stores_text : ℕ → ℕ → ℕ → List (ℕ × ℕ) → List ℕ → List ℕ
stores_text n m default [] inside = inside
stores_text n m default (e ∷ es) inside = stores_text n m default es (store_text n m default e inside)

-- the array with this element at every index
abbrev pub constant_text : ℕ → ℕ → ℕ → List ℕ
constant_text n m x = codes "((as const " ++ sort_text (sort.Array n m) ++ codes ") " ++ word_text m x ++ codes ")"

-- a truth value, a word, or an array, whose held entries are stored into a constant one
abbrev pub meaning_text : MeaningValue → List ℕ
meaning_text (VBool b) = scalar_text (plain.Bool b)
meaning_text (VWord n x) = word_text n x
meaning_text (VArray n m a) = stores_text n m a.default a.entries (constant_text n m a.default)

-- ---- models (section 4.2.6)

abbrev pub parameter_name : ℕ → List ℕ
parameter_name k = codes "x!" ++ decimal k

abbrev pub parameter_text : ℕ → Sort → List ℕ
parameter_text k s = codes "(" ++ parameter_name k ++ codes " " ++ sort_text s ++ codes ")"

abbrev pub shown_scalar : Scalar → List ℕ
shown_scalar v = scalar_text (written_scalar v)

-- the parameter has this value
abbrev pub equality_text : ℕ → Scalar → List ℕ
equality_text k v = codes "(= " ++ parameter_name k ++ codes " " ++ shown_scalar v ++ codes ")"

-- each by its number, which are counted from this one
abbrev pub numbered : {A : Type 0} → (ℕ → A → List ℕ) → ℕ → List A → List (List ℕ)
numbered text k [] = []
numbered text k (x ∷ xs) = text k x ∷ numbered text (suc k) xs

abbrev pub listed : {A : Type 0} → (ℕ → A → List ℕ) → List A → List ℕ
listed text xs = joined (numbered text 0 xs)

-- the parameters have these values
abbrev pub condition_text : List Scalar → List ℕ
condition_text args = if length args == 1 then listed equality_text args else codes "(and " ++ listed equality_text args ++ codes ")"

-- the value of the row whose arguments the parameters are, the first of them outermost; the default where there is none
abbrev pub rows_text : Scalar → List Row → List ℕ
rows_text default [] = shown_scalar default
rows_text default (r ∷ rs) = codes "(ite " ++ condition_text r.args ++ codes " " ++ shown_scalar r.value ++ codes " " ++ rows_text default rs ++ codes ")"

-- the value of a constant, or of a function at its parameters
abbrev pub value_text : Value → List ℕ
value_text (held.Fun t) = rows_text t.default t.rows
value_text v = meaning_text (meaning v)

-- the constant or function of a name, with this value
abbrev pub definition_text : List ℕ → Signature → Value → List ℕ
definition_text name g v = codes "(define-fun " ++ symbol_text name ++ codes " (" ++ listed parameter_text g.args ++ codes ") " ++ sort_text g.value ++ codes " " ++ value_text v ++ codes ")" ++ 10 ∷ []

abbrev pub definition_by : List ℕ → Option Signature → Option Value → List ℕ
definition_by name (Some g) (Some v) = definition_text name g v
definition_by name _ _ = []

-- the live names in the order of their declarations, each with its value
abbrev pub definitions_text : StateValue → List (ℕ × Value) → List ℕ
definitions_text s values = flat_map (λ (l : LiveName). definition_by l.name (slice_get s.symbols.signatures l.declaration) (value_for values l.declaration)) s.symbols.live

abbrev pub model_text : StateValue → Option Record → List ℕ
model_text s (Some (Sat values)) = codes "(" ++ 10 ∷ [] ++ definitions_text s values ++ codes ")" ++ 10 ∷ []
model_text s _ = []

-- ---- terms that are asked for (section 4.2.6)

-- the term as it was written, and its value
abbrev pub asked_text : List Node → Interpretation → Asked → List ℕ
asked_text nodes M a = codes "(" ++ a.text ++ codes " " ++ meaning_text (value M nodes a.term) ++ codes ")"

-- in parentheses, with one space between
abbrev pub list_text : List (List ℕ) → List ℕ
list_text items = codes "(" ++ joined items ++ codes ")" ++ 10 ∷ []

abbrev pub values_text : List Node → List Asked → Option Record → List ℕ
values_text nodes asked (Some (Sat values)) = list_text (map (asked_text nodes (interpretation_of values)) asked)
values_text nodes asked _ = []

-- ---- cores (section 4.2.7)

-- the names of a core, as they can be read back
abbrev pub core_text : StateValue → LogState → Option (List Literal) → List ℕ
core_text s log (Some clause) = list_text (map symbol_text (core_names s log clause))
core_text s log None = []

-- the assumptions that are blamed, as they were written
abbrev pub assumptions_text : StateValue → LogState → Option (List Literal) → List ℕ
assumptions_text s log (Some clause) = list_text (map (λ (a : Asked). a.text) (blamed_assumptions s log clause))
assumptions_text s log None = []

-- ---- the answers to commands

abbrev pub done_text : Options → List ℕ
done_text o = if o.print_success then codes "success" ++ 10 ∷ [] else []

-- how it is answered: the line on which the command begins, the state then, the log, the record of the last check before,
-- and that of the command's own
abbrev pub answer_text : ℕ → Answer → StateValue → List Entry → Option Record → Option Record → List ℕ
answer_text line Done s log last shown = done_text s.options
answer_text line (Refused error) s log last shown = error_text line error
answer_text line Check s log last shown = shown_text shown
answer_text line (Says text) s log last shown = text ++ 10 ∷ []
answer_text line Model s log last shown = model_text s last
answer_text line (Values asked) s log last shown = values_text s.terms.nodes asked last
answer_text line Core s log last shown = core_text s (state_of s.terms.nodes log) (refuting_clause (state_of s.terms.nodes log) last)
answer_text line Assumptions s log last shown = assumptions_text s (state_of s.terms.nodes log) (refuting_clause (state_of s.terms.nodes log) last)
answer_text line Exit s log last shown = done_text s.options

-- in this state, with this log, where the last check before has this record
abbrev pub turn_text : StateValue → List Entry → Option Record → Turn → List ℕ
turn_text s log last t = answer_text t.line t.answer (step s t.says).1 log last t.shown

-- the record of the last check
abbrev pub last_shown : Option Record → Option Record → Option Record
last_shown last None = last
last_shown last (Some r) = Some r

abbrev pub answers_from : StateValue → List Entry → Option Record → List Turn → List ℕ
answers_from s log last [] = []
answers_from s log last (t ∷ ts) = turn_text s log last t ++ answers_from (state_after s t) (log ++ t.steps) (last_shown last t.shown) ts

abbrev pub answers_of : List Turn → List ℕ
answers_of turns = answers_from no_state [] None turns

-- ---- errors

abbrev pub is_error : Answer → Bool
is_error (Refused error) = true
is_error _ = false

abbrev pub is_refused : Turn → Bool
is_refused t = is_error t.answer

-- ---- proofs

abbrev pub header_of : Format → Limits → List ℕ
header_of format limits = line_text (line.Header format limits.cubes limits.budget)

-- the header, and the lines of the parts
abbrev pub written_of : Format → Limits → List Part → List ℕ
written_of format limits parts = header_of format limits ++ flat_map line_text (flat_map part_lines parts)
