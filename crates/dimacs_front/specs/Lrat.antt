-- What an LRAT text is judged to be: a refutation of clauses, or its first fault. Clauses have
-- numbers, from 1. A line adds a clause under a number above all before, with the numbers of its
-- hints, or it deletes clauses.
use Rattle.std.specs.Prelude.{ℕ, zero, suc, ◌+◌, ◌-◌, ◌==◌, nat_le, nat_lt, Bool, true, false, ◌&&◌, ◌||◌, if◌then◌else◌, List, [], ◌∷◌, ◌++◌, codes, length, map, slice_get, slice_set, Option, Some, None, Result, Ok, Err}
use Rattle.std.specs.List.{list_any, list_all}
use Rattle.std.specs.Str.{bytes_eq}
use Rattle.cnf_base.specs.Literals.{Literal, negated, code_of}
use Rattle.dimacs_front.specs.Words.{lines_of, lines_from, begins_with, words_of, whole_of, number_of}
use Rattle.dimacs_front.specs.Cnf.{CnfValue, and_then, literal_of}
use Rattle.dimacs_front.specs.declared.number.Number.{Number}
use Rattle.dimacs_front.specs.declared.shape.Shape.{Shape}
use Rattle.dimacs_front.specs.declared.shape.Shape.TheVariants.{AllFalse, OneOpen, Many}
use Rattle.dimacs_front.specs.declared.step.Step.{Step}
use Rattle.dimacs_front.specs.declared.step.Step.TheVariants.{Add, Delete}
use Rattle.dimacs_front.specs.declared.lrat.LratKind.{LratKind}
use Rattle.dimacs_front.specs.declared.lrat.LratKind.TheVariants as fault
use Rattle.dimacs_front.specs.declared.lrat.LratFault.{LratFault}

-- ---- lines

abbrev pub or_else : {A B : Type 0} → Option A → (A → Option B) → Option B
or_else None f = None
or_else (Some x) f = f x

-- one more in front
abbrev pub and_front : {A B : Type 0} → A → Option (List A × B) → Option (List A × B)
and_front x None = None
and_front x (Some r) = Some (x ∷ r.0, r.1)

-- 0 ends the numbers
abbrev pub with_front : {B : Type 0} → Option Number → B → Option (List Number × B) → Option (List Number × B)
with_front None rest more = None
with_front (Some n) rest more = if n.size == 0 then Some ([], rest) else and_front n more

-- the numbers up to 0, and the words behind it
unfoldable pub numbers_in : List (List ℕ) → Option (List Number × List (List ℕ))
numbers_in [] = None
numbers_in (w ∷ ws) = with_front (number_of w) ws (numbers_in ws)

-- the numbers up to 0, where no word is behind it
abbrev pub alone : Option (List Number × List (List ℕ)) → Option (List Number)
alone None = None
alone (Some (ns, [])) = Some ns
alone (Some (ns, w ∷ ws)) = None

-- literals of the first variables
abbrev pub is_in : ℕ → Number → Bool
is_in variables n = nat_lt 0 n.size && nat_le n.size variables

abbrev pub clause_in : ℕ → List Number → Option (List Literal)
clause_in variables ns = if list_all (is_in variables) ns then Some (map literal_of ns) else None

abbrev pub with_hints : ℕ → List Literal → Option (List Number) → Option Step
with_hints number clause None = None
with_hints number clause (Some hints) = Some (Add number clause hints)

-- `L.. 0 hints 0` behind a number
abbrev pub added_in : ℕ → ℕ → List (List ℕ) → Option Step
added_in variables number ws = or_else (numbers_in ws) (λ r. or_else (clause_in variables r.0) (λ clause. with_hints number clause (alone (numbers_in r.1))))

abbrev pub are_signed : List Number → Bool
are_signed ns = list_any (λ n. n.negative) ns

-- `ids 0` behind a `d`
abbrev pub deleted_in : List (List ℕ) → Option Step
deleted_in ws = or_else (alone (numbers_in ws)) (λ ns. if are_signed ns then None else Some (Delete ns))

-- `id L.. 0 hints 0`, or `id d ids 0`
abbrev pub step_behind : ℕ → ℕ → List (List ℕ) → Option Step
step_behind variables number [] = None
step_behind variables number (w ∷ ws) = if bytes_eq w (codes "d") then deleted_in ws else added_in variables number (w ∷ ws)

abbrev pub step_of : ℕ → List (List ℕ) → Option Step
step_of variables [] = None
step_of variables (w ∷ ws) = or_else (whole_of w) (λ number. step_behind variables number ws)

-- ---- clauses by number

-- the clause of each number so far, and which of them are held
pub record TableValue : Type 0 where
  pub clauses : List (List Literal)
  pub live : List Bool

abbrev pub is_live : Option Bool → Bool
is_live None = false
is_live (Some b) = b

-- the clause of a number, where it is held
abbrev pub held : TableValue → ℕ → Option (List Literal)
held t number = if is_live (slice_get t.live (number - 1)) then slice_get t.clauses (number - 1) else None

-- these numbers are held no longer
unfoldable pub without : TableValue → List Number → TableValue
without t [] = t
without t (n ∷ ns) = without (record { clauses = t.clauses; live = slice_set t.live (n.size - 1) false }) ns

-- the next number, with this clause
abbrev pub with_clause : TableValue → List Literal → Bool → TableValue
with_clause t clause live = record { clauses = t.clauses ++ clause ∷ []; live = t.live ++ live ∷ [] }

-- so many numbers that have no clause
unfoldable pub padded : ℕ → TableValue → TableValue
padded zero t = t
padded (suc n) t = padded n (with_clause t [] false)

-- a number above all before, with this clause
abbrev pub with_number : TableValue → ℕ → List Literal → TableValue
with_number t number clause = with_clause (padded (number - 1 - length t.clauses) t) clause true

-- ---- good lines

-- the literal is one of these
abbrev pub among : List Literal → Literal → Bool
among ls l = list_any (λ k. code_of k == code_of l) ls

-- a shape, and one more literal that is not false
abbrev pub joined : Shape → Literal → Shape
joined AllFalse l = OneOpen l
joined (OneOpen k) l = if code_of k == code_of l then OneOpen k else Many
joined Many l = Many

-- how many different literals are not false, where these are true
unfoldable pub shape_from : List Literal → Shape → List Literal → Shape
shape_from trues shape [] = shape
shape_from trues shape (l ∷ ls) = shape_from trues (if among trues (negated l) then shape else joined shape l) ls

-- the opposites of the literals, behind some; none where a literal stands beside its opposite
unfoldable pub opposites : List Literal → List Literal → Option (List Literal)
opposites trues [] = Some trues
opposites trues (l ∷ ls) = if among trues l then None else opposites (trues ++ negated l ∷ []) ls

-- a clause that is false ends the chain; one whose literals are false but one makes that one true
abbrev pub by_shape : Shape → (Literal → Bool) → Bool
by_shape AllFalse more = true
by_shape (OneOpen l) more = more l
by_shape Many more = false

abbrev pub by_hint : Option (List Literal) → List Literal → (Literal → Bool) → Bool
by_hint None trues more = false
by_hint (Some clause) trues more = by_shape (shape_from trues AllFalse clause) more

-- from these true literals the hints lead to a clause that is false; hints behind it are passed
-- over
unfoldable pub leads : TableValue → List Literal → List Number → Bool
leads t trues [] = false
leads t trues (n ∷ ns) = by_hint (held t n.size) trues (λ l. leads t (trues ++ l ∷ []) ns)

abbrev pub leads_from : TableValue → Option (List Literal) → List Number → Bool
leads_from t None hints = true
leads_from t (Some trues) hints = leads t trues hints

-- a literal of the clause stands beside its opposite, or from the opposites of its literals the
-- hints lead to a clause that is false
abbrev pub is_good : TableValue → List Literal → List Number → Bool
is_good t clause hints = leads_from t (opposites [] clause) hints

-- ---- the text

-- the clauses that are held, and whether an empty clause was among the input's or was added
pub record Judging : Type 0 where
  pub table : TableValue
  pub is_refuted : Bool

abbrev pub is_empty : List Literal → Bool
is_empty clause = length clause == 0

abbrev pub beginning : CnfValue → Judging
beginning cnf = record { table = record { clauses = cnf.clauses; live = map (λ c. true) cnf.clauses }; is_refuted = list_any is_empty cnf.clauses }

abbrev pub added : Judging → ℕ → List Literal → Judging
added j number clause = record { table = with_number j.table number clause; is_refuted = j.is_refuted || is_empty clause }

-- a clause is added where its number is above all before, no hint has a minus, and it is good
abbrev pub with_added : Judging → ℕ → List Literal → List Number → Result Judging LratKind
with_added j number clause hints =
    if nat_le number (length j.table.clauses)
    then Err fault.Order
    else (if are_signed hints then Err fault.Rat else (if is_good j.table clause hints then Ok (added j number clause) else Err fault.Chain))

abbrev pub with_step : Judging → Option Step → Result Judging LratKind
with_step j None = Err fault.Proof
with_step j (Some (Delete numbers)) = Ok (record { table = without j.table numbers; is_refuted = j.is_refuted })
with_step j (Some (Add number clause hints)) = with_added j number clause hints

abbrev pub by_words : ℕ → Judging → List (List ℕ) → Result Judging LratKind
by_words variables j [] = Ok j
by_words variables j (w ∷ ws) = with_step j (step_of variables (w ∷ ws))

-- blank lines and those that begin with `c` say nothing
abbrev pub judge_line : ℕ → Judging → List ℕ → Result Judging LratKind
judge_line variables j line = if begins_with 99 line then Ok j else by_words variables j (words_of line)

abbrev pub at_line : {A : Type 0} → ℕ → Result A LratKind → Result A LratFault
at_line n (Ok x) = Ok x
at_line n (Err kind) = Err (record { line = n; kind = kind })

-- at the end, behind so many lines, there was an empty clause
abbrev pub judge_end : ℕ → Judging → Result Unit LratFault
judge_end n j = if j.is_refuted then Ok tt else Err (record { line = n + 1; kind = fault.Empty })

unfoldable pub judge_lines : ℕ → ℕ → Judging → List (List ℕ) → Result Unit LratFault
judge_lines variables n j [] = judge_end n j
judge_lines variables n j (l ∷ ls) = and_then (at_line (n + 1) (judge_line variables j l)) (λ more. judge_lines variables (n + 1) more ls)

-- whether the text refutes the clauses, or its first fault
abbrev pub lrat_of : CnfValue → List ℕ → Result Unit LratFault
lrat_of cnf text = judge_lines cnf.variables 0 (beginning cnf) (lines_of text)

-- ---- in pieces

pub record Judged : Type 0 where
  pub variables : ℕ
  pub lines : ℕ
  pub judging : Judging
  pub begun : List ℕ

abbrev pub nothing_judged : CnfValue → Judged
nothing_judged cnf = record { variables = cnf.variables; lines = 0; judging = beginning cnf; begun = [] }

abbrev pub lrat_on_lines : Judged → List (List ℕ) → Result Unit LratFault
lrat_on_lines j rest = judge_lines j.variables j.lines j.judging rest

-- what is judged of the text that goes on with these bytes
abbrev pub lrat_goes_on : Judged → List ℕ → Result Unit LratFault
lrat_goes_on j more = lrat_on_lines j (lines_from j.begun more)
