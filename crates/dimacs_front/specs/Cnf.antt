-- What a DIMACS text says: clauses, or its first fault. A line that begins with `c` says nothing,
-- one that begins with `%` ends the text. The first other line that is not blank is the header;
-- what follows are numbers, and 0 ends a clause.
use Rattle.std.specs.Prelude.{◌≡◌, ℕ, ◌+◌, ◌^◌, ◌==◌, nat_lt, nat_le, Bool, true, false, not, ◌&&◌, if◌then◌else◌, List, [], ◌∷◌, codes, length, Option, Some, None, Result, Ok, Err}
use Rattle.std.specs.Str.{bytes_eq}
use Rattle.cnf_base.specs.Literals.{Literal}
use Rattle.cnf_base.specs.Clauses.{all_true}
use Rattle.dimacs_front.specs.Words.{lines_of, lines_from, begins_with, words_of, whole_of, number_of}
use Rattle.dimacs_front.specs.Rows.{RowsValue, no_rows, with_literal, ended}
use Rattle.dimacs_front.specs.declared.number.Number.{Number}
use Rattle.dimacs_front.specs.declared.cnf.Header.{Header}
use Rattle.dimacs_front.specs.declared.cnf.CnfKind.{CnfKind}
use Rattle.dimacs_front.specs.declared.cnf.CnfKind.TheVariants as fault
use Rattle.dimacs_front.specs.declared.cnf.CnfFault.{CnfFault}
use Rattle.dimacs_front.specs.declared.stop.Stop.{Stop}
use Rattle.dimacs_front.specs.declared.stop.Stop.TheVariants as stop

-- how many variables there are, and the clauses
pub record CnfValue : Type 0 where
  pub variables : ℕ
  pub clauses : List (List Literal)

-- each clause has a literal that is true
abbrev pub Satisfies : (ℕ → Bool) → CnfValue → Type 0
Satisfies v cnf = all_true v cnf.clauses ≡ true

-- no assignment does that
abbrev pub IsUnsatisfiable : CnfValue → Type 0
IsUnsatisfiable cnf = (v : ℕ → Bool) → ¬ (Satisfies v cnf)

-- what follows from a value, where there is one
abbrev pub and_then : {A B E : Type 0} → Result A E → (A → Result B E) → Result B E
and_then (Err e) f = Err e
and_then (Ok x) f = f x

-- ---- the header

-- the most variables, and the most clauses
abbrev pub most : ℕ
most = 2 ^ 30

abbrev pub sizes : Option ℕ → Option ℕ → Result Header CnfKind
sizes (Some v) (Some c) = if nat_le v most && nat_le c most then Ok (record { variables = v; clauses = c }) else Err fault.Large
sizes _ _ = Err fault.Header

-- the words behind `p cnf`, where there are two
abbrev pub header_words : List (List ℕ) → Option (List ℕ × List ℕ)
header_words (p ∷ cnf ∷ v ∷ c ∷ []) = if bytes_eq p (codes "p") && bytes_eq cnf (codes "cnf") then Some (v, c) else None
header_words _ = None

abbrev pub sizes_in : Option (List ℕ × List ℕ) → Result Header CnfKind
sizes_in None = Err fault.Header
sizes_in (Some r) = sizes (whole_of r.0) (whole_of r.1)

-- `p cnf V C`
abbrev pub header_of : List (List ℕ) → Result Header CnfKind
header_of ws = sizes_in (header_words ws)

-- ---- clauses

-- the literal of a number that is not 0
abbrev pub literal_of : Number → Literal
literal_of n = record { variable = n.size; positive = not n.negative }

-- 0 ends a clause, where there is one more; each other number is a literal
abbrev pub with_number : Header → RowsValue → Option Number → Result RowsValue CnfKind
with_number h r None = Err fault.Token
with_number h r (Some n) =
    if n.size == 0
    then (if nat_lt (length r.clauses) h.clauses then Ok (ended r) else Err fault.Count)
    else (if nat_le n.size h.variables then Ok (with_literal r (literal_of n)) else Err fault.Literal)

unfoldable pub with_words : Header → RowsValue → List (List ℕ) → Result RowsValue CnfKind
with_words h r [] = Ok r
with_words h r (w ∷ ws) = and_then (with_number h r (number_of w)) (λ more. with_words h more ws)

-- ---- lines

-- what was read: the header, where it stands, and the clauses behind it
pub record Reading : Type 0 where
  pub header : Option Header
  pub rows : RowsValue

abbrev pub reading : Option Header → RowsValue → Reading
reading header rows = record { header = header; rows = rows }

abbrev pub with_header : RowsValue → Result Header CnfKind → Result Reading CnfKind
with_header rows h = and_then h (λ header. Ok (reading (Some header) rows))

abbrev pub with_rows : Header → Result RowsValue CnfKind → Result Reading CnfKind
with_rows h rows = and_then rows (λ r. Ok (reading (Some h) r))

abbrev pub of_words : Option Header → RowsValue → List (List ℕ) → Result Reading CnfKind
of_words (Some h) rows ws = with_rows h (with_words h rows ws)
of_words None rows [] = Ok (reading None rows)
of_words None rows (w ∷ ws) = with_header rows (header_of (w ∷ ws))

abbrev pub with_line : Reading → List ℕ → Result Reading CnfKind
with_line s line = if begins_with 99 line then Ok s else of_words s.header s.rows (words_of line)

-- ---- the end

-- the last clause is ended, and there are as many as the header says
abbrev pub whole_cnf : Header → RowsValue → Result CnfValue CnfKind
whole_cnf h r =
    if length r.begun == 0
    then (if length r.clauses == h.clauses then Ok (record { variables = h.variables; clauses = r.clauses }) else Err fault.Count)
    else Err fault.Unfinished

abbrev pub cnf_in : Option Header → RowsValue → Result CnfValue CnfKind
cnf_in None rows = Err fault.Header
cnf_in (Some h) rows = whole_cnf h rows

-- a fault is told with its line
abbrev pub at_line : {A : Type 0} → ℕ → Result A CnfKind → Result A CnfFault
at_line n (Ok x) = Ok x
at_line n (Err kind) = Err (record { line = n; kind = kind })

-- the last line of a text of so many lines; one without a line ends at line 1
abbrev pub last_line : ℕ → ℕ
last_line n = if n == 0 then 1 else n

abbrev pub at_end : ℕ → Reading → Result CnfValue CnfFault
at_end n s = at_line (last_line n) (cnf_in s.header s.rows)

-- the lines that follow on the first n
unfoldable pub with_lines : ℕ → Reading → List (List ℕ) → Result CnfValue CnfFault
with_lines n s [] = at_end n s
with_lines n s (l ∷ ls) = if begins_with 37 l then at_end (n + 1) s else and_then (at_line (n + 1) (with_line s l)) (λ more. with_lines (n + 1) more ls)

-- the clauses that a text says, or its first fault
abbrev pub cnf_of : List ℕ → Result CnfValue CnfFault
cnf_of text = with_lines 0 (reading None no_rows) (lines_of text)

-- what ends the reading of a part: its fault, or memory, of which nothing is said
abbrev pub StopsAt : {A E : Type 0} → Result A E → Stop E → Type 0
StopsAt r (stop.Fault e) = r ≡ Err e
StopsAt r stop.NoMemory = Unit {0}

-- ---- in pieces

-- what was read of a text: its whole lines, the bytes of the one that is begun, and whether a line
-- has ended the text
pub record Held : Type 0 where
  pub lines : ℕ
  pub reading : Reading
  pub begun : List ℕ
  pub is_over : Bool

abbrev pub nothing_held : Held
nothing_held = record { lines = 0; reading = reading None no_rows; begun = []; is_over = false }

-- what the text says where these lines are the next ones
abbrev pub on_lines : Held → List (List ℕ) → Result CnfValue CnfFault
on_lines h rest = if h.is_over then at_end h.lines h.reading else with_lines h.lines h.reading rest

-- what the text says that goes on with these bytes
abbrev pub goes_on : Held → List ℕ → Result CnfValue CnfFault
goes_on h more = on_lines h (lines_from h.begun more)

-- a line is begun that the end of the text makes whole
abbrev pub has_rest : Held → Bool
has_rest h = not h.is_over && not (length h.begun == 0)
