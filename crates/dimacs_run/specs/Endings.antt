-- What is judged of clauses and a refutation of them, and what the user is told.
use Rattle.std.specs.Prelude.{◌≡◌, ℕ, List, [], ◌∷◌, ◌++◌, codes, Option, Some, None, IfSome, Result, Ok, Err}
use Rattle.std.specs.Fmt.{decimal}
use Rattle.dimacs_front.specs.Cnf.{CnfValue, IsUnsatisfiable, cnf_of}
use Rattle.dimacs_front.specs.Lrat.{lrat_of}
use Rattle.dimacs_front.specs.declared.cnf.CnfKind.{CnfKind}
use Rattle.dimacs_front.specs.declared.cnf.CnfKind.TheVariants as cnf
use Rattle.dimacs_front.specs.declared.cnf.CnfFault.{CnfFault}
use Rattle.dimacs_front.specs.declared.lrat.LratKind.{LratKind}
use Rattle.dimacs_front.specs.declared.lrat.LratKind.TheVariants as lrat
use Rattle.dimacs_front.specs.declared.lrat.LratFault.{LratFault}
use Rattle.dimacs_run.specs.declared.failure.Fault.{Fault}
use Rattle.dimacs_run.specs.declared.failure.Fault.TheVariants.{Clauses, Refutation}

-- ---- what is judged

abbrev pub fault_in : Result Unit LratFault → Option Fault
fault_in (Ok u) = None
fault_in (Err f) = Some (Refutation f)

abbrev pub fault_beside : List ℕ → Result CnfValue CnfFault → Option Fault
fault_beside lines (Ok clauses) = fault_in (lrat_of clauses lines)
fault_beside lines (Err f) = Some (Clauses f)

-- the first fault of a text of clauses and a refutation of them, the clauses' first
abbrev pub first_fault : List ℕ → List ℕ → Option Fault
first_fault text lines = fault_beside lines (cnf_of text)

-- ---- what is told

abbrev pub cnf_rule : CnfKind → List ℕ
cnf_rule cnf.Header = codes "header"
cnf_rule cnf.Large = codes "large"
cnf_rule cnf.Token = codes "token"
cnf_rule cnf.Literal = codes "literal"
cnf_rule cnf.Count = codes "count"
cnf_rule cnf.Unfinished = codes "unfinished"

abbrev pub lrat_rule : LratKind → List ℕ
lrat_rule lrat.Proof = codes "proof"
lrat_rule lrat.Order = codes "order"
lrat_rule lrat.Rat = codes "rat"
lrat_rule lrat.Chain = codes "chain"
lrat_rule lrat.Empty = codes "empty"

abbrev pub line_in : Fault → ℕ
line_in (Clauses f) = f.line
line_in (Refutation f) = f.line

abbrev pub rule_in : Fault → List ℕ
rule_in (Clauses f) = cnf_rule f.kind
rule_in (Refutation f) = lrat_rule f.kind

-- the refutation is accepted, or the line and the name of the first fault
abbrev pub ending_text : Option Fault → List ℕ
ending_text None = codes "accepted" ++ 10 ∷ []
ending_text (Some f) = codes "refused line " ++ decimal (line_in f) ++ codes " rule " ++ rule_in f ++ 10 ∷ []

-- where both inputs and the answers were told before, there are bytes that were added to the
-- answers, such that P
abbrev pub ToldOf : Option (List ℕ) → Option (List ℕ) → Option (List ℕ) → Option (List ℕ) → (List ℕ → List ℕ → List ℕ → Type 0) → Type 0
ToldOf clauses refutation answers answers' P =
    IfSome clauses (λ text. IfSome refutation (λ lines. IfSome answers (λ a.
    (answered : List ℕ) × (answers' ≡ Some (a ++ answered)) × P text lines answered)))

-- this is the first fault, and it is told
pub record IsEnd (fault : Option Fault) (text lines answered : List ℕ) : Type 0 where
  pub judged : first_fault text lines ≡ fault
  pub told : answered ≡ ending_text fault

-- The text has clauses that no assignment makes all true, the other text refutes them, and this is
-- told.
pub record IsRightlyAccepted (text lines answered : List ℕ) : Type 0 where
  pub clauses : CnfValue
  pub text_is : cnf_of text ≡ Ok clauses
  pub accepted : lrat_of clauses lines ≡ Ok tt
  pub right : IsUnsatisfiable clauses
  pub told : answered ≡ ending_text None

-- a front of what is judged of the two texts
abbrev pub IsFront : List ℕ → List ℕ → List ℕ → Type 0
IsFront text lines answered = (rest : List ℕ) × (ending_text (first_fault text lines) ≡ answered ++ rest)
