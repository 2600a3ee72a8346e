-- What is found of clauses by a search, and what the user is told.
use Rattle.std.specs.Prelude.{◌≡◌, ℕ, ◌+◌, Bool, if◌then◌else◌, List, [], ◌∷◌, ◌++◌, codes, Option, Some, Result, Ok, Err, IfSome}
use Rattle.std.specs.Fmt.{decimal}
use Rattle.std.specs.Io.KnownBytes.{Appends}
use Rattle.smt_desk.specs.Faults.{Rose}
use Rattle.dimacs_front.specs.Cnf.{CnfValue, IsUnsatisfiable, cnf_of}
use Rattle.dimacs_front.specs.Lrat.{lrat_of}
use Rattle.dimacs_front.specs.declared.cnf.CnfFault.{CnfFault}
use Rattle.dimacs_search.specs.Solving.{IsModel}
use Rattle.dimacs_run.specs.declared.failure.Fault.TheVariants as fault
use Rattle.dimacs_search.specs.declared.outcome.Failure.{Failure}
use Rattle.dimacs_search.specs.declared.outcome.Failure.TheVariants as search
use Rattle.dimacs_run.specs.declared.failure.Halt.{Halt}
use Rattle.dimacs_run.specs.declared.failure.Halt.TheVariants as halt
use Rattle.dimacs_run.specs.declared.failure.SearchFailure.{SearchFailure}
use Rattle.dimacs_run.specs.declared.failure.SearchFailure.TheVariants.{Clauses, Refutation, Answers, NoMemory}
use Rattle.dimacs_run.specs.declared.finding.Finding.{Finding}
use Rattle.dimacs_run.specs.declared.finding.Finding.TheVariants.{Fault, Satisfiable, Unsatisfiable}
use Rattle.dimacs_run.specs.Reads.{ReadsWithin, ReadsUntil, Counts, HasReadCause}
use Rattle.dimacs_run.specs.Endings.{ending_text}

-- ---- what is found

-- The clauses of the text have these values as a model.
pub record HasModel (text : List ℕ) (values : List Bool) : Type 0 where
  pub clauses : CnfValue
  pub text_is : cnf_of text ≡ Ok clauses
  pub model : IsModel clauses values

-- No assignment makes all the clauses of the text true, and the lines refute them.
pub record HasRefutation (text lines : List ℕ) : Type 0 where
  pub clauses : CnfValue
  pub text_is : cnf_of text ≡ Ok clauses
  pub accepted : lrat_of clauses lines ≡ Ok tt
  pub right : IsUnsatisfiable clauses

-- This is right of the text, where these lines were written as a refutation: none where it has a
-- fault.
abbrev pub IsFound : Finding → List ℕ → List ℕ → Type 0
IsFound (Fault f) text lines = (cnf_of text ≡ Err f) × (lines ≡ [])
IsFound (Satisfiable values) text lines = HasModel text values.items
IsFound Unsatisfiable text lines = HasRefutation text lines

-- what is found where the reading of the clauses ends before they do, and why a search failed
abbrev pub found_in_clauses : Halt CnfFault → Result Finding SearchFailure
found_in_clauses (halt.Fault f) = Ok (Fault f)
found_in_clauses (halt.Unread why) = Err (Clauses why)
found_in_clauses halt.NoMemory = Err NoMemory

abbrev pub failure_in_search : Failure → SearchFailure
failure_in_search search.Unwritten = Refutation
failure_in_search search.NoMemory = NoMemory

-- ---- what is told

-- a variable that is true is told by its number, one that is false with a minus before it
abbrev pub value_word : ℕ → Bool → List ℕ
value_word x value = if value then decimal x else 45 ∷ decimal x

-- these values, of the variables from x on, each behind a blank
unfoldable pub value_words : ℕ → List Bool → List ℕ
value_words x [] = []
value_words x (value ∷ values) = (32 ∷ value_word x value) ++ value_words (x + 1) values

-- the fault as a checker of refutations tells it; `sat` and the line `v l1 .. lV 0`; or `unsat`
abbrev pub finding_text : Finding → List ℕ
finding_text (Fault f) = ending_text (Some (fault.Clauses f))
finding_text (Satisfiable values) = codes "sat" ++ 10 ∷ codes "v" ++ value_words 1 values.items ++ codes " 0" ++ 10 ∷ []
finding_text Unsatisfiable = codes "unsat" ++ 10 ∷ []

-- where the clauses were told before, some lines were added to the refutation, such that P
abbrev pub WroteOf : (clauses refutation refutation' : Option (List ℕ)) → (List ℕ → List ℕ → Type 0) → Type 0
WroteOf clauses refutation refutation' P = IfSome clauses (λ text. (lines : List ℕ) × Appends refutation refutation' lines × P text lines)

-- this is found, and it is told
pub record IsTold (finding : Finding) (answered text lines : List ℕ) : Type 0 where
  pub found : IsFound finding text lines
  pub told : answered ≡ finding_text finding

-- something is found, and a front of it is told
pub record IsBegun (answered text lines : List ℕ) : Type 0 where
  pub finding : Finding
  pub found : IsFound finding text lines
  pub rest : List ℕ
  pub told : finding_text finding ≡ answered ++ rest

-- The bytes that were added to the answers before a failure: none, but where their write failed a
-- front of what was found, behind all lines of the refutation.
abbrev pub IsLeftBy : SearchFailure → (clauses refutation refutation' : Option (List ℕ)) → List ℕ → Type 0
IsLeftBy (Clauses why) s p p' answered = answered ≡ []
IsLeftBy Refutation s p p' answered = answered ≡ []
IsLeftBy Answers s p p' answered = WroteOf s p p' (IsBegun answered)
IsLeftBy NoMemory s p p' answered = answered ≡ []

-- what was added to the answers
abbrev pub Answered : (clauses refutation refutation' answers answers' : Option (List ℕ)) → Result Finding SearchFailure → Type 0
Answered s p p' a a' (Ok x) = (answered : List ℕ) × Appends a a' answered × WroteOf s p p' (IsTold x answered)
Answered s p p' a a' (Err f) = (answered : List ℕ) × Appends a a' answered × IsLeftBy f s p p' answered

-- ---- what is read, and failures

-- how much was read of the clauses: at most 2^32 bytes, and one more only where they are too long
abbrev pub ReadsClauses : Option (List ℕ) → Option (List ℕ) → Result Finding SearchFailure → Type 0
ReadsClauses s s' (Ok x) = ReadsWithin s s'
ReadsClauses s s' (Err (Clauses why)) = ReadsUntil s s' why
ReadsClauses s s' (Err Refutation) = ReadsWithin s s'
ReadsClauses s s' (Err Answers) = ReadsWithin s s'
ReadsClauses s s' (Err NoMemory) = ReadsWithin s s'

-- a failure is answered only where the count of its source or sink rose
abbrev pub HasSearchCause : Counts → Counts → SearchFailure → Type 0
HasSearchCause old new (Clauses why) = HasReadCause old.clauses new.clauses why
HasSearchCause old new Refutation = Rose old.refutation new.refutation
HasSearchCause old new Answers = Rose old.answers new.answers
HasSearchCause old new NoMemory = Unit {0}
