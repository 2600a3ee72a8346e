-- A log from which chains are forgotten: what contracts see of it, when it stands over terms, and what forgetting leaves.
use Rattle.std.specs.Prelude.{◌≡◌, ◌&&◌, ℕ, suc, Bool, true, false, ◌==◌, if◌then◌else◌, List, [], ◌∷◌, ◌++◌, length, Option, Some}
use Rattle.std.specs.List.{AllByRecursion, list_any}
use Rattle.cnf_base.specs.Literals.{Literal, true_literal}
use Rattle.cnf_base.specs.Assignments.{AreBelow}
use Rattle.smt_terms.specs.declared.node.Node.{Node}
use Rattle.smt_terms.specs.Terms.{TermsValue}
use Rattle.proof_log.specs.declared.entry.Entry.{Entry}
use Rattle.proof_log.specs.declared.entry.Entry.TheVariants as step
use Rattle.proof_log.specs.Diaries.{is_chain}
use Rattle.proof_log.specs.Faults.{IsValid, terms_after}
use Rattle.proof_log.specs.Logs.{state_of}
use Rattle.proof_log.specs.Stored.{LogValue, Stands, clauses_of}

-- a log of the steps that are no chains; all steps, and the clauses of each position
pub record FadedValue : Type 0 where
  pub base : LogValue
  pub entries : List Entry
  pub clauses : List (List (List Literal))

-- what stands in place of a chain that was forgotten: the chain of the clause that variable 1 is true, which position 0 has
abbrev pub blank : Entry
blank = step.Chain (true_literal ∷ []) (record { pos = 0; part = 0 } ∷ [])

-- the steps that are no chains, in their order
abbrev pub plain_steps : List Entry → List Entry
plain_steps [] = []
plain_steps (e ∷ es) = if is_chain (Some e) then plain_steps es else e ∷ plain_steps es

-- ---- where each step has its clauses

abbrev pub first_of : List (List (List Literal)) → List (List Literal)
first_of [] = []
first_of (row ∷ rows) = row

abbrev pub behind_first : List (List (List Literal)) → List (List (List Literal))
behind_first [] = []
behind_first (row ∷ rows) = rows

-- a chain has its own clause, and the other steps have these, one after the other
abbrev pub woven : List Entry → List (List (List Literal)) → List (List (List Literal))
woven [] rows = []
woven (e ∷ es) rows = if is_chain (Some e) then clauses_of e [] ∷ woven es rows else first_of rows ∷ woven es (behind_first rows)

-- the clauses of each position, from those of a log without the chains: position 0 is no step
abbrev pub with_chains : List Entry → List (List (List Literal)) → List (List (List Literal))
with_chains es rows = first_of rows ∷ woven es (behind_first rows)

-- The log without chains stands over these terms. It has the steps that are no chains, with their clauses; each chain has its own
-- clause; and no clause has a variable that no step made.
pub record IsHeld (nodes : List Node) (log : FadedValue) : Type 0 where
  pub base : Stands nodes log.base
  pub steps : log.base.entries ≡ plain_steps log.entries
  pub clauses : log.clauses ≡ with_chains log.entries log.base.clauses
  pub below : AllByRecursion (AllByRecursion (AreBelow log.base.next)) log.clauses

-- ---- one step more

-- the log got this step, which is a chain
pub record IsLonger (old new : FadedValue) (e : Entry) : Type 0 where
  pub base : new.base ≡ old.base
  pub entries : new.entries ≡ old.entries ++ e ∷ []
  pub clauses : new.clauses ≡ old.clauses ++ clauses_of e [] ∷ []

-- The step was tried over these terms, against what the steps leave of which some chains may be forgotten: where it is valid it was
-- added, else all is as before.
abbrev pub IsTried : TermsValue → TermsValue → FadedValue → FadedValue → Entry → Bool → Type 0
IsTried v w log longer e true = IsValid v (state_of v.nodes log.entries) e × (w ≡ terms_after v e) × (longer.entries ≡ log.entries ++ e ∷ []) × IsHeld w.nodes longer
IsTried v w log longer e false = (IsValid v (state_of v.nodes log.entries) e → ⊥) × (w ≡ v) × (longer ≡ log)

-- ---- what is forgotten

-- the blank chain in place of a chain that is gone
abbrev pub fade : Bool → Entry → Entry
fade gone e = if gone && is_chain (Some e) then blank else e

-- the same at each of the positions that are gone, where the first of these steps has this position
abbrev pub faded : (ℕ → Bool) → ℕ → List Entry → List Entry
faded gone p [] = []
faded gone p (e ∷ es) = fade (gone p) e ∷ faded gone (suc p) es

abbrev pub fade_row : Bool → Entry → List (List Literal) → List (List Literal)
fade_row gone e row = if gone && is_chain (Some e) then clauses_of blank [] else row

-- the same of the clauses of each of these steps
abbrev pub faded_rows : (ℕ → Bool) → ℕ → List Entry → List (List (List Literal)) → List (List (List Literal))
faded_rows gone p [] rows = rows
faded_rows gone p (e ∷ es) [] = []
faded_rows gone p (e ∷ es) (row ∷ rows) = fade_row (gone p) e row ∷ faded_rows gone (suc p) es rows

-- the same of the clauses of each position: position 0 is no step
abbrev pub faded_clauses : (ℕ → Bool) → List Entry → List (List (List Literal)) → List (List (List Literal))
faded_clauses gone es [] = []
faded_clauses gone es (row ∷ rows) = row ∷ faded_rows gone 1 es rows

-- The chains at these positions are gone: the blank one stands in place of each, with its clause alone. All else is as before.
pub record IsFaded (gone : ℕ → Bool) (old new : FadedValue) : Type 0 where
  pub base : new.base ≡ old.base
  pub entries : new.entries ≡ faded gone 1 old.entries
  pub clauses : new.clauses ≡ faded_clauses gone old.entries old.clauses

-- whether a position is one of these
abbrev pub is_among : List ℕ → ℕ → Bool
is_among places p = list_any (λ q. q == p) places
