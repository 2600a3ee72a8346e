-- What is kept of the steps of a log that were read.
use Rattle.std.specs.Prelude.{◌≡◌, ◌⊎◌, ◌<◌, ◌≤◌, ℕ, suc, Bool, true, false, List, ◌++◌, take, length, Option, Some, None, All, Contains, slice_get}
use Rattle.cnf_base.specs.Literals.{Literal}
use Rattle.cnf_base.specs.declared.clause.ClauseId.{ClauseId}
use Rattle.smt_terms.specs.declared.node.Node.{Node}
use Rattle.smt_terms.specs.Terms.{IsTermList}
use Rattle.theory_terms.specs.declared.lemma.Lemma.{Lemma}
use Rattle.proof_log.specs.declared.entry.Entry.{Entry}
use Rattle.proof_log.specs.declared.entry.Entry.TheVariants as step
use Rattle.proof_log.specs.Logs.{clause_at, entry_at, state_of, IsLog}
use Rattle.proof_log.specs.Meanings.{Owns}

-- ---- what a step makes

-- the term whose bits are new variables
abbrev pub leaf_of : Entry → Option ℕ
leaf_of (step.Leaf t) = Some t
leaf_of _ = None

-- the clauses name all new variables
abbrev pub adds_gates : Entry → Bool
adds_gates (step.Encode t) = true
adds_gates (step.Selector a t) = true
adds_gates (step.Equal t u) = true
adds_gates _ = false

-- the step gives an equality its variable
abbrev pub adds_equality : Entry → Bool
adds_equality (step.Equal t u) = true
adds_equality _ = false

-- the step adds the clause of a lemma
abbrev pub adds_lemma : Entry → Bool
adds_lemma (step.Lemma l) = true
adds_lemma _ = false

-- ---- which variables a step makes

-- The number is above the variables of these literals and not below the old one, and the lowest such.
pub record IsBehind (literals : Literal → Type 0) (old new : ℕ) : Type 0 where
  pub above : old ≤ new
  pub each : (l : Literal) → literals l → l.variable < new
  pub lowest : (n : ℕ) → old ≤ n → ((l : Literal) → literals l → l.variable < n) → new ≤ n

-- the literal stands in a clause of the position
abbrev pub IsAt : List (List (List Literal)) → ℕ → Literal → Type 0
IsAt rows at l = (id : ClauseId) × (c : List Literal) × (id.pos ≡ at) × (clause_at rows id ≡ Some c) × Contains c l

-- ---- what is kept

-- How many steps were read, the positions of the steps that made the variables, by variable, and those of equalities and of lemmas.
pub record ReadSteps : Type 0 where
  pub read : ℕ
  pub makers : List ℕ
  pub equalities : List ℕ
  pub lemmas : List ℕ

-- the step at the position made the variable; position 0 is that of variable 1
abbrev pub IsMaker : List Node → List Entry → ℕ → ℕ → Type 0
IsMaker nodes log x p = ((x ≡ 1) × (p ≡ 0)) ⊎ ((q : ℕ) × (p ≡ suc q) × Owns nodes log q x)

-- an equality got its variable at the position
abbrev pub IsEquality : List Entry → ℕ → Type 0
IsEquality log p = (t : ℕ) × (u : ℕ) × (entry_at log p ≡ Some (step.Equal t u))

-- a lemma stands at the position
abbrev pub IsLemmaAt : List Entry → ℕ → Type 0
IsLemmaAt log p = (l : Lemma) × (entry_at log p ≡ Some (step.Lemma l))

-- The first steps of a log were read. Kept are the makers of their variables, and the positions of the equalities and lemmas among them.
pub record IsRead (nodes : List Node) (log : List Entry) (s : ReadSteps) : Type 0 where
  pub within : s.read ≤ length log
  pub next : length s.makers ≡ (state_of nodes (take s.read log)).next
  pub makers : (x p : ℕ) → 0 < x → slice_get s.makers x ≡ Some p → IsMaker nodes log x p
  pub equalities : All (IsEquality log) s.equalities
  pub lemmas : All (IsLemmaAt log) s.lemmas
  pub each_equality : (p : ℕ) → p ≤ s.read → IsEquality log p → Contains s.equalities p
  pub each_lemma : (p : ℕ) → p ≤ s.read → IsLemmaAt log p → Contains s.lemmas p

-- what was read of a log was read of a longer one too, also over more terms
abbrev pub MoreStepsKeepRead : Type 0
MoreStepsKeepRead =
    (nodes more : List Node) (log steps : List Entry) (s : ReadSteps)
    → IsTermList nodes → IsLog nodes log → IsRead nodes log s → IsRead (nodes ++ more) (log ++ steps) s
