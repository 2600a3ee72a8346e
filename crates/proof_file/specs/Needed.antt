-- What a record needs of a log: what it names, and what these were derived from (trimming, as of clausal proofs: N. Wetzler, M. Heule and
-- W. Hunt, "DRAT-trim: Efficient Checking and Trimming Using Expressive Clausal Proofs", 2014).
use Rattle.std.specs.Prelude.{◌≡◌, ℕ, suc, ◌≤◌, true, List, [], ◌∷◌, All, Contains, Some}
use Rattle.cnf_base.specs.Literals.{Literal}
use Rattle.cnf_base.specs.declared.clause.ClauseId.{ClauseId}
use Rattle.proof_log.specs.declared.entry.Entry.{Entry}
use Rattle.proof_log.specs.declared.entry.Entry.TheVariants as step
use Rattle.proof_log.specs.declared.diary.DiaryLine.{DiaryLine}
use Rattle.proof_log.specs.Logs.{entry_at}
use Rattle.proof_text.specs.Deletions.{is_deletable, place_of}
use Rattle.proof_text.specs.declared.record.Record.{Record}
use Rattle.proof_text.specs.declared.record.Record.TheVariants.{Sat, Unsat, Unknown}

-- a lemma or a chain stands at the position
abbrev pub IsDerived : List Entry → ℕ → Type 0
IsDerived log p = is_deletable (entry_at log p) ≡ true

-- the record names the position: as that of its refutation, or in a line of its diary
abbrev pub Names : Record → ℕ → Type 0
Names (Sat values) p = ⊥
Names (Unsat q) p = p ≡ q
Names (Unknown d) p = (l : DiaryLine) × Contains d.lines l × (place_of l ≡ p)

-- the chain at the first position has a hint of the lemma or the chain at the second
pub record Cites (log : List Entry) (q p : ℕ) : Type 0 where
  pub clause : List Literal
  pub hints : List ClauseId
  pub chain : entry_at log q ≡ Some (step.Chain clause hints)
  pub hint : ClauseId
  pub among : Contains hints hint
  pub cited : hint.pos ≡ p
  pub derived : IsDerived log p

-- a way from a position to another, by these positions, the last of which is the other; it goes on from what stands nowhere alone
abbrev pub IsWay : List Entry → (ℕ → ℕ) → ℕ → List ℕ → ℕ → Type 0
IsWay log places q [] p = q ≡ p
IsWay log places q (x ∷ way) p = (places q ≡ 0) × Cites log q x × IsWay log places x way p

-- The lemma or the chain is needed by the record: it is named, or cited by a chain that is needed and has no place in the file. What a chain
-- cites that has one was written before it.
pub record IsNeeded (log : List Entry) (places : ℕ → ℕ) (r : Record) (p : ℕ) : Type 0 where
  pub from : ℕ
  pub named : Names r from
  pub start : IsDerived log from
  pub way : List ℕ
  pub leads : IsWay log places from way p

-- each is at least this number, and lower than those behind it
abbrev pub AreRising : ℕ → List ℕ → Type 0
AreRising low [] = Unit {0}
AreRising low (p ∷ ps) = (low ≤ p) × AreRising (suc p) ps

-- exactly what the record needs and has no place, in the order of the log
pub record AreNeeded (log : List Entry) (places : ℕ → ℕ) (r : Record) (ps : List ℕ) : Type 0 where
  pub rise : AreRising 1 ps
  pub each : All (λ p. IsNeeded log places r p × (places p ≡ 0)) ps
  pub every : (p : ℕ) → IsNeeded log places r p → places p ≡ 0 → Contains ps p
