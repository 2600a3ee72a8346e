-- A check over all steps of a log that are no chains.
use Rattle.std.specs.Prelude.{◌≡◌, ◌<◌, ℕ, false, suc, List, All, Contains, length}
use Rattle.cnf_base.specs.Assignments.{AreBelow}
use Rattle.proof_log.specs.declared.entry.Entry.{Entry}
use Rattle.proof_log.specs.Logs.{entry_at}
use Rattle.proof_log.specs.Stored.{LogValue}
use Rattle.proof_log.specs.Diaries.{is_chain}
use Rattle.workers_client.specs.declared.steps.Asked.{Asked}

-- these are the positions below a number that are no chains'
pub record ArePlainBelow (log : List Entry) (positions : List ℕ) (bound : ℕ) : Type 0 where
  pub below : (p : ℕ) → Contains positions p → p < bound
  pub plain : (p : ℕ) → Contains positions p → is_chain (entry_at log p) ≡ false
  pub all : (p : ℕ) → p < bound → is_chain (entry_at log p) ≡ false → Contains positions p

-- these are the positions of the log that are no chains'
abbrev pub ArePlain : List Entry → List ℕ → Type 0
ArePlain log positions = ArePlainBelow log positions (suc (length log))

-- the check may be searched over the log
pub record IsAsked (log : LogValue) (a : Asked) : Type 0 where
  pub positions : ArePlain log.entries a.positions.items
  pub variables : All (λ x. x < log.next) a.tree
  pub assumed : AreBelow log.next a.assumed.items
