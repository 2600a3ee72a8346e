-- What a trimmed file and the log have in common, behind each part.
use Rattle.std.proofs.Common.{◌≡◌, ℕ, suc, ◌<◌, ◌≤◌, false, List, ◌++◌, length, Some}
use Rattle.std.specs.Prelude.{Contains, slice_get, option_map}
use Rattle.cnf_base.specs.Literals.{Literal}
use Rattle.cnf_base.specs.declared.clause.ClauseId.{ClauseId}
use Rattle.smt_terms.specs.declared.node.Node.{Node}
use Rattle.smt_terms.specs.Terms.{IsTermList}
use Rattle.proof_log.specs.declared.entry.Entry.{Entry}
use Rattle.proof_log.specs.declared.entry.Entry.TheVariants as step
use Rattle.proof_log.specs.Logs.{entry_at, state_of, IsLog}
use Rattle.proof_log.specs.Diaries.{is_chain}
use Rattle.proof_text.specs.Deletions.{is_deletable, is_deleted}
use Rattle.proof_text.specs.declared.record.Record.{Record}
use Rattle.proof_file.specs.Places.{FileValue, placed}
use Rattle.proof_file.specs.Needed.{AreNeeded, IsDerived, Names}
pub use Rattle.trimmed_proofs.proofs.States.{is_made, made_of}
pub use Rattle.trimmed_proofs.proofs.Filing.{HasPlace}
use Rattle.trimmed_proofs.proofs.Filing.{IsPlacing}

-- The file has of the log, over these terms, what stands at these places, where these were deleted.
pub record IsFileOf (nodes : List Node) (log file : List Entry) (deleted : List ℕ) (f : FileValue) : Type 0 where
  -- both have the same steps that make terms, bits and variables, in the same order
  pub made : made_of file ≡ made_of log
  pub count : f.count ≡ length file
  pub zero_is : f.places 0 ≡ 0
  pub within : (p : ℕ) → f.places p ≤ length file
  pub known : (p : ℕ) → 0 < f.places p → p ≤ length log
  pub once : (p q : ℕ) → 0 < f.places p → f.places p ≡ f.places q → p ≡ q
  -- at a place the file has the clauses of the position, and a step of its kind
  pub rows : (p : ℕ) → HasPlace f.places p → slice_get (state_of nodes file).clauses (f.places p) ≡ slice_get (state_of nodes log).clauses p
  pub chains : (p : ℕ) → HasPlace f.places p → is_chain (entry_at file (f.places p)) ≡ is_chain (entry_at log p)
  pub kinds : (p : ℕ) → HasPlace f.places p → is_deletable (entry_at file (f.places p)) ≡ is_deletable (entry_at log p)
  -- each step that makes something has a place
  pub keeps : (p : ℕ) → p ≤ length log → is_deletable (entry_at log p) ≡ false → HasPlace f.places p
  -- no place of a position is deleted, and each place that is not deleted is that of a position
  pub left : (p : ℕ) → is_deleted deleted (f.places p) ≡ false
  pub every : (q : ℕ) → q ≤ length file → is_deleted deleted q ≡ false → (p : ℕ) × (f.places p ≡ q) × HasPlace f.places p × (p ≤ length log)
  pub gone : (q : ℕ) → length file < q → is_deleted deleted q ≡ false

-- The same behind the steps of a check, before whose record this file had these places: from this place on it has what the record
-- needs, which had none before.
pub record IsFiledCheck (nodes : List Node) (log steps file : List Entry) (deleted : List ℕ) (base new : FileValue) (start : ℕ) (needed : List ℕ) (r : Record) : Type 0 where
  pub terms : IsTermList nodes
  pub whole_log : IsLog nodes (log ++ steps)
  pub whole_file : IsLog nodes file
  pub file_is : IsFileOf nodes (log ++ steps) file deleted new
  pub wanted : AreNeeded (log ++ steps) base.places r needed
  pub start_within : (0 < start) × (start ≤ suc (length file))
  -- what is needed is written as the log has it, by the places that its hints have
  pub written : (p : ℕ) → Contains needed p → IsDerived (log ++ steps) p × (start ≤ new.places p) × (entry_at file (new.places p) ≡ option_map (placed new.places) (entry_at (log ++ steps) p))
  pub hinted : (p : ℕ) (c : List Literal) (hints : List ClauseId) (h : ClauseId) → Contains needed p → entry_at (log ++ steps) p ≡ Some (step.Chain c hints) → Contains hints h → HasPlace new.places h.pos
  pub named : (p : ℕ) → Names r p → p ≤ length (log ++ steps) → HasPlace new.places p
  -- what stands before is none of it, and a lemma or a chain of the check has a place only there
  pub before : (p : ℕ) → new.places p < start → Contains needed p → ⊥
  pub behind : (p : ℕ) → start ≤ new.places p → Contains needed p
  pub own : (p : ℕ) → length log < p → IsDerived (log ++ steps) p → 0 < new.places p → Contains needed p
  -- and none of it is deleted
  pub fresh : (q : ℕ) → start ≤ q → is_deleted deleted q ≡ false

pub placing_of : (nodes : List Node) (log file : List Entry) (deleted : List ℕ) (f : FileValue) → IsFileOf nodes log file deleted f → IsPlacing nodes log file deleted f
placing_of nodes log file deleted f h = record {
  count = h.count;
  zero_is = h.zero_is;
  within = h.within;
  known = h.known;
  once = h.once;
  rows = h.rows;
  chains = h.chains;
  kinds = h.kinds;
  left = h.left;
  every = h.every;
  gone = h.gone;
}

pub file_of : (nodes : List Node) (log file : List Entry) (deleted : List ℕ) (f : FileValue) → made_of file ≡ made_of log → ((p : ℕ) → p ≤ length log → is_deletable (entry_at log p) ≡ false → HasPlace f.places p) → IsPlacing nodes log file deleted f → IsFileOf nodes log file deleted f
file_of nodes log file deleted f made keeps h = record {
  made = made;
  count = h.count;
  zero_is = h.zero_is;
  within = h.within;
  known = h.known;
  once = h.once;
  rows = h.rows;
  chains = h.chains;
  kinds = h.kinds;
  keeps = keeps;
  left = h.left;
  every = h.every;
  gone = h.gone;
}
