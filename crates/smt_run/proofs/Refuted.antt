-- Of a check of a refutation, and its status.
use Rattle.std.proofs.Common.{◌≡◌, ◌≢◌, ℕ, List, Option, Some, None, refl, sym, ap, ◌∙◌, inl, inr, ⊎_elim}
use Rattle.std.specs.Prelude.{◌⊎◌, Result, Ok, Err, IfSome}
use Rattle.dimacs_run.specs.declared.failure.Fault.{Fault}
use Rattle.dimacs_run.specs.declared.failure.Unread.{Unread}
use Rattle.dimacs_run.specs.declared.failure.Unread.TheVariants as unread
use Rattle.dimacs_run.specs.declared.failure.Failure.{Failure}
use Rattle.dimacs_run.specs.declared.failure.Failure.TheVariants as failure
use Rattle.dimacs_run.specs.Reads.{ReadsBoth, HasCause}
use Rattle.dimacs_run.specs.Reads.{Counts as Risen}
use Rattle.dimacs_run.specs.Endings.{IsEnd as IsFaultTold}
use Rattle.smt_check.specs.declared.status.Status.{Status}
use Rattle.smt_check.specs.declared.status.Status.TheVariants.{Done, Refused, Usage, ReadFault, WriteFault, NoMemory, TooLong}
use Rattle.smt_check.specs.Runs.{counts}
use Rattle.smt_check.specs.Checks.{ToldOf, ReadsForStatus, HasCheckCause}
use Rattle.smt_run.specs.Refuting.{IsEndOfRefutation, status_by, status_unread, status_of_failure}

-- ---- both texts are judged

pub refuted_usage : (o : Option Fault) → status_by o ≢ Usage
refuted_usage None = λ e. let z : ⊥ = cc in z
refuted_usage (Some f) = λ e. let z : ⊥ = cc in z

pub refuted_none : (o : Option Fault) → status_by o ≡ Done → o ≡ None
refuted_none None e = refl
refuted_none (Some f) e = let z : ⊥ = cc in absurd z

pub refuted_read : (s s' p p' : Option (List ℕ)) (o : Option Fault) → ReadsBoth s s' p p' (Ok o) → ReadsForStatus s s' p p' (status_by o)
refuted_read s s' p p' None h = h
refuted_read s s' p p' (Some f) h = h

pub refuted_told : (s p a a' : Option (List ℕ)) (o : Option Fault) (t : Status) → t ≡ status_by o → ToldOf s p a a' (IsFaultTold o) → ToldOf s p a a' (IsEndOfRefutation t)
refuted_told None p a a' o t e h = tt
refuted_told (Some x) None a a' o t e h = tt
refuted_told (Some x) (Some y) None a' o t e h = tt
refuted_told (Some x) (Some y) (Some z) a' o t e h = (h.0, h.1, record { fault = o; told = h.2; status_is = e })

-- ---- a check that ended before

unread_usage : (u : Unread) → status_unread u ≢ Usage
unread_usage unread.Failed = λ e. let z : ⊥ = cc in z
unread_usage unread.TooLong = λ e. let z : ⊥ = cc in z

pub failed_usage : (f : Failure) → status_of_failure f ≢ Usage
failed_usage (failure.Clauses u) = unread_usage u
failed_usage (failure.Refutation u) = unread_usage u
failed_usage failure.Unwritten = λ e. let z : ⊥ = cc in z
failed_usage failure.NoMemory = λ e. let z : ⊥ = cc in z

unread_end : (u : Unread) → (status_unread u ≡ Done) ⊎ (status_unread u ≡ Refused) → ⊥
unread_end unread.Failed k = ⊎_elim (λ e. let z : ⊥ = cc in z) (λ e. let z : ⊥ = cc in z) k
unread_end unread.TooLong k = ⊎_elim (λ e. let z : ⊥ = cc in z) (λ e. let z : ⊥ = cc in z) k

no_end : (f : Failure) → (status_of_failure f ≡ Done) ⊎ (status_of_failure f ≡ Refused) → ⊥
no_end (failure.Clauses u) k = unread_end u k
no_end (failure.Refutation u) k = unread_end u k
no_end failure.Unwritten k = ⊎_elim (λ e. let z : ⊥ = cc in z) (λ e. let z : ⊥ = cc in z) k
no_end failure.NoMemory k = ⊎_elim (λ e. let z : ⊥ = cc in z) (λ e. let z : ⊥ = cc in z) k

pub failed_end : (P : Type 0) (f : Failure) → (status_of_failure f ≡ Done) ⊎ (status_of_failure f ≡ Refused) → P
failed_end P f k = absurd (no_end f k)

pub failed_read : (s s' p p' : Option (List ℕ)) (f : Failure) → ReadsBoth s s' p p' (Err f) → ReadsForStatus s s' p p' (status_of_failure f)
failed_read s s' p p' (failure.Clauses unread.Failed) h = h
failed_read s s' p p' (failure.Clauses unread.TooLong) h = inl h
failed_read s s' p p' (failure.Refutation unread.Failed) h = h
failed_read s s' p p' (failure.Refutation unread.TooLong) h = inr h
failed_read s s' p p' failure.Unwritten h = h
failed_read s s' p p' failure.NoMemory h = h

pub refuted_cause : (a b : Risen) (o : Option Fault) → HasCheckCause (counts a.clauses a.answers a.refutation) (counts b.clauses b.answers b.refutation) (status_by o)
refuted_cause a b None = tt
refuted_cause a b (Some f) = tt

pub failed_cause : (a b : Risen) (f : Failure) → HasCause a b f → HasCheckCause (counts a.clauses a.answers a.refutation) (counts b.clauses b.answers b.refutation) (status_of_failure f)
failed_cause a b (failure.Clauses unread.Failed) h = inl h
failed_cause a b (failure.Clauses unread.TooLong) h = tt
failed_cause a b (failure.Refutation unread.Failed) h = inr h
failed_cause a b (failure.Refutation unread.TooLong) h = tt
failed_cause a b failure.Unwritten h = h
failed_cause a b failure.NoMemory h = tt
