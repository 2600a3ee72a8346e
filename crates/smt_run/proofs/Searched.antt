-- Of a search of clauses, and its status.
use Rattle.std.proofs.Common.{◌≡◌, ◌≢◌, ℕ, ◌+◌, [], List, Option, refl, inl, inr}
use Rattle.std.specs.Prelude.{Result, Ok, Err, IfErr}
use Rattle.std.proofs.KnownBytes.{Appends-nil}
use Rattle.dimacs_run.specs.declared.failure.Unread.TheVariants as unread
use Rattle.dimacs_run.specs.declared.failure.SearchFailure.{SearchFailure}
use Rattle.dimacs_run.specs.declared.failure.SearchFailure.TheVariants as failure
use Rattle.dimacs_run.specs.declared.finding.Finding.{Finding}
use Rattle.dimacs_run.specs.declared.finding.Finding.TheVariants.{Fault, Satisfiable, Unsatisfiable}
use Rattle.dimacs_run.specs.Reads.{Counts as Risen}
use Rattle.dimacs_run.specs.Findings.{ReadsClauses, HasSearchCause}
use Rattle.smt_check.specs.declared.status.Status.{Status}
use Rattle.smt_check.specs.declared.status.Status.TheVariants.{Usage, NoMemory, TooLong}
use Rattle.smt_check.specs.Runs.{ReadsBytes, ReadsWithin, HasCause, counts, input_limit}
use Rattle.smt_run.specs.Searching.{IsSearched, status_found, status_unfound, status_of_search}

pub search_usage : (r : Result Finding SearchFailure) → status_of_search r ≢ Usage
search_usage (Ok (Fault f)) = λ e. let z : ⊥ = cc in z
search_usage (Ok (Satisfiable v)) = λ e. let z : ⊥ = cc in z
search_usage (Ok Unsatisfiable) = λ e. let z : ⊥ = cc in z
search_usage (Err (failure.Clauses unread.Failed)) = λ e. let z : ⊥ = cc in z
search_usage (Err (failure.Clauses unread.TooLong)) = λ e. let z : ⊥ = cc in z
search_usage (Err failure.Refutation) = λ e. let z : ⊥ = cc in z
search_usage (Err failure.Answers) = λ e. let z : ⊥ = cc in z
search_usage (Err failure.NoMemory) = λ e. let z : ⊥ = cc in z

pub search_within : (s s' : Option (List ℕ)) (r : Result Finding SearchFailure) → ReadsClauses s s' r → status_of_search r ≢ TooLong → ReadsWithin s s'
search_within s s' (Ok f) h n = h
search_within s s' (Err (failure.Clauses unread.Failed)) h n = h
search_within s s' (Err (failure.Clauses unread.TooLong)) h n = absurd (n refl)
search_within s s' (Err failure.Refutation) h n = h
search_within s s' (Err failure.Answers) h n = h
search_within s s' (Err failure.NoMemory) h n = h

pub search_long : (s s' : Option (List ℕ)) (r : Result Finding SearchFailure) → ReadsClauses s s' r → status_of_search r ≡ TooLong → ReadsBytes (input_limit + 1) s s'
search_long s s' (Ok (Fault f)) h e = let z : ⊥ = cc in absurd z
search_long s s' (Ok (Satisfiable v)) h e = let z : ⊥ = cc in absurd z
search_long s s' (Ok Unsatisfiable) h e = let z : ⊥ = cc in absurd z
search_long s s' (Err (failure.Clauses unread.Failed)) h e = let z : ⊥ = cc in absurd z
search_long s s' (Err (failure.Clauses unread.TooLong)) h e = h
search_long s s' (Err failure.Refutation) h e = let z : ⊥ = cc in absurd z
search_long s s' (Err failure.Answers) h e = let z : ⊥ = cc in absurd z
search_long s s' (Err failure.NoMemory) h e = let z : ⊥ = cc in absurd z

pub search_cause : (a b : Risen) (r : Result Finding SearchFailure) → IfErr r (HasSearchCause a b) → HasCause (counts a.clauses a.answers a.refutation) (counts b.clauses b.answers b.refutation) (status_of_search r)
search_cause a b (Ok (Fault f)) h = tt
search_cause a b (Ok (Satisfiable v)) h = tt
search_cause a b (Ok Unsatisfiable) h = tt
search_cause a b (Err (failure.Clauses unread.Failed)) h = h
search_cause a b (Err (failure.Clauses unread.TooLong)) h = tt
search_cause a b (Err failure.Refutation) h = inr h
search_cause a b (Err failure.Answers) h = inl h
search_cause a b (Err failure.NoMemory) h = tt

-- nothing was searched
pub search_unbegun : (s a p : Option (List ℕ)) → IsSearched NoMemory s a a p p
search_unbegun s a p = record { result = Err failure.NoMemory; status_is = refl; answered = ([], Appends-nil a, refl) }
