-- Of a drawn script that was answered, and its status.
use Rattle.std.proofs.Common.{◌≡◌, ◌≢◌, ℕ, zero, suc, ◌+◌, ◌<◌, ◌≤◌, List, [], ◌++◌, length, take, drop, Option, Some, None, refl, sym, ap, ◌∙◌, subst, inl, inr, ⊎_elim, arith, take-append-drop, length-append}
use Rattle.std.specs.Prelude.{◌⊎◌, Result, Ok, Err, MatchResult}
use Rattle.std.specs.Io.KnownBytes.{Appends}
use Rattle.smt_desk.specs.Faults.{Rose}
use Rattle.drill_script.specs.Keeping.{Keeping}
use Rattle.drill_script.specs.Scripts.{drill_script}
use Rattle.drill_script.specs.Summaries.{summary_of}
use Rattle.drill_script.proofs.Lengths.{script_length}
use Rattle.accepted_proof.specs.Searching.{Limits}
use Rattle.smt_check.specs.declared.status.Status.{Status}
use Rattle.smt_check.specs.declared.status.Status.TheVariants.{Done, Refused, Usage, ReadFault, WriteFault, NoMemory, TooLong}
use Rattle.smt_check.specs.Runs.{AddsTo, ReadsBytes, HasCause, Counts, counts, input_limit}
use Rattle.smt_check.proofs.Parts.{adds_none}
use Rattle.smt_run.specs.Beside.{IsShort, IsWithoutFault}
use Rattle.smt_run.specs.Commands.{Files, Stream, Solves, files, stream, counts_of, IsEndOrWant}
use Rattle.smt_run.specs.Drilling.{IsCutOff, IsWritten, IsTold, status_unwritten, IsAnswered, Drills}
use Rattle.smt_run.proofs.Ends.{answered_unless}

-- ---- the summary is told

pub cut_off : (text : List ℕ) (n : ℕ) (old new : Stream) → Appends old.bytes new.bytes (take n text) → Rose old.faults new.faults → IsCutOff text old new
cut_off text n old new h r = record { told = take n text; rest = drop n text; text_is = sym (take-append-drop n text); added = h; rose = r }

adds_same : (old new : Stream) → old ≡ new → AddsTo old.bytes new.bytes
adds_same old new e = subst (λ (s : Stream). AddsTo old.bytes s.bytes) e (adds_none old.bytes)

pub adds_written : (text : List ℕ) (solved status : Status) (old new : Stream) → IsWritten text solved status old new → AddsTo old.bytes new.bytes
adds_written text solved status old new h = ⊎_elim (λ k. (text, k.1)) (λ k. ⊎_elim (λ c. (c.1.told, c.1.added)) (λ c. adds_same old new c.1) k) h

-- ---- the status

-- no count of nothing rises
still : {P : Type 0} → Rose 0 0 → P
still r = absurd (omega (arith, r))

written_cause : (text : List ℕ) (solved status : Status) (old new p p' : Stream) (s : ℕ) → (solved ≡ Done) ⊎ (solved ≡ Refused) → IsWritten text solved status old new → HasCause (counts s old.faults p.faults) (counts s new.faults p'.faults) status
written_cause text solved status old new p p' s ended h = ⊎_elim (λ k. subst (λ t. HasCause (counts s old.faults p.faults) (counts s new.faults p'.faults) t) (sym k.0) (done solved ended)) (λ k. ⊎_elim (λ c. subst (λ t. HasCause (counts s old.faults p.faults) (counts s new.faults p'.faults) t) (sym c.0) (inl c.1.rose)) (λ c. subst (λ t. HasCause (counts s old.faults p.faults) (counts s new.faults p'.faults) t) (sym c.0) tt) k) h
  where
    done : (t : Status) → (t ≡ Done) ⊎ (t ≡ Refused) → HasCause (counts s old.faults p.faults) (counts s new.faults p'.faults) t
    done Done k = tt
    done Refused k = tt
    done Usage k = tt
    done ReadFault k = absurd (⊎_elim (λ e. let z : ⊥ = cc in z) (λ e. let z : ⊥ = cc in z) k)
    done WriteFault k = absurd (⊎_elim (λ e. let z : ⊥ = cc in z) (λ e. let z : ⊥ = cc in z) k)
    done NoMemory k = tt
    done TooLong k = tt

unwritten_cause : (refused : ℕ) (status : Status) (old new p p' : Stream) (s : ℕ) → status ≡ status_unwritten refused → Rose 0 refused ⊎ Rose p.faults p'.faults → HasCause (counts s old.faults p.faults) (counts s new.faults p'.faults) status
unwritten_cause zero status old new p p' s e r = subst (λ t. HasCause (counts s old.faults p.faults) (counts s new.faults p'.faults) t) (sym e) (inr (⊎_elim (λ k. still k) (λ k. k) r))
unwritten_cause (suc n) status old new p p' s e r = subst (λ t. HasCause (counts s old.faults p.faults) (counts s new.faults p'.faults) t) (sym e) tt

-- a fault is told only where a count rose
told_cause : (summary : List ℕ) (refused : ℕ) (solved status : Status) (old new p p' : Stream) (s : ℕ) → HasCause (counts 0 0 p.faults) (counts 0 refused p'.faults) solved → IsTold summary refused solved status old new → HasCause (counts s old.faults p.faults) (counts s new.faults p'.faults) status
told_cause summary refused Done status old new p p' s c h = written_cause summary Done status old new p p' s (inl refl) h
told_cause summary refused Refused status old new p p' s c h = written_cause summary Refused status old new p p' s (inr refl) h
told_cause summary refused Usage status old new p p' s c h = subst (λ t. HasCause (counts s old.faults p.faults) (counts s new.faults p'.faults) t) (sym h.0) tt
told_cause summary refused ReadFault status old new p p' s c h = still c
told_cause summary refused WriteFault status old new p p' s c h = unwritten_cause refused status old new p p' s h.0 c
told_cause summary refused NoMemory status old new p p' s c h = subst (λ t. HasCause (counts s old.faults p.faults) (counts s new.faults p'.faults) t) (sym h.0) tt
told_cause summary refused TooLong status old new p p' s c h = subst (λ t. HasCause (counts s old.faults p.faults) (counts s new.faults p'.faults) t) (sym h.0) tt

-- which statuses a told run has
written_status : (P : Status → Type 0) (text : List ℕ) (solved status : Status) (old new : Stream) → P solved → P WriteFault → P NoMemory → IsWritten text solved status old new → P status
written_status P text solved status old new a b c h = ⊎_elim (λ k. subst P (sym k.0) a) (λ k. ⊎_elim (λ d. subst P (sym d.0) b) (λ d. subst P (sym d.0) c) k) h

told_status : (P : Status → Type 0) (summary : List ℕ) (refused : ℕ) (solved status : Status) (old new : Stream) → P Done → P Refused → P WriteFault → P NoMemory → (solved ≡ Usage → P Usage) → (solved ≡ ReadFault → P ReadFault) → (solved ≡ TooLong → P TooLong) → IsTold summary refused solved status old new → P status
told_status P summary refused Done status old new a b c d u r l h = written_status P summary Done status old new a c d h
told_status P summary refused Refused status old new a b c d u r l h = written_status P summary Refused status old new b c d h
told_status P summary refused Usage status old new a b c d u r l h = subst P (sym h.0) (u refl)
told_status P summary refused ReadFault status old new a b c d u r l h = subst P (sym h.0) (r refl)
told_status P summary zero WriteFault status old new a b c d u r l h = subst P (sym h.0) c
told_status P summary (suc n) WriteFault status old new a b c d u r l h = subst P (sym h.0) d
told_status P summary refused NoMemory status old new a b c d u r l h = subst P (sym h.0) d
told_status P summary refused TooLong status old new a b c d u r l h = subst P (sym h.0) (l refl)

-- the words of a run that is told were taken
pub told_usage : (summary : List ℕ) (refused : ℕ) (solved status : Status) (old new : Stream) → solved ≢ Usage → IsTold summary refused solved status old new → status ≢ Usage
told_usage summary refused solved status old new u h =
    told_status (λ t. t ≢ Usage) summary refused solved status old new (λ e. let z : ⊥ = cc in z) (λ e. let z : ⊥ = cc in z) (λ e. let z : ⊥ = cc in z) (λ e. let z : ⊥ = cc in z) (λ e. absurd (u e)) (λ e f. let z : ⊥ = cc in z) (λ e f. let z : ⊥ = cc in z) h

-- ---- the whole

short : (seed size : ℕ) → size ≤ 1000 → IsShort (Some (drill_script seed size))
short seed size small = record { text = drill_script seed size; told = refl; short = script_length seed size small }

-- a script that is not too long is not told to be
never_long : (seed size : ℕ) (left : List ℕ) (s : Status) (p p' : Stream) (refused : ℕ) → size ≤ 1000 → s ≡ TooLong → (s ≡ TooLong → ReadsBytes (input_limit + 1) (Some (drill_script seed size)) (Some left)) → s ≢ Usage → HasCause (counts 0 0 p.faults) (counts 0 refused p'.faults) s → ⊥
never_long seed size left s p p' refused small e long u c =
    let h = long e in
    let n : length (drill_script seed size) ≡ length h.0 + length left = ap length h.1 ∙ length-append h.0 left in
    omega (arith, n, h.2, script_length seed size small)

-- memory was wanting before anything was drawn
pub undrawn : (limits : Limits) (seed size : ℕ) (f : Files) → Drills limits seed size NoMemory f f
undrawn limits seed size f = record { answered = inr (record { wanting = refl; same = refl }); always = λ _. inr (inr refl); cause = tt }

drilled : (limits : Limits) (seed size : ℕ) (solved status : Status) (left answered : List ℕ) (refused : ℕ) (script answers answers' proof proof' : Stream) → size ≤ 1000 → solved ≢ Usage
    → Solves limits solved (files (stream (Some (drill_script seed size)) 0) (stream (Some []) 0) proof) (files (stream (Some left) 0) (stream (Some answered) refused) proof')
    → IsTold (summary_of seed size answered) refused solved status answers answers'
    → Drills limits seed size status (files script answers proof) (files script answers' proof')
drilled limits seed size solved status left answered refused script answers answers' proof proof' small u solves told =
    let cause = told_cause (summary_of seed size answered) refused solved status answers answers' proof proof' script.faults solves.cause told in
    record {
      answered = inl (record { solved = solved; left = left; answered = answered; refused = refused; solves = solves; told = told });
      always = λ z. told_status (λ t. HasCause (counts script.faults answers.faults proof.faults) (counts script.faults answers'.faults proof'.faults) t → IsEndOrWant t) (summary_of seed size answered) refused solved status answers answers' (λ _. inl refl) (λ _. inr (inl refl)) (λ c. absurd (⊎_elim (λ q. z.answers q) (λ q. z.proof q) c)) (λ _. inr (inr refl)) (λ e. absurd (u e))
          (λ _ c. absurd (z.script c)) (λ e. absurd (never_long seed size left solved proof proof' refused small e solves.too_long u solves.cause)) told cause;
      cause = cause;
    }

-- the same of a source that holds the script, and of a sink that keeps nothing yet
pub drilled_over : (limits : Limits) (seed size : ℕ) (solved status : Status) (left answered : List ℕ) (refused : ℕ) (script answers answers' proof proof' : Stream) (given : List ℕ) (kept : Keeping) → given ≡ drill_script seed size → kept ≡ record { bytes = []; refused = 0 } → size ≤ 1000 → solved ≢ Usage
    → Solves limits solved (files (stream (Some given) 0) (stream (Some kept.bytes) kept.refused) proof) (files (stream (Some left) 0) (stream (Some answered) refused) proof')
    → IsTold (summary_of seed size answered) refused solved status answers answers'
    → Drills limits seed size status (files script answers proof) (files script answers' proof')
drilled_over limits seed size solved status left answered refused script answers answers' proof proof' given kept e f small u solves told =
    drilled limits seed size solved status left answered refused script answers answers' proof proof' small u
    (subst (λ (k : Keeping). Solves limits solved (files (stream (Some (drill_script seed size)) 0) (stream (Some k.bytes) k.refused) proof) (files (stream (Some left) 0) (stream (Some answered) refused) proof')) f
    (subst (λ t. Solves limits solved (files (stream (Some t) 0) (stream (Some kept.bytes) kept.refused) proof) (files (stream (Some left) 0) (stream (Some answered) refused) proof')) e solves)) told
