-- Of the end of a run.
use Rattle.std.proofs.Common.{◌≡◌, ◌≢◌, ℕ, ◌+◌, List, length, Option, Some, None, refl, sym, ap, ◌∙◌, inl, inr, ⊎_elim, arith, length-append}
use Rattle.std.specs.Prelude.{◌⊎◌, Bool, true, false, if◌then◌else◌}
use Rattle.script_state.specs.declared.answer.Verdict.{Verdict}
use Rattle.script_state.specs.States.{no_state}
use Rattle.accepted_proof.specs.declared.refusal.Refusal.{Refusal}
use Rattle.accepted_proof.specs.Searching.{Limits}
use Rattle.accepted_proof.specs.Turns.{Turn}
use Rattle.accepted_proof.specs.Accepted.{Accepted}
use Rattle.accepted_proof.specs.Right.{AreRight}
use Rattle.proof_checker.specs.Checked.{IsJudged, IsAccepted, verdicts_of}
use Rattle.proof_checker.specs.Reports.{report_text}
use Rattle.smt_check.specs.declared.status.Status.{Status}
use Rattle.smt_check.specs.declared.status.Status.TheVariants.{Done, Refused, Usage, ReadFault, WriteFault, NoMemory, TooLong}
use Rattle.smt_check.specs.Runs.{ReadsBytes, Counts, HasCause, input_limit}
use Rattle.smt_check.specs.Checks.{status_of, ToldOf, IsEndOfCheck, IsRightlyAccepted, ReadsForStatus, HasCheckCause}
use Rattle.smt_run.specs.Solving.{FailsToRead}
use Rattle.smt_run.specs.Beside.{IsShort, IsWithoutFault}
use Rattle.smt_run.specs.Commands.{IsNoProof}

-- what is accepted is right
abbrev pub AcceptedLaw : Type 0
AcceptedLaw = (script proof : List ℕ) (vs : List Verdict) → IsAccepted script proof vs → (limits : Limits) × (turns : List Turn) × Accepted limits script proof turns × AreRight no_state turns × (vs ≡ verdicts_of turns)

right_end : (text lines answered : List ℕ) (t : Status) → AcceptedLaw → t ≡ Done → IsEndOfCheck t text lines answered → IsRightlyAccepted text lines answered
right_end text lines answered t law e k = go k.refusal k.judged k.report (sym e ∙ k.status_is)
  where
    go : (o : Option Refusal) → IsJudged text lines k.verdicts o → answered ≡ report_text k.verdicts o → Done ≡ status_of o → IsRightlyAccepted text lines answered
    go None j r d = let l = law text lines k.verdicts j in record { limits = l.0; turns = l.1; accepted = l.2; right = l.3; report = r ∙ ap (λ vs. report_text vs None) l.4 }
    go (Some x) j r d = let z : ⊥ = cc in absurd z

pub right_told : (s p a a' : Option (List ℕ)) (t : Status) → AcceptedLaw → t ≡ Done → ToldOf s p a a' (IsEndOfCheck t) → ToldOf s p a a' IsRightlyAccepted
right_told None p a a' t law e h = tt
right_told (Some x) None a a' t law e h = tt
right_told (Some x) (Some y) None a' t law e h = tt
right_told (Some x) (Some y) (Some z) a' t law e h = (h.0, h.1, right_end x y h.0 t law e h.2)

-- each accepted proof passes
abbrev pub PassesLaw : Type 0
PassesLaw = (limits : Limits) (script proof : List ℕ) (turns : List Turn) → Accepted limits script proof turns → IsAccepted script proof (verdicts_of turns)

-- one thing at most is judged
abbrev pub OneWayLaw : Type 0
OneWayLaw = (script proof : List ℕ) (vs us : List Verdict) (o q : Option Refusal) → IsJudged script proof vs o → IsJudged script proof us q → (vs ≡ us) × (o ≡ q)

refused_end : (text lines answered : List ℕ) (t : Status) → PassesLaw → OneWayLaw → t ≡ Refused → IsEndOfCheck t text lines answered → IsNoProof text lines answered
refused_end text lines answered t pass one e k = λ limits turns accepted. go k.refusal k.judged (sym e ∙ k.status_is) turns (pass limits text lines turns accepted)
  where
    go : (o : Option Refusal) → IsJudged text lines k.verdicts o → Refused ≡ status_of o → (turns : List Turn) → IsAccepted text lines (verdicts_of turns) → ⊥
    go None j d turns h = let z : ⊥ = cc in z
    go (Some x) j d turns h = let same : ◌≡◌ {A = Option Refusal} (Some x) None = (one text lines k.verdicts (verdicts_of turns) (Some x) None j h).1 in let z : ⊥ = cc in z

pub refused_told : (s p a a' : Option (List ℕ)) (t : Status) → PassesLaw → OneWayLaw → t ≡ Refused → ToldOf s p a a' (IsEndOfCheck t) → ToldOf s p a a' IsNoProof
refused_told None p a a' t pass one e h = tt
refused_told (Some x) None a a' t pass one e h = tt
refused_told (Some x) (Some y) None a' t pass one e h = tt
refused_told (Some x) (Some y) (Some z) a' t pass one e h = (h.0, h.1, refused_end x y h.0 t pass one e h.2)

-- ---- the status of an end

-- a short text is not too long
not_too_long : (s s' : Option (List ℕ)) → IsShort s → ReadsBytes (input_limit + 1) s s' → ⊥
not_too_long None s' x h = let e = x.told in let z : ⊥ = cc in z
not_too_long (Some t) None x h = h.1
not_too_long (Some t) (Some u) x h =
    let e : t ≡ x.text = cc (x.told) in
    let n : length t ≡ length h.0 + length u = ap length h.1 ∙ length-append h.0 u in
    let m : length t ≡ length x.text = ap length e in
    omega (arith, n, m, h.2, x.short)

pub judged_unless : (s s' p p' : Option (List ℕ)) (a b : Counts) (t : Status) → t ≢ Usage → ReadsForStatus s s' p p' t → HasCheckCause a b t → IsShort s → IsShort p → IsWithoutFault a b → (t ≡ Done) ⊎ ((t ≡ Refused) ⊎ (t ≡ NoMemory))
judged_unless s s' p p' a b Done u r h x y z = inl refl
judged_unless s s' p p' a b Refused u r h x y z = inr (inl refl)
judged_unless s s' p p' a b Usage u r h x y z = absurd (u refl)
judged_unless s s' p p' a b ReadFault u r h x y z = absurd (⊎_elim (λ q. z.script q) (λ q. z.proof q) h)
judged_unless s s' p p' a b WriteFault u r h x y z = absurd (z.answers h)
judged_unless s s' p p' a b NoMemory u r h x y z = inr (inr refl)
judged_unless s s' p p' a b TooLong u r h x y z = absurd (⊎_elim (λ q. not_too_long s s' x q.0) (λ q. not_too_long p p' y q.1) r)

pub memory_usage : NoMemory ≢ Usage
memory_usage = λ e. let z : ⊥ = cc in z

pub memory_long : NoMemory ≢ TooLong
memory_long = λ e. let z : ⊥ = cc in z

pub memory_end : (P : Type 0) → (NoMemory ≡ Done) ⊎ (NoMemory ≡ Refused) → P
memory_end P k = absurd (⊎_elim (λ e. let z : ⊥ = cc in z) (λ e. let z : ⊥ = cc in z) k)

pub memory_refused : (P : Type 0) → NoMemory ≡ Refused → P
memory_refused P e = let z : ⊥ = cc in absurd z

pub memory_done : (P : Type 0) → NoMemory ≡ Done → P
memory_done P e = let z : ⊥ = cc in absurd z

pub answered_unless : (s s' : Option (List ℕ)) (a b : Counts) (t : Status) → t ≢ Usage → (t ≡ TooLong → ReadsBytes (input_limit + 1) s s') → HasCause a b t → IsShort s → IsWithoutFault a b → (t ≡ Done) ⊎ ((t ≡ Refused) ⊎ (t ≡ NoMemory))
answered_unless s s' a b Done u r h x z = inl refl
answered_unless s s' a b Refused u r h x z = inr (inl refl)
answered_unless s s' a b Usage u r h x z = absurd (u refl)
answered_unless s s' a b ReadFault u r h x z = absurd (z.script h)
answered_unless s s' a b WriteFault u r h x z = absurd (⊎_elim (λ q. z.answers q) (λ q. z.proof q) h)
answered_unless s s' a b NoMemory u r h x z = inr (inr refl)
answered_unless s s' a b TooLong u r h x z = absurd (not_too_long s s' x (r refl))

-- a run that came to its end did not fail to read
pub end_reads : (refused : Bool) (t : Status) → t ≡ (if refused then Refused else Done) → FailsToRead t → ⊥
end_reads true t e k = ⊎_elim (λ d. let z : ⊥ = cc in z) (λ d. let z : ⊥ = cc in z) k
end_reads false t e k = ⊎_elim (λ d. let z : ⊥ = cc in z) (λ d. let z : ⊥ = cc in z) k

-- want of memory is no read that failed
pub memory_reads : FailsToRead NoMemory → ⊥
memory_reads k = ⊎_elim (λ d. let z : ⊥ = cc in z) (λ d. let z : ⊥ = cc in z) k
