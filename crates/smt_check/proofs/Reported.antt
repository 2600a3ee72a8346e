-- Of the end of a check, and of its run.
use Rattle.std.proofs.Common.{◌≡◌, ◌≢◌, ℕ, ◌<◌, false, List, [], ◌∷◌, ◌++◌, length, take, drop, Option, Some, None, refl, sym, ap, ◌∙◌, subst, inl, inr, ⊎_elim, append-nil, append_assoc, take-append-drop}
use Rattle.std.specs.List.{flat_map}
use Rattle.std.proofs.lemmas.List.Concat.{flat_map-append}
use Rattle.std.proofs.KnownBytes.{Appends-nil, Appends-trans}
use Rattle.accepted_proof.specs.Answers.{verdict_text}
use Rattle.std.specs.Prelude.{◌⊎◌, Err, IfSome}
use Rattle.std.specs.Io.KnownBytes.{Appends}
use Rattle.script_state.specs.declared.answer.Verdict.{Verdict}
use Rattle.accepted_proof.specs.declared.refusal.Refusal.{Refusal}
use Rattle.proof_checker.specs.Checked.{IsJudged, IsAcceptedSoFar}
use Rattle.proof_checker.specs.Reports.{report_text, ending_text}
use Rattle.proof_checker.proofs.Passing.{judged_one_way}
use Rattle.proof_checker.proofs.Fronts.{fronts_stay}
use Rattle.proof_checker.proofs.RightFronts.{fronts_right}
use Rattle.proof_checker.specs.Checkers.{CheckerValue}
use Rattle.proof_checker.specs.Checkings.{Keeps, Concludes, IsShowing, AddsVerdicts, Stops, held_by}
use Rattle.proof_checker.specs.declared.inputs.Inputs.{Inputs}
use Rattle.proof_checker.specs.declared.checking.Checking.{Checking}
use Rattle.proof_checker.specs.declared.checking.Judgement.{Judgement}
use Rattle.proof_checker.specs.declared.checking.Progress.{Progress}
use Rattle.proof_checker.specs.declared.checking.Progress.TheVariants as progress
use Rattle.smt_check.specs.declared.status.Status.{Status}
use Rattle.smt_check.specs.declared.status.Status.TheVariants.{Done, Refused, Usage, ReadFault, WriteFault, NoMemory, TooLong}
use Rattle.smt_check.specs.Runs.{ReadsWithin, AddsTo, Counts}
use Rattle.smt_check.specs.Checks.{ReadsBoth, status_of, ToldOf, IsEndOfCheck, AreKnown, AreRightVerdicts, IsRightSoFar, IsFrontOfCheck, ReadsForStatus, HasCheckCause}

-- ---- a check that ends while it reads

module _ (s s' p p' : Option (List ℕ)) where
  pub stopped_usage : (t : Status) → ReadsBoth s s' p p' (Err t) → t ≢ Usage
  stopped_usage Done h = absurd h
  stopped_usage Refused h = absurd h
  stopped_usage Usage h = absurd h
  stopped_usage ReadFault h = λ e. let z : ⊥ = cc in z
  stopped_usage WriteFault h = λ e. let z : ⊥ = cc in z
  stopped_usage NoMemory h = λ e. let z : ⊥ = cc in z
  stopped_usage TooLong h = λ e. let z : ⊥ = cc in z

  no_end : (t : Status) → ReadsBoth s s' p p' (Err t) → (t ≡ Done) ⊎ (t ≡ Refused) → ⊥
  no_end Done h k = h
  no_end Refused h k = h
  no_end Usage h k = h
  no_end ReadFault h k = ⊎_elim (λ e. let z : ⊥ = cc in z) (λ e. let z : ⊥ = cc in z) k
  no_end WriteFault h k = ⊎_elim (λ e. let z : ⊥ = cc in z) (λ e. let z : ⊥ = cc in z) k
  no_end NoMemory h k = ⊎_elim (λ e. let z : ⊥ = cc in z) (λ e. let z : ⊥ = cc in z) k
  no_end TooLong h k = ⊎_elim (λ e. let z : ⊥ = cc in z) (λ e. let z : ⊥ = cc in z) k

  pub stopped_end : (P : Type 0) (t : Status) → ReadsBoth s s' p p' (Err t) → (t ≡ Done) ⊎ (t ≡ Refused) → P
  stopped_end P t h k = absurd (no_end t h k)

  pub stopped_read : (t : Status) → ReadsBoth s s' p p' (Err t) → ReadsForStatus s s' p p' t
  stopped_read Done h = absurd h
  stopped_read Refused h = absurd h
  stopped_read Usage h = absurd h
  stopped_read ReadFault h = h
  stopped_read WriteFault h = h
  stopped_read NoMemory h = h
  stopped_read TooLong h = h

-- ---- what is told

abbrev pub lines_of : List Verdict → List ℕ
lines_of vs = flat_map verdict_text vs

-- whatever is judged of the two texts, its report begins with these bytes
abbrev Begins : List ℕ → List ℕ → List ℕ → Type 0
Begins x y bytes = (vs : List Verdict) (o : Option Refusal) → IsJudged x y vs o → (rest : List ℕ) × (report_text vs o ≡ bytes ++ rest)

begins_none : (x y bytes : List ℕ) → bytes ≡ [] → Begins x y bytes
begins_none x y bytes e vs o j = (report_text vs o, ap (λ b. b ++ report_text vs o) (sym e))

begins_report : (x y bytes rest : List ℕ) (us : List Verdict) (q : Option Refusal) → IsJudged x y us q → report_text us q ≡ bytes ++ rest → Begins x y bytes
begins_report x y bytes rest us q i r vs o j =
    let e = judged_one_way x y vs us o q j i in
    (rest, ap (λ ws. report_text ws o) e.0 ∙ ap (report_text us) e.1 ∙ r)

begins_verdicts : (x y bytes rest : List ℕ) (us : List Verdict) → IsAcceptedSoFar x y us → lines_of us ≡ bytes ++ rest → Begins x y bytes
begins_verdicts x y bytes rest us k r vs o j =
    let e = fronts_stay x y us vs o k j in
    let more : List ℕ = lines_of e.0 in
    let end : List ℕ = ending_text (length vs) o in
    let lines : lines_of vs ≡ (bytes ++ rest) ++ more = ap lines_of e.1 ∙ flat_map-append verdict_text us e.0 ∙ ap (λ b. b ++ more) r in
    (rest ++ (more ++ end), ap (λ b. b ++ end) lines ∙ append_assoc (bytes ++ rest) more end ∙ append_assoc bytes rest (more ++ end))

right_verdicts : (x y : List ℕ) (vs : List Verdict) → AreKnown x y vs → (vs ≡ []) ⊎ AreRightVerdicts x y vs
right_verdicts x y vs (inl e) = inl e
right_verdicts x y vs (inr k) = let t = fronts_right x y vs k in inr (record { limits = t.0; turns = t.1; accepted = t.2; right = t.3; verdicts_are = t.4 })

right_report : (x y bytes rest : List ℕ) (vs : List Verdict) (o : Option Refusal) → AreKnown x y vs → report_text vs o ≡ bytes ++ rest → IsRightSoFar x y bytes
right_report x y bytes rest vs o k r = record { verdicts = vs; refusal = o; rest = rest; report = r; right = right_verdicts x y vs k }

right_none : (x y bytes : List ℕ) → bytes ≡ [] → IsRightSoFar x y bytes
right_none x y bytes e = right_report x y bytes (report_text [] None) [] None (inl refl) (ap (λ b. b ++ report_text [] None) (sym e))

-- the verdicts alone, or a front of them
right_lines : (x y bytes rest : List ℕ) (vs : List Verdict) → AreKnown x y vs → lines_of vs ≡ bytes ++ rest → IsRightSoFar x y bytes
right_lines x y bytes rest vs k r =
    let end : List ℕ = ending_text (length vs) None in
    right_report x y bytes (rest ++ end) vs None k (ap (λ b. b ++ end) r ∙ append_assoc bytes rest end)

-- nothing
pub told_nothing : (s p a : Option (List ℕ)) → ToldOf s p a a IsFrontOfCheck
told_nothing None p a = tt
told_nothing (Some x) None a = tt
told_nothing (Some x) (Some y) None = tt
told_nothing (Some x) (Some y) (Some z) = ([], ap Some (sym (append-nil z)), record { told = inl refl; begins = begins_none x y [] refl; right = right_none x y [] refl })

-- all
pub told_all : (s p a a' : Option (List ℕ)) (vs : List Verdict) (o : Option Refusal) (bytes : List ℕ) (t : Status) → IfSome s (λ x. IfSome p (λ y. IsJudged x y vs o)) → bytes ≡ report_text vs o → Appends a a' bytes → t ≡ status_of o → ToldOf s p a a' (IsEndOfCheck t)
told_all None p a a' vs o bytes t j r w e = tt
told_all (Some x) None a a' vs o bytes t j r w e = tt
told_all (Some x) (Some y) None a' vs o bytes t j r w e = tt
told_all (Some x) (Some y) (Some z) None vs o bytes t j r w e = absurd w
told_all (Some x) (Some y) (Some z) (Some u) vs o bytes t j r w e = (bytes, ap Some w, record { verdicts = vs; refusal = o; judged = j; report = r; status_is = e })

-- a front of it
pub told_some : (s p a a' : Option (List ℕ)) (vs : List Verdict) (o : Option Refusal) (bytes rest : List ℕ) → IfSome s (λ x. IfSome p (λ y. IsJudged x y vs o)) → IfSome s (λ x. IfSome p (λ y. AreKnown x y vs)) → report_text vs o ≡ bytes ++ rest → Appends a a' bytes → ToldOf s p a a' IsFrontOfCheck
told_some None p a a' vs o bytes rest j k r w = tt
told_some (Some x) None a a' vs o bytes rest j k r w = tt
told_some (Some x) (Some y) None a' vs o bytes rest j k r w = tt
told_some (Some x) (Some y) (Some z) None vs o bytes rest j k r w = absurd w
told_some (Some x) (Some y) (Some z) (Some u) vs o bytes rest j k r w = (
  bytes,
  ap Some w,
  record { told = inr (inr (record { verdicts = vs; refusal = o; rest = rest; judged = j; report = r })); begins = begins_report x y bytes rest vs o j r; right = right_report x y bytes rest vs o k r },
)

-- ---- the verdicts, one after the other

-- the same, where both texts are told
abbrev pub AreKnownOf : Option (List ℕ) → Option (List ℕ) → List Verdict → Type 0
AreKnownOf s p vs = IfSome s (λ x. IfSome p (λ y. AreKnown x y vs))

known_none : (s p : Option (List ℕ)) (vs : List Verdict) → vs ≡ [] → AreKnownOf s p vs
known_none None p vs e = tt
known_none (Some x) None vs e = tt
known_none (Some x) (Some y) vs e = inl e

known_some : (s p : Option (List ℕ)) (vs : List Verdict) → IfSome s (λ x. IfSome p (λ y. IsAcceptedSoFar x y vs)) → AreKnownOf s p vs
known_some None p vs h = tt
known_some (Some x) None vs h = tt
known_some (Some x) (Some y) vs h = inr h

none_before : (a b : List ℕ) → [] ≡ a ++ b → a ≡ []
none_before [] b e = refl
none_before (x ∷ a) b e = absurd (let z : ⊥ = cc in z)

pub told_verdicts : (s p a a' : Option (List ℕ)) (vs : List Verdict) (bytes rest : List ℕ) → AreKnownOf s p vs → lines_of vs ≡ bytes ++ rest → Appends a a' bytes → ToldOf s p a a' IsFrontOfCheck
told_verdicts None p a a' vs bytes rest k r w = tt
told_verdicts (Some x) None a a' vs bytes rest k r w = tt
told_verdicts (Some x) (Some y) None a' vs bytes rest k r w = tt
told_verdicts (Some x) (Some y) (Some z) None vs bytes rest k r w = absurd w
told_verdicts (Some x) (Some y) (Some z) (Some u) vs bytes rest (inl e) r w =
    let none : bytes ≡ [] = none_before bytes rest (sym (ap lines_of e) ∙ r) in
    (bytes, ap Some w, record { told = inl none; begins = begins_none x y bytes none; right = right_none x y bytes none })
told_verdicts (Some x) (Some y) (Some z) (Some u) vs bytes rest (inr k) r w = (
  bytes,
  ap Some w,
  record { told = inr (inl (record { verdicts = vs; rest = rest; accepted = k; report = r })); begins = begins_verdicts x y bytes rest vs k r; right = right_lines x y bytes rest vs (inr k) r },
)

lines_more : (vs : List Verdict) (v : Verdict) → lines_of (vs ++ v ∷ []) ≡ lines_of vs ++ verdict_text v
lines_more vs v = flat_map-append verdict_text vs (v ∷ []) ∙ ap (λ x. lines_of vs ++ x) (append-nil (verdict_text v))

-- the verdicts so far are told, and known
pub record IsTelling (s p a a' : Option (List ℕ)) (vs : List Verdict) : Type 0 where
  pub told : Appends a a' (lines_of vs)
  pub known : AreKnownOf s p vs

module _ (s p a : Option (List ℕ)) where
  pub telling_none : (vs : List Verdict) → vs ≡ [] → IsTelling s p a a vs
  telling_none vs e = record { told = subst (λ us. Appends a a (lines_of us)) (sym e) (Appends-nil a); known = known_none s p vs e }

  module _ (a' : Option (List ℕ)) (vs : List Verdict) (t : IsTelling s p a a' vs) where
    pub telling_same : (us : List Verdict) → us ≡ vs ++ [] → IsTelling s p a a' us
    telling_same us e = subst (λ ws. IsTelling s p a a' ws) (sym (e ∙ append-nil vs)) t

    pub telling_front : ToldOf s p a a' IsFrontOfCheck
    telling_front = told_verdicts s p a a' vs (lines_of vs) [] t.known (sym (append-nil (lines_of vs))) t.told

    pub telling_adds : AddsTo a a'
    telling_adds = (lines_of vs, t.told)

    module _ (us : List Verdict) (v : Verdict) (e : us ≡ vs ++ v ∷ []) (known : IfSome s (λ x. IfSome p (λ y. IsAcceptedSoFar x y us))) where
      pub telling_more : (a'' : Option (List ℕ)) → Appends a' a'' (verdict_text v) → IsTelling s p a a'' us
      telling_more a'' w = record {
        told = subst (λ x. Appends a a'' x) (sym (ap lines_of e ∙ lines_more vs v)) (Appends-trans a a' a'' (lines_of vs) (verdict_text v) t.told w);
        known = known_some s p us known;
      }

      -- a part of the line of the last
      pub part_front : (a'' : Option (List ℕ)) (n : ℕ) → Appends a' a'' (take n (verdict_text v)) → ToldOf s p a a'' IsFrontOfCheck
      part_front a'' n w =
          told_verdicts s p a a'' us (lines_of vs ++ take n (verdict_text v)) (drop n (verdict_text v)) (known_some s p us known)
          (ap lines_of e ∙ lines_more vs v ∙ ap (λ x. lines_of vs ++ x) (sym (take-append-drop n (verdict_text v))) ∙ sym (append_assoc (lines_of vs) (take n (verdict_text v)) (drop n (verdict_text v))))
          (Appends-trans a a' a'' (lines_of vs) (take n (verdict_text v)) t.told w)

      pub part_adds : (a'' : Option (List ℕ)) (n : ℕ) → Appends a' a'' (take n (verdict_text v)) → AddsTo a a''
      part_adds a'' n w = (lines_of vs ++ take n (verdict_text v), Appends-trans a a' a'' (lines_of vs) (take n (verdict_text v)) t.told w)

-- ---- the last line

module _ (s p a a' a'' : Option (List ℕ)) (vs : List Verdict) (o : Option Refusal) (line : List ℕ) (judged : IfSome s (λ x. IfSome p (λ y. IsJudged x y vs o))) (told : Appends a a' (lines_of vs)) (is : line ≡ ending_text (length vs) o) where
  whole : lines_of vs ++ line ≡ report_text vs o
  whole = ap (λ x. lines_of vs ++ x) is

  pub line_ends : (t : Status) → Appends a' a'' line → t ≡ status_of o → ToldOf s p a a'' (IsEndOfCheck t)
  line_ends t w e = told_all s p a a'' vs o (lines_of vs ++ line) t judged whole (Appends-trans a a' a'' (lines_of vs) line told w) e

  pub line_front : AreKnownOf s p vs → (n : ℕ) → Appends a' a'' (take n line) → ToldOf s p a a'' IsFrontOfCheck
  line_front k n w =
      told_some s p a a'' vs o (lines_of vs ++ take n line) (drop n line) judged k
      (sym whole ∙ ap (λ x. lines_of vs ++ x) (sym (take-append-drop n line)) ∙ sym (append_assoc (lines_of vs) (take n line) (drop n line)))
      (Appends-trans a a' a'' (lines_of vs) (take n line) told w)

  pub whole_front : AreKnownOf s p vs → Appends a' a'' line → ToldOf s p a a'' IsFrontOfCheck
  whole_front k w = told_some s p a a'' vs o (lines_of vs ++ line) [] judged k (sym whole ∙ sym (append-nil (lines_of vs ++ line))) (Appends-trans a a' a'' (lines_of vs) line told w)

-- ---- the status of an end

pub end_usage : (o : Option Refusal) → status_of o ≢ Usage
end_usage None = λ e. let z : ⊥ = cc in z
end_usage (Some r) = λ e. let z : ⊥ = cc in z

pub end_read : (s s' p p' : Option (List ℕ)) (o : Option Refusal) → ReadsWithin s s' × ReadsWithin p p' → ReadsForStatus s s' p p' (status_of o)
end_read s s' p p' None h = h
end_read s s' p p' (Some r) h = h

pub end_cause : (a b : Counts) (o : Option Refusal) → HasCheckCause a b (status_of o)
end_cause a b None = tt
end_cause a b (Some r) = tt

pub write_usage : WriteFault ≢ Usage
write_usage = λ e. let z : ⊥ = cc in z

pub write_end : (P : Type 0) → (WriteFault ≡ Done) ⊎ (WriteFault ≡ Refused) → P
write_end P k = absurd (⊎_elim (λ e. let z : ⊥ = cc in z) (λ e. let z : ⊥ = cc in z) k)

-- a sink that failed behind what was read
pub both_unwritten : (s s' p p' : Option (List ℕ)) (t : Status) → t ≡ WriteFault → ReadsWithin s s' × ReadsWithin p p' → ReadsBoth s s' p p' (Err t)
both_unwritten s s' p p' t e h = subst (λ x. ReadsBoth s s' p p' (Err x)) (sym e) h

-- want of memory behind what was read
pub both_without_memory : (s s' p p' : Option (List ℕ)) (t : Status) → t ≡ NoMemory → ReadsWithin s s' × ReadsWithin p p' → ReadsBoth s s' p p' (Err t)
both_without_memory s s' p p' t e h = subst (λ x. ReadsBoth s s' p p' (Err x)) (sym e) h

-- ---- how a check stops

module _ (i : Inputs) (b : Option CheckerValue) (p : Progress) where
  pub stops_script : (c : Checking) → p ≡ progress.Script c → Stops i b p → Keeps i b c × AddsVerdicts b c.checker [] × (c.inputs.script_ended ≡ false)
  stops_script c e h = subst (λ x. Stops i b x) e h

  pub stops_proof : (c : Checking) → p ≡ progress.Proof c → Stops i b p → Keeps i b c × AddsVerdicts b c.checker [] × (c.inputs.proof_ended ≡ false)
  stops_proof c e h = subst (λ x. Stops i b x) e h

  pub stops_shown : (c : Checking) (v : Verdict) → p ≡ progress.Shown c v → Stops i b p → Keeps i b c × AddsVerdicts b c.checker (v ∷ []) × IsShowing i b c × (held_by c.inputs < held_by i)
  stops_shown c v e h = subst (λ x. Stops i b x) e h

  pub stops_done : (j : Judgement) → p ≡ progress.Done j → Stops i b p → Concludes i b j × AddsVerdicts b j.checker []
  stops_done j e h = subst (λ x. Stops i b x) e h
