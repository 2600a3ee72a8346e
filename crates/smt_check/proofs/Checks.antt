-- Of a check that reads both texts in pieces.
use Rattle.std.proofs.Common.{◌≡◌, ◌≢◌, ℕ, ◌+◌, ◌-◌, ◌<◌, ◌≤◌, Bool, true, false, List, [], ◌++◌, length, take, Option, Some, None, refl, sym, ap, ◌∙◌, subst, inl, inr, arith, append_assoc, length-append}
use Rattle.std.specs.Prelude.{Err, IfSome}
use Rattle.std.proofs.lemmas.List.{length-take-le, nil_from_length}
use Rattle.std.specs.Io.KnownBytes.{Consumes, IsAtEnd}
use Rattle.std.proofs.KnownBytes.{Consumes-nil, Consumes-trans}
use Rattle.script_state.specs.declared.answer.Verdict.{Verdict}
use Rattle.accepted_proof.specs.declared.refusal.Refusal.{Refusal}
use Rattle.proof_checker.specs.Checked.{IsJudged, IsAcceptedSoFar}
use Rattle.proof_checker.specs.Checkings.{AreToCome, AreEnded, Judges, Accepts, IsFed, IsShowing, Keeps, Concludes, verdicts_by, held_by}
use Rattle.proof_checker.specs.declared.checking.Checking.{Checking}
use Rattle.proof_checker.specs.declared.checking.Judgement.{Judgement}
use Rattle.smt_check.specs.declared.status.Status.{Status}
use Rattle.smt_check.specs.declared.status.Status.TheVariants.{Done, Refused, Usage, ReadFault, WriteFault, NoMemory, TooLong}
use Rattle.smt_check.specs.Runs.{ReadsBytes, ReadsWithin, ReadsPiece, HasCause, Counts, counts, input_limit}
use Rattle.smt_desk.specs.Faults.{Rose}
use Rattle.smt_check.specs.Checks.{ReadsUpTo, StopsReading, TakesScript, TakesProof, ReadsBoth, HasCheckCause, if_open}
use Rattle.smt_check.proofs.Parts.{reads_more, rose_after}

-- ---- one read

-- a read that failed
pub read_stopped : (left : ℕ) (s s' : Option (List ℕ)) (t : Status) → ReadsPiece left s s' (Err t) → StopsReading left s s' t
read_stopped left s s' Done h = h
read_stopped left s s' Refused h = h
read_stopped left s s' Usage h = h
read_stopped left s s' ReadFault h = (0, omega arith, h)
read_stopped left s s' WriteFault h = h
read_stopped left s s' NoMemory h = absurd h
read_stopped left s s' TooLong h = rw h.0 h.1

-- want of memory behind a read
pub read_without_memory : (left n : ℕ) (s s' : Option (List ℕ)) (t : Status) → t ≡ NoMemory → n ≤ left → ReadsBytes n s s' → StopsReading left s s' t
read_without_memory left n s s' t e le h = subst (λ x. StopsReading left s s' x) (sym e) (n, le, h)

-- nothing came, so the input is at its end
consumes_none : (s s' : Option (List ℕ)) (n : ℕ) → n ≡ 0 → ReadsBytes n s s' → Consumes s s' []
consumes_none s s' n z h = subst (Consumes s s') (nil_from_length h.0 (h.2 ∙ z)) h.1

one_open : (b : Bool) (rest left : ℕ) → b ≡ false → rest < left → rest + if_open b < left + 1
one_open b rest left e h = subst (λ x. rest + if_open x < left + 1) (sym e) (omega arith)

none_open : (b : Bool) (left rest : ℕ) → left ≡ rest → b ≡ true → rest + if_open b < left + 1
none_open b left rest l e = subst (λ x. rest + if_open x < left + 1) (sym e) (omega (arith, l))

module _ (old new : Checking) (left rest n : ℕ) (s s' : Option (List ℕ)) (same : left ≡ rest) where
  pub script_ends : n ≡ 0 → ReadsBytes n s s' → (n ≡ 0 → IsAtEnd s') → ((script proof : List ℕ) (vs : List Verdict) (o : Option Refusal) → Judges new script proof vs o → Judges old script proof vs o) → AreEnded new true old.inputs.proof_ended → ((script proof : List ℕ) (vs : List Verdict) → Accepts new script proof vs → Accepts old script proof vs) → IsFed old new 0 → TakesScript old new left rest s s'
  script_ends z h e j d a f = record {
    bytes = [];
    consumed = consumes_none s s' n z h;
    size = omega (arith, same);
    judged = j;
    accepted = a;
    fed = f;
    end = λ _. e z;
    other = d.proof;
    less = none_open new.inputs.script_ended left rest same d.script;
  }

  pub proof_ends : n ≡ 0 → ReadsBytes n s s' → (n ≡ 0 → IsAtEnd s') → ((script proof : List ℕ) (vs : List Verdict) (o : Option Refusal) → Judges new script proof vs o → Judges old script proof vs o) → AreEnded new old.inputs.script_ended true → ((script proof : List ℕ) (vs : List Verdict) → Accepts new script proof vs → Accepts old script proof vs) → IsFed old new 0 → TakesProof old new left rest s s'
  proof_ends z h e j d a f = record {
    bytes = [];
    consumed = consumes_none s s' n z h;
    size = omega (arith, same);
    judged = j;
    accepted = a;
    fed = f;
    end = λ _. e z;
    other = d.script;
    less = none_open new.inputs.proof_ended left rest same d.proof;
  }

-- a piece that was fed
left_behind : (bytes : List ℕ) (left n rest : ℕ) → length bytes ≡ n → n ≤ left → left - n ≡ rest → length bytes + rest ≡ left
left_behind bytes left n rest e h f = omega (arith, e, f)

module _ (old new : Checking) (left n rest : ℕ) (s s' : Option (List ℕ)) (buffer : List ℕ) (some : n ≢ 0) (within : n ≤ length buffer) (le : n ≤ left) (fewer : left - n ≡ rest) where
  pub script_fed : old.inputs.script_ended ≡ false → Consumes s s' (take n buffer) → ((script proof : List ℕ) (vs : List Verdict) (o : Option Refusal) → Judges new script proof vs o → Judges old (take n buffer ++ script) proof vs o) → AreEnded new old.inputs.script_ended old.inputs.proof_ended → ((script proof : List ℕ) (vs : List Verdict) → Accepts new script proof vs → Accepts old (take n buffer ++ script) proof vs) → IsFed old new (length (take n buffer)) → TakesScript old new left rest s s'
  script_fed closed c j d a f = record {
    bytes = take n buffer;
    consumed = c;
    size = left_behind (take n buffer) left n rest (length-take-le n buffer within) le fewer;
    judged = j;
    accepted = a;
    fed = f;
    end = λ h. let z : ⊥ = cc (h, d.script, closed) in absurd z;
    other = d.proof;
    less = one_open new.inputs.script_ended rest left (d.script ∙ closed) (omega (arith, some, le, fewer));
  }

  pub proof_fed : old.inputs.proof_ended ≡ false → Consumes s s' (take n buffer) → ((script proof : List ℕ) (vs : List Verdict) (o : Option Refusal) → Judges new script proof vs o → Judges old script (take n buffer ++ proof) vs o) → AreEnded new old.inputs.script_ended old.inputs.proof_ended → ((script proof : List ℕ) (vs : List Verdict) → Accepts new script proof vs → Accepts old script (take n buffer ++ proof) vs) → IsFed old new (length (take n buffer)) → TakesProof old new left rest s s'
  proof_fed closed c j d a f = record {
    bytes = take n buffer;
    consumed = c;
    size = left_behind (take n buffer) left n rest (length-take-le n buffer within) le fewer;
    judged = j;
    accepted = a;
    fed = f;
    end = λ h. let z : ⊥ = cc (h, d.proof, closed) in absurd z;
    other = d.script;
    less = one_open new.inputs.proof_ended rest left (d.proof ∙ closed) (omega (arith, some, le, fewer));
  }

-- ---- both texts

-- so much was read of both, and what is judged from here is judged of the whole
pub record UnderWay (c : Checking) (s s' p p' : Option (List ℕ)) (sl pl : ℕ) : Type 0 where
  pub text : List ℕ
  pub lines : List ℕ
  pub script : Consumes s s' text
  pub proof : Consumes p p' lines
  pub script_size : length text + sl ≡ input_limit
  pub proof_size : length lines + pl ≡ input_limit
  pub script_end : c.inputs.script_ended ≡ true → IsAtEnd s'
  pub proof_end : c.inputs.proof_ended ≡ true → IsAtEnd p'
  pub judged : (t l : List ℕ) (vs : List Verdict) (o : Option Refusal) → AreToCome c.inputs t l → Judges c t l vs o → IsJudged (text ++ t) (lines ++ l) vs o
  pub accepted : (t l : List ℕ) (vs : List Verdict) → AreToCome c.inputs t l → Accepts c t l vs → IsAcceptedSoFar (text ++ t) (lines ++ l) vs

pub way_none : (c : Checking) (s p : Option (List ℕ)) → ((t l : List ℕ) (vs : List Verdict) (o : Option Refusal) → Judges c t l vs o → IsJudged t l vs o) → ((t l : List ℕ) (vs : List Verdict) → Accepts c t l vs → IsAcceptedSoFar t l vs) → AreEnded c false false → UnderWay c s s p p input_limit input_limit
way_none c s p j a e = record {
  text = [];
  lines = [];
  script = Consumes-nil s;
  proof = Consumes-nil p;
  script_size = refl;
  proof_size = refl;
  script_end = λ h. absurd (let x = e.script in let z : ⊥ = cc in z);
  proof_end = λ h. absurd (let x = e.proof in let z : ⊥ = cc in z);
  judged = λ t l vs o k h. j t l vs o h;
  accepted = λ t l vs k h. a t l vs h;
}

module _ (c : Checking) (s s' p p' : Option (List ℕ)) (sl pl : ℕ) (w : UnderWay c s s' p p' sl pl) where
  pub way_advance : (d : Checking) → Keeps c.inputs c.checker d → UnderWay d s s' p p' sl pl
  way_advance d k = record {
    text = w.text;
    lines = w.lines;
    script = w.script;
    proof = w.proof;
    script_size = w.script_size;
    proof_size = w.proof_size;
    script_end = λ h. w.script_end (sym k.script ∙ h);
    proof_end = λ h. w.proof_end (sym k.proof ∙ h);
    judged = λ t l vs o a h.
        let b : AreToCome c.inputs t l = record { script = λ e. a.script (k.script ∙ e); proof = λ e. a.proof (k.proof ∙ e) } in
        w.judged t l vs o b (k.judged t l vs o b h);
    accepted = λ t l vs a h.
        let b : AreToCome c.inputs t l = record { script = λ e. a.script (k.script ∙ e); proof = λ e. a.proof (k.proof ∙ e) } in
        w.accepted t l vs b (k.accepted t l vs b h);
  }

  longer : (x y : List ℕ) (n m : ℕ) → length x + n ≡ input_limit → length y + m ≡ n → length (x ++ y) + m ≡ input_limit
  longer x y n m e f = omega (arith, length-append x y)

  pub way_script : c.inputs.script_ended ≡ false → (d : Checking) (rest : ℕ) (s'' : Option (List ℕ)) → TakesScript c d sl rest s' s'' → UnderWay d s s'' p p' rest pl
  way_script closed d rest s'' k = record {
    text = w.text ++ k.bytes;
    lines = w.lines;
    script = Consumes-trans s s' s'' w.text k.bytes w.script k.consumed;
    proof = w.proof;
    script_size = longer w.text k.bytes sl rest w.script_size k.size;
    proof_size = w.proof_size;
    script_end = k.end;
    proof_end = λ h. w.proof_end (sym k.other ∙ h);
    judged = λ t l vs o a h.
        let b : AreToCome c.inputs (k.bytes ++ t) l = record { script = λ e. absurd (let z : ⊥ = cc in z); proof = λ e. a.proof (k.other ∙ e) } in
        subst (λ (x : List ℕ). IsJudged x (w.lines ++ l) vs o) (sym (append_assoc w.text k.bytes t)) (w.judged (k.bytes ++ t) l vs o b (k.judged t l vs o h));
    accepted = λ t l vs a h.
        let b : AreToCome c.inputs (k.bytes ++ t) l = record { script = λ e. absurd (let z : ⊥ = cc in z); proof = λ e. a.proof (k.other ∙ e) } in
        subst (λ (x : List ℕ). IsAcceptedSoFar x (w.lines ++ l) vs) (sym (append_assoc w.text k.bytes t)) (w.accepted (k.bytes ++ t) l vs b (k.accepted t l vs h));
  }

  pub way_proof : c.inputs.proof_ended ≡ false → (d : Checking) (rest : ℕ) (p'' : Option (List ℕ)) → TakesProof c d pl rest p' p'' → UnderWay d s s' p p'' sl rest
  way_proof closed d rest p'' k = record {
    text = w.text;
    lines = w.lines ++ k.bytes;
    script = w.script;
    proof = Consumes-trans p p' p'' w.lines k.bytes w.proof k.consumed;
    script_size = w.script_size;
    proof_size = longer w.lines k.bytes pl rest w.proof_size k.size;
    script_end = λ h. w.script_end (sym k.other ∙ h);
    proof_end = k.end;
    judged = λ t l vs o a h.
        let b : AreToCome c.inputs t (k.bytes ++ l) = record { script = λ e. a.script (k.other ∙ e); proof = λ e. absurd (let z : ⊥ = cc in z) } in
        subst (λ (x : List ℕ). IsJudged (w.text ++ t) x vs o) (sym (append_assoc w.lines k.bytes l)) (w.judged t (k.bytes ++ l) vs o b (k.judged t l vs o h));
    accepted = λ t l vs a h.
        let b : AreToCome c.inputs t (k.bytes ++ l) = record { script = λ e. a.script (k.other ∙ e); proof = λ e. absurd (let z : ⊥ = cc in z) } in
        subst (λ (x : List ℕ). IsAcceptedSoFar (w.text ++ t) x vs) (sym (append_assoc w.lines k.bytes l)) (w.accepted t (k.bytes ++ l) vs b (k.accepted t l vs h));
  }

  -- how much was read
  script_within : ReadsWithin s s'
  script_within = (length w.text, let e = w.script_size in omega arith, (w.text, w.script, refl))

  proof_within : ReadsWithin p p'
  proof_within = (length w.lines, let e = w.proof_size in omega arith, (w.lines, w.proof, refl))

  pub both_within : ReadsWithin s s' × ReadsWithin p p'
  both_within = (script_within, proof_within)

  further : (a b d : Option (List ℕ)) (text : List ℕ) (n : ℕ) → Consumes a b text → length text + n ≡ input_limit → ReadsUpTo n b d → ReadsWithin a d
  further a b d text n k e h = (length text + h.0, let f = h.1 in omega arith, reads_more (length text) h.0 (length text + h.0) a b d (text, k, refl) h.2 refl)

  too_far : (a b d : Option (List ℕ)) (text : List ℕ) (n : ℕ) → Consumes a b text → length text + n ≡ input_limit → ReadsBytes (n + 1) b d → ReadsBytes (input_limit + 1) a d
  too_far a b d text n k e h = reads_more (length text) (n + 1) (input_limit + 1) a b d (text, k, refl) h (omega arith)

  pub script_stopped : (s'' : Option (List ℕ)) (t : Status) → StopsReading sl s' s'' t → ReadsBoth s s'' p p' (Err t)
  script_stopped s'' Done h = h
  script_stopped s'' Refused h = h
  script_stopped s'' Usage h = h
  script_stopped s'' ReadFault h = (further s s' s'' w.text sl w.script w.script_size h, proof_within)
  script_stopped s'' WriteFault h = absurd h
  script_stopped s'' NoMemory h = (further s s' s'' w.text sl w.script w.script_size h, proof_within)
  script_stopped s'' TooLong h = inl (too_far s s' s'' w.text sl w.script w.script_size h, proof_within)

  pub proof_stopped : (p'' : Option (List ℕ)) (t : Status) → StopsReading pl p' p'' t → ReadsBoth s s' p p'' (Err t)
  proof_stopped p'' Done h = h
  proof_stopped p'' Refused h = h
  proof_stopped p'' Usage h = h
  proof_stopped p'' ReadFault h = (script_within, further p p' p'' w.lines pl w.proof w.proof_size h)
  proof_stopped p'' WriteFault h = absurd h
  proof_stopped p'' NoMemory h = (script_within, further p p' p'' w.lines pl w.proof w.proof_size h)
  proof_stopped p'' TooLong h = inr (script_within, too_far p p' p'' w.lines pl w.proof w.proof_size h)

-- at the end of a check
pub way_done : (c : Checking) (s s' p p' : Option (List ℕ)) (sl pl : ℕ) → UnderWay c s s' p p' sl pl → (j : Judgement) → Concludes c.inputs c.checker j → IfSome s (λ t. IfSome p (λ l. IsJudged t l (verdicts_by j.checker) j.refusal))
way_done c None s' p p' sl pl w j k = tt
way_done c (Some x) s' None p' sl pl w j k = tt
way_done c (Some x) None (Some y) p' sl pl w j k = absurd w.script
way_done c (Some x) (Some t) (Some y) None sl pl w j k = absurd w.proof
way_done c (Some x) (Some t) (Some y) (Some l) sl pl w j k =
    let a : AreToCome c.inputs t l = record { script = w.script_end; proof = w.proof_end } in
    subst (λ (z : List ℕ). IsJudged z y (verdicts_by j.checker) j.refusal) (sym w.script)
    (subst (λ (z : List ℕ). IsJudged (w.text ++ t) z (verdicts_by j.checker) j.refusal) (sym w.proof) (w.judged t l (verdicts_by j.checker) j.refusal a (k t l a)))

-- at a record that is accepted
pub way_shown : (c : Checking) (s s' p p' : Option (List ℕ)) (sl pl : ℕ) → UnderWay c s s' p p' sl pl → (d : Checking) → IsShowing c.inputs c.checker d → IfSome s (λ t. IfSome p (λ l. IsAcceptedSoFar t l (verdicts_by d.checker)))
way_shown c None s' p p' sl pl w d k = tt
way_shown c (Some x) s' None p' sl pl w d k = tt
way_shown c (Some x) None (Some y) p' sl pl w d k = absurd w.script
way_shown c (Some x) (Some t) (Some y) None sl pl w d k = absurd w.proof
way_shown c (Some x) (Some t) (Some y) (Some l) sl pl w d k =
    let a : AreToCome c.inputs t l = record { script = w.script_end; proof = w.proof_end } in
    subst (λ (z : List ℕ). IsAcceptedSoFar z y (verdicts_by d.checker)) (sym w.script)
    (subst (λ (z : List ℕ). IsAcceptedSoFar (w.text ++ t) z (verdicts_by d.checker)) (sym w.proof) (w.accepted t l (verdicts_by d.checker) a (k t l a)))

-- ---- how far it is to the end

-- the bytes that may be read and those that are held
abbrev pub ahead : Checking → ℕ → ℕ → ℕ
ahead c sl pl = sl + pl + (sl + if_open c.inputs.script_ended) + (pl + if_open c.inputs.proof_ended) + held_by c.inputs

same_open : (a b : Bool) → a ≡ b → if_open a ≡ if_open b
same_open a b e = ap if_open e

pub nearer_shown : (c d : Checking) (sl pl : ℕ) → Keeps c.inputs c.checker d → held_by d.inputs < held_by c.inputs → ahead d sl pl < ahead c sl pl
nearer_shown c d sl pl k h =
    let a = same_open _ _ k.script in
    let b = same_open _ _ k.proof in
    omega (arith, a, b, h)

pub nearer_script : (c d e : Checking) (sl pl rest : ℕ) (s s' : Option (List ℕ)) → Keeps c.inputs c.checker d → TakesScript d e sl rest s s' → d.inputs.script_ended ≡ false → ahead e rest pl < ahead c sl pl
nearer_script c d e sl pl rest s s' k t unended =
    let a = same_open _ _ k.script in
    let b = same_open _ _ k.proof in
    let f = same_open _ _ t.other in
    let o : if_open d.inputs.script_ended ≡ 1 = same_open _ _ unended in
    let size = t.size in
    let less = t.less in
    let fed = t.fed.held in
    let held = k.held in
    omega (arith, a, b, f, o, size, less, fed, held)

pub nearer_proof : (c d e : Checking) (sl pl rest : ℕ) (s s' : Option (List ℕ)) → Keeps c.inputs c.checker d → TakesProof d e pl rest s s' → d.inputs.proof_ended ≡ false → ahead e sl rest < ahead c sl pl
nearer_proof c d e sl pl rest s s' k t unended =
    let a = same_open _ _ k.script in
    let b = same_open _ _ k.proof in
    let f = same_open _ _ t.other in
    let o : if_open d.inputs.proof_ended ≡ 1 = same_open _ _ unended in
    let size = t.size in
    let less = t.less in
    let fed = t.fed.held in
    let held = k.held in
    omega (arith, a, b, f, o, size, less, fed, held)

-- ---- causes

-- what rose in a part of one of the inputs rose in the whole
pub script_cause : (s s' s'' a a' p p' : ℕ) (t : Status) → s ≤ s' → HasCause (counts s' 0 0) (counts s'' 0 0) t → (left : ℕ) (u v : Option (List ℕ)) → StopsReading left u v t → HasCheckCause (counts s a p) (counts s'' a' p') t
script_cause s s' s'' a a' p p' Done le h left u v r = tt
script_cause s s' s'' a a' p p' Refused le h left u v r = tt
script_cause s s' s'' a a' p p' Usage le h left u v r = tt
script_cause s s' s'' a a' p p' ReadFault le h left u v r = inl (omega arith)
script_cause s s' s'' a a' p p' WriteFault le h left u v r = absurd r
script_cause s s' s'' a a' p p' NoMemory le h left u v r = tt
script_cause s s' s'' a a' p p' TooLong le h left u v r = tt

pub proof_cause : (s s' a a' p p' p'' : ℕ) (t : Status) → p ≤ p' → HasCause (counts p' 0 0) (counts p'' 0 0) t → (left : ℕ) (u v : Option (List ℕ)) → StopsReading left u v t → HasCheckCause (counts s a p) (counts s' a' p'') t
proof_cause s s' a a' p p' p'' Done le h left u v r = tt
proof_cause s s' a a' p p' p'' Refused le h left u v r = tt
proof_cause s s' a a' p p' p'' Usage le h left u v r = tt
proof_cause s s' a a' p p' p'' ReadFault le h left u v r = inr (omega arith)
proof_cause s s' a a' p p' p'' WriteFault le h left u v r = absurd r
proof_cause s s' a a' p p' p'' NoMemory le h left u v r = tt
proof_cause s s' a a' p p' p'' TooLong le h left u v r = tt

pub memory_cause : (a b : Counts) (t : Status) → t ≡ NoMemory → HasCheckCause a b t
memory_cause a b t e = subst (λ x. HasCheckCause a b x) (sym e) tt

pub answers_cause : (a b : Counts) (n : ℕ) (t : Status) → t ≡ WriteFault → a.answers ≤ n → Rose n b.answers → HasCheckCause a b t
answers_cause a b n t e le r = subst (λ x. HasCheckCause a b x) (sym e) (rose_after a.answers n b.answers le r)
