-- What is told of both inputs.
use Rattle.std.proofs.Common.{◌≡◌, ℕ, List, [], ◌++◌, Option, Some, None, Result, Ok, Err, refl, sym, ap, ◌∙◌, append-nil, arith}
use Rattle.std.specs.Prelude.{IfSome, IfOk, IfErr}
use Rattle.std.specs.Io.KnownBytes.{Appends}
use Rattle.std.proofs.KnownBytes.{Appends-nil}
use Rattle.smt_desk.specs.Faults.{Rose}
use Rattle.dimacs_front.specs.Cnf.{CnfValue, IsUnsatisfiable, cnf_of}
use Rattle.dimacs_front.specs.Lrat.{lrat_of}
use Rattle.dimacs_front.specs.declared.cnf.CnfFault.{CnfFault}
use Rattle.dimacs_front.specs.declared.lrat.LratFault.{LratFault}
use Rattle.dimacs_run.specs.declared.failure.Fault.{Fault}
use Rattle.dimacs_run.specs.declared.failure.Failure.{Failure}
use Rattle.dimacs_run.specs.declared.failure.Failure.TheVariants as failure
use Rattle.dimacs_run.specs.declared.failure.Unread.TheVariants.{Failed, TooLong}
use Rattle.dimacs_run.specs.declared.failure.Halt.{Halt}
use Rattle.dimacs_run.specs.declared.failure.Halt.TheVariants as halt
use Rattle.dimacs_run.specs.Reads.{AddsTo, HaltsAt, ReadsWithin, ReadsToHalt, ReadsBoth, IsFailed, HasCause, counts, end_in_clauses, end_in_refutation}
use Rattle.dimacs_run.proofs.Ways.{within_none}
use Rattle.dimacs_run.specs.Endings.{first_fault, fault_beside, fault_in, ending_text, ToldOf, IsEnd, IsFront, IsRightlyAccepted}

-- ---- nothing is told

pub adds_none : (a : Option (List ℕ)) → AddsTo a a
adds_none a = ([], Appends-nil a)

pub front_none : (s p a : Option (List ℕ)) → ToldOf s p a a IsFront
front_none None p a = tt
front_none (Some x) None a = tt
front_none (Some x) (Some y) None = tt
front_none (Some x) (Some y) (Some z) = ([], ap Some (sym (append-nil z)), (ending_text (first_fault x y), refl))

-- ---- the line

module _ (s p a a' : Option (List ℕ)) (o : Option Fault) (judged : IfSome s (λ x. IfSome p (λ y. first_fault x y ≡ o))) where
  pub line_told : (line : List ℕ) → line ≡ ending_text o → Appends a a' line → ToldOf s p a a' (IsEnd o)
  line_told line e w = go s p a a' judged w
    where
      go : (s p a a' : Option (List ℕ)) → IfSome s (λ x. IfSome p (λ y. first_fault x y ≡ o)) → Appends a a' line → ToldOf s p a a' (IsEnd o)
      go None p a a' j w = tt
      go (Some x) None a a' j w = tt
      go (Some x) (Some y) None a' j w = tt
      go (Some x) (Some y) (Some z) None j w = absurd w
      go (Some x) (Some y) (Some z) (Some u) j w = (line, ap Some w, record { judged = j; told = e })

  pub front_told : (line front rest : List ℕ) → line ≡ ending_text o → line ≡ front ++ rest → Appends a a' front → ToldOf s p a a' IsFront
  front_told line front rest e f w = go s p a a' judged w
    where
      go : (s p a a' : Option (List ℕ)) → IfSome s (λ x. IfSome p (λ y. first_fault x y ≡ o)) → Appends a a' front → ToldOf s p a a' IsFront
      go None p a a' j w = tt
      go (Some x) None a a' j w = tt
      go (Some x) (Some y) None a' j w = tt
      go (Some x) (Some y) (Some z) None j w = absurd w
      go (Some x) (Some y) (Some z) (Some u) j w = (front, ap Some w, (rest, ap ending_text j ∙ sym e ∙ f))

-- ---- what is accepted

-- an accepted refutation is right
abbrev pub RightLaw : Type 0
RightLaw = (cnf : CnfValue) (text : List ℕ) → lrat_of cnf text ≡ Ok tt → IsUnsatisfiable cnf

right_end : (x y answered : List ℕ) → RightLaw → IsEnd None x y answered → IsRightlyAccepted x y answered
right_end x y answered law k = go (cnf_of x) refl k.judged
  where
    refuted : (r : Result Unit LratFault) → fault_in r ≡ None → r ≡ Ok tt
    refuted (Ok u) e = refl
    refuted (Err f) e = let z : ⊥ = cc in absurd z

    go : (c : Result CnfValue CnfFault) → cnf_of x ≡ c → fault_beside y c ≡ None → IsRightlyAccepted x y answered
    go (Ok c) e j = let l : lrat_of c y ≡ Ok tt = refuted (lrat_of c y) j in record { clauses = c; text_is = e; accepted = l; right = law c y l; told = k.told }
    go (Err f) e j = let z : ⊥ = cc in absurd z

pub right_told : (s p a a' : Option (List ℕ)) (o : Option Fault) → RightLaw → ◌≡◌ {A = Result (Option Fault) Failure} (Ok o) (Ok None) → ToldOf s p a a' (IsEnd o) → ToldOf s p a a' IsRightlyAccepted
right_told None p a a' o law e h = tt
right_told (Some x) None a a' o law e h = tt
right_told (Some x) (Some y) None a' o law e h = tt
right_told (Some x) (Some y) (Some z) a' (Some f) law e h = let q : ⊥ = cc in absurd q
right_told (Some x) (Some y) (Some z) a' None law e h = (h.0, h.1, right_end x y h.0 law h.2)

-- ---- one input that is not read to its end

pub clauses_judged : (s p : Option (List ℕ)) (h : Halt CnfFault) → IfSome s (λ x. HaltsAt (cnf_of x) h) → IfOk (end_in_clauses h) (λ o. IfSome s (λ x. IfSome p (λ y. first_fault x y ≡ o)))
clauses_judged None p (halt.Fault f) k = tt
clauses_judged (Some x) None (halt.Fault f) k = tt
clauses_judged (Some x) (Some y) (halt.Fault f) k = ap (fault_beside y) k
clauses_judged s p (halt.Unread u) k = tt
clauses_judged s p halt.NoMemory k = tt

pub clauses_read : (s s' p : Option (List ℕ)) (h : Halt CnfFault) → ReadsToHalt s s' h → ReadsBoth s s' p p (end_in_clauses h)
clauses_read s s' p (halt.Fault f) k = (k, within_none p)
clauses_read s s' p (halt.Unread u) k = (k, within_none p)
clauses_read s s' p halt.NoMemory k = (k, within_none p)

pub clauses_cause : (a b r r' : ℕ) (h : Halt CnfFault) → (IsFailed h → Rose a b) → IfErr (end_in_clauses h) (HasCause (counts a 0 r) (counts b 0 r'))
clauses_cause a b r r' (halt.Fault f) k = tt
clauses_cause a b r r' (halt.Unread Failed) k = k refl
clauses_cause a b r r' (halt.Unread TooLong) k = tt
clauses_cause a b r r' halt.NoMemory k = tt

pub refutation_judged : (s p : Option (List ℕ)) (c : CnfValue) (h : Halt LratFault) → IfSome s (λ x. cnf_of x ≡ Ok c) → IfSome p (λ y. HaltsAt (lrat_of c y) h) → IfOk (end_in_refutation h) (λ o. IfSome s (λ x. IfSome p (λ y. first_fault x y ≡ o)))
refutation_judged None p c (halt.Fault f) e k = tt
refutation_judged (Some x) None c (halt.Fault f) e k = tt
refutation_judged (Some x) (Some y) c (halt.Fault f) e k = ap (fault_beside y) e ∙ ap fault_in k
refutation_judged s p c (halt.Unread u) e k = tt
refutation_judged s p c halt.NoMemory e k = tt

pub refutation_read : (s s' p p' : Option (List ℕ)) (h : Halt LratFault) → ReadsWithin s s' → ReadsToHalt p p' h → ReadsBoth s s' p p' (end_in_refutation h)
refutation_read s s' p p' (halt.Fault f) w k = (w, k)
refutation_read s s' p p' (halt.Unread u) w k = (w, k)
refutation_read s s' p p' halt.NoMemory w k = (w, k)

pub refutation_cause : (a a' b b' : ℕ) (h : Halt LratFault) → (IsFailed h → Rose b b') → IfErr (end_in_refutation h) (HasCause (counts a 0 b) (counts a' 0 b'))
refutation_cause a a' b b' (halt.Fault f) k = tt
refutation_cause a a' b b' (halt.Unread Failed) k = k refl
refutation_cause a a' b b' (halt.Unread TooLong) k = tt
refutation_cause a a' b b' halt.NoMemory k = tt

pub accepted_judged : (s p : Option (List ℕ)) (c : CnfValue) → IfSome s (λ x. cnf_of x ≡ Ok c) → IfSome p (λ y. lrat_of c y ≡ Ok tt) → IfSome s (λ x. IfSome p (λ y. first_fault x y ≡ None))
accepted_judged None p c e k = tt
accepted_judged (Some x) None c e k = tt
accepted_judged (Some x) (Some y) c e k = ap (fault_beside y) e ∙ ap fault_in k

-- a cause where nothing was written
pub cause_silent : (a a' b b' w w' : ℕ) (f : Failure) → HasCause (counts a 0 b) (counts a' 0 b') f → HasCause (counts a w b) (counts a' w' b') f
cause_silent a a' b b' w w' (failure.Clauses Failed) k = k
cause_silent a a' b b' w w' (failure.Clauses TooLong) k = tt
cause_silent a a' b b' w w' (failure.Refutation Failed) k = k
cause_silent a a' b b' w w' (failure.Refutation TooLong) k = tt
cause_silent a a' b b' w w' failure.Unwritten k = absurd (omega (arith, k))
cause_silent a a' b b' w w' failure.NoMemory k = tt
