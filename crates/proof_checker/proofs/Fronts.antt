-- What is accepted of fronts of two texts stays so in the whole.
use Rattle.std.proofs.Common.{◌≡◌, ℕ, Bool, true, false, List, [], ◌∷◌, ◌++◌, Option, None, refl, sym, ap, ◌∙◌, subst, inl, inr, append_assoc}
use Rattle.script_state.specs.declared.answer.Verdict.{Verdict}
use Rattle.script_state.specs.Steps.{ends}
use Rattle.script_state.proofs.Deciding.{ends_by_exit}
use Rattle.smt_text.proofs.Cuts.{AreCut-one}
use Rattle.proof_text.specs.declared.line.Line.{Line}
use Rattle.accepted_proof.specs.declared.refusal.Refusal.{Refusal}
use Rattle.accepted_proof.specs.declared.refusal.RuleName.TheVariants as rule
use Rattle.accepted_proof.specs.Judged as judged
use Rattle.accepted_proof.specs.Judged.{Owed, Judging, judging_from, commanded, owed_by, is_idle, reach, Moves, MovesBy, bad_header}
use Rattle.accepted_proof.proofs.Following.{reach_here, reach_past, reach_last}
use Rattle.accepted_proof.proofs.Once.{moved_once, same_start}
use Rattle.proof_checker.specs.Checkers.{Says}
use Rattle.proof_checker.specs.Checked.{shown_at, Tells, TellsProof, IsJudged, IsAcceptedSoFar}
use Rattle.proof_checker.proofs.Splits.{lines_one}
use Rattle.proof_checker.proofs.Verdicts.{IsOver, at_refused, over_told}
use Rattle.proof_checker.proofs.Passing.{none_some, readings}

-- where nothing is owed, any line is refused
idle_over : (o : Owed) (j : Judging) (l : Option Line) (k : Judging) → is_idle o ≡ true → MovesBy o j l k → IsOver k.owed
idle_over judged.Nothing j l k e h = at_refused j k rule.End h
idle_over judged.Steps j l k e h = absurd (let z : ⊥ = cc in z)
idle_over (judged.Values next left values) j l k e h = absurd (let z : ⊥ = cc in z)
idle_over (judged.Noted cube start left lines) j l k e h = absurd (let z : ⊥ = cc in z)
idle_over (judged.Over r) j l k e h = absurd (let z : ⊥ = cc in z)

-- behind a command that ends the run nothing is owed
ended_idle : (j : Judging) (c : Says) → ends c ≡ true → is_idle (commanded j c).owed ≡ true
ended_idle j c e = ap (λ a. is_idle (owed_by a)) ((ends_by_exit j.state c).1 e)

-- where something is owed behind some commands, further ones are not done
abbrev StopsThere : List Says → List Says → Judging → Type 0
StopsThere cs more j = is_idle (reach j cs).0.owed ≡ false → reach j (cs ++ more) ≡ ((reach j cs).0, (reach j cs).1 ++ more)

stops_by : (j : Judging) (c : Says) (cs more : List Says) → StopsThere cs more (commanded j c) → (b d : Bool) → is_idle j.owed ≡ b → ends c ≡ d → StopsThere (c ∷ cs) more j
stops_by j c cs more go false d f g e = subst (λ (r : Judging × List Says). reach j ((c ∷ cs) ++ more) ≡ (r.0, r.1 ++ more)) (sym (reach_here j (c ∷ cs) f)) (reach_here j ((c ∷ cs) ++ more) f)
stops_by j c cs more go true true f g e =
    let idle : is_idle (reach j (c ∷ cs)).0.owed ≡ true = ap (λ (r : Judging × List Says). is_idle r.0.owed) (reach_last j c cs f g) ∙ ended_idle j c g in
    absurd (let z : ⊥ = cc in z)
stops_by j c cs more go true false f g e =
    let p = reach_past j c cs f g in
    reach_past j c (cs ++ more) f g ∙ go (ap (λ (r : Judging × List Says). is_idle r.0.owed) (sym p) ∙ e) ∙ ap (λ (r : Judging × List Says). (r.0, r.1 ++ more)) (sym p)

stops_there : (cs more : List Says) (j : Judging) → StopsThere cs more j
stops_there [] more j e = reach_here j more e
stops_there (c ∷ cs) more j e = stops_by j c cs more (stops_there cs more (commanded j c)) (is_idle j.owed) (ends c) refl refl e

-- the verdicts begin with these
abbrev Begin : List Verdict → List Verdict → Type 0
Begin vs us = (rest : List Verdict) × (us ≡ vs ++ rest)

-- what is told of the first lines is told first of all
abbrev ToldFirst : List (Option Line) → List (Option Line) → Type 0
ToldFirst ls later = (j : Judging) (cs more : List Says) (vs us : List Verdict) (o : Option Refusal) → Tells j cs ls vs None → Tells j (cs ++ more) (ls ++ later) us o → Begin vs us

-- what is told of a line and those behind it, where it was reached so
abbrev TellsAt : Judging × List Says → Option Line → List (Option Line) → List Verdict → Option Refusal → Type 0
TellsAt r l ls vs o = (k : Judging) × (rest : List Verdict) × Moves r.0 l k × (vs ≡ shown_at k ++ rest) × Tells k r.1 ls rest o

first_by : (l : Option Line) (ls later : List (Option Line)) → ToldFirst ls later → (j : Judging) (cs more : List Says) (vs us : List Verdict) (o : Option Refusal) → (b : Bool) → is_idle (reach j cs).0.owed ≡ b → TellsAt (reach j cs) l ls vs None → TellsAt (reach j (cs ++ more)) l (ls ++ later) us o → Begin vs us
first_by l ls later go j cs more vs us o true f a b =
    let over = idle_over (reach j cs).0.owed (reach j cs).0 l a.0 f a.2 in
    absurd (over_told ls a.0 (reach j cs).1 a.1 None over.0 over.1 a.4 refl)
first_by l ls later go j cs more vs us o false f a b =
    let d : TellsAt ((reach j cs).0, (reach j cs).1 ++ more) l (ls ++ later) us o = subst (λ r. TellsAt r l (ls ++ later) us o) (stops_there cs more j f) b in
    let e : a.0 ≡ d.0 = moved_once (reach j cs).0.owed (reach j cs).0 l a.0 d.0 a.2 d.2 in
    let m = go d.0 (reach j cs).1 more a.1 d.1 o (subst (λ k. Tells k (reach j cs).1 ls a.1 None) e a.4) d.4 in
    (m.0, d.3 ∙ ap (λ x. shown_at d.0 ++ x) m.1 ∙ sym (append_assoc (shown_at d.0) a.1 m.0) ∙ ap (λ x. x ++ m.0) (ap (λ k. shown_at k ++ a.1) (sym e) ∙ sym a.3))

told_first : (ls later : List (Option Line)) → ToldFirst ls later
told_first [] later j cs more vs us o a b = (us, ap (λ x. x ++ us) (sym a.0))
told_first (l ∷ ls) later j cs more vs us o a b = first_by l ls later (told_first ls later) j cs more vs us o (is_idle (reach j cs).0.owed) refl a b

proof_told_first : (ls later : List (Option Line)) (cs more : List Says) (vs us : List Verdict) (o : Option Refusal) → TellsProof cs ls vs None → TellsProof (cs ++ more) (ls ++ later) us o → Begin vs us
proof_told_first [] later cs more vs us o a b = absurd (none_some bad_header a.1)
proof_told_first (l ∷ ls) later cs more vs us o (inl a) (inl b) =
    let same = same_start l a.0 b.0 a.1 b.1 a.2 b.2 in
    told_first ls later (judging_from b.0 b.1) cs more vs us o (subst (λ x. Tells x cs ls vs None) same a.3) b.3
proof_told_first (l ∷ ls) later cs more vs us o (inl a) (inr b) = absurd (b.0 a.0 a.1 a.2)
proof_told_first (l ∷ ls) later cs more vs us o (inr a) b = absurd (none_some bad_header a.2)

pub fronts_stay : (script proof : List ℕ) (vs us : List Verdict) (o : Option Refusal) → IsAcceptedSoFar script proof vs → IsJudged script proof us o → (rest : List Verdict) × (us ≡ vs ++ rest)
fronts_stay script proof vs us o a b =
    let cuts = AreCut-one (record { line = 1; bytes = script }) (a.chunks ++ a.behind) (b.chunks ++ b.behind) a.cut b.cut in
    let lines = lines_one proof (a.lines ++ a.later) b.lines a.split b.split in
    let all = readings a.chunks b.chunks a.behind b.behind a.says b.says cuts a.read b.read in
    let t : TellsProof (a.says ++ all.rest) b.lines us o = subst (λ x. TellsProof x b.lines us o) (sym all.same) (b.told all.other all.too) in
    proof_told_first a.lines a.later a.says all.rest vs us o a.told (subst (λ x. TellsProof (a.says ++ all.rest) x us o) (sym lines) t)
