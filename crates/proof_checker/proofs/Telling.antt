-- What is told of the lines, one after the other.
use Rattle.std.proofs.Common.{◌≡◌, ℕ, Bool, true, false, List, [], ◌∷◌, ◌++◌, Option, Some, None, refl, sym, ap, ◌∙◌, subst, inl, inr, append_assoc, append-nil}
use Rattle.std.specs.List.{list_any}
use Rattle.std.specs.Prelude.{◌⊎◌, ◌||◌, if◌then◌else◌, option_to_list, Err}
use Rattle.script_state.specs.declared.answer.Verdict.{Verdict}
use Rattle.script_state.specs.Steps.{ends}
use Rattle.proof_text.specs.declared.line.Line.{Line}
use Rattle.accepted_proof.specs.declared.refusal.Refusal.{Refusal}
use Rattle.accepted_proof.specs.Judged as judged
use Rattle.accepted_proof.specs.Judged.{Owed, Judging, commanded, is_idle, reach, ending, Moves, MovesBy}
use Rattle.accepted_proof.proofs.Following.{reach_here, reach_past, reach_last}
use Rattle.proof_checker.specs.Checkers.{Says, CheckerValue, and_shown, answer_by, GoesTo}
use Rattle.proof_checker.specs.Checked.{shown_at, Tells}
use Rattle.proof_checker.specs.Checkings.{to_be_done}

-- what is told where the commands were done
abbrev TellsFrom : Judging × List Says → List (Option Line) → List Verdict → Option Refusal → Type 0
TellsFrom r [] vs o = (vs ≡ []) × (o ≡ ending r.0.owed r.0.line)
TellsFrom r (l ∷ ls) vs o = (k : Judging) × (rest : List Verdict) × Moves r.0 l k × (vs ≡ shown_at k ++ rest) × Tells k r.1 ls rest o

from_tells : (j : Judging) (cs : List Says) (ls : List (Option Line)) (vs : List Verdict) (o : Option Refusal) → Tells j cs ls vs o → TellsFrom (reach j cs) ls vs o
from_tells j cs [] vs o h = h
from_tells j cs (l ∷ ls) vs o h = h

tells_from : (j : Judging) (cs : List Says) (ls : List (Option Line)) (vs : List Verdict) (o : Option Refusal) → TellsFrom (reach j cs) ls vs o → Tells j cs ls vs o
tells_from j cs [] vs o h = h
tells_from j cs (l ∷ ls) vs o h = h

-- no command is to be done before the next line
abbrev pub IsReached : Judging → List Says → Type 0
IsReached j cs = reach j cs ≡ (j, cs)

pub tells_line : (j k : Judging) (cs : List Says) (l : Option Line) (ls : List (Option Line)) (rest : List Verdict) (o : Option Refusal) → IsReached j cs → Moves j l k → Tells k cs ls rest o → Tells j cs (l ∷ ls) (shown_at k ++ rest) o
tells_line j k cs l ls rest o e m h = subst (λ r. TellsFrom r (l ∷ ls) (shown_at k ++ rest) o) (sym e) (k, rest, m, refl, h)

pub tells_end : (j : Judging) (cs : List Says) → IsReached j cs → Tells j cs [] [] (ending j.owed j.line)
tells_end j cs e = subst (λ r. TellsFrom r [] [] (ending j.owed j.line)) (sym e) (refl, refl)

tells_on : (j : Judging) (c : Says) (cs ds : List Says) (ls : List (Option Line)) (vs : List Verdict) (o : Option Refusal) → reach j (c ∷ cs) ≡ reach (commanded j c) ds → Tells (commanded j c) ds ls vs o → Tells j (c ∷ cs) ls vs o
tells_on j c cs ds ls vs o e h = tells_from j (c ∷ cs) ls vs o (subst (λ r. TellsFrom r ls vs o) (sym e) (from_tells (commanded j c) ds ls vs o h))

-- behind a command, which may end the run
pub tells_command : (j : Judging) (c : Says) (cs : List Says) (ls : List (Option Line)) (vs : List Verdict) (o : Option Refusal) → is_idle j.owed ≡ true → Tells (commanded j c) (to_be_done (ends c) cs) ls vs o → Tells j (c ∷ cs) ls vs o
tells_command j c cs ls vs o e = by_end (ends c) refl
  where
    by_end : (b : Bool) → ends c ≡ b → Tells (commanded j c) (to_be_done b cs) ls vs o → Tells j (c ∷ cs) ls vs o
    by_end true f h = tells_on j c cs [] ls vs o (reach_last j c cs e f) h
    by_end false f h = tells_on j c cs cs ls vs o (reach_past j c cs e f) h

-- ---- where a command ends the run

-- the same is reached, where commands are behind those of which one ends the run
abbrev MoreBehind : List Says → Judging × List Says → Judging × List Says → Type 0
MoreBehind rest r s = (s ≡ r) ⊎ ((s ≡ (r.0, r.1 ++ rest)) × (list_any ends r.1 ≡ true))

reach_more : (cs : List Says) (j : Judging) (rest : List Says) → list_any ends cs ≡ true → MoreBehind rest (reach j cs) (reach j (cs ++ rest))
reach_more [] j rest a = absurd (let z : ⊥ = cc in z)
reach_more (c ∷ cs) j rest a = by_owed (λ k b. reach_more cs k rest b) (is_idle j.owed) (ends c) refl refl
  where
    by_owed : ((k : Judging) → list_any ends cs ≡ true → MoreBehind rest (reach k cs) (reach k (cs ++ rest))) → (b d : Bool) → is_idle j.owed ≡ b → ends c ≡ d → MoreBehind rest (reach j (c ∷ cs)) (reach j ((c ∷ cs) ++ rest))
    by_owed more false d e f = subst (λ r. MoreBehind rest r (reach j ((c ∷ cs) ++ rest))) (sym (reach_here j (c ∷ cs) e)) (inr (reach_here j ((c ∷ cs) ++ rest) e, a))
    by_owed more true true e f = inl (reach_last j c (cs ++ rest) e f ∙ sym (reach_last j c cs e f))
    by_owed more true false e f =
        subst (λ r. MoreBehind rest r (reach j ((c ∷ cs) ++ rest))) (sym (reach_past j c cs e f))
        (subst (λ s. MoreBehind rest (reach (commanded j c) cs) s) (sym (reach_past j c (cs ++ rest) e f))
        (more (commanded j c) (sym (ap (λ x. x || list_any ends cs) f) ∙ a)))

end_more : (r s : Judging × List Says) (rest : List Says) (vs : List Verdict) (o : Option Refusal) → MoreBehind rest r s → TellsFrom r [] vs o → TellsFrom s [] vs o
end_more r s rest vs o (inl e) h = subst (λ x. TellsFrom x [] vs o) (sym e) h
end_more r s rest vs o (inr e) h = subst (λ x. TellsFrom x [] vs o) (sym e.0) h

end_less : (r s : Judging × List Says) (rest : List Says) (vs : List Verdict) (o : Option Refusal) → MoreBehind rest r s → TellsFrom s [] vs o → TellsFrom r [] vs o
end_less r s rest vs o (inl e) h = subst (λ x. TellsFrom x [] vs o) e h
end_less r s rest vs o (inr e) h = let m : TellsFrom (r.0, r.1 ++ rest) [] vs o = subst (λ x. TellsFrom x [] vs o) e.0 h in m

-- what is told of lines is told with more commands behind
abbrev ToldMore : List (Option Line) → List Says → Option Refusal → Type 0
ToldMore ls rest o = (j : Judging) (cs : List Says) (vs : List Verdict) → list_any ends cs ≡ true → Tells j cs ls vs o → Tells j (cs ++ rest) ls vs o

abbrev ToldLess : List (Option Line) → List Says → Option Refusal → Type 0
ToldLess ls rest o = (j : Judging) (cs : List Says) (vs : List Verdict) → list_any ends cs ≡ true → Tells j (cs ++ rest) ls vs o → Tells j cs ls vs o

line_more : (l : Option Line) (ls : List (Option Line)) (r s : Judging × List Says) (rest : List Says) (vs : List Verdict) (o : Option Refusal) → ToldMore ls rest o → MoreBehind rest r s → TellsFrom r (l ∷ ls) vs o → TellsFrom s (l ∷ ls) vs o
line_more l ls r s rest vs o told (inl e) h = subst (λ x. TellsFrom x (l ∷ ls) vs o) (sym e) h
line_more l ls r s rest vs o told (inr e) h = subst (λ x. TellsFrom x (l ∷ ls) vs o) (sym e.0) (h.0, h.1, h.2, h.3, told h.0 r.1 h.1 e.1 h.4)

line_less : (l : Option Line) (ls : List (Option Line)) (r s : Judging × List Says) (rest : List Says) (vs : List Verdict) (o : Option Refusal) → ToldLess ls rest o → MoreBehind rest r s → TellsFrom s (l ∷ ls) vs o → TellsFrom r (l ∷ ls) vs o
line_less l ls r s rest vs o told (inl e) h = subst (λ x. TellsFrom x (l ∷ ls) vs o) e h
line_less l ls r s rest vs o told (inr e) h =
    let m : TellsFrom (r.0, r.1 ++ rest) (l ∷ ls) vs o = subst (λ x. TellsFrom x (l ∷ ls) vs o) e.0 h in
    (m.0, m.1, m.2, m.3, told m.0 r.1 m.1 e.1 m.4)

-- where a command ends the run, it does not matter which commands are behind
pub tells_more : (ls : List (Option Line)) (rest : List Says) (o : Option Refusal) → ToldMore ls rest o
tells_more [] rest o j cs vs a h = tells_from j (cs ++ rest) [] vs o (end_more (reach j cs) (reach j (cs ++ rest)) rest vs o (reach_more cs j rest a) (from_tells j cs [] vs o h))
tells_more (l ∷ ls) rest o j cs vs a h = tells_from j (cs ++ rest) (l ∷ ls) vs o (line_more l ls (reach j cs) (reach j (cs ++ rest)) rest vs o (tells_more ls rest o) (reach_more cs j rest a) (from_tells j cs (l ∷ ls) vs o h))

pub tells_less : (ls : List (Option Line)) (rest : List Says) (o : Option Refusal) → ToldLess ls rest o
tells_less [] rest o j cs vs a h = tells_from j cs [] vs o (end_less (reach j cs) (reach j (cs ++ rest)) rest vs o (reach_more cs j rest a) (from_tells j (cs ++ rest) [] vs o h))
tells_less (l ∷ ls) rest o j cs vs a h = tells_from j cs (l ∷ ls) vs o (line_less l ls (reach j cs) (reach j (cs ++ rest)) rest vs o (tells_less ls rest o) (reach_more cs j rest a) (from_tells j (cs ++ rest) (l ∷ ls) vs o h))

-- ---- behind a refusal

over_idle : (j : Judging) (r : Refusal) → j.owed ≡ judged.Over r → is_idle j.owed ≡ false
over_idle j r e = ap is_idle e

pub over_shown : (j : Judging) (r : Refusal) → j.owed ≡ judged.Over r → shown_at j ≡ []
over_shown j r e = ap (λ (b : Bool). if b then option_to_list j.state.standing else []) (over_idle j r e)

pub tells_over : (j : Judging) (r : Refusal) → j.owed ≡ judged.Over r → (cs : List Says) (ls : List (Option Line)) → Tells j cs ls [] (Some r)
tells_over j r e cs [] = subst (λ o. Tells j cs [] [] o) (ap (λ o. ending o j.line) e) (tells_end j cs (reach_here j cs (over_idle j r e)))
tells_over j r e cs (l ∷ ls) =
    let m : Moves j l j = subst (λ (o : Owed). MovesBy o j l j) (sym e) refl in
    let t = tells_line j j cs l ls [] (Some r) (reach_here j cs (over_idle j r e)) m (tells_over j r e cs ls) in
    subst (λ vs. Tells j cs (l ∷ ls) vs (Some r)) (ap (λ x. x ++ []) (over_shown j r e)) t

pub over_of : (o : Owed) (r : Refusal) → answer_by o ≡ Err r → o ≡ judged.Over r
over_of judged.Nothing r e = absurd (let z : ⊥ = cc in z)
over_of judged.Steps r e = absurd (let z : ⊥ = cc in z)
over_of (judged.Values next left values) r e = absurd (let z : ⊥ = cc in z)
over_of (judged.Noted cube start left lines) r e = absurd (let z : ⊥ = cc in z)
over_of (judged.Over q) r e = let z : q ≡ r = cc in ap judged.Over z

pub ending_none : (o : Owed) (n : ℕ) → ending o n ≡ None → is_idle o ≡ true
ending_none judged.Nothing n e = refl
ending_none judged.Steps n e = absurd (let z : ⊥ = cc in z)
ending_none (judged.Values next left values) n e = absurd (let z : ⊥ = cc in z)
ending_none (judged.Noted cube start left lines) n e = absurd (let z : ⊥ = cc in z)
ending_none (judged.Over q) n e = absurd (let z : ⊥ = cc in z)

-- where a verdict is shown, nothing is owed
idle_ending : (o : Owed) (n : ℕ) → is_idle o ≡ true → ending o n ≡ None
idle_ending judged.Nothing n e = refl
idle_ending judged.Steps n e = absurd (let z : ⊥ = cc in z)
idle_ending (judged.Values next left values) n e = absurd (let z : ⊥ = cc in z)
idle_ending (judged.Noted cube start left lines) n e = absurd (let z : ⊥ = cc in z)
idle_ending (judged.Over q) n e = absurd (let z : ⊥ = cc in z)

pub shown_ending : (j : Judging) (v : Verdict) → shown_at j ≡ v ∷ [] → ending j.owed j.line ≡ None
shown_ending j v e = by_idle (is_idle j.owed) refl
  where
    by_idle : (b : Bool) → is_idle j.owed ≡ b → ending j.owed j.line ≡ None
    by_idle true f = idle_ending j.owed j.line f
    by_idle false f =
        let none : shown_at j ≡ [] = ap (λ (b : Bool). if b then option_to_list j.state.standing else []) f in
        absurd (let z : ⊥ = cc in z)

-- ---- verdicts

shown_by : (told : List Verdict) (o : Owed) (v : Option Verdict) → and_shown told o v ≡ told ++ (if is_idle o then option_to_list v else [])
shown_by told judged.Nothing (Some v) = refl
shown_by told judged.Nothing None = sym (append-nil told)
shown_by told judged.Steps v = sym (append-nil told)
shown_by told (judged.Values next left values) v = sym (append-nil told)
shown_by told (judged.Noted cube start left lines) v = sym (append-nil told)
shown_by told (judged.Over r) v = sym (append-nil told)

-- the verdicts behind a line
pub shown_behind : (To : Judging → Type 0) (c d : CheckerValue) (rest : List Verdict) → GoesTo To c d → d.verdicts ++ rest ≡ c.verdicts ++ (shown_at d.judging ++ rest)
shown_behind To c d rest g =
    ap (λ x. x ++ rest) (g.verdicts ∙ shown_by c.verdicts d.judging.owed d.judging.state.standing) ∙ append_assoc c.verdicts (shown_at d.judging) rest
