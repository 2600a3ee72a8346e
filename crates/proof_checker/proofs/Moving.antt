-- How a checker moves.
use Rattle.std.proofs.Common.{◌≡◌, ℕ, suc, Bool, true, false, ◌+◌, ◌<◌, ◌≤◌, List, [], ◌∷◌, ◌++◌, length, drop, get_or, Some, None, Result, Ok, Err, IfOk, MatchResult, length-append, length-drop, drop-cons, refl, sym, ap, ap₂, ◌∙◌, subst, inl, inr, arith}
use Rattle.std.specs.Prelude.{MatchBool, slice_get}
use Rattle.std.proofs.Math.ListN.{drop_of_length-le}
use Rattle.std.proofs.lemmas.Bool.{false_from_ne_true}
use Rattle.std.specs.declared.alloc.AllocError.{AllocError}
use Rattle.smt_values.specs.declared.value.Value.{Value}
use Rattle.smt_build.specs.declared.symbols.LiveName.{LiveName}
use Rattle.script_state.specs.declared.answer.Answer.{Answer}
use Rattle.script_state.specs.declared.answer.Answer.TheVariants.{Values, Exit}
use Rattle.script_state.specs.declared.answer.Asked.{Asked}
use Rattle.script_state.specs.declared.answer.Verdict.{Verdict}
use Rattle.script_state.specs.States.{StateValue, IsState}
use Rattle.script_state.specs.Steps.{Step, step, settled, forgotten, IsAskedValues, ends}
use Rattle.script_state.proofs.Deciding.{values_after_sat, ends_by_exit}
use Rattle.script_state.proofs.Keeping.{GoesOn, step_goes_on}
use Rattle.proof_log.specs.declared.entry.Entry.{Entry}
use Rattle.faded_log.specs.Faded.{FadedValue, IsHeld}
use Rattle.faded_log.proofs.Holding.{held_longer}
use Rattle.proof_text.specs.declared.line.Format.{Format}
use Rattle.proof_text.specs.declared.line.WrittenValue.{WrittenValue}
use Rattle.proof_text.specs.declared.line.Line.TheVariants as line
use Rattle.accepted_proof.specs.declared.refusal.Refusal.{Refusal}
use Rattle.accepted_proof.specs.declared.refusal.RuleName.TheVariants as rule
use Rattle.cnf_base.proofs.Lists.{each_append}
use Rattle.accepted_proof.specs.Models.{IsOfSignature}
use Rattle.accepted_proof.specs.Judged as judged
use Rattle.accepted_proof.specs.Judged.{Owed, refused, commanded, owed_by, ending, IsValueOf, Goes, MovesBy}
use Rattle.accepted_proof.specs.Searching.{Limits}
use Rattle.accepted_proof.proofs.Settling.{settled_by}
use Rattle.proof_checker.specs.declared.due.Due.{Due}
use Rattle.proof_checker.specs.declared.due.Due.TheVariants as due
use Rattle.proof_checker.specs.Checkers.{Says, CheckerValue, GoesTo, IsOwedValues, IsOpen, AreOfSignatures, AreKept, judged_so, answer_by, at_end, owed_of, values_owed}

-- a checker's value by its parts
abbrev pub held : Format → Limits → StateValue → List Entry → List ℕ → Owed → ℕ → List Verdict → CheckerValue
held format limits s log deleted o n told = record { judging = record { format = format; limits = limits; state = s; log = log; deleted = deleted; owed = o; line = n }; verdicts = told }

-- ---- commands

-- what is asked for is forgotten, and the state is as before
asked_back : (s new : StateValue) (says : Says) (a : Answer) (asked : List Asked) → IsState s → ◌≡◌ {A = Step} (step s says) (a, new) → a ≡ Values asked → forgotten new (length s.terms.nodes) ≡ s
asked_back s new says a asked is e f =
    let told : IsAskedValues s (step s says).1 asked = values_after_sat s says asked is (ap (λ (to : Step). to.0) e ∙ f) in
    ap (λ (to : Step). forgotten to.1 (length s.terms.nodes)) (sym e) ∙ told.back

pub forgets_to_state : (s new : StateValue) (says : Says) (a : Answer) (asked : List Asked) (n : ℕ) → IsState s → ◌≡◌ {A = Step} (step s says) (a, new) → a ≡ Values asked → n ≡ length s.terms.nodes → IsState (forgotten new n)
forgets_to_state s new says a asked n is e f held = subst IsState (sym (ap (forgotten new) held ∙ asked_back s new says a asked is e f)) is

pub settled_asked : (s new left : StateValue) (says : Says) (a : Answer) (asked : List Asked) (n : ℕ) → IsState s → ◌≡◌ {A = Step} (step s says) (a, new) → a ≡ Values asked → n ≡ length s.terms.nodes → left ≡ forgotten new n
    → left ≡ settled s (step s says).0 (step s says).1
settled_asked s new left says a asked n is e f held forgets =
    forgets ∙ ap (forgotten new) held ∙ asked_back s new says a asked is e f ∙ ap (λ x. settled s x (step s says).1) (sym (ap (λ (to : Step). to.0) e ∙ f))

-- any other answer leaves the state of the step
pub settled_other : (s new : StateValue) (says : Says) (a : Answer) → ◌≡◌ {A = Step} (step s says) (a, new) → ((asked : List Asked) → a ≡ Values asked → ⊥) → new ≡ settled s (step s says).0 (step s says).1
settled_other s new says a e other = settled_by (λ x. new ≡ x) s new a (λ asked f. absurd (other asked f)) refl ∙ ap (λ (to : Step). settled s to.0 to.1) (sym e)

pub still_held : (old new : StateValue) (log : FadedValue) (says : Says) → IsState old → IsHeld old.terms.nodes log → new ≡ settled old (step old says).0 (step old says).1 → IsHeld new.terms.nodes log
still_held old new log says is stands e =
    let g : GoesOn old (step old says).1 = step_goes_on old is says in
    let behind : IsHeld (step old says).1.terms.nodes log = subst (λ ns. IsHeld ns log) (sym g.keeps.nodes) (held_longer old.terms.nodes g.keeps.behind log stands) in
    subst (λ (x : StateValue). IsHeld x.terms.nodes log) (sym e) (settled_by (λ (x : StateValue). IsHeld x.terms.nodes log) old (step old says).1 (step old says).0 (λ asked f. stands) behind)

pub commanded_to : (format : Format) (limits : Limits) (s new : StateValue) (log : List Entry) (deleted : List ℕ) (o p : Owed) (n : ℕ) (told : List Verdict) (a : Answer) (says : Says) → a ≡ (step s says).0 → new ≡ settled s (step s says).0 (step s says).1 → p ≡ owed_by a
    → held format limits new log deleted p n told ≡ judged_so (held format limits s log deleted o n told) (commanded (held format limits s log deleted o n told).judging says)
commanded_to format limits s new log deleted o p n told a says e f owed = ap₂ (λ x y. held format limits x log deleted y n told) f (owed ∙ ap owed_by e)

-- a command ends the run where it is answered so
pub ended_by : (b : Bool) (a : Answer) (s : StateValue) (says : Says) → MatchBool b (a ≡ Exit) (a ≡ Exit → ⊥) → a ≡ (step s says).0 → b ≡ ends says
ended_by true a s says exit e = sym ((ends_by_exit s says).0 (sym e ∙ exit))
ended_by false a s says other e = sym (false_from_ne_true (ends says) (λ f. other (e ∙ (ends_by_exit s says).1 f)))

-- ---- the end

-- values of a model are owed still
ending_owed : (left : List LiveName) (values : List (ℕ × Value)) (n : ℕ) → ending (values_owed left values) n ≡ Some (record { line = n; rule = rule.End })
ending_owed [] values n = refl
ending_owed (next ∷ left) values n = refl

pub stopped_values : (c d : CheckerValue) (e : Due) (live : List LiveName) (values : List (ℕ × Value)) → c.judging.owed ≡ owed_of e live values → e ≡ due.Values → d ≡ judged_so c (refused c.judging rule.End) → d ≡ at_end c (ending c.judging.owed c.judging.line)
stopped_values c d e live values owed at end =
    let ends : ending c.judging.owed c.judging.line ≡ Some (record { line = c.judging.line; rule = rule.End }) = ap (λ o. ending o c.judging.line) (owed ∙ ap (λ (x : Due). owed_of x live values) at) ∙ ending_owed (drop (length values) live) values c.judging.line in
    end ∙ ap (at_end c) (sym ends)

pub told_at_end : (format : Format) (limits : Limits) (s : StateValue) (log : List Entry) (deleted : List ℕ) (o : Owed) (n : ℕ) (told : List Verdict) (d : CheckerValue) (t : Result (Unit {0}) Refusal)
    → d ≡ at_end (held format limits s log deleted o n told) (ending o n) → t ≡ answer_by d.judging.owed → MatchResult t (λ _. ending o n ≡ None) (λ r. ending o n ≡ Some r)
told_at_end format limits s log deleted judged.Nothing n told d t e a = subst (λ x. MatchResult x (λ _. ending judged.Nothing n ≡ None) (λ r. ending judged.Nothing n ≡ Some r)) (sym (a ∙ ap (λ (x : CheckerValue). answer_by x.judging.owed) e)) refl
told_at_end format limits s log deleted judged.Steps n told d t e a = subst (λ x. MatchResult x (λ _. ending judged.Steps n ≡ None) (λ r. ending judged.Steps n ≡ Some r)) (sym (a ∙ ap (λ (x : CheckerValue). answer_by x.judging.owed) e)) refl
told_at_end format limits s log deleted (judged.Values next left values) n told d t e a = subst (λ x. MatchResult x (λ _. ending (judged.Values next left values) n ≡ None) (λ r. ending (judged.Values next left values) n ≡ Some r)) (sym (a ∙ ap (λ (x : CheckerValue). answer_by x.judging.owed) e)) refl
told_at_end format limits s log deleted (judged.Noted cube start left lines) n told d t e a = subst (λ x. MatchResult x (λ _. ending (judged.Noted cube start left lines) n ≡ None) (λ r. ending (judged.Noted cube start left lines) n ≡ Some r)) (sym (a ∙ ap (λ (x : CheckerValue). answer_by x.judging.owed) e)) refl
told_at_end format limits s log deleted (judged.Over f) n told d t e a = subst (λ x. MatchResult x (λ _. ending (judged.Over f) n ≡ None) (λ r. ending (judged.Over f) n ≡ Some r)) (sym (a ∙ ap (λ (x : CheckerValue). answer_by x.judging.owed) e)) refl

-- ---- values

-- values are owed only where some are left
pub are_left : (d : Due) (live : List LiveName) (values : List (ℕ × Value)) → IsOwedValues (owed_of d live values) → (d ≡ due.Values) × (length values < length live)
are_left due.Nothing live values h = absurd h
are_left due.Steps live values h = absurd h
are_left (due.Noted m) live values h = absurd h
are_left (due.Over r) live values h = absurd h
are_left due.Values live values h = (refl, left (drop (length values) live) refl h) where
  left : (rest : List LiveName) → drop (length values) live ≡ rest → IsOwedValues (values_owed rest values) → length values < length live
  left [] e h = absurd h
  left (next ∷ rest) e h =
      let more : length (drop (length values) live) ≡ length (next ∷ rest) = ap length e in
      omega (arith, length-drop (length values) live)

-- where some are left, they are owed
pub are_owed : (d : Due) (live : List LiveName) (values : List (ℕ × Value)) → d ≡ due.Values → IsOpen d live values → IsOwedValues (owed_of d live values)
are_owed d live values e h = subst (λ x. IsOwedValues (owed_of x live values)) (sym e) (go (drop (length values) live) refl) where
  less : length values < length live
  less = subst (λ x. IsOpen x live values) e h

  go : (rest : List LiveName) → drop (length values) live ≡ rest → IsOwedValues (values_owed rest values)
  go [] q =
      let none : length (drop (length values) live) ≡ 0 = ap length q in
      let m = less in
      absurd (omega (arith, length-drop (length values) live))
  go (next ∷ rest) q = tt

pub owed_values : (format : Format) (limits : Limits) (s : StateValue) (log : List Entry) (deleted : List ℕ) (o : Owed) (n : ℕ) (told : List Verdict) (values : List (ℕ × Value)) → length values < length s.symbols.live
    → GoesTo (Goes (held format limits s log deleted o n told).judging (drop (length values) s.symbols.live) values) (held format limits s log deleted o n told) (held format limits s log deleted (values_owed (drop (length values) s.symbols.live) values) (n + 1) told)
owed_values format limits s log deleted o n told values less = go (drop (length values) s.symbols.live) refl where
  go : (rest : List LiveName) → drop (length values) s.symbols.live ≡ rest → GoesTo (Goes (held format limits s log deleted o n told).judging rest values) (held format limits s log deleted o n told) (held format limits s log deleted (values_owed rest values) (n + 1) told)
  go [] e =
      let none : length (drop (length values) s.symbols.live) ≡ 0 = ap length e in
      absurd (omega (arith, length-drop (length values) s.symbols.live))
  go (next ∷ left) e = record { judged = refl; verdicts = refl }

-- where none is left, the model is judged
pub goes_whole : (c : CheckerValue) (values same : List (ℕ × Value)) (r : Result CheckerValue AllocError) → same ≡ values → length c.judging.state.symbols.live ≤ length values
    → IfOk r (λ d. GoesTo (Goes c.judging [] same) c d)
    → IfOk r (λ d. GoesTo (Goes c.judging (drop (length values) c.judging.state.symbols.live) values) c d)
goes_whole c values same r e whole h =
    subst (λ rest. IfOk r (λ d. GoesTo (Goes c.judging rest values) c d)) (sym (drop_of_length-le c.judging.state.symbols.live whole))
    (subst (λ vs. IfOk r (λ d. GoesTo (Goes c.judging [] vs) c d)) e h)

-- what was owed before is not looked at
goes_same : (format : Format) (limits : Limits) (s : StateValue) (log : List Entry) (deleted : List ℕ) (o p : Owed) (n : ℕ) (told : List Verdict) (rest : List LiveName) (values : List (ℕ × Value)) (d : CheckerValue)
    → GoesTo (Goes (held format limits s log deleted p n told).judging rest values) (held format limits s log deleted p n told) d → GoesTo (Goes (held format limits s log deleted o n told).judging rest values) (held format limits s log deleted o n told) d
goes_same format limits s log deleted o p n told [] values d h = record { judged = h.judged; verdicts = h.verdicts }
goes_same format limits s log deleted o p n told (next ∷ left) values d h = record { judged = h.judged; verdicts = h.verdicts }

-- the next value is owed
next_owed : (d : Due) (live : List LiveName) (values : List (ℕ × Value)) (next : LiveName) → IsOwedValues (owed_of d live values) → next ≡ get_or live (length values) next
    → owed_of d live values ≡ judged.Values next (drop (suc (length values)) live) values
next_owed d live values next h at =
    let left = are_left d live values h in
    ap (λ x. owed_of x live values) left.0
    ∙ ap (λ x. values_owed x values) (drop-cons live (length values) next left.1 ∙ ap (λ x. x ∷ drop (suc (length values)) live) (sym at))

pub value_refused : (format : Format) (limits : Limits) (s : StateValue) (log : List Entry) (deleted : List ℕ) (e : Due) (n : ℕ) (told : List Verdict) (values : List (ℕ × Value)) (next : LiveName) (d : ℕ) (w : WrittenValue) (to : CheckerValue)
    → IsOwedValues (owed_of e s.symbols.live values) → next ≡ get_or s.symbols.live (length values) next
    → ((v : Value) → IsValueOf s next d w v → ⊥)
    → to ≡ judged_so (held format limits s log deleted (owed_of e s.symbols.live values) n told) (refused (held format limits s log deleted (owed_of e s.symbols.live values) n told).judging rule.Sat)
    → GoesTo (MovesBy (owed_of e s.symbols.live values) (held format limits s log deleted (owed_of e s.symbols.live values) n told).judging (Some (line.Value d w))) (held format limits s log deleted (owed_of e s.symbols.live values) n told) to
value_refused format limits s log deleted e n told values next d w to h at none same =
    let o : Owed = owed_of e s.symbols.live values in
    let left : List LiveName = drop (suc (length values)) s.symbols.live in
    subst (λ x. GoesTo (MovesBy x (held format limits s log deleted o n told).judging (Some (line.Value d w))) (held format limits s log deleted o n told) to) (sym (next_owed e s.symbols.live values next h at))
    (subst (λ x. GoesTo (MovesBy (judged.Values next left values) (held format limits s log deleted o n told).judging (Some (line.Value d w))) (held format limits s log deleted o n told) x) (sym same)
    (record { judged = inr (none, refl); verdicts = refl }))

pub value_taken : (format : Format) (limits : Limits) (s : StateValue) (log : List Entry) (deleted : List ℕ) (e : Due) (n : ℕ) (told : List Verdict) (values longer : List (ℕ × Value)) (next : LiveName) (d : ℕ) (w : WrittenValue) (v : Value) (to : CheckerValue)
    → IsOwedValues (owed_of e s.symbols.live values) → next ≡ get_or s.symbols.live (length values) next
    → IsValueOf s next d w v → longer ≡ values ++ (next.declaration, v) ∷ []
    → GoesTo (Goes (held format limits s log deleted judged.Steps n told).judging (drop (length longer) s.symbols.live) longer) (held format limits s log deleted judged.Steps n told) to
    → GoesTo (MovesBy (owed_of e s.symbols.live values) (held format limits s log deleted (owed_of e s.symbols.live values) n told).judging (Some (line.Value d w))) (held format limits s log deleted (owed_of e s.symbols.live values) n told) to
value_taken format limits s log deleted e n told values longer next d w v to h at is more goes =
    let o : Owed = owed_of e s.symbols.live values in
    let left : List LiveName = drop (suc (length values)) s.symbols.live in
    let count : length longer ≡ suc (length values) = omega (arith, ap length more, length-append values ((next.declaration, v) ∷ [])) in
    let all : longer ≡ values ++ (d, v) ∷ [] = more ∙ ap (λ x. values ++ (x, v) ∷ []) (sym is.declaration) in
    let g : GoesTo (Goes (held format limits s log deleted judged.Steps n told).judging left longer) (held format limits s log deleted judged.Steps n told) to =
    subst (λ k. GoesTo (Goes (held format limits s log deleted judged.Steps n told).judging (drop k s.symbols.live) longer) (held format limits s log deleted judged.Steps n told) to) count goes in
    let f : GoesTo (Goes (held format limits s log deleted judged.Steps n told).judging left (values ++ (d, v) ∷ [])) (held format limits s log deleted judged.Steps n told) to =
    subst (λ vs. GoesTo (Goes (held format limits s log deleted judged.Steps n told).judging left vs) (held format limits s log deleted judged.Steps n told) to) all g in
    let t = goes_same format limits s log deleted o judged.Steps n told left (values ++ (d, v) ∷ []) to f in
    subst (λ x. GoesTo (MovesBy x (held format limits s log deleted o n told).judging (Some (line.Value d w))) (held format limits s log deleted o n told) to) (sym (next_owed e s.symbols.live values next h at))
    (record { judged = inl (v, is, t.judged); verdicts = t.verdicts })

pub value_pushed : (format : Format) (limits : Limits) (s : StateValue) (log : List Entry) (deleted : List ℕ) (e : Due) (n : ℕ) (told : List Verdict) (values longer : List (ℕ × Value)) (next : LiveName) (d : ℕ) (w : WrittenValue) (v : Value) (r : Result CheckerValue AllocError)
    → IsOwedValues (owed_of e s.symbols.live values) → next ≡ get_or s.symbols.live (length values) next
    → IsValueOf s next d w v → longer ≡ values ++ (next.declaration, v) ∷ []
    → IfOk r (λ to. GoesTo (Goes (held format limits s log deleted judged.Steps n told).judging (drop (length longer) s.symbols.live) longer) (held format limits s log deleted judged.Steps n told) to)
    → IfOk r (λ to. GoesTo (MovesBy (owed_of e s.symbols.live values) (held format limits s log deleted (owed_of e s.symbols.live values) n told).judging (Some (line.Value d w))) (held format limits s log deleted (owed_of e s.symbols.live values) n told) to)
value_pushed format limits s log deleted e n told values longer next d w v (Ok to) h at is more goes = value_taken format limits s log deleted e n told values longer next d w v to h at is more goes
value_pushed format limits s log deleted e n told values longer next d w v (Err x) h at is more goes = tt

-- a value more that its declaration may have
pub one_more_kept : (s : StateValue) (e : Due) (values longer : List (ℕ × Value)) (next : LiveName) (d : ℕ) (w : WrittenValue) (v : Value) → IsOwedValues (owed_of e s.symbols.live values) → AreKept e s.symbols.signatures values
    → IsValueOf s next d w v → longer ≡ values ++ (next.declaration, v) ∷ [] → AreOfSignatures s.symbols.signatures longer
one_more_kept s e values longer next d w v h kept is more =
    let all : AreOfSignatures s.symbols.signatures values = subst (λ x. AreKept x s.symbols.signatures values) (are_left e s.symbols.live values h).0 kept in
    let one : IsOfSignature v (slice_get s.symbols.signatures next.declaration) = subst (λ n. IsOfSignature v (slice_get s.symbols.signatures n)) is.declaration is.sorted in
    subst (AreOfSignatures s.symbols.signatures) (sym more) (each_append (λ (p : ℕ × Value). IsOfSignature p.1 (slice_get s.symbols.signatures p.0)) values ((next.declaration, v) ∷ []) all (one, tt))
