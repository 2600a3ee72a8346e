-- What is judged of one line more, and what states keep on the way.
use Rattle.std.proofs.Common.{◌≡◌, ℕ, suc, ◌+◌, Bool, true, false, List, [], ◌∷◌, ◌++◌, map, length, flat_map, slice_get, Option, Some, None, refl, sym, ap, ◌∙◌, subst, inl, inr, append_assoc, append-nil}
use Rattle.std.specs.Prelude.{if◌then◌else◌, All, Contains, IsSome, option_to_list}
use Rattle.std.specs.List.{AllByRecursion}
use Rattle.std.specs.Option.{option_map}
use Rattle.std.proofs.lemmas.List.Elements.{All-head, All-tail}
use Rattle.std.proofs.lemmas.List.{map-append}
use Rattle.cnf_base.specs.Literals.{Literal}
use Rattle.cnf_base.proofs.Options.{some_value}
use Rattle.smt_terms.specs.declared.node.Node.{Node}
use Rattle.smt_terms.specs.Values.{Interpretation}
use Rattle.scope_selectors.specs.Scopes.{ScopesValue}
use Rattle.smt_build.specs.Names.{SymbolsValue}
use Rattle.script_state.specs.declared.answer.Verdict.{Verdict}
use Rattle.script_state.specs.Readings.{Reading}
use Rattle.smt_values.specs.declared.value.Value.{Value}
use Rattle.smt_build.specs.declared.symbols.LiveName.{LiveName}
use Rattle.script_state.specs.declared.answer.Answer.{Answer}
use Rattle.script_state.specs.declared.answer.Answer.TheVariants as answer
use Rattle.script_state.specs.declared.answer.Asked.{Asked}
use Rattle.script_state.specs.States.{StateValue, concluded, all_asked}
use Rattle.script_state.specs.Steps.{step, settled, ends}
use Rattle.theory_terms.specs.declared.lemma.Lemma.{Lemma}
use Rattle.theory_terms.specs.declared.lemma.Lemma.TheVariants as lemma
use Rattle.proof_log.specs.declared.entry.Entry.{Entry}
use Rattle.proof_log.specs.declared.entry.Entry.TheVariants as entry
use Rattle.proof_text.specs.declared.line.Head.{Head}
use Rattle.proof_text.specs.declared.line.Format.{Format}
use Rattle.proof_text.specs.declared.line.Line.{Line}
use Rattle.proof_text.specs.declared.line.Line.TheVariants as line
use Rattle.proof_text.specs.declared.record.Record.{Record}
use Rattle.proof_text.specs.declared.record.Record.TheVariants as shown
use Rattle.proof_text.specs.Entries.{head_of, lemma_line, entry_line}
use Rattle.proof_text.specs.Records.{written_value, value_lines, diary_line, record_lines}
use Rattle.accepted_proof.specs.declared.refusal.Refusal.{Refusal}
use Rattle.proof_log.specs.declared.diary.DiaryLine.{DiaryLine}
use Rattle.proof_log.specs.declared.diary.DiaryLine.TheVariants as diary
use Rattle.proof_log.specs.declared.diary.Diary.{Diary}
use Rattle.proof_log.specs.Diaries.{Subject, DiaryState, line_after, lines_after, AreLines}
use Rattle.proof_log.specs.Diaries as diaries
use Rattle.script_state.specs.declared.answer.Verdict.TheVariants as verdict
use Rattle.accepted_proof.specs.Searching.{Limits, IsSearch, IsUnknown, subject_of}
use Rattle.accepted_proof.specs.Models.{interpretation_of, IsModel, IsOfSignature, IsWrittenModel}
use Rattle.accepted_proof.specs.Turns.{AreStepsOf, IsShown, IsAgainstOne, IsRefutation, with_step, with_steps}
use Rattle.accepted_proof.specs.Judged.{Owed, Nothing, Steps, Values, Noted, Judging, stepped, valued, noted, closed, owed_by, commanded, is_idle, reach, ending, IsStepOf, StepsBy, Goes, AtStep, IsValueOf, Notes, AtDiary, Moves, Judged}

-- ---- one line more

pub reach_here : (j : Judging) (cs : List Reading) → is_idle j.owed ≡ false → reach j cs ≡ (j, cs)
reach_here j [] e = refl
reach_here j (c ∷ cs) e = ap (λ (b : Bool). if b then (if ends c then (commanded j c, []) else reach (commanded j c) cs) else (j, c ∷ cs)) e

pub reach_past : (j : Judging) (c : Reading) (cs : List Reading) → is_idle j.owed ≡ true → ends c ≡ false → reach j (c ∷ cs) ≡ reach (commanded j c) cs
reach_past j c cs e f =
    ap (λ (b : Bool). if b then (if ends c then (commanded j c, []) else reach (commanded j c) cs) else (j, c ∷ cs)) e
    ∙ ap (λ (b : Bool). if b then (commanded j c, []) else reach (commanded j c) cs) f

pub reach_last : (j : Judging) (c : Reading) (cs : List Reading) → is_idle j.owed ≡ true → ends c ≡ true → reach j (c ∷ cs) ≡ (commanded j c, [])
reach_last j c cs e f =
    ap (λ (b : Bool). if b then (if ends c then (commanded j c, []) else reach (commanded j c) cs) else (j, c ∷ cs)) e
    ∙ ap (λ (b : Bool). if b then (commanded j c, []) else reach (commanded j c) cs) f

-- whether the command ends the run or not, where none is behind one that does
pub reach_on : (j : Judging) (c : Reading) (cs : List Reading) → is_idle j.owed ≡ true → (ends c ≡ true → cs ≡ []) → reach j (c ∷ cs) ≡ reach (commanded j c) cs
reach_on j c cs e last = by_end (ends c) refl
  where
    by_end : (b : Bool) → ends c ≡ b → reach j (c ∷ cs) ≡ reach (commanded j c) cs
    by_end true f = reach_last j c cs e f ∙ sym (ap (reach (commanded j c)) (last f))
    by_end false f = reach_past j c cs e f

-- what is judged from where the commands were done
abbrev pub From : Judging × List Reading → List (Option Line) → Option Refusal → Type 0
From r [] o = o ≡ ending r.0.owed r.0.line
From r (l ∷ ls) o = (k : Judging) × Moves r.0 l k × Judged k r.1 ls o

pub from_judged : (j : Judging) (cs : List Reading) (ls : List (Option Line)) (o : Option Refusal) → Judged j cs ls o → From (reach j cs) ls o
from_judged j cs [] o h = h
from_judged j cs (l ∷ ls) o h = h

pub judged_from : (j : Judging) (cs : List Reading) (ls : List (Option Line)) (o : Option Refusal) → From (reach j cs) ls o → Judged j cs ls o
judged_from j cs [] o h = h
judged_from j cs (l ∷ ls) o h = h

-- what is judged of the rest is judged of the whole
pub judged_line : (j k : Judging) (cs : List Reading) (l : Option Line) (ls : List (Option Line)) (o : Option Refusal) → is_idle j.owed ≡ false → Moves j l k → Judged k cs ls o → Judged j cs (l ∷ ls) o
judged_line j k cs l ls o e m h = subst (λ r. From r (l ∷ ls) o) (sym (reach_here j cs e)) (k, m, h)

judged_reached : (j : Judging) (c : Reading) (cs ds : List Reading) (ls : List (Option Line)) (o : Option Refusal) → reach j (c ∷ cs) ≡ reach (commanded j c) ds → Judged (commanded j c) ds ls o → Judged j (c ∷ cs) ls o
judged_reached j c cs ds ls o e h = judged_from j (c ∷ cs) ls o (subst (λ r. From r ls o) (sym e) (from_judged (commanded j c) ds ls o h))

pub judged_past : (j : Judging) (c : Reading) (cs : List Reading) (ls : List (Option Line)) (o : Option Refusal) → is_idle j.owed ≡ true → ends c ≡ false → Judged (commanded j c) cs ls o → Judged j (c ∷ cs) ls o
judged_past j c cs ls o e f h = judged_reached j c cs cs ls o (reach_past j c cs e f) h

pub judged_last : (j : Judging) (c : Reading) (cs : List Reading) (ls : List (Option Line)) (o : Option Refusal) → is_idle j.owed ≡ true → ends c ≡ true → Judged (commanded j c) [] ls o → Judged j (c ∷ cs) ls o
judged_last j c cs ls o e f h = judged_reached j c cs [] ls o (reach_last j c cs e f) h

pub judged_command : (j : Judging) (c : Reading) (cs : List Reading) (ls : List (Option Line)) (o : Option Refusal) → is_idle j.owed ≡ true → (ends c ≡ true → cs ≡ []) → Judged (commanded j c) cs ls o → Judged j (c ∷ cs) ls o
judged_command j c cs ls o e last h = judged_reached j c cs cs ls o (reach_on j c cs e last) h

-- ---- states

-- commands, steps and ends of checks keep what is good, and there a model of the assertions is one over more terms too
pub record Keeping (Good : StateValue → Type 0) : Type 0 where
  pub commands : (s : StateValue) (says : Reading) → Good s → Good (step s says).1
  pub steps : (s : StateValue) (log steps : List Entry) → Good s → AreStepsOf s log steps → Good (with_steps s steps)
  pub ends : (s : StateValue) (v : Verdict) → Good s → Good (concluded s v)
  pub models : (s : StateValue) (log steps : List Entry) (M : Interpretation) → Good s → AreStepsOf s log steps → IsModel s M → IsModel (with_steps s steps) M
  pub back : (s : StateValue) (log steps : List Entry) (M : Interpretation) → Good s → AreStepsOf s log steps → IsModel (with_steps s steps) M → IsModel s M

pub same_symbols : (s : StateValue) (steps : List Entry) → (with_steps s steps).symbols ≡ s.symbols
same_symbols s [] = refl
same_symbols s (e ∷ es) = same_symbols (with_step s e) es

pub same_scopes : (s : StateValue) (steps : List Entry) → (with_steps s steps).scopes ≡ s.scopes
same_scopes s [] = refl
same_scopes s (e ∷ es) = same_scopes (with_step s e) es

pub same_assumed : (s : StateValue) (steps : List Entry) → (with_steps s steps).assumed ≡ s.assumed
same_assumed s [] = refl
same_assumed s (e ∷ es) = same_assumed (with_step s e) es

-- the state, where this is asserted and this is assumed
abbrev pub state_with : StateValue → ScopesValue → Option (List Asked) → StateValue
state_with s x a = record { symbols = s.symbols; terms = s.terms; scopes = x; options = s.options; standing = s.standing; assumed = a }

-- what is live and what is assumed are the same
module _ (s u : StateValue) (scopes : s.scopes ≡ u.scopes) (assumed : s.assumed ≡ u.assumed) (nodes : List Node) (log : List Entry) where
  against_one_in : (l : Literal) → IsAgainstOne s nodes log l → IsAgainstOne u nodes log l
  against_one_in l (inl h) =
      inl (record { assertion = h.assertion; live = subst (λ (x : ScopesValue). Contains x.live h.assertion) scopes h.live; selector = h.selector; made = h.made; negation = h.negation })
  against_one_in l (inr h) =
      inr (record { assumption = h.assumption; assumed = subst (λ (x : Option (List Asked)). Contains (all_asked x) h.assumption) assumed h.assumed; bit = h.bit; bits = h.bits; negation = h.negation })

  against_in : (c : List Literal) → AllByRecursion (IsAgainstOne s nodes log) c → AllByRecursion (IsAgainstOne u nodes log) c
  against_in [] h = tt
  against_in (l ∷ ls) h = (against_one_in l h.0, against_in ls h.1)

  pub refutation_in : (p : ℕ) → IsRefutation s nodes log p → IsRefutation u nodes log p
  refutation_in p h = record { clause = h.clause; stands = h.stands; against = against_in h.clause h.against }

  pub unknown_in : (limits : Limits) (d : Diary) → IsUnknown limits s nodes log d → IsUnknown limits u nodes log d
  unknown_in limits d h =
      let a : IsUnknown limits (state_with s u.scopes s.assumed) nodes log d = subst (λ x. IsUnknown limits (state_with s x s.assumed) nodes log d) scopes h in
      let b : IsUnknown limits (state_with s u.scopes u.assumed) nodes log d = subst (λ x. IsUnknown limits (state_with s u.scopes x) nodes log d) assumed a in
      let q = b.search in
      record { search = record { cube_of_check = q.cube_of_check; selectors = q.selectors; bits = q.bits; within = q.within; added = q.added }; spent = b.spent }

pub model_in : (s u : StateValue) (values : List (ℕ × Value)) → s.symbols ≡ u.symbols → IsModel u (interpretation_of values) → IsWrittenModel s values → IsWrittenModel u values
model_in s u values e m h = record {
  listed = h.listed ∙ ap (λ (x : SymbolsValue). map (λ (l : LiveName). l.declaration) x.live) e;
  sorted = subst (λ (x : SymbolsValue). All (λ (p : ℕ × Value). IsOfSignature p.1 (slice_get x.signatures p.0)) values) e h.sorted;
  model = m;
}

pub shown_on : (Good : StateValue → Type 0) → Keeping Good → (limits : Limits) (s : StateValue) (log steps : List Entry) (nodes : List Node) (all : List Entry) (r : Record) → Good s → AreStepsOf s log steps → IsShown limits s nodes all r → IsShown limits (with_steps s steps) nodes all r
shown_on Good keeps limits s log steps nodes all (shown.Sat values) g a h = (h.0, model_in s (with_steps s steps) values (sym (same_symbols s steps)) (keeps.models s log steps (interpretation_of values) g a h.1.model) h.1)
shown_on Good keeps limits s log steps nodes all (shown.Unsat p) g a h = refutation_in s (with_steps s steps) (sym (same_scopes s steps)) (sym (same_assumed s steps)) nodes all p h
shown_on Good keeps limits s log steps nodes all (shown.Unknown d) g a h = unknown_in s (with_steps s steps) (sym (same_scopes s steps)) (sym (same_assumed s steps)) nodes all limits d h

pub shown_back : (Good : StateValue → Type 0) → Keeping Good → (limits : Limits) (s : StateValue) (log steps : List Entry) (nodes : List Node) (all : List Entry) (r : Record) → Good s → AreStepsOf s log steps → IsShown limits (with_steps s steps) nodes all r → IsShown limits s nodes all r
shown_back Good keeps limits s log steps nodes all (shown.Sat values) g a h = (h.0, model_in (with_steps s steps) s values (same_symbols s steps) (keeps.back s log steps (interpretation_of values) g a h.1.model) h.1)
shown_back Good keeps limits s log steps nodes all (shown.Unsat p) g a h = refutation_in (with_steps s steps) s (same_scopes s steps) (same_assumed s steps) nodes all p h
shown_back Good keeps limits s log steps nodes all (shown.Unknown d) g a h = unknown_in (with_steps s steps) s (same_scopes s steps) (same_assumed s steps) nodes all limits d h

-- ---- steps

abbrev pub place : Format → Limits → StateValue → List Entry → List ℕ → Owed → ℕ → Judging
place format limits s log deleted o n = record { format = format; limits = limits; state = s; log = log; deleted = deleted; owed = o; line = n }

abbrev is_step : Line → Bool
is_step (line.Header f c b) = false
is_step (line.Term h args) = true
is_step (line.Leaf t) = true
is_step (line.Encode t) = true
is_step (line.Rewrite r t u) = true
is_step (line.Selector a) = true
is_step (line.Chain c hs) = true
is_step (line.Equal t u) = true
is_step (line.Congruence t u) = true
is_step (line.Witness t) = true
is_step (line.Accesses a b) = true
is_step (line.Delete ps) = false
is_step (line.Sat n) = false
is_step (line.Value d v) = false
is_step (line.Unsat p) = false
is_step (line.Unknown c g n) = false
is_step (line.Take p) = false
is_step (line.Put p) = false
is_step (line.Drop p) = false

abbrev is_step_in : Option Line → Bool
is_step_in None = true
is_step_in (Some l) = is_step l

term_steps : (o : Option Head) (args : List ℕ) → is_step_in (option_map (λ h. line.Term h args) o) ≡ true
term_steps None args = refl
term_steps (Some h) args = refl

lemma_steps : (l : Lemma) → is_step (lemma_line l) ≡ true
lemma_steps (lemma.Congruence t u) = refl
lemma_steps (lemma.Witness t) = refl
lemma_steps (lemma.Arrays a b) = refl

entry_steps : (e : Entry) → is_step_in (entry_line e) ≡ true
entry_steps (entry.Node n) = term_steps (head_of n.op) n.args
entry_steps (entry.Lemma l) = lemma_steps l
entry_steps e = refl

pub line_steps : (e : Entry) (l : Line) → entry_line e ≡ Some l → is_step l ≡ true
line_steps e l h = ap is_step_in (sym h) ∙ entry_steps e

pub steps_by : (j : Judging) (l : Line) (k : Judging) → is_step l ≡ true → StepsBy j l k → AtStep j l k
steps_by j (line.Header f c b) k e h = let z : ⊥ = cc in absurd z
steps_by j (line.Term d args) k e h = h
steps_by j (line.Leaf t) k e h = h
steps_by j (line.Encode t) k e h = h
steps_by j (line.Rewrite r t u) k e h = h
steps_by j (line.Selector a) k e h = h
steps_by j (line.Chain c hs) k e h = h
steps_by j (line.Equal t u) k e h = h
steps_by j (line.Congruence t u) k e h = h
steps_by j (line.Witness t) k e h = h
steps_by j (line.Accesses a b) k e h = h
steps_by j (line.Delete ps) k e h = let f : ⊥ = cc in absurd f
steps_by j (line.Sat n) k e h = let f : ⊥ = cc in absurd f
steps_by j (line.Value d v) k e h = let f : ⊥ = cc in absurd f
steps_by j (line.Unsat p) k e h = let f : ⊥ = cc in absurd f
steps_by j (line.Unknown c g n) k e h = let f : ⊥ = cc in absurd f
steps_by j (line.Take p) k e h = let f : ⊥ = cc in absurd f
steps_by j (line.Put p) k e h = let f : ⊥ = cc in absurd f
steps_by j (line.Drop p) k e h = let f : ⊥ = cc in absurd f

abbrev pub lines_before : List (Option Line) → List Line → List (Option Line)
lines_before ls first = map Some first ++ ls

-- a line of a diary is read as one
pub diary_moves : (j : Judging) (cube start left : ℕ) (lines : List DiaryLine) (l : DiaryLine) (k : Judging) → Notes j cube start left lines l k → AtDiary j cube start left lines (diary_line l) k
diary_moves j cube start left lines (diary.Take p) k h = h
diary_moves j cube start left lines (diary.Put p) k h = h
diary_moves j cube start left lines (diary.Drop p) k h = h

-- a line among others stands behind those before it
pub line_among : (g : Subject) (s : DiaryState) (xs : List DiaryLine) (l : DiaryLine) (ys : List DiaryLine) → AreLines g s (xs ++ l ∷ ys) → diaries.IsLine g (lines_after g s xs) l
line_among g s [] l ys h = h.0
line_among g s (x ∷ xs) l ys h = line_among g (line_after g s x) xs l ys h.1
