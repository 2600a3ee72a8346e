-- The verdicts of accepted proofs are those of their lines.
use Rattle.std.proofs.Common.{◌≡◌, ℕ, zero, suc, Bool, true, false, List, [], ◌∷◌, ◌++◌, map, flat_map, Option, Some, None, refl, sym, ap, ◌∙◌, subst, inl, inr, append_assoc, append-nil}
use Rattle.std.specs.Prelude.{◌⊎◌, if◌then◌else◌, option_to_list}
use Rattle.std.specs.Option.{option_map}
use Rattle.std.proofs.lemmas.Grind.{flat_map-append}
use Rattle.std.proofs.lemmas.List.{map-append}
use Rattle.smt_build.specs.declared.symbols.LiveName.{LiveName}
use Rattle.smt_values.specs.declared.value.Value.{Value}
use Rattle.script_state.specs.declared.answer.Answer.{Answer}
use Rattle.script_state.specs.declared.answer.Answer.TheVariants as answer
use Rattle.script_state.specs.declared.answer.Verdict.{Verdict}
use Rattle.script_state.specs.declared.answer.Verdict.TheVariants as verdict
use Rattle.script_state.specs.Steps.{step, ends}
use Rattle.theory_terms.specs.declared.lemma.Lemma.{Lemma}
use Rattle.theory_terms.specs.declared.lemma.Lemma.TheVariants as lemma
use Rattle.proof_log.specs.declared.entry.Entry.{Entry}
use Rattle.proof_log.specs.declared.entry.Entry.TheVariants as entry
use Rattle.proof_text.specs.declared.line.Format.{Format}
use Rattle.proof_text.specs.declared.line.Format.TheVariants.{One, Two}
use Rattle.proof_text.specs.declared.line.Head.{Head}
use Rattle.proof_text.specs.declared.line.Line.{Line}
use Rattle.proof_text.specs.declared.line.Line.TheVariants as line
use Rattle.proof_text.specs.declared.line.WrittenValue.{WrittenValue}
use Rattle.proof_text.specs.declared.record.Record.{Record}
use Rattle.proof_text.specs.declared.record.Record.TheVariants as shown
use Rattle.proof_text.specs.Entries.{head_of, lemma_line, entry_line}
use Rattle.proof_text.specs.Records.{written_value, value_lines, diary_line}
use Rattle.accepted_proof.specs.declared.refusal.Refusal.{Refusal}
use Rattle.accepted_proof.specs.declared.refusal.RuleName.{RuleName}
use Rattle.accepted_proof.specs.Turns.{Item, Step, Delete, Part, item_lines, part_lines, shown_lines, turn_of, verdict_of}
use Rattle.accepted_proof.specs.Judged as judged
use Rattle.accepted_proof.specs.Judged.{Owed, Judging, refused, owed_by, commanded, is_idle, reach, ending, StepsBy, Deletes, Goes, Opens, Notes, AtStep, AtValue, AtDiary, Moves, MovesBy, Judged}
use Rattle.accepted_proof.proofs.Once.{moved_once, same_start}
use Rattle.accepted_proof.specs.Searching.{Limits}
use Rattle.proof_log.specs.declared.diary.DiaryLine.{DiaryLine}
use Rattle.proof_log.specs.declared.diary.DiaryLine.TheVariants as diary
use Rattle.proof_checker.specs.Checkers.{Says}
use Rattle.proof_checker.specs.Checked.{shown_at, Tells, TellsProof, verdicts_of}
use Rattle.proof_checker.proofs.Telling.{tells_over, ending_none}

-- ---- what is told is judged

pub judged_of : (ls : List (Option Line)) (j : Judging) (cs : List Says) (vs : List Verdict) (o : Option Refusal) → Tells j cs ls vs o → Judged j cs ls o
judged_of [] j cs vs o h = h.1
judged_of (l ∷ ls) j cs vs o h = (h.0, h.2, judged_of ls h.0 (reach j cs).1 h.1 o h.4)

pub tells_there : (ls : List (Option Line)) (j : Judging) (cs : List Says) (o : Option Refusal) → Judged j cs ls o → (vs : List Verdict) × Tells j cs ls vs o
tells_there [] j cs o h = ([], (refl, h))
tells_there (l ∷ ls) j cs o h = let m = tells_there ls h.0 (reach j cs).1 o h.2 in (shown_at h.0 ++ m.0, (h.0, m.0, h.1, refl, m.1))

-- one thing at most is told
pub one_telling : (ls : List (Option Line)) (j : Judging) (cs : List Says) (vs us : List Verdict) (o q : Option Refusal) → Tells j cs ls vs o → Tells j cs ls us q → (vs ≡ us) × (o ≡ q)
one_telling [] j cs vs us o q a b = (a.0 ∙ sym b.0, a.1 ∙ sym b.1)
one_telling (l ∷ ls) j cs vs us o q a b =
    let e = moved_once (reach j cs).0.owed (reach j cs).0 l a.0 b.0 a.2 b.2 in
    let m = one_telling ls b.0 (reach j cs).1 a.1 b.1 o q (subst (λ k. Tells k (reach j cs).1 ls a.1 o) e a.4) b.4 in
    (a.3 ∙ ap (λ k. shown_at k ++ a.1) e ∙ ap (λ x. shown_at b.0 ++ x) m.0 ∙ sym b.3, m.1)

pub one_proof_telling : (ls : List (Option Line)) (cs : List Says) (vs us : List Verdict) (o q : Option Refusal) → TellsProof cs ls vs o → TellsProof cs ls us q → (vs ≡ us) × (o ≡ q)
one_proof_telling [] cs vs us o q a b = (a.0 ∙ sym b.0, a.1 ∙ sym b.1)
one_proof_telling (l ∷ ls) cs vs us o q (inl a) (inl b) =
    let same = same_start l a.0 b.0 a.1 b.1 a.2 b.2 in
    one_telling ls (judged.judging_from b.0 b.1) cs vs us o q (subst (λ x. Tells x cs ls vs o) same a.3) b.3
one_proof_telling (l ∷ ls) cs vs us o q (inl a) (inr b) = absurd (b.0 a.0 a.1 a.2)
one_proof_telling (l ∷ ls) cs vs us o q (inr a) (inl b) = absurd (a.0 b.0 b.1 b.2)
one_proof_telling (l ∷ ls) cs vs us o q (inr a) (inr b) = (a.1 ∙ sym b.1, a.2 ∙ sym b.2)

-- ---- the verdicts of lines

abbrev pub line_verdict : Option Line → List Verdict
line_verdict (Some (line.Sat n)) = verdict.Sat ∷ []
line_verdict (Some (line.Unsat p)) = verdict.Unsat ∷ []
line_verdict (Some (line.Unknown cube start count)) = verdict.Unknown ∷ []
line_verdict _ = []

-- that of a record which is begun
abbrev owing : Owed → List Verdict
owing (judged.Values next left values) = verdict.Sat ∷ []
owing (judged.Noted cube start left lines) = verdict.Unknown ∷ []
owing _ = []

abbrev pub IsOver : Owed → Type 0
IsOver o = (r : Refusal) × (o ≡ judged.Over r)

-- the line brings its verdict, or is refused
abbrev Brings : List Verdict → List Verdict → Judging → Type 0
Brings owed brought k = (shown_at k ++ owing k.owed ≡ owed ++ brought) ⊎ IsOver k.owed

pub at_refused : (j k : Judging) (r : RuleName) → k ≡ refused j r → IsOver k.owed
at_refused j k r e = (record { line = j.line; rule = r }, ap (λ (x : Judging). x.owed) e)

decided : (P : Type 0) (j one k : Judging) (r : RuleName) (owed brought : List Verdict) → shown_at one ++ owing one.owed ≡ owed ++ brought → judged.Decides P one (refused j r) k → Brings owed brought k
decided P j one k r owed brought e (inl h) = subst (λ (x : Judging). Brings owed brought x) (sym h.1) (inl e)
decided P j one k r owed brought e (inr h) = inr (at_refused j k r h.1)

stepped : (j : Judging) (l : Line) (k : Judging) → StepsBy j l k → Brings [] [] k
stepped j l k (inl h) = subst (λ (x : Judging). Brings [] [] x) (sym h.2) (inl refl)
stepped j l k (inr h) = inr (at_refused j k (judged.rule_of l) h.1)

deleted : (format : Format) (j : Judging) (places : List ℕ) (k : Judging) → Deletes format j places k → Brings [] [] k
deleted One j places k h = inr (at_refused j k _ h)
deleted Two j places k h = decided _ j _ k _ [] [] refl h

gone : (j : Judging) (left : List LiveName) (values : List (ℕ × Value)) (k : Judging) → Goes j left values k → Brings (verdict.Sat ∷ []) [] k
gone j [] values k h = decided _ j _ k _ (verdict.Sat ∷ []) [] refl h
gone j (next ∷ left) values k h = subst (λ (x : Judging). Brings (verdict.Sat ∷ []) [] x) (sym h) (inl refl)

opened : (j : Judging) (cube start count : ℕ) (k : Judging) → Opens j cube start count k → Brings [] (verdict.Unknown ∷ []) k
opened j cube start zero k h = inr (at_refused j k _ h)
opened j cube start (suc left) k h = decided _ j _ k _ [] (verdict.Unknown ∷ []) refl h

-- a line of a diary, or the last
noted : (j : Judging) (cube start left : ℕ) (lines : List DiaryLine) (l : DiaryLine) (k : Judging) → Notes j cube start left lines l k → Brings (verdict.Unknown ∷ []) [] k
noted j cube start zero lines l k h = decided _ j _ k _ (verdict.Unknown ∷ []) [] refl h
noted j cube start (suc left) lines l k h = decided _ j _ k _ (verdict.Unknown ∷ []) [] refl h

at_step : (j : Judging) (l : Line) (k : Judging) → AtStep j l k → Brings [] (line_verdict (Some l)) k
at_step j (line.Header f c b) k h = inr (at_refused j k _ h)
at_step j (line.Term d args) k h = stepped j _ k h
at_step j (line.Leaf t) k h = stepped j _ k h
at_step j (line.Encode t) k h = stepped j _ k h
at_step j (line.Rewrite r t u) k h = stepped j _ k h
at_step j (line.Selector a) k h = stepped j _ k h
at_step j (line.Chain c hs) k h = stepped j _ k h
at_step j (line.Equal t u) k h = stepped j _ k h
at_step j (line.Congruence t u) k h = stepped j _ k h
at_step j (line.Witness t) k h = stepped j _ k h
at_step j (line.Accesses a b) k h = stepped j _ k h
at_step j (line.Delete ps) k h = deleted j.format j ps k h
at_step j (line.Sat n) k (inl h) = gone j j.state.symbols.live [] k h.1
at_step j (line.Sat n) k (inr h) = inr (at_refused j k _ h.1)
at_step j (line.Value d w) k h = inr (at_refused j k _ h)
at_step j (line.Unsat p) k h = decided _ j _ k _ [] (verdict.Unsat ∷ []) refl h
at_step j (line.Unknown cube start count) k h = opened j cube start count k h
at_step j (line.Take p) k h = inr (at_refused j k _ h)
at_step j (line.Put p) k h = inr (at_refused j k _ h)
at_step j (line.Drop p) k h = inr (at_refused j k _ h)

at_value : (j : Judging) (next : LiveName) (left : List LiveName) (values : List (ℕ × Value)) (l : Line) (k : Judging) → AtValue j next left values l k → Brings (verdict.Sat ∷ []) (line_verdict (Some l)) k
at_value j next left values (line.Value d w) k (inl h) = gone j left (values ++ (d, h.0) ∷ []) k h.2
at_value j next left values (line.Value d w) k (inr h) = inr (at_refused j k _ h.1)
at_value j next left values (line.Header f c b) k h = inr (at_refused j k _ h)
at_value j next left values (line.Term c b) k h = inr (at_refused j k _ h)
at_value j next left values (line.Leaf t) k h = inr (at_refused j k _ h)
at_value j next left values (line.Encode t) k h = inr (at_refused j k _ h)
at_value j next left values (line.Rewrite r t u) k h = inr (at_refused j k _ h)
at_value j next left values (line.Selector a) k h = inr (at_refused j k _ h)
at_value j next left values (line.Chain c hs) k h = inr (at_refused j k _ h)
at_value j next left values (line.Equal t u) k h = inr (at_refused j k _ h)
at_value j next left values (line.Congruence t u) k h = inr (at_refused j k _ h)
at_value j next left values (line.Witness t) k h = inr (at_refused j k _ h)
at_value j next left values (line.Accesses a b) k h = inr (at_refused j k _ h)
at_value j next left values (line.Delete ps) k h = inr (at_refused j k _ h)
at_value j next left values (line.Sat n) k h = inr (at_refused j k _ h)
at_value j next left values (line.Unsat p) k h = inr (at_refused j k _ h)
at_value j next left values (line.Unknown cube start count) k h = inr (at_refused j k _ h)
at_value j next left values (line.Take p) k h = inr (at_refused j k _ h)
at_value j next left values (line.Put p) k h = inr (at_refused j k _ h)
at_value j next left values (line.Drop p) k h = inr (at_refused j k _ h)

at_diary : (j : Judging) (cube start left : ℕ) (lines : List DiaryLine) (l : Line) (k : Judging) → AtDiary j cube start left lines l k → Brings (verdict.Unknown ∷ []) (line_verdict (Some l)) k
at_diary j cube start left lines (line.Take p) k h = noted j cube start left lines (diary.Take p) k h
at_diary j cube start left lines (line.Put p) k h = noted j cube start left lines (diary.Put p) k h
at_diary j cube start left lines (line.Drop p) k h = noted j cube start left lines (diary.Drop p) k h
at_diary j cube start left lines (line.Header f c b) k h = inr (at_refused j k _ h)
at_diary j cube start left lines (line.Term c b) k h = inr (at_refused j k _ h)
at_diary j cube start left lines (line.Leaf t) k h = inr (at_refused j k _ h)
at_diary j cube start left lines (line.Encode t) k h = inr (at_refused j k _ h)
at_diary j cube start left lines (line.Rewrite r t u) k h = inr (at_refused j k _ h)
at_diary j cube start left lines (line.Selector a) k h = inr (at_refused j k _ h)
at_diary j cube start left lines (line.Chain c hs) k h = inr (at_refused j k _ h)
at_diary j cube start left lines (line.Equal t u) k h = inr (at_refused j k _ h)
at_diary j cube start left lines (line.Congruence t u) k h = inr (at_refused j k _ h)
at_diary j cube start left lines (line.Witness t) k h = inr (at_refused j k _ h)
at_diary j cube start left lines (line.Accesses a b) k h = inr (at_refused j k _ h)
at_diary j cube start left lines (line.Delete ps) k h = inr (at_refused j k _ h)
at_diary j cube start left lines (line.Sat n) k h = inr (at_refused j k _ h)
at_diary j cube start left lines (line.Value d w) k h = inr (at_refused j k _ h)
at_diary j cube start left lines (line.Unsat p) k h = inr (at_refused j k _ h)
at_diary j cube start left lines (line.Unknown n g c) k h = inr (at_refused j k _ h)

brought : (o : Owed) (j : Judging) (l : Option Line) (k : Judging) → j.owed ≡ o → MovesBy o j l k → Brings (owing o) (line_verdict l) k
brought judged.Nothing j l k e h = inr (at_refused j k _ h)
brought judged.Steps j None k e h = inr (at_refused j k _ h)
brought judged.Steps j (Some l) k e h = at_step j l k h
brought (judged.Values next left values) j None k e h = inr (at_refused j k _ h)
brought (judged.Values next left values) j (Some l) k e h = at_value j next left values l k h
brought (judged.Noted cube start left lines) j None k e h = inr (at_refused j k _ h)
brought (judged.Noted cube start left lines) j (Some l) k e h = at_diary j cube start left lines l k h
brought (judged.Over r) j l k e h = inr (r, ap (λ (x : Judging). x.owed) h ∙ e)

-- commands owe no value
owed_none : (a : Answer) → owing (owed_by a) ≡ []
owed_none answer.Check = refl
owed_none _ = refl

idle_none : (o : Owed) → is_idle o ≡ true → owing o ≡ []
idle_none judged.Nothing e = refl
idle_none judged.Steps e = refl
idle_none (judged.Values next left values) e = absurd (let z : ⊥ = cc in z)
idle_none (judged.Noted cube start left lines) e = absurd (let z : ⊥ = cc in z)
idle_none (judged.Over r) e = refl

owing_behind : (j : Judging) (c : Says) → is_idle j.owed ≡ true → owing (commanded j c).owed ≡ owing j.owed
owing_behind j c e = owed_none (step j.state c).0 ∙ sym (idle_none j.owed e)

reached_by : (b d : Bool) (j : Judging) (c : Says) (cs : List Says) → is_idle j.owed ≡ b → owing (reach (commanded j c) cs).0.owed ≡ owing (commanded j c).owed → owing (if b then (if d then (commanded j c, []) else reach (commanded j c) cs) else (j, c ∷ cs)).0.owed ≡ owing j.owed
reached_by true true j c cs e h = owing_behind j c e
reached_by true false j c cs e h = h ∙ owing_behind j c e
reached_by false d j c cs e h = refl

reach_owing : (cs : List Says) (j : Judging) → owing (reach j cs).0.owed ≡ owing j.owed
reach_owing [] j = refl
reach_owing (c ∷ cs) j = reached_by (is_idle j.owed) (ends c) j c cs refl (reach_owing cs (commanded j c))

-- behind a refusal it is refused
pub over_told : (ls : List (Option Line)) (j : Judging) (cs : List Says) (vs : List Verdict) (o : Option Refusal) (r : Refusal) → j.owed ≡ judged.Over r → Tells j cs ls vs o → o ≡ None → ⊥
over_told ls j cs vs o r e h n = some_told ls j cs vs r e (subst (λ x. Tells j cs ls vs x) n h)
  where
    none_some : (r : Refusal) → ◌≡◌ {A = Option Refusal} None (Some r) → ⊥
    none_some r e = cc

    some_told : (ls : List (Option Line)) (j : Judging) (cs : List Says) (vs : List Verdict) (r : Refusal) → j.owed ≡ judged.Over r → Tells j cs ls vs None → ⊥
    some_told ls j cs vs r e h = none_some r (one_telling ls j cs vs [] None (Some r) h (tells_over j r e cs ls)).1

pub told_verdicts : (ls : List (Option Line)) (j : Judging) (cs : List Says) (vs : List Verdict) → Tells j cs ls vs None → vs ≡ owing (reach j cs).0.owed ++ flat_map line_verdict ls
told_verdicts [] j cs vs h = h.0 ∙ sym (append-nil (owing (reach j cs).0.owed) ∙ idle_none (reach j cs).0.owed (ending_none (reach j cs).0.owed (reach j cs).0.line (sym h.1)))
told_verdicts (l ∷ ls) j cs vs h =
    let k = h.0 in
    let m = told_verdicts ls k (reach j cs).1 h.1 h.4 ∙ ap (λ x. x ++ flat_map line_verdict ls) (reach_owing (reach j cs).1 k) in
    h.3 ∙ ap (λ x. shown_at k ++ x) m ∙ sym (append_assoc (shown_at k) (owing k.owed) (flat_map line_verdict ls))
    ∙ elim (brought (reach j cs).0.owed (reach j cs).0 l k refl h.2) [
      | inl e ↦ ap (λ x. x ++ flat_map line_verdict ls) e ∙ append_assoc (owing (reach j cs).0.owed) (line_verdict l) (flat_map line_verdict ls)
      | inr o ↦ absurd (over_told ls k (reach j cs).1 h.1 None o.0 o.1 h.4 refl)
    ]

pub proof_verdicts : (format : Format) (limits : Limits) (ls : List (Option Line)) (cs : List Says) (vs : List Verdict) → Tells (judged.judging_from format limits) cs ls vs None → vs ≡ flat_map line_verdict ls
proof_verdicts format limits ls cs vs h = told_verdicts ls (judged.judging_from format limits) cs vs h ∙ ap (λ x. x ++ flat_map line_verdict ls) (reach_owing cs (judged.judging_from format limits))

-- ---- the lines of turns

steps_none : (o : Option Head) (args : List ℕ) → flat_map line_verdict (map (λ l. Some l) (option_to_list (option_map (λ h. line.Term h args) o))) ≡ []
steps_none None args = refl
steps_none (Some h) args = refl

lemma_none : (l : Lemma) → flat_map line_verdict (Some (lemma_line l) ∷ []) ≡ []
lemma_none (lemma.Congruence t u) = refl
lemma_none (lemma.Witness t) = refl
lemma_none (lemma.Arrays a b) = refl

step_none : (e : Entry) → flat_map line_verdict (map (λ l. Some l) (option_to_list (entry_line e))) ≡ []
step_none (entry.Node n) = steps_none (head_of n.op) n.args
step_none (entry.Lemma l) = lemma_none l
step_none e = refl

-- the verdicts of these lines
abbrev pub of_lines : List Line → List Verdict
of_lines ls = flat_map line_verdict (map (λ l. Some l) ls)

of_both : (a b : List Line) → of_lines (a ++ b) ≡ of_lines a ++ of_lines b
of_both a b = ap (flat_map line_verdict) (map-append (λ l. Some l) a b) ∙ flat_map-append line_verdict (map (λ l. Some l) a) (map (λ l. Some l) b)

of_value : (d : ℕ) (o : Option WrittenValue) → of_lines (map (line.Value d) (option_to_list o)) ≡ []
of_value d None = refl
of_value d (Some v) = refl

of_values : (vs : List (ℕ × Value)) → of_lines (flat_map value_lines vs) ≡ []
of_values [] = refl
of_values (v ∷ vs) = of_both (value_lines v) (flat_map value_lines vs) ∙ ap (λ x. x ++ of_lines (flat_map value_lines vs)) (of_value v.0 (written_value v.1)) ∙ of_values vs

of_noted : (ls : List DiaryLine) → of_lines (map diary_line ls) ≡ []
of_noted [] = refl
of_noted (diary.Take p ∷ ls) = of_noted ls
of_noted (diary.Put p ∷ ls) = of_noted ls
of_noted (diary.Drop p ∷ ls) = of_noted ls

of_shown : (o : Option Record) → of_lines (shown_lines o) ≡ option_to_list (option_map verdict_of o)
of_shown None = refl
of_shown (Some (shown.Sat values)) = ap (λ x. verdict.Sat ∷ x) (of_values values)
of_shown (Some (shown.Unsat p)) = refl
of_shown (Some (shown.Unknown d)) = ap (λ x. verdict.Unknown ∷ x) (of_noted d.lines)

of_items : (items : List Item) → of_lines (flat_map item_lines items) ≡ []
of_items [] = refl
of_items (Step e ∷ items) = of_both (option_to_list (entry_line e)) (flat_map item_lines items) ∙ ap (λ x. x ++ of_lines (flat_map item_lines items)) (step_none e) ∙ of_items items
of_items (Delete places ∷ items) = of_items items

pub of_parts : (ps : List Part) → of_lines (flat_map part_lines ps) ≡ verdicts_of (map turn_of ps)
of_parts [] = refl
of_parts (p ∷ ps) =
    let own = flat_map item_lines p.items in
    of_both (part_lines p) (flat_map part_lines ps)
    ∙ ap (λ x. x ++ of_lines (flat_map part_lines ps)) (of_both own (shown_lines p.shown) ∙ ap (λ x. x ++ of_lines (shown_lines p.shown)) (of_items p.items) ∙ of_shown p.shown)
    ∙ ap (λ x. option_to_list (option_map verdict_of p.shown) ++ x) (of_parts ps)
