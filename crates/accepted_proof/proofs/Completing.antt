-- A proof without a bad line is that of parts which may follow one after the other.
use Rattle.std.proofs.Common.{◌≡◌, ℕ, zero, suc, Bool, false, List, [], ◌∷◌, ◌++◌, map, length, flat_map, slice_get, Option, Some, None, refl, sym, ap, ap₂, ◌∙◌, subst, inl, inr, append_assoc, append-nil}
use Rattle.std.specs.Prelude.{IsSome, option_to_list}
use Rattle.std.proofs.lemmas.List.{length-map}
use Rattle.smt_values.specs.declared.value.Value.{Value}
use Rattle.smt_build.specs.declared.symbols.LiveName.{LiveName}
use Rattle.script_state.specs.States.{StateValue, concluded}
use Rattle.proof_log.specs.declared.entry.Entry.{Entry}
use Rattle.proof_text.specs.declared.line.WrittenValue.{WrittenValue}
use Rattle.proof_text.specs.declared.line.Format.{Format}
use Rattle.proof_text.specs.declared.line.Format.TheVariants.{One, Two}
use Rattle.proof_text.specs.Deletions.{IsSpentWithout}
use Rattle.proof_text.specs.declared.line.Line.{Line}
use Rattle.proof_text.specs.declared.line.Line.TheVariants as line
use Rattle.proof_text.specs.declared.record.Record.TheVariants as shown
use Rattle.proof_text.specs.Records.{value_lines, diary_line, record_lines}
use Rattle.proof_log.specs.declared.diary.DiaryLine.{DiaryLine}
use Rattle.proof_log.specs.declared.diary.DiaryLine.TheVariants as diary
use Rattle.proof_log.specs.declared.diary.Diary.{Diary}
use Rattle.accepted_proof.specs.Searching.{Limits, subject_of}
use Rattle.accepted_proof.specs.Models.{interpretation_of, IsModel, IsOfSignature}
use Rattle.accepted_proof.specs.Turns.{Step, Delete, IsShownWithout, deleted_behind, item_lines, steps_in, with_step, with_steps, verdict_of}
use Rattle.accepted_proof.specs.Judged.{Owed, Nothing, Steps, Values, Noted, Over, Judging, is_idle, ending, StepsBy, Deletes, Goes, Opens, AtStep, Notes, AtDiary, MovesBy, Judged}
use Rattle.std.proofs.lemmas.List.Elements.{All-cons, All-nil}
use Rattle.smt_text.specs.declared.chunk.Chunk.{Chunk}
use Rattle.script_state.specs.Readings.{Reading}
use Rattle.accepted_proof.specs.declared.refusal.RuleName.{RuleName}
use Rattle.accepted_proof.specs.Judged.{AtValue, refused, ReadEach}
use Rattle.accepted_proof.proofs.Following.{place, lines_before, Keeping, reach_here, From, from_judged}
use Rattle.accepted_proof.proofs.Remaining.{Ends, EndsSteps, EndsValues, EndsLines, Completes, Completed, HeldCompleted, idle_completed, any_completed}

-- ---- lines

-- the rest, from where a line leads
abbrev Leads : List Chunk → List (Option Line) → Judging → Type 0
Leads chunks ls k = (o : Owed) → k.owed ≡ o → Completes o k chunks ls

no_refusal : (j k : Judging) (r : RuleName) (chunks : List Chunk) (ls : List (Option Line)) → k ≡ refused j r → Leads chunks ls k → ⊥
no_refusal j k r chunks ls e h = subst (Leads chunks ls) e h (Over (record { line = j.line; rule = r })) refl

goes_completes : (j k : Judging) (left : List LiveName) (values : List (ℕ × Value)) (chunks : List Chunk) (ls : List (Option Line)) → Goes j left values k → Leads chunks ls k → EndsValues j.format j.limits j.state j.log j.deleted left values chunks ls
goes_completes j k [] values chunks ls (inl x) h = record {
  more = [];
  names = refl;
  sorted = All-nil (λ (p : ℕ × Value). IsOfSignature p.1 (slice_get j.state.symbols.signatures p.0));
  written = tt;
  model = subst (λ vs. IsModel j.state (interpretation_of vs)) (sym (append-nil values)) x.0;
  rest = ls;
  further = subst (Leads chunks ls) x.1 h Nothing refl;
  lines = refl;
}
goes_completes j k [] values chunks ls (inr x) h = absurd (no_refusal j k _ chunks ls x.1 h)
goes_completes j k (next ∷ left) values chunks ls e h = subst (Leads chunks ls) e h (Values next left values) refl

step_completes : (j : Judging) (l : Line) (k : Judging) (chunks : List Chunk) (ls : List (Option Line)) → StepsBy j l k → Leads chunks ls k → EndsSteps j.format j.limits j.state j.log j.deleted chunks (Some l ∷ ls)
step_completes j l k chunks ls (inl x) h =
    let e = x.0 in
    let after : EndsSteps j.format j.limits (with_step j.state e) (j.log ++ e ∷ []) j.deleted chunks ls = subst (Leads chunks ls) x.2 h Steps refl in
    let steps = steps_in after.items in
    let behind = deleted_behind j.deleted after.items in
    let assoc = append_assoc j.log (e ∷ []) steps in
    let last = with_steps (with_step j.state e) steps in
    let own : lines_before after.rest (flat_map item_lines (Step e ∷ after.items) ++ record_lines after.shown) ≡ Some l ∷ lines_before after.rest (flat_map item_lines after.items ++ record_lines after.shown) =
    ap (λ o. lines_before after.rest ((option_to_list o ++ flat_map item_lines after.items) ++ record_lines after.shown)) x.1.written in
    record {
      items = Step e ∷ after.items;
      shown = after.shown;
      valid = (x.1.valid, x.1.script, subst IsSome (sym x.1.written) refl, after.valid);
      kept = (x.1.left, after.kept);
      ends = subst (λ all. IsShownWithout behind j.limits last last.terms.nodes all after.shown) assoc after.ends;
      rest = after.rest;
      further = subst (λ all. Ends j.format j.limits (concluded last (verdict_of after.shown)) all behind chunks after.rest) assoc after.further;
      lines = ap (λ x. Some l ∷ x) after.lines ∙ sym own;
    }
step_completes j l k chunks ls (inr x) h = absurd (no_refusal j k _ chunks ls x.1 h)

deletion_completes : (format : Format) (j k : Judging) (places : List ℕ) (chunks : List Chunk) (ls : List (Option Line)) → j.format ≡ format → Deletes format j places k → Leads chunks ls k → EndsSteps j.format j.limits j.state j.log j.deleted chunks (Some (line.Delete places) ∷ ls)
deletion_completes One j k places chunks ls e m h = absurd (no_refusal j k _ chunks ls m h)
deletion_completes Two j k places chunks ls e (inl x) h =
    let after : EndsSteps j.format j.limits j.state j.log (j.deleted ++ places) chunks ls = subst (Leads chunks ls) x.1 h Steps refl in
    record {
      items = Delete places ∷ after.items;
      shown = after.shown;
      valid = after.valid;
      kept = (e, x.0, after.kept);
      ends = after.ends;
      rest = after.rest;
      further = after.further;
      lines = ap (λ x. Some (line.Delete places) ∷ x) after.lines;
    }
deletion_completes Two j k places chunks ls e (inr x) h = absurd (no_refusal j k _ chunks ls x.1 h)

model_completes : (j k : Judging) (count : ℕ) (chunks : List Chunk) (ls : List (Option Line)) → AtStep j (line.Sat count) k → Leads chunks ls k → EndsSteps j.format j.limits j.state j.log j.deleted chunks (Some (line.Sat count) ∷ ls)
model_completes j k count chunks ls (inl x) h =
    let after = goes_completes j k j.state.symbols.live [] chunks ls x.1 h in
    let same : count ≡ length after.more = x.0 ∙ sym (length-map j.state.symbols.live (λ (l : LiveName). l.declaration)) ∙ sym (ap length after.names) ∙ length-map after.more (λ (p : ℕ × Value). p.0) in
    record {
      items = [];
      shown = shown.Sat after.more;
      valid = tt;
      kept = tt;
      ends = (after.written, record { listed = after.names; sorted = after.sorted; model = after.model });
      rest = after.rest;
      further = subst (λ all. Ends j.format j.limits (concluded j.state (verdict_of (shown.Sat after.more))) all j.deleted chunks after.rest) (sym (append-nil j.log)) after.further;
      lines = ap (λ x. Some (line.Sat count) ∷ x) after.lines ∙ ap (λ n. Some (line.Sat n) ∷ lines_before after.rest (flat_map value_lines after.more)) same;
    }
model_completes j k count chunks ls (inr x) h = absurd (no_refusal j k _ chunks ls x.1 h)

refutation_completes : (j k : Judging) (p : ℕ) (chunks : List Chunk) (ls : List (Option Line)) → AtStep j (line.Unsat p) k → Leads chunks ls k → EndsSteps j.format j.limits j.state j.log j.deleted chunks (Some (line.Unsat p) ∷ ls)
refutation_completes j k p chunks ls (inl x) h = record {
  items = [];
  shown = shown.Unsat p;
  valid = tt;
  kept = tt;
  ends = subst (λ all. IsShownWithout j.deleted j.limits j.state j.state.terms.nodes all (shown.Unsat p)) (sym (append-nil j.log)) x.0;
  rest = ls;
  further = subst (λ all. Ends j.format j.limits (concluded j.state (verdict_of (shown.Unsat p))) all j.deleted chunks ls) (sym (append-nil j.log)) (subst (Leads chunks ls) x.1 h Nothing refl);
  lines = refl;
}
refutation_completes j k p chunks ls (inr x) h = absurd (no_refusal j k _ chunks ls x.1 h)

notes_completes : (j k : Judging) (cube start left : ℕ) (lines : List DiaryLine) (l : DiaryLine) (chunks : List Chunk) (ls : List (Option Line)) → Notes j cube start left lines l k → Leads chunks ls k → EndsLines j.format j.limits j.state j.log j.deleted cube start left lines chunks (Some (diary_line l) ∷ ls)
notes_completes j k cube start zero lines l chunks ls (inl x) h = record {
  more = l ∷ [];
  count = refl;
  spent = x.0;
  rest = ls;
  further = subst (Leads chunks ls) x.1 h Nothing refl;
  lines = refl;
}
notes_completes j k cube start zero lines l chunks ls (inr x) h = absurd (no_refusal j k _ chunks ls x.1 h)
notes_completes j k cube start (suc left) lines l chunks ls (inl x) h =
    let after : EndsLines j.format j.limits j.state j.log j.deleted cube start left (lines ++ l ∷ []) chunks ls = subst (Leads chunks ls) x.1 h (Noted cube start left (lines ++ l ∷ [])) refl in
    record {
      more = l ∷ after.more;
      count = ap suc after.count;
      spent = subst (IsSpentWithout j.deleted (subject_of j.limits j.state j.state.terms.nodes j.log cube start) j.limits.budget) (append_assoc lines (l ∷ []) after.more) after.spent;
      rest = after.rest;
      further = after.further;
      lines = ap (λ x. Some (diary_line l) ∷ x) after.lines;
    }
notes_completes j k cube start (suc left) lines l chunks ls (inr x) h = absurd (no_refusal j k _ chunks ls x.1 h)

at_diary_completes : (j k : Judging) (cube start left : ℕ) (lines : List DiaryLine) (l : Line) (chunks : List Chunk) (ls : List (Option Line)) → AtDiary j cube start left lines l k → Leads chunks ls k → EndsLines j.format j.limits j.state j.log j.deleted cube start left lines chunks (Some l ∷ ls)
at_diary_completes j k cube start left lines (line.Take p) chunks ls m h = notes_completes j k cube start left lines (diary.Take p) chunks ls m h
at_diary_completes j k cube start left lines (line.Put p) chunks ls m h = notes_completes j k cube start left lines (diary.Put p) chunks ls m h
at_diary_completes j k cube start left lines (line.Drop p) chunks ls m h = notes_completes j k cube start left lines (diary.Drop p) chunks ls m h
at_diary_completes j k cube start left lines _ chunks ls m h = absurd (no_refusal j k _ chunks ls m h)

opens_completes : (j k : Judging) (cube start count : ℕ) (chunks : List Chunk) (ls : List (Option Line)) → Opens j cube start count k → Leads chunks ls k → EndsSteps j.format j.limits j.state j.log j.deleted chunks (Some (line.Unknown cube start count) ∷ ls)
opens_completes j k cube start zero chunks ls m h = absurd (no_refusal j k _ chunks ls m h)
opens_completes j k cube start (suc left) chunks ls (inl x) h =
    let after : EndsLines j.format j.limits j.state j.log j.deleted cube start left [] chunks ls = subst (Leads chunks ls) x.1 h (Noted cube start left []) refl in
    let d : Diary = record { cube = cube; start = start; lines = after.more } in
    record {
      items = [];
      shown = shown.Unknown d;
      valid = tt;
      kept = tt;
      ends = subst (λ all. IsShownWithout j.deleted j.limits j.state j.state.terms.nodes all (shown.Unknown d)) (sym (append-nil j.log)) (record { search = x.0; spent = after.spent });
      rest = after.rest;
      further = subst (λ all. Ends j.format j.limits (concluded j.state (verdict_of (shown.Unknown d))) all j.deleted chunks after.rest) (sym (append-nil j.log)) after.further;
      lines = ap (λ x. Some (line.Unknown cube start (suc left)) ∷ x) after.lines ∙ ap (λ n. Some (line.Unknown cube start n) ∷ lines_before after.rest (map diary_line after.more)) (sym after.count);
    }
opens_completes j k cube start (suc left) chunks ls (inr x) h = absurd (no_refusal j k _ chunks ls x.1 h)

at_step_completes : (j : Judging) (l : Line) (k : Judging) (chunks : List Chunk) (ls : List (Option Line)) → AtStep j l k → Leads chunks ls k → EndsSteps j.format j.limits j.state j.log j.deleted chunks (Some l ∷ ls)
at_step_completes j (line.Header f c b) k chunks ls m h = absurd (no_refusal j k _ chunks ls m h)
at_step_completes j (line.Term d args) k chunks ls m h = step_completes j _ k chunks ls m h
at_step_completes j (line.Leaf t) k chunks ls m h = step_completes j _ k chunks ls m h
at_step_completes j (line.Encode t) k chunks ls m h = step_completes j _ k chunks ls m h
at_step_completes j (line.Rewrite r t u) k chunks ls m h = step_completes j _ k chunks ls m h
at_step_completes j (line.Selector a) k chunks ls m h = step_completes j _ k chunks ls m h
at_step_completes j (line.Chain c hs) k chunks ls m h = step_completes j _ k chunks ls m h
at_step_completes j (line.Equal t u) k chunks ls m h = step_completes j _ k chunks ls m h
at_step_completes j (line.Congruence t u) k chunks ls m h = step_completes j _ k chunks ls m h
at_step_completes j (line.Witness t) k chunks ls m h = step_completes j _ k chunks ls m h
at_step_completes j (line.Accesses a b) k chunks ls m h = step_completes j _ k chunks ls m h
at_step_completes j (line.Delete ps) k chunks ls m h = deletion_completes j.format j k ps chunks ls refl m h
at_step_completes j (line.Sat n) k chunks ls m h = model_completes j k n chunks ls m h
at_step_completes j (line.Value d w) k chunks ls m h = absurd (no_refusal j k _ chunks ls m h)
at_step_completes j (line.Unsat p) k chunks ls m h = refutation_completes j k p chunks ls m h
at_step_completes j (line.Unknown c g n) k chunks ls m h = opens_completes j k c g n chunks ls m h
at_step_completes j (line.Take p) k chunks ls m h = absurd (no_refusal j k _ chunks ls m h)
at_step_completes j (line.Put p) k chunks ls m h = absurd (no_refusal j k _ chunks ls m h)
at_step_completes j (line.Drop p) k chunks ls m h = absurd (no_refusal j k _ chunks ls m h)

value_completes : (j k : Judging) (next : LiveName) (left : List LiveName) (values : List (ℕ × Value)) (d : ℕ) (w : WrittenValue) (chunks : List Chunk) (ls : List (Option Line)) → AtValue j next left values (line.Value d w) k → Leads chunks ls k → EndsValues j.format j.limits j.state j.log j.deleted (next ∷ left) values chunks (Some (line.Value d w) ∷ ls)
value_completes j k next left values d w chunks ls (inl x) h =
    let v = x.0 in
    let after = goes_completes j k left (values ++ (d, v) ∷ []) chunks ls x.2 h in
    let own : lines_before after.rest (flat_map value_lines ((d, v) ∷ after.more)) ≡ Some (line.Value d w) ∷ lines_before after.rest (flat_map value_lines after.more) =
    ap (λ o. lines_before after.rest (map (line.Value d) (option_to_list o) ++ flat_map value_lines after.more)) x.1.written in
    record {
      more = (d, v) ∷ after.more;
      names = ap₂ (λ a b. a ∷ b) x.1.declaration after.names;
      sorted = All-cons (λ (p : ℕ × Value). IsOfSignature p.1 (slice_get j.state.symbols.signatures p.0)) (d, v) after.more x.1.sorted after.sorted;
      written = (subst IsSome (sym x.1.written) refl, after.written);
      model = subst (λ vs. IsModel j.state (interpretation_of vs)) (append_assoc values ((d, v) ∷ []) after.more) after.model;
      rest = after.rest;
      further = after.further;
      lines = ap (λ x. Some (line.Value d w) ∷ x) after.lines ∙ sym own;
    }
value_completes j k next left values d w chunks ls (inr x) h = absurd (no_refusal j k _ chunks ls x.1 h)

at_value_completes : (j k : Judging) (next : LiveName) (left : List LiveName) (values : List (ℕ × Value)) (l : Line) (chunks : List Chunk) (ls : List (Option Line)) → AtValue j next left values l k → Leads chunks ls k → EndsValues j.format j.limits j.state j.log j.deleted (next ∷ left) values chunks (Some l ∷ ls)
at_value_completes j k next left values (line.Value d w) chunks ls m h = value_completes j k next left values d w chunks ls m h
at_value_completes j k next left values _ chunks ls m h = absurd (no_refusal j k _ chunks ls m h)

move_completes : (o : Owed) (j : Judging) (l : Option Line) (k : Judging) (chunks : List Chunk) (ls : List (Option Line)) → j.owed ≡ o → is_idle o ≡ false → MovesBy o j l k → Leads chunks ls k → Completes o j chunks (l ∷ ls)
move_completes Nothing j l k chunks ls e i m h = let f : ⊥ = cc in absurd f
move_completes Steps j None k chunks ls e i m h = absurd (no_refusal j k _ chunks ls m h)
move_completes Steps j (Some l) k chunks ls e i m h = at_step_completes j l k chunks ls m h
move_completes (Values next left values) j None k chunks ls e i m h = absurd (no_refusal j k _ chunks ls m h)
move_completes (Values next left values) j (Some l) k chunks ls e i m h = at_value_completes j k next left values l chunks ls m h
move_completes (Noted cube start left lines) j None k chunks ls e i m h = absurd (no_refusal j k _ chunks ls m h)
move_completes (Noted cube start left lines) j (Some l) k chunks ls e i m h = at_diary_completes j k cube start left lines l chunks ls m h
move_completes (Over r) j l k chunks ls e i m h = h (Over r) (ap (λ (x : Judging). x.owed) m ∙ e)

-- ---- whole proofs

good_gone : (Good : StateValue → Type 0) → Keeping Good → (j k : Judging) (left : List LiveName) (values : List (ℕ × Value)) → Good j.state → Goes j left values k → Good k.state
good_gone Good keeps j k [] values g (inl x) = subst (λ (y : Judging). Good y.state) (sym x.1) (keeps.ends j.state _ g)
good_gone Good keeps j k [] values g (inr x) = subst (λ (y : Judging). Good y.state) (sym x.1) g
good_gone Good keeps j k (next ∷ left) values g e = subst (λ (y : Judging). Good y.state) (sym e) g

good_step : (Good : StateValue → Type 0) → Keeping Good → (j : Judging) (l : Line) (k : Judging) → Good j.state → StepsBy j l k → Good k.state
good_step Good keeps j l k g (inl x) = subst (λ (y : Judging). Good y.state) (sym x.2) (keeps.steps j.state j.log (x.0 ∷ []) g (x.1.valid, x.1.script, subst IsSome (sym x.1.written) refl, tt))
good_step Good keeps j l k g (inr x) = subst (λ (y : Judging). Good y.state) (sym x.1) g

good_deletes : (Good : StateValue → Type 0) (format : Format) (j k : Judging) (places : List ℕ) → Good j.state → Deletes format j places k → Good k.state
good_deletes Good One j k places g m = subst (λ (y : Judging). Good y.state) (sym m) g
good_deletes Good Two j k places g (inl x) = subst (λ (y : Judging). Good y.state) (sym x.1) g
good_deletes Good Two j k places g (inr x) = subst (λ (y : Judging). Good y.state) (sym x.1) g

good_opens : (Good : StateValue → Type 0) (j k : Judging) (cube start count : ℕ) → Good j.state → Opens j cube start count k → Good k.state
good_opens Good j k cube start zero g m = subst (λ (y : Judging). Good y.state) (sym m) g
good_opens Good j k cube start (suc left) g (inl x) = subst (λ (y : Judging). Good y.state) (sym x.1) g
good_opens Good j k cube start (suc left) g (inr x) = subst (λ (y : Judging). Good y.state) (sym x.1) g

good_notes : (Good : StateValue → Type 0) → Keeping Good → (j k : Judging) (cube start left : ℕ) (lines : List DiaryLine) (l : DiaryLine) → Good j.state → Notes j cube start left lines l k → Good k.state
good_notes Good keeps j k cube start zero lines l g (inl x) = subst (λ (y : Judging). Good y.state) (sym x.1) (keeps.ends j.state _ g)
good_notes Good keeps j k cube start zero lines l g (inr x) = subst (λ (y : Judging). Good y.state) (sym x.1) g
good_notes Good keeps j k cube start (suc left) lines l g (inl x) = subst (λ (y : Judging). Good y.state) (sym x.1) g
good_notes Good keeps j k cube start (suc left) lines l g (inr x) = subst (λ (y : Judging). Good y.state) (sym x.1) g

good_at_diary : (Good : StateValue → Type 0) → Keeping Good → (j k : Judging) (cube start left : ℕ) (lines : List DiaryLine) (l : Line) → Good j.state → AtDiary j cube start left lines l k → Good k.state
good_at_diary Good keeps j k cube start left lines (line.Take p) g m = good_notes Good keeps j k cube start left lines (diary.Take p) g m
good_at_diary Good keeps j k cube start left lines (line.Put p) g m = good_notes Good keeps j k cube start left lines (diary.Put p) g m
good_at_diary Good keeps j k cube start left lines (line.Drop p) g m = good_notes Good keeps j k cube start left lines (diary.Drop p) g m
good_at_diary Good keeps j k cube start left lines _ g m = subst (λ (y : Judging). Good y.state) (sym m) g

good_at_step : (Good : StateValue → Type 0) → Keeping Good → (j : Judging) (l : Line) (k : Judging) → Good j.state → AtStep j l k → Good k.state
good_at_step Good keeps j (line.Header f c b) k g m = subst (λ (y : Judging). Good y.state) (sym m) g
good_at_step Good keeps j (line.Term d args) k g m = good_step Good keeps j _ k g m
good_at_step Good keeps j (line.Leaf t) k g m = good_step Good keeps j _ k g m
good_at_step Good keeps j (line.Encode t) k g m = good_step Good keeps j _ k g m
good_at_step Good keeps j (line.Rewrite r t u) k g m = good_step Good keeps j _ k g m
good_at_step Good keeps j (line.Selector a) k g m = good_step Good keeps j _ k g m
good_at_step Good keeps j (line.Chain c hs) k g m = good_step Good keeps j _ k g m
good_at_step Good keeps j (line.Equal t u) k g m = good_step Good keeps j _ k g m
good_at_step Good keeps j (line.Congruence t u) k g m = good_step Good keeps j _ k g m
good_at_step Good keeps j (line.Witness t) k g m = good_step Good keeps j _ k g m
good_at_step Good keeps j (line.Accesses a b) k g m = good_step Good keeps j _ k g m
good_at_step Good keeps j (line.Delete ps) k g m = good_deletes Good j.format j k ps g m
good_at_step Good keeps j (line.Sat n) k g (inl x) = good_gone Good keeps j k j.state.symbols.live [] g x.1
good_at_step Good keeps j (line.Sat n) k g (inr x) = subst (λ (y : Judging). Good y.state) (sym x.1) g
good_at_step Good keeps j (line.Value d w) k g m = subst (λ (y : Judging). Good y.state) (sym m) g
good_at_step Good keeps j (line.Unsat p) k g (inl x) = subst (λ (y : Judging). Good y.state) (sym x.1) (keeps.ends j.state _ g)
good_at_step Good keeps j (line.Unsat p) k g (inr x) = subst (λ (y : Judging). Good y.state) (sym x.1) g
good_at_step Good keeps j (line.Unknown c b n) k g m = good_opens Good j k c b n g m
good_at_step Good keeps j (line.Take p) k g m = subst (λ (y : Judging). Good y.state) (sym m) g
good_at_step Good keeps j (line.Put p) k g m = subst (λ (y : Judging). Good y.state) (sym m) g
good_at_step Good keeps j (line.Drop p) k g m = subst (λ (y : Judging). Good y.state) (sym m) g

good_at_value : (Good : StateValue → Type 0) → Keeping Good → (j k : Judging) (next : LiveName) (left : List LiveName) (values : List (ℕ × Value)) (l : Line) → Good j.state → AtValue j next left values l k → Good k.state
good_at_value Good keeps j k next left values (line.Value d w) g (inl x) = good_gone Good keeps j k left (values ++ (d, x.0) ∷ []) g x.2
good_at_value Good keeps j k next left values (line.Value d w) g (inr x) = subst (λ (y : Judging). Good y.state) (sym x.1) g
good_at_value Good keeps j k next left values _ g m = subst (λ (y : Judging). Good y.state) (sym m) g

good_move : (Good : StateValue → Type 0) → Keeping Good → (o : Owed) (j : Judging) (l : Option Line) (k : Judging) → Good j.state → MovesBy o j l k → Good k.state
good_move Good keeps Nothing j l k g m = subst (λ (y : Judging). Good y.state) (sym m) g
good_move Good keeps Steps j None k g m = subst (λ (y : Judging). Good y.state) (sym m) g
good_move Good keeps Steps j (Some l) k g m = good_at_step Good keeps j l k g m
good_move Good keeps (Values next left values) j None k g m = subst (λ (y : Judging). Good y.state) (sym m) g
good_move Good keeps (Values next left values) j (Some l) k g m = good_at_value Good keeps j k next left values l g m
good_move Good keeps (Noted cube start left lines) j None k g m = subst (λ (y : Judging). Good y.state) (sym m) g
good_move Good keeps (Noted cube start left lines) j (Some l) k g m = good_at_diary Good keeps j k cube start left lines l g m
good_move Good keeps (Over r) j l k g m = subst (λ (y : Judging). Good y.state) (sym m) g

no_end : (o : Owed) (n : ℕ) → is_idle o ≡ false → None ≡ ending o n → ⊥
no_end Nothing n i e = let f : ⊥ = cc in f
no_end Steps n i e = let f : ⊥ = cc in f
no_end (Values next left values) n i e = let f : ⊥ = cc in f
no_end (Noted cube start left lines) n i e = let f : ⊥ = cc in f
no_end (Over r) n i e = let f : ⊥ = cc in f

held_end : (Good : StateValue → Type 0) → HeldCompleted Good []
held_end Good o j cs chunks e i r g h =
    let here : From (j, cs) [] None = subst (λ x. From x [] None) (reach_here j cs (ap is_idle e ∙ i)) (from_judged j cs [] None h) in
    absurd (no_end j.owed j.line (ap is_idle e ∙ i) here)

held_line : (Good : StateValue → Type 0) → Keeping Good → (l : Option Line) (ls : List (Option Line)) → Completed Good ls → HeldCompleted Good (l ∷ ls)
held_line Good keeps l ls done o j cs chunks e i r g h =
    let here : From (j, cs) (l ∷ ls) None = subst (λ x. From x (l ∷ ls) None) (reach_here j cs (ap is_idle e ∙ i)) (from_judged j cs (l ∷ ls) None h) in
    let k = here.0 in
    let good = good_move Good keeps j.owed j l k g here.1 in
    move_completes o j l k chunks ls e i (subst (λ x. MovesBy x j l k) e here.1) (λ p q. done p k cs chunks q r good here.2)

none_line : (Good : StateValue → Type 0) → Keeping Good → (l : Option Line) (ls : List (Option Line)) → Completed Good ls → (j : Judging) → Good j.state → j.owed ≡ Nothing → Judged j [] (l ∷ ls) None → ⊥
none_line Good keeps l ls done j g e h =
    let m : MovesBy Nothing j l h.0 = subst (λ x. MovesBy x j l h.0) e h.1 in
    no_refusal j h.0 _ [] ls m (λ p q. done p h.0 [] [] q tt (good_move Good keeps Nothing j l h.0 g m) h.2)

completed : (Good : StateValue → Type 0) → Keeping Good → (ls : List (Option Line)) → Completed Good ls
completed Good keeps [] = any_completed Good keeps [] (held_end Good) (λ j cs chunks. idle_completed Good keeps [] (λ k g e h. refl) (held_end Good) cs chunks j)
completed Good keeps (l ∷ ls) =
    let done = completed Good keeps ls in
    let held = held_line Good keeps l ls done in
    any_completed Good keeps (l ∷ ls) held (λ j cs chunks. idle_completed Good keeps (l ∷ ls) (λ k g e h. absurd (none_line Good keeps l ls done k g e h)) held cs chunks j)

-- a proof without a bad line is that of parts
pub judged_parts : (Good : StateValue → Type 0) → Keeping Good → (format : Format) (limits : Limits) (chunks : List Chunk) (cs : List Reading) (ls : List (Option Line)) (s : StateValue) (log : List Entry) (deleted : List ℕ) (n : ℕ) → Good s → ReadEach chunks cs → Judged (place format limits s log deleted Nothing n) cs ls None → Ends format limits s log deleted chunks ls
judged_parts Good keeps format limits chunks cs ls s log deleted n g r h = completed Good keeps ls Nothing (place format limits s log deleted Nothing n) cs chunks refl r g h
