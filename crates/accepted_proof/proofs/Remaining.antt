-- What is still to come of a proof without a bad line, by what is owed where it stands, and how commands lead there.
use Rattle.std.proofs.Common.{◌≡◌, ℕ, suc, Bool, true, false, List, [], ◌∷◌, ◌++◌, map, length, flat_map, slice_get, Option, Some, None, refl, sym, ap, ◌∙◌, subst, inl, inr, append-nil}
use Rattle.std.specs.Prelude.{◌⊎◌, ◌||◌, All, IsSome}
use Rattle.std.proofs.Math.Bool.{or-true}
use Rattle.std.proofs.lemmas.Bool.{false≢true}
use Rattle.std.specs.List.{AllByRecursion}
use Rattle.std.proofs.lemmas.List.{map-append}
use Rattle.smt_values.specs.declared.value.Value.{Value}
use Rattle.smt_build.specs.declared.symbols.LiveName.{LiveName}
use Rattle.script_state.specs.declared.answer.Answer.{Answer}
use Rattle.script_state.specs.declared.answer.Answer.TheVariants as answer
use Rattle.script_state.specs.States.{StateValue, concluded}
use Rattle.script_state.specs.Steps.{step, settled, ends}
use Rattle.proof_log.specs.declared.entry.Entry.{Entry}
use Rattle.cnf_base.proofs.Lists.{each_front, each_behind}
use Rattle.proof_text.specs.Lines.{IsLine}
use Rattle.proof_text.specs.declared.line.Format.{Format}
use Rattle.proof_text.specs.Deletions.{IsSpentWithout}
use Rattle.proof_text.specs.declared.line.Line.{Line}
use Rattle.proof_text.specs.declared.record.Record.{Record}
use Rattle.proof_text.specs.declared.record.Record.TheVariants as shown
use Rattle.proof_text.specs.Records.{written_value, value_lines, diary_line, record_lines}
use Rattle.proof_log.specs.declared.diary.DiaryLine.{DiaryLine}
use Rattle.script_state.specs.declared.answer.Verdict.TheVariants as verdict
use Rattle.accepted_proof.specs.Searching.{Limits, subject_of}
use Rattle.accepted_proof.specs.Models.{interpretation_of, IsModel, IsOfSignature}
use Rattle.accepted_proof.specs.Turns.{Turn, Item, Part, AreParts, AreStepsOf, AreKept, HasPart, IsShownWithout, deleted_behind, item_lines, part_lines, steps_in, turn_of, with_steps, verdict_of, state_after}
use Rattle.accepted_proof.specs.Judged.{Owed, Nothing, Steps, Values, Noted, Over, Judging, owed_by, commanded, is_idle, Judged}
use Rattle.smt_text.specs.declared.chunk.Chunk.{Chunk}
use Rattle.script_state.specs.Readings.{Reading, ReadsAs}
use Rattle.accepted_proof.specs.Accepted.{AreRead, EndLast, has_ended}
use Rattle.accepted_proof.specs.Judged.{ReadEach, AreReadable}
use Rattle.accepted_proof.proofs.Following.{lines_before, Keeping, reach_past, reach_last, From, from_judged, judged_from}
use Rattle.accepted_proof.proofs.Parting.{without_back}
use Rattle.accepted_proof.proofs.Settling.{settled_by}
use Rattle.script_state.proofs.Deciding.{ends_by_exit}

-- ---- what is still to come

-- the parts may follow one after the other, but for the bounds of their lines
abbrev pub Proceed : Format → Limits → StateValue → List Entry → List ℕ → List Part → Type 0
Proceed format limits s log deleted [] = Unit {0}
Proceed format limits s log deleted (p ∷ ps) =
    (p.answer ≡ (step s p.says).0)
    × HasPart format limits p.answer (step s p.says).1 log deleted p.items p.shown
    × Proceed format limits (state_after s (turn_of p)) (log ++ steps_in p.items) (deleted_behind deleted p.items) ps

-- parts that were read may follow
pub readable_parts : (format : Format) (limits : Limits) (parts : List Part) (s : StateValue) (log : List Entry) (deleted : List ℕ) → Proceed format limits s log deleted parts → AllByRecursion IsLine (flat_map part_lines parts) → AreParts format limits s log deleted parts
readable_parts format limits [] s log deleted h r = tt
readable_parts format limits (p ∷ ps) s log deleted h r = (
  record { answer = h.0; proof = h.1; readable = each_front IsLine (part_lines p) (flat_map part_lines ps) r },
  readable_parts format limits ps (state_after s (turn_of p)) (log ++ steps_in p.items) (deleted_behind deleted p.items) h.2 (each_behind IsLine (part_lines p) (flat_map part_lines ps) r),
)

-- lines, of which none is missing, that can be read
pub readable_lines : (lines : List Line) (all : List (Option Line)) → all ≡ map Some lines → AreReadable all → AllByRecursion IsLine lines
readable_lines lines all e r = each lines (subst AreReadable e r)
  where
    each : (lines : List Line) → AreReadable (map Some lines) → AllByRecursion IsLine lines
    each [] r = tt
    each (l ∷ ls) r = (r.0, each ls r.1)

-- parts of the first chunks that may follow, and their lines; chunks are left behind one that ends the run alone
pub record Ends (format : Format) (limits : Limits) (s : StateValue) (log : List Entry) (deleted : List ℕ) (chunks : List Chunk) (ls : List (Option Line)) : Type 0 where
  pub parts : List Part
  pub first : List Chunk
  pub behind : List Chunk
  pub cut : chunks ≡ first ++ behind
  pub read : AreRead first (map turn_of parts)
  pub last : EndLast (map turn_of parts)
  pub all : (behind ≡ []) ⊎ (has_ended (map turn_of parts) ≡ true)
  pub run : Proceed format limits s log deleted parts
  pub lines : ls ≡ map Some (flat_map part_lines parts)

-- items and a record, and then parts
pub record EndsSteps (format : Format) (limits : Limits) (s : StateValue) (log : List Entry) (deleted : List ℕ) (chunks : List Chunk) (ls : List (Option Line)) : Type 0 where
  pub items : List Item
  pub shown : Record
  pub valid : AreStepsOf s log (steps_in items)
  pub kept : AreKept format deleted log items
  pub ends : IsShownWithout (deleted_behind deleted items) limits (with_steps s (steps_in items)) (with_steps s (steps_in items)).terms.nodes (log ++ steps_in items) shown
  pub rest : List (Option Line)
  pub further : Ends format limits (concluded (with_steps s (steps_in items)) (verdict_of shown)) (log ++ steps_in items) (deleted_behind deleted items) chunks rest
  pub lines : ls ≡ lines_before rest (flat_map item_lines items ++ record_lines shown)

-- the values of these names, and then parts
pub record EndsValues (format : Format) (limits : Limits) (s : StateValue) (log : List Entry) (deleted : List ℕ) (left : List LiveName) (values : List (ℕ × Value)) (chunks : List Chunk) (ls : List (Option Line)) : Type 0 where
  pub more : List (ℕ × Value)
  pub names : map (λ (p : ℕ × Value). p.0) more ≡ map (λ (l : LiveName). l.declaration) left
  pub sorted : All (λ (p : ℕ × Value). IsOfSignature p.1 (slice_get s.symbols.signatures p.0)) more
  pub written : AllByRecursion (λ (p : ℕ × Value). IsSome (written_value p.1)) more
  pub model : IsModel s (interpretation_of (values ++ more))
  pub rest : List (Option Line)
  pub further : Ends format limits (concluded s (verdict_of (shown.Sat values))) log deleted chunks rest
  pub lines : ls ≡ lines_before rest (flat_map value_lines more)

-- the lines of a diary behind these, and then parts
pub record EndsLines (format : Format) (limits : Limits) (s : StateValue) (log : List Entry) (deleted : List ℕ) (cube start left : ℕ) (before : List DiaryLine) (chunks : List Chunk) (ls : List (Option Line)) : Type 0 where
  pub more : List DiaryLine
  pub count : length more ≡ suc left
  pub spent : IsSpentWithout deleted (subject_of limits s s.terms.nodes log cube start) limits.budget (before ++ more)
  pub rest : List (Option Line)
  pub further : Ends format limits (concluded s verdict.Unknown) log deleted chunks rest
  pub lines : ls ≡ lines_before rest (map diary_line more)

abbrev pub Completes : Owed → Judging → List Chunk → List (Option Line) → Type 0
Completes Nothing j chunks ls = Ends j.format j.limits j.state j.log j.deleted chunks ls
Completes Steps j chunks ls = EndsSteps j.format j.limits j.state j.log j.deleted chunks ls
Completes (Values next left values) j chunks ls = EndsValues j.format j.limits j.state j.log j.deleted (next ∷ left) values chunks ls
Completes (Noted cube start left lines) j chunks ls = EndsLines j.format j.limits j.state j.log j.deleted cube start left lines chunks ls
Completes (Over r) j chunks ls = ⊥

-- what the rest of a proof gives, wherever its judging stands
abbrev pub Completed : (Good : StateValue → Type 0) → List (Option Line) → Type 0
Completed Good ls = (o : Owed) (j : Judging) (cs : List Reading) (chunks : List Chunk) → j.owed ≡ o → ReadEach chunks cs → Good j.state → Judged j cs ls None → Completes o j chunks ls

abbrev pub HeldCompleted : (Good : StateValue → Type 0) → List (Option Line) → Type 0
HeldCompleted Good ls = (o : Owed) (j : Judging) (cs : List Reading) (chunks : List Chunk) → j.owed ≡ o → is_idle o ≡ false → ReadEach chunks cs → Good j.state → Judged j cs ls None → Completes o j chunks ls

-- ---- commands

more_ended : (t : Turn) (turns : List Turn) (behind : List Chunk) → (behind ≡ []) ⊎ (has_ended turns ≡ true) → (behind ≡ []) ⊎ (has_ended (t ∷ turns) ≡ true)
more_ended t turns behind (inl n) = inl n
more_ended t turns behind (inr e) = inr (ap (λ b. ends t.says || b) e ∙ or-true (ends t.says))

-- a turn that does not end the run, and those behind it
module _ (t : Turn) (go_on : ends t.says ≡ false) (turns : List Turn) where
  last_behind : EndLast turns → EndLast (t ∷ turns)
  last_behind l = (λ e. absurd (false≢true (sym go_on ∙ e)), l)

passed_turn : (format : Format) (limits : Limits) (s : StateValue) (log : List Entry) (deleted : List ℕ) (says : Reading) (c : Chunk) (chunks : List Chunk) (ls : List (Option Line)) (a : Answer) → a ≡ (step s says).0 → ends says ≡ false
    → HasPart format limits a (step s says).1 log deleted [] None → ReadsAs c says → Ends format limits (settled s a (step s says).1) log deleted chunks ls → Ends format limits s log deleted (c ∷ chunks) ls
passed_turn format limits s log deleted says c chunks ls a e go_on q r h =
    let p : Part = record { line = c.line; says = says; answer = a; items = []; shown = None } in
    record {
      parts = p ∷ h.parts;
      first = c ∷ h.first;
      behind = h.behind;
      cut = ap (λ x. c ∷ x) h.cut;
      read = (refl, r, h.read);
      last = last_behind (turn_of p) go_on (map turn_of h.parts) h.last;
      all = more_ended (turn_of p) (map turn_of h.parts) h.behind h.all;
      run = (e, q, subst (λ l. Proceed format limits (settled s a (step s says).1) l deleted h.parts) (sym (append-nil log)) h.run);
      lines = h.lines;
    }

checked_turn : (Good : StateValue → Type 0) → Keeping Good → (format : Format) (limits : Limits) (s : StateValue) (log : List Entry) (deleted : List ℕ) (says : Reading) (c : Chunk) (chunks : List Chunk) (ls : List (Option Line)) → answer.Check ≡ (step s says).0 → ends says ≡ false → Good (step s says).1
    → ReadsAs c says → EndsSteps format limits (step s says).1 log deleted chunks ls → Ends format limits s log deleted (c ∷ chunks) ls
checked_turn Good keeps format limits s log deleted says c chunks ls e go_on g r h =
    let p : Part = record { line = c.line; says = says; answer = answer.Check; items = h.items; shown = Some h.shown } in
    let own = flat_map item_lines h.items ++ record_lines h.shown in
    record {
      parts = p ∷ h.further.parts;
      first = c ∷ h.further.first;
      behind = h.further.behind;
      cut = ap (λ x. c ∷ x) h.further.cut;
      read = (refl, r, h.further.read);
      last = last_behind (turn_of p) go_on (map turn_of h.further.parts) h.further.last;
      all = more_ended (turn_of p) (map turn_of h.further.parts) h.further.behind h.further.all;
      run = (e, (h.valid, h.kept, without_back Good keeps (deleted_behind deleted h.items) limits (step s says).1 log (steps_in h.items) _ _ h.shown g h.valid h.ends), h.further.run);
      lines = h.lines ∙ ap (λ x. map Some own ++ x) h.further.lines ∙ sym (map-append Some own (flat_map part_lines h.further.parts));
    }

-- the command, where it is answered so
abbrev answered : Judging → Answer → Reading → Judging
answered j a says = record { format = j.format; limits = j.limits; state = settled j.state a (step j.state says).1; log = j.log; deleted = j.deleted; owed = owed_by a; line = j.line }

by_answer : (Good : StateValue → Type 0) → Keeping Good → (a : Answer) (j : Judging) (says : Reading) (c : Chunk) (chunks : List Chunk) (ls : List (Option Line)) → a ≡ (step j.state says).0 → ends says ≡ false → Good (step j.state says).1 → ReadsAs c says → Completes (owed_by a) (answered j a says) chunks ls → Ends j.format j.limits j.state j.log j.deleted (c ∷ chunks) ls
by_answer Good keeps answer.Done j says c chunks ls e f g r h = passed_turn j.format j.limits j.state j.log j.deleted says c chunks ls answer.Done e f (refl, refl) r h
by_answer Good keeps (answer.Refused x) j says c chunks ls e f g r h = passed_turn j.format j.limits j.state j.log j.deleted says c chunks ls (answer.Refused x) e f (refl, refl) r h
by_answer Good keeps (answer.Says x) j says c chunks ls e f g r h = passed_turn j.format j.limits j.state j.log j.deleted says c chunks ls (answer.Says x) e f (refl, refl) r h
by_answer Good keeps answer.Model j says c chunks ls e f g r h = passed_turn j.format j.limits j.state j.log j.deleted says c chunks ls answer.Model e f (refl, refl) r h
by_answer Good keeps (answer.Values x) j says c chunks ls e f g r h = passed_turn j.format j.limits j.state j.log j.deleted says c chunks ls (answer.Values x) e f (refl, refl) r h
by_answer Good keeps answer.Core j says c chunks ls e f g r h = passed_turn j.format j.limits j.state j.log j.deleted says c chunks ls answer.Core e f (refl, refl) r h
by_answer Good keeps answer.Assumptions j says c chunks ls e f g r h = passed_turn j.format j.limits j.state j.log j.deleted says c chunks ls answer.Assumptions e f (refl, refl) r h
by_answer Good keeps answer.Exit j says c chunks ls e f g r h = passed_turn j.format j.limits j.state j.log j.deleted says c chunks ls answer.Exit e f (refl, refl) r h
by_answer Good keeps answer.Check j says c chunks ls e f g r h = checked_turn Good keeps j.format j.limits j.state j.log j.deleted says c chunks ls e f g r h

-- the command that ends the run, behind which there are no lines
last_turn : (j : Judging) (says : Reading) (c : Chunk) (chunks : List Chunk) (ls : List (Option Line)) → ends says ≡ true → ReadsAs c says → ls ≡ [] → Ends j.format j.limits j.state j.log j.deleted (c ∷ chunks) ls
last_turn j says c chunks ls e r none = record {
  parts = record { line = c.line; says = says; answer = answer.Exit; items = []; shown = None } ∷ [];
  first = c ∷ [];
  behind = chunks;
  cut = refl;
  read = (refl, r, tt);
  last = (λ _. refl, tt);
  all = inr (ap (λ b. b || false) e);
  run = (sym ((ends_by_exit j.state says).1 e), (refl, refl), tt);
  lines = none;
}

-- nothing follows where no command does and no record is owed
abbrev pub NothingMore : (StateValue → Type 0) → List (Option Line) → Type 0
NothingMore Good ls = (j : Judging) → Good j.state → j.owed ≡ Nothing → Judged j [] ls None → ls ≡ []

none_lines : {ls : List (Option Line)} → ls ≡ [] → ls ≡ map Some (flat_map part_lines [])
none_lines e = e

pub idle_completed : (Good : StateValue → Type 0) → Keeping Good → (ls : List (Option Line)) → NothingMore Good ls → HeldCompleted Good ls → (cs : List Reading) (chunks : List Chunk) (j : Judging) → j.owed ≡ Nothing → ReadEach chunks cs → Good j.state → Judged j cs ls None → Ends j.format j.limits j.state j.log j.deleted chunks ls
idle_completed Good keeps ls none held [] [] j e r g h = record { parts = []; first = []; behind = []; cut = refl; read = tt; last = tt; all = inl refl; run = tt; lines = none_lines (none j g e h) }
idle_completed Good keeps ls none held [] (c ∷ chunks) j e r g h = absurd r
idle_completed Good keeps ls none held (s ∷ cs) [] j e r g h = absurd r
idle_completed Good keeps ls none held (s ∷ cs) (c ∷ chunks) j e r g h = by_end (λ p d. idle_completed Good keeps ls none held cs chunks (commanded j s) p r.1 good d) (ends s) refl
  where
    k : Judging
    k = commanded j s

    waits : is_idle j.owed ≡ true
    waits = ap is_idle e

    stepped_good : Good (step j.state s).1
    stepped_good = keeps.commands j.state s g

    good : Good k.state
    good = settled_by Good j.state (step j.state s).1 (step j.state s).0 (λ asked e. g) stepped_good

    on : ends s ≡ false → Judged k cs ls None
    on f = judged_from k cs ls None (subst (λ x. From x ls None) (reach_past j s cs waits f) (from_judged j (s ∷ cs) ls None h))

    go : (owed_by (step j.state s).0 ≡ Nothing → Judged k cs ls None → Ends k.format k.limits k.state k.log k.deleted chunks ls) → Judged k cs ls None → (o : Owed) → owed_by (step j.state s).0 ≡ o → Completes o k chunks ls
    go further d Nothing p = further p d
    go further d Steps p = held Steps k cs chunks p refl r.1 good d
    go further d (Values next left values) p = held (Values next left values) k cs chunks p refl r.1 good d
    go further d (Noted cube start left lines) p = held (Noted cube start left lines) k cs chunks p refl r.1 good d
    go further d (Over x) p = held (Over x) k cs chunks p refl r.1 good d

    by_end : (owed_by (step j.state s).0 ≡ Nothing → Judged k cs ls None → Ends k.format k.limits k.state k.log k.deleted chunks ls) → (b : Bool) → ends s ≡ b → Ends j.format j.limits j.state j.log j.deleted (c ∷ chunks) ls
    by_end further true f =
        let over : Judged k [] ls None = judged_from k [] ls None (subst (λ x. From x ls None) (reach_last j s cs waits f) (from_judged j (s ∷ cs) ls None h)) in
        last_turn j s c chunks ls f r.0 (none k good (ap owed_by ((ends_by_exit j.state s).1 f)) over)
    by_end further false f = by_answer Good keeps (step j.state s).0 j s c chunks ls refl f stepped_good r.0 (go further (on f) (owed_by (step j.state s).0) refl)

pub any_completed : (Good : StateValue → Type 0) → Keeping Good → (ls : List (Option Line)) → HeldCompleted Good ls → ((j : Judging) (cs : List Reading) (chunks : List Chunk) → j.owed ≡ Nothing → ReadEach chunks cs → Good j.state → Judged j cs ls None → Ends j.format j.limits j.state j.log j.deleted chunks ls) → Completed Good ls
any_completed Good keeps ls held idle Nothing j cs chunks e r g h = idle j cs chunks e r g h
any_completed Good keeps ls held idle Steps j cs chunks e r g h = held Steps j cs chunks e refl r g h
any_completed Good keeps ls held idle (Values next left values) j cs chunks e r g h = held (Values next left values) j cs chunks e refl r g h
any_completed Good keeps ls held idle (Noted cube start left lines) j cs chunks e r g h = held (Noted cube start left lines) j cs chunks e refl r g h
any_completed Good keeps ls held idle (Over x) j cs chunks e r g h = held (Over x) j cs chunks e refl r g h
