-- What is judged of one judging is judged of another that is likened to it.
use Rattle.std.proofs.Common.{◌≡◌, ℕ, zero, suc, Bool, true, false, List, [], ◌∷◌, ◌++◌, length, Option, Some, None, refl, sym, ap, ◌∙◌, subst, inl, inr}
use Rattle.std.specs.Prelude.{◌⊎◌, ◌||◌, ◌==◌, if◌then◌else◌, option_to_list}
use Rattle.std.specs.List.{AllByRecursion, list_any}
use Rattle.std.proofs.Math.Bool.{or-true}
use Rattle.std.proofs.lemmas.List.Folds.{list_any-append}
use Rattle.cnf_base.specs.Literals.{Literal}
use Rattle.cnf_base.proofs.Lists.{each_append}
use Rattle.smt_values.specs.declared.value.Value.{Value}
use Rattle.smt_build.specs.declared.symbols.LiveName.{LiveName}
use Rattle.script_state.specs.declared.answer.Answer.{Answer}
use Rattle.script_state.specs.declared.answer.Answer.TheVariants as answer
use Rattle.script_state.specs.declared.answer.Verdict.{Verdict}
use Rattle.script_state.specs.Steps.{step, ends}
use Rattle.proof_log.specs.declared.entry.Entry.{Entry}
use Rattle.proof_log.specs.declared.diary.DiaryLine.{DiaryLine}
use Rattle.proof_log.specs.declared.diary.DiaryLine.TheVariants as diary
use Rattle.proof_log.specs.Diaries as diaries
use Rattle.proof_log.specs.Diaries.{Subject, lines_after}
use Rattle.proof_text.specs.declared.line.Format.{Format}
use Rattle.proof_text.specs.declared.line.Format.TheVariants.{One, Two}
use Rattle.proof_text.specs.declared.line.Line.{Line}
use Rattle.proof_text.specs.declared.line.Line.TheVariants as line
use Rattle.proof_text.specs.declared.record.Record.{Record}
use Rattle.proof_text.specs.declared.record.Record.TheVariants as shown
use Rattle.proof_text.specs.Deletions.{AreDeletable, IsSpentWithout, blank_without, is_deleted, place_of}
use Rattle.accepted_proof.specs.declared.refusal.RuleName.{RuleName}
use Rattle.accepted_proof.specs.declared.refusal.RuleName.TheVariants as rule
use Rattle.accepted_proof.specs.declared.refusal.Refusal.{Refusal}
use Rattle.accepted_proof.specs.Models.{interpretation_of, IsModel}
use Rattle.accepted_proof.specs.Turns.{IsRefutation}
use Rattle.accepted_proof.specs.Searching.{IsSearch, given_literals}
use Rattle.accepted_proof.specs.Judged as judged
use Rattle.accepted_proof.specs.Judged.{Owed, Judging, refused, stepped, deleting, valued, noted, closed, owed_by, commanded, Decides, rule_of, IsStepOf, StepsBy, Deletes, Goes, Opens, AtStep, IsValueOf, AtValue, subject_at, MayStand, Notes, AtDiary, MovesBy, Moves, is_idle, reach, ending}
use Rattle.accepted_proof.proofs.Following.{reach_here, reach_past, reach_last}
use Rattle.proof_checker.specs.Checkers.{Says, AreLeft}
use Rattle.proof_checker.specs.Checked.{shown_at, Tells}
use Rattle.proof_checker.specs.Deletions.{AreAlike, IsLikened, NamesNoDeleted}
use Rattle.proof_checker.proofs.Alike.{alike_back, alike_more, alike_wider, deletable_alike, refutation_alike, given_alike, search_alike, valid_alike}
use Rattle.proof_checker.proofs.Noted.{spent_alike, stands_alike}

-- the same over another log
abbrev over : Judging → List Entry → Judging
over j log = record { format = j.format; limits = j.limits; state = j.state; log = log; deleted = j.deleted; owed = j.owed; line = j.line }

pub likened_over : (j k : Judging) → IsLikened j k → k ≡ over j k.log
likened_over j k l = λ i. record { format = l.format i; limits = l.limits i; state = l.state i; log = k.log; deleted = l.deleted i; owed = l.owed i; line = l.line i }

pub likened_back : (j k : Judging) → IsLikened j k → IsLikened k j
likened_back j k l = record {
  format = sym l.format;
  limits = sym l.limits;
  state = sym l.state;
  log = subst (λ ds. AreAlike (is_deleted ds) 1 k.log j.log) (sym l.deleted) (alike_back (is_deleted j.deleted) 1 j.log k.log l.log);
  deleted = sym l.deleted;
  owed = sym l.owed;
  line = sym l.line;
  left = subst (λ o. NamesNoDeleted k.deleted o) (sym l.owed) (subst (λ ds. NamesNoDeleted ds j.owed) (sym l.deleted) l.left);
}

-- it goes there, and from what is likened to a place that is likened
pub record GoesAlike (To : Judging → Type 0) (k : Judging) : Type 0 where
  pub to : Judging
  pub goes : To to
  pub like : IsLikened k to

goes_there : (To : Judging → Type 0) (k one other : Judging) → k ≡ one → To other → IsLikened one other → GoesAlike To k
goes_there To k one other e t l = record { to = other; goes = t; like = subst (λ x. IsLikened x other) (sym e) l }

decides_alike : (P Q : Type 0) (one other one' other' k : Judging) → (P → Q) → (Q → P) → IsLikened one one' → IsLikened other other' → Decides P one other k → GoesAlike (Decides Q one' other') k
decides_alike P Q one other one' other' k f g l m (inl h) = goes_there (Decides Q one' other') k one one' h.1 (inl (f h.0, refl)) l
decides_alike P Q one other one' other' k f g l m (inr h) = goes_there (Decides Q one' other') k other other' h.1 (inr ((λ q. h.0 (g q)), refl)) m

or_left : (a b : Bool) → a ≡ true → (a || b) ≡ true
or_left a b h = ap (λ x. x || b) h

module _ (j : Judging) (log : List Entry) (alike : AreAlike (is_deleted j.deleted) 1 j.log log) where
  abbrev like : Judging
  like = over j log

  gone : ℕ → Bool
  gone = is_deleted j.deleted

  back : AreAlike (is_deleted j.deleted) 1 log j.log
  back = alike_back (is_deleted j.deleted) 1 j.log log alike

  refused_like : (r : RuleName) → IsLikened (refused j r) (refused like r)
  refused_like r = record { format = refl; limits = refl; state = refl; log = alike; deleted = refl; owed = refl; line = refl; left = tt }

  refuses : (To : Judging → Type 0) (k : Judging) (r : RuleName) → k ≡ refused j r → To (refused like r) → GoesAlike To k
  refuses To k r e t = goes_there To k (refused j r) (refused like r) e t (refused_like r)

  -- ---- steps

  step_of : (l : Line) (e : Entry) → IsStepOf j.state j.log j.deleted l e → IsStepOf j.state log j.deleted l e
  step_of l e h = record { written = h.written; script = h.script; valid = valid_alike j.state.terms.nodes (is_deleted j.deleted) j.log log alike j.state.terms refl j.deleted refl e h.left h.valid; left = h.left }

  step_from : (l : Line) (e : Entry) → IsStepOf j.state log j.deleted l e → IsStepOf j.state j.log j.deleted l e
  step_from l e h = record { written = h.written; script = h.script; valid = valid_alike j.state.terms.nodes (is_deleted j.deleted) log j.log back j.state.terms refl j.deleted refl e h.left h.valid; left = h.left }

  steps_alike : (l : Line) (k : Judging) → StepsBy j l k → GoesAlike (StepsBy like l) k
  steps_alike l k (inl h) =
      goes_there (StepsBy like l) k (stepped j h.0) (stepped like h.0) h.2 (inl (h.0, step_of l h.0 h.1, refl))
      (record { format = refl; limits = refl; state = refl; log = alike_more (is_deleted j.deleted) 1 j.log log h.0 alike; deleted = refl; owed = refl; line = refl; left = tt })
  steps_alike l k (inr h) = refuses (StepsBy like l) k (rule_of l) h.1 (inr ((λ e is. h.0 e (step_from l e is)), refl))

  -- ---- deletions

  more_gone : (places : List ℕ) (q : ℕ) → is_deleted j.deleted q ≡ true → is_deleted (j.deleted ++ places) q ≡ true
  more_gone places q h = list_any-append (λ x. x == q) j.deleted places ∙ or_left (is_deleted j.deleted q) (is_deleted places q) h

  deletes_alike : (f : Format) (places : List ℕ) (k : Judging) → Deletes f j places k → GoesAlike (Deletes f like places) k
  deletes_alike One places k h = refuses (Deletes One like places) k rule.Line h refl
  deletes_alike Two places k h =
      decides_alike (AreDeletable j.log j.deleted places) (AreDeletable log j.deleted places) (deleting j places) (refused j rule.Delete) (deleting like places) (refused like rule.Delete) k
      (deletable_alike j.state.terms.nodes (is_deleted j.deleted) j.log log alike j.deleted places)
      (deletable_alike j.state.terms.nodes (is_deleted j.deleted) log j.log back j.deleted places)
      (record { format = refl; limits = refl; state = refl; log = alike_wider (is_deleted j.deleted) (is_deleted (j.deleted ++ places)) (more_gone places) 1 j.log log alike; deleted = refl; owed = refl; line = refl; left = tt })
      (refused_like rule.Delete) h

  -- ---- records

  closed_like : (r : Record) → IsLikened (closed j r) (closed like r)
  closed_like r = record { format = refl; limits = refl; state = refl; log = alike; deleted = refl; owed = refl; line = refl; left = tt }

  goes_alike : (left : List LiveName) (values : List (ℕ × Value)) (k : Judging) → Goes j left values k → GoesAlike (Goes like left values) k
  goes_alike [] values k h =
      decides_alike (IsModel j.state (interpretation_of values)) (IsModel j.state (interpretation_of values)) (closed j (shown.Sat values)) (refused j rule.Sat) (closed like (shown.Sat values)) (refused like rule.Sat) k
      (λ m. m) (λ m. m) (closed_like (shown.Sat values)) (refused_like rule.Sat) h
  goes_alike (next ∷ left) values k h =
      goes_there (Goes like (next ∷ left) values) k (valued j next left values) (valued like next left values) h refl
      (record { format = refl; limits = refl; state = refl; log = alike; deleted = refl; owed = refl; line = refl; left = tt })

  abbrev Refutes : List Entry → ℕ → Type 0
  Refutes l p = (is_deleted j.deleted p ≡ false) × IsRefutation j.state j.state.terms.nodes l p

  refutes_alike : (p : ℕ) (k : Judging) → Decides (Refutes j.log p) (closed j (shown.Unsat p)) (refused j rule.Unsat) k → GoesAlike (Decides (Refutes log p) (closed like (shown.Unsat p)) (refused like rule.Unsat)) k
  refutes_alike p k h =
      decides_alike (Refutes j.log p) (Refutes log p) (closed j (shown.Unsat p)) (refused j rule.Unsat) (closed like (shown.Unsat p)) (refused like rule.Unsat) k
      (λ r. (r.0, refutation_alike j.state.terms.nodes (is_deleted j.deleted) j.log log alike j.state refl p r.0 r.1))
      (λ r. (r.0, refutation_alike j.state.terms.nodes (is_deleted j.deleted) log j.log back j.state refl p r.0 r.1))
      (closed_like (shown.Unsat p)) (refused_like rule.Unsat) h

  -- ---- diaries

  noted_like : (cube start left : ℕ) (lines : List DiaryLine) → AreLeft j.deleted lines → IsLikened (noted j cube start left lines) (noted like cube start left lines)
  noted_like cube start left lines free = record { format = refl; limits = refl; state = refl; log = alike; deleted = refl; owed = refl; line = refl; left = free }

  opens_alike : (cube start count : ℕ) (k : Judging) → Opens j cube start count k → GoesAlike (Opens like cube start count) k
  opens_alike cube start zero k h = refuses (Opens like cube start zero) k rule.Diary h refl
  opens_alike cube start (suc left) k h =
      decides_alike (IsSearch j.limits j.state j.state.terms.nodes j.log cube start) (IsSearch j.limits j.state j.state.terms.nodes log cube start) (noted j cube start left []) (refused j rule.Diary) (noted like cube start left []) (refused like rule.Diary) k
      (search_alike j.state.terms.nodes (is_deleted j.deleted) j.log log alike j.limits j.state cube start)
      (search_alike j.state.terms.nodes (is_deleted j.deleted) log j.log back j.limits j.state cube start)
      (noted_like cube start left [] tt) (refused_like rule.Diary) h

  same_given : (cube : ℕ) → given_literals j.limits j.state j.state.terms.nodes log cube ≡ given_literals j.limits j.state j.state.terms.nodes j.log cube
  same_given cube = given_alike j.state.terms.nodes (is_deleted j.deleted) j.log log alike j.limits j.state cube

  abbrev about : List Entry → List Literal → ℕ → Subject
  about l given start = record { nodes = j.state.terms.nodes; log = l; given = given; from = start }

  subject_like : (cube start : ℕ) → subject_at like cube start ≡ about log (given_literals j.limits j.state j.state.terms.nodes j.log cube) start
  subject_like cube start = ap (λ given. about log given start) (same_given cube)

  spent_like : (cube start budget : ℕ) (ls : List DiaryLine) → IsSpentWithout j.deleted (subject_at j cube start) budget ls → IsSpentWithout j.deleted (subject_at like cube start) budget ls
  spent_like cube start budget ls h =
      subst (λ (g : Subject). IsSpentWithout j.deleted g budget ls) (sym (subject_like cube start))
      (spent_alike j.state.terms.nodes (is_deleted j.deleted) j.log log alike (given_literals j.limits j.state j.state.terms.nodes j.log cube) start j.deleted refl budget ls h)

  spent_from : (cube start budget : ℕ) (ls : List DiaryLine) → IsSpentWithout j.deleted (subject_at like cube start) budget ls → IsSpentWithout j.deleted (subject_at j cube start) budget ls
  spent_from cube start budget ls h =
      spent_alike j.state.terms.nodes (is_deleted j.deleted) log j.log back (given_literals j.limits j.state j.state.terms.nodes j.log cube) start j.deleted refl budget ls
      (subst (λ (g : Subject). IsSpentWithout j.deleted g budget ls) (subject_like cube start) h)

  abbrev StandsOver : Subject → List DiaryLine → DiaryLine → Type 0
  StandsOver g lines l = diaries.IsLine g (lines_after g (blank_without (is_deleted j.deleted) g) lines) l

  stand_like : (cube start : ℕ) (lines : List DiaryLine) (l : DiaryLine) → AreLeft j.deleted lines → MayStand j cube start lines l → MayStand like cube start lines l
  stand_like cube start lines l left h =
      let given = given_literals j.limits j.state j.state.terms.nodes j.log cube in
      (h.0, subst (λ (g : Subject). StandsOver g lines l) (sym (subject_like cube start)) (stands_alike j.state.terms.nodes (is_deleted j.deleted) j.log log alike given start lines l left h.0 h.1))

  stand_from : (cube start : ℕ) (lines : List DiaryLine) (l : DiaryLine) → AreLeft j.deleted lines → MayStand like cube start lines l → MayStand j cube start lines l
  stand_from cube start lines l left h =
      let given = given_literals j.limits j.state j.state.terms.nodes j.log cube in
      (h.0, stands_alike j.state.terms.nodes (is_deleted j.deleted) log j.log back given start lines l left h.0 (subst (λ (g : Subject). StandsOver g lines l) (subject_like cube start) h.1))

  notes_alike : (cube start left : ℕ) (lines : List DiaryLine) (l : DiaryLine) (k : Judging) → AreLeft j.deleted lines → Notes j cube start left lines l k → GoesAlike (Notes like cube start left lines l) k
  notes_alike cube start zero lines l k left h =
      decides_alike (IsSpentWithout j.deleted (subject_at j cube start) j.limits.budget (lines ++ l ∷ [])) (IsSpentWithout j.deleted (subject_at like cube start) j.limits.budget (lines ++ l ∷ []))
      (closed j (shown.Unknown (record { cube = cube; start = start; lines = lines ++ l ∷ [] }))) (refused j rule.Diary) (closed like (shown.Unknown (record { cube = cube; start = start; lines = lines ++ l ∷ [] }))) (refused like rule.Diary) k
      (spent_like cube start j.limits.budget (lines ++ l ∷ [])) (spent_from cube start j.limits.budget (lines ++ l ∷ []))
      (closed_like (shown.Unknown (record { cube = cube; start = start; lines = lines ++ l ∷ [] }))) (refused_like rule.Diary) h
  notes_alike cube start (suc more) lines l k left (inl h) =
      goes_there (Notes like cube start (suc more) lines l) k (noted j cube start more (lines ++ l ∷ [])) (noted like cube start more (lines ++ l ∷ [])) h.1
      (inl (stand_like cube start lines l left h.0, refl))
      (noted_like cube start more (lines ++ l ∷ []) (each_append (λ x. is_deleted j.deleted (place_of x) ≡ false) lines (l ∷ []) left (h.0.0, tt)))
  notes_alike cube start (suc more) lines l k left (inr h) = refuses (Notes like cube start (suc more) lines l) k rule.Diary h.1 (inr ((λ m. h.0 (stand_from cube start lines l left m)), refl))

  -- ---- lines

  step_lines : (l : Line) (k : Judging) → AtStep j l k → GoesAlike (AtStep like l) k
  step_lines (line.Header format cubes budget) k h = refuses (AtStep like (line.Header format cubes budget)) k rule.Line h refl
  step_lines (line.Term head args) k h = steps_alike (line.Term head args) k h
  step_lines (line.Leaf t) k h = steps_alike (line.Leaf t) k h
  step_lines (line.Encode t) k h = steps_alike (line.Encode t) k h
  step_lines (line.Rewrite r t u) k h = steps_alike (line.Rewrite r t u) k h
  step_lines (line.Selector a) k h = steps_alike (line.Selector a) k h
  step_lines (line.Chain clause hints) k h = steps_alike (line.Chain clause hints) k h
  step_lines (line.Equal t u) k h = steps_alike (line.Equal t u) k h
  step_lines (line.Congruence t u) k h = steps_alike (line.Congruence t u) k h
  step_lines (line.Witness t) k h = steps_alike (line.Witness t) k h
  step_lines (line.Accesses a b) k h = steps_alike (line.Accesses a b) k h
  step_lines (line.Delete places) k h = deletes_alike j.format places k h
  step_lines (line.Sat count) k (inl h) = let g = goes_alike j.state.symbols.live [] k h.1 in record { to = g.to; goes = inl (h.0, g.goes); like = g.like }
  step_lines (line.Sat count) k (inr h) = refuses (AtStep like (line.Sat count)) k rule.Sat h.1 (inr (h.0, refl))
  step_lines (line.Value d w) k h = refuses (AtStep like (line.Value d w)) k rule.Line h refl
  step_lines (line.Unsat p) k h = refutes_alike p k h
  step_lines (line.Unknown cube start count) k h = opens_alike cube start count k h
  step_lines (line.Take p) k h = refuses (AtStep like (line.Take p)) k rule.Line h refl
  step_lines (line.Put p) k h = refuses (AtStep like (line.Put p)) k rule.Line h refl
  step_lines (line.Drop p) k h = refuses (AtStep like (line.Drop p)) k rule.Line h refl

  value_lines : (next : LiveName) (left : List LiveName) (values : List (ℕ × Value)) (l : Line) (k : Judging) → AtValue j next left values l k → GoesAlike (AtValue like next left values l) k
  value_lines next left values (line.Value d w) k (inl h) = let g = goes_alike left (values ++ (d, h.0) ∷ []) k h.2 in record { to = g.to; goes = inl (h.0, h.1, g.goes); like = g.like }
  value_lines next left values (line.Value d w) k (inr h) = refuses (AtValue like next left values (line.Value d w)) k rule.Sat h.1 (inr (h.0, refl))
  value_lines next left values l k h = refuses (AtValue like next left values l) k rule.Line h refl

  diary_lines : (cube start left : ℕ) (lines : List DiaryLine) (l : Line) (k : Judging) → AreLeft j.deleted lines → AtDiary j cube start left lines l k → GoesAlike (AtDiary like cube start left lines l) k
  diary_lines cube start left lines (line.Take p) k free h = notes_alike cube start left lines (diary.Take p) k free h
  diary_lines cube start left lines (line.Put p) k free h = notes_alike cube start left lines (diary.Put p) k free h
  diary_lines cube start left lines (line.Drop p) k free h = notes_alike cube start left lines (diary.Drop p) k free h
  diary_lines cube start left lines l k free h = refuses (AtDiary like cube start left lines l) k rule.Line h refl

  owed_lines : (o : Owed) (l : Option Line) (k : Judging) → o ≡ j.owed → NamesNoDeleted j.deleted o → MovesBy o j l k → GoesAlike (MovesBy o like l) k
  owed_lines judged.Nothing l k e free h = refuses (MovesBy judged.Nothing like l) k rule.End h refl
  owed_lines judged.Steps None k e free h = refuses (MovesBy judged.Steps like None) k rule.Line h refl
  owed_lines judged.Steps (Some l) k e free h = step_lines l k h
  owed_lines (judged.Values next left values) None k e free h = refuses (MovesBy (judged.Values next left values) like None) k rule.Line h refl
  owed_lines (judged.Values next left values) (Some l) k e free h = value_lines next left values l k h
  owed_lines (judged.Noted cube start left lines) None k e free h = refuses (MovesBy (judged.Noted cube start left lines) like None) k rule.Line h refl
  owed_lines (judged.Noted cube start left lines) (Some l) k e free h = diary_lines cube start left lines l k free h
  owed_lines (judged.Over r) l k e free h =
      goes_there (MovesBy (judged.Over r) like l) k j like h refl
      (record { format = refl; limits = refl; state = refl; log = alike; deleted = refl; owed = refl; line = refl; left = subst (λ o. NamesNoDeleted j.deleted o) e free })

-- it moves to what is likened
pub moves_alike : (j k : Judging) (l : Option Line) (to : Judging) → IsLikened j k → Moves j l to → GoesAlike (Moves k l) to
moves_alike j k l to like h = subst (λ x. GoesAlike (Moves x l) to) (sym (likened_over j k like)) (owed_lines j k.log like.log j.owed l to refl like.left h)

-- ---- commands

no_lines : (deleted : List ℕ) (a : Answer) → NamesNoDeleted deleted (owed_by a)
no_lines deleted answer.Check = tt
no_lines deleted a = tt

commanded_like : (j k : Judging) (c : Says) → IsLikened j k → IsLikened (commanded j c) (commanded k c)
commanded_like j k c l =
    subst (λ x. IsLikened (commanded j c) (commanded x c)) (sym (likened_over j k l))
    (record { format = refl; limits = refl; state = refl; log = l.log; deleted = refl; owed = refl; line = refl; left = no_lines j.deleted (step j.state c).0 })

record ReachesAlike (r s : Judging × List Says) : Type 0 where
  pub like : IsLikened r.0 s.0
  pub rest : s.1 ≡ r.1

reach_alike : (cs : List Says) (j k : Judging) → IsLikened j k → ReachesAlike (reach j cs) (reach k cs)
reach_alike [] j k l = record { like = l; rest = refl }
reach_alike (c ∷ cs) j k l = by (reach_alike cs (commanded j c) (commanded k c) (commanded_like j k c l)) (is_idle j.owed) (ends c) refl refl
  where
    idle : is_idle k.owed ≡ is_idle j.owed
    idle = ap is_idle l.owed

    by : ReachesAlike (reach (commanded j c) cs) (reach (commanded k c) cs) → (b d : Bool) → is_idle j.owed ≡ b → ends c ≡ d → ReachesAlike (reach j (c ∷ cs)) (reach k (c ∷ cs))
    by rest false d e f =
        subst (λ r. ReachesAlike r (reach k (c ∷ cs))) (sym (reach_here j (c ∷ cs) e))
        (subst (λ s. ReachesAlike (j, c ∷ cs) s) (sym (reach_here k (c ∷ cs) (idle ∙ e))) (record { like = l; rest = refl }))
    by rest true true e f =
        subst (λ r. ReachesAlike r (reach k (c ∷ cs))) (sym (reach_last j c cs e f))
        (subst (λ s. ReachesAlike (commanded j c, []) s) (sym (reach_last k c cs (idle ∙ e) f)) (record { like = commanded_like j k c l; rest = refl }))
    by rest true false e f =
        subst (λ r. ReachesAlike r (reach k (c ∷ cs))) (sym (reach_past j c cs e f))
        (subst (λ s. ReachesAlike (reach (commanded j c) cs) s) (sym (reach_past k c cs (idle ∙ e) f)) rest)

-- ---- what is told

pub shown_alike : (j k : Judging) → IsLikened j k → shown_at k ≡ shown_at j
shown_alike j k l = ap shown_at (likened_over j k l)

pub tells_alike : (ls : List (Option Line)) (j k : Judging) (cs : List Says) (vs : List Verdict) (o : Option Refusal) → IsLikened j k → Tells j cs ls vs o → Tells k cs ls vs o
tells_alike [] j k cs vs o l h =
    let r = reach_alike cs j k l in
    (h.0, h.1 ∙ ap (λ (x : Owed). ending x (reach j cs).0.line) (sym r.like.owed) ∙ ap (ending (reach k cs).0.owed) (sym r.like.line))
tells_alike (x ∷ ls) j k cs vs o l h =
    let r = reach_alike cs j k l in
    let g = moves_alike (reach j cs).0 (reach k cs).0 x h.0 r.like h.2 in
    (g.to, h.1, g.goes, h.3 ∙ ap (λ us. us ++ h.1) (sym (shown_alike h.0 g.to g.like)), subst (λ ds. Tells g.to ds ls h.1 o) (sym r.rest) (tells_alike ls h.0 g.to (reach j cs).1 h.1 o g.like h.4))
