-- The lines of parts that may follow have no bad one.
use Rattle.std.proofs.Common.{◌≡◌, ℕ, suc, ◌+◌, Bool, true, false, List, [], ◌∷◌, ◌++◌, map, length, flat_map, slice_get, Option, Some, None, refl, sym, ap, ◌∙◌, subst, inl, inr, append_assoc, append-nil}
use Rattle.std.specs.Prelude.{All, IsSome, option_to_list}
use Rattle.std.specs.List.{AllByRecursion}
use Rattle.std.proofs.lemmas.List.Elements.{All-head, All-tail}
use Rattle.std.proofs.lemmas.List.{map-append}
use Rattle.cnf_base.proofs.Lists.{each_behind}
use Rattle.cnf_base.proofs.Options.{some_value}
use Rattle.smt_terms.specs.declared.node.Node.{Node}
use Rattle.smt_build.specs.declared.symbols.LiveName.{LiveName}
use Rattle.smt_values.specs.declared.value.Value.{Value}
use Rattle.scope_selectors.specs.Scopes.{ScopesValue}
use Rattle.script_state.specs.declared.answer.Answer.{Answer}
use Rattle.script_state.specs.declared.answer.Answer.TheVariants as answer
use Rattle.script_state.specs.declared.answer.Verdict.TheVariants as verdict
use Rattle.script_state.specs.Readings.{Reading}
use Rattle.script_state.specs.States.{StateValue, concluded}
use Rattle.script_state.specs.Steps.{step, settled, ends}
use Rattle.proof_log.specs.declared.entry.Entry.{Entry}
use Rattle.proof_log.specs.declared.diary.Diary.{Diary}
use Rattle.proof_log.specs.declared.diary.DiaryLine.{DiaryLine}
use Rattle.proof_text.specs.declared.line.Format.{Format}
use Rattle.proof_text.specs.declared.line.Format.TheVariants.{One, Two}
use Rattle.proof_text.specs.declared.line.Line.{Line}
use Rattle.proof_text.specs.declared.line.Line.TheVariants as line
use Rattle.proof_text.specs.declared.record.Record.{Record}
use Rattle.proof_text.specs.declared.record.Record.TheVariants as shown
use Rattle.proof_text.specs.Deletions.{AreDeletable, IsSpentWithout, blank_without, place_of, is_deleted}
use Rattle.proof_text.specs.Entries.{entry_line}
use Rattle.proof_text.specs.Records.{written_value, value_lines, diary_line, record_lines}
use Rattle.accepted_proof.specs.Searching.{Limits, IsSearch, IsUnknownWithout, subject_of}
use Rattle.accepted_proof.specs.Models.{interpretation_of, IsModel, IsOfSignature}
use Rattle.accepted_proof.specs.Turns.{Turn, Item, Step, Delete, Part, AreParts, AreStepsOf, AreKept, HasPart, IsShownWithout, concluded_by, deleted_behind, item_lines, part_lines, shown_lines, state_after, steps_in, turn_of, verdict_of, with_step, with_steps}
use Rattle.accepted_proof.specs.Accepted.{EndLast}
use Rattle.accepted_proof.specs.Judged.{Owed, Nothing, Steps, Values, Noted, Judging, closed, deleting, noted, owed_by, stepped, valued, Deletes, Goes, IsStepOf, IsValueOf, Judged}
use Rattle.accepted_proof.proofs.Settling.{settled_by}
use Rattle.accepted_proof.proofs.Following.{Keeping, diary_moves, judged_command, judged_line, line_among, line_steps, lines_before, place, refutation_in, same_assumed, same_scopes, shown_back, shown_on, state_with, steps_by}

-- ---- records

module _ (s u : StateValue) (scopes : s.scopes ≡ u.scopes) (assumed : s.assumed ≡ u.assumed) (nodes : List Node) (log : List Entry) where
  without_in : (deleted : List ℕ) (limits : Limits) (d : Diary) → IsUnknownWithout deleted limits s nodes log d → IsUnknownWithout deleted limits u nodes log d
  without_in deleted limits d h =
      let a : IsUnknownWithout deleted limits (state_with s u.scopes s.assumed) nodes log d = subst (λ x. IsUnknownWithout deleted limits (state_with s x s.assumed) nodes log d) scopes h in
      let b : IsUnknownWithout deleted limits (state_with s u.scopes u.assumed) nodes log d = subst (λ x. IsUnknownWithout deleted limits (state_with s u.scopes x) nodes log d) assumed a in
      let q = b.search in
      record { search = record { cube_of_check = q.cube_of_check; selectors = q.selectors; bits = q.bits; within = q.within; added = q.added }; spent = b.spent }

-- a record may end a check of a state where it may end one behind its steps, and the other way
module _ (Good : StateValue → Type 0) (keeps : Keeping Good) (deleted : List ℕ) (limits : Limits) (s : StateValue) (log steps : List Entry) (nodes : List Node) (all : List Entry) where
  without_on : (r : Record) → Good s → AreStepsOf s log steps → IsShownWithout deleted limits s nodes all r → IsShownWithout deleted limits (with_steps s steps) nodes all r
  without_on (shown.Sat values) g a h = shown_on Good keeps limits s log steps nodes all (shown.Sat values) g a h
  without_on (shown.Unsat p) g a h = (h.0, refutation_in s (with_steps s steps) (sym (same_scopes s steps)) (sym (same_assumed s steps)) nodes all p h.1)
  without_on (shown.Unknown d) g a h = without_in s (with_steps s steps) (sym (same_scopes s steps)) (sym (same_assumed s steps)) nodes all deleted limits d h

  pub without_back : (r : Record) → Good s → AreStepsOf s log steps → IsShownWithout deleted limits (with_steps s steps) nodes all r → IsShownWithout deleted limits s nodes all r
  without_back (shown.Sat values) g a h = shown_back Good keeps limits s log steps nodes all (shown.Sat values) g a h
  without_back (shown.Unsat p) g a h = (h.0, refutation_in (with_steps s steps) s (same_scopes s steps) (same_assumed s steps) nodes all p h.1)
  without_back (shown.Unknown d) g a h = without_in (with_steps s steps) s (same_scopes s steps) (same_assumed s steps) nodes all deleted limits d h

-- the second format deletes places
deletes_by : (format : Format) (j : Judging) (places : List ℕ) → format ≡ Two → AreDeletable j.log j.deleted places → Deletes format j places (deleting j places)
deletes_by One j places e h = absurd (let z : ⊥ = cc in z)
deletes_by Two j places e h = inl (h, refl)

module _ (format : Format) (limits : Limits) where
  -- what is judged of the rest of a proof, wherever it begins
  abbrev Rest : StateValue → List Entry → List ℕ → List Reading → List (Option Line) → Type 0
  Rest s log deleted cs ls = (n : ℕ) → Judged (place format limits s log deleted Nothing n) cs ls None

  -- ---- models

  values_judged : (left : List LiveName) (more values : List (ℕ × Value)) (s : StateValue) (log : List Entry) (deleted : List ℕ) (o : Owed) (n : ℕ) (cs : List Reading) (ls : List (Option Line))
      → map (λ (p : ℕ × Value). p.0) more ≡ map (λ (l : LiveName). l.declaration) left
      → All (λ (p : ℕ × Value). IsOfSignature p.1 (slice_get s.symbols.signatures p.0)) more
      → AllByRecursion (λ (p : ℕ × Value). IsSome (written_value p.1)) more
      → IsModel s (interpretation_of (values ++ more))
      → ((all : List (ℕ × Value)) → Rest (concluded s (verdict_of (shown.Sat all))) log deleted cs ls)
      → (k : Judging) × Goes (place format limits s log deleted o n) left values k × Judged k cs (lines_before ls (flat_map value_lines more)) None
  values_judged [] [] values s log deleted o n cs ls e sorted written model rest =
      (closed (place format limits s log deleted o n) (shown.Sat values), inl (subst (λ vs. IsModel s (interpretation_of vs)) (append-nil values) model, refl), rest values (n + 1))
  values_judged [] (p ∷ more) values s log deleted o n cs ls e sorted written model rest = let f : ⊥ = cc in absurd f
  values_judged (x ∷ left) [] values s log deleted o n cs ls e sorted written model rest = let f : ⊥ = cc in absurd f
  values_judged (x ∷ left) (p ∷ more) values s log deleted o n cs ls e sorted written model rest =
      let d : p.0 ≡ x.declaration = cc in
      let names : map (λ (p : ℕ × Value). p.0) more ≡ map (λ (l : LiveName). l.declaration) left = cc in
      let w = some_value (written_value p.1) written.0 in
      let after = values_judged left more (values ++ p ∷ []) s log deleted (Values x left values) (n + 1) cs ls names
      (All-tail (λ (p : ℕ × Value). IsOfSignature p.1 (slice_get s.symbols.signatures p.0)) p more sorted) written.1
      (subst (λ vs. IsModel s (interpretation_of vs)) (sym (append_assoc values (p ∷ []) more)) model) rest in
      let is_value : IsValueOf s x p.0 w.0 p.1 = record { declaration = d; written = w.1; sorted = All-head (λ (p : ℕ × Value). IsOfSignature p.1 (slice_get s.symbols.signatures p.0)) p more sorted } in
      let k = valued (place format limits s log deleted o n) x left values in (
        k,
        refl,
        subst (λ w. Judged k cs (lines_before ls (map (line.Value p.0) (option_to_list w) ++ flat_map value_lines more)) None) (sym w.1)
            (judged_line k after.0 cs (Some (line.Value p.0 w.0)) (lines_before ls (flat_map value_lines more)) None refl (inl (p.1, is_value, after.1)) after.2),
      )

  -- ---- diaries

  -- the lines of a diary that stand behind these
  notes_judged : (l : DiaryLine) (more lines : List DiaryLine) (s : StateValue) (log : List Entry) (deleted : List ℕ) (cube start n : ℕ) (cs : List Reading) (ls : List (Option Line))
      → IsSpentWithout deleted (subject_of limits s s.terms.nodes log cube start) limits.budget (lines ++ l ∷ more) → Rest (concluded s verdict.Unknown) log deleted cs ls
      → Judged (place format limits s log deleted (Noted cube start (length more) lines) n) cs (lines_before ls (map diary_line (l ∷ more))) None
  notes_judged l [] lines s log deleted cube start n cs ls spent rest =
      let j = place format limits s log deleted (Noted cube start 0 lines) n in
      let k = closed j (shown.Unknown (record { cube = cube; start = start; lines = lines ++ l ∷ [] })) in
      judged_line j k cs (Some (diary_line l)) ls None refl (diary_moves j cube start 0 lines l k (inl (spent, refl))) (rest (n + 1))
  notes_judged l (m ∷ more) lines s log deleted cube start n cs ls spent rest =
      let g = subject_of limits s s.terms.nodes log cube start in
      let j = place format limits s log deleted (Noted cube start (suc (length more)) lines) n in
      let k = noted j cube start (length more) (lines ++ l ∷ []) in
      judged_line j k cs (Some (diary_line l)) (lines_before ls (map diary_line (m ∷ more))) None refl
      (diary_moves j cube start (suc (length more)) lines l k (inl (((each_behind (λ x. is_deleted deleted (place_of x) ≡ false) lines (l ∷ m ∷ more) spent.left).0, line_among g (blank_without (is_deleted deleted) g) lines l (m ∷ more) spent.spent.stand), refl)))
      (notes_judged m more (lines ++ l ∷ []) s log deleted cube start (n + 1) cs ls (subst (IsSpentWithout deleted g limits.budget) (sym (append_assoc lines (l ∷ []) (m ∷ more))) spent) rest)

  unknown_judged : (cube start : ℕ) (lines : List DiaryLine) (s : StateValue) (log : List Entry) (deleted : List ℕ) (n : ℕ) (cs : List Reading) (ls : List (Option Line))
      → IsSearch limits s s.terms.nodes log cube start → IsSpentWithout deleted (subject_of limits s s.terms.nodes log cube start) limits.budget lines → Rest (concluded s verdict.Unknown) log deleted cs ls
      → Judged (place format limits s log deleted Steps n) cs (lines_before ls (record_lines (shown.Unknown (record { cube = cube; start = start; lines = lines })))) None
  unknown_judged cube start [] s log deleted n cs ls search spent rest = absurd spent.spent.last
  unknown_judged cube start (l ∷ more) s log deleted n cs ls search spent rest =
      let j = place format limits s log deleted Steps n in
      judged_line j (noted j cube start (length more) []) cs (Some (line.Unknown cube start (suc (length more)))) (lines_before ls (map diary_line (l ∷ more))) None refl (inl (search, refl))
      (notes_judged l more [] s log deleted cube start (n + 1) cs ls spent rest)

  -- ---- checks

  record_judged : (r : Record) (s : StateValue) (log : List Entry) (deleted : List ℕ) (n : ℕ) (cs : List Reading) (ls : List (Option Line))
      → IsShownWithout deleted limits s s.terms.nodes log r → ((q : Record) → verdict_of q ≡ verdict_of r → Rest (concluded s (verdict_of q)) log deleted cs ls)
      → Judged (place format limits s log deleted Steps n) cs (lines_before ls (record_lines r)) None
  record_judged (shown.Unsat p) s log deleted n cs ls h rest =
      judged_line (place format limits s log deleted Steps n) (closed (place format limits s log deleted Steps n) (shown.Unsat p)) cs (Some (line.Unsat p)) ls None refl (inl (h, refl)) (rest (shown.Unsat p) refl (n + 1))
  record_judged (shown.Unknown d) s log deleted n cs ls h rest = unknown_judged d.cube d.start d.lines s log deleted n cs ls h.search h.spent (rest (shown.Unknown d) refl)
  record_judged (shown.Sat values) s log deleted n cs ls h rest =
      let count : length values ≡ length s.symbols.live = sym (length_mapped (λ (p : ℕ × Value). p.0) values) ∙ ap length h.1.listed ∙ length_mapped (λ (l : LiveName). l.declaration) s.symbols.live in
      let after = values_judged s.symbols.live values [] s log deleted Steps n cs ls h.1.listed h.1.sorted h.0 h.1.model (λ all. rest (shown.Sat all) refl) in
      judged_line (place format limits s log deleted Steps n) after.0 cs (Some (line.Sat (length values))) (lines_before ls (flat_map value_lines values)) None refl (inl (count, after.1)) after.2
    where
      length_mapped : {A B : Type 0} (f : A → B) (xs : List A) → length (map f xs) ≡ length xs
      length_mapped f [] = refl
      length_mapped f (x ∷ xs) = ap suc (length_mapped f xs)

  items_judged : (items : List Item) (r : Record) (s : StateValue) (log : List Entry) (deleted : List ℕ) (n : ℕ) (cs : List Reading) (ls : List (Option Line))
      → AreStepsOf s log (steps_in items) → AreKept format deleted log items
      → IsShownWithout (deleted_behind deleted items) limits (with_steps s (steps_in items)) (with_steps s (steps_in items)).terms.nodes (log ++ steps_in items) r
      → Rest (concluded (with_steps s (steps_in items)) (verdict_of r)) (log ++ steps_in items) (deleted_behind deleted items) cs ls
      → Judged (place format limits s log deleted Steps n) cs (lines_before ls (flat_map item_lines items ++ record_lines r)) None
  items_judged [] r s log deleted n cs ls a kept h rest =
      record_judged r s log deleted n cs ls (subst (λ l. IsShownWithout deleted limits s s.terms.nodes l r) (append-nil log) h)
      (λ q v. subst (λ w. Rest (concluded s w) log deleted cs ls) (sym v) (subst (λ l. Rest (concluded s (verdict_of r)) l deleted cs ls) (append-nil log) rest))
  items_judged (Step e ∷ items) r s log deleted n cs ls a kept h rest =
      let w = some_value (entry_line e) a.2 in
      let j = place format limits s log deleted Steps n in
      let es = steps_in items in
      let all = deleted_behind deleted items in
      let assoc = sym (append_assoc log (e ∷ []) es) in
      let after = items_judged items r (with_step s e) (log ++ e ∷ []) deleted (n + 1) cs ls a.3 kept.1
      (subst (λ l. IsShownWithout all limits (with_steps s (e ∷ es)) (with_steps s (e ∷ es)).terms.nodes l r) assoc h)
      (subst (λ l. Rest (concluded (with_steps s (e ∷ es)) (verdict_of r)) l all cs ls) assoc rest) in
      let is_step_of : IsStepOf s log deleted w.0 e = record { written = w.1; script = a.1; valid = a.0; left = kept.0 } in
      subst (λ o. Judged j cs (lines_before ls ((option_to_list o ++ flat_map item_lines items) ++ record_lines r)) None) (sym w.1)
      (judged_line j (stepped j e) cs (Some w.0) (lines_before ls (flat_map item_lines items ++ record_lines r)) None refl (steps_by j w.0 (stepped j e) (line_steps e w.0 w.1) (inl (e, is_step_of, refl))) after)
  items_judged (Delete places ∷ items) r s log deleted n cs ls a kept h rest =
      let j = place format limits s log deleted Steps n in
      judged_line j (deleting j places) cs (Some (line.Delete places)) (lines_before ls (flat_map item_lines items ++ record_lines r)) None refl
      (deletes_by format j places kept.0 kept.1)
      (items_judged items r s log (deleted ++ places) (n + 1) cs ls a kept.2 h rest)

  -- ---- parts

  -- what a part is from the state behind its steps
  abbrev PartOn : Answer → StateValue → List Entry → List ℕ → List Item → Option Record → Type 0
  PartOn answer.Check s log deleted items None = ⊥
  PartOn answer.Check s log deleted items (Some r) =
      AreStepsOf s log (steps_in items)
      × AreKept format deleted log items
      × IsShownWithout (deleted_behind deleted items) limits (with_steps s (steps_in items)) (with_steps s (steps_in items)).terms.nodes (log ++ steps_in items) r
  PartOn _ s log deleted items o = (items ≡ []) × (o ≡ None)

  module _ (Good : StateValue → Type 0) (keeps : Keeping Good) where
    part_on : (a : Answer) (s : StateValue) (log : List Entry) (deleted : List ℕ) (items : List Item) (o : Option Record) → Good s → HasPart format limits a s log deleted items o → PartOn a s log deleted items o
    part_on answer.Done s log deleted items o g h = h
    part_on (answer.Refused e) s log deleted items o g h = h
    part_on (answer.Says text) s log deleted items o g h = h
    part_on answer.Model s log deleted items o g h = h
    part_on (answer.Values asked) s log deleted items o g h = h
    part_on answer.Core s log deleted items o g h = h
    part_on answer.Assumptions s log deleted items o g h = h
    part_on answer.Exit s log deleted items o g h = h
    part_on answer.Check s log deleted items None g h = h
    part_on answer.Check s log deleted items (Some r) g h = (h.0, h.1, without_on Good keeps (deleted_behind deleted items) limits s log (steps_in items) _ _ r g h.0 h.2)

    good_unchecked : (s : StateValue) (items : List Item) (o : Option Record) → Good s → (items ≡ []) × (o ≡ None) → Good (concluded_by (with_steps s (steps_in items)) o)
    good_unchecked s items o g h = subst (λ x. Good (concluded_by (with_steps s (steps_in x)) o)) (sym h.0) (subst (λ x. Good (concluded_by s x)) (sym h.1) g)

    good_checked : (a : Answer) (s : StateValue) (log : List Entry) (deleted : List ℕ) (items : List Item) (o : Option Record) → Good s → HasPart format limits a s log deleted items o → Good (concluded_by (with_steps s (steps_in items)) o)
    good_checked answer.Done s log deleted items o g h = good_unchecked s items o g h
    good_checked (answer.Refused e) s log deleted items o g h = good_unchecked s items o g h
    good_checked (answer.Says text) s log deleted items o g h = good_unchecked s items o g h
    good_checked answer.Model s log deleted items o g h = good_unchecked s items o g h
    good_checked (answer.Values asked) s log deleted items o g h = good_unchecked s items o g h
    good_checked answer.Core s log deleted items o g h = good_unchecked s items o g h
    good_checked answer.Assumptions s log deleted items o g h = good_unchecked s items o g h
    good_checked answer.Exit s log deleted items o g h = good_unchecked s items o g h
    good_checked answer.Check s log deleted items None g h = absurd h
    good_checked answer.Check s log deleted items (Some r) g h = keeps.ends (with_steps s (steps_in items)) (verdict_of r) (keeps.steps s log (steps_in items) g h.0)

    -- once the command is answered
    good_after : (a : Answer) (old s : StateValue) (log : List Entry) (deleted : List ℕ) (items : List Item) (o : Option Record) → Good old → Good s → HasPart format limits a s log deleted items o → Good (settled old a (concluded_by (with_steps s (steps_in items)) o))
    good_after a old s log deleted items o b g h = settled_by Good old (concluded_by (with_steps s (steps_in items)) o) a (λ asked e. b) (good_checked a s log deleted items o g h)

  -- a command that has no proof leaves a state to which its steps and its record add nothing
  passed : (items : List Item) (o : Option Record) (state : List Entry → Option Record → StateValue) (log : List Entry) (deleted : List ℕ) (n : ℕ) (cs : List Reading) (ls : List (Option Line))
      → (items ≡ []) × (o ≡ None) → Rest (state (steps_in items) o) (log ++ steps_in items) (deleted_behind deleted items) cs ls
      → Judged (place format limits (state [] None) log deleted Nothing n) cs (lines_before ls (flat_map item_lines items ++ shown_lines o)) None
  passed items o state log deleted n cs ls h rest =
      let r0 : Rest (state [] o) (log ++ []) deleted cs ls = subst (λ x. Rest (state (steps_in x) o) (log ++ steps_in x) (deleted_behind deleted x) cs ls) h.0 rest in
      let r1 : Rest (state [] None) (log ++ []) deleted cs ls = subst (λ x. Rest (state [] x) (log ++ []) deleted cs ls) h.1 r0 in
      let r2 : Rest (state [] None) log deleted cs ls = subst (λ l. Rest (state [] None) l deleted cs ls) (append-nil log) r1 in
      let j = place format limits (state [] None) log deleted Nothing n in
      subst (λ x. Judged j cs (lines_before ls (flat_map item_lines x ++ shown_lines o)) None) (sym h.0)
      (subst (λ x. Judged j cs (lines_before ls (shown_lines x)) None) (sym h.1) (r2 n))

  part_judged : (a : Answer) (items : List Item) (o : Option Record) (old s : StateValue) (log : List Entry) (deleted : List ℕ) (n : ℕ) (cs : List Reading) (ls : List (Option Line))
      → PartOn a s log deleted items o → Rest (settled old a (concluded_by (with_steps s (steps_in items)) o)) (log ++ steps_in items) (deleted_behind deleted items) cs ls
      → Judged (place format limits (settled old a s) log deleted (owed_by a) n) cs (lines_before ls (flat_map item_lines items ++ shown_lines o)) None
  part_judged answer.Done items o old s log deleted n cs ls h rest = passed items o (λ x r. concluded_by (with_steps s x) r) log deleted n cs ls h rest
  part_judged (answer.Refused f) items o old s log deleted n cs ls h rest = passed items o (λ x r. concluded_by (with_steps s x) r) log deleted n cs ls h rest
  part_judged (answer.Says text) items o old s log deleted n cs ls h rest = passed items o (λ x r. concluded_by (with_steps s x) r) log deleted n cs ls h rest
  part_judged answer.Model items o old s log deleted n cs ls h rest = passed items o (λ x r. concluded_by (with_steps s x) r) log deleted n cs ls h rest
  part_judged (answer.Values asked) items o old s log deleted n cs ls h rest = passed items o (λ x r. old) log deleted n cs ls h rest
  part_judged answer.Core items o old s log deleted n cs ls h rest = passed items o (λ x r. concluded_by (with_steps s x) r) log deleted n cs ls h rest
  part_judged answer.Assumptions items o old s log deleted n cs ls h rest = passed items o (λ x r. concluded_by (with_steps s x) r) log deleted n cs ls h rest
  part_judged answer.Exit items o old s log deleted n cs ls h rest = passed items o (λ x r. concluded_by (with_steps s x) r) log deleted n cs ls h rest
  part_judged answer.Check items None old s log deleted n cs ls h rest = absurd h
  part_judged answer.Check items (Some r) old s log deleted n cs ls h rest = items_judged items r s log deleted n cs ls h.0 h.1 h.2 rest

  -- the answer of a turn is that of the step
  at_command : (s : StateValue) (log : List Entry) (deleted : List ℕ) (n : ℕ) (says : Reading) (a : Answer) (cs : List Reading) (ls : List (Option Line)) → a ≡ (step s says).0 → (ends says ≡ true → cs ≡ [])
      → Judged (place format limits (settled s a (step s says).1) log deleted (owed_by a) n) cs ls None → Judged (place format limits s log deleted Nothing n) (says ∷ cs) ls None
  at_command s log deleted n says a cs ls e last h = judged_command (place format limits s log deleted Nothing n) says cs ls None refl last (subst (λ b. Judged (place format limits (settled s b (step s says).1) log deleted (owed_by b) n) cs ls None) e h)

  abbrev pub readings_in : List Part → List Reading
  readings_in ps = map (λ (t : Turn). t.says) (map turn_of ps)

  pub parts_judged : (Good : StateValue → Type 0) → Keeping Good → (ps : List Part) (s : StateValue) (log : List Entry) (deleted : List ℕ) (n : ℕ) → Good s → EndLast (map turn_of ps) → AreParts format limits s log deleted ps
      → Judged (place format limits s log deleted Nothing n) (readings_in ps) (map Some (flat_map part_lines ps)) None
  parts_judged Good keeps [] s log deleted n g last h = refl
  parts_judged Good keeps (p ∷ ps) s log deleted n g last h =
      let new = (step s p.says).1 in
      let next = state_after s (turn_of p) in
      let all = log ++ steps_in p.items in
      let behind = deleted_behind deleted p.items in
      let lines = map Some (flat_map part_lines ps) in
      let g' = keeps.commands s p.says g in
      let on = part_on Good keeps p.answer new log deleted p.items p.shown g' h.0.proof in
      let gs = good_after Good keeps p.answer s new log deleted p.items p.shown g g' h.0.proof in
      let rest : Rest next all behind (readings_in ps) lines = λ m. parts_judged Good keeps ps next all behind m gs last.1 h.1 in
      let j = at_command s log deleted n p.says p.answer (readings_in ps) (lines_before lines (part_lines p)) h.0.answer (λ e. ap (map (λ (t : Turn). t.says)) (last.0 e))
      (part_judged p.answer p.items p.shown s new log deleted n (readings_in ps) lines on rest) in
      subst (λ ls. Judged (place format limits s log deleted Nothing n) (readings_in (p ∷ ps)) ls None) (sym (map-append Some (part_lines p) (flat_map part_lines ps))) j
