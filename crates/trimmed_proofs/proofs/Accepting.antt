-- What a trimmed file has for a check is accepted, and tells of it.
use Rattle.std.proofs.Common.{◌≡◌, ℕ, suc, List, [], ◌∷◌, ◌++◌, length, Option, Some, refl, sym, ap, subst, ◌∙◌, inl, inr, ⊎_elim}
use Rattle.std.specs.Prelude.{option_map}
use Rattle.std.specs.List.{AllByRecursion}
use Rattle.cnf_base.specs.Literals.{Literal}
use Rattle.smt_terms.specs.declared.node.Node.{Node}
use Rattle.smt_terms.specs.Terms.{IsTermList}
use Rattle.script_state.specs.Readings.{Reading}
use Rattle.script_state.specs.declared.answer.Answer.TheVariants.{Check}
use Rattle.script_state.specs.States.{StateValue}
use Rattle.script_state.specs.Steps.{step}
use Rattle.script_state.proofs.Keeping.{step_goes_on}
use Rattle.proof_log.specs.declared.entry.Entry.{Entry}
use Rattle.proof_log.specs.Logs.{LogState, clause_at, clause_in, start, state_of, IsLog}
use Rattle.proof_log.proofs.Staying.{Holds, Holds-refl, log_over, state_from-append, steps_hold, steps_parts}
use Rattle.proof_log.proofs.Growth.{clause_place}
use Rattle.proof_text.specs.declared.line.Format.TheVariants.{Two}
use Rattle.proof_text.specs.declared.record.Record.{Record}
use Rattle.proof_text.specs.declared.record.Record.TheVariants.{Sat, Unsat, Unknown}
use Rattle.accepted_proof.specs.Searching.{Limits}
use Rattle.accepted_proof.specs.Turns.{Item, AreKept, AreStepsOf, HasPart, IsAgainst, IsAgainstAssumed, IsAgainstOne, IsRefutation, IsShown, IsShownWithout, deleted_behind, steps_in, verdict_of, with_steps}
use Rattle.accepted_proof.proofs.Reaching.{reached_by_command}
use Rattle.proof_file.specs.Equalities.{HasTakenFirst}
use Rattle.proof_file.specs.Places.{FileValue, without_places, with_steps_of, placed_steps}
use Rattle.proof_file.specs.Trimmed.{IsTrimmedCheck, made_from, placed_diary, placed_record}
use Rattle.proof_file.specs.Needed.{Names}
use Rattle.trimmed_proofs.proofs.States.{bare, same_bare}
use Rattle.trimmed_proofs.proofs.Filing.{HasPlace, IsPlacing, over_others}
use Rattle.trimmed_proofs.proofs.Filed.{IsFiledCheck}
use Rattle.trimmed_proofs.proofs.Walking.{AreBeside}
use Rattle.trimmed_proofs.proofs.Checking.{all_file, all_state, all_steps, all_uncited, beside, beside_left, deleted_by_items, filed, kept_items, stale_deletable, steps_append, steps_of_items, ends as file_after, whole}
use Rattle.trimmed_proofs.proofs.Unknowns.{diary_stays}
use Rattle.trimmed_proofs.proofs.Answering.{AreAlike, alike_later, alike_sat, alike_unknown, alike_unsat}

-- ---- logs that grow

over_more : (nodes others behind : List Node) (log : List Entry) → IsTermList nodes → IsLog nodes log → others ≡ nodes ++ behind → state_of others log ≡ state_of nodes log
over_more nodes others behind log terms h e = ap (λ (ns : List Node). state_of ns log) e ∙ (log_over nodes behind terms log h).state

state_holds : (s r : LogState) → r ≡ s → Holds s r
state_holds s r e = subst (Holds s) (sym e) (Holds-refl s)

-- what a log has it has behind more steps
pub log_holds : (nodes : List Node) (log more : List Entry) → IsLog nodes (log ++ more) → Holds (state_of nodes log) (state_of nodes (log ++ more))
log_holds nodes log more h =
    let parts = steps_parts nodes start log more h in
    subst (Holds (state_of nodes log)) (sym (state_from-append nodes start log more)) (steps_hold nodes (state_of nodes log) more parts.1)

-- ---- a command

module _ (s : StateValue) (log file : List Entry) (deleted : List ℕ) (f : FileValue) (says : Reading) (h : AreBeside s log file deleted f) where
  log_same : state_of (step s says).1.terms.nodes log ≡ state_of s.terms.nodes log
  log_same = let on = step_goes_on s h.log_reached.state says in over_more s.terms.nodes (step s says).1.terms.nodes on.keeps.behind log h.log_reached.state.terms h.log_reached.steps on.keeps.nodes

  file_same : state_of (step s says).1.terms.nodes file ≡ state_of s.terms.nodes file
  file_same = let on = step_goes_on s h.log_reached.state says in over_more s.terms.nodes (step s says).1.terms.nodes on.keeps.behind file h.log_reached.state.terms h.file_reached.steps on.keeps.nodes

  pub beside_command : AreBeside (step s says).1 log file deleted f
  beside_command = record {
    log_reached = reached_by_command s log says h.log_reached;
    file_reached = reached_by_command s file says h.file_reached;
    made = h.made;
    keeps = h.keeps;
    placing = over_others s.terms.nodes (step s says).1.terms.nodes log file deleted f log_same file_same h.placing;
  }

  pub alike_command : (last shown : Option Record) → AreAlike (state_of s.terms.nodes log) (state_of s.terms.nodes file) last shown → AreAlike (state_of (step s says).1.terms.nodes log) (state_of (step s says).1.terms.nodes file) last shown
  alike_command last shown a =
      alike_later (state_of s.terms.nodes log) (state_of s.terms.nodes file) (state_of (step s says).1.terms.nodes log) (state_of (step s says).1.terms.nodes file) last shown (state_holds (state_of s.terms.nodes log) (state_of (step s says).1.terms.nodes log) log_same) (state_holds (state_of s.terms.nodes file) (state_of (step s says).1.terms.nodes file) file_same) a

-- ---- records

module _ (s : StateValue) (nodes : List Node) (log file : List Entry) (same : bare (state_of nodes file) ≡ bare (state_of nodes log)) where
  against_file : (c : List Literal) → AllByRecursion (IsAgainstOne s nodes log) c → AllByRecursion (IsAgainstOne s nodes file) c
  against_file [] h = tt
  against_file (l ∷ ls) h = (⊎_elim (λ a. inl (selected a)) (λ a. inr (assumed a)) h.0, against_file ls h.1)
    where
      selected : IsAgainst s nodes log l → IsAgainst s nodes file l
      selected a = record { assertion = a.assertion; live = a.live; selector = a.selector; made = ap (λ (x : LogState). x.selectors a.assertion.assertion) same ∙ a.made; negation = a.negation }

      assumed : IsAgainstAssumed s nodes log l → IsAgainstAssumed s nodes file l
      assumed a = record { assumption = a.assumption; assumed = a.assumed; bit = a.bit; bits = ap (λ (x : LogState). x.bits a.assumption.term) same ∙ a.bits; negation = a.negation }

  -- the clause of the position stands at its place
  at_place : (deleted : List ℕ) (f : FileValue) (p : ℕ) (c : List Literal) → IsPlacing nodes log file deleted f → HasPlace f.places p → clause_at (state_of nodes log).clauses (record { pos = p; part = 0 }) ≡ Some c → clause_at (state_of nodes file).clauses (record { pos = f.places p; part = 0 }) ≡ Some c
  at_place deleted f p c h has e = ap (λ (o : Option (List (List Literal))). clause_in o 0) (h.rows p has) ∙ e

  refuted_file : (deleted : List ℕ) (f : FileValue) (p : ℕ) → IsPlacing nodes log file deleted f → HasPlace f.places p → IsRefutation s nodes log p → IsRefutation s nodes file (f.places p)
  refuted_file deleted f p h has r = record { clause = r.clause; stands = at_place deleted f p r.clause h has r.stands; against = against_file r.clause r.against }

-- a check, whose part is this
module _ (limits : Limits) (s : StateValue) (log steps file : List Entry) (deleted : List ℕ) (old new : FileValue) (r : Record) (items : List Item) (o : Option Record) (h : AreBeside s log file deleted old) (v : AreStepsOf s log steps) (shows : IsShown limits s (with_steps s steps).terms.nodes (log ++ steps) r) (first : HasTakenFirst (suc (length log)) (log ++ steps) (Some r)) (t : IsTrimmedCheck s.terms.nodes s.scopes.live log steps r old new items o) where
  pub at_base : AreBeside s log file (deleted ++ t.stale) (without_places old t.stale)
  at_base = beside_left s log file deleted old h s.terms.nodes s.scopes.live t.stale t.gone

  abbrev told : List Entry
  told = placed_steps (log ++ steps) (without_places old t.stale) (made_from (suc (length log)) steps ++ t.needed)

  abbrev file' : List Entry
  file' = whole s log steps file (deleted ++ t.stale) (without_places old t.stale) at_base v r t.needed t.wanted

  abbrev ending : FileValue
  ending = file_after s log steps file (deleted ++ t.stale) (without_places old t.stale) at_base v r t.needed t.wanted

  abbrev nodes' : List Node
  nodes' = (with_steps s steps).terms.nodes

  new_is : new ≡ ending
  new_is = t.file ∙ steps_append (without_places old t.stale) (made_from (suc (length log)) steps) t.needed

  check : IsFiledCheck nodes' log steps file' (deleted ++ t.stale) (without_places old t.stale) ending (suc (with_steps_of (without_places old t.stale) (made_from (suc (length log)) steps)).count) t.needed r
  check = filed s log steps file (deleted ++ t.stale) (without_places old t.stale) at_base v r t.needed t.wanted

  ended : AreBeside (with_steps s steps) (log ++ steps) file' (deleted ++ t.stale) ending
  ended = beside s log steps file (deleted ++ t.stale) (without_places old t.stale) at_base v r t.needed t.wanted

  bares : bare (state_of nodes' file') ≡ bare (state_of nodes' (log ++ steps))
  bares = same_bare nodes' (log ++ steps) file' ended.made

  abbrev start' : ℕ
  start' = suc (with_steps_of (without_places old t.stale) (made_from (suc (length log)) steps)).count

  -- the record by the places of the file
  shown_by : (x : Record) → x ≡ r → IsShown limits s nodes' (log ++ steps) x → IsShownWithout (deleted ++ t.stale) limits s nodes' file' (placed_record (log ++ steps) ending.places start' t.needed x)
  shown_by (Sat values) e k = k
  shown_by (Unsat p) e k = (ended.placing.left p, refuted_file s nodes' (log ++ steps) file' bares (deleted ++ t.stale) ending p ended.placing has k)
    where
      has : HasPlace ending.places p
      has = check.named p (subst (λ (y : Record). Names y p) e refl) (clause_place nodes' (log ++ steps) (record { pos = p; part = 0 }) k.clause k.stands)
  shown_by (Unknown d) e k =
      diary_stays limits s nodes' log steps file' (deleted ++ t.stale) (without_places old t.stale) ending start' t.needed d
      (subst (IsFiledCheck nodes' log steps file' (deleted ++ t.stale) (without_places old t.stale) ending start' t.needed) (sym e) check)
      (subst (λ (y : Record). HasTakenFirst (suc (length log)) (log ++ steps) (Some y)) (sym e) first) k

  alike_by : (x : Record) → x ≡ r → IsShown limits s nodes' (log ++ steps) x → AreAlike (state_of nodes' (log ++ steps)) (state_of nodes' file') (Some x) (Some (placed_record (log ++ steps) ending.places start' t.needed x))
  alike_by (Sat values) e k = alike_sat (state_of nodes' (log ++ steps)) (state_of nodes' file') (Some (Sat values)) (Some (Sat values)) refl (λ q. refl)
  alike_by (Unsat p) e k =
      alike_unsat (state_of nodes' (log ++ steps)) (state_of nodes' file') p (ending.places p) k.clause k.stands
      (at_place s nodes' (log ++ steps) file' bares (deleted ++ t.stale) ending p k.clause ended.placing (check.named p (subst (λ (y : Record). Names y p) e refl) (clause_place nodes' (log ++ steps) (record { pos = p; part = 0 }) k.clause k.stands)) k.stands)
  alike_by (Unknown d) e k = alike_unknown (state_of nodes' (log ++ steps)) (state_of nodes' file') d (placed_diary (log ++ steps) ending.places start' t.needed d)

  same_verdict : (x : Record) → verdict_of (placed_record (log ++ steps) ending.places start' t.needed x) ≡ verdict_of x
  same_verdict (Sat values) = refl
  same_verdict (Unsat p) = refl
  same_verdict (Unknown d) = refl

  abbrev record' : Record
  record' = placed_record (log ++ steps) ending.places start' t.needed r

  pub check_record : o ≡ Some record'
  check_record = t.record_is ∙ ap (λ (x : FileValue). Some (placed_record (log ++ steps) x.places start' t.needed r)) new_is

  pub check_verdict : option_map verdict_of o ≡ Some (verdict_of r)
  check_verdict = ap (option_map verdict_of) check_record ∙ ap Some (same_verdict r)

  steps_are : steps_in items ≡ told
  steps_are = ap steps_in t.items_are ∙ steps_of_items t.stale told

  deleted_are : deleted_behind deleted items ≡ deleted ++ t.stale
  deleted_are = ap (deleted_behind deleted) t.items_are ∙ deleted_by_items t.stale deleted told

  pub check_state : with_steps s (steps_in items) ≡ with_steps s steps
  check_state = ap (with_steps s) steps_are ∙ all_state s log steps file (deleted ++ t.stale) (without_places old t.stale) at_base v r t.needed t.wanted

  file_is : file ++ steps_in items ≡ file'
  file_is = ap (λ (es : List Entry). file ++ es) steps_are ∙ all_file s log steps file (deleted ++ t.stale) (without_places old t.stale) at_base v r t.needed t.wanted

  pub check_beside : AreBeside (with_steps s steps) (log ++ steps) (file ++ steps_in items) (deleted_behind deleted items) new
  check_beside =
      subst (λ (l : List Entry). AreBeside (with_steps s steps) (log ++ steps) l (deleted_behind deleted items) new) (sym file_is)
      (subst (λ (d : List ℕ). AreBeside (with_steps s steps) (log ++ steps) file' d new) (sym deleted_are)
      (subst (λ (x : FileValue). AreBeside (with_steps s steps) (log ++ steps) file' (deleted ++ t.stale) x) (sym new_is) ended))

  pub check_alike : AreAlike (state_of nodes' (log ++ steps)) (state_of nodes' (file ++ steps_in items)) (Some r) o
  check_alike =
      subst (λ (l : List Entry). AreAlike (state_of nodes' (log ++ steps)) (state_of nodes' l) (Some r) o) (sym file_is)
      (subst (λ (x : Option Record). AreAlike (state_of nodes' (log ++ steps)) (state_of nodes' file') (Some r) x) (sym check_record) (alike_by r refl shows))

  pub check_part : HasPart Two limits Check s file deleted items o
  check_part =
      subst (λ (x : Option Record). HasPart Two limits Check s file deleted items x) (sym check_record) (
        subst (AreStepsOf s file) (sym steps_are) (all_steps s log steps file (deleted ++ t.stale) (without_places old t.stale) at_base v r t.needed t.wanted),
        subst (AreKept Two deleted file) (sym t.items_are) (kept_items t.stale deleted file told (stale_deletable s log file deleted old h s.terms.nodes s.scopes.live t.stale t.gone) (all_uncited s log steps file (deleted ++ t.stale) (without_places old t.stale) at_base v r t.needed t.wanted)),
        subst (λ (d : List ℕ). IsShownWithout d limits s (with_steps s (steps_in items)).terms.nodes (file ++ steps_in items) record') (sym deleted_are)
            (subst (λ (l : List Entry). IsShownWithout (deleted ++ t.stale) limits s (with_steps s (steps_in items)).terms.nodes l record') (sym file_is)
            (subst (λ (x : StateValue). IsShownWithout (deleted ++ t.stale) limits s x.terms.nodes file' record') (sym check_state) (shown_by r refl shows))),
      )
