-- The steps of a check: those that make something go into the file at once.
use Rattle.std.proofs.Common.{◌≡◌, ℕ, suc, ◌<◌, ◌≤◌, Bool, true, false, List, [], ◌∷◌, ◌++◌, length, Option, Some, refl, sym, ap, ap₂, subst, ◌∙◌, arith, inl, inr, ⊎_elim, append_assoc, append-nil, length-append}
use Rattle.std.specs.Prelude.{◌⊎◌, not, if◌then◌else◌, slice_get, option_map, option_to_list}
use Rattle.std.proofs.lemmas.Bool.{cases_lt}
use Rattle.std.proofs.lemmas.List.Elements.{filter-append}
use Rattle.cnf_base.proofs.Lists.{slice_get-at, slice_get-push}
use Rattle.smt_terms.specs.declared.node.Node.{Node}
use Rattle.script_state.specs.States.{StateValue}
use Rattle.proof_log.specs.declared.entry.Entry.{Entry}
use Rattle.proof_log.specs.declared.entry.Entry.TheVariants as step
use Rattle.proof_log.specs.Logs.{entry_at, state_of}
use Rattle.proof_log.specs.Faults.{IsValid, terms_after}
use Rattle.proof_log.specs.Diaries.{is_chain}
use Rattle.proof_log.proofs.Staying.{log_over}
use Rattle.proof_log.proofs.Growth.{entry_left}
use Rattle.proof_text.specs.Deletions.{is_deletable}
use Rattle.accepted_proof.specs.Turns.{IsOfScript, with_step, with_steps, AreStepsOf}
use Rattle.accepted_proof.proofs.Reaching.{IsReached, reached_by_step, terms_longer}
use Rattle.proof_file.specs.Places.{FileValue, with_steps_of, placed, placed_steps}
use Rattle.proof_file.specs.Places.{with_step as step_placed}
use Rattle.proof_file.specs.Trimmed.{made_from}
use Rattle.trimmed_proofs.proofs.States.{bare, made_of, same_bare, same_row, row_at}
use Rattle.trimmed_proofs.proofs.Steps.{made_valid}
use Rattle.trimmed_proofs.proofs.Filing.{HasPlace, IsPlacing, added, longer_log, over_others, place_elsewhere, some_here}

-- A log and a file that are valid over the terms of the state, beside one another.
pub record AreBeside (s : StateValue) (log file : List Entry) (deleted : List ℕ) (f : FileValue) : Type 0 where
  pub log_reached : IsReached s log
  pub file_reached : IsReached s file
  pub made : made_of file ≡ made_of log
  pub keeps : (p : ℕ) → p ≤ length log → is_deletable (entry_at log p) ≡ false → HasPlace f.places p
  pub placing : IsPlacing s.terms.nodes log file deleted f

-- ---- lists

pub made_append : (log more : List Entry) → made_of (log ++ more) ≡ made_of log ++ made_of more
made_append log more = filter-append (λ (e : Entry). not (is_deletable (Some e))) log more

pub derived_alone : (e : Entry) → is_deletable (Some e) ≡ true → made_of (e ∷ []) ≡ []
derived_alone e d = ap (λ (b : Bool). if not b then e ∷ [] else []) d

pub length_more : (log : List Entry) (e : Entry) → length (log ++ e ∷ []) ≡ suc (length log)
length_more log e = let a = length-append log (e ∷ []) in omega (arith, a)

entry_last : (log : List Entry) (e : Entry) → entry_at (log ++ e ∷ []) (suc (length log)) ≡ Some e
entry_last log e = slice_get-push log e

-- a position behind those of the log is the next
old_or_last : (log : List Entry) (e : Entry) (p : ℕ) → p ≤ length (log ++ e ∷ []) → (p ≤ length log) ⊎ (p ≡ suc (length log))
old_or_last log e p le = ⊎_elim (λ more. inr (let a = length_more log e in omega (arith, a, le, more))) (λ old. inl old) (cases_lt (length log) p)

-- ---- one step of the log

pub same_state : (s : StateValue) (e : Entry) → is_deletable (Some e) ≡ true → with_step s e ≡ s
same_state s (step.Lemma l) d = refl
same_state s (step.Chain c hints) d = refl
same_state s (step.Node n) d = let z : ⊥ = cc in absurd z
same_state s (step.Leaf t) d = let z : ⊥ = cc in absurd z
same_state s (step.Encode t) d = let z : ⊥ = cc in absurd z
same_state s (step.Selector a t) d = let z : ⊥ = cc in absurd z
same_state s (step.Rewrite r) d = let z : ⊥ = cc in absurd z
same_state s (step.Equal t u) d = let z : ⊥ = cc in absurd z

module _ (s : StateValue) (log file : List Entry) (deleted : List ℕ) (f : FileValue) (e : Entry) (h : AreBeside s log file deleted f) (valid : IsValid s.terms (state_of s.terms.nodes log) e) (of : IsOfScript s e) where
  -- a lemma or a chain leaves the file
  pub derived_step : is_deletable (Some e) ≡ true → AreBeside s (log ++ e ∷ []) file deleted f
  derived_step d = record {
    log_reached = subst (λ (x : StateValue). IsReached x (log ++ e ∷ [])) (same_state s e d) (reached_by_step s log h.log_reached e valid of);
    file_reached = h.file_reached;
    made = h.made ∙ sym (append-nil (made_of log)) ∙ ap (λ (m : List Entry). made_of log ++ m) (sym (derived_alone e d)) ∙ sym (made_append log (e ∷ []));
    keeps = λ p le n.
        ⊎_elim
        (λ old. h.keeps p old (sym (ap is_deletable (entry_left log (e ∷ []) p old)) ∙ n))
        (λ same.
        let q : true ≡ false = sym d ∙ ap is_deletable (sym (entry_last log e)) ∙ ap (λ (x : ℕ). is_deletable (entry_at (log ++ e ∷ []) x)) (sym same) ∙ n in
        let z : ⊥ = cc in absurd z)
        (old_or_last log e p le);
    placing = longer_log s.terms.nodes log file (e ∷ []) deleted f h.placing;
  }

  file_bare : (nodes : List Node) → bare (state_of nodes log) ≡ bare (state_of nodes file)
  file_bare nodes = sym (same_bare nodes log file h.made)

  -- what makes something is valid behind the file too
  pub valid_in_file : is_deletable (Some e) ≡ false → IsValid s.terms (state_of s.terms.nodes file) e
  valid_in_file m = go e m valid
    where
      go : (x : Entry) → is_deletable (Some x) ≡ false → IsValid s.terms (state_of s.terms.nodes log) x → IsValid s.terms (state_of s.terms.nodes file) x
      go (step.Node n) m i = i
      go x m i = made_valid s.terms.nodes (state_of s.terms.nodes log) (state_of s.terms.nodes file) x m (file_bare s.terms.nodes) i

  over_all : (l : List Entry) → IsReached s l → state_of (terms_after s.terms e).nodes l ≡ state_of s.terms.nodes l
  over_all l r =
      let more = terms_longer s.terms e in
      ap (λ (ns : List Node). state_of ns l) more.1 ∙ (log_over s.terms.nodes more.0 r.state.terms l r.steps).state

  -- and stands at the next place
  pub made_step : is_deletable (Some e) ≡ false → AreBeside (with_step s e) (log ++ e ∷ []) (file ++ e ∷ []) deleted (step_placed f (suc (length log)))
  made_step m = record {
    log_reached = reached_by_step s log h.log_reached e valid of;
    file_reached = reached_by_step s file h.file_reached e (valid_in_file m) of;
    made = made_append file (e ∷ []) ∙ ap (λ (x : List Entry). x ++ made_of (e ∷ [])) h.made ∙ sym (made_append log (e ∷ []));
    keeps = λ p le n.
        ⊎_elim
        (λ old. old_kept p old (h.keeps p old (sym (ap is_deletable (entry_left log (e ∷ []) p old)) ∙ n)))
        (λ same. inr (subst (λ (x : ℕ). 0 < (step_placed f (suc (length log))).places x) (sym same) (some_here f (suc (length log)))))
        (old_or_last log e p le);
    placing =
        added (with_step s e).terms.nodes (log ++ e ∷ []) file deleted f (suc (length log)) e
        (longer_log (with_step s e).terms.nodes log file (e ∷ []) deleted f (over_others s.terms.nodes (with_step s e).terms.nodes log file deleted f (over_all log h.log_reached) (over_all file h.file_reached) h.placing))
        (record {
          some = omega arith;
          among = (let a = length_more log e in omega (arith, a));
          nowhere = nowhere;
          row = row_at (with_step s e).terms.nodes log e [] ∙ ap Some (same_row (with_step s e).terms.nodes (state_of (with_step s e).terms.nodes log) (state_of (with_step s e).terms.nodes file) e (file_bare (with_step s e).terms.nodes));
          chain = sym (ap is_chain (entry_last log e));
          kind = sym (ap is_deletable (entry_last log e));
        });
  }
    where
      old_kept : (p : ℕ) → p ≤ length log → HasPlace f.places p → HasPlace (step_placed f (suc (length log))).places p
      old_kept p old has =
          let same = place_elsewhere f (suc (length log)) p (λ q. omega (arith, q, old)) in
          ⊎_elim (λ z. inl z) (λ some. inr (subst (λ (x : ℕ). 0 < x) (sym same) some)) has

      nowhere : f.places (suc (length log)) ≡ 0
      nowhere =
          ⊎_elim (λ some. let k = h.placing.known (suc (length log)) some in absurd (omega (arith, k))) (λ none. let z : f.places (suc (length log)) ≡ 0 = omega (arith, none) in z) (cases_lt 0 (f.places (suc (length log))))

-- ---- all steps of a check

-- these steps are valid behind the file, and then stand beside those of the log
pub record AreWalked (s : StateValue) (log file : List Entry) (deleted : List ℕ) (f : FileValue) (es made : List Entry) (ps : List ℕ) : Type 0 where
  pub steps : AreStepsOf s file made
  pub beside : AreBeside (with_steps s es) (log ++ es) (file ++ made) deleted (with_steps_of f ps)
  pub state : with_steps s made ≡ with_steps s es

module _ (s : StateValue) (log file : List Entry) (deleted : List ℕ) (f : FileValue) (e : Entry) (es : List Entry) (h : AreBeside s log file deleted f) (v : AreStepsOf s log (e ∷ es)) where
  derived_first : is_deletable (Some e) ≡ true → AreWalked (with_step s e) (log ++ e ∷ []) file deleted f es (made_of es) (made_from (suc (length (log ++ e ∷ []))) es) → AreWalked s log file deleted f (e ∷ es) (made_of es) (made_from (suc (suc (length log))) es)
  derived_first d w = record {
    steps = subst (λ (x : StateValue). AreStepsOf x file (made_of es)) (same_state s e d) w.steps;
    beside =
        subst (λ (n : ℕ). AreBeside (with_steps s (e ∷ es)) (log ++ e ∷ es) (file ++ made_of es) deleted (with_steps_of f (made_from (suc n) es))) (length_more log e)
        (subst (λ (l : List Entry). AreBeside (with_steps s (e ∷ es)) l (file ++ made_of es) deleted (with_steps_of f (made_from (suc (length (log ++ e ∷ []))) es))) (append_assoc log (e ∷ []) es) w.beside);
    state = subst (λ (x : StateValue). with_steps x (made_of es) ≡ with_steps (with_step s e) es) (same_state s e d) w.state;
  }

  made_first : is_deletable (Some e) ≡ false → AreWalked (with_step s e) (log ++ e ∷ []) (file ++ e ∷ []) deleted (step_placed f (suc (length log))) es (made_of es) (made_from (suc (length (log ++ e ∷ []))) es) → AreWalked s log file deleted f (e ∷ es) (e ∷ made_of es) (suc (length log) ∷ made_from (suc (suc (length log))) es)
  made_first m w = record {
    steps = (valid_in_file s log file deleted f e h v.0 v.1 m, v.1, v.2, w.steps);
    beside =
        subst (λ (n : ℕ). AreBeside (with_steps s (e ∷ es)) (log ++ e ∷ es) (file ++ e ∷ made_of es) deleted (with_steps_of (step_placed f (suc (length log))) (made_from (suc n) es))) (length_more log e)
        (subst (λ (l : List Entry). AreBeside (with_steps s (e ∷ es)) l (file ++ e ∷ made_of es) deleted (with_steps_of (step_placed f (suc (length log))) (made_from (suc (length (log ++ e ∷ []))) es))) (append_assoc log (e ∷ []) es)
        (subst (λ (l : List Entry). AreBeside (with_steps s (e ∷ es)) ((log ++ e ∷ []) ++ es) l deleted (with_steps_of (step_placed f (suc (length log))) (made_from (suc (length (log ++ e ∷ []))) es))) (append_assoc file (e ∷ []) (made_of es)) w.beside));
    state = w.state;
  }

  next_derived : is_deletable (Some e) ≡ true → AreBeside (with_step s e) (log ++ e ∷ []) file deleted f
  next_derived d = subst (λ (x : StateValue). AreBeside x (log ++ e ∷ []) file deleted f) (sym (same_state s e d)) (derived_step s log file deleted f e h v.0 v.1 d)

  next_made : is_deletable (Some e) ≡ false → AreBeside (with_step s e) (log ++ e ∷ []) (file ++ e ∷ []) deleted (step_placed f (suc (length log)))
  next_made m = made_step s log file deleted f e h v.0 v.1 m

-- The steps of a check that make something are valid behind the file, in the order of the log.
pub steps_walked : (es : List Entry) (s : StateValue) (log file : List Entry) (deleted : List ℕ) (f : FileValue) → AreBeside s log file deleted f → AreStepsOf s log es → AreWalked s log file deleted f es (made_of es) (made_from (suc (length log)) es)
steps_walked [] s log file deleted f h v = record {
  steps = tt;
  beside =
      subst (λ (l : List Entry). AreBeside s l (file ++ []) deleted f) (sym (append-nil log))
      (subst (λ (l : List Entry). AreBeside s log l deleted f) (sym (append-nil file)) h);
  state = refl;
}
steps_walked (step.Lemma l ∷ es) s log file deleted f h v = derived_first s log file deleted f (step.Lemma l) es h v refl (steps_walked es (with_step s (step.Lemma l)) (log ++ step.Lemma l ∷ []) file deleted f (next_derived s log file deleted f (step.Lemma l) es h v refl) v.3)
steps_walked (step.Chain c hs ∷ es) s log file deleted f h v = derived_first s log file deleted f (step.Chain c hs) es h v refl (steps_walked es (with_step s (step.Chain c hs)) (log ++ step.Chain c hs ∷ []) file deleted f (next_derived s log file deleted f (step.Chain c hs) es h v refl) v.3)
steps_walked (step.Node n ∷ es) s log file deleted f h v = made_first s log file deleted f (step.Node n) es h v refl (steps_walked es (with_step s (step.Node n)) (log ++ step.Node n ∷ []) (file ++ step.Node n ∷ []) deleted (step_placed f (suc (length log))) (next_made s log file deleted f (step.Node n) es h v refl) v.3)
steps_walked (step.Leaf t ∷ es) s log file deleted f h v = made_first s log file deleted f (step.Leaf t) es h v refl (steps_walked es (with_step s (step.Leaf t)) (log ++ step.Leaf t ∷ []) (file ++ step.Leaf t ∷ []) deleted (step_placed f (suc (length log))) (next_made s log file deleted f (step.Leaf t) es h v refl) v.3)
steps_walked (step.Encode t ∷ es) s log file deleted f h v = made_first s log file deleted f (step.Encode t) es h v refl (steps_walked es (with_step s (step.Encode t)) (log ++ step.Encode t ∷ []) (file ++ step.Encode t ∷ []) deleted (step_placed f (suc (length log))) (next_made s log file deleted f (step.Encode t) es h v refl) v.3)
steps_walked (step.Selector a t ∷ es) s log file deleted f h v = made_first s log file deleted f (step.Selector a t) es h v refl (steps_walked es (with_step s (step.Selector a t)) (log ++ step.Selector a t ∷ []) (file ++ step.Selector a t ∷ []) deleted (step_placed f (suc (length log))) (next_made s log file deleted f (step.Selector a t) es h v refl) v.3)
steps_walked (step.Rewrite r ∷ es) s log file deleted f h v = made_first s log file deleted f (step.Rewrite r) es h v refl (steps_walked es (with_step s (step.Rewrite r)) (log ++ step.Rewrite r ∷ []) (file ++ step.Rewrite r ∷ []) deleted (step_placed f (suc (length log))) (next_made s log file deleted f (step.Rewrite r) es h v refl) v.3)
steps_walked (step.Equal t u ∷ es) s log file deleted f h v = made_first s log file deleted f (step.Equal t u) es h v refl (steps_walked es (with_step s (step.Equal t u)) (log ++ step.Equal t u ∷ []) (file ++ step.Equal t u ∷ []) deleted (step_placed f (suc (length log))) (next_made s log file deleted f (step.Equal t u) es h v refl) v.3)

-- ---- what is written of them

made_one : (all log es : List Entry) (e : Entry) (f : FileValue) → all ≡ log ++ e ∷ es → placed f.places e ≡ e → placed_steps all (step_placed f (suc (length log))) (made_from (suc (length (log ++ e ∷ []))) es) ≡ made_of es → placed_steps all f (suc (length log) ∷ made_from (suc (suc (length log))) es) ≡ e ∷ made_of es
made_one all log es e f is same rest =
    ap₂ (λ (o : Option Entry) (n : ℕ). option_to_list (option_map (placed f.places) o) ++ placed_steps all (step_placed f (suc (length log))) (made_from (suc n) es)) (ap (λ (l : List Entry). slice_get l (length log)) is ∙ slice_get-at log e es) (sym (length_more log e))
    ∙ ap₂ (λ (x : Entry) (xs : List Entry). x ∷ xs) same rest

skipped : (all log es : List Entry) (e : Entry) (f : FileValue) → placed_steps all f (made_from (suc (length (log ++ e ∷ []))) es) ≡ made_of es → placed_steps all f (made_from (suc (suc (length log))) es) ≡ made_of es
skipped all log es e f rest = ap (λ (n : ℕ). placed_steps all f (made_from (suc n) es)) (sym (length_more log e)) ∙ rest

further : (all log es : List Entry) (e : Entry) → all ≡ log ++ e ∷ es → all ≡ (log ++ e ∷ []) ++ es
further all log es e is = is ∙ sym (append_assoc log (e ∷ []) es)

-- the steps that make something are written as they are
pub made_written : (es all log : List Entry) (f : FileValue) → all ≡ log ++ es → placed_steps all f (made_from (suc (length log)) es) ≡ made_of es
made_written [] all log f is = refl
made_written (step.Lemma l ∷ es) all log f is = skipped all log es (step.Lemma l) f (made_written es all (log ++ step.Lemma l ∷ []) f (further all log es (step.Lemma l) is))
made_written (step.Chain c hs ∷ es) all log f is = skipped all log es (step.Chain c hs) f (made_written es all (log ++ step.Chain c hs ∷ []) f (further all log es (step.Chain c hs) is))
made_written (step.Node n ∷ es) all log f is = made_one all log es (step.Node n) f is refl (made_written es all (log ++ step.Node n ∷ []) (step_placed f (suc (length log))) (further all log es (step.Node n) is))
made_written (step.Leaf t ∷ es) all log f is = made_one all log es (step.Leaf t) f is refl (made_written es all (log ++ step.Leaf t ∷ []) (step_placed f (suc (length log))) (further all log es (step.Leaf t) is))
made_written (step.Encode t ∷ es) all log f is = made_one all log es (step.Encode t) f is refl (made_written es all (log ++ step.Encode t ∷ []) (step_placed f (suc (length log))) (further all log es (step.Encode t) is))
made_written (step.Selector a t ∷ es) all log f is = made_one all log es (step.Selector a t) f is refl (made_written es all (log ++ step.Selector a t ∷ []) (step_placed f (suc (length log))) (further all log es (step.Selector a t) is))
made_written (step.Rewrite r ∷ es) all log f is = made_one all log es (step.Rewrite r) f is refl (made_written es all (log ++ step.Rewrite r ∷ []) (step_placed f (suc (length log))) (further all log es (step.Rewrite r) is))
made_written (step.Equal t u ∷ es) all log f is = made_one all log es (step.Equal t u) f is refl (made_written es all (log ++ step.Equal t u ∷ []) (step_placed f (suc (length log))) (further all log es (step.Equal t u) is))
