-- The lemmas and the chains that a record needs go into the file behind what the check made.
use Rattle.std.proofs.Common.{◌≡◌, ℕ, zero, suc, ◌<◌, ◌≤◌, true, false, List, [], ◌∷◌, ◌++◌, length, map, Option, Some, Ok, refl, sym, ap, ap₂, subst, ◌∙◌, arith, inl, inr, ⊎_elim, append_assoc, append-nil}
use Rattle.std.specs.Prelude.{◌⊎◌, Contains, slice_get, IsSome, option_map, option_to_list}
use Rattle.std.specs.List.{list_any}
use Rattle.std.proofs.lemmas.Bool.{or_from}
use Rattle.cnf_base.specs.Literals.{Literal}
use Rattle.cnf_base.specs.Assignments.{AreBelow}
use Rattle.cnf_base.specs.declared.clause.ClauseId.{ClauseId}
use Rattle.cnf_base.proofs.Agreeing.{AreBelow-more}
use Rattle.cnf_base.proofs.Lists.{Contains-first, Contains-later, Contains-nil, slice_get-at}
use Rattle.hint_chain.specs.Chains.{IsChain}
use Rattle.theory_terms.specs.declared.lemma.Lemma.{Lemma}
use Rattle.theory_lemmas.specs.Clauses.{clause_of}
use Rattle.script_state.specs.States.{StateValue}
use Rattle.proof_log.specs.declared.entry.Entry.{Entry}
use Rattle.proof_log.specs.declared.entry.Entry.TheVariants as step
use Rattle.proof_log.specs.Logs.{LogState, clause_at, clause_in, entry_at, state_of, IsLemma}
use Rattle.proof_log.specs.Faults.{IsValid}
use Rattle.proof_log.specs.Diaries.{is_chain}
use Rattle.proof_log.proofs.Growth.{lemma_row, row_of, entry_within}
use Rattle.proof_text.specs.Deletions.{cites, is_deletable, is_deleted}
use Rattle.proof_text.specs.Entries.{entry_line}
use Rattle.accepted_proof.specs.Turns.{IsOfScript, with_step, with_steps, AreStepsOf}
use Rattle.accepted_proof.proofs.Reaching.{IsReached, reached_by_step}
use Rattle.proof_file.specs.Places.{FileValue, with_steps_of, placed, placed_hint, placed_steps}
use Rattle.proof_file.specs.Places.{with_step as step_placed}
use Rattle.proof_file.specs.Needed.{AreRising}
use Rattle.trimmed_proofs.proofs.States.{StandsAt, bare, made_of, same_bare, stands_at}
use Rattle.trimmed_proofs.proofs.Steps.{chain_by_names, first_or_later, hint_finds, lemma_more}
use Rattle.trimmed_proofs.proofs.Filing.{HasPlace, added, place_here, place_elsewhere, place_cases, some_here}
use Rattle.trimmed_proofs.proofs.Walking.{AreBeside, derived_alone, length_more, made_append, same_state}

-- the hints of the step stand in the file
abbrev pub HintsStand : (ℕ → ℕ) → Entry → Type 0
HintsStand places e = (c : List Literal) (hints : List ClauseId) (i : ClauseId) → e ≡ step.Chain c hints → Contains hints i → HasPlace places i.pos

-- ---- one step more

none_cited : (deleted : List ℕ) (places : ℕ → ℕ) → ((p : ℕ) → is_deleted deleted (places p) ≡ false) → (hints : List ClauseId) → list_any (λ (h : ClauseId). is_deleted deleted h.pos) (map (placed_hint places) hints) ≡ false
none_cited deleted places h [] = refl
none_cited deleted places h (i ∷ is) = or_from (is_deleted deleted (places i.pos)) (list_any (λ (x : ClauseId). is_deleted deleted x.pos) (map (placed_hint places) is)) (h i.pos) (none_cited deleted places h is)

-- the step is valid behind the file, and stands at the next place
pub record IsWritten (s : StateValue) (log file : List Entry) (deleted : List ℕ) (f : FileValue) (p : ℕ) (e : Entry) : Type 0 where
  pub valid : IsValid s.terms (state_of s.terms.nodes file) e
  pub of : IsOfScript s e
  pub line : IsSome (entry_line e)
  pub same : with_step s e ≡ s
  pub kept : cites deleted e ≡ false
  pub beside : AreBeside s log (file ++ e ∷ []) deleted (step_placed f p)

module _ (s : StateValue) (log file : List Entry) (deleted : List ℕ) (f : FileValue) (p : ℕ) (h : AreBeside s log file deleted f) (nowhere : f.places p ≡ 0) where
  some_place : (d : Entry) → entry_at log p ≡ Some d → 0 < p
  some_place d e = go p e
    where
      go : (q : ℕ) → entry_at log q ≡ Some d → 0 < q
      go zero e = let z : ⊥ = cc in absurd z
      go (suc q) e = omega arith

  -- the file with a lemma or a chain, which has the clauses of the position
  beside_more : (d e : Entry) → entry_at log p ≡ Some d → is_deletable (Some e) ≡ true → is_chain (Some e) ≡ is_chain (Some d) → is_deletable (Some e) ≡ is_deletable (Some d) → slice_get (state_of s.terms.nodes log).clauses p ≡ Some (row_of s.terms.nodes (state_of s.terms.nodes file) e)
      → IsValid s.terms (state_of s.terms.nodes file) e → IsOfScript s e → AreBeside s log (file ++ e ∷ []) deleted (step_placed f p)
  beside_more d e at derived chain kind row valid of = record {
    log_reached = h.log_reached;
    file_reached = subst (λ (x : StateValue). IsReached x (file ++ e ∷ [])) (same_state s e derived) (reached_by_step s file h.file_reached e valid of);
    made = made_append file (e ∷ []) ∙ ap (λ (m : List Entry). made_of file ++ m) (derived_alone e derived) ∙ append-nil (made_of file) ∙ h.made;
    keeps = λ q le n. still q (h.keeps q le n);
    placing = added s.terms.nodes log file deleted f p e h.placing (record {
      some = some_place d at;
      among = entry_within log p d at;
      nowhere = nowhere;
      row = row;
      chain = chain ∙ sym (ap is_chain at);
      kind = kind ∙ sym (ap is_deletable at);
    });
  }
    where
      still : (q : ℕ) → HasPlace f.places q → HasPlace (step_placed f p).places q
      still q has = ⊎_elim (λ z. inl z) (λ some. inr (place_cases f p q (λ y. 0 < y) (λ same. omega arith) (λ ne. some))) has

  file_bare : bare (state_of s.terms.nodes log) ≡ bare (state_of s.terms.nodes file)
  file_bare = sym (same_bare s.terms.nodes log file h.made)

  lemma_written : (l : Lemma) → entry_at log p ≡ Some (step.Lemma l) → IsWritten s log file deleted f p (step.Lemma l)
  lemma_written l at = record {
    valid = valid;
    of = tt;
    line = refl;
    same = refl;
    kept = refl;
    beside = beside_more (step.Lemma l) (step.Lemma l) at refl refl refl (here.row ∙ ap (λ r. Some (lemma_row r)) (here.valid.is ∙ sym clause_is)) valid tt;
  }
    where
      here : StandsAt s.terms.nodes log p (step.Lemma l)
      here = stands_at s.terms.nodes log p (step.Lemma l) h.log_reached.steps at

      clause_is : clause_of s.terms.nodes (state_of s.terms.nodes file).bits (state_of s.terms.nodes file).equals l ≡ Ok here.valid.clause
      clause_is =
          lemma_more (state_of s.terms.nodes here.front).bits (state_of s.terms.nodes file).bits (state_of s.terms.nodes here.front).equals (state_of s.terms.nodes file).equals
          (subst (λ (x : LogState). (t : ℕ) (b : List Literal) → (state_of s.terms.nodes here.front).bits t ≡ Some b → x.bits t ≡ Some b) file_bare here.holds.bits)
          (subst (λ (x : LogState). (t u : ℕ) (a : Literal) → (state_of s.terms.nodes here.front).equals t u ≡ Some a → x.equals t u ≡ Some a) file_bare here.holds.equals)
          s.terms.nodes l here.valid.clause here.valid.is

      valid : IsLemma s.terms.nodes (state_of s.terms.nodes file) l
      valid = record { clause = here.valid.clause; is = clause_is }

  chain_written : (c : List Literal) (hints : List ClauseId) → entry_at log p ≡ Some (step.Chain c hints) → ((i : ClauseId) → Contains hints i → HasPlace f.places i.pos) → IsWritten s log file deleted f p (step.Chain c (map (placed_hint f.places) hints))
  chain_written c hints at stand = record {
    valid = valid;
    of = tt;
    line = refl;
    same = refl;
    kept = none_cited deleted f.places h.placing.left hints;
    beside = beside_more (step.Chain c hints) (step.Chain c (map (placed_hint f.places) hints)) at refl refl refl here.row valid tt;
  }
    where
      here : StandsAt s.terms.nodes log p (step.Chain c hints)
      here = stands_at s.terms.nodes log p (step.Chain c hints) h.log_reached.steps at

      finds : (i : ClauseId) → Contains hints i → clause_at (state_of s.terms.nodes file).clauses (placed_hint f.places i) ≡ clause_at (state_of s.terms.nodes here.front).clauses i
      finds i m =
          let found = hint_finds (clause_at (state_of s.terms.nodes here.front).clauses) c hints i here.valid.1 m in
          ap (λ (o : Option (List (List Literal))). clause_in o i.part) (h.placing.rows i.pos (stand i m))
          ∙ here.holds.clauses i found.0 found.1
          ∙ sym found.1

      valid : AreBelow (state_of s.terms.nodes file).next c × IsChain (clause_at (state_of s.terms.nodes file).clauses) c (map (placed_hint f.places) hints)
      valid = (
        AreBelow-more (state_of s.terms.nodes here.front).next (state_of s.terms.nodes file).next (subst (λ (x : LogState). (state_of s.terms.nodes here.front).next ≤ x.next) file_bare here.holds.next) c here.valid.0,
        chain_by_names (clause_at (state_of s.terms.nodes here.front).clauses) (clause_at (state_of s.terms.nodes file).clauses) (placed_hint f.places) c hints finds here.valid.1,
      )

  -- a lemma or a chain whose hints stand goes into the file
  pub written : (e : Entry) → entry_at log p ≡ Some e → is_deletable (Some e) ≡ true → HintsStand f.places e → IsWritten s log file deleted f p (placed f.places e)
  written (step.Lemma l) at d stand = lemma_written l at
  written (step.Chain c hints) at d stand = chain_written c hints at (λ i m. stand c hints i refl m)
  written (step.Node n) at d stand = let z : ⊥ = cc in absurd z
  written (step.Leaf t) at d stand = let z : ⊥ = cc in absurd z
  written (step.Encode t) at d stand = let z : ⊥ = cc in absurd z
  written (step.Selector a t) at d stand = let z : ⊥ = cc in absurd z
  written (step.Rewrite r) at d stand = let z : ⊥ = cc in absurd z
  written (step.Equal t u) at d stand = let z : ⊥ = cc in absurd z

-- ---- placed steps

hints_agree : (places more : ℕ → ℕ) (hints : List ClauseId) → ((i : ClauseId) → Contains hints i → more i.pos ≡ places i.pos) → map (placed_hint more) hints ≡ map (placed_hint places) hints
hints_agree places more [] h = refl
hints_agree places more (i ∷ is) h =
    ap₂ (λ (n : ℕ) (xs : List ClauseId). let x : ClauseId = record { pos = n; part = i.part } in x ∷ xs) (h i (Contains-first i is)) (hints_agree places more is (λ j m. h j (Contains-later i j is m)))

-- the step is told by other places in the same way, if these are the same for its hints
pub placed_agree : (places more : ℕ → ℕ) (e : Entry) → ((c : List Literal) (hints : List ClauseId) (i : ClauseId) → e ≡ step.Chain c hints → Contains hints i → more i.pos ≡ places i.pos) → placed more e ≡ placed places e
placed_agree places more (step.Chain c hints) h = ap (step.Chain c) (hints_agree places more hints (λ i m. h c hints i refl m))
placed_agree places more (step.Node n) h = refl
placed_agree places more (step.Leaf t) h = refl
placed_agree places more (step.Encode t) h = refl
placed_agree places more (step.Selector a t) h = refl
placed_agree places more (step.Rewrite r) h = refl
placed_agree places more (step.Equal t u) h = refl
placed_agree places more (step.Lemma l) h = refl

-- ---- all that is needed

-- rising numbers are no lower than the first bound
pub rising_above : (low : ℕ) (ps : List ℕ) (q : ℕ) → AreRising low ps → Contains ps q → low ≤ q
rising_above low [] q h m = absurd (Contains-nil q m)
rising_above low (p ∷ ps) q h m =
    ⊎_elim (λ same. let a = h.0 in let z : low ≤ q = omega (arith, a, same) in z) (λ more. let a = h.0 in let b = rising_above (suc p) ps q h.1 more in let z : low ≤ q = omega (arith, a, b) in z) (first_or_later p q ps m)

-- What of these positions is known: each is that of a lemma or a chain without a place; of the hints of each, those that have no
-- place are among these, and come before.
pub record CanBeWritten (log : List Entry) (f : FileValue) (ps : List ℕ) : Type 0 where
  pub entry : (q : ℕ) → Contains ps q → (e : Entry) × (entry_at log q ≡ Some e) × (is_deletable (Some e) ≡ true) × (f.places q ≡ 0)
  pub hints : (q : ℕ) (c : List Literal) (hints : List ClauseId) (i : ClauseId) → Contains ps q → entry_at log q ≡ Some (step.Chain c hints) → Contains hints i → (i.pos < q) × (HasPlace f.places i.pos ⊎ Contains ps i.pos)

-- these stand in the file, each behind what was there, and what had a place has the same
pub record AreWritten (s : StateValue) (log file : List Entry) (deleted : List ℕ) (f : FileValue) (ps : List ℕ) (es : List Entry) : Type 0 where
  pub steps : AreStepsOf s file es
  pub state : with_steps s es ≡ s
  pub beside : AreBeside s log (file ++ es) deleted (with_steps_of f ps)
  pub none_cited : (e : Entry) → Contains es e → cites deleted e ≡ false
  pub stays : (q : ℕ) → HasPlace f.places q → (with_steps_of f ps).places q ≡ f.places q
  pub placed_at : (q : ℕ) → Contains ps q → length file < (with_steps_of f ps).places q
  pub told : (q : ℕ) → Contains ps q → entry_at (file ++ es) ((with_steps_of f ps).places q) ≡ option_map (placed (with_steps_of f ps).places) (entry_at log q)
  pub only : (q : ℕ) → 0 < (with_steps_of f ps).places q → (0 < f.places q) ⊎ Contains ps q

module _ (s : StateValue) (log file : List Entry) (deleted : List ℕ) (f : FileValue) (p : ℕ) (ps : List ℕ) (low : ℕ) (h : AreBeside s log file deleted f) (rise : AreRising low (p ∷ ps)) (can : CanBeWritten log f (p ∷ ps)) where
  abbrev pub first : Entry
  first = (can.entry p (Contains-first p ps)).0

  first_at : entry_at log p ≡ Some first
  first_at = (can.entry p (Contains-first p ps)).1

  no_place : f.places p ≡ 0
  no_place = (can.entry p (Contains-first p ps)).3

  hints_stand : HintsStand f.places first
  hints_stand c hints i e m =
      let of = can.hints p c hints i (Contains-first p ps) (first_at ∙ ap Some e) m in
      ⊎_elim (λ has. has) (λ among. ⊎_elim (λ same. let a = of.0 in absurd (omega (arith, a, same))) (λ more. let a = of.0 in let b = rising_above (suc p) ps i.pos rise.1 more in absurd (omega (arith, a, b))) (first_or_later p i.pos ps among)) of.1

  pub first_written : IsWritten s log file deleted f p (placed f.places first)
  first_written = written s log file deleted f p h no_place first first_at (can.entry p (Contains-first p ps)).2 hints_stand

  still : (q : ℕ) → HasPlace f.places q → HasPlace (step_placed f p).places q
  still q has = ⊎_elim (λ z. inl z) (λ some. inr (place_cases f p q (λ y. 0 < y) (λ same. omega arith) (λ ne. some))) has

  -- where the position has a place, it is none of these
  other : (q : ℕ) → HasPlace f.places q → q ≡ p → ⊥
  other q has same =
      let none = subst (λ (x : ℕ). f.places x ≡ 0) (sym same) no_place in
      ⊎_elim (λ z. let a = not_zero q same in omega (arith, a, z)) (λ some. omega (arith, none, some)) has
    where
      not_zero : (x : ℕ) → x ≡ p → 0 < x
      not_zero zero e = let z : entry_at log 0 ≡ Some first = ap (entry_at log) e ∙ first_at in let w : ⊥ = cc in absurd w
      not_zero (suc x) e = omega arith

  pub rest_can : CanBeWritten log (step_placed f p) ps
  rest_can = record {
    entry = λ q m.
        let e = can.entry q (Contains-later p q ps m) in
        let above = rising_above (suc p) ps q rise.1 m in
        (e.0, e.1, e.2, place_elsewhere f p q (λ same. omega (arith, above, same)) ∙ e.3);
    hints = λ q c hints i m at among.
        let of = can.hints q c hints i (Contains-later p q ps m) at among in
        (of.0, ⊎_elim (λ has. inl (still i.pos has)) (λ in_all. ⊎_elim (λ same. inl (inr (subst (λ (x : ℕ). 0 < (step_placed f p).places x) same (some_here f p)))) (λ more. inr more) (first_or_later p i.pos ps in_all)) of.1);
  }

  module _ (w : AreWritten s log (file ++ placed f.places first ∷ []) deleted (step_placed f p) ps (placed_steps log (step_placed f p) ps)) where
    all_stay : (q : ℕ) → HasPlace f.places q → (with_steps_of (step_placed f p) ps).places q ≡ f.places q
    all_stay q has = w.stays q (still q has) ∙ place_elsewhere f p q (other q has)

    at_first : (with_steps_of (step_placed f p) ps).places p ≡ suc (length file)
    at_first = w.stays p (inr (some_here f p)) ∙ place_here f p ∙ ap suc h.placing.count

    file_is : (file ++ placed f.places first ∷ []) ++ placed_steps log (step_placed f p) ps ≡ file ++ placed f.places first ∷ placed_steps log (step_placed f p) ps
    file_is = append_assoc file (placed f.places first ∷ []) (placed_steps log (step_placed f p) ps)

    told_first : entry_at (file ++ placed f.places first ∷ placed_steps log (step_placed f p) ps) ((with_steps_of (step_placed f p) ps).places p) ≡ option_map (placed (with_steps_of (step_placed f p) ps).places) (entry_at log p)
    told_first =
        ap (entry_at (file ++ placed f.places first ∷ placed_steps log (step_placed f p) ps)) at_first
        ∙ slice_get-at file (placed f.places first) (placed_steps log (step_placed f p) ps)
        ∙ ap Some (sym (placed_agree f.places (with_steps_of (step_placed f p) ps).places first (λ c hints i e m. all_stay i.pos (hints_stand c hints i e m))))
        ∙ sym (ap (option_map (placed (with_steps_of (step_placed f p) ps).places)) first_at)

    pub one_more : AreWritten s log file deleted f (p ∷ ps) (placed f.places first ∷ placed_steps log (step_placed f p) ps)
    one_more = record {
      steps = (first_written.valid, first_written.of, first_written.line, subst (λ (x : StateValue). AreStepsOf x (file ++ placed f.places first ∷ []) (placed_steps log (step_placed f p) ps)) (sym first_written.same) w.steps);
      state = ap (λ (x : StateValue). with_steps x (placed_steps log (step_placed f p) ps)) first_written.same ∙ w.state;
      beside = subst (λ (l : List Entry). AreBeside s log l deleted (with_steps_of (step_placed f p) ps)) file_is w.beside;
      none_cited = λ e m. ⊎_elim (λ same. subst (λ (x : Entry). cites deleted x ≡ false) same first_written.kept) (λ more. w.none_cited e more) (first_or_later (placed f.places first) e (placed_steps log (step_placed f p) ps) m);
      stays = all_stay;
      placed_at = λ q m.
          ⊎_elim
          (λ same. subst (λ (x : ℕ). length file < (with_steps_of (step_placed f p) ps).places x) same (let a = at_first in omega (arith, a)))
          (λ more. let a = w.placed_at q more in let b = length_more file (placed f.places first) in omega (arith, a, b)) (first_or_later p q ps m);
      told = λ q m.
          ⊎_elim
          (λ same. subst (λ (x : ℕ). entry_at (file ++ placed f.places first ∷ placed_steps log (step_placed f p) ps) ((with_steps_of (step_placed f p) ps).places x) ≡ option_map (placed (with_steps_of (step_placed f p) ps).places) (entry_at log x)) same told_first)
          (λ more. subst (λ (l : List Entry). entry_at l ((with_steps_of (step_placed f p) ps).places q) ≡ option_map (placed (with_steps_of (step_placed f p) ps).places) (entry_at log q)) file_is (w.told q more)) (first_or_later p q ps m);
      only = λ q some. ⊎_elim (λ had. place_cases f p q (λ y. 0 < y → (0 < f.places q) ⊎ Contains (p ∷ ps) q) (λ same old. inr (subst (Contains (p ∷ ps)) (sym same) (Contains-first p ps))) (λ ne old. inl old) had) (λ more. inr (Contains-later p q ps more)) (w.only q some);
    }

    -- what is written of the first is the step by its places
    pub written_first : placed_steps log f (p ∷ ps) ≡ placed f.places first ∷ placed_steps log (step_placed f p) ps
    written_first = ap (λ (o : Option Entry). option_to_list (option_map (placed f.places) o) ++ placed_steps log (step_placed f p) ps) first_at

-- What a record needs is valid behind the file, in the order of the log.
pub all_written : (ps : List ℕ) (s : StateValue) (log file : List Entry) (deleted : List ℕ) (f : FileValue) (low : ℕ) → AreBeside s log file deleted f → AreRising low ps → CanBeWritten log f ps → AreWritten s log file deleted f ps (placed_steps log f ps)
all_written [] s log file deleted f low h rise can = record {
  steps = tt;
  state = refl;
  beside = subst (λ (l : List Entry). AreBeside s log l deleted f) (sym (append-nil file)) h;
  none_cited = λ e m. absurd (Contains-nil e m);
  stays = λ q has. refl;
  placed_at = λ q m. absurd (Contains-nil q m);
  told = λ q m. absurd (Contains-nil q m);
  only = λ q some. inl some;
}
all_written (p ∷ ps) s log file deleted f low h rise can =
    let rest = all_written ps s log (file ++ placed f.places (first s log file deleted f p ps low h rise can) ∷ []) deleted (step_placed f p) (suc p) (first_written s log file deleted f p ps low h rise can).beside rise.1 (rest_can s log file deleted f p ps low h rise can) in
    subst (AreWritten s log file deleted f (p ∷ ps)) (sym (written_first s log file deleted f p ps low h rise can rest)) (one_more s log file deleted f p ps low h rise can rest)
