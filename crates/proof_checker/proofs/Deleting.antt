-- Places that are deleted, and lines that name one.
use Rattle.std.proofs.Common.{◌≡◌, ℕ, ◌+◌, ◌<◌, Bool, true, false, List, [], ◌∷◌, ◌++◌, length, map, get_or, take, drop, refl, sym, ap, ap₂, ◌∙◌, subst, inl, inr, ⊎_elim, append_assoc, append-nil, Result, Ok, Err, IfOk}
use Rattle.std.specs.Prelude.{◌||◌, ◌==◌, if◌then◌else◌, Some}
use Rattle.std.specs.List.{list_any}
use Rattle.std.specs.declared.alloc.AllocError.{AllocError}
use Rattle.std.proofs.lemmas.Bool.{cases_eq, eq-eqb, ne_eqb, false≢true}
use Rattle.std.proofs.Math.Bool.{or-true, or-false}
use Rattle.std.proofs.Math.Seq.{take-append_seam}
use Rattle.std.proofs.lemmas.List.{take_more, take-append-drop}
use Rattle.std.proofs.lemmas.List.Folds.{list_any-append}
use Rattle.script_state.specs.States.{StateValue}
use Rattle.script_state.specs.declared.answer.Verdict.TheVariants as verdict
use Rattle.cnf_base.specs.declared.clause.ClauseId.{ClauseId}
use Rattle.theory_terms.specs.declared.lemma.Lemma.{Lemma}
use Rattle.theory_terms.specs.declared.lemma.Lemma.TheVariants as lemma
use Rattle.proof_log.specs.declared.entry.Entry.{Entry}
use Rattle.proof_log.specs.declared.entry.Entry.TheVariants as entry
use Rattle.proof_text.specs.declared.list.WrittenHint.{WrittenHint}
use Rattle.proof_log.specs.Logs.{entry_at}
use Rattle.faded_log.specs.Faded.{FadedValue}
use Rattle.proof_log.specs.Diaries.{with_held}
use Rattle.proof_text.specs.declared.line.Line.{Line}
use Rattle.proof_text.specs.declared.line.Line.TheVariants as line
use Rattle.proof_text.specs.Deletions.{AreDeletable, cites, is_deletable, is_deleted}
use Rattle.proof_text.specs.Entries.{entry_line, head_of, lemma_line, written_hint, written_literal}
use Rattle.accepted_proof.specs.declared.refusal.RuleName.TheVariants as rule
use Rattle.accepted_proof.specs.Turns.{IsRefutation}
use Rattle.accepted_proof.specs.Judged.{AtStep, IsStepOf, refused}
use Rattle.accepted_proof.proofs.Once.{term_line}
use Rattle.proof_checker.specs.Checkers.{CheckerValue, GoesTo, closed_with, hints_in, judged_so}

-- ---- chains

hints_same : (deleted : List ℕ) (names : List ClauseId) → list_any (λ (h : ClauseId). is_deleted deleted h.pos) names ≡ list_any (λ (h : WrittenHint). is_deleted deleted h.pos) (map written_hint names)
hints_same deleted [] = refl
hints_same deleted (n ∷ ns) = ap (λ b. is_deleted deleted n.pos || b) (hints_same deleted ns)

-- whether a step cites a deleted place is told of its line
module _ (deleted : List ℕ) (l : Line) where
  abbrev cited : Line → Bool
  cited x = list_any (λ (h : WrittenHint). is_deleted deleted h.pos) (hints_in x)

  lemma_cites : (a : Lemma) → lemma_line a ≡ l → false ≡ cited l
  lemma_cites (lemma.Congruence t u) p = ap cited p
  lemma_cites (lemma.Witness t) p = ap cited p
  lemma_cites (lemma.Arrays a b) p = ap cited p

  pub cites_line : (e : Entry) → entry_line e ≡ Some l → cites deleted e ≡ cited l
  cites_line (entry.Node n) e = let t = term_line (head_of n.op) n.args l e in sym (ap cited t.written)
  cites_line (entry.Leaf t) e = let p : line.Leaf t ≡ l = cc in ap cited p
  cites_line (entry.Encode t) e = let p : line.Encode t ≡ l = cc in ap cited p
  cites_line (entry.Selector a t) e = let p : line.Selector a ≡ l = cc in ap cited p
  cites_line (entry.Chain c names) e = let p : line.Chain (map written_literal c) (map written_hint names) ≡ l = cc in hints_same deleted names ∙ ap cited p
  cites_line (entry.Rewrite r) e = let p : line.Rewrite r.rule r.from r.to ≡ l = cc in ap cited p
  cites_line (entry.Equal t u) e = let p : line.Equal t u ≡ l = cc in ap cited p
  cites_line (entry.Lemma a) e = let p : lemma_line a ≡ l = cc in lemma_cites a p

-- no step of a line is taken that cites a deleted place
pub no_cited : (s : StateValue) (log : FadedValue) (deleted : List ℕ) (l : Line) (b : Bool) → ((e : Entry) → entry_line e ≡ Some l → cites deleted e ≡ b) → b ≡ true
    → ((e : Entry) → IsStepOf s log.entries deleted l e → ⊥) × (s ≡ s) × (log ≡ log)
no_cited s log deleted l b h t = ((λ e is. false≢true (sym is.left ∙ h e is.written ∙ t)), refl, refl)

-- ---- one place after the other

deleted_append : (xs ys : List ℕ) (p : ℕ) → is_deleted (xs ++ ys) p ≡ (is_deleted xs p || is_deleted ys p)
deleted_append xs ys p = list_any-append (λ q. q == p) xs ys

-- a bit more is set for the last of the places
pub one_more_set : (bits next : ℕ → Bool) (places : List ℕ) (x : ℕ) → ((p : ℕ) → bits p ≡ is_deleted places p) → ((p : ℕ) → next p ≡ with_held bits x true p) → (p : ℕ) → next p ≡ is_deleted (places ++ x ∷ []) p
one_more_set bits next places x same set p =
    ⊎_elim
    (λ e. set p ∙ ap (λ t. if t then true else bits p) (eq-eqb p x e) ∙ sym (deleted_append places (x ∷ []) p ∙ ap (λ t. is_deleted places p || (t || false)) (eq-eqb x p (sym e)) ∙ or-true (is_deleted places p)))
    (λ ne. set p ∙ ap (λ t. if t then true else bits p) (ne_eqb p x ne) ∙ same p ∙ sym (deleted_append places (x ∷ []) p ∙ ap (λ t. is_deleted places p || (t || false)) (ne_eqb x p (λ e. ne (sym e))) ∙ or-false (is_deleted places p)))
    (cases_eq p x)

module _ (log : List Entry) where
  deletable_last : (deleted xs : List ℕ) (x : ℕ) → AreDeletable log deleted xs → is_deletable (entry_at log x) ≡ true → is_deleted (deleted ++ xs) x ≡ false → AreDeletable log deleted (xs ++ x ∷ [])
  deletable_last deleted [] x h a b = (a, subst (λ ds. is_deleted ds x ≡ false) (append-nil deleted) b, tt)
  deletable_last deleted (y ∷ ys) x h a b = (h.0, h.1, deletable_last (deleted ++ y ∷ []) ys x h.2 a (subst (λ ds. is_deleted ds x ≡ false) (sym (append_assoc deleted (y ∷ []) ys)) b))

  -- of places that can be deleted, each can behind those before it
  deletable_at : (deleted xs : List ℕ) (x : ℕ) (ys : List ℕ) → AreDeletable log deleted (xs ++ x ∷ ys) → (is_deletable (entry_at log x) ≡ true) × (is_deleted (deleted ++ xs) x ≡ false)
  deletable_at deleted [] x ys h = (h.0, subst (λ ds. is_deleted ds x ≡ false) (sym (append-nil deleted)) h.1)
  deletable_at deleted (y ∷ xs) x ys h =
      let at = deletable_at (deleted ++ y ∷ []) xs x ys h.2 in
      (at.0, subst (λ ds. is_deleted ds x ≡ false) (append_assoc deleted (y ∷ []) xs) at.1)

  -- the first so many are deleted, and the next is looked at
  module _ (deleted now places : List ℕ) (k d : ℕ) (lt : k < length places) (same : now ≡ deleted ++ take k places) where
    one_more : take (k + 1) places ≡ take k places ++ get_or places k d ∷ []
    one_more = take_more places k d lt

    pub more_deletable : AreDeletable log deleted (take k places) → (is_deletable (entry_at log (get_or places k d)) ≡ true) × (is_deleted now (get_or places k d) ≡ false) → AreDeletable log deleted (take (k + 1) places)
    more_deletable h a = subst (AreDeletable log deleted) (sym one_more) (deletable_last deleted (take k places) (get_or places k d) h a.0 (subst (λ ds. is_deleted ds (get_or places k d) ≡ false) same a.1))

    pub more_deleted : (next : List ℕ) → next ≡ now ++ get_or places k d ∷ [] → next ≡ deleted ++ take (k + 1) places
    more_deleted next e = e ∙ ap (λ ds. ds ++ get_or places k d ∷ []) same ∙ append_assoc deleted (take k places) (get_or places k d ∷ []) ∙ ap (λ ds. deleted ++ ds) (sym one_more)

    pub none_more : ((is_deletable (entry_at log (get_or places k d)) ≡ true) × (is_deleted now (get_or places k d) ≡ false) → ⊥) → AreDeletable log deleted places → ⊥
    none_more bad h =
        let split : places ≡ take k places ++ get_or places k d ∷ drop (k + 1) places = sym (take-append-drop (k + 1) places) ∙ ap (λ xs. xs ++ drop (k + 1) places) one_more ∙ append_assoc (take k places) (get_or places k d ∷ []) (drop (k + 1) places) in
        let at = deletable_at deleted (take k places) (get_or places k d) (drop (k + 1) places) (subst (AreDeletable log deleted) split h) in
        bad (at.0, subst (λ ds. is_deleted ds (get_or places k d) ≡ false) (sym same) at.1)

-- those that were deleted before are the first of all
pub before_all : (deleted now xs : List ℕ) (n : ℕ) → n ≡ length deleted → now ≡ deleted ++ xs → take n now ≡ deleted
before_all deleted now xs n e same = ap₂ take e same ∙ take-append_seam deleted xs

-- the bits are those of the places
pub same_bits : (bits places : ℕ → Bool) → ((p : ℕ) → bits p ≡ places p) → bits ≡ places
same_bits bits places h = λ i p. h p i

-- ---- refutations

module _ (c : CheckerValue) (p : ℕ) where
  abbrev Refutes : Type 0
  Refutes = (is_deleted c.judging.deleted p ≡ false) × IsRefutation c.judging.state c.judging.state.terms.nodes c.judging.log p

  pub unsat_refused : (d : CheckerValue) → (Refutes → ⊥) → d ≡ judged_so c (refused c.judging rule.Unsat) → GoesTo (AtStep c.judging (line.Unsat p)) c d
  unsat_refused d none e = subst (GoesTo (AtStep c.judging (line.Unsat p)) c) (sym e) (record { judged = inr (none, refl); verdicts = refl })

  pub unsat_closed : (r : Result CheckerValue AllocError) → Refutes → IfOk r (λ d. d ≡ closed_with c verdict.Unsat) → IfOk r (λ d. GoesTo (AtStep c.judging (line.Unsat p)) c d)
  unsat_closed (Err x) is e = tt
  unsat_closed (Ok d) is e = subst (GoesTo (AtStep c.judging (line.Unsat p)) c) (sym e) (record { judged = inl (is, refl); verdicts = refl })
