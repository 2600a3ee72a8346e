-- Chains that are deleted and forgotten.
use Rattle.std.proofs.Common.{◌≡◌, ℕ, zero, suc, ◌+◌, ◌<◌, ◌≤◌, Bool, true, false, List, [], ◌∷◌, ◌++◌, length, Option, Some, None, Result, Ok, Err, IfOk, MatchBool, refl, sym, ap, ◌∙◌, subst, inl, inr, ⊎_elim, arith, append_assoc, append-nil}
use Rattle.std.specs.Prelude.{◌⊎◌, ◌||◌, ◌&&◌, ◌==◌, if◌then◌else◌, slice_get, option_map}
use Rattle.std.proofs.lemmas.Bool.{eqb-true, or_cases}
use Rattle.std.proofs.lemmas.List.Folds.{list_any-append}
use Rattle.std.proofs.Math.Bool.{or-true}
use Rattle.script_state.specs.declared.answer.Verdict.{Verdict}
use Rattle.proof_log.specs.declared.entry.Entry.{Entry}
use Rattle.proof_log.specs.declared.entry.Entry.TheVariants as entry
use Rattle.proof_log.specs.Diaries.{is_chain}
use Rattle.proof_log.specs.Logs.{entry_at}
use Rattle.proof_log.proofs.Growth.{entry_within, entry_left}
use Rattle.proof_text.specs.Deletions.{AreDeletable, is_deletable, is_deleted}
use Rattle.faded_log.specs.Faded.{FadedValue, blank, fade, faded, is_among, IsFaded}
use Rattle.faded_log.proofs.Fading.{fade_chain, fade_other, fade_kind, faded_at}
use Rattle.accepted_proof.specs.Judged as judged
use Rattle.accepted_proof.specs.Judged.{Owed, Judging, deleting, refused, Deletes, MovesBy, Moves}
use Rattle.accepted_proof.specs.Searching.{Limits}
use Rattle.accepted_proof.specs.declared.refusal.RuleName.TheVariants as rule
use Rattle.proof_text.specs.declared.line.Format.{Format}
use Rattle.proof_text.specs.declared.line.Format.TheVariants.{One, Two}
use Rattle.proof_text.specs.declared.line.Line.{Line}
use Rattle.proof_text.specs.declared.line.Line.TheVariants as line
use Rattle.script_state.specs.States.{StateValue}
use Rattle.smt_values.specs.declared.value.Value.{Value}
use Rattle.smt_build.specs.declared.symbols.LiveName.{LiveName}
use Rattle.proof_checker.specs.declared.due.Due.{Due}
use Rattle.proof_checker.specs.declared.due.Due.TheVariants as due
use Rattle.proof_checker.specs.Checkers.{CheckerValue, GoesTo, IsOpen, IsOwedValues, and_shown, judged_so, owed_of}
use Rattle.proof_checker.proofs.Moving.{are_owed}
use Rattle.proof_checker.specs.Deletions.{IsForgotten, AreChainsForgotten, IsAlike, AreAlike, IsLikened, GoesToLike}

-- ---- what is forgotten

fade_forgotten : (gone : Bool) (o : Option Entry) → IsForgotten o → IsForgotten (option_map (fade gone) o)
fade_forgotten true (Some (entry.Chain c hints)) h = refl
fade_forgotten false (Some (entry.Chain c hints)) h = h
fade_forgotten true (Some (entry.Lemma l)) h = tt
fade_forgotten false (Some (entry.Lemma l)) h = tt
fade_forgotten gone (Some (entry.Node n)) h = absurd h
fade_forgotten gone (Some (entry.Leaf t)) h = absurd h
fade_forgotten gone (Some (entry.Encode t)) h = absurd h
fade_forgotten gone (Some (entry.Selector a t)) h = absurd h
fade_forgotten gone (Some (entry.Rewrite r)) h = absurd h
fade_forgotten gone (Some (entry.Equal t u)) h = absurd h
fade_forgotten gone None h = absurd h

fade_deletable : (o : Option Entry) → is_deletable o ≡ true → IsForgotten (option_map (fade true) o)
fade_deletable (Some (entry.Chain c hints)) h = refl
fade_deletable (Some (entry.Lemma l)) h = tt
fade_deletable (Some (entry.Node n)) h = let f : ⊥ = cc in absurd f
fade_deletable (Some (entry.Leaf t)) h = let f : ⊥ = cc in absurd f
fade_deletable (Some (entry.Encode t)) h = let f : ⊥ = cc in absurd f
fade_deletable (Some (entry.Selector a t)) h = let f : ⊥ = cc in absurd f
fade_deletable (Some (entry.Rewrite r)) h = let f : ⊥ = cc in absurd f
fade_deletable (Some (entry.Equal t u)) h = let f : ⊥ = cc in absurd f
fade_deletable None h = let f : ⊥ = cc in absurd f

-- each of some places that can be deleted can
one_deletable : (log : List Entry) (deleted places : List ℕ) (p : ℕ) → AreDeletable log deleted places → is_deleted places p ≡ true → is_deletable (entry_at log p) ≡ true
one_deletable log deleted [] p h is = let f : ⊥ = cc in absurd f
one_deletable log deleted (q ∷ ps) p h is = by (one_deletable log (deleted ++ q ∷ []) ps p h.2) (or_cases (q == p) (is_deleted ps p) is)
  where
    by : (is_deleted ps p ≡ true → is_deletable (entry_at log p) ≡ true) → ((q == p) ≡ true) ⊎ (is_deleted ps p ≡ true) → is_deletable (entry_at log p) ≡ true
    by rest (inl same) = ap (λ x. is_deletable (entry_at log x)) (sym (eqb-true q p same)) ∙ h.0
    by rest (inr later) = rest later

-- the entry at a position of the log of which some is forgotten
entry_faded : (gone : ℕ → Bool) (log : List Entry) (p : ℕ) → entry_at (faded gone 1 log) p ≡ option_map (fade (gone p)) (entry_at log p)
entry_faded gone log zero = refl
entry_faded gone log (suc p) = let at : 1 + p ≡ suc p = omega arith in faded_at gone 1 log p ∙ ap (λ q. option_map (fade (gone q)) (slice_get log p)) at

module _ (deleted places : List ℕ) (log : List Entry) (known : AreChainsForgotten deleted log) (can : AreDeletable log deleted places) where
  pub forgotten_faded : AreChainsForgotten (deleted ++ places) (faded (is_among places) 1 log)
  forgotten_faded p is = subst IsForgotten (sym (entry_faded (is_among places) log p)) (by (is_deleted places p) refl)
    where
      by : (b : Bool) → is_deleted places p ≡ b → IsForgotten (option_map (fade b) (entry_at log p))
      by true e = fade_deletable (entry_at log p) (one_deletable log deleted places p can e)
      by false e =
          let was : is_deleted deleted p ≡ true = old (is_deleted deleted p) refl in
          fade_forgotten false (entry_at log p) (known p was)
        where
          old : (b : Bool) → is_deleted deleted p ≡ b → b ≡ true
          old true k = refl
          old false k = sym e ∙ sym (ap (λ x. x || is_deleted places p) k) ∙ sym (list_any-append (λ q. q == p) deleted places) ∙ is

pub forgotten_more : (deleted : List ℕ) (log longer : List Entry) (e : Entry) → longer ≡ log ++ e ∷ [] → AreChainsForgotten deleted log → AreChainsForgotten deleted longer
forgotten_more deleted log longer e is h p gone = subst (λ es. IsForgotten (entry_at es p)) (sym is) (by (entry_at log p) refl (h p gone))
  where
    by : (o : Option Entry) → entry_at log p ≡ o → IsForgotten o → IsForgotten (entry_at (log ++ e ∷ []) p)
    by None at f = absurd f
    by (Some x) at f = subst IsForgotten (sym (entry_left log (e ∷ []) p (entry_within log p x at) ∙ at)) f

-- the same places are deleted, or these more
pub forgotten_same : (deleted now : List ℕ) (log : List Entry) → now ≡ deleted → AreChainsForgotten deleted log → AreChainsForgotten now log
forgotten_same deleted now log e h = subst (λ ds. AreChainsForgotten ds log) (sym e) h

pub none_forgotten : (log : List Entry) → AreChainsForgotten [] log
none_forgotten log p h = let f : ⊥ = cc in absurd f

-- ---- what is alike

alike_from : (gone wider : ℕ → Bool) → ((q : ℕ) → gone q ≡ true → wider q ≡ true) → (p : ℕ) (es : List Entry) → AreAlike wider p es (faded gone p es)
alike_from gone wider more p [] = tt
alike_from gone wider more p (e ∷ es) = (by (gone p) refl (is_chain (Some e)) refl, alike_from gone wider more (suc p) es)
  where
    by : (g : Bool) → gone p ≡ g → (b : Bool) → is_chain (Some e) ≡ b → IsAlike (wider p) e (fade (gone p) e)
    by false g b k = inl (sym (ap (λ x. fade x e) g))
    by true g false k = inl (sym (fade_other (gone p) e k))
    by true g true k = inr (more p g, k, fade_kind (gone p) e true k)

-- what is judged where places are deleted, over the log of which their chains are forgotten
pub deleting_like : (j : Judging) (places : List ℕ) (log : List Entry) → log ≡ faded (is_among places) 1 j.log → (k : Judging) →
    k ≡ record { format = j.format; limits = j.limits; state = j.state; log = log; deleted = j.deleted ++ places; owed = judged.Steps; line = j.line + 1 } → IsLikened (deleting j places) k
deleting_like j places log is k e =
    subst (λ x. IsLikened (deleting j places) x) (sym e)
    (record {
      format = refl;
      limits = refl;
      state = refl;
      log = subst (λ es. AreAlike (is_deleted (j.deleted ++ places)) 1 j.log es) (sym is) (alike_from (is_among places) (is_deleted (j.deleted ++ places)) more 1 j.log);
      deleted = refl;
      owed = refl;
      line = refl;
      left = tt;
    })
  where
    more : (q : ℕ) → is_among places q ≡ true → is_deleted (j.deleted ++ places) q ≡ true
    more q h = list_any-append (λ x. x == q) j.deleted places ∙ ap (λ b. is_deleted j.deleted q || b) h ∙ or-true (is_deleted j.deleted q)

-- ---- what a checker goes to

-- it is judged as may be
pub goes_plain : (To : Judging → Type 0) (c d : CheckerValue) → GoesTo To c d → GoesToLike To c d
goes_plain To c d g = record { to = d.judging; judged = g.judged; like = inl refl; verdicts = g.verdicts }

pub goes_plain_in : {E : Type 0} (To : Judging → Type 0) (c : CheckerValue) (r : Result CheckerValue E) → IfOk r (λ d. GoesTo To c d) → IfOk r (λ d. GoesToLike To c d)
goes_plain_in To c (Ok d) g = goes_plain To c d g
goes_plain_in To c (Err e) g = tt

-- the deletion of places, where steps are owed
pub goes_deleted : {E : Type 0} (c : CheckerValue) (l : Line) (places : List ℕ) (r : Result CheckerValue E) → c.judging.owed ≡ judged.Steps → l ≡ line.Delete places → IfOk r (λ d. GoesToLike (Deletes c.judging.format c.judging places) c d) → IfOk r (λ d. GoesToLike (Moves c.judging (Some l)) c d)
goes_deleted c l places (Ok d) e f g =
    subst (λ x. GoesToLike (Moves c.judging (Some x)) c d) (sym f)
    (subst (λ (o : Owed). GoesToLike (MovesBy o c.judging (Some (line.Delete places))) c d) (sym e) (record { to = g.to; judged = g.judged; like = g.like; verdicts = g.verdicts }))
goes_deleted c l places (Err x) e f g = tt

module _ (format : Format) (limits : Limits) (s : StateValue) (log : List Entry) (deleted : List ℕ) (o : Owed) (n : ℕ) (told : List Verdict) (places : List ℕ) where
  abbrev here : CheckerValue
  here = record { judging = record { format = format; limits = limits; state = s; log = log; deleted = deleted; owed = o; line = n }; verdicts = told }

  -- the first format cannot say it
  pub not_said : format ≡ One → (d : CheckerValue) → d ≡ judged_so here (refused here.judging rule.Line) → GoesToLike (Deletes format here.judging places) here d
  not_said f d e = subst (GoesToLike (Deletes format here.judging places) here) (sym e) (record { to = refused here.judging rule.Line; judged = subst (λ x. Deletes x here.judging places (refused here.judging rule.Line)) (sym f) refl; like = inl refl; verdicts = refl })

  two : (format ≡ One → ⊥) → format ≡ Two
  two ne = by format ne
    where
      by : (f : Format) → (f ≡ One → ⊥) → f ≡ Two
      by One h = absurd (h refl)
      by Two h = refl

  -- one of them cannot be deleted
  pub not_deleted : (format ≡ One → ⊥) → (now : List ℕ) → now ≡ deleted → (AreDeletable log deleted places → ⊥) → (d : CheckerValue) →
      d ≡ record { judging = record { format = format; limits = limits; state = s; log = log; deleted = now; owed = judged.Over (record { line = n; rule = rule.Delete }); line = n }; verdicts = told } → GoesToLike (Deletes format here.judging places) here d
  not_deleted f now same bad d e =
      subst (GoesToLike (Deletes format here.judging places) here) (sym (e ∙ ap (λ ds. record { judging = record { format = format; limits = limits; state = s; log = log; deleted = ds; owed = judged.Over (record { line = n; rule = rule.Delete }); line = n }; verdicts = told }) same))
      (record { to = refused here.judging rule.Delete; judged = subst (λ x. Deletes x here.judging places (refused here.judging rule.Delete)) (sym (two f)) (inr (bad, refl)); like = inl refl; verdicts = refl })

  -- they are deleted, and the chains among them forgotten
  pub are_deleted : (format ≡ One → ⊥) → (now : List ℕ) → now ≡ deleted ++ places → AreDeletable log deleted places → (less : List Entry) → less ≡ faded (is_among places) 1 log → (d : CheckerValue) →
      d ≡ record { judging = record { format = format; limits = limits; state = s; log = less; deleted = now; owed = judged.Steps; line = n + 1 }; verdicts = told } → GoesToLike (Deletes format here.judging places) here d
  are_deleted f now same can less is d e = record {
    to = deleting here.judging places;
    judged = subst (λ x. Deletes x here.judging places (deleting here.judging places)) (sym (two f)) (inl (can, refl));
    like = inr (deleting_like here.judging places less is d.judging (ap (λ (x : CheckerValue). x.judging) e ∙ ap (λ ds. record { format = format; limits = limits; state = s; log = less; deleted = ds; owed = judged.Steps; line = n + 1 }) same));
    verdicts = ap (λ (x : CheckerValue). x.verdicts) e ∙ sym (ap (λ (x : CheckerValue). and_shown told x.judging.owed x.judging.state.standing) e);
  }

-- where something else is due, no steps are owed
pub not_steps : (e : Due) (live : List LiveName) (values : List (ℕ × Value)) → IsOpen e live values → (e ≡ due.Steps → ⊥) → owed_of e live values ≡ judged.Steps → ⊥
not_steps due.Nothing live values h other e = let f : ⊥ = cc in f
not_steps due.Steps live values h other e = other refl
not_steps due.Values live values h other e = subst IsOwedValues e (are_owed due.Values live values refl h)
not_steps (due.Noted n) live values h other e = let f : ⊥ = cc in f
not_steps (due.Over r) live values h other e = let f : ⊥ = cc in f
