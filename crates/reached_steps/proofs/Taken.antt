-- Positions stay those of reached terms, their equalities and lemmas, where a search takes more equalities and lemmas.
use Rattle.std.proofs.Common.{◌≡◌, ℕ, zero, suc, ◌<◌, ◌≤◌, true, List, [], ◌∷◌, ◌++◌, length, length-append, Option, Some, None, Result, Ok, Err, refl, sym, ap, ◌∙◌, subst, inl, inr, ⊎_elim, arith}
use Rattle.std.specs.Prelude.{◌⊎◌, Contains, IsSome, slice_get}
use Rattle.std.specs.List.{AllByRecursion}
use Rattle.std.proofs.lemmas.Bool.{cases_lt}
use Rattle.std.proofs.lemmas.List.{take-append-le}
use Rattle.std.proofs.lemmas.Option.{slice_get_within}
use Rattle.std.proofs.Math.Seq.{take-append_seam}
use Rattle.cnf_base.specs.Literals.{Literal}
use Rattle.cnf_base.proofs.Lists.{each_member, slice_get-append_left}
use Rattle.smt_terms.specs.declared.node.Node.{Node}
use Rattle.smt_terms.specs.Terms.{IsTermList}
use Rattle.theory_terms.specs.declared.lemma.Lemma.{Lemma}
use Rattle.theory_lemmas.specs.declared.fault.LemmaFault.{LemmaFault}
use Rattle.theory_lemmas.specs.Clauses.{clause_of}
use Rattle.proof_log.specs.declared.entry.Entry.{Entry}
use Rattle.proof_log.specs.declared.entry.Entry.TheVariants as step
use Rattle.proof_log.specs.Logs.{LogState, start, clause_in, entry_at, equal_after, lemma_after, after, state_from, state_of, IsLog}
use Rattle.proof_log.specs.Meanings.{Owns}
use Rattle.proof_log.specs.Places.{GivesBits}
use Rattle.proof_log.specs.Assigned.{AreClosed}
use Rattle.proof_log.proofs.Growth.{positions, steps_rows}
use Rattle.proof_log.proofs.Ordered.{log_is_ordered}
use Rattle.cube_search.specs.Keeping.{is_theory}
use Rattle.reached_steps.specs.Reached.{IsOfTerms}
use Rattle.reached_steps.specs.Opening.{IsMadeAt, IsOfPair, IsOfLemma, AreOpeningSteps, IsSearchStep, AreTaken, TakenStepsAreOpening}
use Rattle.reached_steps.proofs.Steps.{first_steps, one_before}

-- ---- what a search's steps leave as it was

-- bits and images are the same
pub record KeepsBits (s r : LogState) : Type 0 where
  pub bits : r.bits ≡ s.bits
  pub images : r.images ≡ s.images

keeps_itself : (s : LogState) → KeepsBits s s
keeps_itself s = record { bits = refl; images = refl }

equal_keeps : (s : LogState) (t u : ℕ) (o p : Option (List Literal)) → KeepsBits s (equal_after s t u o p)
equal_keeps s t u None p = record { bits = refl; images = refl }
equal_keeps s t u (Some a) None = record { bits = refl; images = refl }
equal_keeps s t u (Some a) (Some b) = record { bits = refl; images = refl }

lemma_keeps : (s : LogState) (r : Result (List Literal) LemmaFault) → KeepsBits s (lemma_after s r)
lemma_keeps s (Ok c) = record { bits = refl; images = refl }
lemma_keeps s (Err f) = record { bits = refl; images = refl }

step_keeps : (nodes : List Node) (s : LogState) (e : Entry) → IsSearchStep e → KeepsBits s (after nodes s e)
step_keeps nodes s (step.Chain c hints) h = record { bits = refl; images = refl }
step_keeps nodes s (step.Equal t u) h = equal_keeps s t u (s.bits t) (s.bits u)
step_keeps nodes s (step.Lemma l) h = lemma_keeps s (clause_of nodes s.bits s.equals l)
step_keeps nodes s e (inl h) = let f : ⊥ = cc in absurd f
step_keeps nodes s e (inr h) = let f : ⊥ = cc in absurd f

steps_keep : (nodes : List Node) (s : LogState) (more : List Entry) → AllByRecursion IsSearchStep more → KeepsBits s (state_from nodes s more)
steps_keep nodes s [] h = keeps_itself s
steps_keep nodes s (e ∷ more) h =
    let one = step_keeps nodes s e h.0 in
    let rest = steps_keep nodes (after nodes s e) more h.1 in
    record { bits = rest.bits ∙ one.bits; images = rest.images ∙ one.images }

state_more : (nodes : List Node) (s : LogState) (log more : List Entry) → state_from nodes s (log ++ more) ≡ state_from nodes (state_from nodes s log) more
state_more nodes s [] more = refl
state_more nodes s (e ∷ log) more = state_more nodes (after nodes s e) log more

-- ---- what stands in a log stands behind more steps

module _ (log more : List Entry) where
  entry_same : (p : ℕ) → p ≤ length log → entry_at (log ++ more) p ≡ entry_at log p
  entry_same zero le = refl
  entry_same (suc p) le = slice_get-append_left log more p (omega (arith, le))

  entry_within : (p : ℕ) (e : Entry) → entry_at log p ≡ Some e → p ≤ length log
  entry_within zero e h = omega arith
  entry_within (suc p) e h = let lt = slice_get_within log p e h in omega (arith, lt)

  entry_stays : (p : ℕ) (e : Entry) → entry_at log p ≡ Some e → entry_at (log ++ more) p ≡ Some e
  entry_stays p e h = entry_same p (entry_within p e h) ∙ h

  gives_stays : (t p : ℕ) → GivesBits log t p → GivesBits (log ++ more) t p
  gives_stays t p (e, there, is_for) = (e, entry_stays p e there, is_for)

  terms_stay : (terms : List ℕ) (p : ℕ) → IsOfTerms log terms p → IsOfTerms (log ++ more) terms p
  terms_stay terms p (inl z) = inl z
  terms_stay terms p (inr (inl (t, c, g))) = inr (inl (t, c, gives_stays t p g))
  terms_stay terms p (inr (inr (a, t, c, e))) = inr (inr (a, t, c, entry_stays p (step.Selector a t) e))

  longer : length log ≤ length (log ++ more)
  longer = let e = length-append log more in omega (arith, e)

module _ (nodes : List Node) (log more : List Entry) (reached old new : List ℕ) (terms : IsTermList nodes) (is : IsLog nodes (log ++ more)) (h : AreOpeningSteps nodes log reached old) (k : AreTaken nodes log more reached old new) where
  abbrev both : List Entry
  both = log ++ more

  first_is : IsLog nodes log
  first_is = subst (IsLog nodes) (take-append_seam log more) (first_steps nodes start both (length log) is)

  same : KeepsBits (state_of nodes log) (state_of nodes both)
  same = subst (KeepsBits (state_of nodes log)) (sym (state_more nodes start log more)) (steps_keep nodes (state_of nodes log) more k.steps)

  clause_same : (p part : ℕ) → p ≤ length log → clause_in (slice_get (state_of nodes both).clauses p) part ≡ clause_in (slice_get (state_of nodes log).clauses p) part
  clause_same p part le =
      let r = steps_rows nodes (state_of nodes log) more in
      let long = positions nodes log in
      let lt : p < length (state_of nodes log).clauses = omega (arith, le, long) in
      ap (λ (s : LogState). clause_in (slice_get s.clauses p) part) (state_more nodes start log more)
      ∙ ap (λ rows. clause_in (slice_get rows p) part) r.1
      ∙ ap (λ o. clause_in o part) (slice_get-append_left (state_of nodes log).clauses r.0 p lt)

  owns_stays : (p x : ℕ) → Owns nodes log p x → Owns nodes both p x
  owns_stays p x o =
      let lt = o.step in
      let le = longer log more in
      record {
        step = omega (arith, lt, le);
        from = subst (λ l. (state_of nodes l).next ≤ x) (sym (take-append-le p log more (omega (arith, lt)))) o.from;
        upto = subst (λ l. x < (state_of nodes l).next) (sym (take-append-le (suc p) log more (omega (arith, lt)))) o.upto;
      }

  owns_back : (p x : ℕ) → p < length log → Owns nodes both p x → Owns nodes log p x
  owns_back p x lt o = record {
    step = lt;
    from = subst (λ l. (state_of nodes l).next ≤ x) (take-append-le p log more (omega (arith, lt))) o.from;
    upto = subst (λ l. x < (state_of nodes l).next) (take-append-le (suc p) log more (omega (arith, lt))) o.upto;
  }

  made_stays : (x : ℕ) → IsMadeAt nodes log old x → IsMadeAt nodes both new x
  made_stays x (inl one) = inl one
  made_stays x (inr (p, c, o)) = inr (p, k.kept (suc p) c, owns_stays p x o)

  -- a variable that was there was made at an old position
  made_back : (x : ℕ) → x < (state_of nodes log).next → IsMadeAt nodes both new x → IsMadeAt nodes log old x
  made_back x below (inl one) = inl one
  made_back x below (inr (p, c, o)) =
      let low = one_before nodes both terms is p in
      let from = o.from in
      let up : 1 < x = omega (arith, low, from) in
      let owner = (log_is_ordered nodes log terms first_is).owned x up below in
      let q : p ≡ owner.0 = (log_is_ordered nodes both terms is).once x p owner.0 o (owns_stays owner.0 x owner.1) in
      let lt : p < length log = subst (λ i. i < length log) (sym q) owner.1.step in
      ⊎_elim
      (λ (held : Contains old (suc p)). inr (p, held, owns_back p x lt o))
      (λ w. absurd (let past = w.0 in omega (arith, lt, past)))
      (k.only (suc p) c)

  lemmas_taken : (p part : ℕ) (lemma : Lemma) (c : List Literal) → entry_at both p ≡ Some (step.Lemma lemma) → clause_in (slice_get (state_of nodes both).clauses p) part ≡ Some c
      → Contains new p ⊎ ((l : Literal) × Contains c l × (IsMadeAt nodes both new l.variable → ⊥))
  lemmas_taken p part lemma c e g =
      ⊎_elim
      (λ (lt : length log < p). inl (k.all p lt (ap is_theory e)))
      (λ (le : p ≤ length log).
      let was = sym (clause_same p part le) ∙ g in
      ⊎_elim
      (λ held. inl (k.kept p held))
      (λ (w : (l : Literal) × Contains c l × (IsMadeAt nodes log old l.variable → ⊥)).
      let below = each_member (λ (l : Literal). l.variable < (state_of nodes log).next) c w.0 ((log_is_ordered nodes log terms first_is).clauses (record { pos = p; part = part }) c was) w.1 in
      inr (w.0, w.1, (λ m. w.2 (made_back w.0.variable below m))))
      (h.lemmas p part lemma c (sym (entry_same log more p le) ∙ e) was))
      (cases_lt (length log) p)

  abbrev IsOpening : ℕ → Type 0
  IsOpening p = IsOfTerms both reached p ⊎ (IsOfPair both reached p ⊎ IsOfLemma nodes both new p)

  old_stays : (p : ℕ) → IsOfTerms log reached p ⊎ (IsOfPair log reached p ⊎ IsOfLemma nodes log old p) → IsOpening p
  old_stays p (inl o) = inl (terms_stay log more reached p o)
  old_stays p (inr (inl (t, u, in_t, in_u, e))) = inr (inl (t, u, in_t, in_u, entry_stays log more p (step.Equal t u) e))
  old_stays p (inr (inr o)) =
      let le = entry_within log more p (step.Lemma o.lemma) o.is in
      inr (inr (record {
        lemma = o.lemma;
        is = entry_stays log more p (step.Lemma o.lemma) o.is;
        own = λ part c l g m. made_stays l.variable (o.own part c l (sym (clause_same p part le) ∙ g) m);
      }))

  new_is : (p : ℕ) (o : Option Entry) → length log < p → entry_at both p ≡ o → is_theory o ≡ true → IsOpening p
  new_is p (Some (step.Equal t u)) lt e h = let w = k.pairs p t u lt e in inr (inl (t, u, w.0, w.1, e))
  new_is p (Some (step.Lemma lemma)) lt e h = inr (inr (record {
    lemma = lemma;
    is = e;
    own = λ part c l g m. k.lemmas p part lemma c l lt e g m;
  }))
  new_is p (Some s) lt e h = let f : ⊥ = cc in absurd f
  new_is p None lt e h = let f : ⊥ = cc in absurd f

  taken : AreOpeningSteps nodes both reached new
  taken = record {
    closed = subst (λ images. AreClosed nodes images (Contains reached)) (sym same.images) h.closed;
    first = k.kept 0 h.first;
    terms = λ t c some.
        (let w = h.terms t c (subst (λ bits. IsSome (bits t)) same.bits some) in
        (w.0, gives_stays log more t w.0 w.1, k.kept w.0 w.2));
    lemmas = lemmas_taken;
    only = λ p c. ⊎_elim (λ held. old_stays p (h.only p held)) (λ w. new_is p (entry_at both p) w.0 refl w.1) (k.only p c);
  }

pub taken_are_opening : TakenStepsAreOpening
taken_are_opening nodes log more reached old new terms is h k = taken nodes log more reached old new terms is h k
