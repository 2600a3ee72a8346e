-- What is kept of the steps that were read, where one more is read, and where the log grows.
use Rattle.std.proofs.Common.{◌≡◌, ℕ, zero, suc, ◌+◌, ◌-◌, ◌<◌, ◌≤◌, Bool, true, false, List, [], ◌∷◌, ◌++◌, length, length-append, take, replicate, Some, refl, sym, ap, ◌∙◌, subst, inl, inr, ⊎_elim, arith}
use Rattle.std.specs.Prelude.{All, Contains, slice_get, if◌then◌else◌}
use Rattle.std.proofs.lemmas.Bool.{cases_lt}
use Rattle.std.proofs.lemmas.List.{take-append-le, take_all}
use Rattle.std.proofs.lemmas.List.Elements.{All-nil, All-push, All-weaker, Contains-append_left, Contains-push}
use Rattle.std.proofs.lemmas.Option.{slice_get_within}
use Rattle.cnf_base.proofs.Lists.{slice_get-append_left}
use Rattle.smt_terms.specs.declared.node.Node.{Node}
use Rattle.smt_terms.specs.Terms.{IsTermList}
use Rattle.proof_log.specs.declared.entry.Entry.{Entry}
use Rattle.proof_log.specs.declared.entry.Entry.TheVariants as step
use Rattle.proof_log.specs.Logs.{LogState, start, entry_at, state_of, IsLog}
use Rattle.proof_log.specs.Meanings.{Owns}
use Rattle.proof_log.proofs.Growth.{entry_within}
use Rattle.proof_log.proofs.Staying.{step_holds, log_over}
use Rattle.reached_steps.proofs.Steps.{before_step, first_steps, made}
use Rattle.opening_positions.specs.Reading.{ReadSteps, IsMaker, IsEquality, IsLemmaAt, IsRead, MoreStepsKeepRead, adds_equality, adds_lemma}

-- ---- before the first step

no_entry : (log : List Entry) (p : ℕ) (e : Entry) → p ≤ 0 → entry_at log p ≡ Some e → ⊥
no_entry log zero e le h = let f : ⊥ = cc in f
no_entry log (suc p) e le h = omega (arith, le)

first_makers : (nodes : List Node) (log : List Entry) (x p : ℕ) → 0 < x → slice_get (0 ∷ 0 ∷ []) x ≡ Some p → IsMaker nodes log x p
first_makers nodes log zero p lt h = absurd (omega (arith, lt))
first_makers nodes log (suc zero) p lt h = let q : p ≡ 0 = cc in inl (refl, q)
first_makers nodes log (suc (suc x)) p lt h = let f : ⊥ = cc in absurd f

pub read_none : (nodes : List Node) (log : List Entry) → IsRead nodes log (record { read = 0; makers = 0 ∷ 0 ∷ []; equalities = []; lemmas = [] })
read_none nodes log = record {
  within = omega arith;
  next = refl;
  makers = first_makers nodes log;
  equalities = All-nil (IsEquality log);
  lemmas = All-nil (IsLemmaAt log);
  each_equality = λ p le h. absurd (no_entry log p (step.Equal h.0 h.1) le h.2);
  each_lemma = λ p le h. absurd (no_entry log p (step.Lemma h.0) le h.1);
}

-- ---- one step more

pub equality_at : (log : List Entry) (at : ℕ) (e : Entry) → entry_at log at ≡ Some e → adds_equality e ≡ true → IsEquality log at
equality_at log at (step.Equal t u) h k = (t, u, h)
equality_at log at (step.Node n) h k = let f : ⊥ = cc in absurd f
equality_at log at (step.Leaf t) h k = let f : ⊥ = cc in absurd f
equality_at log at (step.Encode t) h k = let f : ⊥ = cc in absurd f
equality_at log at (step.Selector a t) h k = let f : ⊥ = cc in absurd f
equality_at log at (step.Chain c hints) h k = let f : ⊥ = cc in absurd f
equality_at log at (step.Rewrite r) h k = let f : ⊥ = cc in absurd f
equality_at log at (step.Lemma l) h k = let f : ⊥ = cc in absurd f

pub lemma_at : (log : List Entry) (at : ℕ) (e : Entry) → entry_at log at ≡ Some e → adds_lemma e ≡ true → IsLemmaAt log at
lemma_at log at (step.Lemma l) h k = (l, h)
lemma_at log at (step.Node n) h k = let f : ⊥ = cc in absurd f
lemma_at log at (step.Leaf t) h k = let f : ⊥ = cc in absurd f
lemma_at log at (step.Encode t) h k = let f : ⊥ = cc in absurd f
lemma_at log at (step.Selector a t) h k = let f : ⊥ = cc in absurd f
lemma_at log at (step.Chain c hints) h k = let f : ⊥ = cc in absurd f
lemma_at log at (step.Rewrite r) h k = let f : ⊥ = cc in absurd f
lemma_at log at (step.Equal t u) h k = let f : ⊥ = cc in absurd f

is_added : (log : List Entry) (at : ℕ) (e : Entry) → entry_at log at ≡ Some e → IsEquality log at → adds_equality e ≡ true
is_added log at e h k =
    let both : Some (step.Equal k.0 k.1) ≡ Some e = sym k.2 ∙ h in
    let same : step.Equal k.0 k.1 ≡ e = cc in
    ap adds_equality (sym same)

is_put : (log : List Entry) (at : ℕ) (e : Entry) → entry_at log at ≡ Some e → IsLemmaAt log at → adds_lemma e ≡ true
is_put log at e h k =
    let both : Some (step.Lemma k.0) ≡ Some e = sym k.1 ∙ h in
    let same : step.Lemma k.0 ≡ e = cc in
    ap adds_lemma (sym same)

-- a list to which a position was added where it was wanted
abbrev pub IsNoted : List ℕ → Bool → ℕ → List ℕ → Type 0
IsNoted old wanted at new = new ≡ (if wanted then old ++ at ∷ [] else old)

noted_all : (P : ℕ → Type 0) (old new : List ℕ) (b : Bool) (at : ℕ) → IsNoted old b at new → (b ≡ true → P at) → All P old → All P new
noted_all P old new true at e own h = subst (All P) (sym e) (All-push P old at h (own refl))
noted_all P old new false at e own h = subst (All P) (sym e) h

noted_kept : (old new : List ℕ) (b : Bool) (at p : ℕ) → IsNoted old b at new → Contains old p → Contains new p
noted_kept old new true at p e h = subst (λ (l : List ℕ). Contains l p) (sym e) (Contains-append_left old (at ∷ []) p h)
noted_kept old new false at p e h = subst (λ (l : List ℕ). Contains l p) (sym e) h

pub noted_here : (old new : List ℕ) (b : Bool) (at : ℕ) → IsNoted old b at new → b ≡ true → Contains new at
noted_here old new true at e h = subst (λ (l : List ℕ). Contains l at) (sym e) (Contains-push old at)
noted_here old new false at e h = let f : ⊥ = cc in absurd f

-- steps that are listed before they count as read
pub read_equality : (nodes : List Node) (log : List Entry) (s : ReadSteps) (e : Entry) (at : ℕ) (es : List ℕ) → entry_at log at ≡ Some e → IsNoted s.equalities (adds_equality e) at es → IsRead nodes log s
    → IsRead nodes log (record { read = s.read; makers = s.makers; equalities = es; lemmas = s.lemmas })
read_equality nodes log s e at es there noted h = record {
  within = h.within;
  next = h.next;
  makers = h.makers;
  equalities = noted_all (IsEquality log) s.equalities es (adds_equality e) at noted (equality_at log at e there) h.equalities;
  lemmas = h.lemmas;
  each_equality = λ p le k. noted_kept s.equalities es (adds_equality e) at p noted (h.each_equality p le k);
  each_lemma = h.each_lemma;
}

pub read_lemma : (nodes : List Node) (log : List Entry) (s : ReadSteps) (e : Entry) (at : ℕ) (ls : List ℕ) → entry_at log at ≡ Some e → IsNoted s.lemmas (adds_lemma e) at ls → IsRead nodes log s
    → IsRead nodes log (record { read = s.read; makers = s.makers; equalities = s.equalities; lemmas = ls })
read_lemma nodes log s e at ls there noted h = record {
  within = h.within;
  next = h.next;
  makers = h.makers;
  equalities = h.equalities;
  lemmas = noted_all (IsLemmaAt log) s.lemmas ls (adds_lemma e) at noted (lemma_at log at e there) h.lemmas;
  each_equality = h.each_equality;
  each_lemma = λ p le k. noted_kept s.lemmas ls (adds_lemma e) at p noted (h.each_lemma p le k);
}

rows_of : (k a x p : ℕ) → slice_get (replicate k a) x ≡ Some p → (p ≡ a) × (x < k)
rows_of zero a x p h = let f : ⊥ = cc in absurd f
rows_of (suc k) a zero p h = let q : p ≡ a = cc in (q, omega arith)
rows_of (suc k) a (suc x) p h = let r = rows_of k a x p h in let lt = r.1 in (r.0, omega (arith, lt))

rows_behind : (xs : List ℕ) (k a x p : ℕ) → length xs ≤ x → slice_get (xs ++ replicate k a) x ≡ Some p → (p ≡ a) × (x < length xs + k)
rows_behind [] k a x p le h = let r = rows_of k a x p h in let lt = r.1 in (r.0, omega (arith, lt))
rows_behind (y ∷ ys) k a zero p le h = absurd (omega (arith, le))
rows_behind (y ∷ ys) k a (suc x) p le h = let r = rows_behind ys k a x p (omega (arith, le)) h in let lt = r.1 in (r.0, omega (arith, lt))

module _ (nodes : List Node) (log : List Entry) (is : IsLog nodes log) (s : ReadSteps) (h : IsRead nodes log s) (e : Entry) (there : slice_get log s.read ≡ Some e) where
  next_rises : (before_step nodes log s.read).next ≤ (before_step nodes log (suc s.read)).next
  next_rises =
      let m = made nodes start log s.read e is there in
      let r = (step_holds nodes (before_step nodes log s.read) e m.step).next in
      subst (λ (t : LogState). (before_step nodes log s.read).next ≤ t.next) (sym m.leaves) r

  makers_more : (n : ℕ) (ms : List ℕ) → n ≡ (before_step nodes log (suc s.read)).next → ms ≡ take n s.makers ++ replicate (n - length s.makers) (suc s.read)
      → (x p : ℕ) → 0 < x → slice_get ms x ≡ Some p → IsMaker nodes log x p
  makers_more n ms next are x p lt k =
      let up = next_rises in
      let old = h.next in
      let le : length s.makers ≤ n = omega (arith, up, old, next) in
      let whole : ms ≡ s.makers ++ replicate (n - length s.makers) (suc s.read) = are ∙ ap (λ (l : List ℕ). l ++ replicate (n - length s.makers) (suc s.read)) (take_all n s.makers le) in
      let at : slice_get (s.makers ++ replicate (n - length s.makers) (suc s.read)) x ≡ Some p = ap (λ (l : List ℕ). slice_get l x) (sym whole) ∙ k in
      ⊎_elim
      (λ less. h.makers x p lt (sym (slice_get-append_left s.makers (replicate (n - length s.makers) (suc s.read)) x less) ∙ at))
      (λ more.
      let r = rows_behind s.makers (n - length s.makers) (suc s.read) x p more at in
      let last = r.1 in
      let within = slice_get_within log s.read e there in
      inr (s.read, r.0, record { step = within; from = omega (arith, more, old); upto = omega (arith, last, le, next) }))
      (cases_lt x (length s.makers))

  pub read_more : (n at : ℕ) (ms : List ℕ) → at ≡ suc s.read → n ≡ (before_step nodes log (suc s.read)).next → ms ≡ take n s.makers ++ replicate (n - length s.makers) at → length ms ≡ n
      → (adds_equality e ≡ true → Contains s.equalities at) → (adds_lemma e ≡ true → Contains s.lemmas at)
      → IsRead nodes log (record { read = at; makers = ms; equalities = s.equalities; lemmas = s.lemmas })
  read_more n at ms is_at next are long equality lemma_in = record {
    within = (let lt = slice_get_within log s.read e there in omega (arith, lt, is_at));
    next = long ∙ next ∙ ap (λ i. (before_step nodes log i).next) (sym is_at);
    makers = makers_more n ms next (are ∙ ap (λ i. take n s.makers ++ replicate (n - length s.makers) i) is_at);
    equalities = h.equalities;
    lemmas = h.lemmas;
    each_equality = λ p le k. ⊎_elim
        (λ less. h.each_equality p (omega (arith, less)) k)
        (λ more. (let q : p ≡ at = omega (arith, le, more, is_at) in
        subst (Contains s.equalities) (sym q) (equality (is_added log (suc s.read) e there (subst (IsEquality log) (q ∙ is_at) k)))))
        (cases_lt p (suc s.read));
    each_lemma = λ p le k. ⊎_elim
        (λ less. h.each_lemma p (omega (arith, less)) k)
        (λ more. (let q : p ≡ at = omega (arith, le, more, is_at) in
        subst (Contains s.lemmas) (sym q) (lemma_in (is_put log (suc s.read) e there (subst (IsLemmaAt log) (q ∙ is_at) k)))))
        (cases_lt p (suc s.read));
  }

-- ---- a longer log

module _ (nodes more : List Node) (log steps : List Entry) (terms : IsTermList nodes) (is : IsLog nodes log) where
  entry_same : (p : ℕ) → p ≤ length log → entry_at (log ++ steps) p ≡ entry_at log p
  entry_same zero le = refl
  entry_same (suc p) le = slice_get-append_left log steps p (omega (arith, le))

  before_same : (q : ℕ) → q ≤ length log → state_of (nodes ++ more) (take q (log ++ steps)) ≡ state_of nodes (take q log)
  before_same q le =
      ap (state_of (nodes ++ more)) (take-append-le q log steps le)
      ∙ (log_over nodes more terms (take q log) (first_steps nodes start log q is)).state

  owns_more : (q x : ℕ) → Owns nodes log q x → Owns (nodes ++ more) (log ++ steps) q x
  owns_more q x o =
      let lt = o.step in
      let long = length-append log steps in
      record {
        step = omega (arith, lt, long);
        from = subst (λ (s : LogState). s.next ≤ x) (sym (before_same q (omega (arith, lt)))) o.from;
        upto = subst (λ (s : LogState). x < s.next) (sym (before_same (suc q) (omega (arith, lt)))) o.upto;
      }

  maker_more : (x p : ℕ) → IsMaker nodes log x p → IsMaker (nodes ++ more) (log ++ steps) x p
  maker_more x p (inl one) = inl one
  maker_more x p (inr (q, e, o)) = inr (q, e, owns_more q x o)

  equality_more : (p : ℕ) → IsEquality log p → IsEquality (log ++ steps) p
  equality_more p h = (h.0, h.1, entry_same p (entry_within log p (step.Equal h.0 h.1) h.2) ∙ h.2)

  lemma_more : (p : ℕ) → IsLemmaAt log p → IsLemmaAt (log ++ steps) p
  lemma_more p h = (h.0, entry_same p (entry_within log p (step.Lemma h.0) h.1) ∙ h.1)

  pub kept_read : (s : ReadSteps) → IsRead nodes log s → IsRead (nodes ++ more) (log ++ steps) s
  kept_read s h =
      let within = h.within in
      record {
        within = (let long = length-append log steps in omega (arith, within, long));
        next = h.next ∙ ap (λ (r : LogState). r.next) (sym (before_same s.read within));
        makers = λ x p lt k. maker_more x p (h.makers x p lt k);
        equalities = All-weaker (IsEquality log) (IsEquality (log ++ steps)) equality_more s.equalities h.equalities;
        lemmas = All-weaker (IsLemmaAt log) (IsLemmaAt (log ++ steps)) lemma_more s.lemmas h.lemmas;
        each_equality = λ p le k. h.each_equality p le (k.0, k.1, sym (entry_same p (omega (arith, le, within))) ∙ k.2);
        each_lemma = λ p le k. h.each_lemma p le (k.0, sym (entry_same p (omega (arith, le, within))) ∙ k.1);
      }

pub more_keep_read : MoreStepsKeepRead
more_keep_read nodes more log steps s terms is h = kept_read nodes more log steps terms is s h
