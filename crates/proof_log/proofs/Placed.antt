-- Each term that has bits got them by a step, and each selector was made by one.
use Rattle.std.proofs.Common.{◌≡◌, ℕ, zero, suc, ◌≤◌, true, false, List, [], ◌∷◌, ◌++◌, length, take, drop, append_assoc, append-nil, Option, Some, None, Result, Ok, Err, refl, sym, ap, ◌∙◌, subst, ⊎_elim, arith}
use Rattle.std.specs.Prelude.{IsSome, is_some, slice_get}
use Rattle.std.proofs.lemmas.Bool.{cases_lt}
use Rattle.std.proofs.lemmas.List.{take-append-drop}
use Rattle.std.proofs.lemmas.Option.{slice_get-get_or}
use Rattle.cnf_base.specs.Literals.{Literal}
use Rattle.cnf_base.proofs.Options.{some_value}
use Rattle.smt_terms.specs.declared.node.Node.{Node}
use Rattle.smt_terms.specs.Nodes.{node_at}
use Rattle.smt_terms.specs.Bits.{bits_in}
use Rattle.bit_blast.specs.Blocks.{Block, block_of}
use Rattle.theory_lemmas.specs.declared.fault.LemmaFault.{LemmaFault}
use Rattle.theory_lemmas.specs.Clauses.{clause_of}
use Rattle.proof_log.specs.declared.entry.RuleUse.{RuleUse}
use Rattle.proof_log.specs.declared.entry.Entry.{Entry}
use Rattle.proof_log.specs.declared.entry.Entry.TheVariants as step
use Rattle.proof_log.specs.Logs.{LogState, start, entry_at, leaf_width, IsStep, leaf_after, block_after, selector_after, equal_after, rewrite_after, lemma_after, after, state_from, state_of, AreSteps, IsLog}
use Rattle.proof_log.specs.Places.{GivesBits, GivesSelector, IsForTerm, IsPlaceOf}
use Rattle.proof_log.specs.Stored.{LogValue, Stands, selector_in}
use Rattle.proof_log.proofs.Placing.{bits_more, entry_last}
use Rattle.proof_log.proofs.Selecting.{log_selects}
use Rattle.proof_log.proofs.Sound.{with_value_cases}
use Rattle.proof_log.proofs.Staying.{steps_parts, step_holds}
use Rattle.proof_log.proofs.Standing.{stands_over, some_literal}

-- a step among these gave the term its bits
abbrev IsGivenIn : List Entry → ℕ → Type 0
IsGivenIn log t = (p : ℕ) × GivesBits log t p

abbrev AreGivenIn : List Entry → (ℕ → Option (List Literal)) → Type 0
AreGivenIn log bits = (t : ℕ) (b : List Literal) → bits t ≡ Some b → IsGivenIn log t

more_given : (log : List Entry) (e : Entry) (bits : ℕ → Option (List Literal)) → AreGivenIn log bits → AreGivenIn (log ++ e ∷ []) bits
more_given log e bits h t b q = let k = h t b q in (k.0, bits_more log e t k.0 k.1)

leaf_given : (log : List Entry) (s : LogState) (t : ℕ) (o : Option ℕ) → AreGivenIn log s.bits → AreGivenIn (log ++ step.Leaf t ∷ []) (leaf_after s t o).bits
leaf_given log s t None h = more_given log (step.Leaf t) s.bits h
leaf_given log s t (Some n) h = λ u b q.
    ⊎_elim
    (λ p. subst (IsGivenIn (log ++ step.Leaf t ∷ [])) (sym p.0) (suc (length log), (step.Leaf t, entry_last log (step.Leaf t), refl)))
    (λ p. more_given log (step.Leaf t) s.bits h u b p)
    (with_value_cases s.bits t _ u b q)

block_given : (log : List Entry) (s : LogState) (t : ℕ) (o : Option Block) → AreGivenIn log s.bits → AreGivenIn (log ++ step.Encode t ∷ []) (block_after s t o).bits
block_given log s t None h = more_given log (step.Encode t) s.bits h
block_given log s t (Some n) h = λ u b q.
    ⊎_elim
    (λ p. subst (IsGivenIn (log ++ step.Encode t ∷ [])) (sym p.0) (suc (length log), (step.Encode t, entry_last log (step.Encode t), refl)))
    (λ p. more_given log (step.Encode t) s.bits h u b p)
    (with_value_cases s.bits t _ u b q)

rewrite_given : (log : List Entry) (s : LogState) (r : RuleUse) (o : Option (List Literal)) → AreGivenIn log s.bits → AreGivenIn (log ++ step.Rewrite r ∷ []) (rewrite_after s r o).bits
rewrite_given log s r None h = more_given log (step.Rewrite r) s.bits h
rewrite_given log s r (Some b) h = λ u c q.
    ⊎_elim
    (λ p. subst (IsGivenIn (log ++ step.Rewrite r ∷ [])) (sym p.0) (suc (length log), (step.Rewrite r, entry_last log (step.Rewrite r), refl)))
    (λ p. more_given log (step.Rewrite r) s.bits h u c p)
    (with_value_cases s.bits r.from b u c q)

selector_same : (s : LogState) (a t : ℕ) (o : Option (List Literal)) → (selector_after s a t o).bits ≡ s.bits
selector_same s a t None = refl
selector_same s a t (Some []) = refl
selector_same s a t (Some (b ∷ bs)) = refl

equal_same : (s : LogState) (t u : ℕ) (o p : Option (List Literal)) → (equal_after s t u o p).bits ≡ s.bits
equal_same s t u None p = refl
equal_same s t u (Some a) None = refl
equal_same s t u (Some a) (Some b) = refl

lemma_same : (s : LogState) (o : Result (List Literal) LemmaFault) → (lemma_after s o).bits ≡ s.bits
lemma_same s (Err f) = refl
lemma_same s (Ok c) = refl

step_given : (nodes : List Node) (log : List Entry) (s : LogState) (e : Entry) → AreGivenIn log s.bits → AreGivenIn (log ++ e ∷ []) (after nodes s e).bits
step_given nodes log s (step.Leaf t) h = leaf_given log s t (leaf_width nodes t) h
step_given nodes log s (step.Encode t) h = block_given log s t (block_of s.next s.bits (node_at nodes t)) h
step_given nodes log s (step.Selector a t) h =
    subst (AreGivenIn (log ++ step.Selector a t ∷ [])) (sym (selector_same s a t (s.bits t))) (more_given log (step.Selector a t) s.bits h)
step_given nodes log s (step.Equal t u) h =
    subst (AreGivenIn (log ++ step.Equal t u ∷ [])) (sym (equal_same s t u (s.bits t) (s.bits u))) (more_given log (step.Equal t u) s.bits h)
step_given nodes log s (step.Rewrite r) h = rewrite_given log s r (s.bits r.to) h
step_given nodes log s (step.Lemma l) h =
    subst (AreGivenIn (log ++ step.Lemma l ∷ [])) (sym (lemma_same s (clause_of nodes s.bits s.equals l))) (more_given log (step.Lemma l) s.bits h)
step_given nodes log s e h = more_given log e s.bits h

steps_given : (nodes : List Node) (before : List Entry) (s : LogState) (log : List Entry) → AreGivenIn before s.bits → AreGivenIn (before ++ log) (state_from nodes s log).bits
steps_given nodes before s [] h = subst (λ l. AreGivenIn l s.bits) (sym (append-nil before)) h
steps_given nodes before s (e ∷ log) h =
    subst (λ l. AreGivenIn l (state_from nodes (after nodes s e) log).bits) (append_assoc before (e ∷ []) log)
    (steps_given nodes (before ++ e ∷ []) (after nodes s e) log (step_given nodes before s e h))

log_given : (nodes : List Node) (log : List Entry) → AreGivenIn log (state_of nodes log).bits
log_given nodes log = steps_given nodes [] start log (λ t b e. let q : ⊥ = cc in absurd q)

-- ---- a term gets bits once

-- the step at a position behind the first ones is one of the others
pub later_at : (before rest : List Entry) (q : ℕ) (d : Entry) → entry_at (before ++ rest) q ≡ Some d → suc (length before) ≤ q → (i : ℕ) × (slice_get rest i ≡ Some d)
later_at before rest zero d e le = absurd (omega (arith, le))
later_at [] rest (suc q) d e le = (q, e)
later_at (x ∷ before) rest (suc zero) d e le = absurd (omega (arith, le))
later_at (x ∷ before) rest (suc (suc q)) d e le = later_at before rest (suc q) d e (omega (arith, le))

-- a step that gives a term bits finds it without any
gives_new : (nodes : List Node) (s : LogState) (t : ℕ) (e : Entry) → IsStep nodes s e → IsForTerm t e → s.bits t ≡ None
gives_new nodes s t (step.Leaf u) i for_term = let own : u ≡ t = cc in subst (λ x. s.bits x ≡ None) own i.new
gives_new nodes s t (step.Encode u) i for_term = let own : u ≡ t = cc in subst (λ x. s.bits x ≡ None) own i.new
gives_new nodes s t (step.Rewrite r) i for_term = let own : r.from ≡ t = cc in subst (λ x. s.bits x ≡ None) own i.new
gives_new nodes s t e i for_term = let f : ⊥ = cc in absurd f

-- no later step gives bits to a term that has some
pub no_later : (nodes : List Node) (s : LogState) (log : List Entry) (i t : ℕ) (e : Entry) → AreSteps nodes s log → IsSome (s.bits t) → slice_get log i ≡ Some e → IsForTerm t e → ⊥
no_later nodes s [] i t e h has there for_term = cc
no_later nodes s (d ∷ log) zero t e h has there for_term =
    let q : d ≡ e = cc in
    let none : s.bits t ≡ None = gives_new nodes s t e (subst (IsStep nodes s) q h.0) for_term in
    let r : true ≡ false = sym has ∙ ap is_some none in
    let f : ⊥ = cc in f
no_later nodes s (d ∷ log) (suc i) t e h has there for_term =
    let b = some_value (s.bits t) has in
    no_later nodes (after nodes s d) log i t e h.1 (ap is_some ((step_holds nodes s d h.0).bits t b.0 b.1)) there for_term

take_within : (n : ℕ) (log : List Entry) → length (take n log) ≤ n
take_within zero log = omega arith
take_within (suc n) [] = omega arith
take_within (suc n) (e ∷ log) = omega (arith, take_within n log)

-- a term that has bits after the first so many steps got them by one of these
pub given_earlier : (nodes : List Node) (log : List Entry) (n t q : ℕ) → IsLog nodes log → IsSome ((state_of nodes (take n log)).bits t) → GivesBits log t q → q ≤ n
given_earlier nodes log n t q is has gives =
    let low = take n log in
    let high = drop n log in
    let both : take n log ++ drop n log ≡ log = take-append-drop n log in
    let rest = (steps_parts nodes start low high (subst (IsLog nodes) (sym both) is)).1 in
    ⊎_elim
    (λ lt. omega (arith, lt))
    (λ ge.
    let there : entry_at (take n log ++ drop n log) q ≡ Some gives.0 = ap (λ l. entry_at l q) both ∙ gives.1 in
    let later = later_at low high q gives.0 there (omega (arith, ge, take_within n log)) in
    absurd (no_later nodes (state_of nodes low) high later.0 t gives.0 rest has later.1 gives.2))
    (cases_lt q (suc n))

-- ---- what a look-up of positions finds

some_place : (P : ℕ → Type 0) (o : Option ℕ) → IsPlaceOf P o → (p : ℕ) × P p → IsSome o
some_place P None h k = absurd (h k.0 k.1)
some_place P (Some p) h k = refl

-- where a term has bits, the position of its step is found
pub bits_placed : (nodes : List Node) (log : LogValue) (t : ℕ) (b : List Literal) (o : Option ℕ) → Stands nodes log → bits_in log.bits t ≡ Some b → IsPlaceOf (GivesBits log.entries t) o → IsSome o
bits_placed nodes log t b o stands e h =
    some_place (GivesBits log.entries t) o h (log_given nodes log.entries t b (sym ((stands_over nodes log stands).bits t) ∙ e))

-- where an assertion has a selector, the position of its step is found
pub selector_placed : (nodes : List Node) (log : LogValue) (a : ℕ) (l : Literal) (o : Option ℕ) → Stands nodes log → selector_in log.selectors a ≡ Some l → IsPlaceOf (GivesSelector log.entries a) o → IsSome o
selector_placed nodes log a l o stands e h =
    let r = some_literal ((state_of nodes log.entries).selectors a) l (sym ((stands_over nodes log stands).selectors a) ∙ e) in
    let among = (log_selects nodes log.entries a r.0 r.1).1 in
    some_place (GivesSelector log.entries a) o h
    (suc among.0, (r.0.term, slice_get-get_or log.entries among.0 (step.Selector a r.0.term) among.1 ∙ ap Some among.2))
