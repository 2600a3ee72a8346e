-- Steps that give no bits keep terms in order.
use Rattle.std.proofs.Common.{◌≡◌, ℕ, List, [], ◌∷◌, ◌++◌, Option, Some, None, Result, Ok, Err, refl, sym, ap, ◌∙◌}
use Rattle.std.specs.Prelude.{is_some}
use Rattle.std.specs.List.{AllByRecursion}
use Rattle.cnf_base.specs.Literals.{Literal}
use Rattle.smt_terms.specs.declared.node.Node.{Node}
use Rattle.smt_terms.specs.Bits.{image_in}
use Rattle.theory_lemmas.specs.declared.fault.LemmaFault.{LemmaFault}
use Rattle.theory_lemmas.specs.Clauses.{clause_of}
use Rattle.proof_log.specs.declared.entry.Entry.{Entry}
use Rattle.proof_log.specs.declared.entry.Entry.TheVariants as step
use Rattle.proof_log.specs.Logs.{LogState, start, selector_after, equal_after, lemma_after, after, state_from, state_of}
use Rattle.proof_log.specs.Stored.{LogValue, IsKept, Stands}
use Rattle.proof_log.proofs.Standing.{stands_over}
use Rattle.proof_log.proofs.Staying.{state_from-append}
use Rattle.session_terms.specs.Placed.{has_bits, IsInOrder, GivesNoBits}
use Rattle.session_terms.proofs.Placing.{none_placed, placed_same}

abbrev IsSame : LogState → LogState → Type 0
IsSame s r = (r.bits ≡ s.bits) × (r.images ≡ s.images)

selector_same : (s : LogState) (a t : ℕ) (o : Option (List Literal)) → IsSame s (selector_after s a t o)
selector_same s a t None = (refl, refl)
selector_same s a t (Some []) = (refl, refl)
selector_same s a t (Some (b ∷ bs)) = (refl, refl)

equal_same : (s : LogState) (t u : ℕ) (o p : Option (List Literal)) → IsSame s (equal_after s t u o p)
equal_same s t u None p = (refl, refl)
equal_same s t u (Some a) None = (refl, refl)
equal_same s t u (Some a) (Some b) = (refl, refl)

lemma_same : (s : LogState) (o : Result (List Literal) LemmaFault) → IsSame s (lemma_after s o)
lemma_same s (Err f) = (refl, refl)
lemma_same s (Ok c) = (refl, refl)

bare_step : (nodes : List Node) (s : LogState) (e : Entry) → GivesNoBits e → IsSame s (after nodes s e)
bare_step nodes s (step.Leaf x) h = absurd (h x refl)
bare_step nodes s (step.Encode x) h = absurd (h x refl)
bare_step nodes s (step.Rewrite r) h = absurd (h r.from refl)
bare_step nodes s (step.Selector a x) h = selector_same s a x (s.bits x)
bare_step nodes s (step.Equal t u) h = equal_same s t u (s.bits t) (s.bits u)
bare_step nodes s (step.Lemma l) h = lemma_same s (clause_of nodes s.bits s.equals l)
bare_step nodes s (step.Node n) h = (refl, refl)
bare_step nodes s (step.Chain c hints) h = (refl, refl)

bare_steps : (nodes : List Node) (s : LogState) (es : List Entry) → AllByRecursion GivesNoBits es → IsSame s (state_from nodes s es)
bare_steps nodes s [] h = (refl, refl)
bare_steps nodes s (e ∷ es) h =
    let one = bare_step nodes s e h.0 in
    let rest = bare_steps nodes (after nodes s e) es h.1 in
    (rest.0 ∙ one.0, rest.1 ∙ one.1)

pub bare_in_order : (nodes : List Node) (old new : LogValue) (es : List Entry) → Stands nodes old → Stands nodes new → new.entries ≡ old.entries ++ es → AllByRecursion GivesNoBits es → IsInOrder nodes old.bits → IsInOrder nodes new.bits
bare_in_order nodes old new es before behind entries bare h =
    placed_same nodes (has_bits old.bits) (has_bits new.bits) (image_in old.bits) (image_in new.bits)
    (λ t. ap is_some (l.bits t ∙ ap (λ r. r.bits t) there ∙ ap (λ f. f t) same.0 ∙ sym (k.bits t)))
    (λ t. l.images t ∙ ap (λ r. r.images t) there ∙ ap (λ f. f t) same.1 ∙ sym (k.images t))
    h
  where
    k : IsKept nodes old
    k = stands_over nodes old before

    l : IsKept nodes new
    l = stands_over nodes new behind

    there : state_of nodes new.entries ≡ state_from nodes (state_of nodes old.entries) es
    there = ap (state_of nodes) entries ∙ state_from-append nodes start old.entries es

    same : IsSame (state_of nodes old.entries) (state_from nodes (state_of nodes old.entries) es)
    same = bare_steps nodes (state_of nodes old.entries) es bare

-- so they are before the first step
pub empty_in_order : (nodes : List Node) (log : LogValue) → Stands nodes log → log.entries ≡ [] → IsInOrder nodes log.bits
empty_in_order nodes log stands e =
    let k = stands_over nodes log stands in
    none_placed nodes (has_bits log.bits) (image_in log.bits) (λ t. ap is_some (k.bits t ∙ ap (λ es. (state_of nodes es).bits t) e))
