-- Which steps give terms bits of their own, and what is known behind the steps of a plan.
use Rattle.std.proofs.Common.{◌≡◌, ℕ, zero, suc, Bool, true, false, List, [], ◌∷◌, ◌++◌, append_assoc, append-nil, take, Option, Some, None, refl, sym, ap, ◌∙◌, subst, ⊎_elim}
use Rattle.std.specs.Prelude.{◌||◌, is_some, if◌then◌else◌, IsSome}
use Rattle.std.specs.List.{AllByRecursion}
use Rattle.std.specs.Option.{option_or}
use Rattle.std.proofs.lemmas.Bool.{cases_eq, eq-eqb, ne_eqb}
use Rattle.std.proofs.lemmas.List.Folds.{find-append}
use Rattle.cnf_base.specs.Literals.{Literal}
use Rattle.cnf_base.specs.Assignments.{fresh_bits}
use Rattle.cnf_base.proofs.Options.{some_value, IsSome-from}
use Rattle.smt_terms.specs.declared.node.Node.{Node}
use Rattle.smt_terms.specs.Bits.{TermBits, bits_in, image_in}
use Rattle.smt_terms.specs.Ranks.{is_plain}
use Rattle.smt_terms.specs.Terms.{TermsValue, sort_of}
use Rattle.bv_rewrite.specs.declared.simplifying.Use.{Use}
use Rattle.reached_images.specs.declared.plan.Planned.{Planned}
use Rattle.reached_images.specs.Plans.{is_for, is_known, known_image, led_to, planned_in, step_image, AreNext, IsPlan}
use Rattle.reached_images.specs.Settled.{KeepsItself}
use Rattle.reached_images.proofs.Knowing.{known_last}
use Rattle.proof_log.specs.declared.entry.Entry.{Entry}
use Rattle.proof_log.specs.declared.entry.Entry.TheVariants as step
use Rattle.proof_log.specs.Logs.{LogState, start, after, leaf_after, block_after, rewrite_after, state_of, IsStep}
use Rattle.proof_log.specs.Places.{IsForTerm}
use Rattle.proof_log.specs.Stored.{LogValue, Stands}
use Rattle.proof_log.proofs.Linked.{image_has_bits}
use Rattle.proof_log.proofs.Standing.{stands_over, value_here}
use Rattle.proof_log.proofs.Staying.{elsewhere, state_from-append}
use Rattle.smt_session.specs.Growing.{GivesNoBits, HasBits}
use Rattle.smt_session.specs.Planning.{gives_own, IsForPlanned}
use Rattle.smt_session.specs.Thorough.{AreSimplified, HasReason, IsSeenAs, KeepsForReason}

-- ---- steps one after the other

pub simplified_append : (v : TermsValue) (log a b : List Entry) → AreSimplified v log a → AreSimplified v (log ++ a) b → AreSimplified v log (a ++ b)
simplified_append v log [] b h k = subst (λ l. AreSimplified v l b) (append-nil log) k
simplified_append v log (e ∷ a) b h k = (h.0, simplified_append v (log ++ e ∷ []) a b h.1 (subst (λ l. AreSimplified v l b) (sym (append_assoc log (e ∷ []) a)) k))

bare_keeps : (v : TermsValue) (log : List Entry) (e : Entry) → GivesNoBits e → KeepsForReason v log e
bare_keeps v log (step.Leaf t) n = absurd (n t refl)
bare_keeps v log (step.Encode t) n = absurd (n t refl)
bare_keeps v log e n = tt

-- steps that give no bits
pub simplified_bare : (v : TermsValue) (log es : List Entry) → AllByRecursion GivesNoBits es → AreSimplified v log es
simplified_bare v log [] h = tt
simplified_bare v log (e ∷ es) h = (bare_keeps v log e h.0, simplified_bare v (log ++ e ∷ []) es h.1)

-- the step of a plan's step
pub keeps_planned : (v : TermsValue) (log : List Entry) (p : Planned) (e : Entry) → IsForPlanned p e → (p.used ≡ None → HasReason v log p.term) → KeepsForReason v log e
keeps_planned v log p e i h = go p.used refl where
  own : (x : Entry) → IsForTerm p.term x → HasReason v log p.term → KeepsForReason v log x
  own (step.Leaf x) f r = let q : p.term ≡ x = cc in subst (HasReason v log) q r
  own (step.Encode x) f r = let q : p.term ≡ x = cc in subst (HasReason v log) q r
  own x f r = tt

  go : (o : Option Use) → p.used ≡ o → KeepsForReason v log e
  go None q = own e i.term (h q)
  go (Some u) q = let w = i.used u q in subst (KeepsForReason v log) (sym w.1) tt

-- ---- what a step gives

-- what a step that gives bits leaves
step_leaves : (nodes : List Node) (s : LogState) (t : ℕ) (e : Entry) → IsStep nodes s e → IsForTerm t e → IsSome ((after nodes s e).bits t)
step_leaves nodes s t (step.Leaf x) i h =
    let own : x ≡ t = cc in
    IsSome-from ((after nodes s (step.Leaf x)).bits t) (fresh_bits s.next i.width)
    (ap (λ o. (leaf_after s x o).bits t) i.constant ∙ subst (λ y. (leaf_after s x (Some i.width)).bits y ≡ Some (fresh_bits s.next i.width)) own (value_here s.bits x (fresh_bits s.next i.width)))
step_leaves nodes s t (step.Encode x) i h =
    let own : x ≡ t = cc in
    IsSome-from ((after nodes s (step.Encode x)).bits t) i.block.bits
    (ap (λ o. (block_after s x o).bits t) i.circuit ∙ subst (λ y. (block_after s x (Some i.block)).bits y ≡ Some i.block.bits) own (value_here s.bits x i.block.bits))
step_leaves nodes s t (step.Rewrite r) i h =
    let own : r.from ≡ t = cc in
    let b = some_value (s.bits r.to) i.held in
    IsSome-from ((after nodes s (step.Rewrite r)).bits t) b.0
    (ap (λ o. (rewrite_after s r o).bits t) b.1 ∙ subst (λ y. (rewrite_after s r (Some b.0)).bits y ≡ Some b.0) own (value_here s.bits r.from b.0))
step_leaves nodes s t (step.Node n) i h = let f : ⊥ = cc in absurd f
step_leaves nodes s t (step.Selector a x) i h = let f : ⊥ = cc in absurd f
step_leaves nodes s t (step.Chain c hints) i h = let f : ⊥ = cc in absurd f
step_leaves nodes s t (step.Equal x y) i h = let f : ⊥ = cc in absurd f
step_leaves nodes s t (step.Lemma l) i h = let f : ⊥ = cc in absurd f

pub leaves_bits : (nodes : List Node) (old new : LogValue) (t : ℕ) (e : Entry) → Stands nodes new → new.entries ≡ old.entries ++ e ∷ [] → IsStep nodes (state_of nodes old.entries) e → IsForTerm t e → HasBits new t
leaves_bits nodes old new t e stands entries i h =
    let b = some_value ((after nodes (state_of nodes old.entries) e).bits t) (step_leaves nodes (state_of nodes old.entries) t e i h) in
    IsSome-from (bits_in new.bits t) b.0
    ((stands_over nodes new stands).bits t
    ∙ ap (λ es. (state_of nodes es).bits t) entries
    ∙ ap (λ s. s.bits t) (state_from-append nodes start old.entries (e ∷ []))
    ∙ b.1)

module _ (nodes : List Node) (s : LogState) where
  -- the term had none
  step_new : (t : ℕ) (e : Entry) → IsStep nodes s e → IsForTerm t e → s.bits t ≡ None
  step_new t (step.Leaf x) i h = let own : x ≡ t = cc in subst (λ y. s.bits y ≡ None) own i.new
  step_new t (step.Encode x) i h = let own : x ≡ t = cc in subst (λ y. s.bits y ≡ None) own i.new
  step_new t (step.Rewrite r) i h = let own : r.from ≡ t = cc in subst (λ y. s.bits y ≡ None) own i.new
  step_new t (step.Node n) i h = let f : ⊥ = cc in absurd f
  step_new t (step.Selector a x) i h = let f : ⊥ = cc in absurd f
  step_new t (step.Chain c hints) i h = let f : ⊥ = cc in absurd f
  step_new t (step.Equal x y) i h = let f : ⊥ = cc in absurd f
  step_new t (step.Lemma l) i h = let f : ⊥ = cc in absurd f

  -- and of another term nothing changes
  step_other : (t u : ℕ) (e : Entry) → IsStep nodes s e → IsForTerm t e → (u ≡ t → ⊥) → ((after nodes s e).bits u ≡ s.bits u) × ((after nodes s e).images u ≡ s.images u)
  step_other t u (step.Leaf x) i h ne =
      let own : x ≡ t = cc in
      (ap (λ o. (leaf_after s x o).bits u) i.constant ∙ elsewhere s.bits x (fresh_bits s.next i.width) u (λ q. ne (q ∙ own)), ap (λ o. (leaf_after s x o).images u) i.constant)
  step_other t u (step.Encode x) i h ne =
      let own : x ≡ t = cc in
      (ap (λ o. (block_after s x o).bits u) i.circuit ∙ elsewhere s.bits x i.block.bits u (λ q. ne (q ∙ own)), ap (λ o. (block_after s x o).images u) i.circuit)
  step_other t u (step.Rewrite r) i h ne =
      let own : r.from ≡ t = cc in
      let b = some_value (s.bits r.to) i.held in (
        ap (λ o. (rewrite_after s r o).bits u) b.1 ∙ elsewhere s.bits r.from b.0 u (λ q. ne (q ∙ own)),
        ap (λ o. (rewrite_after s r o).images u) b.1 ∙ elsewhere s.images r.from r.to u (λ q. ne (q ∙ own)),
      )
  step_other t u (step.Node n) i h ne = let f : ⊥ = cc in absurd f
  step_other t u (step.Selector a x) i h ne = let f : ⊥ = cc in absurd f
  step_other t u (step.Chain c hints) i h ne = let f : ⊥ = cc in absurd f
  step_other t u (step.Equal x y) i h ne = let f : ⊥ = cc in absurd f
  step_other t u (step.Lemma l) i h ne = let f : ⊥ = cc in absurd f

  -- a step of the term's own gives it no image
  own_images : (u : ℕ) (e : Entry) → gives_own e ≡ true → IsStep nodes s e → (after nodes s e).images u ≡ s.images u
  own_images u (step.Leaf x) g i = ap (λ o. (leaf_after s x o).images u) i.constant
  own_images u (step.Encode x) g i = ap (λ o. (block_after s x o).images u) i.circuit
  own_images u (step.Rewrite r) g i = let f : ⊥ = cc in absurd f
  own_images u (step.Node n) g i = let f : ⊥ = cc in absurd f
  own_images u (step.Selector a x) g i = let f : ⊥ = cc in absurd f
  own_images u (step.Chain c hints) g i = let f : ⊥ = cc in absurd f
  own_images u (step.Equal x y) g i = let f : ⊥ = cc in absurd f
  own_images u (step.Lemma l) g i = let f : ⊥ = cc in absurd f

  -- the step of a plan's step gives the image to which the use leads
  planned_image : (p : Planned) (e : Entry) → IsForPlanned p e → IsStep nodes s e → s.images p.term ≡ None → (after nodes s e).images p.term ≡ led_to p.used
  planned_image p e fits i none = go p.used refl where
    go : (o : Option Use) → p.used ≡ o → (after nodes s e).images p.term ≡ led_to p.used
    go None q = own_images p.term e (fits.own q) i ∙ none ∙ sym (ap led_to q)
    go (Some u) q =
        let w = fits.used u q in
        let r = w.0 in
        let j : IsStep nodes s (step.Rewrite r) = subst (IsStep nodes s) w.1 i in
        let h : IsForTerm p.term (step.Rewrite r) = subst (IsForTerm p.term) w.1 fits.term in
        let from : r.from ≡ p.term = cc in
        let b = some_value (s.bits r.to) j.held in
        ap (λ x. (after nodes s x).images p.term) w.1
        ∙ ap (λ o. (rewrite_after s r o).images p.term) b.1
        ∙ subst (λ y. (rewrite_after s r (Some b.0)).images y ≡ Some r.to) from (value_here s.images r.from r.to)
        ∙ ap Some w.2
        ∙ sym (ap led_to q)

-- ---- one step of a plan more

or_false : (b c : Bool) → (b || c) ≡ false → (b ≡ false) × (c ≡ false)
or_false true c e = let f : ⊥ = cc in absurd f
or_false false c e = (refl, e)

none_is : (o : Option Planned) → is_some o ≡ false → o ≡ None
none_is None e = refl
none_is (Some p) e = let f : ⊥ = cc in absurd f

or_none : (o : Option Planned) → option_or o None ≡ o
or_none None = refl
or_none (Some p) = refl

module _ (bits : List TermBits) (before : List Planned) (p : Planned) where
  find_other : (t : ℕ) → (p.term ≡ t → ⊥) → planned_in (before ++ p ∷ []) t ≡ planned_in before t
  find_other t ne = find-append (is_for t) before (p ∷ []) ∙ ap (λ b. option_or (planned_in before t) (if b then Some p else None)) (ne_eqb p.term t ne) ∙ or_none (planned_in before t)

  known_other : (t : ℕ) → (p.term ≡ t → ⊥) → is_known bits (before ++ p ∷ []) t ≡ is_known bits before t
  known_other t ne = ap (λ o. is_some (bits_in bits t) || is_some o) (find_other t ne)

  image_other : (t : ℕ) → (p.term ≡ t → ⊥) → known_image bits (before ++ p ∷ []) t ≡ known_image bits before t
  image_other t ne = ap (λ o. if is_some (bits_in bits t) then image_in bits t else step_image o) (find_other t ne)

  image_here : is_known bits before p.term ≡ false → known_image bits (before ++ p ∷ []) p.term ≡ led_to p.used
  image_here new =
      let n = or_false (is_some (bits_in bits p.term)) (is_some (planned_in before p.term)) new in
      let found : planned_in (before ++ p ∷ []) p.term ≡ Some p =
      find-append (is_for p.term) before (p ∷ [])
      ∙ ap (λ b. option_or (planned_in before p.term) (if b then Some p else None)) (eq-eqb p.term p.term refl)
      ∙ ap (λ o. option_or o (Some p)) (none_is (planned_in before p.term) n.1) in
      ap (λ b. if b then image_in bits p.term else step_image (planned_in (before ++ p ∷ []) p.term)) n.0 ∙ ap step_image found

-- a step of a plan of bits of its own gives no image
image_own : (bits : List TermBits) (before : List Planned) (p : Planned) (t : ℕ) → p.used ≡ None → known_image bits (before ++ p ∷ []) t ≡ known_image bits before t
image_own bits before p t none =
    ap (λ o. if is_some (bits_in bits t) then image_in bits t else step_image o) (find-append (is_for t) before (p ∷ []))
    ∙ ap (λ o. if is_some (bits_in bits t) then image_in bits t else o) (go (planned_in before t) (is_for t p))
  where
    go : (o : Option Planned) (b : Bool) → step_image (option_or o (if b then Some p else None)) ≡ step_image o
    go (Some q) b = refl
    go None true = ap led_to none
    go None false = refl

-- ---- what is seen of a log

either_false : (b : Bool) → (b || false) ≡ b
either_false true = refl
either_false false = refl

-- before the first step
pub seen_none : (over nodes : List Node) (l : LogValue) → Stands nodes l → IsSeenAs over l.bits [] (bits_in l.bits) (image_in l.bits)
seen_none over nodes l h = record { known = λ t plain. either_false (is_some (bits_in l.bits t)); becomes = λ t. go t (bits_in l.bits t) refl } where
  go : (t : ℕ) (o : Option (List Literal)) → bits_in l.bits t ≡ o → known_image l.bits [] t ≡ image_in l.bits t
  go t (Some b) e = ap (λ o. if is_some o then image_in l.bits t else None) e
  go t None e =
      let k = stands_over nodes l h in
      ap (λ o. if is_some o then image_in l.bits t else None) e ∙ sym (k.images t ∙ image_has_bits nodes l.entries t k.steps (sym (k.bits t) ∙ e))

-- where bits and images are what they were
pub seen_same : (over : List Node) (bits : List TermBits) (steps : List Planned) (old new : LogValue) → ((t : ℕ) → bits_in new.bits t ≡ bits_in old.bits t) → ((t : ℕ) → image_in new.bits t ≡ image_in old.bits t)
    → IsSeenAs over bits steps (bits_in old.bits) (image_in old.bits) → IsSeenAs over bits steps (bits_in new.bits) (image_in new.bits)
seen_same over bits steps old new f g h = record { known = λ t plain. h.known t plain ∙ ap is_some (sym (f t)); becomes = λ t. h.becomes t ∙ sym (g t) }

-- behind the step of a plan's step
module _ (over nodes : List Node) (old new : LogValue) (bits : List TermBits) (before : List Planned) (p : Planned) (e : Entry)
    (a : Stands nodes old) (b : Stands nodes new) (entries : new.entries ≡ old.entries ++ e ∷ []) (i : IsStep nodes (state_of nodes old.entries) e) (fits : IsForPlanned p e) (plain : is_plain (sort_of over p.term) ≡ true) (h : IsSeenAs over bits before (bits_in old.bits) (image_in old.bits)) where
  abbrev s : LogState
  s = state_of nodes old.entries

  now : state_of nodes new.entries ≡ after nodes s e
  now = ap (state_of nodes) entries ∙ state_from-append nodes start old.entries (e ∷ [])

  none_before : s.bits p.term ≡ None
  none_before = step_new nodes s p.term e i fits.term

  new_here : is_known bits before p.term ≡ false
  new_here = h.known p.term plain ∙ ap is_some ((stands_over nodes old a).bits p.term ∙ none_before)

  no_image : s.images p.term ≡ None
  no_image = image_has_bits nodes old.entries p.term (stands_over nodes old a).steps none_before

  known_there : (t : ℕ) → is_plain (sort_of over t) ≡ true → is_known bits (before ++ p ∷ []) t ≡ is_some (bits_in new.bits t)
  known_there t sorted = ⊎_elim
      (λ (same : p.term ≡ t). subst (λ u. is_known bits (before ++ p ∷ []) u ≡ is_some (bits_in new.bits u)) same (known_last bits before p ∙ sym (leaves_bits nodes old new p.term e b entries i fits.term)))
      (λ (other : p.term ≡ t → ⊥).
      known_other bits before p t other
      ∙ h.known t sorted
      ∙ ap is_some ((stands_over nodes old a).bits t ∙ sym (step_other nodes s p.term t e i fits.term (λ q. other (sym q))).0 ∙ ap (λ r. r.bits t) (sym now) ∙ sym ((stands_over nodes new b).bits t)))
      (cases_eq p.term t)

  image_there : (t : ℕ) → known_image bits (before ++ p ∷ []) t ≡ image_in new.bits t
  image_there t = ⊎_elim
      (λ (same : p.term ≡ t). subst (λ u. known_image bits (before ++ p ∷ []) u ≡ image_in new.bits u) same
      (image_here bits before p new_here
      ∙ sym (planned_image nodes s p e fits i no_image)
      ∙ ap (λ r. r.images p.term) (sym now)
      ∙ sym ((stands_over nodes new b).images p.term)))
      (λ (other : p.term ≡ t → ⊥).
      image_other bits before p t other
      ∙ h.becomes t
      ∙ (stands_over nodes old a).images t
      ∙ sym (step_other nodes s p.term t e i fits.term (λ q. other (sym q))).1
      ∙ ap (λ r. r.images t) (sym now)
      ∙ sym ((stands_over nodes new b).images t))
      (cases_eq p.term t)

  pub seen_step : IsSeenAs over bits (before ++ p ∷ []) (bits_in new.bits) (image_in new.bits)
  seen_step = record { known = known_there; becomes = image_there }

-- behind a step of a plan for an array, which gives no bits
pub seen_array : (over : List Node) (bits : List TermBits) (before : List Planned) (p : Planned) (l : LogValue) → p.used ≡ None → is_plain (sort_of over p.term) ≡ false → IsSeenAs over bits before (bits_in l.bits) (image_in l.bits) → IsSeenAs over bits (before ++ p ∷ []) (bits_in l.bits) (image_in l.bits)
seen_array over bits before p l none array h = record {
  known = λ t plain.
      known_other bits before p t (λ e. let q : true ≡ false = sym plain ∙ ap (λ u. is_plain (sort_of over u)) (sym e) ∙ array in let f : ⊥ = cc in f)
      ∙ h.known t plain;
  becomes = λ t. image_own bits before p t none ∙ h.becomes t;
}

next_take : (nodes : List Node) (bits : List TermBits) (k : ℕ) (before xs : List Planned) → AreNext nodes bits before xs → AreNext nodes bits before (take k xs)
next_take nodes bits zero before xs h = tt
next_take nodes bits (suc k) before [] h = tt
next_take nodes bits (suc k) before (x ∷ xs) h = (h.0, next_take nodes bits k (before ++ x ∷ []) xs h.1)

-- the first steps of a plan are one
pub plan_take : (nodes : List Node) (bits : List TermBits) (k : ℕ) (steps : List Planned) → IsPlan nodes bits steps → IsPlan nodes bits (take k steps)
plan_take nodes bits k steps h = next_take nodes bits k [] steps h

-- the reason of a term, behind the steps of a log
pub reason_at : (v : TermsValue) (l : LogValue) (bits : List TermBits) (before : List Planned) (t : ℕ) → Stands v.nodes l → IsPlan v.nodes bits before → IsSeenAs v.nodes bits before (bits_in l.bits) (image_in l.bits) → KeepsItself v bits before t → HasReason v l.entries t
reason_at v l bits before t h plan seen keeps =
    let k = stands_over v.nodes l h in
    record {
      bits = bits;
      steps = before;
      plan = plan;
      seen = record { known = λ u plain. seen.known u plain ∙ ap is_some (k.bits u); becomes = λ u. seen.becomes u ∙ k.images u };
      keeps = keeps;
    }
