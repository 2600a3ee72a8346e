-- The steps of a plan for all that terms need are a plan.
use Rattle.std.proofs.Common.{append_assoc, ◌≡◌, ℕ, ◌<◌, Bool, true, false, List, [], ◌∷◌, ◌++◌, length, map, get_or, Option, Some, None, refl, sym, ap, ◌∙◌, subst, arith, inl, inr, ⊎_elim}
use Rattle.std.specs.Prelude.{◌⊎◌, ◌||◌, is_some, if◌then◌else◌, All, Contains, slice_get, take, drop}
use Rattle.std.specs.List.{cons_option, filter_map}
use Rattle.std.proofs.lemmas.Bool.{cases_eq, eq-eqb, ne_eqb}
use Rattle.std.proofs.lemmas.List.{append-nil, take-append-drop}
use Rattle.std.proofs.lemmas.List.Elements.{All-contains, Contains-append_left, Contains-append_right, Contains-get_or, filter_map-append}
use Rattle.std.proofs.lemmas.Map.Made.{Contains-tail}
use Rattle.std.proofs.lemmas.Option.{slice_get_within}
use Rattle.cnf_base.proofs.Lists.{slice_get-append_left, slice_get-at}
use Rattle.smt_terms.specs.declared.node.Node.{Node}
use Rattle.smt_terms.specs.Nodes.{node_at}
use Rattle.smt_terms.specs.Bits.{TermBits, bits_in, image_in}
use Rattle.smt_terms.specs.Terms.{IsTermList}
use Rattle.term_reach.specs.Reach.{IsReach}
use Rattle.term_reach.proofs.Tables.{at_contained, contains_at}
use Rattle.term_reach.proofs.Ways.{root_reached}
use Rattle.bv_rules.specs.declared.rule.Rule.TheVariants.{Inner}
use Rattle.bv_rules.specs.Reading.{arg}
use Rattle.bv_rules.proofs.Known.{or_cases, never}
use Rattle.bv_rewrite.specs.declared.simplifying.Use.{Use}
use Rattle.reached_images.specs.declared.plan.Planned.{Planned}
use Rattle.reached_images.specs.Plans.{is_known, known_image, led_to, planned_in, step_image, AreNext, HasWhatItNeeds, ImagesHaveBits, IsKnown, IsNext, IsPlan, IsWholePlan}
use Rattle.reached_images.specs.Needed.{is_inner, is_used, looked_through, needs, own_needs}
use Rattle.reached_images.proofs.Knowing.{planned_later}
use Rattle.reached_images.proofs.Leading.{leads_to, mapped_to, needs_known, step_of, IsStepOf}
use Rattle.reached_images.proofs.Stepping.{matches_on, HasArguments}
use Rattle.reached_images.proofs.Tables.{found_place}
use Rattle.reached_images.proofs.Turning.{two_arguments}

first_or : (b c : Bool) → b ≡ true → (b || c) ≡ true
first_or b c e = ap (λ d. d || c) e

second_or : (b c : Bool) → c ≡ true → (b || c) ≡ true
second_or true c h = refl
second_or false c h = h

-- ---- the steps for some terms

module _ (plan : List Planned) where
  abbrev pub picked : List ℕ → List Planned
  picked terms = filter_map (planned_in plan) terms

  own_term : (t : ℕ) (p : Planned) → planned_in plan t ≡ Some p → p.term ≡ t
  own_term t p e = (found_place plan t p e).2

  -- each is the plan's, for one of the terms
  picked_is : (terms : List ℕ) (t : ℕ) (p : Planned) → planned_in (picked terms) t ≡ Some p → (planned_in plan t ≡ Some p) × Contains terms t
  picked_is [] t p e = let z : ⊥ = cc in absurd z
  picked_is (x ∷ xs) t p e = go (planned_in plan x) refl (picked_is xs t p) e where
    later : (planned_in plan t ≡ Some p) × Contains xs t → (planned_in plan t ≡ Some p) × Contains (x ∷ xs) t
    later h = (h.0, Contains-append_right (x ∷ []) xs t h.1)

    go : (o : Option Planned) → planned_in plan x ≡ o → (planned_in (picked xs) t ≡ Some p → (planned_in plan t ≡ Some p) × Contains xs t) → planned_in (cons_option o (picked xs)) t ≡ Some p → (planned_in plan t ≡ Some p) × Contains (x ∷ xs) t
    go None f rest e = later (rest e)
    go (Some q) f rest e = ⊎_elim
        (λ (same : q.term ≡ t).
        (let is : Some q ≡ Some p = sym (ap (λ b. if b then Some q else planned_in (picked xs) t) (eq-eqb q.term t same)) ∙ e in
        let own : x ≡ t = sym (own_term x q f) ∙ same in
        (subst (λ y. planned_in plan y ≡ Some p) own (f ∙ is), (0, omega arith, own))))
        (λ (other : q.term ≡ t → ⊥). later (rest (sym (ap (λ b. if b then Some q else planned_in (picked xs) t) (ne_eqb q.term t other)) ∙ e)))
        (cases_eq q.term t)

  -- and each of the plan's for one of them is there
  picked_has : (terms : List ℕ) (t : ℕ) (p : Planned) → Contains terms t → planned_in plan t ≡ Some p → planned_in (picked terms) t ≡ Some p
  picked_has [] t p c e = absurd (omega (arith, c.1))
  picked_has (x ∷ xs) t p c e = ⊎_elim
      (λ (same : x ≡ t). here same (planned_in plan x) refl)
      (λ (other : x ≡ t → ⊥). there other (planned_in plan x) refl (picked_has xs t p (Contains-tail x xs t other c) e))
      (cases_eq x t)
    where
      here : x ≡ t → (o : Option Planned) → planned_in plan x ≡ o → planned_in (cons_option o (picked xs)) t ≡ Some p
      here same None f = let z : None ≡ Some p = sym f ∙ ap (planned_in plan) same ∙ e in let q : ⊥ = cc in absurd q
      here same (Some q) f =
          let is : Some q ≡ Some p = sym f ∙ ap (planned_in plan) same ∙ e in
          ap (λ b. if b then Some q else planned_in (picked xs) t) (eq-eqb q.term t (own_term x q f ∙ same)) ∙ is

      there : (x ≡ t → ⊥) → (o : Option Planned) → planned_in plan x ≡ o → planned_in (picked xs) t ≡ Some p → planned_in (cons_option o (picked xs)) t ≡ Some p
      there other None f rest = rest
      there other (Some q) f rest = ap (λ b. if b then Some q else planned_in (picked xs) t) (ne_eqb q.term t (λ s. other (sym (own_term x q f) ∙ s))) ∙ rest

-- ---- those for all that is reached

module _ (nodes : List Node) (bits : List TermBits) (plan : List Planned) (whole : IsWholePlan nodes bits plan) (list : IsTermList nodes)
    (linked : ImagesHaveBits bits) (roots reached : List ℕ) (known : All (IsKnown bits plan) roots) (r : IsReach (needs nodes bits plan) roots reached) where
  -- what is known by the plan, and was reached, is known by the steps
  seen_known : (done : List ℕ) (a : ℕ) → Contains done a → IsKnown bits plan a → IsKnown bits (picked plan done) a
  seen_known done a c h = or_cases (is_some (bits_in bits a)) (is_some (planned_in plan a)) h
      (λ p. first_or (is_some (bits_in bits a)) (is_some (planned_in (picked plan done) a)) p)
      (λ p. second_or (is_some (bits_in bits a)) (is_some (planned_in (picked plan done) a)) (go (planned_in plan a) refl p))
    where
      go : (o : Option Planned) → planned_in plan a ≡ o → is_some o ≡ true → is_some (planned_in (picked plan done) a) ≡ true
      go None e h = never h
      go (Some q) e h = ap is_some (picked_has plan done a q c e)

  module _ (done rest : List ℕ) (t : ℕ) (p : Planned) (split : reached ≡ done ++ t ∷ rest) (planned : planned_in plan t ≡ Some p) where
    s : IsStepOf nodes bits plan whole list t p
    s = step_of nodes bits plan whole list t p planned

    place : slice_get reached (length done) ≡ Some t
    place = ap (λ l. slice_get l (length done)) split ∙ slice_get-at done t rest

    within : (j u : ℕ) → j < length done → slice_get reached j ≡ Some u → Contains done u
    within j u lt e = contains_at done j u (sym (slice_get-append_left done (t ∷ rest) j lt) ∙ ap (λ l. slice_get l j) (sym split) ∙ e)

    at_done : (a : ℕ) → Contains done a → (j : ℕ) × (j < length done) × (slice_get reached j ≡ Some a)
    at_done a c =
        let at = at_contained done a c in
        let lt = slice_get_within done at.0 a at.1 in
        (at.0, lt, ap (λ l. slice_get l at.0) split ∙ slice_get-append_left done (t ∷ rest) at.0 lt ∙ at.1)

    -- what a term that is done leads to is done, and so is that to which this one does
    onwards : (a u : ℕ) → Contains done a → Contains (needs nodes bits plan a) u → Contains done u
    onwards a u c l =
        let at = at_done a c in
        let before = r.order at.0 a u at.2 l in
        let lt = at.1 in
        let less = before.1 in
        within before.0 u (omega (arith, lt, less)) before.2

    earlier : (u : ℕ) → Contains (needs nodes bits plan t) u → Contains done u
    earlier u l = let before = r.order (length done) t u place l in within before.0 u before.1 before.2

    in_reached : (a : ℕ) → Contains done a → Contains reached a
    in_reached a c = subst (λ l. Contains l a) (sym split) (Contains-append_left done (t ∷ rest) a c)

    done_known : (a : ℕ) → Contains done a → IsKnown bits (picked plan done) a
    done_known a c = seen_known done a c (needs_known nodes bits plan whole list roots reached known r a (in_reached a c))

    bare_at : (a : ℕ) (q : Planned) → planned_in plan a ≡ Some q → is_some (bits_in bits a) ≡ false
    bare_at a q e = go (is_some (bits_in bits a)) refl where
      go : (b : Bool) → is_some (bits_in bits a) ≡ b → is_some (bits_in bits a) ≡ false
      go true f =
          let o = step_of nodes bits plan whole list a q e in
          absurd (o.next.next.new (first_or (is_some (bits_in bits q.term)) (is_some (planned_in (take o.place plan) q.term)) (ap (λ x. is_some (bits_in bits x)) o.term ∙ f)))
      go false f = f

    -- ---- images

    -- the term has bits, or no image by the plan, or is done
    abbrev Seen : ℕ → Type 0
    Seen a = (is_some (bits_in bits a) ≡ true) ⊎ ((is_used plan a ≡ false) ⊎ Contains done a)

    image_on : (a c : ℕ) → Seen a → known_image bits (take s.place plan) a ≡ Some c → (known_image bits (picked plan done) a ≡ Some c) × Seen c
    image_on a c seen h = go (is_some (bits_in bits a)) refl h where
      before : (q : Planned) → planned_in (take s.place plan) a ≡ Some q → planned_in plan a ≡ Some q
      before q e = ap (λ l. planned_in l a) (sym (take-append-drop s.place plan)) ∙ planned_later (take s.place plan) (drop s.place plan) a q e

      used : (q : Planned) → planned_in plan a ≡ Some q → led_to q.used ≡ Some c → is_used plan a ≡ true
      used q e l = ap (λ o. is_some (step_image o)) e ∙ ap is_some l

      led : (o : Option Use) → led_to o ≡ Some c → Contains (own_needs plan (node_at nodes a).args o) c
      led None l = let z : ⊥ = cc in absurd z
      led (Some x) l = let z : x.to ≡ c = cc in (0, omega arith, z)

      by_step : (o : Option Planned) → is_some (bits_in bits a) ≡ false → planned_in (take s.place plan) a ≡ o → step_image o ≡ Some c → (step_image (planned_in (picked plan done) a) ≡ Some c) × Seen c
      by_step None b e l = let z : ⊥ = cc in absurd z
      by_step (Some q) b e l = ⊎_elim
          (λ (h : is_some (bits_in bits a) ≡ true). never (sym b ∙ h))
          (λ (h : (is_used plan a ≡ false) ⊎ Contains done a). ⊎_elim
          (λ (n : is_used plan a ≡ false). never (sym n ∙ used q (before q e) l))
          (λ (d : Contains done a).
          (ap step_image (picked_has plan done a q d (before q e)) ∙ l, inr (inr (onwards a c d (leads_to nodes bits plan whole list a c q b (before q e) (led q.used l))))))
          h)
          seen

      go : (b : Bool) → is_some (bits_in bits a) ≡ b → (if b then image_in bits a else step_image (planned_in (take s.place plan) a)) ≡ Some c → (known_image bits (picked plan done) a ≡ Some c) × Seen c
      go true b h = (ap (λ x. if x then image_in bits a else step_image (planned_in (picked plan done) a)) b ∙ h, inl (linked a c h))
      go false b h = let i = by_step (planned_in (take s.place plan) a) b refl h in (ap (λ x. if x then image_in bits a else step_image (planned_in (picked plan done) a)) b ∙ i.0, i.1)

    -- the arguments of the term, where its use looks through their images
    arguments_seen : (x : Use) → p.used ≡ Some x → x.rule ≡ Inner → (a : ℕ) → Contains (node_at nodes t).args a → Seen a
    arguments_seen x e inner a c = go (is_used plan a) refl where
      go : (b : Bool) → is_used plan a ≡ b → Seen a
      go false u = inr (inl u)
      go true u = inr (inr (earlier a (leads_to nodes bits plan whole list t a p (bare_at t p planned) planned
          (subst (λ o. Contains (own_needs plan (node_at nodes t).args o) a) (sym e)
          (Contains-append_right (x.to ∷ []) (if is_inner x.rule then map (looked_through plan x.to) (node_at nodes t).args else []) a
          (subst (λ b. Contains (if b then map (looked_through plan x.to) (node_at nodes t).args else []) a) (sym (ap is_inner inner)) (mapped_to plan x.to (node_at nodes t).args a u c)))))))

    has_arguments : (x : Use) → p.used ≡ Some x → x.rule ≡ Inner → HasArguments nodes Seen t
    has_arguments x e inner = (
      arguments_seen x e inner,
      λ turn. (
          let two = two_arguments nodes t (list t (subst (λ y. y < length nodes) s.term s.next.next.held)) turn in
          (arguments_seen x e inner (arg nodes 0 t) two.0, arguments_seen x e inner (arg nodes 1 t) two.1)),
    )

    -- ---- the step

    pub next_picked : IsNext nodes bits (picked plan done) p
    next_picked = record { held = s.next.next.held; new = new; needs = by_use p.used refl s.next.next.needs } where
      again : Contains done p.term → ⊥
      again c =
          let at = at_done p.term c in
          let same : at.0 ≡ length done = r.once at.0 (length done) t (at.2 ∙ ap Some s.term) place in
          let lt = at.1 in
          omega (arith, lt, same)

      twice : (o : Option Planned) → planned_in (picked plan done) p.term ≡ o → is_some o ≡ true → ⊥
      twice None e h = never h
      twice (Some q) e h = again (picked_is plan done p.term q e).1

      new : (is_known bits (picked plan done) p.term ≡ true) → ⊥
      new h = or_cases (is_some (bits_in bits p.term)) (is_some (planned_in (picked plan done) p.term)) h
          (λ b. s.next.next.new (first_or (is_some (bits_in bits p.term)) (is_some (planned_in (take s.place plan) p.term)) b))
          (λ b. twice (planned_in (picked plan done) p.term) refl b)

      leads : (o : Option Use) (u : ℕ) → p.used ≡ o → Contains (own_needs plan (node_at nodes t).args o) u → IsKnown bits (picked plan done) u
      leads o u e c = done_known u (earlier u (leads_to nodes bits plan whole list t u p (bare_at t p planned) planned (subst (λ x. Contains (own_needs plan (node_at nodes t).args x) u) (sym e) c)))

      by_use : (o : Option Use) → p.used ≡ o → HasWhatItNeeds nodes bits (take s.place plan) p.term o → HasWhatItNeeds nodes bits (picked plan done) p.term o
      by_use None e h = subst (λ x. All (IsKnown bits (picked plan done)) (node_at nodes x).args) (sym s.term)
          (λ k d lt. leads None (get_or (node_at nodes t).args k d) e (Contains-get_or (node_at nodes t).args k d lt))
      by_use (Some x) e h = (
        matches_on (known_image bits (take s.place plan)) (known_image bits (picked plan done)) Seen image_on nodes p.term x.to x.rule
            (λ inner. subst (HasArguments nodes Seen) (sym s.term) (has_arguments x e inner)) h.0,
        leads (Some x) x.to e (0, omega arith, refl),
      )

  -- ---- all of them

  picked_push : (done : List ℕ) (t : ℕ) → picked plan (done ++ t ∷ []) ≡ picked plan done ++ cons_option (planned_in plan t) []
  picked_push done t = filter_map-append (planned_in plan) done (t ∷ [])

  picked_next : (done rest : List ℕ) → reached ≡ done ++ rest → AreNext nodes bits (picked plan done) (picked plan rest)
  picked_next done [] split = tt
  picked_next done (t ∷ rest) split = go (planned_in plan t) refl (picked_next (done ++ t ∷ []) rest (split ∙ sym (append_assoc done (t ∷ []) rest))) where
    go : (o : Option Planned) → planned_in plan t ≡ o → AreNext nodes bits (picked plan (done ++ t ∷ [])) (picked plan rest) → AreNext nodes bits (picked plan done) (cons_option o (picked plan rest))
    go None e h = subst (λ l. AreNext nodes bits l (picked plan rest)) (picked_push done t ∙ ap (λ o. picked plan done ++ cons_option o []) e ∙ append-nil (picked plan done)) h
    go (Some p) e h = (next_picked done rest t p split e, subst (λ l. AreNext nodes bits l (picked plan rest)) (picked_push done t ∙ ap (λ o. picked plan done ++ cons_option o []) e) h)

  pub picked_plan : IsPlan nodes bits (picked plan reached)
  picked_plan = picked_next [] reached refl

  pub picked_known : All (IsKnown bits (picked plan reached)) reached
  picked_known k d lt =
      let c = Contains-get_or reached k d lt in
      seen_known reached (get_or reached k d) c (needs_known nodes bits plan whole list roots reached known r (get_or reached k d) c)

  pub roots_picked : All (IsKnown bits (picked plan reached)) roots
  roots_picked k d lt =
      let t = get_or roots k d in
      All-contains (IsKnown bits (picked plan reached)) reached t picked_known (r.all t (root_reached (needs nodes bits plan) roots t (Contains-get_or roots k d lt)))
