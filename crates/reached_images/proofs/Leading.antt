-- The walk from terms to those that their steps need: what it reaches is held and known, and no way leads back.
use Rattle.std.proofs.Common.{append_assoc, ◌≡◌, ℕ, zero, suc, ◌-◌, ◌<◌, ◌≤◌, Bool, true, false, List, [], ◌∷◌, ◌++◌, length, map, Option, Some, None, refl, sym, ap, ◌∙◌, subst, arith, inl, inr, ⊎_elim}
use Rattle.std.specs.Prelude.{◌⊎◌, ◌==◌, ◌||◌, is_some, if◌then◌else◌, All, Contains, slice_get, take, drop}
use Rattle.std.proofs.lemmas.List.{append-nil, take-append-drop}
use Rattle.std.proofs.lemmas.List.Elements.{All-contains, Contains-append_cases, Contains-append_right}
use Rattle.std.proofs.lemmas.Bool.{eq-eqb}
use Rattle.std.proofs.lemmas.Option.{slice_get-map, slice_get_past}
use Rattle.std.specs.Option.{option_map}
use Rattle.cnf_base.proofs.Lists.{Contains-map, Contains-one}
use Rattle.smt_terms.specs.declared.node.Node.{Node}
use Rattle.smt_terms.specs.Nodes.{node_at}
use Rattle.smt_terms.specs.Bits.{TermBits, bits_in}
use Rattle.smt_terms.specs.Terms.{IsTermList}
use Rattle.term_reach.specs.Reach.{IsAcyclic, IsReach, LeadsBelow}
use Rattle.term_reach.proofs.Ways.{arguments_below, reached_closed}
use Rattle.bv_rules.specs.declared.rule.Rule.{Rule}
use Rattle.bv_rules.specs.declared.rule.Rule.TheVariants.{Inner}
use Rattle.bv_rules.proofs.Known.{never}
use Rattle.bv_rules.proofs.Keeping.{matched}
use Rattle.bv_rewrite.specs.declared.simplifying.Use.{Use}
use Rattle.reached_images.specs.declared.plan.Planned.{Planned}
use Rattle.reached_images.specs.Plans.{known_image, planned_in, AreNextWhole, HasWhatItNeeds, IsKnown, IsNextWhole, IsOnArguments, IsWholePlan}
use Rattle.reached_images.specs.Needed.{is_inner, is_used, looked_through, needs, own_needs, step_needs, use_needs}
use Rattle.reached_images.proofs.Knowing.{known_later}
use Rattle.reached_images.proofs.Tables.{found_place}

pub inner_is : (rule : Rule) → is_inner rule ≡ true → rule ≡ Inner
inner_is Inner h = refl
inner_is _ h = never h

-- ---- the steps before a place

next_at : (nodes : List Node) (bits : List TermBits) (before xs : List Planned) (k : ℕ) (p : Planned) → AreNextWhole nodes bits before xs → slice_get xs k ≡ Some p → IsNextWhole nodes bits (before ++ take k xs) p
next_at nodes bits before [] k p h e = let z : ⊥ = cc in absurd z
next_at nodes bits before (x ∷ xs) zero p h e =
    let q : x ≡ p = cc in
    subst (λ l. IsNextWhole nodes bits l p) (sym (append-nil before)) (subst (IsNextWhole nodes bits before) q h.0)
next_at nodes bits before (x ∷ xs) (suc k) p h e =
    subst (λ l. IsNextWhole nodes bits l p) (append_assoc before (x ∷ []) (take k xs)) (next_at nodes bits (before ++ x ∷ []) xs k p h.1 e)

-- a number of each term that has a step, by its place
abbrev rank_up : ℕ → ℕ
rank_up zero = zero
rank_up (suc n) = suc (suc n)

abbrev rank_in : List Planned → ℕ → ℕ
rank_in [] t = zero
rank_in (p ∷ ps) t = if p.term == t then suc zero else rank_up (rank_in ps t)

up_le : (n k : ℕ) → n ≤ k → rank_up n ≤ suc k
up_le zero k h = omega arith
up_le (suc n) k h = omega (arith, h)

rank_before : (steps : List Planned) (k u : ℕ) → is_some (planned_in (take k steps) u) ≡ true → rank_in steps u ≤ k
rank_before [] k u h = omega arith
rank_before (x ∷ xs) zero u h = never h
rank_before (x ∷ xs) (suc k) u h = go (x.term == u) (rank_before xs k u) h where
  go : (b : Bool) → (is_some (planned_in (take k xs) u) ≡ true → rank_in xs u ≤ k) → is_some (if b then Some x else planned_in (take k xs) u) ≡ true → (if b then suc zero else rank_up (rank_in xs u)) ≤ suc k
  go true rest h = omega arith
  go false rest h = up_le (rank_in xs u) k (rest h)

up_is : (n k : ℕ) → n ≡ suc k → rank_up n ≡ suc (suc k)
up_is n k e = ap rank_up e

rank_at : (steps : List Planned) (k : ℕ) (p : Planned) → slice_get steps k ≡ Some p → (is_some (planned_in (take k steps) p.term) ≡ true → ⊥) → rank_in steps p.term ≡ suc k
rank_at [] k p e new = let z : ⊥ = cc in absurd z
rank_at (x ∷ xs) zero p e new = let q : x ≡ p = cc in ap (λ b. if b then suc zero else rank_up (rank_in xs p.term)) (eq-eqb x.term p.term (ap (λ r. r.term) q))
rank_at (x ∷ xs) (suc k) p e new = go (x.term == p.term) (rank_at xs k p e) new where
  go : (b : Bool) → ((is_some (planned_in (take k xs) p.term) ≡ true → ⊥) → rank_in xs p.term ≡ suc k) → (is_some (if b then Some x else planned_in (take k xs) p.term) ≡ true → ⊥)
      → (if b then suc zero else rank_up (rank_in xs p.term)) ≡ suc (suc k)
  go true rest new = absurd (new refl)
  go false rest new = up_is (rank_in xs p.term) k (rest new)

second_or : (b c : Bool) → c ≡ true → (b || c) ≡ true
second_or true c h = refl
second_or false c h = h

-- ---- to what a term leads

-- a term of the list is one of these arguments, or the other
mapped_from : (steps : List Planned) (to : ℕ) (args : List ℕ) (u : ℕ) → Contains (map (looked_through steps to) args) u → (u ≡ to) ⊎ Contains args u
mapped_from steps to [] u c = absurd (omega (arith, c.1))
mapped_from steps to (a ∷ args) u c = ⊎_elim
    (λ one. go (is_used steps a) (at_one one))
    (λ rest. ⊎_elim (λ e. inl e) (λ d. inr (Contains-append_right (a ∷ []) args u d)) (mapped_from steps to args u rest))
    (Contains-append_cases (looked_through steps to a ∷ []) (map (looked_through steps to) args) u c)
  where
    at_one : Contains (looked_through steps to a ∷ []) u → looked_through steps to a ≡ u
    at_one one = Contains-one (looked_through steps to a) u one

    go : (b : Bool) → (if b then a else to) ≡ u → (u ≡ to) ⊎ Contains (a ∷ args) u
    go true e = inr (0, omega arith, e)
    go false e = inl (sym e)

-- an argument that has an image stands among them
pub mapped_to : (steps : List Planned) (to : ℕ) (args : List ℕ) (a : ℕ) → is_used steps a ≡ true → Contains args a → Contains (map (looked_through steps to) args) a
mapped_to steps to args a used c = subst (Contains (map (looked_through steps to) args)) (ap (λ b. if b then a else to) used) (Contains-map (looked_through steps to) args a c)

-- ---- one at a place

pub used_first : (steps : List Planned) (args : List ℕ) (u : Use) (place : ℕ) → place ≡ 0 → slice_get (use_needs steps args u) place ≡ Some u.to
used_first steps args u place e = ap (slice_get (use_needs steps args u)) e

pub used_at : (steps : List Planned) (args : List ℕ) (u : Use) (place a : ℕ) → (place ≡ 0 → ⊥) → is_inner u.rule ≡ true → slice_get args (place - 1) ≡ Some a → slice_get (use_needs steps args u) place ≡ Some (looked_through steps u.to a)
used_at steps args u zero a ne inner e = absurd (ne refl)
used_at steps args u (suc k) a ne inner e =
    let back : suc k - 1 ≡ k = omega arith in
    ap (λ b. slice_get (if b then map (looked_through steps u.to) args else []) k) inner
    ∙ slice_get-map (looked_through steps u.to) args k
    ∙ ap (option_map (looked_through steps u.to)) (ap (slice_get args) (sym back) ∙ e)

pub used_past : (steps : List Planned) (args : List ℕ) (u : Use) (place : ℕ) → (place ≡ 0 → ⊥) → is_inner u.rule ≡ true → length args ≤ place - 1 → slice_get (use_needs steps args u) place ≡ None
used_past steps args u zero ne inner le = absurd (ne refl)
used_past steps args u (suc k) ne inner le =
    let back : suc k - 1 ≡ k = omega arith in
    ap (λ b. slice_get (if b then map (looked_through steps u.to) args else []) k) inner
    ∙ slice_get-map (looked_through steps u.to) args k
    ∙ ap (option_map (looked_through steps u.to)) (slice_get_past args k (omega (arith, le, back)))

-- the same bits and steps under other names
pub needs_same : (P : (ℕ → List ℕ) → Type 0) (nodes : List Node) (bits told : List TermBits) (plan before : List Planned) → told ≡ bits → before ≡ plan → P (needs nodes bits plan) → P (needs nodes told before)
needs_same P nodes bits told plan before eb ep h = subst (λ b. P (needs nodes b before)) (sym eb) (subst (λ l. P (needs nodes bits l)) (sym ep) h)

module _ (nodes : List Node) (bits : List TermBits) (plan : List Planned) (whole : IsWholePlan nodes bits plan) (list : IsTermList nodes) where
  -- a step of the plan, at its place
  pub record IsStepOf (t : ℕ) (p : Planned) : Type 0 where
    pub place : ℕ
    pub at : slice_get plan place ≡ Some p
    pub term : p.term ≡ t
    pub next : IsNextWhole nodes bits (take place plan) p

  pub step_of : (t : ℕ) (p : Planned) → planned_in plan t ≡ Some p → IsStepOf t p
  step_of t p e = let f = found_place plan t p e in record { place = f.0; at = f.1; term = f.2; next = next_at nodes bits [] plan f.0 p whole f.1 }

  pub known_whole : (k u : ℕ) → IsKnown bits (take k plan) u → IsKnown bits plan u
  known_whole k u h = known_later bits (take k plan) plan u (drop k plan, sym (take-append-drop k plan)) h

  -- what a step needs is held, and known before it
  needs_of : (t u : ℕ) (p : Planned) (s : IsStepOf t p) → Contains (own_needs plan (node_at nodes t).args p.used) u → (u < length nodes) × IsKnown bits (take s.place plan) u
  needs_of t u p s c = go p.used refl c where
    held : Contains (node_at nodes t).args u → u < length nodes
    held c = arguments_below nodes list t u c

    own : All (IsKnown bits (take s.place plan)) (node_at nodes p.term).args → Contains (node_at nodes t).args u → IsKnown bits (take s.place plan) u
    own all c = All-contains (IsKnown bits (take s.place plan)) (node_at nodes t).args u (subst (λ x. All (IsKnown bits (take s.place plan)) (node_at nodes x).args) s.term all) c

    go : (o : Option Use) → p.used ≡ o → Contains (own_needs plan (node_at nodes t).args o) u → (u < length nodes) × IsKnown bits (take s.place plan) u
    go None e c = (held c, own (subst (HasWhatItNeeds nodes bits (take s.place plan) p.term) e s.next.next.needs) c)
    go (Some x) e c =
        let needed = subst (HasWhatItNeeds nodes bits (take s.place plan) p.term) e s.next.next.needs in
        let m = matched nodes (known_image bits (take s.place plan)) x.rule p.term x.to needed.0 in
        let to : u ≡ x.to → (u < length nodes) × IsKnown bits (take s.place plan) u = λ q. subst (λ y. (y < length nodes) × IsKnown bits (take s.place plan) y) (sym q) (m.to, needed.1) in
        ⊎_elim
        (λ one. to (sym (Contains-one x.to u one)))
        (λ rest. through x e to (is_inner x.rule) refl rest)
        (Contains-append_cases (x.to ∷ []) (if is_inner x.rule then map (looked_through plan x.to) (node_at nodes t).args else []) u c)
      where
        through : (x : Use) → p.used ≡ Some x → (u ≡ x.to → (u < length nodes) × IsKnown bits (take s.place plan) u) → (b : Bool) → is_inner x.rule ≡ b
            → Contains (if b then map (looked_through plan x.to) (node_at nodes t).args else []) u → (u < length nodes) × IsKnown bits (take s.place plan) u
        through x e to false i c = absurd (omega (arith, c.1))
        through x e to true i c = ⊎_elim to (λ d. (held d, own (s.next.arguments (subst IsOnArguments (sym e) (inner_is x.rule i))) d)) (mapped_from plan x.to (node_at nodes t).args u c)

  -- a term that leads to another has a step and no bits
  pub record Leads (t u : ℕ) : Type 0 where
    pub bare : is_some (bits_in bits t) ≡ false
    pub step : Planned
    pub planned : planned_in plan t ≡ Some step
    pub own : Contains (own_needs plan (node_at nodes t).args step.used) u

  pub leads_from : (t u : ℕ) → Contains (needs nodes bits plan t) u → Leads t u
  leads_from t u c = go (is_some (bits_in bits t)) refl c where
    none : Contains [] u → ⊥
    none c = omega (arith, c.1)

    by_step : (o : Option Planned) → is_some (bits_in bits t) ≡ false → planned_in plan t ≡ o → Contains (step_needs plan (node_at nodes t).args o) u → Leads t u
    by_step None b e c = absurd (none c)
    by_step (Some p) b e c = record { bare = b; step = p; planned = e; own = c }

    go : (b : Bool) → is_some (bits_in bits t) ≡ b → Contains (if b then [] else step_needs plan (node_at nodes t).args (planned_in plan t)) u → Leads t u
    go true e c = absurd (none c)
    go false e c = by_step (planned_in plan t) e refl c

  pub leads_to : (t u : ℕ) (p : Planned) → is_some (bits_in bits t) ≡ false → planned_in plan t ≡ Some p → Contains (own_needs plan (node_at nodes t).args p.used) u → Contains (needs nodes bits plan t) u
  leads_to t u p b e c =
      subst (λ x. Contains (if x then [] else step_needs plan (node_at nodes t).args (planned_in plan t)) u) (sym b)
      (subst (λ o. Contains (step_needs plan (node_at nodes t).args o) u) (sym e) c)

  pub needs_below : LeadsBelow (length nodes) (needs nodes bits plan)
  needs_below t u c = let l = leads_from t u c in (needs_of t u l.step (step_of t l.step l.planned) l.own).0

  -- a term has bits, or its place
  abbrev rank : ℕ → ℕ
  rank t = if is_some (bits_in bits t) then zero else rank_in plan t

  rank_known : (k u : ℕ) → IsKnown bits (take k plan) u → rank u ≤ k
  rank_known k u h = go (is_some (bits_in bits u)) h where
    go : (b : Bool) → (b || is_some (planned_in (take k plan) u)) ≡ true → (if b then zero else rank_in plan u) ≤ k
    go true h = omega arith
    go false h = rank_before plan k u h

  pub needs_acyclic : IsAcyclic (needs nodes bits plan)
  needs_acyclic = (
    rank,
    λ t u c. (
        let l = leads_from t u c in
        let s = step_of t l.step l.planned in
        let low = rank_known s.place u (needs_of t u l.step s l.own).1 in
        let own : rank_in plan t ≡ suc s.place = subst (λ x. rank_in plan x ≡ suc s.place) s.term (rank_at plan s.place l.step s.at (λ q. s.next.next.new (second_or (is_some (bits_in bits l.step.term)) (is_some (planned_in (take s.place plan) l.step.term)) q))) in
        let high : rank t ≡ suc s.place = ap (λ b. if b then zero else rank_in plan t) l.bare ∙ own in
        omega (arith, low, high)),
  )

  -- all that terms which are known reach is known
  pub needs_known : (roots reached : List ℕ) → All (IsKnown bits plan) roots → IsReach (needs nodes bits plan) roots reached → (t : ℕ) → Contains reached t → IsKnown bits plan t
  needs_known roots reached h r t c =
      reached_closed (needs nodes bits plan) (IsKnown bits plan) roots
      (λ a b k d. (let l = leads_from a b d in let s = step_of a l.step l.planned in known_whole s.place b (needs_of a b l.step s l.own).1))
      (λ u root. All-contains (IsKnown bits plan) roots u h root) t (r.only t c)
