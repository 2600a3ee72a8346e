-- A step, a way of uses, and terms in an order, put behind a plan.
use Rattle.std.proofs.Common.{◌≡◌, ℕ, zero, suc, ◌<◌, ◌≤◌, ◌+◌, ◌-◌, Bool, true, false, List, [], ◌∷◌, ◌++◌, length, length-append, get_or, Some, None, refl, sym, ap, ◌∙◌, subst, arith, ⊎_elim}
use Rattle.std.specs.Prelude.{if◌then◌else◌, All, Contains, slice_get}
use Rattle.std.proofs.lemmas.Option.{slice_get-get_or, slice_get_within}
use Rattle.std.proofs.lemmas.Bool.{cases_lt}
use Rattle.std.proofs.lemmas.List.Elements.{All-contains, All-from_recursion, Contains-get_or}
use Rattle.smt_terms.specs.declared.node.Node.{Node}
use Rattle.smt_terms.specs.Nodes.{node_at}
use Rattle.smt_terms.specs.Bits.{TermBits}
use Rattle.smt_terms.specs.Terms.{AreTerms, IsTermList, TermsValue}
use Rattle.smt_terms.proofs.Growing.{node_longer}
use Rattle.term_reach.specs.Reach.{arguments, InReachOrder, IsReach, IsAcyclic, LeadsBelow}
use Rattle.term_reach.proofs.Ways.{argument_earlier, arguments_below, reached_closed, root_reached}
use Rattle.term_reach.proofs.Tables.{at_contained}
use Rattle.bv_rules.specs.declared.rule.Rule.TheVariants.{Inner}
use Rattle.bv_rules.proofs.Known.{never}
use Rattle.bv_rules.proofs.Keeping.{matched}
use Rattle.bv_rewrite.specs.declared.simplifying.Use.{Use}
use Rattle.bv_rewrite.specs.Simplifying.{AreNeeded, IsGrown, IsWay}
use Rattle.bv_rewrite.proofs.Following.{grown_more, grown_none}
use Rattle.reached_images.specs.declared.plan.Planned.{Planned}
use Rattle.reached_images.specs.Plans.{is_known, known_image, open_arguments, start_at, uses_of, with_step, AreInnerFirst, HasKnownArguments, IsKnown, IsLater, IsNext, IsNextWhole, IsPlan, IsPlannedBy, IsWholePlan, StaysWhole}
use Rattle.reached_images.specs.Settled.{AreOwn}
use Rattle.reached_images.proofs.Knowing.{image_later, known_last, known_later, later_itself, later_on}
use Rattle.reached_images.proofs.Needing.{needed_next, none_new}
use Rattle.reached_images.proofs.Stepping.{matches_later, next_push, start_first, start_later, way_end, way_use, whole_push}

-- ---- a step

pub step_cases : (C : List Planned → Type 0) (bits : List TermBits) (steps : List Planned) (p : Planned) → (IsKnown bits steps p.term → C steps) → ((IsKnown bits steps p.term → ⊥) → C (steps ++ p ∷ [])) → C (with_step bits steps p)
step_cases C bits steps p f g = go (is_known bits steps p.term) refl where
  go : (b : Bool) → is_known bits steps p.term ≡ b → C (if b then steps else steps ++ p ∷ [])
  go true e = f e
  go false e = g (λ h. never (sym e ∙ h))

pub add_step : (nodes : List Node) (bits : List TermBits) (plan : List Planned) (p : Planned) → IsPlan nodes bits plan → ((IsKnown bits plan p.term → ⊥) → IsNext nodes bits plan p) → IsPlannedBy nodes bits plan (with_step bits plan p) p.term
add_step nodes bits plan p h n =
    step_cases (λ s. IsPlannedBy nodes bits plan s p.term) bits plan p
    (λ k. record { plan = h; later = later_itself plan; known = k })
    (λ nk. record { plan = next_push nodes bits [] plan p h (n nk); later = (p ∷ [], refl); known = known_last bits plan p })

-- where it may stand behind its arguments, the plan stays whole
pub add_whole : (nodes : List Node) (bits : List TermBits) (plan : List Planned) (p : Planned) → IsWholePlan nodes bits plan → ((IsKnown bits plan p.term → ⊥) → IsNextWhole nodes bits plan p) → IsWholePlan nodes bits (with_step bits plan p)
add_whole nodes bits plan p h n = step_cases (λ s. IsWholePlan nodes bits s) bits plan p (λ k. h) (λ nk. whole_push nodes bits [] plan p h (n nk))

pub planned_on : (nodes : List Node) (bits : List TermBits) (a b c : List Planned) (t u : ℕ) → IsPlannedBy nodes bits a b t → IsPlannedBy nodes bits b c u → IsPlannedBy nodes bits a c u
planned_on nodes bits a b c t u p q = record { plan = q.plan; later = later_on a b c p.later q.later; known = q.known }

-- ---- the walk over arguments of what is not known

module _ (nodes : List Node) (bits : List TermBits) (steps : List Planned) where
  pub open_from : (t u : ℕ) → Contains (open_arguments nodes bits steps t) u → Contains (arguments nodes t) u
  open_from t u = go (is_known bits steps t) where
    go : (b : Bool) → Contains (if b then [] else (node_at nodes t).args) u → Contains (arguments nodes t) u
    go true c = absurd (omega (arith, c.1))
    go false c = c

  pub open_to : (t u : ℕ) → (IsKnown bits steps t → ⊥) → Contains (arguments nodes t) u → Contains (open_arguments nodes bits steps t) u
  open_to t u new c = go (is_known bits steps t) refl where
    go : (b : Bool) → is_known bits steps t ≡ b → Contains (if b then [] else (node_at nodes t).args) u
    go true e = absurd (new e)
    go false e = c

  pub open_acyclic : IsTermList nodes → IsAcyclic (open_arguments nodes bits steps)
  open_acyclic list = (λ t. t, λ t u c. argument_earlier nodes list t u (open_from t u c))

  pub open_below : IsTermList nodes → LeadsBelow (length nodes) (open_arguments nodes bits steps)
  open_below list t u c = arguments_below nodes list t u (open_from t u c)

  pub open_held : (roots reached : List ℕ) → IsTermList nodes → All (λ t. t < length nodes) roots → IsReach (open_arguments nodes bits steps) roots reached → (t : ℕ) → Contains reached t → t < length nodes
  open_held roots reached list held r t c =
      reached_closed (open_arguments nodes bits steps) (λ u. u < length nodes) roots (λ a b lt l. open_below list a b l)
      (λ u root. All-contains (λ a. a < length nodes) roots u held root) t (r.only t c)

-- ---- a walk over what is not known

pub same_reach : (nodes : List Node) (bits told : List TermBits) (old before : List Planned) (roots reached items : List ℕ) → told ≡ bits → before ≡ old → IsReach (open_arguments nodes told before) roots reached → items ≡ reached → IsReach (open_arguments nodes bits old) roots items
same_reach nodes bits told old before roots reached items eb eo r ei =
    subst (IsReach (open_arguments nodes bits old) roots) (sym ei)
    (subst (λ x. IsReach (open_arguments nodes bits x) roots reached) eo (subst (λ x. IsReach (open_arguments nodes x before) roots reached) eb r))

pub one_held : (nodes : List Node) (t : ℕ) → t < length nodes → All (λ u. u < length nodes) (t ∷ [])
one_held nodes t lt = All-from_recursion (λ u. u < length nodes) (t ∷ []) (lt, tt)

-- ---- a way of uses

module _ (nodes : List Node) (bits : List TermBits) (before old : List Planned) (t : ℕ) (uses : List Use) (last : ℕ) (begun : IsLater before old) (way : IsWay nodes (known_image bits before) t uses last) where
  -- the term from which the use at the place leads is known
  abbrev pub IsWayFrom : List Planned → ℕ → Type 0
  IsWayFrom plan i = IsPlannedBy nodes bits old plan (start_at t uses i)

  pub way_begun : IsPlan nodes bits old → IsKnown bits old last → IsWayFrom old (length uses)
  way_begun h k = record { plan = h; later = later_itself old; known = subst (IsKnown bits old) (sym (way_end nodes (known_image bits before) t uses last way)) k }

  way_is_next : (plan : List Planned) (k : ℕ) (s : Use) → IsWayFrom plan (suc k) → slice_get uses k ≡ Some s → (IsKnown bits plan (start_at t uses k) → ⊥) → IsNext nodes bits plan (record { term = start_at t uses k; used = Some s })
  way_is_next plan k s h e new =
      let takes = matches_later (known_image bits before) (known_image bits plan) (λ a b f. image_later bits before plan a b (later_on before old plan begun h.later) f) nodes (start_at t uses k) s.to s.rule (way_use nodes (known_image bits before) t uses last k s way e) in
      record {
        held = (matched nodes (known_image bits plan) s.rule (start_at t uses k) s.to takes).from;
        new = new;
        needs = (takes, subst (IsKnown bits plan) (start_later t uses k s e) h.known);
      }

  pub way_next : (plan : List Planned) (k : ℕ) (s : Use) → IsWayFrom plan (suc k) → slice_get uses k ≡ Some s → (let p : Planned = record { term = start_at t uses k; used = Some s } in IsWayFrom (with_step bits plan p) k)
  way_next plan k s h e =
      let p : Planned = record { term = start_at t uses k; used = Some s } in
      let added = add_step nodes bits plan p h.plan (way_is_next plan k s h e) in
      planned_on nodes bits old plan (with_step bits plan p) (start_at t uses (suc k)) (start_at t uses k) h added

  pub way_step : (plan new : List Planned) (i : ℕ) (d : Use) (from : ℕ) → 0 < i → i ≤ length uses → IsWayFrom plan i → from ≡ start_at t uses (i - 1) → new ≡ with_step bits plan (record { term = from; used = Some (get_or uses (i - 1) d) }) → IsWayFrom new (i - 1)
  way_step plan new i d from some le h is e =
      let back : i ≡ suc (i - 1) = omega (arith, some) in
      let there = slice_get-get_or uses (i - 1) d (omega (arith, some, le)) in
      let next = way_next plan (i - 1) (get_or uses (i - 1) d) (subst (IsWayFrom plan) back h) there in
      subst (λ l. IsWayFrom l (i - 1)) (sym (e ∙ ap (λ f. with_step bits plan (record { term = f; used = Some (get_or uses (i - 1) d) })) is)) next

  -- the first use, which alone may look through images, leads from a term whose arguments are known
  module _ (first : AreInnerFirst uses) (args : HasKnownArguments nodes bits old t) where
    way_args : (plan : List Planned) (k : ℕ) (s : Use) → IsLater old plan → slice_get uses k ≡ Some s → s.rule ≡ Inner → HasKnownArguments nodes bits plan (start_at t uses k)
    way_args plan zero s l e inner = subst (HasKnownArguments nodes bits plan) (sym (start_first t uses)) (λ j d lt. known_later bits old plan (get_or (node_at nodes t).args j d) l (args j d lt))
    way_args plan (suc k) s l e inner = absurd (first k s e inner)

    whole_way : (plan : List Planned) (k : ℕ) (s : Use) → IsWayFrom plan (suc k) → slice_get uses k ≡ Some s → StaysWhole nodes bits old plan → StaysWhole nodes bits old (with_step bits plan (record { term = start_at t uses k; used = Some s }))
    whole_way plan k s h e w o = add_whole nodes bits plan (record { term = start_at t uses k; used = Some s }) (w o) (λ new. record { next = way_is_next plan k s h e new; arguments = way_args plan k s h.later e })

    pub whole_way_step : (plan new : List Planned) (i : ℕ) (d : Use) (from : ℕ) → 0 < i → i ≤ length uses → IsWayFrom plan i → from ≡ start_at t uses (i - 1) → new ≡ with_step bits plan (record { term = from; used = Some (get_or uses (i - 1) d) })
        → StaysWhole nodes bits old plan → StaysWhole nodes bits old new
    whole_way_step plan new i d from some le h is e w =
        let back : i ≡ suc (i - 1) = omega (arith, some) in
        let there = slice_get-get_or uses (i - 1) d (omega (arith, some, le)) in
        let next = whole_way plan (i - 1) (get_or uses (i - 1) d) (subst (IsWayFrom plan) back h) there w in
        subst (StaysWhole nodes bits old) (sym (e ∙ ap (λ f. with_step bits plan (record { term = f; used = Some (get_or uses (i - 1) d) })) is)) next

  pub way_ended : (plan : List Planned) (i : ℕ) → i ≤ 0 → IsWayFrom plan i → IsPlannedBy nodes bits old plan t
  way_ended plan i none h =
      let first : i ≡ 0 = omega (arith, none) in
      subst (IsPlannedBy nodes bits old plan) (ap (start_at t uses) first ∙ start_first t uses) h

-- ---- terms one after the other

-- the terms before a place are known behind the plan, over terms that have perhaps grown, by those that its uses need
pub record ArePlannedTo (v w : TermsValue) (bits : List TermBits) (old now : List Planned) (order : List ℕ) (i : ℕ) : Type 0 where
  pub grown : IsGrown v w
  pub plan : IsPlan w.nodes bits now
  pub later : IsLater old now
  pub whole : InReachOrder (open_arguments v.nodes bits old) order → IsWholePlan v.nodes bits old → IsWholePlan w.nodes bits now
  pub own : AreOwn v bits old → AreOwn w bits now
  pub needed : AreNeeded (length v.nodes) w.nodes (uses_of now)
  pub done : (j u : ℕ) → j < i → slice_get order j ≡ Some u → IsKnown bits now u

pub terms_begun : (v : TermsValue) (bits : List TermBits) (old : List Planned) (order : List ℕ) → AreTerms v → IsPlan v.nodes bits old → ArePlannedTo v v bits old old order 0
terms_begun v bits old order h plan = record {
  grown = grown_none v h;
  plan = plan;
  later = later_itself old;
  whole = λ o w. w;
  own = λ o. o;
  needed = none_new v.nodes (uses_of old);
  done = λ j u lt e. absurd (omega (arith, lt));
}

-- a term of the order is held by then
pub terms_held : (v w : TermsValue) (order : List ℕ) (i d : ℕ) → All (λ t. t < length v.nodes) order → i < length order → IsGrown v w → get_or order i d < length w.nodes
terms_held v w order i d held lt g =
    let below = held i d lt in
    let more : length w.nodes ≡ length (v.nodes ++ g.more) = ap length g.nodes in
    omega (arith, below, more, length-append v.nodes g.more)

-- the arguments of a term that were known are known behind more steps, over more terms
pub args_known : (v w : TermsValue) (bits : List TermBits) (old new : List Planned) (t : ℕ) → IsGrown v w → t < length v.nodes → IsLater old new → HasKnownArguments v.nodes bits old t → HasKnownArguments w.nodes bits new t
args_known v w bits old new t g lt l h =
    let same : node_at w.nodes t ≡ node_at v.nodes t = ap (λ n. node_at n t) g.nodes ∙ node_longer v.nodes g.more t lt in
    subst (λ (n : Node). All (IsKnown bits new) n.args) (sym same) (λ k d i. known_later bits old new (get_or (node_at v.nodes t).args k d) l (h k d i))

-- the arguments of the next term are known, where it is not, if each stands behind its arguments
pub terms_arguments : (v w : TermsValue) (bits : List TermBits) (old plan : List Planned) (order : List ℕ) (i d : ℕ)
    → All (λ t. t < length v.nodes) order → InReachOrder (open_arguments v.nodes bits old) order → ArePlannedTo v w bits old plan order i → i < length order
    → (IsKnown bits plan (get_or order i d) → ⊥) → HasKnownArguments w.nodes bits plan (get_or order i d)
terms_arguments v w bits old plan order i d held in_order h lt new =
    let t = get_or order i d in
    args_known v w bits plan plan t h.grown (held i d lt) (later_itself plan)
    (λ j e l. (let before = in_order i t (get_or (arguments v.nodes t) j e) (slice_get-get_or order i d lt)
    (open_to v.nodes bits old t (get_or (arguments v.nodes t) j e) (λ k. new (known_later bits old plan t h.later k)) (Contains-get_or (arguments v.nodes t) j e l)) in
    h.done before.0 (get_or (arguments v.nodes t) j e) before.1 before.2))

pub terms_next : (v w x : TermsValue) (bits : List TermBits) (old plan new : List Planned) (order : List ℕ) (i d : ℕ)
    → All (λ t. t < length v.nodes) order → ArePlannedTo v w bits old plan order i → i < length order → IsGrown w x → IsPlannedBy x.nodes bits plan new (get_or order i d)
    → (((IsKnown bits plan (get_or order i d) → ⊥) → HasKnownArguments w.nodes bits plan (get_or order i d)) → IsWholePlan w.nodes bits plan → IsWholePlan x.nodes bits new)
    → (AreOwn w bits plan → AreOwn x bits new)
    → AreNeeded (length w.nodes) x.nodes (uses_of new) → ArePlannedTo v x bits old new order (i + 1)
terms_next v w x bits old plan new order i d held h within g p whole own n = record {
  grown = grown_more v w x h.grown g;
  plan = p.plan;
  later = later_on old plan new h.later p.later;
  whole = λ o k. whole (terms_arguments v w bits old plan order i d held o h within) (h.whole o k);
  own = λ o. own (h.own o);
  needed = needed_next v w x plan new g p.later h.needed n;
  done = λ j u lt e. ⊎_elim
      (λ less. known_later bits plan new u p.later (h.done j u less e))
      (λ le. (let same : j ≡ i = omega (arith, lt, le) in
      let is : Some u ≡ Some (get_or order i d) = sym e ∙ ap (slice_get order) same ∙ slice_get-get_or order i d within in
      let own : u ≡ get_or order i d = cc in
      subst (IsKnown bits new) (sym own) p.known))
      (cases_lt j i);
}

pub terms_done : (v w : TermsValue) (bits : List TermBits) (old plan : List Planned) (order : List ℕ) (i : ℕ) → ArePlannedTo v w bits old plan order i → length order ≤ i → All (IsKnown bits plan) order
terms_done v w bits old plan order i h le k d lt = h.done k (get_or order k d) (omega (arith, lt, le)) (slice_get-get_or order k d lt)

-- ---- all that some terms reach

pub reached_known : (nodes : List Node) (bits : List TermBits) (steps plan : List Planned) (roots reached : List ℕ) → IsReach (open_arguments nodes bits steps) roots reached → All (IsKnown bits plan) reached → All (IsKnown bits plan) roots
reached_known nodes bits steps plan roots reached r h k d lt =
    All-contains (IsKnown bits plan) reached (get_or roots k d) h (r.all (get_or roots k d) (root_reached (open_arguments nodes bits steps) roots (get_or roots k d) (Contains-get_or roots k d lt)))

pub reached_held : (nodes : List Node) (bits : List TermBits) (steps : List Planned) (roots reached : List ℕ) → IsTermList nodes → All (λ t. t < length nodes) roots → IsReach (open_arguments nodes bits steps) roots reached → All (λ t. t < length nodes) reached
reached_held nodes bits steps roots reached list held r k d lt = open_held nodes bits steps roots reached list held r (get_or reached k d) (Contains-get_or reached k d lt)
