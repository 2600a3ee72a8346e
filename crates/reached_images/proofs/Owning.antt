-- Steps of terms that keep their operators, and why they do.
use Rattle.std.proofs.Common.{append_assoc, ◌≡◌, ℕ, zero, suc, ◌<◌, ◌≤◌, ◌+◌, ◌-◌, Bool, true, false, List, [], ◌∷◌, ◌++◌, length, get_or, Option, Some, None, refl, sym, ap, ◌∙◌, subst, arith, inl, inr, ⊎_elim}
use Rattle.std.specs.Prelude.{◌⊎◌, ◌==◌, ◌&&◌, ◌||◌, not, is_some, if◌then◌else◌, All, Contains, MatchOption, slice_get, take, drop}
use Rattle.std.proofs.Math.Seq.{take-append_seam}
use Rattle.std.proofs.lemmas.List.{append-nil, take_all, take_more, take-append-le}
use Rattle.std.proofs.lemmas.List.Elements.{All-contains, Contains-get_or}
use Rattle.std.proofs.lemmas.Option.{slice_get-get_or, slice_get_within}
use Rattle.std.proofs.lemmas.Bool.{cases_lt}
use Rattle.cnf_base.proofs.Lists.{Contains-one}
use Rattle.smt_terms.specs.declared.operator.Operator.TheVariants as plain
use Rattle.smt_terms.specs.declared.node.Node.{Node}
use Rattle.smt_terms.specs.Nodes.{node_at}
use Rattle.smt_terms.specs.Bits.{TermBits}
use Rattle.smt_terms.specs.Ranks.{is_plain}
use Rattle.smt_terms.specs.Terms.{AreTerms, IsTermList, TermsValue, sort_of}
use Rattle.smt_terms.proofs.Growing.{sort_longer}
use Rattle.term_reach.proofs.Ways.{arguments_below}
use Rattle.bv_rules.specs.declared.reading.Constant.TheVariants.{Zero}
use Rattle.bv_rules.specs.declared.rule.Rule.TheVariants.{Fold}
use Rattle.bv_rules.specs.Reading.{is_constant, arg}
use Rattle.bv_rules.specs.Rules.{of_term}
use Rattle.bv_rules.proofs.Longer.{arg_held, arg_longer, inner_op, is_longer, of_longer}
use Rattle.bv_rewrite.specs.declared.simplifying.Use.{Use}
use Rattle.bv_rewrite.specs.declared.simplifying.Simplified.{Simplified}
use Rattle.bv_rewrite.specs.Kept.{is_negated, stays_difference}
use Rattle.bv_rewrite.specs.Simplifying.{AreNeeded, IsEnd, IsGrown}
use Rattle.bv_rewrite.proofs.Following.{grown_more, grown_none}
use Rattle.bv_rewrite.proofs.Lasting.{becomes_longer}
use Rattle.reached_images.specs.declared.plan.Planned.{Planned}
use Rattle.reached_images.specs.Plans.{is_known, keeps_known, start_at, uses_of, with_step, AreNext, HasKnownArguments, IsKnown, IsLater, IsNext, IsPlan, IsPlannedBy, IsWholePlan, StaysWhole}
use Rattle.reached_images.specs.Settled.{own_step, way_steps, with_end, with_own, AreOwn, IsSettled, IsSupported, KeepsItself, Stands}
use Rattle.reached_images.proofs.Knowing.{known_last, known_later, later_itself, later_on}
use Rattle.reached_images.proofs.Needing.{later_with, none_new}
use Rattle.reached_images.proofs.Stepping.{start_first, start_later}
use Rattle.reached_images.proofs.Tables.{push_cases}
use Rattle.reached_images.proofs.Whole.{add_step, add_whole, step_cases}

-- ---- settled terms, over more terms

module _ (nodes more : List Node) (list : IsTermList nodes) where
  negated_longer : (x y : ℕ) → x < length nodes → is_negated (nodes ++ more) x y ≡ is_negated nodes x y
  negated_longer x y lx =
      let a = arg_longer nodes more list 0 x lx in
      let o : of_term (nodes ++ more) plain.Bvneg y (arg (nodes ++ more) 0 x) ≡ of_term nodes plain.Bvneg y (arg nodes 0 x) = ap (of_term (nodes ++ more) plain.Bvneg y) a ∙ of_longer nodes more list plain.Bvneg y (arg nodes 0 x) (arg_held nodes more list 0 x lx) in
      (λ i. is_longer nodes more list plain.Bvneg x lx i && ((a i == y) || o i))

  stays_longer : (t : ℕ) → t < length nodes → stays_difference (nodes ++ more) t ≡ stays_difference nodes t
  stays_longer t lt =
      let a = arg_longer nodes more list 0 t lt in
      let b = arg_longer nodes more list 1 t lt in
      let n : is_negated (nodes ++ more) (arg (nodes ++ more) 0 t) (arg (nodes ++ more) 1 t) ≡ is_negated nodes (arg nodes 0 t) (arg nodes 1 t) = (λ i. is_negated (nodes ++ more) (a i) (b i)) ∙ negated_longer (arg nodes 0 t) (arg nodes 1 t) (arg_held nodes more list 0 t lt) in
      (λ i. is_longer nodes more list plain.Bvsub t lt i && (not (is_some (becomes_longer nodes more list Fold t lt i)) && (not (is_constant Zero (inner_op nodes more list 0 t lt i)) && (not (a i == b i) && not (n i)))))

  settled_longer : (t : ℕ) → t < length nodes → IsSettled nodes t → IsSettled (nodes ++ more) t
  settled_longer t lt (inl e) = inl (stays_longer t lt ∙ e)
  settled_longer t lt (inr last) = inr (λ rule. becomes_longer nodes more list rule t lt ∙ last rule)

settled_grown : (v w : TermsValue) (t : ℕ) → IsTermList v.nodes → IsGrown v w → t < length v.nodes → IsSettled v.nodes t → IsSettled w.nodes t
settled_grown v w t list g lt h = subst (λ l. IsSettled l t) (sym g.nodes) (settled_longer v.nodes g.more list t lt h)

-- a term that is not known, at which the rules end
pub end_settled : (nodes : List Node) (bits : List TermBits) (steps : List Planned) (t : ℕ) → IsEnd (keeps_known bits steps) nodes t → (IsKnown bits steps t → ⊥) → IsSettled nodes t
end_settled nodes bits steps t (inr last) new = inr last
end_settled nodes bits steps t (inl e) new = go (is_known bits steps t) refl e where
  go : (b : Bool) → is_known bits steps t ≡ b → (b || stays_difference nodes t) ≡ true → IsSettled nodes t
  go true k e = absurd (new k)
  go false k e = inl e

-- ---- one step more, and more terms

pub own_none : (w : TermsValue) (bits : List TermBits) → AreOwn w bits []
own_none w bits k p e = let z : ⊥ = cc in absurd z

own_push : (w : TermsValue) (bits : List TermBits) (steps : List Planned) (p : Planned) → AreOwn w bits steps → (p.used ≡ None → KeepsItself w bits steps p.term) → AreOwn w bits (steps ++ p ∷ [])
own_push w bits steps p h n k q e u = ⊎_elim
    (λ old. (let lt = slice_get_within steps k q old in subst (λ l. KeepsItself w bits l q.term) (sym (take-append-le k steps (p ∷ []) (omega (arith, lt)))) (h k q old u)))
    (λ new. (let before : take k (steps ++ p ∷ []) ≡ steps = (λ i. take (new.0 i) (steps ++ p ∷ [])) ∙ take-append_seam steps (p ∷ []) in
    subst (λ l. KeepsItself w bits l q.term) (sym before) (subst (λ (x : Planned). KeepsItself w bits steps x.term) (sym new.1) (n (sym (ap (λ (x : Planned). x.used) new.1) ∙ u)))))
    (push_cases steps p k q e)

pub own_with : (w : TermsValue) (bits : List TermBits) (steps : List Planned) (p : Planned) → AreOwn w bits steps → ((IsKnown bits steps p.term → ⊥) → p.used ≡ None → KeepsItself w bits steps p.term) → AreOwn w bits (with_step bits steps p)
own_with w bits steps p h n = step_cases (AreOwn w bits) bits steps p (λ k. h) (λ nk. own_push w bits steps p h (n nk))

pub own_used : (w : TermsValue) (bits : List TermBits) (steps new : List Planned) (p : Planned) (s : Use) → p.used ≡ Some s → new ≡ with_step bits steps p → AreOwn w bits steps → AreOwn w bits new
own_used w bits steps new p s u e h = subst (AreOwn w bits) (sym e) (own_with w bits steps p h (λ nk n. (let z : Some s ≡ None = sym u ∙ n in let f : ⊥ = cc in absurd f)))

held_at : (nodes : List Node) (bits : List TermBits) (before xs : List Planned) (k : ℕ) (p : Planned) → AreNext nodes bits before xs → slice_get xs k ≡ Some p → p.term < length nodes
held_at nodes bits before [] k p h e = let z : ⊥ = cc in absurd z
held_at nodes bits before (x ∷ xs) zero p h e = let q : x ≡ p = cc in subst (λ (y : Planned). y.term < length nodes) q h.0.held
held_at nodes bits before (x ∷ xs) (suc k) p h e = held_at nodes bits (before ++ x ∷ []) xs k p h.1 e

pub own_grown : (v w : TermsValue) (bits : List TermBits) (steps : List Planned) → IsTermList v.nodes → IsGrown v w → IsPlan v.nodes bits steps → AreOwn v bits steps → AreOwn w bits steps
own_grown v w bits steps list g plan h k p e u plain =
    let lt = held_at v.nodes bits [] steps k p plan e in
    let same : sort_of w.nodes p.term ≡ sort_of v.nodes p.term = ap (λ l. sort_of l p.term) g.nodes ∙ sort_longer v.nodes g.more p.term lt in
    ⊎_elim
    (λ s. inl (settled_grown v w p.term list g lt s))
    (λ x. inr (record { terms = x.terms; grown = grown_more x.terms v w x.grown g; why = x.why }))
    (h k p e u (sym (ap is_plain same) ∙ plain))

-- ---- a term whose arguments are known, put behind a plan

-- the plan has what the old one had, and the term is known
pub record IsOneMore (v w : TermsValue) (bits : List TermBits) (old now : List Planned) (t : ℕ) : Type 0 where
  pub grown : IsGrown v w
  pub planned : IsPlannedBy w.nodes bits old now t
  pub whole : IsWholePlan v.nodes bits old → IsWholePlan w.nodes bits now
  pub own : AreOwn v bits old → AreOwn w bits now
  pub needed : AreNeeded (length v.nodes) w.nodes (uses_of now)

pub one_kept : (v w : TermsValue) (bits : List TermBits) (old plan now : List Planned) (t : ℕ) → AreTerms v → t < length v.nodes → IsPlan v.nodes bits old → ((IsKnown bits old t → ⊥) → HasKnownArguments v.nodes bits old t)
    → (w ≡ v) × (plan ≡ old) × KeepsItself v bits old t → now ≡ with_step bits plan (own_step t) → IsOneMore v w bits old now t
one_kept v w bits old plan now t terms lt h args kept e =
    subst (λ x. IsOneMore v x bits old now t) (sym kept.0)
    (subst (λ n. IsOneMore v v bits old n t) (sym (e ∙ ap (λ l. with_step bits l (own_step t)) kept.1))
    (record {
      grown = grown_none v terms;
      planned = add_step v.nodes bits old (own_step t) h next;
      whole = λ o. add_whole v.nodes bits old (own_step t) o (λ new. record { next = next new; arguments = λ n. absurd n });
      own = λ o. own_with v bits old (own_step t) o (λ new n. kept.2);
      needed = none_new v.nodes (uses_of (with_step bits old (own_step t)));
    }))
  where
    next : (IsKnown bits old t → ⊥) → IsNext v.nodes bits old (own_step t)
    next new = record { held = lt; new = new; needs = args new }

-- ---- the steps of a way, one after the other

drop_all : {A : Type 0} (xs : List A) → drop (length xs) xs ≡ []
drop_all [] = refl
drop_all (x ∷ xs) = drop_all xs

drop_at : {A : Type 0} (xs : List A) (k : ℕ) (x : A) → slice_get xs k ≡ Some x → drop k xs ≡ x ∷ drop (suc k) xs
drop_at [] k x e = let z : ⊥ = cc in absurd z
drop_at (y ∷ ys) zero x e = let q : y ≡ x = cc in ap (λ z. z ∷ ys) q
drop_at (y ∷ ys) (suc k) x e = drop_at ys k x e

module _ (old : List Planned) (t : ℕ) (uses : List Use) where
  -- the steps of the uses from a place on stand behind the plan
  abbrev pub HasWayFrom : List Planned → ℕ → Type 0
  HasWayFrom now i = now ≡ old ++ way_steps (start_at t uses i) (drop i uses)

  pub from_begun : HasWayFrom old (length uses)
  from_begun = sym (append-nil old) ∙ ap (λ l. old ++ way_steps (start_at t uses (length uses)) l) (sym (drop_all uses))

  one_back : (k : ℕ) (s : Use) → slice_get uses k ≡ Some s → way_steps (start_at t uses k) (drop k uses) ≡ way_steps (start_at t uses (suc k)) (drop (suc k) uses) ++ record { term = start_at t uses k; used = Some s } ∷ []
  one_back k s e =
      ap (way_steps (start_at t uses k)) (drop_at uses k s e)
      ∙ ap (λ x. way_steps x (drop (suc k) uses) ++ record { term = start_at t uses k; used = Some s } ∷ []) (sym (start_later t uses k s e))

  from_next : (plan new : List Planned) (k : ℕ) (s : Use) → slice_get uses k ≡ Some s → HasWayFrom plan (suc k) → new ≡ plan ++ record { term = start_at t uses k; used = Some s } ∷ [] → HasWayFrom new k
  from_next plan new k s e h n =
      n
      ∙ ap (λ l. l ++ record { term = start_at t uses k; used = Some s } ∷ []) h
      ∙ append_assoc old (way_steps (start_at t uses (suc k)) (drop (suc k) uses)) (record { term = start_at t uses k; used = Some s } ∷ [])
      ∙ ap (λ l. old ++ l) (sym (one_back k s e))

  pub from_step : (plan new : List Planned) (i : ℕ) (d : Use) (from : ℕ) → 0 < i → i ≤ length uses → HasWayFrom plan i → from ≡ start_at t uses (i - 1) → new ≡ plan ++ record { term = from; used = Some (get_or uses (i - 1) d) } ∷ [] → HasWayFrom new (i - 1)
  from_step plan new i d from some le h is e =
      let back : i ≡ suc (i - 1) = omega (arith, some) in
      let there = slice_get-get_or uses (i - 1) d (omega (arith, some, le)) in
      from_next plan new (i - 1) (get_or uses (i - 1) d) there (subst (HasWayFrom plan) back h) (e ∙ ap (λ f. plan ++ record { term = f; used = Some (get_or uses (i - 1) d) } ∷ []) is)

-- the steps from a place on are the first of all
way_split : (t : ℕ) (uses : List Use) (k : ℕ) → (rest : List Planned) × (way_steps t uses ≡ way_steps (start_at t uses k) (drop k uses) ++ rest)
way_split t uses zero = ([], ap (λ x. way_steps x uses) (sym (start_first t uses)) ∙ sym (append-nil (way_steps (start_at t uses 0) uses)))
way_split t [] (suc k) = ([], refl)
way_split t (s ∷ ss) (suc k) =
    let r = way_split s.to ss k in (
      r.0 ++ record { term = t; used = Some s } ∷ [],
      ap (λ l. l ++ record { term = t; used = Some s } ∷ []) r.1 ∙ append_assoc (way_steps (start_at s.to ss k) (drop k ss)) r.0 (record { term = t; used = Some s } ∷ []),
    )

next_in : (nodes : List Node) (bits : List TermBits) (before xs : List Planned) (p : Planned) (ys : List Planned) → AreNext nodes bits before (xs ++ p ∷ ys) → IsNext nodes bits (before ++ xs) p
next_in nodes bits before [] p ys h = subst (λ l. IsNext nodes bits l p) (sym (append-nil before)) h.0
next_in nodes bits before (x ∷ xs) p ys h = subst (λ l. IsNext nodes bits l p) (append_assoc before (x ∷ []) xs) (next_in nodes bits (before ++ x ∷ []) xs p ys h.1)

-- where a term on the way is known before its step, there is no plan of all
pub way_blocked : (nodes : List Node) (bits : List TermBits) (old plan : List Planned) (t : ℕ) (uses : List Use) (i : ℕ) (d : Use) (from : ℕ) → 0 < i → i ≤ length uses → HasWayFrom old t uses plan i → from ≡ start_at t uses (i - 1)
    → IsKnown bits plan from → IsPlan nodes bits (old ++ way_steps t uses) → ⊥
way_blocked nodes bits old plan t uses i d from some le h is k all =
    let back : i ≡ suc (i - 1) = omega (arith, some) in
    let s = get_or uses (i - 1) d in
    let there = slice_get-get_or uses (i - 1) d (omega (arith, some, le)) in
    let p : Planned = record { term = start_at t uses (i - 1); used = Some s } in
    let r = way_split t uses (i - 1) in
    let before = way_steps (start_at t uses (suc (i - 1))) (drop (suc (i - 1)) uses) in
    let parts : old ++ way_steps t uses ≡ (old ++ before) ++ p ∷ r.0 =
    ap (λ l. old ++ l) (r.1 ∙ ap (λ l. l ++ r.0) (one_back old t uses (i - 1) s there) ∙ append_assoc before (p ∷ []) r.0)
    ∙ sym (append_assoc old before (p ∷ r.0)) in
    let n = next_in nodes bits [] (old ++ before) p r.0 (subst (IsPlan nodes bits) parts all) in
    n.new (subst (λ l. IsKnown bits l (start_at t uses (i - 1))) (subst (HasWayFrom old t uses plan) back h) (subst (IsKnown bits plan) is k))

-- ---- steps of their own bits, one after the other

own_after : (bits : List TermBits) (steps : List Planned) (ts : List ℕ) (t : ℕ) → with_own bits steps (ts ++ t ∷ []) ≡ with_step bits (with_own bits steps ts) (own_step t)
own_after bits steps [] t = refl
own_after bits steps (u ∷ ts) t = own_after bits (with_step bits steps (own_step u)) ts t

pub own_next : (bits : List TermBits) (old plan new : List Planned) (args : List ℕ) (i d : ℕ) → i < length args → plan ≡ with_own bits old (take i args) → new ≡ with_step bits plan (own_step (get_or args i d)) → new ≡ with_own bits old (take (i + 1) args)
own_next bits old plan new args i d lt h e =
    e
    ∙ ap (λ l. with_step bits l (own_step (get_or args i d))) h
    ∙ sym (own_after bits old (take i args) (get_or args i d))
    ∙ ap (with_own bits old) (sym (take_more args i d lt))

pub end_is : (nodes : List Node) (bits : List TermBits) (old plan new : List Planned) (t i : ℕ) (args : List ℕ) → args ≡ (node_at nodes t).args → is_known bits old t ≡ false → length args ≤ i → plan ≡ with_own bits old (take i args) → new ≡ with_step bits plan (own_step t)
    → new ≡ with_end nodes bits old t
end_is nodes bits old plan new t i args is none le h e =
    e
    ∙ ap (λ l. with_step bits l (own_step t)) (h ∙ ap (with_own bits old) (take_all i args le))
    ∙ sym (own_after bits old args t)
    ∙ ap (λ l. with_own bits old (l ++ t ∷ [])) is
    ∙ sym (ap (λ b. if b then old else with_own bits old ((node_at nodes t).args ++ t ∷ [])) none)

pub end_known : (nodes : List Node) (bits : List TermBits) (old : List Planned) (t : ℕ) → IsKnown bits old t → old ≡ with_end nodes bits old t
end_known nodes bits old t k = sym (ap (λ b. if b then old else with_own bits old ((node_at nodes t).args ++ t ∷ [])) k)

-- ---- a term that no rule takes further, and its arguments before it

-- a plan with more steps, that stays what the old one was
pub record IsBeside (w : TermsValue) (bits : List TermBits) (old now : List Planned) : Type 0 where
  pub plan : IsPlan w.nodes bits now
  pub later : IsLater old now
  pub whole : StaysWhole w.nodes bits old now
  pub own : AreOwn w bits old → AreOwn w bits now

pub beside_none : (w : TermsValue) (bits : List TermBits) (old : List Planned) → IsPlan w.nodes bits old → IsBeside w bits old old
beside_none w bits old h = record { plan = h; later = later_itself old; whole = λ o. o; own = λ o. o }

beside_add : (w : TermsValue) (bits : List TermBits) (old now : List Planned) (a : ℕ) → IsBeside w bits old now → a < length w.nodes → ((IsKnown bits now a → ⊥) → Stands w.nodes bits now a)
    → (let p : Planned = record { term = a; used = None } in IsBeside w bits old (with_step bits now p) × IsKnown bits (with_step bits now p) a)
beside_add w bits old now a b lt stands =
    let p : Planned = record { term = a; used = None } in
    let next : (IsKnown bits now a → ⊥) → IsNext w.nodes bits now p = λ new. record { held = lt; new = new; needs = (stands new).1 } in
    let added = add_step w.nodes bits now p b.plan next in (
      record {
        plan = added.plan;
        later = later_on old now (with_step bits now p) b.later added.later;
        whole = λ o. add_whole w.nodes bits now p (b.whole o) (λ new. record { next = next new; arguments = λ n. absurd n });
        own = λ o. own_with w bits now p (b.own o) (λ new u plain. inl (stands new).0);
      },
      added.known,
    )

supported_on : (nodes : List Node) (bits : List TermBits) (old now : List Planned) (a : ℕ) → IsLater old now → IsSupported nodes bits old a → (IsKnown bits now a → ⊥) → Stands nodes bits now a
supported_on nodes bits old now a l (inl k) new = absurd (new (known_later bits old now a l k))
supported_on nodes bits old now a l (inr s) new = (s.0, λ k d lt. known_later bits old now (get_or (node_at nodes a).args k d) l (s.1 k d lt))

-- the first of the arguments are known
abbrev pub AreKnownTo : List TermBits → List Planned → List ℕ → ℕ → Type 0
AreKnownTo bits steps args i = (j u : ℕ) → j < i → slice_get args j ≡ Some u → IsKnown bits steps u

pub known_to_end : (bits : List TermBits) (steps : List Planned) (args : List ℕ) (i : ℕ) → length args ≤ i → AreKnownTo bits steps args i → All (IsKnown bits steps) args
known_to_end bits steps args i le h k d lt = h k (get_or args k d) (omega (arith, le, lt)) (slice_get-get_or args k d lt)

pub args_next : (w : TermsValue) (bits : List TermBits) (old now new : List Planned) (t : ℕ) (args : List ℕ) (i d : ℕ) → IsTermList w.nodes → args ≡ (node_at w.nodes t).args → All (IsSupported w.nodes bits old) args
    → IsBeside w bits old now × AreKnownTo bits now args i → i < length args → new ≡ with_step bits now (record { term = get_or args i d; used = None }) → IsBeside w bits old new × AreKnownTo bits new args (i + 1)
args_next w bits old now new t args i d list is all b lt e =
    let a = get_or args i d in
    let p : Planned = record { term = a; used = None } in
    let within : Contains (node_at w.nodes t).args a = subst (λ l. Contains l a) is (Contains-get_or args i d lt) in
    let r = beside_add w bits old now a b.0 (arguments_below w.nodes list t a within) (supported_on w.nodes bits old now a b.0.later (all i d lt)) in
    let later : IsLater now (with_step bits now p) = later_with bits now p in
    subst (λ l. IsBeside w bits old l × AreKnownTo bits l args (i + 1)) (sym e) (
      r.0,
      λ j u less at. ⊎_elim
          (λ before. known_later bits now (with_step bits now p) u later (b.1 j u before at))
          (λ le. (let same : j ≡ i = omega (arith, less, le) in
          let is : Some u ≡ Some a = sym at ∙ ap (slice_get args) same ∙ slice_get-get_or args i d lt in
          let own : u ≡ a = cc in
          subst (IsKnown bits (with_step bits now p)) (sym own) r.1))
          (cases_lt j i),
    )

pub end_next : (w : TermsValue) (bits : List TermBits) (old now new : List Planned) (t : ℕ) (args : List ℕ) (i : ℕ) → t < length w.nodes → args ≡ (node_at w.nodes t).args → IsSettled w.nodes t → IsBeside w bits old now × AreKnownTo bits now args i → length args ≤ i
    → new ≡ with_step bits now (record { term = t; used = None }) → IsBeside w bits old new × IsKnown bits new t
end_next w bits old now new t args i lt is settled b le e =
    subst (λ l. IsBeside w bits old l × IsKnown bits l t) (sym e)
    (beside_add w bits old now t b.0 lt (λ new. (settled, subst (All (IsKnown bits now)) is (known_to_end bits now args i le b.1))))

-- ---- what a call told

pub became : (o : Option Simplified) (s : Simplified) (P : Type 0) (Q : Simplified → Type 0) → o ≡ Some s → MatchOption o P Q → Q s
became o s P Q e h = subst (λ x. MatchOption x P Q) e h

pub gave_up : (o : Option Simplified) (P : Type 0) (Q : Simplified → Type 0) → o ≡ None → MatchOption o P Q → P
gave_up o P Q e h = subst (λ x. MatchOption x P Q) e h

-- one more of a list
pub each_next : (P : ℕ → Type 0) (xs : List ℕ) (i d : ℕ) → i < length xs → ((j u : ℕ) → j < i → slice_get xs j ≡ Some u → P u) → P (get_or xs i d) → (j u : ℕ) → j < i + 1 → slice_get xs j ≡ Some u → P u
each_next P xs i d lt h one j u less e = ⊎_elim
    (λ before. h j u before e)
    (λ le. (let same : j ≡ i = omega (arith, less, le) in
    let is : Some u ≡ Some (get_or xs i d) = sym e ∙ ap (slice_get xs) same ∙ slice_get-get_or xs i d lt in
    let own : u ≡ get_or xs i d = cc in
    subst P (sym own) one))
    (cases_lt j i)

pub each_end : (P : ℕ → Type 0) (xs : List ℕ) (i : ℕ) → length xs ≤ i → ((j u : ℕ) → j < i → slice_get xs j ≡ Some u → P u) → All P xs
each_end P xs i le h k d lt = h k (get_or xs k d) (omega (arith, le, lt)) (slice_get-get_or xs k d lt)

-- a step that was not added
pub known_of : (bits : List TermBits) (plan : List Planned) (t : ℕ) (b : Bool) → b ≡ not (is_known bits plan t) → b ≡ false → IsKnown bits plan t
known_of bits plan t b e f = go (is_known bits plan t) (sym e ∙ f) where
  go : (x : Bool) → not x ≡ false → x ≡ true
  go true h = refl
  go false h = let z : ⊥ = cc in absurd z
