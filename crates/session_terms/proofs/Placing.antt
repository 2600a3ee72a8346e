-- Places of terms: before a log, over more terms, and behind each step of a plan.
use Rattle.std.proofs.Common.{◌≡◌, ℕ, zero, suc, ◌+◌, ◌<◌, Bool, true, false, List, [], ◌∷◌, ◌++◌, append-nil, append_assoc, length, length-append, Option, Some, None, refl, sym, ap, ◌∙◌, subst, ⊎_elim, arith}
use Rattle.std.specs.Prelude.{◌||◌, Contains, IsSome, is_some, if◌then◌else◌}
use Rattle.std.specs.Option.{option_or}
use Rattle.std.proofs.lemmas.Bool.{cases_eq, cases_lt, eq-eqb, ne_eqb}
use Rattle.std.proofs.lemmas.List.Elements.{All-contains}
use Rattle.std.proofs.lemmas.List.Folds.{find-append}
use Rattle.cnf_base.proofs.Options.{some_value, same_found, none_from}
use Rattle.cnf_base.specs.Literals.{Literal}
use Rattle.smt_terms.specs.declared.node.Node.{Node}
use Rattle.smt_terms.specs.Bits.{TermBits, bits_in, image_in}
use Rattle.smt_terms.specs.Nodes.{node_at}
use Rattle.smt_terms.specs.Ranks.{is_plain}
use Rattle.smt_terms.specs.Terms.{sort_of, IsTermList}
use Rattle.smt_terms.proofs.Growing.{node_longer, sort_longer}
use Rattle.term_reach.specs.Reach.{IsRank, Reaches}
use Rattle.term_reach.proofs.Ways.{argument_earlier, way_closed}
use Rattle.bv_rules.proofs.Known.{never}
use Rattle.bv_rules.proofs.Keeping.{matched}
use Rattle.bv_rewrite.specs.declared.simplifying.Use.{Use}
use Rattle.proof_log.specs.Assigned.{stands_on}
use Rattle.proof_log.specs.Logs.{with_value}
use Rattle.proof_log.proofs.Standing.{value_here}
use Rattle.proof_log.proofs.Staying.{elsewhere}
use Rattle.reached_images.specs.declared.plan.Planned.{Planned}
use Rattle.reached_images.specs.Plans.{is_for, planned_in, is_known, known_image, step_image, led_to, IsKnown, HasWhatItNeeds, IsNext, AreNext, IsPlan}
use Rattle.reached_images.proofs.Knowing.{known_last}
use Rattle.session_terms.specs.Placed.{by_images, has_bits, HavePlaces, IsInOrder, IsComplete, NeverLeadsBack}

false_of : (b : Bool) → (b ≡ true → ⊥) → b ≡ false
false_of true h = absurd (h refl)
false_of false h = refl

none_of : {A : Type 0} (o : Option A) → ((x : A) → o ≡ Some x → ⊥) → o ≡ None
none_of None h = refl
none_of (Some x) h = absurd (h x refl)

some_is : {A : Type 0} (o : Option A) (x : A) → o ≡ Some x → o ≡ None → ⊥
some_is o x e f = let k : Some x ≡ None = sym e ∙ f in cc

-- ---- the same of other terms

-- nothing has a place before a log
pub none_placed : (nodes : List Node) (here : ℕ → Bool) (image : ℕ → Option ℕ) → ((t : ℕ) → here t ≡ false) → HavePlaces nodes here image
none_placed nodes here image none = record {
  places = λ t. None;
  end = 0;
  are = record {
    held = λ t p e. let f : ⊥ = cc in absurd f;
    plain = λ t plain. sym (none t);
    all = λ t h. never (sym (none t) ∙ h);
    earlier = λ t p u e c. let f : ⊥ = cc in absurd f;
  };
}

-- where the same terms have the same images
pub placed_same : (nodes : List Node) (here other : ℕ → Bool) (image images : ℕ → Option ℕ) → ((t : ℕ) → other t ≡ here t) → ((t : ℕ) → images t ≡ image t) → HavePlaces nodes here image → HavePlaces nodes other images
placed_same nodes here other image images same links h = record {
  places = h.places;
  end = h.end;
  are = record {
    held = h.are.held;
    plain = λ t plain. h.are.plain t plain ∙ sym (same t);
    all = λ t e. h.are.all t (sym (same t) ∙ e);
    earlier = λ t p u e c. h.are.earlier t p u e (subst (λ o. Contains (stands_on nodes t o) u) (links t) c);
  };
}

module _ (nodes more : List Node) (here : ℕ → Bool) (image : ℕ → Option ℕ) (h : HavePlaces nodes here image) where
  stands_longer : (t u : ℕ) (o : Option ℕ) → t < length nodes → Contains (stands_on (nodes ++ more) t o) u → Contains (stands_on nodes t o) u
  stands_longer t u None lt c = subst (λ (n : Node). Contains n.args u) (node_longer nodes more t lt) c
  stands_longer t u (Some x) lt c = c

  -- over more terms
  pub placed_longer : HavePlaces (nodes ++ more) here image
  placed_longer = record {
    places = h.places;
    end = h.end;
    are = record {
      held = λ t p e. (let k = h.are.held t p e in (omega (arith, k.0, length-append nodes more), k.1));
      plain = λ t plain.
          ⊎_elim
          (λ lt. h.are.plain t (ap is_plain (sym (sort_longer nodes more t lt)) ∙ plain))
          (λ le.
          let none = none_of (h.places t) (λ p e. let k = h.are.held t p e in omega (arith, k.0, le)) in
          let off = false_of (here t) (λ e. let p = some_value (h.places t) (h.are.all t e) in some_is (h.places t) p.0 p.1 none) in
          ap is_some none ∙ sym off)
          (cases_lt t (length nodes));
      all = h.are.all;
      earlier = λ t p u e c. h.are.earlier t p u e (stands_longer t u (image t) (h.are.held t p e).0 c);
    };
  }

-- ---- a step of a plan

-- one value more, of this number or of another
valued : {A : Type 0} (C : Type 0) (f : ℕ → Option A) (x : ℕ) (a : A) (t : ℕ) → (t ≡ x → with_value f x a t ≡ Some a → C) → ((t ≡ x → ⊥) → with_value f x a t ≡ f t → C) → C
valued C f x a t here there =
    ⊎_elim
    (λ (e : t ≡ x). here e (subst (λ y. with_value f x a y ≡ Some a) (sym e) (value_here f x a)))
    (λ (ne : t ≡ x → ⊥). there ne (elsewhere f x a t ne))
    (cases_eq t x)

module _ (bits : List TermBits) (before : List Planned) (p : Planned) where
  abbrev after : List Planned
  after = before ++ p ∷ []

  only : (t : ℕ) → (t ≡ p.term → ⊥) → planned_in (p ∷ []) t ≡ None
  only t ne = ap (λ b. if b then Some p else None) (ne_eqb p.term t (λ e. ne (sym e)))

  planned_other : (t : ℕ) → (t ≡ p.term → ⊥) → planned_in after t ≡ planned_in before t
  planned_other t ne = find-append (is_for t) before (p ∷ []) ∙ ap (option_or (planned_in before t)) (only t ne) ∙ or_none (planned_in before t)
    where
      or_none : (o : Option Planned) → option_or o None ≡ o
      or_none None = refl
      or_none (Some x) = refl

  known_other : (t : ℕ) → (t ≡ p.term → ⊥) → is_known bits after t ≡ is_known bits before t
  known_other t ne = ap (λ o. is_some (bits_in bits t) || is_some o) (planned_other t ne)

  image_other : (t : ℕ) → (t ≡ p.term → ⊥) → known_image bits after t ≡ known_image bits before t
  image_other t ne = ap (λ o. if is_some (bits_in bits t) then image_in bits t else step_image o) (planned_other t ne)

  module _ (new : (is_known bits before p.term ≡ true) → ⊥) where
    parts : (a b : Bool) → ((a || b) ≡ true → ⊥) → (a ≡ false) × (b ≡ false)
    parts true b h = absurd (h refl)
    parts false true h = absurd (h refl)
    parts false false h = (refl, refl)

    bare : (is_some (bits_in bits p.term) ≡ false) × (is_some (planned_in before p.term) ≡ false)
    bare = parts (is_some (bits_in bits p.term)) (is_some (planned_in before p.term)) new

    -- no image before, and then that of the step
    image_before : known_image bits before p.term ≡ None
    image_before =
        ap (λ b. if b then image_in bits p.term else step_image (planned_in before p.term)) bare.0
        ∙ ap step_image (none_from (planned_in before p.term) bare.1)

    planned_here : planned_in after p.term ≡ Some p
    planned_here =
        find-append (is_for p.term) before (p ∷ [])
        ∙ ap (λ o. option_or o (planned_in (p ∷ []) p.term)) (none_from (planned_in before p.term) bare.1)
        ∙ ap (λ b. if b then Some p else None) (eq-eqb p.term p.term refl)

    image_here : known_image bits after p.term ≡ led_to p.used
    image_here =
        ap (λ b. if b then image_in bits p.term else step_image (planned_in after p.term)) bare.0
        ∙ ap step_image planned_here

module _ (nodes : List Node) (bits : List TermBits) (before : List Planned) (p : Planned) (next : IsNext nodes bits before p) (h : HavePlaces nodes (is_known bits before) (known_image bits before)) where
  abbrev x : ℕ
  x = p.term

  abbrev Behind : Type 0
  Behind = HavePlaces nodes (is_known bits (before ++ p ∷ [])) (known_image bits (before ++ p ∷ []))

  -- a term that a rule takes further is a Bool or a word
  used_plain : (o : Option Use) → HasWhatItNeeds nodes bits before x o → (is_plain (sort_of nodes x) ≡ true → ⊥) → led_to o ≡ None
  used_plain None n ne = refl
  used_plain (Some u) n ne = absurd (ne (matched nodes (known_image bits before) u.rule x u.to n.0).plain)

  -- a term that has a place already
  placed_before : (q : ℕ) → h.places x ≡ Some q → Behind
  placed_before q e =
      let array : is_plain (sort_of nodes x) ≡ true → ⊥ = λ plain. next.new (sym (h.are.plain x plain) ∙ ap is_some e) in
      let image : known_image bits (before ++ p ∷ []) x ≡ known_image bits before x = image_here bits before p next.new ∙ used_plain p.used next.needs array ∙ sym (image_before bits before p next.new) in
      record {
        places = h.places;
        end = h.end;
        are = record {
          held = h.are.held;
          plain = λ t plain. ⊎_elim
              (λ (same : t ≡ x). absurd (array (subst (λ y. is_plain (sort_of nodes y) ≡ true) same plain)))
              (λ (ne : t ≡ x → ⊥). h.are.plain t plain ∙ sym (known_other bits before p t ne))
              (cases_eq t x);
          all = λ t k. ⊎_elim
              (λ (same : t ≡ x). subst (λ y. IsSome (h.places y)) (sym same) (ap is_some e))
              (λ (ne : t ≡ x → ⊥). h.are.all t (sym (known_other bits before p t ne) ∙ k))
              (cases_eq t x);
          earlier = λ t r u g c. h.are.earlier t r u g (subst (λ o. Contains (stands_on nodes t o) u) (⊎_elim
              (λ (same : t ≡ x). subst (λ y. known_image bits (before ++ p ∷ []) y ≡ known_image bits before y) (sym same) image)
              (λ (ne : t ≡ x → ⊥). image_other bits before p t ne)
              (cases_eq t x)) c);
        };
      }

  -- what it needs has a place
  needs_placed : (o : Option Use) (u : ℕ) → HasWhatItNeeds nodes bits before x o → Contains (stands_on nodes x (led_to o)) u → IsSome (h.places u)
  needs_placed None u n c = h.are.all u (All-contains (IsKnown bits before) (node_at nodes x).args u n c)
  needs_placed (Some s) u n (zero, lt, same) = h.are.all u (subst (IsKnown bits before) same n.1)
  needs_placed (Some s) u n (suc k, lt, same) = absurd (omega (arith, lt))

  abbrev places : ℕ → Option ℕ
  places = with_value h.places x h.end

  placed_now : h.places x ≡ None → Behind
  placed_now none = record {
    places = places;
    end = h.end + 1;
    are = record {
      held = λ t r e. valued ((t < length nodes) × (r < h.end + 1)) h.places x h.end t
          (λ same w. (let q : h.end ≡ r = same_found (places t) h.end r w e in (subst (λ y. y < length nodes) (sym same) next.held, omega (arith, q))))
          (λ ne w. (let k = h.are.held t r (sym w ∙ e) in (k.0, omega (arith, k.1))));
      plain = λ t plain. valued (is_some (places t) ≡ is_known bits (before ++ p ∷ []) t) h.places x h.end t
          (λ same w. ap is_some w ∙ sym (subst (IsKnown bits (before ++ p ∷ [])) (sym same) (known_last bits before p)))
          (λ ne w. ap is_some w ∙ h.are.plain t plain ∙ sym (known_other bits before p t ne));
      all = λ t k. valued (IsSome (places t)) h.places x h.end t
          (λ same w. ap is_some w)
          (λ ne w. ap is_some w ∙ h.are.all t (sym (known_other bits before p t ne) ∙ k));
      earlier = λ t r u e c. valued ((q : ℕ) × (places u ≡ Some q) × (q < r)) h.places x h.end t
          (λ same w.
          (let at : h.end ≡ r = same_found (places t) h.end r w e in
          let own : Contains (stands_on nodes x (led_to p.used)) u = subst (λ o. Contains (stands_on nodes x o) u) (image_here bits before p next.new) (subst (λ y. Contains (by_images nodes (known_image bits (before ++ p ∷ [])) y) u) same c) in
          let q = some_value (h.places u) (needs_placed p.used u next.needs own) in
          let lt = (h.are.held u q.0 q.1).1 in
          (q.0, stays u q.0 q.1, omega (arith, lt, at))))
          (λ ne w.
          (let k = h.are.earlier t r u (sym w ∙ e) (subst (λ o. Contains (stands_on nodes t o) u) (image_other bits before p t ne) c) in
          (k.0, stays u k.0 k.1, k.2)));
    };
  }
    where
      stays : (u q : ℕ) → h.places u ≡ Some q → places u ≡ Some q
      stays u q e = elsewhere h.places x h.end u (λ same. some_is (h.places u) q e (ap h.places same ∙ none)) ∙ e

  pub placed_next : Behind
  placed_next = go (h.places x) refl where
    go : (o : Option ℕ) → h.places x ≡ o → Behind
    go None e = placed_now e
    go (Some q) e = placed_before q e

-- ---- plans

steps_placed : (nodes : List Node) (bits : List TermBits) (before steps : List Planned) → AreNext nodes bits before steps → HavePlaces nodes (is_known bits before) (known_image bits before) → HavePlaces nodes (is_known bits (before ++ steps)) (known_image bits (before ++ steps))
steps_placed nodes bits before [] next h = subst (λ l. HavePlaces nodes (is_known bits l) (known_image bits l)) (sym (append-nil before)) h
steps_placed nodes bits before (p ∷ ps) next h =
    subst (λ l. HavePlaces nodes (is_known bits l) (known_image bits l)) (append_assoc before (p ∷ []) ps)
    (steps_placed nodes bits (before ++ p ∷ []) ps next.1 (placed_next nodes bits before p next.0 h))

-- behind a plan all that is known has places
pub plan_placed : (nodes : List Node) (bits : List TermBits) (steps : List Planned) → ((t : ℕ) → bits_in bits t ≡ None → image_in bits t ≡ None) → IsInOrder nodes bits → IsPlan nodes bits steps → HavePlaces nodes (is_known bits steps) (known_image bits steps)
plan_placed nodes bits steps free h plan =
    steps_placed nodes bits [] steps plan
    (placed_same nodes (has_bits bits) (is_known bits []) (image_in bits) (known_image bits []) (λ t. or_false (is_some (bits_in bits t))) (λ t. own t (bits_in bits t) refl) h)
  where
    or_false : (b : Bool) → (b || false) ≡ b
    or_false true = refl
    or_false false = refl

    own : (t : ℕ) (o : Option (List Literal)) → bits_in bits t ≡ o → (if is_some o then image_in bits t else None) ≡ image_in bits t
    own t None e = sym (free t e)
    own t (Some b) e = refl

-- ---- what places say

module _ (nodes : List Node) (bits : List TermBits) (h : IsInOrder nodes bits) where
  abbrev next : ℕ → List ℕ
  next = by_images nodes (image_in bits)

  -- with a term all that it reaches has a place
  pub reached_placed : (t u : ℕ) → has_bits bits t ≡ true → Reaches next t u → IsSome (h.places u)
  reached_placed t u has r =
      way_closed next (λ v. IsSome (h.places v))
      (λ v w k c. (let p = some_value (h.places v) k in let e = h.are.earlier v p.0 w p.1 c in ap is_some e.1))
      t r.0 u r.1 (h.are.all t has)

  pub is_complete : IsComplete nodes bits
  is_complete t u has r plain = sym (h.are.plain u plain) ∙ reached_placed t u has r

  abbrev rank_by : ℕ → Option ℕ → ℕ
  rank_by t None = h.end + t
  rank_by t (Some p) = p

  abbrev rank : ℕ → ℕ
  rank t = rank_by t (h.places t)

  module _ (all : IsTermList nodes) (free : (t : ℕ) → bits_in bits t ≡ None → image_in bits t ≡ None) where
    falls : IsRank next rank
    falls t u c = go (h.places t) refl
      where
        below_open : u < t → (o : Option ℕ) → h.places u ≡ o → rank_by u o < h.end + t
        below_open lt None e = omega (arith, lt)
        below_open lt (Some q) e = let l = (h.are.held u q e).1 in omega (arith, l)

        unplaced : h.places t ≡ None → image_in bits t ≡ None
        unplaced e = free t (none_from (bits_in bits t) (false_of (is_some (bits_in bits t)) (λ k. let p = some_value (h.places t) (h.are.all t k) in some_is (h.places t) p.0 p.1 e)))

        go : (o : Option ℕ) → h.places t ≡ o → rank_by u (h.places u) < rank_by t o
        go (Some p) e = let k = h.are.earlier t p u e c in rw k.1 k.2
        go None e =
            let lt = argument_earlier nodes all t u (subst (λ o. Contains (stands_on nodes t o) u) (unplaced e) c) in
            below_open lt (h.places u) refl

    pub never_leads_back : NeverLeadsBack nodes bits
    never_leads_back = (rank, falls)
