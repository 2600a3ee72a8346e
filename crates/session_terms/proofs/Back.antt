-- Where no way through images and arguments leads back, none does through the selects of equalities at their witness either.
use Rattle.std.proofs.Common.{◌≡◌, ℕ, ◌+◌, ◌-◌, ◌*◌, ◌<◌, ◌≤◌, max, get_or, true, List, [], ◌∷◌, ◌++◌, refl, sym, ap, ◌∙◌, subst, ⊎_elim, arith, Option, Some, None}
use Rattle.std.specs.Prelude.{Contains, IsSome, is_some}
use Rattle.std.proofs.Math.Nat.{le-max_left, le-max_right, max-le}
use Rattle.std.proofs.lemmas.List.Elements.{Contains-append_cases}
use Rattle.cnf_base.specs.Literals.{Literal}
use Rattle.smt_terms.specs.declared.sort.Sort.{Sort}
use Rattle.smt_terms.specs.declared.sort.Sort.TheVariants as sort
use Rattle.smt_terms.specs.declared.node.Node.{Node}
use Rattle.smt_terms.specs.Nodes.{node_at}
use Rattle.smt_terms.specs.Bits.{image_in}
use Rattle.smt_terms.specs.Ranks.{is_array, is_plain}
use Rattle.smt_terms.specs.Terms.{sort_of, IsTermList, AreDifferent}
use Rattle.smt_terms.specs.Values.{value}
use Rattle.theory_terms.specs.declared.shape.Shape.{Shape}
use Rattle.theory_terms.specs.declared.shape.Shape.TheVariants.{Selecting, Storing, Filling, Choosing, Equating, Witnessing, Applying, Declaring, Other}
use Rattle.theory_terms.specs.declared.atom.Watch.{Watch}
use Rattle.theory_terms.specs.Shapes.{shape_at}
use Rattle.theory_terms.specs.Lemmas.{watch}
use Rattle.theory_terms.proofs.Shapes.{SelectFacts, WitnessFacts}
use Rattle.theory_terms.proofs.Sound.{watch_is}
use Rattle.term_reach.specs.Reach.{arguments, IsRank, IsAcyclic}
use Rattle.bv_rules.specs.declared.rule.Rule.{Rule}
use Rattle.bv_rules.specs.Matches.{matches}
use Rattle.bv_rules.proofs.Keeping.{matched}
use Rattle.bv_rules.proofs.Known.{never}
use Rattle.proof_log.specs.declared.entry.RuleUse.{RuleUse}
use Rattle.proof_log.specs.declared.entry.Entry.{Entry}
use Rattle.proof_log.specs.declared.entry.Entry.TheVariants as step
use Rattle.proof_log.specs.Assigned.{stands_on}
use Rattle.proof_log.specs.Logs.{start, IsRewrite, state_of, IsLog}
use Rattle.proof_log.specs.Stored.{LogValue, Stands}
use Rattle.proof_log.proofs.Linked.{log_linked, stored_images_are, image_has_bits}
use Rattle.proof_log.proofs.Standing.{stands_over}
use Rattle.proof_log.proofs.Staying.{steps_parts, log_stays}
use Rattle.access_tables.specs.Leading.{selects_of, watched, leads, leads_by}
use Rattle.access_tables.proofs.Building.{args_at}
use Rattle.array_watches.proofs.Sorted.{any_interpretation}
use Rattle.array_images.proofs.Covered.{fact}
use Rattle.session_terms.specs.Placed.{by_images}
use Rattle.session_terms.proofs.Unmoved.{witness_stays, select_stays}

none_of : {A : Type 0} (o : Option A) → ((x : A) → o ≡ Some x → ⊥) → o ≡ None
none_of None h = refl
none_of (Some x) h = absurd (h x refl)

no_plain_array : (s : Sort) → is_plain s ≡ true → is_array s ≡ true → ⊥
no_plain_array sort.Bool p a = never a
no_plain_array (sort.Word n) p a = never a
no_plain_array (sort.Array n m) p a = never p

none_in : (u : ℕ) → Contains [] u → ⊥
none_in u c = let lt = c.1 in omega (arith, lt)

in_one : (a u : ℕ) → Contains (a ∷ []) u → a ≡ u
in_one a u c = let first : c.0 ≡ 0 = (let lt = c.1 in omega (arith, lt)) in ap (λ j. get_or (a ∷ []) j u) (sym first) ∙ c.2

-- ---- the rule of an image

-- the rule that gave a term its image, over images that there are still
record IsByRule (nodes : List Node) (image : ℕ → Option ℕ) (t u : ℕ) : Type 0 where
  old : ℕ → Option ℕ
  rule : Rule
  takes : matches nodes old rule t u ≡ true
  kept : (x y : ℕ) → old x ≡ Some y → image x ≡ Some y

module _ (nodes : List Node) (log : LogValue) (stands : Stands nodes log) where
  image_stays : (before more : List Entry) → IsLog nodes (before ++ more) → (t u : ℕ) → (state_of nodes before).images t ≡ Some u → (state_of nodes (before ++ more)).images t ≡ Some u
  image_stays before more i t u e =
      let s = log_stays nodes before more i in
      s.images t (has ((state_of nodes before).bits t) refl s.steps) ∙ e
    where
      has : (o : Option (List Literal)) → (state_of nodes before).bits t ≡ o → IsLog nodes before → IsSome ((state_of nodes before).bits t)
      has (Some b) q k = ap is_some q
      has None q k = let z : None ≡ Some u = sym (image_has_bits nodes before t k q) ∙ e in let f : ⊥ = cc in absurd f

  image_rule : (t u : ℕ) → image_in log.bits t ≡ Some u → IsByRule nodes (image_in log.bits) t u
  image_rule t u e =
      let k = stands_over nodes log stands in
      let l = log_linked nodes log.entries k.steps t u (sym (k.images t) ∙ e) in
      let r : RuleUse = record { rule = l.rule; from = t; to = u } in
      let rest = step.Rewrite r ∷ l.more in
      let whole : IsLog nodes (l.before ++ rest) = subst (IsLog nodes) l.parts k.steps in
      let p = steps_parts nodes start l.before rest whole in
      let own : IsRewrite nodes (state_of nodes l.before) r = p.1.0 in
      record {
        old = (state_of nodes l.before).images;
        rule = own.ruled.rule;
        takes = own.ruled.takes;
        kept = λ x y q. k.images x ∙ subst (λ w. (state_of nodes w).images x ≡ Some y) (sym l.parts) (image_stays l.before rest whole x y q);
      }

-- ---- ranks

module _ (nodes : List Node) (list : IsTermList nodes) (different : AreDifferent nodes) (log : LogValue) (stands : Stands nodes log) (h : IsAcyclic (by_images nodes (image_in log.bits))) where
  abbrev image : ℕ → Option ℕ
  image = image_in log.bits

  r : ℕ → ℕ
  r = h.0

  image_falls : (t u : ℕ) → image t ≡ Some u → r u < r t
  unfolding r
  image_falls t u e = h.1 t u (subst (λ o. Contains (stands_on nodes t o) u) (sym e) (0, omega arith, refl))

  argument_falls : (t u : ℕ) → image t ≡ None → Contains (arguments nodes t) u → r u < r t
  unfolding r
  argument_falls t u e c = h.1 t u (subst (λ o. Contains (stands_on nodes t o) u) (sym e) c)

  -- arrays have no images
  array_free : (a : ℕ) → is_array (sort_of nodes a) ≡ true → image a ≡ None
  array_free a array = none_of (image a) (λ u e. no_plain_array (sort_of nodes a) (stored_images_are nodes log list different stands a u e).plain array)

  old_free : (t u : ℕ) (by : IsByRule nodes image t u) (x : ℕ) → image x ≡ None → by.old x ≡ None
  old_free t u by x none = none_of (by.old x) (λ y e. let q : Some y ≡ None = sym (by.kept x y e) ∙ none in let f : ⊥ = cc in f)

  to_itself : (t u : ℕ) → image t ≡ Some u → t ≡ u → ⊥
  to_itself t u e same = let lt = image_falls t u e in let q = ap r same in omega (arith, lt, q)

  -- nor have witnesses
  witness_free : (t a b : ℕ) → shape_at nodes t ≡ Witnessing a b → image t ≡ None
  witness_free t a b shape =
      let facts : WitnessFacts (sort_of nodes) t a b = fact nodes list t (Witnessing a b) shape in
      let left : is_array (sort_of nodes a) ≡ true = ap is_array facts.left_sort in
      let right : is_array (sort_of nodes b) ≡ true = ap is_array facts.right_sort in
      none_of (image t) (λ u e.
      let by = image_rule nodes log stands t u e in
      let m = matched nodes by.old by.rule t u by.takes in
      let lt = facts.left_lt in
      let from = m.from in
      to_itself t u e
      (witness_stays nodes list different by.old t u m.from m.to a b shape (omega (arith, lt, from)) left (old_free t u by a (array_free a left)) (old_free t u by b (array_free b right)) by.rule m.takes))

  -- the image of a select at a witness comes before its array
  select_before : (t a w b c u : ℕ) → shape_at nodes t ≡ Selecting a w → shape_at nodes w ≡ Witnessing b c → image t ≡ Some u → r u < r a
  select_before t a w b c u shape witness e =
      let facts : SelectFacts (sort_of nodes) (value any_interpretation nodes) t a w = fact nodes list t (Selecting a w) shape in
      let free = array_free a (ap is_array facts.array_sort) in
      let by = image_rule nodes log stands t u e in
      let m = matched nodes by.old by.rule t u by.takes in
      let lt = facts.array_lt in
      let from = m.from in
      ⊎_elim
      (λ same. absurd (to_itself t u e same))
      (λ below. argument_falls a u free below)
      (select_stays nodes list different by.old t u m.from m.to a w b c shape witness (omega (arith, lt, from)) (old_free t u by a free) (old_free t u by w (witness_free w b c witness)) by.rule m.takes)

  -- ---- a number that falls from an equality to the selects of its sides too

  abbrev index_low : ℕ → Shape → ℕ
  index_low i (Witnessing a b) = max (r a) (r b)
  index_low i k = r i

  abbrev low_by : ℕ → Shape → ℕ
  low_by t (Witnessing a b) = 4 * max (r a) (r b) + 1
  low_by t (Selecting a i) = 4 * max (r a) (index_low i (shape_at nodes i)) + 2
  low_by t k = 4 * r t

  abbrev low_of : ℕ → Option ℕ → ℕ
  low_of t None = low_by t (shape_at nodes t)
  low_of t (Some u) = 4 * r u + 1

  abbrev low : ℕ → ℕ
  low t = low_of t (image t)

  both_in : (t a b : ℕ) → (node_at nodes t).args ≡ a ∷ b ∷ [] → Contains (arguments nodes t) a × Contains (arguments nodes t) b
  both_in t a b e = (subst (λ l. Contains l a) (sym e) (0, omega arith, refl), subst (λ l. Contains l b) (sym e) (1, omega arith, refl))

  max_below : (x y z : ℕ) → x < z → y < z → max x y < z
  max_below x y z p q =
      let first : x ≤ z - 1 = omega (arith, p) in
      let second : y ≤ z - 1 = omega (arith, q) in
      let both = max-le first second in
      omega (arith, both, p)

  witness_above : (t a b : ℕ) → shape_at nodes t ≡ Witnessing a b → max (r a) (r b) < r t
  witness_above t a b shape =
      let free = witness_free t a b shape in
      let c = both_in t a b (args_at nodes t (Witnessing a b) shape) in
      max_below (r a) (r b) (r t) (argument_falls t a free c.0) (argument_falls t b free c.1)

  index_at_most : (i : ℕ) (k : Shape) → shape_at nodes i ≡ k → index_low i k ≤ r i
  index_at_most i (Witnessing a b) e = let lt = witness_above i a b e in omega (arith, lt)
  index_at_most i k e = omega arith

  select_above : (t a i : ℕ) → shape_at nodes t ≡ Selecting a i → image t ≡ None → max (r a) (index_low i (shape_at nodes i)) < r t
  select_above t a i shape free =
      let c = both_in t a i (args_at nodes t (Selecting a i) shape) in
      let le = index_at_most i (shape_at nodes i) refl in
      let second = argument_falls t i free c.1 in
      max_below (r a) (index_low i (shape_at nodes i)) (r t) (argument_falls t a free c.0) (omega (arith, le, second))

  at_most : (t : ℕ) → low t ≤ 4 * r t
  at_most t = go (image t) refl
    where
      by_shape : (k : Shape) → shape_at nodes t ≡ k → image t ≡ None → low_by t k ≤ 4 * r t
      by_shape (Witnessing a b) e free = let lt = witness_above t a b e in omega (arith, lt)
      by_shape (Selecting a i) e free = let lt = select_above t a i e free in omega (arith, lt)
      by_shape k e free = omega arith

      go : (o : Option ℕ) → image t ≡ o → low_of t o ≤ 4 * r t
      go (Some u) e = let lt = image_falls t u e in omega (arith, lt)
      go None e = by_shape (shape_at nodes t) refl e

  index_lower : (i : ℕ) (k : Shape) → shape_at nodes i ≡ k → low i ≤ 4 * index_low i k + 1
  index_lower i (Witnessing a b) e = subst (λ n. n ≤ 4 * max (r a) (r b) + 1) (sym is) (omega arith)
    where
      is : low i ≡ 4 * max (r a) (r b) + 1
      is = ap (low_of i) (witness_free i a b e) ∙ ap (low_by i) e
  index_lower i k e = let le = at_most i in omega (arith, le)

  in_two : {C : Type 0} (a b u : ℕ) → Contains (a ∷ b ∷ []) u → (a ≡ u → C) → (b ≡ u → C) → C
  in_two a b u c f g = ⊎_elim (λ p. f (in_one a u p)) (λ p. g (in_one b u p)) (Contains-append_cases (a ∷ []) (b ∷ []) u c)

  argument_lower : (t u : ℕ) (k : Shape) → shape_at nodes t ≡ k → image t ≡ None → Contains (arguments nodes t) u → low u < low_by t k
  argument_lower t u (Witnessing a b) e free c =
      in_two a b u (subst (λ l. Contains l u) (args_at nodes t (Witnessing a b) e) c)
      (λ q. (let le = at_most u in let m = le-max_left (r a) (r b) in let same = ap r q in omega (arith, le, m, same)))
      (λ q. (let le = at_most u in let m = le-max_right (r a) (r b) in let same = ap r q in omega (arith, le, m, same)))
  argument_lower t u (Selecting a i) e free c =
      let j = index_low i (shape_at nodes i) in
      in_two a i u (subst (λ l. Contains l u) (args_at nodes t (Selecting a i) e) c)
      (λ q. (let le = at_most u in let m = le-max_left (r a) j in let same = ap r q in omega (arith, le, m, same)))
      (λ q. (let le = index_lower i (shape_at nodes i) refl in let m = le-max_right (r a) j in let same = ap low q in omega (arith, le, m, same)))
  argument_lower t u k e free c = let le = at_most u in let lt = argument_falls t u free c in omega (arith, le, lt)

  select_lower : (s c w a b m : ℕ) → shape_at nodes s ≡ Selecting c w → shape_at nodes w ≡ Witnessing a b → r c < m → r a < m → r b < m → low s < 4 * m
  select_lower s c w a b m shape witness first left right = go (image s) refl
    where
      own : max (r c) (index_low w (shape_at nodes w)) < m
      own = max_below (r c) (index_low w (shape_at nodes w)) m first (subst (λ k. index_low w k < m) (sym witness) (max_below (r a) (r b) m left right))

      go : (o : Option ℕ) → image s ≡ o → low s < 4 * m
      go None e = let lt = own in subst (λ n. n < 4 * m) (sym (ap (low_of s) e ∙ ap (low_by s) shape)) (omega (arith, lt))
      go (Some u) e = let lt = select_before s c w a b u shape witness e in subst (λ n. n < 4 * m) (sym (ap (low_of s) e)) (omega (arith, lt, first))

  watched_lower : (t u : ℕ) (k : Shape) → shape_at nodes t ≡ k → image t ≡ None → Contains (watched nodes k) u → low u < low_by t k
  watched_lower t u (Equating a b) e free c = go (watch nodes a b) refl c
    where
      here : Contains (arguments nodes t) a × Contains (arguments nodes t) b
      here = both_in t a b (args_at nodes t (Equating a b) e)

      go : (o : Option Watch) → watch nodes a b ≡ o → Contains (selects_of o) u → low u < 4 * r t
      go None q d = absurd (none_in u d)
      go (Some w) q d =
          let is = watch_is nodes a b w q in
          let left = argument_falls t a free here.0 in
          let right = argument_falls t b free here.1 in
          in_two w.left w.right u d
          (λ same. subst (λ s. low s < 4 * r t) same (select_lower w.left a w.witness a b (r t) is.left is.witness left left right))
          (λ same. subst (λ s. low s < 4 * r t) same (select_lower w.right b w.witness a b (r t) is.right is.witness right left right))
  watched_lower t u (Selecting a i) e free c = absurd (none_in u c)
  watched_lower t u (Storing b j x) e free c = absurd (none_in u c)
  watched_lower t u (Filling x) e free c = absurd (none_in u c)
  watched_lower t u (Choosing x a b) e free c = absurd (none_in u c)
  watched_lower t u (Witnessing a b) e free c = absurd (none_in u c)
  watched_lower t u (Applying d) e free c = absurd (none_in u c)
  watched_lower t u (Declaring d q) e free c = absurd (none_in u c)
  watched_lower t u Other e free c = absurd (none_in u c)

  falls : IsRank (leads nodes image) low
  falls t u c = go (image t) refl
    where
      go : (o : Option ℕ) → image t ≡ o → low u < low_of t o
      go (Some x) e =
          let same = in_one x u (subst (λ o. Contains (leads_by nodes t o) u) e c) in
          let le = at_most u in
          let q = ap r same in
          omega (arith, le, q)
      go None e = ⊎_elim
          (λ p. argument_lower t u (shape_at nodes t) refl e p)
          (λ p. watched_lower t u (shape_at nodes t) refl e p)
          (Contains-append_cases (arguments nodes t) (watched nodes (shape_at nodes t)) u (subst (λ o. Contains (leads_by nodes t o) u) e c))

  pub selects_lead_back_no_more : IsAcyclic (leads nodes image)
  selects_lead_back_no_more = (low, falls)
