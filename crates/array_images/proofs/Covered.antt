-- What terms reach by images is covered by what they reach through arguments.
use Rattle.std.proofs.Common.{◌≡◌, ℕ, true, false, List, [], ◌∷◌, get_or, refl, sym, ap, ◌∙◌, subst, arith, ⊎_elim, Option, Some, None}
use Rattle.std.specs.Prelude.{Contains}
use Rattle.std.proofs.lemmas.List.Elements.{Contains-append_cases, Contains-append_left}
use Rattle.smt_terms.specs.declared.node.Node.{Node}
use Rattle.smt_terms.specs.Nodes.{node_at}
use Rattle.smt_terms.specs.Ranks.{is_array}
use Rattle.smt_terms.specs.Terms.{sort_of, IsTermList}
use Rattle.smt_terms.specs.Values.{value}
use Rattle.smt_terms.proofs.Evaluating.{value_is_evaluation}
use Rattle.theory_terms.specs.declared.shape.Shape.{Shape}
use Rattle.theory_terms.specs.declared.shape.Shape.TheVariants.{Selecting, Storing, Filling, Choosing, Equating, Witnessing, Applying, Declaring, Other}
use Rattle.theory_terms.specs.declared.atom.Watch.{Watch}
use Rattle.theory_terms.specs.declared.atom.Landing.{Landing}
use Rattle.theory_terms.specs.Shapes.{shape_at, term_of}
use Rattle.theory_terms.specs.Lemmas.{start_of, watch, watch_at, watch_of, witness_node, select_node}
use Rattle.theory_terms.proofs.Shapes.{SelectFacts, StoreFacts, WitnessFacts, FactsOf, facts}
use Rattle.theory_terms.proofs.Sound.{IsWatch, watch_is}
use Rattle.term_reach.specs.Reach.{arguments, IsClosed}
use Rattle.term_reach.proofs.Ways.{reaches_itself, root_reached, reached_further, reached_closed}
use Rattle.access_tables.specs.Leading.{selects_of, watched, leads, leads_by}
use Rattle.access_tables.proofs.Building.{args_at}
use Rattle.array_watches.specs.Needed.{index_by}
use Rattle.array_watches.specs.Watched.{Reached}
use Rattle.array_watches.proofs.Sorted.{any_interpretation}
use Rattle.bv_rules.proofs.Known.{never}
use Rattle.array_images.specs.Brought.{IsUnder, Becomes, followed, AreBrought}
use Rattle.array_images.specs.Covered.{IsLed, HasOldIndex, IsCovered}
use Rattle.array_images.proofs.Under.{reaches_on, reaches_next, way_cases, becomes_itself}

none_in : (u : ℕ) → Contains [] u → ⊥
none_in u c = let lt = c.1 in omega (arith, lt)

in_one : (a u : ℕ) → Contains (a ∷ []) u → a ≡ u
in_one a u c = let first : c.0 ≡ 0 = (let lt = c.1 in omega (arith, lt)) in ap (λ j. get_or (a ∷ []) j u) (sym first) ∙ c.2

in_two : {C : Type 0} (a b u : ℕ) → Contains (a ∷ b ∷ []) u → (a ≡ u → C) → (b ≡ u → C) → C
in_two a b u c f g = ⊎_elim (λ p. f (in_one a u p)) (λ p. g (in_one b u p)) (Contains-append_cases (a ∷ []) (b ∷ []) u c)

-- the terms of a watch are found
pub watch_found : (nodes : List Node) (a b : ℕ) (o : Option ℕ) (w : Watch) → watch_at nodes a b o ≡ Some w
    → (o ≡ Some w.witness) × (term_of nodes (select_node a w.witness) ≡ Some w.left) × (term_of nodes (select_node b w.witness) ≡ Some w.right)
watch_found nodes a b None w e = let z : ⊥ = cc in absurd z
watch_found nodes a b (Some k) w e = go (term_of nodes (select_node a k)) (term_of nodes (select_node b k)) refl refl e
  where
    go : (l r : Option ℕ) → term_of nodes (select_node a k) ≡ l → term_of nodes (select_node b k) ≡ r → watch_of k l r ≡ Some w
        → (Some k ≡ Some w.witness) × (term_of nodes (select_node a w.witness) ≡ Some w.left) × (term_of nodes (select_node b w.witness) ≡ Some w.right)
    go None r p s q = let z : ⊥ = cc in absurd z
    go (Some l) None p s q = let z : ⊥ = cc in absurd z
    go (Some l) (Some r) p s q =
        let same : record { witness = k; left = l; right = r } ≡ w = cc in
        let at : k ≡ w.witness = ap (λ (x : Watch). x.witness) same in (
          ap Some at,
          ap (λ x. term_of nodes (select_node a x)) (sym at) ∙ p ∙ ap (λ (x : Watch). Some x.left) same,
          ap (λ x. term_of nodes (select_node b x)) (sym at) ∙ s ∙ ap (λ (x : Watch). Some x.right) same,
        )

-- what a rank says of a term of this shape
pub fact : (nodes : List Node) → IsTermList nodes → (t : ℕ) (k : Shape) → shape_at nodes t ≡ k → FactsOf any_interpretation (sort_of nodes) (value any_interpretation nodes) t (node_at nodes t) k
fact nodes list t k e = subst (FactsOf any_interpretation (sort_of nodes) (value any_interpretation nodes) t (node_at nodes t)) e (facts any_interpretation nodes (value any_interpretation nodes) list (value_is_evaluation any_interpretation nodes list) t)

module _ (nodes : List Node) (list : IsTermList nodes) (image : ℕ → Option ℕ) (are : AreBrought nodes image) (roots : List ℕ) where
  abbrev Here : ℕ → Type 0
  Here = Reached nodes roots

  -- what a term has under it is reached through arguments, as far as it is of arrays
  record IsSafe (t : ℕ) : Type 0 where
    arrays : (x : ℕ) → IsUnder nodes t x → is_array (sort_of nodes x) ≡ true → Here x
    equalities : (x a b : ℕ) → IsUnder nodes t x → shape_at nodes x ≡ Equating a b → is_array (sort_of nodes a) ≡ true → Here x
    indexes : (x a i : ℕ) → IsUnder nodes t x → shape_at nodes x ≡ Selecting a i → HasOldIndex nodes image roots i

  here_under : (t x : ℕ) → Here t → IsUnder nodes t x → Here x
  here_under t x h r = (h.0, h.1, reaches_on (arguments nodes) h.0 t x h.2 r)

  here_safe : (t : ℕ) → Here t → IsSafe t
  here_safe t h = record {
    arrays = λ x below is. here_under t x h below;
    equalities = λ x a b below shape is. here_under t x h below;
    indexes = λ x a i below shape. record { term = x; old = i; reached = here_under t x h below; is = ap (index_by nodes) shape; becomes = becomes_itself nodes image i };
  }

  -- ---- a step

  argument_safe : (t u : ℕ) → IsSafe t → Contains (arguments nodes t) u → IsSafe u
  argument_safe t u h c = record {
    arrays = λ x below is. h.arrays x (reaches_next (arguments nodes) t u x c below) is;
    equalities = λ x a b below shape is. h.equalities x a b (reaches_next (arguments nodes) t u x c below) shape is;
    indexes = λ x a i below shape. h.indexes x a i (reaches_next (arguments nodes) t u x c below) shape;
  }

  image_safe : (t u : ℕ) → IsSafe t → image t ≡ Some u → IsSafe u
  image_safe t u h e =
      let b = are t u e in
      record {
        arrays = λ x below is. h.arrays x (b.arrays x below is) is;
        equalities = λ x y z below shape is. h.equalities x y z (b.equalities x y z below shape is) shape is;
        indexes = λ x a i below shape.
            let k = b.indexes x a i below shape in
            let old = h.indexes k.select k.array k.old k.under k.shape in
            record { term = old.term; old = old.old; reached = old.reached; is = old.is; becomes = reaches_on (followed image) old.old k.old i old.becomes k.becomes };
      }

  -- a new term that is no array and no equality of arrays, over arguments that are safe
  over_safe : (u : ℕ) → ((a : ℕ) → Contains (arguments nodes u) a → IsSafe a) → is_array (sort_of nodes u) ≡ false → ((a b : ℕ) → shape_at nodes u ≡ Equating a b → ⊥)
      → ((a i : ℕ) → shape_at nodes u ≡ Selecting a i → HasOldIndex nodes image roots i) → IsSafe u
  over_safe u args none other index = record {
    arrays = λ x below is. ⊎_elim
        (λ e. never (sym none ∙ ap (λ y. is_array (sort_of nodes y)) e ∙ is))
        (λ p. (args p.0 p.1).arrays x p.2 is)
        (way_cases (arguments nodes) u x below);
    equalities = λ x a b below shape is. ⊎_elim
        (λ e. absurd (other a b (ap (shape_at nodes) e ∙ shape)))
        (λ p. (args p.0 p.1).equalities x a b p.2 shape is)
        (way_cases (arguments nodes) u x below);
    indexes = λ x a i below shape. ⊎_elim
        (λ e. index a i (ap (shape_at nodes) e ∙ shape))
        (λ p. (args p.0 p.1).indexes x a i p.2 shape)
        (way_cases (arguments nodes) u x below);
  }

  -- the select of a side of a reached equality at its witness
  module _ (t a b : ℕ) (w : Watch) (h : IsSafe t) (e : shape_at nodes t ≡ Equating a b) (found : watch nodes a b ≡ Some w) where
    is : IsWatch nodes a b w
    is = watch_is nodes a b w found

    sorts : WitnessFacts (sort_of nodes) w.witness a b
    unfolding is
    sorts = fact nodes list w.witness (Witnessing a b) is.witness

    here : Here t
    unfolding sorts
    here = h.equalities t a b (reaches_itself (arguments nodes) t) e (ap is_array sorts.left_sort)

    side : (x : ℕ) → Contains (a ∷ b ∷ []) x → Here x
    unfolding here
    side x c = reached_further (arguments nodes) roots t x here (subst (λ l. Contains l x) (sym (args_at nodes t (Equating a b) e)) c)

    witness_safe : IsSafe w.witness
    unfolding side sorts is
    witness_safe = over_safe w.witness
        (λ x c. here_safe x (side x (subst (λ l. Contains l x) (args_at nodes w.witness (Witnessing a b) is.witness) c)))
        (ap is_array sorts.sort)
        (λ x y q. (let z : Witnessing a b ≡ Equating x y = sym is.witness ∙ q in let f : ⊥ = cc in f))
        (λ x y q. (let z : Witnessing a b ≡ Selecting x y = sym is.witness ∙ q in let f : ⊥ = cc in absurd f))

    select_safe : (x s : ℕ) → Contains (a ∷ b ∷ []) x → shape_at nodes s ≡ Selecting x w.witness → IsSafe s
    unfolding here
    select_safe x s c shape =
        let own : SelectFacts (sort_of nodes) (value any_interpretation nodes) s x w.witness = fact nodes list s (Selecting x w.witness) shape in
        over_safe s
        (λ y d. in_two x w.witness y (subst (λ l. Contains l y) (args_at nodes s (Selecting x w.witness) shape) d)
        (λ q. subst IsSafe q (here_safe x (side x c)))
        (λ q. subst IsSafe q witness_safe))
        (ap is_array own.sort)
        (λ y z q. (let d : Selecting x w.witness ≡ Equating y z = sym shape ∙ q in let f : ⊥ = cc in f))
        (λ y i q. (let same : w.witness ≡ i = (let d : Selecting x w.witness ≡ Selecting y i = sym shape ∙ q in cc) in record {
          term = t;
          old = w.witness;
          reached = here;
          is = ap (index_by nodes) e ∙ (watch_found nodes a b (term_of nodes (witness_node a b)) w found).0;
          becomes = subst (Becomes image w.witness) same (becomes_itself nodes image w.witness);
        }))

    watch_safe : (u : ℕ) → Contains (w.left ∷ w.right ∷ []) u → IsSafe u
    unfolding is
    watch_safe u c = in_two w.left w.right u c
        (λ q. subst IsSafe q (select_safe a w.left (Contains-append_left (a ∷ []) (b ∷ []) a (0, omega arith, refl)) is.left))
        (λ q. subst IsSafe q (select_safe b w.right (1, omega arith, refl) is.right))

  watched_safe : (t u : ℕ) (k : Shape) → IsSafe t → shape_at nodes t ≡ k → Contains (watched nodes k) u → IsSafe u
  watched_safe t u (Equating a b) h e c = go (watch nodes a b) refl c
    where
      go : (o : Option Watch) → watch nodes a b ≡ o → Contains (selects_of o) u → IsSafe u
      go None q d = absurd (none_in u d)
      go (Some w) q d = watch_safe t a b w h e q u d
  watched_safe t u (Selecting a i) h e c = absurd (none_in u c)
  watched_safe t u (Storing b j x) h e c = absurd (none_in u c)
  watched_safe t u (Filling x) h e c = absurd (none_in u c)
  watched_safe t u (Choosing x a b) h e c = absurd (none_in u c)
  watched_safe t u (Witnessing a b) h e c = absurd (none_in u c)
  watched_safe t u (Applying d) h e c = absurd (none_in u c)
  watched_safe t u (Declaring d q) h e c = absurd (none_in u c)
  watched_safe t u Other h e c = absurd (none_in u c)

  safe_closed : IsClosed (leads nodes image) IsSafe
  safe_closed t u h c = go (image t) refl c
    where
      go : (o : Option ℕ) → image t ≡ o → Contains (leads_by nodes t o) u → IsSafe u
      go (Some x) e d = subst IsSafe (in_one x u d) (image_safe t x h e)
      go None e d = ⊎_elim
          (λ p. argument_safe t u h p)
          (λ p. watched_safe t u (shape_at nodes t) h refl p)
          (Contains-append_cases (arguments nodes t) (watched nodes (shape_at nodes t)) u d)

  led_safe : (t : ℕ) → IsLed nodes image roots t → IsSafe t
  led_safe t r = reached_closed (leads nodes image) IsSafe roots safe_closed (λ x c. here_safe x (root_reached (arguments nodes) roots x c)) t r

  -- ---- the law

  covered_index : (t : ℕ) (k : Shape) (l : Landing) → IsSafe t → shape_at nodes t ≡ k → start_of t k ≡ Some l → HasOldIndex nodes image roots l.index
  covered_index t (Selecting a i) l h e q =
      let same : record { array = a; index = i; value = t } ≡ l = cc in
      subst (λ (x : Landing). HasOldIndex nodes image roots x.index) same (h.indexes t a i (reaches_itself (arguments nodes) t) e)
  covered_index t (Storing b j x) l h e q =
      let own : StoreFacts (sort_of nodes) (value any_interpretation nodes) t b j x = fact nodes list t (Storing b j x) e in
      let here = h.arrays t (reaches_itself (arguments nodes) t) (ap is_array own.sort) in
      let same : record { array = t; index = j; value = x } ≡ l = cc in
      subst (λ (y : Landing). HasOldIndex nodes image roots y.index) same (record { term = t; old = j; reached = here; is = ap (index_by nodes) e; becomes = becomes_itself nodes image j })
  covered_index t k l h e q = let f : ⊥ = cc in absurd f

  pub led_is_covered : (t : ℕ) → IsLed nodes image roots t → IsCovered nodes image roots t
  led_is_covered t r =
      let h = led_safe t r in
      record {
        array = λ is. h.arrays t (reaches_itself (arguments nodes) t) is;
        equality = λ a b shape is. h.equalities t a b (reaches_itself (arguments nodes) t) shape is;
        index = λ l start. covered_index t (shape_at nodes t) l h refl start;
      }
