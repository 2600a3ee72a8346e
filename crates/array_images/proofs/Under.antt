-- What stands under a term, and what is brought by it.
use Rattle.std.proofs.Common.{◌≡◌, ℕ, true, List, [], ◌∷◌, ◌++◌, get_or, refl, sym, ap, ◌∙◌, subst, arith, inl, inr, ⊎_elim, Some, None}
use Rattle.std.specs.Prelude.{◌⊎◌, Contains, Option, option_to_list}
use Rattle.smt_terms.specs.declared.node.Node.{Node}
use Rattle.smt_terms.specs.Ranks.{is_array}
use Rattle.smt_terms.specs.Terms.{sort_of}
use Rattle.theory_terms.specs.declared.shape.Shape.TheVariants.{Selecting, Equating}
use Rattle.theory_terms.specs.Shapes.{shape_at}
use Rattle.term_reach.specs.Reach.{arguments, IsWay, Reaches}
use Rattle.term_reach.proofs.Ways.{reaches_itself}
use Rattle.array_images.specs.Brought.{IsUnder, followed, Becomes, HasIndex, IsBrought}

pub some_in : (o : Option ℕ) (u : ℕ) → Contains (option_to_list o) u → o ≡ Some u
some_in None u c = absurd (let lt = c.1 in omega (arith, lt))
some_in (Some x) u c =
    let first : c.0 ≡ 0 = (let lt = c.1 in omega (arith, lt)) in
    ap Some (ap (λ j. get_or (x ∷ []) j u) (sym first) ∙ c.2)

module _ (next : ℕ → List ℕ) where
  way_joined : (t : ℕ) (way : List ℕ) (u : ℕ) (more : List ℕ) (v : ℕ) → IsWay next t way u → IsWay next u more v → IsWay next t (way ++ more) v
  way_joined t [] u more v e h = subst (λ x. IsWay next x more v) (sym e) h
  way_joined t (s ∷ way) u more v h k = (h.0, way_joined s way u more v h.1 k)

  -- ways go on
  pub reaches_on : (t u v : ℕ) → Reaches next t u → Reaches next u v → Reaches next t v
  reaches_on t u v r s = (r.0 ++ s.0, way_joined t r.0 u s.0 v r.1 s.1)

  pub reaches_next : (t u v : ℕ) → Contains (next t) u → Reaches next u v → Reaches next t v
  reaches_next t u v c r = (u ∷ r.0, (c, r.1))

  -- the first step of a way
  pub way_cases : (t v : ℕ) → Reaches next t v → (t ≡ v) ⊎ ((u : ℕ) × Contains (next t) u × Reaches next u v)
  way_cases t v r = go r.0 r.1
    where
      go : (way : List ℕ) → IsWay next t way v → (t ≡ v) ⊎ ((u : ℕ) × Contains (next t) u × Reaches next u v)
      go [] e = inl e
      go (u ∷ way) h = inr (u, h.0, (way, h.1))

module _ (nodes : List Node) (image : ℕ → Option ℕ) where
  pub becomes_itself : (t : ℕ) → Becomes image t t
  becomes_itself t = reaches_itself (followed image) t

  pub becomes_image : (t u : ℕ) → image t ≡ Some u → Becomes image t u
  becomes_image t u e = (u ∷ [], (subst (λ o. Contains (option_to_list o) u) (sym e) (0, omega arith, refl), refl))

  -- what is under a term brings nothing
  pub under_brought : (t u : ℕ) → IsUnder nodes t u → IsBrought nodes image t u
  under_brought t u r = record {
    arrays = λ x below array. reaches_on (arguments nodes) t u x r below;
    equalities = λ x a b below shape array. reaches_on (arguments nodes) t u x r below;
    indexes = λ x a i below shape. record {
      select = x;
      array = a;
      old = i;
      under = reaches_on (arguments nodes) t u x r below;
      shape = shape;
      becomes = becomes_itself i;
    };
  }

  -- nor does what is brought by what is brought
  pub brought_on : (t u v : ℕ) → IsBrought nodes image t u → IsBrought nodes image u v → IsBrought nodes image t v
  brought_on t u v h k = record {
    arrays = λ x below array. h.arrays x (k.arrays x below array) array;
    equalities = λ x a b below shape array. h.equalities x a b (k.equalities x a b below shape array) shape array;
    indexes = λ x a i below shape.
        let p = k.indexes x a i below shape in
        let q = h.indexes p.select p.array p.old p.under p.shape in
        record {
          select = q.select;
          array = q.array;
          old = q.old;
          under = q.under;
          shape = q.shape;
          becomes = reaches_on (followed image) q.old p.old i q.becomes p.becomes;
        };
  }

  -- a new term that is no array, no equality of arrays and no select, over arguments that are brought
  module _ (t u : ℕ) (args : (a : ℕ) → Contains (arguments nodes u) a → IsBrought nodes image t a)
      (array : is_array (sort_of nodes u) ≡ true → IsUnder nodes t u)
      (equality : (a b : ℕ) → shape_at nodes u ≡ Equating a b → is_array (sort_of nodes a) ≡ true → IsUnder nodes t u)
      (select : (a i : ℕ) → shape_at nodes u ≡ Selecting a i → HasIndex nodes image t i) where
    pub over_brought : IsBrought nodes image t u
    over_brought = record {
      arrays = λ x below is. ⊎_elim
          (λ e. subst (IsUnder nodes t) e (array (subst (λ y. is_array (sort_of nodes y) ≡ true) (sym e) is)))
          (λ p. (args p.0 p.1).arrays x p.2 is)
          (way_cases (arguments nodes) u x below);
      equalities = λ x a b below shape is. ⊎_elim
          (λ e. subst (IsUnder nodes t) e (equality a b (ap (shape_at nodes) e ∙ shape) is))
          (λ p. (args p.0 p.1).equalities x a b p.2 shape is)
          (way_cases (arguments nodes) u x below);
      indexes = λ x a i below shape. ⊎_elim
          (λ e. select a i (ap (shape_at nodes) e ∙ shape))
          (λ p. (args p.0 p.1).indexes x a i p.2 shape)
          (way_cases (arguments nodes) u x below);
    }

-- more images bring no less
pub brought_more : (nodes : List Node) (old new : ℕ → Option ℕ) → ((x y : ℕ) → old x ≡ Some y → new x ≡ Some y) → (t u : ℕ) → IsBrought nodes old t u → IsBrought nodes new t u
brought_more nodes old new more t u h = record {
  arrays = h.arrays;
  equalities = h.equalities;
  indexes = λ x a i below shape.
      let k = h.indexes x a i below shape in
      record { select = k.select; array = k.array; old = k.old; under = k.under; shape = k.shape; becomes = (k.becomes.0, go k.old i k.becomes.0 k.becomes.1) };
}
  where
    go : (x i : ℕ) (way : List ℕ) → IsWay (followed old) x way i → IsWay (followed new) x way i
    go x i [] e = e
    go x i (y ∷ way) w = (subst (λ o. Contains (option_to_list o) y) (sym (more x y (some_in (old x) y w.0))) (0, omega arith, refl), go y i way w.1)
