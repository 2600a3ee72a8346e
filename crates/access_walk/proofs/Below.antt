-- Terms lead to terms that are there.
use Rattle.std.proofs.Common.{◌≡◌, ℕ, ◌<◌, List, [], ◌∷◌, length, Option, Some, None, refl, sym, ◌∙◌, subst, ⊎_elim, arith}
use Rattle.std.specs.Prelude.{Contains}
use Rattle.std.specs.List.{AllByRecursion}
use Rattle.std.proofs.lemmas.Bool.{cases_lt}
use Rattle.std.proofs.lemmas.List.{get_or_past}
use Rattle.std.proofs.lemmas.List.Elements.{Contains-append_cases}
use Rattle.cnf_base.proofs.Lists.{Contains-nil, Contains-one}
use Rattle.smt_terms.specs.declared.node.Node.{Node}
use Rattle.smt_terms.specs.Nodes.{node_at, no_node}
use Rattle.smt_terms.specs.Bits.{TermBits, image_in}
use Rattle.smt_terms.specs.Terms.{IsTermList}
use Rattle.theory_terms.specs.declared.shape.Shape.{Shape}
use Rattle.theory_terms.specs.declared.shape.Shape.TheVariants.{Selecting, Storing, Filling, Choosing, Equating, Witnessing, Applying, Declaring, Other}
use Rattle.theory_terms.specs.declared.atom.Watch.{Watch}
use Rattle.theory_terms.specs.Shapes.{shape_at}
use Rattle.theory_terms.specs.Lemmas.{watch}
use Rattle.theory_terms.proofs.Shapes.{shape_within}
use Rattle.theory_terms.proofs.Sound.{watch_is}
use Rattle.term_reach.specs.Reach.{arguments, LeadsBelow}
use Rattle.access_tables.specs.Leading.{selects_of, watched, leads_by, leads}

all_in : (P : ℕ → Type 0) (xs : List ℕ) (u : ℕ) → AllByRecursion P xs → Contains xs u → P u
all_in P [] u h c = absurd (Contains-nil u c)
all_in P (x ∷ xs) u h c = ⊎_elim
    (λ (p : Contains (x ∷ []) u). subst P (Contains-one x u p) h.0)
    (λ (p : Contains xs u). all_in P xs u h.1 p)
    (Contains-append_cases (x ∷ []) xs u c)

module _ (nodes : List Node) (terms : IsTermList nodes) where
  argument_below : (t u : ℕ) → Contains (node_at nodes t).args u → u < length nodes
  argument_below t u c = ⊎_elim
      (λ lt. (let less = all_in (λ a. a < t) (node_at nodes t).args u (terms t lt).earlier c in omega (arith, less, lt)))
      (λ le. absurd (Contains-nil u (subst (λ (n : Node). Contains n.args u) (get_or_past nodes t no_node le) c)))
      (cases_lt t (length nodes))

  select_within : (l a i : ℕ) → shape_at nodes l ≡ Selecting a i → l < length nodes
  select_within l a i e = shape_within nodes l (λ o. let z : Selecting a i ≡ Other = sym e ∙ o in let y : ⊥ = cc in y)

  select_below : (a b u : ℕ) → (o : Option Watch) → watch nodes a b ≡ o → Contains (selects_of o) u → u < length nodes
  select_below a b u None p c = absurd (Contains-nil u c)
  select_below a b u (Some w) p c =
      let i = watch_is nodes a b w p in
      ⊎_elim
      (λ (q : Contains (w.left ∷ []) u). subst (λ x. x < length nodes) (Contains-one w.left u q) (select_within w.left a w.witness i.left))
      (λ (q : Contains (w.right ∷ []) u). subst (λ x. x < length nodes) (Contains-one w.right u q) (select_within w.right b w.witness i.right))
      (Contains-append_cases (w.left ∷ []) (w.right ∷ []) u c)

  watched_below : (u : ℕ) (k : Shape) → Contains (watched nodes k) u → u < length nodes
  watched_below u (Equating a b) c = select_below a b u (watch nodes a b) refl c
  watched_below u (Selecting a i) c = absurd (Contains-nil u c)
  watched_below u (Storing b j x) c = absurd (Contains-nil u c)
  watched_below u (Filling x) c = absurd (Contains-nil u c)
  watched_below u (Choosing x a b) c = absurd (Contains-nil u c)
  watched_below u (Witnessing a b) c = absurd (Contains-nil u c)
  watched_below u (Applying d) c = absurd (Contains-nil u c)
  watched_below u (Declaring d q) c = absurd (Contains-nil u c)
  watched_below u Other c = absurd (Contains-nil u c)

  by_below : (t u : ℕ) (o : Option ℕ) → ((i : ℕ) → o ≡ Some i → i < length nodes) → Contains (leads_by nodes t o) u → u < length nodes
  by_below t u (Some i) images c = subst (λ x. x < length nodes) (Contains-one i u c) (images i refl)
  by_below t u None images c = ⊎_elim
      (λ (p : Contains (arguments nodes t) u). argument_below t u p)
      (λ (p : Contains (watched nodes (shape_at nodes t)) u). watched_below u (shape_at nodes t) p)
      (Contains-append_cases (arguments nodes t) (watched nodes (shape_at nodes t)) u c)

  pub leads_below : (bits : List TermBits) → ((t u : ℕ) → image_in bits t ≡ Some u → u < length nodes) → LeadsBelow (length nodes) (leads nodes (image_in bits))
  leads_below bits images t u c = by_below t u (image_in bits t) (λ i e. images t i e) c
