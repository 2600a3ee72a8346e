-- One edge more.
use Rattle.std.proofs.Common.{◌≡◌, ℕ, ◌<◌, List, [], ◌∷◌, ◌++◌, length, Some, sym, ap, ◌∙◌, subst, ⊎_elim, arith}
use Rattle.std.specs.Prelude.{◌⊎◌, slice_get, slice_set}
use Rattle.std.proofs.lemmas.List.{length-set}
use Rattle.access_spread.specs.declared.graph.Edge.{Edge}
use Rattle.access_spread.specs.declared.graph.Graph.{Graph}
use Rattle.access_spread.specs.Graphs.{IsGraph}
use Rattle.access_spread.proofs.Lists.{set_same, set_other, eq_or_not, get_front, get_last, get_push}

module _ (g h : Graph) (e : Edge) (f : List ℕ) (graph : IsGraph g) (from : e.from < length g.fans.items) (to : e.to < length g.fans.items)
    (edges : h.edges.items ≡ g.edges.items ++ e ∷ []) (fan : slice_get g.fans.items e.from ≡ Some f) (fans : h.fans.items ≡ slice_set g.fans.items e.from (f ++ length g.edges.items ∷ [])) where
  count : length h.fans.items ≡ length g.fans.items
  count = ap length fans ∙ length-set g.fans.items e.from (f ++ length g.edges.items ∷ [])

  cases : (j : ℕ) (d : Edge) → slice_get h.edges.items j ≡ Some d → ((j ≡ length g.edges.items) × (e ≡ d)) ⊎ (slice_get g.edges.items j ≡ Some d)
  cases j d q = get_push g.edges.items e d j (ap (λ xs. slice_get xs j) (sym edges) ∙ q)

  old_edge : (j : ℕ) (d : Edge) → slice_get g.edges.items j ≡ Some d → slice_get h.edges.items j ≡ Some d
  old_edge j d q = ap (λ xs. slice_get xs j) edges ∙ get_front g.edges.items (e ∷ []) j d q

  here : slice_get h.fans.items e.from ≡ Some (f ++ length g.edges.items ∷ [])
  here = ap (λ xs. slice_get xs e.from) fans ∙ set_same g.fans.items e.from (f ++ length g.edges.items ∷ []) from

  there : (a : ℕ) → (a ≡ e.from → ⊥) → slice_get h.fans.items a ≡ slice_get g.fans.items a
  there a ne = ap (λ xs. slice_get xs a) fans ∙ set_other g.fans.items e.from a (f ++ length g.edges.items ∷ []) ne

  here_is : (a : ℕ) (k : List ℕ) → a ≡ e.from → slice_get h.fans.items a ≡ Some k → k ≡ f ++ length g.edges.items ∷ []
  here_is a k same q = let x : Some k ≡ Some (f ++ length g.edges.items ∷ []) = sym q ∙ ap (slice_get h.fans.items) same ∙ here in cc

  pub graph_push : IsGraph h
  graph_push = record {
    within = λ j d q.
        ⊎_elim
        (λ new. subst (λ z. (z.from < length h.fans.items) × (z.to < length h.fans.items)) new.1 (omega (arith, from, count), omega (arith, to, count)))
        (λ old. let w = graph.within j d old in (omega (arith, w.0, count), omega (arith, w.1, count)))
        (cases j d q);
    all = λ j d k q r.
        ⊎_elim
        (λ new.
        let is = here_is d.from k (ap (λ z. z.from) (sym new.1)) r in
        (length f, ap (λ xs. slice_get xs (length f)) is ∙ get_last f (length g.edges.items) ∙ ap Some (sym new.0)))
        (λ old.
        ⊎_elim
        (λ same.
        let is = here_is d.from k same r in
        let i = graph.all j d f old (ap (slice_get g.fans.items) same ∙ fan) in
        (i.0, ap (λ xs. slice_get xs i.0) is ∙ get_front f (length g.edges.items ∷ []) i.0 j i.1))
        (λ ne. graph.all j d k old (sym (there d.from ne) ∙ r))
        (eq_or_not d.from e.from))
        (cases j d q);
    only = λ a i j k q r.
        ⊎_elim
        (λ same.
        let is = here_is a k same q in
        ⊎_elim
        (λ new. (e, ap (slice_get h.edges.items) (sym new.1) ∙ ap (λ xs. slice_get xs (length g.edges.items)) edges ∙ get_last g.edges.items e, sym same))
        (λ old. let o = graph.only e.from i j f fan old in (o.0, old_edge j o.0 o.1, o.2 ∙ sym same))
        (get_push f (length g.edges.items) j i (ap (λ xs. slice_get xs i) (sym is) ∙ r)))
        (λ ne. let o = graph.only a i j k (sym (there a ne) ∙ q) r in (o.0, old_edge j o.0 o.1, o.2))
        (eq_or_not a e.from);
  }

pub no_edges : (g : Graph) → g.edges.items ≡ [] → ((a : ℕ) (f : List ℕ) → slice_get g.fans.items a ≡ Some f → f ≡ []) → IsGraph g
no_edges g none empty = record {
  within = λ j e q. absurd (no j e q);
  all = λ j e f q r. absurd (no j e q);
  only = λ a i j f q r. let x : slice_get [] i ≡ Some j = ap (λ xs. slice_get xs i) (sym (empty a f q)) ∙ r in let z : ⊥ = nothing i j x in absurd z;
} where
  nothing : (i j : ℕ) → slice_get [] i ≡ Some j → ⊥
  nothing i j x = let z : ⊥ = cc in z

  no : (j : ℕ) (e : Edge) → slice_get g.edges.items j ≡ Some e → ⊥
  no j e q = let x : slice_get [] j ≡ Some e = ap (λ xs. slice_get xs j) (sym none) ∙ q in let z : ⊥ = cc in z

pub one_fan : (fans : List (List ℕ)) (f : List ℕ) → f ≡ [] → ((a : ℕ) (k : List ℕ) → slice_get fans a ≡ Some k → k ≡ []) → (a : ℕ) (k : List ℕ) → slice_get (fans ++ f ∷ []) a ≡ Some k → k ≡ []
one_fan fans f e h a k q = ⊎_elim (λ new. sym new.1 ∙ e) (λ old. h a k old) (get_push fans f k a q)
