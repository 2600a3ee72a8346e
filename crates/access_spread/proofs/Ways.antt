-- The way by which a row came, from its end.
use Rattle.std.proofs.Common.{◌≡◌, ℕ, ◌<◌, List, [], ◌∷◌, ◌++◌, Option, Some, None, sym, ap, ◌∙◌, subst, true}
use Rattle.std.specs.Prelude.{slice_get, reverse}
use Rattle.access_spread.specs.declared.graph.Gate.{Gate}
use Rattle.access_spread.specs.declared.graph.Graph.{Graph}
use Rattle.access_spread.specs.declared.spreading.Start.{Start}
use Rattle.access_spread.specs.declared.spreading.Row.{Row}
use Rattle.access_spread.specs.Graphs.{passes, gate_at, IsTrail}
use Rattle.std.proofs.lemmas.List.{reverse-append}
use Rattle.access_spread.specs.declared.spreading.Link.{Link}
use Rattle.access_spread.specs.Spreads.{index_in, start_at, CameBy, AreDerived, IsWayOf}

-- the edges, the last first, lead from the row at a place to that of the whole path
abbrev pub IsRest : Graph → List Gate → List Start → List Row → ℕ → ℕ → List ℕ → Type 0
IsRest g gates starts rows place at back =
    (r q : Row) → slice_get rows place ≡ Some r → slice_get rows at ≡ Some q → (q.start ≡ r.start) × IsTrail g.edges.items gates (index_in starts r) q.array (reverse back) r.array

module _ (g : Graph) (gates : List Gate) (starts : List Start) (rows : List Row) (derived : AreDerived g gates starts rows) (place : ℕ) where
  pub first_rest : IsRest g gates starts rows place place []
  first_rest r q e f = let same : q ≡ r = let x : Some q ≡ Some r = sym f ∙ e in cc in (ap (λ z. z.start) same, ap (λ z. z.array) same)

  module _ (at : ℕ) (q : Row) (here : slice_get rows at ≡ Some q) (back : List ℕ) (rest : IsRest g gates starts rows place at back) where
    came : (o : Option Link) → q.from ≡ o → CameBy g gates starts rows at q o
    came o e = subst (CameBy g gates starts rows at q) e (derived at q here)

    pub next_rest : (l : Link) → q.from ≡ Some l → (l.row < at) × IsRest g gates starts rows place l.row (back ++ l.edge ∷ [])
    next_rest l e =
        let h = came (Some l) e in (
          h.0,
          λ r p f there.
              let k = rest r q f here in
              let same : h.1 ≡ p = let x : Some h.1 ≡ Some p = sym h.3 ∙ there in cc in
              let from : h.2.from ≡ p.array = h.6 ∙ ap (λ z. z.array) same in
              let start : p.start ≡ r.start = ap (λ z. z.start) (sym same) ∙ h.4 ∙ k.0 in
              let index : index_in starts q ≡ index_in starts r = ap (λ s. (start_at starts s).index) k.0 in
              let pass : passes (gate_at gates h.2.gate) (index_in starts r) ≡ true = ap (passes (gate_at gates h.2.gate)) (sym index) ∙ h.8 in
              let trail : IsTrail g.edges.items gates (index_in starts r) h.2.to (reverse back) r.array = subst (λ a. IsTrail g.edges.items gates (index_in starts r) a (reverse back) r.array) (sym h.7) k.1 in
              let all : IsTrail g.edges.items gates (index_in starts r) p.array (l.edge ∷ reverse back) r.array = (h.2, h.5, from, pass, trail) in
              (start, subst (λ js. IsTrail g.edges.items gates (index_in starts r) p.array js r.array) (sym (reverse-append back (l.edge ∷ []))) all),
        )

    pub whole_way : q.from ≡ None → IsWayOf g gates starts rows place (reverse back)
    whole_way e r f =
        let k = rest r q f here in
        let h = came None e in
        let from : q.array ≡ (start_at starts r.start).array = h ∙ ap (λ s. (start_at starts s).array) k.0 in
        subst (λ a. IsTrail g.edges.items gates (index_in starts r) a (reverse back) r.array) from k.1
