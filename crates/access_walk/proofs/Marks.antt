-- Marked arrays, and the lanes of edges one by one.
use Rattle.std.proofs.Common.{◌≡◌, ℕ, ◌+◌, ◌<◌, Bool, false, List, [], ◌∷◌, ◌++◌, length, Some, sym, ap, ◌∙◌, ⊎_elim, arith}
use Rattle.std.specs.Prelude.{slice_get, slice_index_or}
use Rattle.std.proofs.lemmas.Bool.{cases_lt}
use Rattle.theory_terms.specs.declared.lemma.Move.{Move}
use Rattle.access_spread.specs.declared.graph.Edge.{Edge}
use Rattle.access_spread.specs.declared.lane.Lane.{Lane}
use Rattle.access_spread.proofs.Lists.{get_front, get_last, get_push}
use Rattle.access_walk.specs.declared.network.Network.{Network}
use Rattle.access_walk.specs.Lanes.{lane_of, AreMarks}
use Rattle.access_walk.proofs.Lists.{same_at}

pub marks_push : (under more : List Bool) (old new : List ℕ) (a : ℕ) → AreMarks under old → a < length under → length more ≡ length under → new ≡ old ++ a ∷ [] → AreMarks more new
marks_push under more old new a are lt long same k x q =
    ⊎_elim
    (λ h. let e = h.1 in omega (arith, lt, long, e))
    (λ h. let w = are k x h in omega (arith, w, long))
    (get_push old a x k (ap (λ xs. slice_get xs k) (sym same) ∙ q))

pub marks_none : (under : List Bool) (marked : List ℕ) → marked ≡ [] → AreMarks under marked
marks_none under marked same k x q = let z : slice_get [] k ≡ Some x = ap (λ xs. slice_get xs k) (sym same) ∙ q in none k z where
  none : (k : ℕ) → slice_get [] k ≡ Some x → x < length under
  none k z = let f : ⊥ = cc in absurd f

module _ (arrays : List ℕ) (n : Network) (under : List Bool) where
  abbrev pub lane_at : Edge → Move → Lane
  lane_at e m = lane_of (slice_index_or arrays e.from 0) m (slice_index_or under e.to false)

  abbrev pub AreLanesTo : ℕ → List Lane → Type 0
  AreLanesTo place lanes = (j : ℕ) (e : Edge) (m : Move) → slice_get n.graph.edges.items j ≡ Some e → slice_get n.moves.items j ≡ Some m → j < place → slice_get lanes j ≡ Some (lane_at e m)

  pub lanes_step : (lanes new : List Lane) (place : ℕ) (e : Edge) (m : Move) → length lanes ≡ place → slice_get n.graph.edges.items place ≡ Some e → slice_get n.moves.items place ≡ Some m → new ≡ lanes ++ lane_at e m ∷ [] → AreLanesTo place lanes → AreLanesTo (place + 1) new
  lanes_step lanes new place e m long edge move same are j d b p q lt =
      ⊎_elim
      (λ less. ap (λ xs. slice_get xs j) same ∙ get_front lanes (lane_at e m ∷ []) j (lane_at d b) (are j d b p q less))
      (λ more.
      let here : j ≡ place = omega (arith, lt, more) in
      let de : e ≡ d = same_at n.graph.edges.items place e d edge (ap (slice_get n.graph.edges.items) (sym here) ∙ p) in
      let mb : m ≡ b = same_at n.moves.items place m b move (ap (slice_get n.moves.items) (sym here) ∙ q) in
      ap (λ xs. slice_get xs j) same ∙ ap (slice_get (lanes ++ lane_at e m ∷ [])) (here ∙ sym long) ∙ get_last lanes (lane_at e m) ∙ ap (λ z. Some (lane_at z m)) de ∙ ap (λ z. Some (lane_at d z)) mb)
      (cases_lt j place)
