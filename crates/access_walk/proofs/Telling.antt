-- Accesses that come to one array agree there, unless a clash is told on their way.
use Rattle.std.proofs.Common.{◌≡◌, ℕ, ◌<◌, Bool, true, false, List, [], ◌∷◌, length, Some, refl, sym, ap, ◌∙◌, subst, ⊎_elim, arith}
use Rattle.std.specs.Prelude.{◌==◌, ◌||◌, if◌then◌else◌, slice_get, slice_index_or, Contains}
use Rattle.smt_terms.specs.declared.node.Node.{Node}
use Rattle.smt_terms.specs.Bits.{TermBits, image_in}
use Rattle.smt_terms.specs.Terms.{sort_of}
use Rattle.smt_terms.specs.Ranks.{index_sort}
use Rattle.smt_terms.specs.Values.{Value, number_of}
use Rattle.theory_terms.specs.declared.atom.Landing.{Landing}
use Rattle.theory_terms.specs.declared.lemma.Lemma.{Lemma}
use Rattle.theory_terms.specs.declared.lemma.Lemma.TheVariants.{Witness}
use Rattle.theory_terms.specs.declared.lemma.Move.{Move}
use Rattle.theory_terms.specs.declared.lemma.Move.TheVariants.{Store, Then, Else, Sides}
use Rattle.access_spread.specs.declared.graph.Gate.{Gate}
use Rattle.access_spread.specs.declared.graph.Graph.{Graph}
use Rattle.access_spread.specs.declared.lane.Lane.{Lane}
use Rattle.access_spread.specs.declared.lane.Lane.TheVariants.{Open, Wide, Shut}
use Rattle.access_spread.specs.declared.spreading.Refusal.{Refusal}
use Rattle.access_spread.specs.declared.spreading.Row.{Row}
use Rattle.access_spread.specs.declared.spreading.Start.{Start}
use Rattle.access_spread.specs.Graphs.{passes, gate_at, lane_takes, takes}
use Rattle.access_spread.specs.Spreads.{start_at, index_in, value_in, HasRow, HasRefusal, IsMet, IsSpread, AreTold, most_refused}
use Rattle.access_tables.specs.Held.{assigned_value}
use Rattle.access_walk.specs.declared.network.Network.{Network}
use Rattle.access_walk.specs.declared.values.Entry.{Entry}
use Rattle.access_walk.specs.Lanes.{lane_of, AreLanes}
use Rattle.access_walk.specs.Networks.{IsIndexOf}
use Rattle.access_walk.specs.Spread.{AreClashLemmas, IsClashAt}
use Rattle.access_walk.specs.Told.{IsBegun, IsFilledAt, Begins, leads_on, IsUntold, IsStep, IsWay, ComesTo, AreAllTold}
use Rattle.access_walk.specs.Valuing.{IsNetworkOf, AreValues, landings_in}
use Rattle.access_walk.proofs.Clashed.{clash_at}
use Rattle.access_walk.proofs.Lists.{place_of, read, some_at, within, same_at}
use Rattle.access_walk.proofs.Permuted.{no_entry}
use Rattle.access_walk.proofs.Words.{word_value}

-- what is told of accesses that take all edges is told of those that leave some out
pub every_lane : (g : Graph) (gates : List Gate) (lanes : List Lane) (starts : List Start) (rows : List Row) (refused : List Refusal) → AreTold g gates [] starts rows refused → AreTold g gates lanes starts rows refused
every_lane g gates lanes starts rows refused told = record { starts_met = told.starts_met; rows_met = λ room p r q j e at from taken pass. told.rows_met room p r q j e at from refl pass }

-- where none is refused, there is no lemma
pub no_lemmas : (n : Network) (entries : List Entry) (gates : List Gate) (starts : List Start) (rows : List Row) (refused : List Refusal) → length refused ≡ 0 → AreClashLemmas n entries gates starts rows refused []
no_lemmas n entries gates starts rows refused none = record { count = sym none; each = λ k c l p q. absurd (nothing k l q) } where
  nothing : (k : ℕ) (l : Lemma) → slice_get [] k ≡ Some l → ⊥
  nothing k l q = let z : ⊥ = cc in z

-- a move that leads on has an open lane
down_open : (up : Lane) (under down : Bool) → down ≡ true → if under || down then Open else up ≡ Open
down_open up true down e = refl
down_open up false down e = ap (λ b. if b then Open else up) e

pub open_lane : (array : ℕ) (m : Move) (under : Bool) → leads_on array m ≡ true → lane_of array m under ≡ Open
open_lane array (Store t) under e = down_open Wide under (array == t) e
open_lane array (Then t) under e = down_open Shut under (array == t) e
open_lane array (Else t) under e = down_open Shut under (array == t) e
open_lane array (Sides t) true e = refl
open_lane array (Sides t) false e = refl

module _ (nodes : List Node) (bits : List TermBits) (terms : List ℕ) (n : Network) (net : IsNetworkOf nodes bits terms n) (f : ℕ → Bool) (entries : List Entry) (gates : List Gate) (starts : List Start) (vals : AreValues nodes bits f terms n entries gates starts)
    (rows : List Row) (refused : List Refusal) (spread : IsSpread n.graph gates [] starts rows refused) (under : List Bool) (lanes : List Lane) (lanes_are : AreLanes terms n under lanes) (told : AreTold n.graph gates lanes starts rows refused)
    (lemmas : List Lemma) (are : AreClashLemmas n entries gates starts rows refused lemmas) where
  -- a row that was refused is told
  refusal_told : (a t k : ℕ) → slice_get terms a ≡ Some t → HasRefusal starts refused a k → IsUntold nodes (assigned_value nodes bits f) lemmas t k → ⊥
  refusal_told a t k at h none =
      let lt : h.0 < length lemmas = (let w = within refused h.0 h.1 h.2 in let q = are.count in omega (arith, w, q)) in
      let l : Lemma = slice_index_or lemmas h.0 (Witness 0) in
      let p : slice_get lemmas h.0 ≡ Some l = some_at lemmas h.0 (Witness 0) lt in
      let x = clash_at nodes bits terms n net f entries gates starts vals no_entry rows spread.derived spread.started h.1 l (spread.refused_are h.0 h.1 h.2) (are.each h.0 h.1 l h.2 p) in
      let same : x.0 ≡ t = same_at terms a x.0 t (ap (slice_get terms) (sym h.3) ∙ x.1) at in
      none l (place_of lemmas h.0 l p) (subst (λ y. IsClashAt nodes (assigned_value nodes bits f) l y k) same (subst (λ y. IsClashAt nodes (assigned_value nodes bits f) l x.0 y) h.4 x.2))

  row_of : (a t k x : ℕ) → slice_get terms a ≡ Some t → IsUntold nodes (assigned_value nodes bits f) lemmas t k → IsMet starts rows refused a k x → HasRow starts rows a k x
  row_of a t k x at none = ⊎_elim (λ h. h) (λ h. absurd (refusal_told a t k at h none))

  module _ (few : length lemmas < most_refused) where
    room : length refused < most_refused
    room = let q = are.count in omega (arith, few, q)

    -- the row of an access at an array
    record Stands (l : Landing) (b : ℕ) : Type 0 where
      place : ℕ
      at : slice_get terms place ≡ Some b
      row : HasRow starts rows place (number_of (assigned_value nodes bits f l.index)) (number_of (assigned_value nodes bits f l.value))
      index : IsIndexOf nodes (assigned_value nodes bits f) l.index b

    start_row : (s : ℕ) (l : Landing) (a k x : ℕ) → slice_get (landings_in entries) s ≡ Some l → l.array ≡ a → number_of (assigned_value nodes bits f l.index) ≡ k → number_of (assigned_value nodes bits f l.value) ≡ x
        → IsUntold nodes (assigned_value nodes bits f) lemmas a k → (p : ℕ) × (slice_get terms p ≡ Some a) × HasRow starts rows p k x
    start_row s l a k x q array index value none =
        let o = (vals.network.landed s l q).2 in
        let lt : s < length starts = (let w = within (landings_in entries) s l q in let c = vals.network.count in omega (arith, w, c)) in
        let at : slice_get terms (start_at starts s).array ≡ Some a = o.array ∙ ap Some array in
        let met = told.starts_met room s lt in
        let met' : IsMet starts rows refused (start_at starts s).array k x = subst (λ y. IsMet starts rows refused (start_at starts s).array k y) (o.value ∙ value) (subst (λ y. IsMet starts rows refused (start_at starts s).array y (start_at starts s).value) (o.index ∙ index) met) in
        ((start_at starts s).array, at, row_of (start_at starts s).array a k x at none met')

    begun : (l : Landing) → Begins nodes bits (Contains terms) (assigned_value nodes bits f) l → IsUntold nodes (assigned_value nodes bits f) lemmas l.array (number_of (assigned_value nodes bits f l.index)) → Stands l l.array
    begun l b none = ⊎_elim
        (λ (h : IsBegun nodes bits (Contains terms) l).
        let s = vals.network.started h.0 l h.1 h.2 in
        let r = start_row s.0 l l.array (number_of (assigned_value nodes bits f l.index)) (number_of (assigned_value nodes bits f l.value)) s.1 refl refl refl none in
        record { place = r.0; at = r.1; row = r.2; index = (vals.network.landed s.0 l s.1).2.sort })
        (λ (h : IsFilledAt nodes bits (Contains terms) (assigned_value nodes bits f) l).
        let s = vals.network.filled l.array l.value h.index h.element (number_of (assigned_value nodes bits f l.index)) h.own h.shape h.array h.asked in
        let r = start_row s.0 s.1 l.array (number_of (assigned_value nodes bits f l.index)) (number_of (assigned_value nodes bits f l.value)) s.2 s.3 s.5 (ap (λ t. number_of (assigned_value nodes bits f t)) s.4) none in
        record {
          place = r.0;
          at = r.1;
          row = r.2;
          index = record { width = h.index; array = ap index_sort h.array; word = h.word; index = word_value nodes bits f l.index h.index h.word h.row };
        })
        b

    index_along : (i a b : ℕ) → sort_of nodes a ≡ sort_of nodes b → IsIndexOf nodes (assigned_value nodes bits f) i a → IsIndexOf nodes (assigned_value nodes bits f) i b
    index_along i a b e h = record { width = h.width; array = ap index_sort (sym e) ∙ h.array; word = h.word; index = h.index }

    step : (l : Landing) (a b : ℕ) (m : Move) → Stands l a → IsStep nodes bits (Contains terms) (assigned_value nodes bits f) lemmas l.index a m b → Stands l b
    step l a b m s h =
        let e = vals.network.moved s.place l.index a m h.turn s.at s.index h.own h.is h.passes in
        let arc = (vals.network.edges e.0 e.1 e.2).2 in
        let r = s.row in
        let array : slice_index_or terms e.1.from 0 ≡ a = read terms e.1.from a 0 (ap (slice_get terms) e.3 ∙ s.at) in
        let lane : slice_index_or lanes e.0 Open ≡ Open =
        read lanes e.0 _ Open (lanes_are e.0 e.1 m e.2 e.6) ∙ open_lane (slice_index_or terms e.1.from 0) m (slice_index_or under e.1.to false) (ap (λ x. leads_on x m) array ∙ h.on) in
        let taken : takes lanes e.0 (start_at starts r.1.start).wide ≡ true = ap (λ x. lane_takes x (start_at starts r.1.start).wide) lane in
        let pass : passes (gate_at gates e.1.gate) (index_in starts r.1) ≡ true = ap (passes (gate_at gates e.1.gate)) r.4 ∙ e.5 in
        let met = told.rows_met room r.0 r.1 r.2 e.0 e.1 e.2 (e.3 ∙ sym r.3) taken pass in
        let met' : IsMet starts rows refused e.1.to (number_of (assigned_value nodes bits f l.index)) (number_of (assigned_value nodes bits f l.value)) =
        subst (λ y. IsMet starts rows refused e.1.to (number_of (assigned_value nodes bits f l.index)) y) r.5 (subst (λ y. IsMet starts rows refused e.1.to y (value_in starts r.1)) r.4 met) in
        let at : slice_get terms e.1.to ≡ Some b = e.4 ∙ ap Some h.to in
        let from : arc.from ≡ a = same_at terms e.1.from arc.from a arc.is_from (ap (slice_get terms) e.3 ∙ s.at) in
        let to : arc.to ≡ b = same_at terms e.1.to arc.to b arc.is_to at in
        record {
          place = e.1.to;
          at = at;
          row = row_of e.1.to b _ _ at h.untold met';
          index = index_along l.index a b (ap (sort_of nodes) (sym from) ∙ arc.same ∙ ap (sort_of nodes) to) s.index;
        }

    along : (l : Landing) (ms : List Move) (a b : ℕ) → Stands l a → IsWay nodes bits (Contains terms) (assigned_value nodes bits f) lemmas l.index a ms b → Stands l b
    along l [] a b s h = subst (Stands l) h s
    along l (m ∷ ms) a b s h = along l ms h.0 b (step l a h.0 m s h.1) h.2

    comes : (l : Landing) (b : ℕ) → ComesTo nodes bits (Contains terms) (assigned_value nodes bits f) lemmas l b → Stands l b
    comes l b h = along l h.moves l.array b (begun l h.begins h.untold) h.way

    agree : (l k : Landing) (b : ℕ) → Stands l b → Stands k b → number_of (assigned_value nodes bits f l.index) ≡ number_of (assigned_value nodes bits f k.index) → number_of (assigned_value nodes bits f l.value) ≡ number_of (assigned_value nodes bits f k.value)
    agree l k b s t e =
        let places : s.place ≡ t.place = net.maps.numbers s.place t.place b s.at t.at in
        let p = s.row in
        let q = t.row in
        let same : p.0 ≡ q.0 = spread.single p.0 q.0 p.1 q.1 p.2 q.2 (p.3 ∙ places ∙ sym q.3) (p.4 ∙ e ∙ sym q.4) in
        let row : p.1 ≡ q.1 = same_at rows q.0 p.1 q.1 (ap (slice_get rows) (sym same) ∙ p.2) q.2 in
        sym p.5 ∙ ap (value_in starts) row ∙ q.5

  pub all_told : AreAllTold nodes bits f (Contains terms) lemmas
  all_told few l k b x y e = agree few l k b (comes few l b x) (comes few k b y) e
