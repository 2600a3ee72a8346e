-- Rows of a network are a closed table.
use Rattle.std.proofs.Common.{◌≡◌, ℕ, zero, suc, ◌<◌, true, List, [], ◌∷◌, length, Option, Some, None, refl, sym, ap, ◌∙◌, subst, arith}
use Rattle.std.specs.Prelude.{map, slice_get, slice_index_or}
use Rattle.std.proofs.lemmas.Option.{slice_get_within, slice_get-get_or}
use Rattle.smt_terms.specs.declared.sort.Sort.TheVariants as sort
use Rattle.smt_terms.specs.declared.node.Node.{Node}
use Rattle.smt_terms.specs.Terms.{sort_of}
use Rattle.smt_terms.specs.Ranks.{index_sort}
use Rattle.smt_terms.specs.Values.{Value, number_of}
use Rattle.theory_terms.specs.declared.lemma.Move.{Move}
use Rattle.theory_terms.specs.declared.atom.Landing.{Landing}
use Rattle.theory_terms.specs.Lemmas.{turn_of}
use Rattle.access_tables.specs.Tables.{Has, IsClosedTable}
use Rattle.std.specs.Prelude.{Contains}
use Rattle.std.proofs.lemmas.Option.{get_or_from_slice_get}
use Rattle.theory_terms.specs.declared.lemma.Start as of
use Rattle.access_spread.specs.declared.graph.Gate.{Gate}
use Rattle.access_spread.specs.declared.graph.Graph.{Graph}
use Rattle.access_spread.specs.declared.spreading.Start.{Start}
use Rattle.access_spread.specs.declared.spreading.Link.{Link}
use Rattle.access_spread.specs.declared.spreading.Row.{Row}
use Rattle.access_spread.specs.Graphs.{passes, gate_at}
use Rattle.access_spread.specs.Spreads.{start_at, index_in, value_in, HasRow, AreStartsOf, CameBy, AreDerived, IsTable}
use Rattle.access_walk.specs.Networks.{IsIndexOf, IsStartOf, IsNetwork, AreApart, AreCongruent, landing_at, landing_of_row, landings_of}

pub read_is : {A : Type 0} (xs : List A) (i : ℕ) (x d : A) → slice_get xs i ≡ Some x → slice_index_or xs i d ≡ x
read_is xs i x d e = let lt = slice_get_within xs i x e in let h : slice_get xs i ≡ Some (slice_index_or xs i d) = slice_get-get_or xs i d lt in cc

mapped_at : (f : Row → Landing) (rows : List Row) (p : ℕ) (r : Row) → slice_get rows p ≡ Some r → slice_get (map f rows) p ≡ Some (f r)
mapped_at f [] p r e = let z : ⊥ = cc in absurd z
mapped_at f (x ∷ rows) zero r e = let same : x ≡ r = cc in ap (λ y. Some (f y)) same
mapped_at f (x ∷ rows) (suc p) r e = mapped_at f rows p r e

at_mapped : (f : Row → Landing) (rows : List Row) (p : ℕ) (l : Landing) → slice_get (map f rows) p ≡ Some l → (r : Row) × (slice_get rows p ≡ Some r) × (l ≡ f r)
at_mapped f [] p l e = let z : ⊥ = cc in absurd z
at_mapped f (x ∷ rows) zero l e = (x, refl, (let same : l ≡ f x = cc in same))
at_mapped f (x ∷ rows) (suc p) l e = at_mapped f rows p l e

mapped_row : (f : Row → Landing) (rows : List Row) (p : ℕ) (r : Row) → slice_get rows p ≡ Some r → Contains (map f rows) (f r)
mapped_row f rows p r e = let h = mapped_at f rows p r e in (p, slice_get_within (map f rows) p (f r) h, get_or_from_slice_get (map f rows) p (f r) (f r) h)

pub row_mapped : (f : Row → Landing) (rows : List Row) (l : Landing) → Contains (map f rows) l → (p : ℕ) × (r : Row) × (slice_get rows p ≡ Some r) × (l ≡ f r)
row_mapped f rows l c = let h = at_mapped f rows c.0 l (slice_get-get_or (map f rows) c.0 l c.1 ∙ ap Some c.2) in (c.0, h.0, h.1, h.2)

module _ (nodes : List Node) (image : ℕ → Option ℕ) (Here : ℕ → Type 0) (val : ℕ → Value) (arrays : List ℕ) (moves : List Move) (origins : List of.Start) (landings : List Landing) (g : Graph) (gates : List Gate) (starts : List Start)
    (net : IsNetwork nodes image Here val arrays moves origins landings g gates starts) (rows : List Row) (derived : AreDerived g gates starts rows) (started : AreStartsOf starts rows) where
  abbrev pub shown : Row → Landing
  shown r = landing_of_row arrays landings r

  -- the start of a row
  pub start_is : (p : ℕ) (r : Row) → slice_get rows p ≡ Some r → (o : of.Start) × (slice_get origins r.start ≡ Some o) × IsStartOf nodes val arrays (start_at starts r.start) o (landing_at landings r.start)
  start_is p r e =
      let lt : r.start < length landings = omega (arith, started p r e, net.count) in
      net.landed r.start (landing_at landings r.start) (slice_get-get_or landings r.start _ lt)

  -- the array of a row is an array, and its index one of it
  pub record Stands (r : Row) : Type 0 where
    pub array : slice_get arrays r.array ≡ Some (shown r).array
    pub index : IsIndexOf nodes val (shown r).index (shown r).array
    pub same : sort_of nodes (shown r).array ≡ sort_of nodes (landing_at landings r.start).array

  index_along : (i a b : ℕ) → sort_of nodes a ≡ sort_of nodes b → IsIndexOf nodes val i a → IsIndexOf nodes val i b
  index_along i a b e h = record { width = h.width; array = ap index_sort (sym e) ∙ h.array; word = h.word; index = h.index }

  stands_of : (p : ℕ) (r : Row) → slice_get rows p ≡ Some r → (o : Option Link) → CameBy g gates starts rows p r o → ((q : ℕ) (s : Row) → q < p → slice_get rows q ≡ Some s → Stands s) → Stands r
  stands_of p r e None from before =
      let s = (start_is p r e).2 in
      let at : slice_get arrays r.array ≡ Some (landing_at landings r.start).array = ap (slice_get arrays) from ∙ s.array in
      let is : (shown r).array ≡ (landing_at landings r.start).array = read_is arrays r.array _ 0 at in
      record { array = at ∙ ap Some (sym is); index = subst (IsIndexOf nodes val (shown r).index) (sym is) s.sort; same = ap (sort_of nodes) is }
  stands_of p r e (Some l) h before =
      let k = before l.row h.1 h.0 h.3 in
      let edge = net.edges l.edge h.2 h.5 in
      let from : edge.2.from ≡ (shown h.1).array = let x : Some edge.2.from ≡ Some (shown h.1).array = sym edge.2.is_from ∙ ap (slice_get arrays) h.6 ∙ k.array in cc in
      let at : slice_get arrays r.array ≡ Some edge.2.to = ap (slice_get arrays) (sym h.7) ∙ edge.2.is_to in
      let is : (shown r).array ≡ edge.2.to = read_is arrays r.array edge.2.to 0 at in
      let index : (shown h.1).index ≡ (shown r).index = ap (λ s. (landing_at landings s).index) h.4 in
      let old : IsIndexOf nodes val (shown r).index (shown h.1).array = subst (λ i. IsIndexOf nodes val i (shown h.1).array) index k.index in
      let new : IsIndexOf nodes val (shown r).index edge.2.to = index_along (shown r).index (shown h.1).array edge.2.to (ap (sort_of nodes) (sym from) ∙ edge.2.same) old in
      record {
        array = at ∙ ap Some (sym is);
        index = subst (IsIndexOf nodes val (shown r).index) (sym is) new;
        same = ap (sort_of nodes) is ∙ sym edge.2.same ∙ ap (sort_of nodes) from ∙ k.same ∙ ap (λ s. sort_of nodes (landing_at landings s).array) h.4;
      }

  stands_below : (n p : ℕ) (r : Row) → p < n → slice_get rows p ≡ Some r → Stands r
  stands_below zero p r lt e = absurd (omega arith)
  stands_below (suc n) p r lt e = stands_of p r e r.from (derived p r e) (λ q s less f. stands_below n q s (omega (arith, less)) f)

  pub stands : (p : ℕ) (r : Row) → slice_get rows p ≡ Some r → Stands r
  stands p r e = stands_below (suc p) p r (omega arith) e

  pub index_is : (p : ℕ) (r : Row) → slice_get rows p ≡ Some r → index_in starts r ≡ number_of (val (shown r).index)
  index_is p r e = (start_is p r e).2.index

  pub value_is : (p : ℕ) (r : Row) → slice_get rows p ≡ Some r → value_in starts r ≡ number_of (val (shown r).value)
  value_is p r e = (start_is p r e).2.value

  -- a row under numbers is a row of terms
  has_row : (b t k x : ℕ) → slice_get arrays b ≡ Some t → HasRow starts rows b k x → Has val (landings_of arrays landings rows) t k x
  has_row b t k x at h =
      let r = h.1 in
      let is : (shown r).array ≡ t = read_is arrays r.array t 0 (ap (slice_get arrays) h.3 ∙ at) in
      (shown r, mapped_row shown rows h.0 r h.2, record { array = is; index = sym (index_is h.0 r h.2) ∙ h.4; value = sym (value_is h.0 r h.2) ∙ h.5 })

  module _ (table : IsTable g gates starts rows) (congruent : AreCongruent nodes image Here val) (apart : AreApart nodes image Here val) where
    -- a start has a row
    begun : (s : ℕ) (l : Landing) → slice_get landings s ≡ Some l → Has val (landings_of arrays landings rows) l.array (number_of (val l.index)) (number_of (val l.value))
    begun s l e =
        let of' = (net.landed s l e).2 in
        let lt : s < length starts = let w = slice_get_within landings s l e in omega (arith, w, net.count) in
        let row = table.starts_have s lt in
        let k = has_row (start_at starts s).array l.array (start_at starts s).index (start_at starts s).value of'.array row in
        (k.0, k.1, record { array = k.2.array; index = k.2.index ∙ of'.index; value = k.2.value ∙ of'.value })

    pub closed : IsClosedTable nodes image Here val (landings_of arrays landings rows)
    closed = record {
      starts = λ t l h e. let s = net.started t l h e in begun s.0 l s.1;
      filled = λ t x n m k h e s a.
          let w = net.filled t x n m k h e s a in
          let b = begun w.0 w.1 w.2 in
          (b.0, b.1, record { array = b.2.array ∙ w.3; index = b.2.index ∙ w.5; value = b.2.value ∙ ap (λ y. number_of (val y)) w.4 });
      constant = λ l x i h e.
          let q = row_mapped shown rows l i in
          let r = q.1 in
          let st = stands q.0 r q.2 in
          let at : (shown r).array ≡ l.array = ap (λ (z : Landing). z.array) (sym q.3) in
          let width : index_sort (sort_of nodes l.array) ≡ sort.Word st.index.width = ap (λ z. index_sort (sort_of nodes z)) (sym at) ∙ st.index.array in
          let lt : r.start < length landings = omega (arith, started q.0 r q.2, net.count) in
          let own : slice_get landings r.start ≡ Some (landing_at landings r.start) = slice_get-get_or landings r.start _ lt in
          let w = net.everywhere l.array x st.index.width r.start (landing_at landings r.start) h e width own st.index.word in
          let b = begun w.0 w.1 w.2 in (
            b.0,
            b.1,
            record {
              array = b.2.array ∙ w.3;
              index = b.2.index ∙ ap (λ y. number_of (val y)) (w.5 ∙ ap (λ (z : Landing). z.index) (sym q.3));
              value = b.2.value ∙ ap (λ y. number_of (val y)) w.4;
            },
          );
      moves = λ l m w i h turn no.
          let q = row_mapped shown rows l i in
          let r = q.1 in
          let st = stands q.0 r q.2 in
          let turn' = subst (λ z. turn_of nodes z.index z.array m ≡ Some w) q.3 turn in
          let e = net.moved r.array (shown r).index (shown r).array m w st.array st.index h turn' no in
          let pass : passes (gate_at gates e.1.gate) (index_in starts r) ≡ true = ap (passes (gate_at gates e.1.gate)) (index_is q.0 r q.2) ∙ e.5 in
          let row = table.closed q.0 r q.2 e.0 e.1 e.2 e.3 pass in
          let k = has_row e.1.to w.to (index_in starts r) (value_in starts r) e.4 row in
          (k.0, k.1, record { array = k.2.array; index = k.2.index ∙ index_is q.0 r q.2 ∙ ap (λ z. number_of (val z.index)) (sym q.3); value = k.2.value ∙ value_is q.0 r q.2 ∙ ap (λ z. number_of (val z.value)) (sym q.3) });
      consistent = λ a k x y h j.
          let p = row_mapped shown rows h.0 h.1 in
          let q = row_mapped shown rows j.0 j.1 in
          let sp = stands p.0 p.1 p.2 in
          let sq = stands q.0 q.1 q.2 in
          let ap_is : slice_get arrays p.1.array ≡ Some a = sp.array ∙ ap Some (ap (λ z. z.array) (sym p.3) ∙ h.2.array) in
          let aq_is : slice_get arrays q.1.array ≡ Some a = sq.array ∙ ap Some (ap (λ z. z.array) (sym q.3) ∙ j.2.array) in
          let same = net.numbers p.1.array q.1.array a ap_is aq_is in
          let ip : index_in starts p.1 ≡ k = index_is p.0 p.1 p.2 ∙ ap (λ z. number_of (val z.index)) (sym p.3) ∙ h.2.index in
          let iq : index_in starts q.1 ≡ k = index_is q.0 q.1 q.2 ∙ ap (λ z. number_of (val z.index)) (sym q.3) ∙ j.2.index in
          let place = table.single p.0 q.0 p.1 q.1 p.2 q.2 same (ip ∙ sym iq) in
          let row : p.1 ≡ q.1 = let z : Some p.1 ≡ Some q.1 = sym p.2 ∙ ap (slice_get rows) place ∙ q.2 in cc in
          sym h.2.value ∙ ap (λ z. number_of (val z.value)) p.3 ∙ ap (λ z. number_of (val (shown z).value)) row ∙ ap (λ z. number_of (val z.value)) (sym q.3) ∙ j.2.value;
      congruent = congruent;
      differ = apart;
    }
