-- The rows of a table are accesses of terms with bits, and closed.
use Rattle.std.proofs.Common.{◌≡◌, ℕ, ◌<◌, Bool, List, [], ◌∷◌, length, Some, None, refl, sym, ap, ◌∙◌, subst, arith}
use Rattle.std.specs.Prelude.{slice_get, slice_index_or, Contains}
use Rattle.std.proofs.lemmas.Option.{slice_get_within}
use Rattle.smt_terms.specs.declared.node.Node.{Node}
use Rattle.smt_terms.specs.Bits.{TermBits, image_in}
use Rattle.theory_terms.specs.declared.atom.Landing.{Landing}
use Rattle.access_spread.specs.declared.graph.Gate.{Gate}
use Rattle.access_spread.specs.declared.spreading.Refusal.{Refusal}
use Rattle.access_spread.specs.declared.spreading.Row.{Row}
use Rattle.access_spread.specs.declared.spreading.Start.{Start}
use Rattle.access_spread.specs.Spreads.{index_in, AreDerived, AreStartsOf, IsTable, IsSpread}
use Rattle.access_tables.specs.Held.{IsAccess, assigned_value}
use Rattle.access_walk.specs.declared.network.Network.{Network}
use Rattle.access_walk.specs.declared.values.Entry.{Entry}
use Rattle.access_walk.specs.Networks.{landing_at, no_landing, landing_of_row, landings_of}
use Rattle.access_walk.specs.Rows.{AreClosedRows}
use Rattle.access_walk.specs.Valuing.{AreValues, landings_in, origins_in}
use Rattle.access_walk.proofs.Closing.{row_mapped, stands, closed}
use Rattle.access_walk.proofs.Lists.{place_of, at_place, read, some_at, within, mapped}
use Rattle.access_walk.proofs.Clashed.{entries_long, refused_false, clash_at}
use Rattle.access_walk.proofs.Permuted.{no_entry}
use Rattle.access_walk.specs.Spread.{AreClashLemmas, IsClashAt, AreFewClashes}
use Rattle.access_walk.specs.Walked.{IsFalseLemma}
use Rattle.theory_terms.specs.declared.lemma.Lemma.{Lemma}
use Rattle.theory_terms.specs.declared.lemma.Lemma.TheVariants.{Arrays}
use Rattle.theory_terms.specs.Lemmas.{arrival_of}
use Rattle.smt_terms.specs.Values.{Value, number_of}
use Rattle.access_walk.specs.Valuing.{IsNetworkOf}

-- what stands past the end
abbrev pub no_refusal : Refusal
no_refusal = record { row = record { array = 0; start = 0; from = None }; standing = 0 }

module _ (nodes : List Node) (bits : List TermBits) (terms : List ℕ) (n : Network) (net : IsNetworkOf nodes bits terms n) (f : ℕ → Bool) (entries : List Entry) (gates : List Gate) (starts : List Start) (vals : AreValues nodes bits f terms n entries gates starts)
    (rows : List Row) (derived : AreDerived n.graph gates starts rows) (started : AreStartsOf starts rows) where
  pub row_started : (p : ℕ) (r : Row) → slice_get rows p ≡ Some r → r.start < length entries
  row_started p r q = let lt = started p r q in let long = entries_long nodes bits terms n net f entries gates starts vals in omega (arith, lt, long)

  pub row_within : (p : ℕ) (r : Row) → slice_get rows p ≡ Some r → r.array < length terms
  row_within p r q =
      let s = stands nodes (image_in bits) (Contains terms) (assigned_value nodes bits f) terms n.moves.items (origins_in entries) (landings_in entries) n.graph gates starts vals.network rows derived started p r q in
      slice_get_within terms r.array _ s.array

  row_access : (d : Entry) (p : ℕ) (r : Row) → slice_get rows p ≡ Some r → IsAccess nodes bits terms (landing_of_row terms (landings_in entries) r)
  row_access d p r q =
      let s = stands nodes (image_in bits) (Contains terms) (assigned_value nodes bits f) terms n.moves.items (origins_in entries) (landings_in entries) n.graph gates starts vals.network rows derived started p r q in
      let e : Entry = slice_index_or entries r.start d in
      let at : slice_get entries r.start ≡ Some e = some_at entries r.start d (row_started p r q) in
      let land : landing_at (landings_in entries) r.start ≡ e.landing = read (landings_in entries) r.start e.landing no_landing (mapped (λ (x : Entry). x.landing) entries r.start e at) in
      let a : IsAccess nodes bits terms (landing_at (landings_in entries) r.start) = subst (IsAccess nodes bits terms) (sym land) (vals.accesses e (place_of entries r.start e at)) in
      record {
        index = a.index;
        element = a.element;
        here = place_of terms r.array _ s.array;
        array = s.same ∙ a.array;
        at = a.at;
        value = a.value;
        index_bits = a.index_bits;
        value_bits = a.value_bits;
      }

  pub closed_rows : Entry → IsTable n.graph gates starts rows → AreClosedRows nodes bits f terms (landings_of terms (landings_in entries) rows)
  closed_rows d table = record {
    accesses = λ l c.
        let q = row_mapped (landing_of_row terms (landings_in entries)) rows l c in
        subst (IsAccess nodes bits terms) (sym q.3) (row_access d q.0 q.1 q.2);
    closed = λ congruent apart. closed nodes (image_in bits) (Contains terms) (assigned_value nodes bits f) terms n.moves.items (origins_in entries) (landings_in entries) n.graph gates starts vals.network rows derived started table congruent apart;
  }

-- a lemma is at one array and one index number
one_clash : (nodes : List Node) (val : ℕ → Value) (l : Lemma) (a k b m : ℕ) → IsClashAt nodes val l a k → IsClashAt nodes val l b m → (a ≡ b) × (k ≡ m)
one_clash nodes val l a k b m u v =
    let lemmas : Arrays u.left u.right ≡ Arrays v.left v.right = sym u.is ∙ v.is in
    let lefts : u.left ≡ v.left = cc in
    let arrivals : Some u.arrival ≡ Some v.arrival = sym u.comes ∙ ap (arrival_of nodes) lefts ∙ v.comes in
    let same : u.arrival ≡ v.arrival = cc in
    (sym u.array ∙ ap (λ x. x.landing.array) same ∙ v.array, sym u.index ∙ ap (λ x. number_of (val x.landing.index)) same ∙ v.index)

module _ (nodes : List Node) (bits : List TermBits) (terms : List ℕ) (n : Network) (net : IsNetworkOf nodes bits terms n) (f : ℕ → Bool) (entries : List Entry) (gates : List Gate) (starts : List Start) (vals : AreValues nodes bits f terms n entries gates starts)
    (rows : List Row) (refused : List Refusal) (spread : IsSpread n.graph gates [] starts rows refused) where
  -- where none is refused
  pub table_closed : (landings : List Landing) → length refused ≡ 0 → landings ≡ landings_of terms (landings_in entries) rows → AreClosedRows nodes bits f terms landings
  table_closed landings none same =
      subst (AreClosedRows nodes bits f terms) (sym same) (closed_rows nodes bits terms n net f entries gates starts vals rows spread.derived spread.started no_entry (spread.table (refl, empty refused none))) where
        empty : (xs : List Refusal) → length xs ≡ 0 → xs ≡ []
        empty [] e = refl
        empty (x ∷ xs) e = let z : ⊥ = omega (arith, e) in absurd z

  -- where some is
  pub lemmas_false : (lemmas : List Lemma) → AreClashLemmas n entries gates starts rows refused lemmas → (l : Lemma) → Contains lemmas l → IsFalseLemma nodes bits f l
  lemmas_false lemmas are l c =
      let at = at_place lemmas l c in
      let lt : at.0 < length refused = let w = within lemmas at.0 l at.1 in let q = are.count in omega (arith, w, q) in
      let r = slice_index_or refused at.0 no_refusal in
      let q : slice_get refused at.0 ≡ Some r = some_at refused at.0 no_refusal lt in
      refused_false nodes bits terms n net f entries gates starts vals no_entry rows spread.derived spread.started r l (spread.refused_are at.0 r q) (are.each at.0 r l q at.1)

  pub lemmas_some : (lemmas : List Lemma) → (length refused ≡ 0 → ⊥) → AreClashLemmas n entries gates starts rows refused lemmas → length lemmas ≡ 0 → ⊥
  lemmas_some lemmas some are none = some (sym are.count ∙ none)

  -- each lemma is at its refused row
  refusal_at : (lemmas : List Lemma) → AreClashLemmas n entries gates starts rows refused lemmas → (i : ℕ) (l : Lemma) → slice_get lemmas i ≡ Some l
      → (c : Refusal) × (slice_get refused i ≡ Some c) × (t : ℕ) × (slice_get terms c.row.array ≡ Some t) × IsClashAt nodes (assigned_value nodes bits f) l t (index_in starts c.row)
  refusal_at lemmas are i l p =
      let lt : i < length refused = let w = within lemmas i l p in let q = are.count in omega (arith, w, q) in
      let c = slice_index_or refused i no_refusal in
      let q : slice_get refused i ≡ Some c = some_at refused i no_refusal lt in
      let h = clash_at nodes bits terms n net f entries gates starts vals no_entry rows spread.derived spread.started c l (spread.refused_are i c q) (are.each i c l q p) in
      (c, q, h.0, h.1, h.2)

  pub lemmas_few : (lemmas : List Lemma) → AreClashLemmas n entries gates starts rows refused lemmas → AreFewClashes nodes (assigned_value nodes bits f) lemmas
  lemmas_few lemmas are = record {
    most = omega (arith, are.count, spread.few.most);
    each = λ l c. let at = at_place lemmas l c in let h = refusal_at lemmas are at.0 l at.1 in (h.2, index_in starts h.0.row, h.4);
    single = λ i j l m a k p q u v.
        let x = refusal_at lemmas are i l p in
        let y = refusal_at lemmas are j m q in
        let ux = one_clash nodes (assigned_value nodes bits f) l a k x.2 (index_in starts x.0.row) u x.4 in
        let vy = one_clash nodes (assigned_value nodes bits f) m a k y.2 (index_in starts y.0.row) v y.4 in
        let arrays = vals.network.numbers x.0.row.array y.0.row.array a (x.3 ∙ ap Some (sym ux.0)) (y.3 ∙ ap Some (sym vy.0)) in
        spread.few.single i j x.0 y.0 x.1 y.1 arrays (sym ux.1 ∙ vy.1);
  }
