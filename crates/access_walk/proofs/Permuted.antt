-- The accesses of a network in another order, and their values.
use Rattle.std.proofs.Common.{◌≡◌, ℕ, ◌+◌, ◌<◌, ◌≤◌, Bool, List, [], ◌∷◌, ◌++◌, length, map, Some, refl, sym, ap, ◌∙◌, subst, ⊎_elim, arith}
use Rattle.std.proofs.lemmas.Bool.{cases_lt}
use Rattle.std.specs.Prelude.{slice_get, slice_index_or, Contains}
use Rattle.std.specs.List.Sorted.{IsPermutation, IsNonDecreasingBy}
use Rattle.std.proofs.lemmas.List.Sorted.{IsPermutation-sym, Contains-permutation}
use Rattle.smt_terms.specs.declared.sort.Sort.TheVariants as sort
use Rattle.smt_terms.specs.declared.node.Node.{Node}
use Rattle.smt_terms.specs.Bits.{TermBits, image_in}
use Rattle.smt_terms.specs.Terms.{sort_of}
use Rattle.smt_terms.specs.Values.{number_of}
use Rattle.theory_terms.specs.declared.shape.Shape.TheVariants.{Filling}
use Rattle.theory_terms.specs.declared.atom.Landing.{Landing}
use Rattle.theory_terms.specs.declared.lemma.Start.TheVariants.{Term}
use Rattle.theory_terms.specs.Shapes.{shape_at}
use Rattle.theory_terms.specs.Lemmas.{landing_of}
use Rattle.access_spread.specs.declared.graph.Gate.{Gate}
use Rattle.access_spread.specs.declared.spreading.Start.{Start}
use Rattle.access_spread.specs.Graphs.{AreGated}
use Rattle.access_spread.specs.Spreads.{no_start, start_at}
use Rattle.access_tables.specs.Ready.{IsOwn}
use Rattle.access_tables.specs.Held.{HasRow, IsAccess, assigned_value}
use Rattle.access_walk.specs.declared.guard.Guard.TheVariants.{Differs}
use Rattle.access_walk.specs.declared.network.Network.{Network}
use Rattle.access_walk.specs.declared.values.Entry.{Entry}
use Rattle.access_walk.specs.Maps.{AreIndexes, AreLinked, IsMap, IsValued, gate_of}
use Rattle.access_walk.specs.Networks.{no_landing}
use Rattle.access_walk.specs.Valued.{IsGuarded, IsWordTerm, start_of}
use Rattle.access_walk.specs.Valuing.{is_store, IsNetworkOf, IsEntry, AreEntries, AreValues, starts_in, origins_in, landings_in}
use Rattle.access_walk.specs.Walked.{HasHeldWords, HaveWordValues}
use Rattle.access_walk.proofs.Lists.{place_of, at_place, read, some_at, within, one_of, same_at, not_nil, old_member, new_member, member_cases, mapped, unmapped, map_long}
use Rattle.access_walk.proofs.Valuing.{few, network}
use Rattle.access_walk.proofs.Words.{word_term, word_value}

-- what stands past the end
abbrev pub no_entry : Entry
no_entry = record { start = no_start; origin = Term 0; landing = no_landing }

module _ (nodes : List Node) (bits : List TermBits) (f : ℕ → Bool) (terms : List ℕ) (n : Network) where
  pub entries_permuted : (xs ys : List Entry) → IsPermutation xs ys → AreEntries nodes bits f terms n xs → AreEntries nodes bits f terms n ys
  entries_permuted xs ys p are = record {
    each = λ e c. are.each e (Contains-permutation ys xs e (IsPermutation-sym xs ys p) c);
    all = λ s l q. let h = are.all s l q in (h.0, Contains-permutation xs ys h.0 p h.1, h.2);
  }

  -- the entries of the accesses before a place
  pub record AreEntriesTo (place : ℕ) (entries : List Entry) : Type 0 where
    pub each : (e : Entry) → Contains entries e → IsEntry nodes bits f terms n e
    pub all : (s : ℕ) (l : Landing) → s < place → slice_get n.landings.items s ≡ Some l → (e : Entry) × Contains entries e × (e.landing ≡ l)

  pub entries_none : (entries : List Entry) → entries ≡ [] → AreEntriesTo 0 entries
  entries_none entries none = record { each = λ e c. absurd (not_nil e (subst (λ xs. Contains xs e) none c)); all = λ s l lt q. absurd (omega (arith, lt)) }

  pub entries_step : (place : ℕ) (old new : List Entry) (e : Entry) → AreEntriesTo place old → IsEntry nodes bits f terms n e → slice_get n.landings.items place ≡ Some e.landing → new ≡ old ++ e ∷ [] → AreEntriesTo (place + 1) new
  entries_step place old new e are one at same = record {
    each = λ x c. ⊎_elim (λ h. are.each x h) (λ is. subst (IsEntry nodes bits f terms n) is one) (member_cases old new e x same c);
    all = λ s l lt q. ⊎_elim
        (λ less. let h = are.all s l less q in (h.0, old_member old new e h.0 same h.1, h.2))
        (λ more.
        let here : s ≡ place = omega (arith, lt, more) in
        (e, new_member old new e same, same_at n.landings.items place e.landing l at (ap (slice_get n.landings.items) (sym here) ∙ q)))
        (cases_lt s place);
  }

  pub entries_all : (place : ℕ) (entries : List Entry) → AreEntriesTo place entries → length n.landings.items ≤ place → AreEntries nodes bits f terms n entries
  entries_all place entries are le = record { each = are.each; all = λ s l q. let lt = within n.landings.items s l q in are.all s l (omega (arith, lt, le)) q }

  pub access_at : IsNetworkOf nodes bits terms n → (s : ℕ) (l : Landing) → slice_get n.landings.items s ≡ Some l → IsAccess nodes bits terms l
  access_at net s l q = one_of (IsAccess nodes bits terms) n.landings.items net.accesses s l q

  pub index_word : (l : Landing) → IsAccess nodes bits terms l → IsWordTerm nodes bits l.index
  index_word l a = word_term nodes bits l.index a.index a.at a.index_bits

  pub value_word : (l : Landing) → IsAccess nodes bits terms l → IsWordTerm nodes bits l.value
  value_word l a = word_term nodes bits l.value a.element a.value a.value_bits

  module _ (net : IsNetworkOf nodes bits terms n) (entries : List Entry) (are : AreEntries nodes bits f terms n entries) where
    entry_at : (s : ℕ) (l : Landing) → slice_get (landings_in entries) s ≡ Some l → (e : Entry) × (slice_get entries s ≡ Some e) × (l ≡ e.landing)
    entry_at s l q = unmapped (λ (e : Entry). e.landing) entries s l q

    entry_is : (s : ℕ) (e : Entry) → slice_get entries s ≡ Some e → IsEntry nodes bits f terms n e
    entry_is s e q = are.each e (place_of entries s e q)

    there : (s : ℕ) (l : Landing) → slice_get n.landings.items s ≡ Some l → (r : ℕ) × (slice_get (landings_in entries) r ≡ Some l)
    there s l q =
        let h = are.all s l q in
        let a = at_place entries h.0 h.1 in
        (a.0, mapped (λ (e : Entry). e.landing) entries a.0 h.0 a.1 ∙ ap Some h.2)

    back : (s : ℕ) (l : Landing) → slice_get (landings_in entries) s ≡ Some l → (r : ℕ) × (slice_get n.landings.items r ≡ Some l)
    back s l q =
        let h = entry_at s l q in
        let e = entry_is s h.0 h.1 in
        (e.place, e.landing ∙ ap Some (sym h.2))

    permuted : IsMap nodes (image_in bits) (Contains terms) terms n.moves.items n.guards.items (origins_in entries) (landings_in entries) n.graph
    permuted = record {
      numbers = net.maps.numbers;
      landed = λ s l q.
          let h = entry_at s l q in
          let e = entry_is s h.0 h.1 in
          let k = net.maps.landed e.place h.0.landing e.landing in
          let same : k.0 ≡ h.0.origin = (let z : Some k.0 ≡ Some h.0.origin = sym k.1 ∙ e.origin in cc) in
          (h.0.origin, mapped (λ (e : Entry). e.origin) entries s h.0 h.1, ap (landing_of nodes) (sym same) ∙ k.2 ∙ ap Some (sym h.2), subst (λ (m : Landing). AreIndexes nodes m.array m.index) (sym h.2) k.3);
      started = λ t l own q. let h = net.maps.started t l own q in there h.0 l h.1;
      everywhere = λ t x w s l own q i at word.
          let b = back s l at in
          let h = net.maps.everywhere t x w b.0 l own q i b.1 word in
          let k = there h.0 h.1 h.2 in
          (k.0, h.1, k.1, h.3, h.4, h.5);
      words = λ t x w m own q s.
          let h = net.maps.words t x w m own q s in
          record {
            indexes = h.indexes;
            among = h.among;
            words = λ k lt le.
                let p = h.words k lt le in
                let r = there p.0 p.1 p.2 in
                (r.0, p.1, r.1, p.3, p.4, p.5);
          };
      arcs = net.maps.arcs;
      moved = net.maps.moved;
    }

    start_is : (s : ℕ) (e : Entry) → slice_get entries s ≡ Some e → start_at (starts_in entries) s ≡ e.start
    start_is s e q = read (starts_in entries) s e.start no_start (mapped (λ (e : Entry). e.start) entries s e q)

    access_is : (e : Entry) → Contains entries e → IsAccess nodes bits terms e.landing
    access_is e c = let h = are.each e c in one_of (IsAccess nodes bits terms) n.landings.items net.accesses h.place e.landing h.landing

    module _ (held : (t x w m : ℕ) → IsOwn (Contains terms) (image_in bits) t → shape_at nodes t ≡ Filling x → sort_of nodes t ≡ sort.Array w m → HasHeldWords nodes bits (Contains terms) w) (values : HaveWordValues nodes bits f)
        (linked : AreLinked (image_in bits) (assigned_value nodes bits f))
        (gates : List Gate) (gates_are : gates ≡ map (gate_of (assigned_value nodes bits f)) n.guards.items) where
      valued : IsValued nodes (image_in bits) (Contains terms) (assigned_value nodes bits f) terms n.guards.items (landings_in entries) gates (starts_in entries)
      valued = record {
        linked = linked;
        indexes = λ s w l at q.
            let b = back s l at in
            let a = one_of (IsAccess nodes bits terms) n.landings.items net.accesses b.0 l b.1 in
            word_value nodes bits f l.index w q a.index_bits;
        guarded = λ j i w at q.
            let g : IsGuarded nodes bits (Differs i) = one_of (IsGuarded nodes bits) n.guards.items net.guards j (Differs i) at in
            word_value nodes bits f i w q g.2;
        words = λ t x w m k u own q s spare is.
            let h = held t x w m own q s in
            let p = h.words k spare.within (few nodes (image_in bits) (Contains terms) (assigned_value nodes bits f) w h.indexes linked h.among k spare) in
            let same : p.0 ≡ u = (let z : Some p.0 ≡ Some u = sym p.1.0 ∙ is.0 in cc) in
            values w k u is (subst (HasRow nodes bits) same p.2);
        gates_are = gates_are;
        count = map_long (λ (e : Entry). e.landing) entries ∙ sym (map_long (λ (e : Entry). e.start) entries);
        starts_are = λ s l at.
            let h = entry_at s l at in
            let e = entry_is s h.0 h.1 in
            let st : start_at (starts_in entries) s ≡ start_of (assigned_value nodes bits f) h.0.landing e.array (is_store h.0.origin h.0.landing) = start_is s h.0 h.1 ∙ e.start in
            (ap (λ (z : Start). slice_get terms z.array) st ∙ e.at ∙ ap (λ (m : Landing). Some m.array) (sym h.2), ap (λ (z : Start). z.index) st ∙ ap (λ (m : Landing). number_of (assigned_value nodes bits f m.index)) (sym h.2), ap (λ (z : Start). z.value) st ∙ ap (λ (m : Landing). number_of (assigned_value nodes bits f m.value)) (sym h.2));
      }

      pub are_values : IsNonDecreasingBy (λ (e : Entry). e.start.index) entries → (starts : List Start) → starts ≡ starts_in entries → AreValues nodes bits f terms n entries gates starts
      are_values up starts same = subst (AreValues nodes bits f terms n entries gates) (sym same) (record {
        network = network nodes (image_in bits) (Contains terms) (assigned_value nodes bits f) terms n.moves.items n.guards.items (origins_in entries) (landings_in entries) n.graph gates (starts_in entries) permuted valued;
        accesses = access_is;
        starts_are = refl;
        rising = λ i j le lt. rising i j le lt;
        count = gates_long ∙ net.sound.guards;
        gated = gated;
        within = in_graph;
      }) where
        entries_long : length (starts_in entries) ≡ length entries
        entries_long = map_long (λ (e : Entry). e.start) entries

        rising : (i j : ℕ) → i ≤ j → j < length (starts_in entries) → (start_at (starts_in entries) i).index ≤ (start_at (starts_in entries) j).index
        rising i j le lt =
            let less : j < length entries = omega (arith, lt, entries_long) in
            let at : (k : ℕ) → k < length entries → start_at (starts_in entries) k ≡ (slice_index_or entries k no_entry).start = λ k q. start_is k (slice_index_or entries k no_entry) (some_at entries k no_entry q) in
            let h : (slice_index_or entries i no_entry).start.index ≤ (slice_index_or entries j no_entry).start.index = up i j no_entry le less in
            let a : (start_at (starts_in entries) i).index ≡ (slice_index_or entries i no_entry).start.index = ap (λ (z : Start). z.index) (at i (omega (arith, le, less))) in
            let b : (start_at (starts_in entries) j).index ≡ (slice_index_or entries j no_entry).start.index = ap (λ (z : Start). z.index) (at j less) in
            omega (arith, h, a, b)

        gates_long : length gates ≡ length n.guards.items
        gates_long = ap length gates_are ∙ map_long (gate_of (assigned_value nodes bits f)) n.guards.items

        gated : AreGated n.graph gates
        gated j e q =
            let arc = net.maps.arcs j e q in
            let lt = within n.graph.edges.items j e q in
            omega (arith, gates_long, net.sound.guards, arc.4, lt)

        in_graph : (s : ℕ) → s < length (starts_in entries) → (start_at (starts_in entries) s).array < length n.graph.fans.items
        in_graph s lt =
            let less : s < length entries = omega (arith, lt, entries_long) in
            let q = some_at entries s no_entry less in
            let e = entry_is s (slice_index_or entries s no_entry) q in
            let st = start_is s (slice_index_or entries s no_entry) q ∙ e.start in
            let at : (start_at (starts_in entries) s).array ≡ e.array = ap (λ (z : Start). z.array) st in
            let k = within terms e.array (slice_index_or entries s no_entry).landing.array e.at in
            omega (arith, k, at, net.sound.count)
