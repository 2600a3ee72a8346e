-- The terms of a lemma of two rows have bits, and the lemma is false.
use Rattle.std.proofs.Common.{◌≡◌, ℕ, ◌+◌, ◌<◌, Bool, List, [], ◌∷◌, ◌++◌, length, Some, None, refl, sym, ap, ◌∙◌, subst, arith, length-append}
use Rattle.std.specs.Prelude.{if◌then◌else◌, slice_get, slice_index_or, Contains}
use Rattle.std.specs.List.{AllByRecursion}
use Rattle.std.proofs.lemmas.Bool.{eq-eqb}
use Rattle.smt_terms.specs.declared.sort.Sort.TheVariants as sort
use Rattle.smt_terms.specs.declared.node.Node.{Node}
use Rattle.smt_terms.specs.Bits.{TermBits, image_in}
use Rattle.smt_terms.specs.Terms.{sort_of}
use Rattle.smt_terms.specs.Ranks.{index_sort}
use Rattle.smt_terms.specs.Values.{number_of}
use Rattle.theory_terms.specs.declared.lemma.Access.{Access}
use Rattle.theory_terms.specs.declared.lemma.Lemma.{Lemma}
use Rattle.theory_terms.specs.declared.lemma.Lemma.TheVariants.{Arrays}
use Rattle.theory_terms.specs.declared.atom.Atom.{Atom}
use Rattle.theory_terms.specs.declared.atom.Atom.TheVariants.{Same, Differ}
use Rattle.theory_terms.specs.declared.atom.Landing.{Landing}
use Rattle.theory_terms.specs.declared.atom.Turn.{Turn}
use Rattle.theory_terms.specs.Lemmas.{landing_of, turn_of, Trip, longer, then_trip, trip_of, arrive, from_landing, Arrival, arrival_of, arrays_atoms, atoms_of}
use Rattle.access_spread.specs.declared.graph.Gate.{Gate}
use Rattle.access_spread.specs.declared.spreading.Refusal.{Refusal}
use Rattle.access_spread.specs.declared.spreading.Row.{Row}
use Rattle.access_spread.specs.declared.spreading.Start.{Start}
use Rattle.access_spread.specs.Graphs.{IsTrail}
use Rattle.access_spread.specs.Spreads.{start_at, index_in, AreDerived, AreStartsOf, IsClash, IsRefused}
use Rattle.access_spread.proofs.Arriving.{refused_clash}
use Rattle.access_spread.proofs.Lists.{get_front}
use Rattle.access_tables.specs.Held.{HasRow, IsAccess, assigned_value}
use Rattle.access_walk.specs.declared.guard.Guard.{Guard}
use Rattle.access_walk.specs.declared.guard.Guard.TheVariants.{Differs, Holds, Fails}
use Rattle.access_walk.specs.declared.network.Network.{Network}
use Rattle.access_walk.specs.declared.values.Entry.{Entry}
use Rattle.access_walk.specs.Maps.{HasIndex, unless_of}
use Rattle.access_walk.specs.Networks.{IsAccessOf, landing_at, no_landing, no_move, moves_at}
use Rattle.access_walk.specs.Spread.{IsAccessAt, IsClashLemma, IsClashAt}
use Rattle.access_walk.specs.Valued.{IsGuarded}
use Rattle.access_walk.specs.Valuing.{IsNetworkOf, AreValues, landings_in, origins_in}
use Rattle.access_walk.specs.Walked.{IsEncodedAtom, IsFalseLemma}
use Rattle.access_walk.proofs.Clashing.{clash_false}
use Rattle.access_walk.proofs.Closing.{read_is}
use Rattle.access_walk.proofs.Lists.{place_of, read, some_at, one_of, mapped, map_long, same_at}

all_append : {A : Type 0} (P : A → Type 0) (xs ys : List A) → AllByRecursion P xs → AllByRecursion P ys → AllByRecursion P (xs ++ ys)
all_append P [] ys p q = q
all_append P (x ∷ xs) ys p q = (p.0, all_append P xs ys p.1 q)

module _ (nodes : List Node) (bits : List TermBits) (terms : List ℕ) (n : Network) (net : IsNetworkOf nodes bits terms n) where
  -- ---- the atoms of a trip

  -- a trip by the moves of these edges, over arrays of one sort, all of whose atoms name terms with bits
  pub record Goes (i a : ℕ) (js : List ℕ) (b : ℕ) : Type 0 where
    pub trip : Trip
    pub is : trip_of nodes i a (moves_at n.moves.items js) ≡ Some trip
    pub to : slice_get terms b ≡ Some trip.to
    pub same : sort_of nodes trip.to ≡ sort_of nodes a
    pub encoded : AllByRecursion (IsEncodedAtom nodes bits) trip.unless

  module _ (i w : ℕ) (row : HasRow nodes bits i) (word : sort_of nodes i ≡ sort.Word w) where
    pub atom_encoded : (a : ℕ) (u : Guard) → index_sort (sort_of nodes a) ≡ sort.Word w → IsGuarded nodes bits u → HasIndex nodes a u → IsEncodedAtom nodes bits (unless_of i u)
    atom_encoded a (Differs j) q g x = (row, g.2, word ∙ sym q ∙ x.array ∙ sym x.index)
    atom_encoded a (Holds c) q g x = g.1
    atom_encoded a (Fails c) q g x = g.1

    pub goes : (gates : List Gate) (k here : ℕ) (js : List ℕ) (b a : ℕ) → slice_get terms here ≡ Some a → index_sort (sort_of nodes a) ≡ sort.Word w → IsTrail n.graph.edges.items gates k here js b → Goes i a js b
    goes gates k here [] b a at q h = record { trip = record { to = a; unless = [] }; is = refl; to = ap (slice_get terms) (sym h) ∙ at; same = refl; encoded = tt }
    goes gates k here (j ∷ js) b a at q h =
        let edge = net.maps.arcs j h.0 h.1 in
        let arc = edge.5 in
        let u : Guard = edge.1 in
        let from : arc.from ≡ a = (let x : Some arc.from ≡ Some a = sym arc.is_from ∙ ap (slice_get terms) h.2 ∙ at in cc) in
        let move : slice_index_or n.moves.items j no_move ≡ edge.0 = read_is n.moves.items j edge.0 no_move edge.2 in
        let w' : Turn = record { to = arc.to; unless = unless_of i u } in
        let turn : turn_of nodes i a (slice_index_or n.moves.items j no_move) ≡ Some w' = rw (move, sym from) (arc.turns i) in
        let sort_to : sort_of nodes arc.to ≡ sort_of nodes a = sym arc.same ∙ ap (sort_of nodes) from in
        let rest = goes gates k h.0.to js b arc.to arc.is_to (ap index_sort sort_to ∙ q) h.4 in
        let guarded : IsGuarded nodes bits u = one_of (IsGuarded nodes bits) n.guards.items net.guards j u edge.3 in
        let index : HasIndex nodes a u = subst (λ z. HasIndex nodes z u) from arc.index in
        record {
          trip = record { to = rest.trip.to; unless = unless_of i u ∷ rest.trip.unless };
          is = ap (λ o. then_trip o (λ to. trip_of nodes i to (moves_at n.moves.items js))) turn ∙ ap (longer (unless_of i u)) rest.is;
          to = rest.to;
          same = rest.same ∙ sort_to;
          encoded = (atom_encoded a u q guarded index, rest.encoded);
        }

  -- ---- the atoms of a lemma

  -- the access comes to an array of these terms, and all that it names has bits
  pub record Lands (l : Landing) (b : ℕ) (a : Access) : Type 0 where
    pub arrival : Arrival
    pub is : arrival_of nodes a ≡ Some arrival
    pub to : slice_get terms b ≡ Some arrival.landing.array
    pub same : sort_of nodes arrival.landing.array ≡ sort_of nodes l.array
    pub index : arrival.landing.index ≡ l.index
    pub value : arrival.landing.value ≡ l.value
    pub encoded : AllByRecursion (IsEncodedAtom nodes bits) arrival.unless

  pub lands : (l : Landing) (a : Access) (b here k : ℕ) (gates : List Gate) (js : List ℕ) → IsAccess nodes bits terms l → landing_of nodes a.start ≡ Some l → a.path ≡ moves_at n.moves.items js
      → slice_get terms here ≡ Some l.array → IsTrail n.graph.edges.items gates k here js b → Lands l b a
  lands l a b here k gates js access starts path at trail =
      let t = goes l.index access.index access.index_bits access.at gates k here js b l.array at (ap index_sort access.array) trail in
      let trip_is : trip_of nodes l.index l.array a.path ≡ Some t.trip = ap (trip_of nodes l.index l.array) path ∙ t.is in
      record {
        arrival = record { landing = record l { array = t.trip.to }; unless = t.trip.unless };
        is = ap (λ o. from_landing nodes o a.path) starts ∙ ap (arrive l) trip_is;
        to = t.to;
        same = t.same;
        index = refl;
        value = refl;
        encoded = t.encoded;
      }

  pub lands_encoded : (l r : Landing) (b : ℕ) (x y : Access) (p : Lands l b x) (q : Lands r b y) → IsAccess nodes bits terms l → IsAccess nodes bits terms r → (atoms : List Atom) → atoms_of nodes (Arrays x y) ≡ Some atoms → AllByRecursion (IsEncodedAtom nodes bits) atoms
  lands_encoded l r b x y p q left right atoms are =
      let own : List Atom = p.arrival.unless ++ q.arrival.unless ++ Differ p.arrival.landing.index q.arrival.landing.index ∷ Same p.arrival.landing.value q.arrival.landing.value ∷ [] in
      let array : p.arrival.landing.array ≡ q.arrival.landing.array = same_at terms b p.arrival.landing.array q.arrival.landing.array p.to q.to in
      let is : arrays_atoms (Some p.arrival) (Some q.arrival) ≡ Some own = ap (λ t. if t then Some own else None) (eq-eqb p.arrival.landing.array q.arrival.landing.array array) in
      let all : atoms_of nodes (Arrays x y) ≡ Some own = rw (p.is, q.is) is in
      let same : own ≡ atoms = (let z : Some own ≡ Some atoms = sym all ∙ are in cc) in
      let sorts : sort.Array left.index left.element ≡ sort.Array right.index right.element = sym left.array ∙ sym p.same ∙ ap (sort_of nodes) array ∙ q.same ∙ right.array in
      let widths : left.index ≡ right.index = cc in
      let elements : left.element ≡ right.element = cc in
      let indexes : IsEncodedAtom nodes bits (Differ p.arrival.landing.index q.arrival.landing.index) = subst (λ j. IsEncodedAtom nodes bits (Differ p.arrival.landing.index j)) (sym q.index) (subst (λ i. IsEncodedAtom nodes bits (Differ i r.index)) (sym p.index) (left.index_bits, right.index_bits, left.at ∙ ap sort.Word widths ∙ sym right.at)) in
      let values : IsEncodedAtom nodes bits (Same p.arrival.landing.value q.arrival.landing.value) = subst (λ j. IsEncodedAtom nodes bits (Same p.arrival.landing.value j)) (sym q.value) (subst (λ i. IsEncodedAtom nodes bits (Same i r.value)) (sym p.value) (left.value_bits, right.value_bits, left.value ∙ ap sort.Word elements ∙ sym right.value)) in
      let last : List Atom = Differ p.arrival.landing.index q.arrival.landing.index ∷ Same p.arrival.landing.value q.arrival.landing.value ∷ [] in
      let last_encoded : AllByRecursion (IsEncodedAtom nodes bits) last = (indexes, (values, tt)) in
      subst (AllByRecursion (IsEncodedAtom nodes bits)) same
      (all_append (IsEncodedAtom nodes bits) (p.arrival.unless ++ q.arrival.unless) last (all_append (IsEncodedAtom nodes bits) p.arrival.unless q.arrival.unless p.encoded q.encoded) last_encoded)

  -- ---- the lemma of a refused row

  module _ (f : ℕ → Bool) (entries : List Entry) (gates : List Gate) (starts : List Start) (vals : AreValues nodes bits f terms n entries gates starts) where
    -- the entry of a start, and its access
    record Begins (s : ℕ) : Type 0 where
      entry : Entry
      at : slice_get entries s ≡ Some entry
      landing : landing_at (landings_in entries) s ≡ entry.landing
      starts_at : landing_of nodes entry.origin ≡ Some entry.landing
      array : slice_get terms (start_at starts s).array ≡ Some entry.landing.array
      index : (start_at starts s).index ≡ number_of (assigned_value nodes bits f entry.landing.index)
      access : IsAccess nodes bits terms entry.landing

    pub entries_long : length entries ≡ length starts
    entries_long = sym (ap length vals.starts_are ∙ map_long (λ (e : Entry). e.start) entries)

    begins_by : (s : ℕ) (e : Entry) → slice_get entries s ≡ Some e → Begins s
    begins_by s e q =
        let l = mapped (λ (x : Entry). x.landing) entries s e q in
        let h = vals.network.landed s e.landing l in
        let same : h.0 ≡ e.origin = same_at (origins_in entries) s h.0 e.origin h.1 (mapped (λ (x : Entry). x.origin) entries s e q) in
        record {
          entry = e;
          at = q;
          landing = read (landings_in entries) s e.landing no_landing l;
          starts_at = ap (landing_of nodes) (sym same) ∙ h.2.starts;
          array = h.2.array;
          index = h.2.index;
          access = vals.accesses e (place_of entries s e q);
        }

    begins : (s : ℕ) (d : Entry) → s < length starts → Begins s
    begins s d lt = begins_by s (slice_index_or entries s d) (some_at entries s d (omega (arith, lt, entries_long)))

    module _ (d : Entry) (rows : List Row) (derived : AreDerived n.graph gates starts rows) (started : AreStartsOf starts rows) where
      row_access : (p : ℕ) (r : Row) (a : Access) → slice_get rows p ≡ Some r → (h : IsAccessAt n entries gates starts rows p a) → IsAccessOf nodes n.moves.items (landings_in entries) r h.way a
      row_access p r a q h =
          let b = begins r.start d (started p r q) in
          record { starts = ap (landing_of nodes) (h.begins r b.entry q b.at) ∙ b.starts_at ∙ ap Some (sym b.landing); path = h.path }

      row_lands : (p : ℕ) (r : Row) (a : Access) → (q : slice_get rows p ≡ Some r) → (h : IsAccessAt n entries gates starts rows p a) → Lands (begins r.start d (started p r q)).entry.landing r.array a
      row_lands p r a q h =
          let b = begins r.start d (started p r q) in
          lands b.entry.landing a r.array (start_at starts r.start).array (index_in starts r) gates h.way b.access (ap (landing_of nodes) (h.begins r b.entry q b.at) ∙ b.starts_at) h.path b.array (h.is_way r q)

      pub clash_lemma : (p last : ℕ) (left right : Access) → IsClash n.graph gates starts rows p → length rows ≡ last + 1 → IsAccessAt n entries gates starts rows p left → IsAccessAt n entries gates starts rows last right → IsFalseLemma nodes bits f (Arrays left right)
      clash_lemma p last left right clash long hl hr =
          let same : clash.last ≡ last = omega (arith, clash.more, long) in
          let at_right : slice_get rows last ≡ Some clash.right = ap (slice_get rows) (sym same) ∙ clash.at_right in
          let atoms = clash_false nodes (image_in bits) (Contains terms) (assigned_value nodes bits f) terms n.moves.items (origins_in entries) (landings_in entries) n.graph gates starts vals.network rows p clash last clash.left clash.right hl.way hr.way clash.at_left at_right long hl.is_way hr.is_way left right
          (row_access p clash.left left clash.at_left hl) (row_access last clash.right right at_right hr) in
          let bl = begins clash.left.start d (started p clash.left clash.at_left) in
          let br = begins clash.right.start d (started last clash.right at_right) in
          let ll : Lands bl.entry.landing clash.left.array left = row_lands p clash.left left clash.at_left hl in
          let lr : Lands br.entry.landing clash.right.array right = row_lands last clash.right right at_right hr in
          let lr' : Lands br.entry.landing clash.left.array right = subst (λ b. Lands br.entry.landing b right) (sym clash.array) lr in
          record {
            atoms = atoms.0;
            are = atoms.1;
            falses = atoms.2;
            encoded = lands_encoded bl.entry.landing br.entry.landing clash.left.array left right ll lr' bl.access br.access atoms.0 atoms.1;
          }

    pub refused_false : (d : Entry) (rows : List Row) → AreDerived n.graph gates starts rows → AreStartsOf starts rows → (c : Refusal) (l : Lemma) → IsRefused n.graph gates starts rows c → IsClashLemma n entries gates starts rows c l → IsFalseLemma nodes bits f l
    refused_false d rows derived started c l refused h =
        let clash = refused_clash n.graph gates starts rows c derived started refused in
        let long : length (rows ++ c.row ∷ []) ≡ length rows + 1 = omega (arith, length-append rows (c.row ∷ [])) in
        subst (IsFalseLemma nodes bits f) (sym h.is)
        (clash_lemma d (rows ++ c.row ∷ []) clash.derived clash.started c.standing (length rows) h.left h.right clash long h.at_left h.at_right)

    -- the lemma is at the array and the index of the refused row
    pub clash_at : (d : Entry) (rows : List Row) → AreDerived n.graph gates starts rows → AreStartsOf starts rows → (c : Refusal) (l : Lemma) → IsRefused n.graph gates starts rows c → IsClashLemma n entries gates starts rows c l
        → (t : ℕ) × (slice_get terms c.row.array ≡ Some t) × IsClashAt nodes (assigned_value nodes bits f) l t (index_in starts c.row)
    clash_at d rows derived started c l refused h =
        let clash = refused_clash n.graph gates starts rows c derived started refused in
        let all : List Row = rows ++ c.row ∷ [] in
        let at_left : slice_get all c.standing ≡ Some refused.left = get_front rows (c.row ∷ []) c.standing refused.left refused.at_left in
        let b = begins refused.left.start d (clash.started c.standing refused.left at_left) in
        let lands : Lands b.entry.landing refused.left.array h.left = row_lands d all clash.derived clash.started c.standing refused.left h.left at_left h.at_left in (
          lands.arrival.landing.array,
          ap (slice_get terms) (sym refused.array) ∙ lands.to,
          record {
            left = h.left;
            right = h.right;
            is = h.is;
            arrival = lands.arrival;
            comes = lands.is;
            array = refl;
            index = ap (λ i. number_of (assigned_value nodes bits f i)) lands.index ∙ sym b.index ∙ refused.index;
          },
        )
