-- Two rows of a network that clash are a false lemma.
use Rattle.std.proofs.Common.{◌≡◌, ℕ, ◌+◌, Bool, true, false, ◌||◌, List, [], ◌∷◌, length, Option, Some, refl, sym, ap, ◌∙◌, subst, arith}
use Rattle.std.specs.Prelude.{◌==◌, slice_get, slice_index_or}
use Rattle.std.proofs.lemmas.Bool.{eq-eqb, and_from}
use Rattle.smt_terms.specs.declared.sort.Sort.TheVariants as sort
use Rattle.smt_terms.specs.declared.node.Node.{Node}
use Rattle.smt_terms.specs.Terms.{sort_of}
use Rattle.smt_terms.specs.Ranks.{index_sort}
use Rattle.access_tables.proofs.Closed.{other_numbers}
use Rattle.smt_terms.specs.Values.{Value, HasSort, number_of, same_value}
use Rattle.theory_terms.specs.declared.lemma.Move.{Move}
use Rattle.theory_terms.specs.declared.lemma.Access.{Access}
use Rattle.theory_terms.specs.declared.lemma.Lemma.TheVariants.{Arrays}
use Rattle.theory_terms.specs.declared.atom.Atom.{Atom}
use Rattle.theory_terms.specs.declared.atom.Landing.{Landing}
use Rattle.theory_terms.specs.Lemmas.{atom_true, some_true, landing_of, turn_of, Trip, longer, then_trip, trip_of, arrive, from_landing, Arrival, arrival_of, atoms_of}
use Rattle.theory_terms.specs.declared.lemma.Start as of
use Rattle.access_walk.proofs.Conflicts.{clash_is_false}
use Rattle.access_spread.specs.declared.graph.Gate.{Gate}
use Rattle.access_spread.specs.declared.graph.Graph.{Graph}
use Rattle.access_spread.specs.declared.spreading.Start.{Start}
use Rattle.access_spread.specs.declared.spreading.Row.{Row}
use Rattle.access_spread.specs.Graphs.{passes, gate_at, IsTrail}
use Rattle.access_spread.specs.Spreads.{start_at, index_in, value_in, IsWayOf, IsClash}
use Rattle.access_walk.specs.Networks.{IsNetwork, landing_at, no_move, moves_at, IsAccessOf}
use Rattle.access_walk.proofs.Closing.{read_is, start_is, Stands, stands, index_is, value_is}

or_both : (a b : Bool) → a ≡ false → b ≡ false → (a || b) ≡ false
or_both a b p q = ap (λ x. x || b) p ∙ q

-- words of one width with one number are the same
pub same_words : (n : ℕ) (x y : Value) → HasSort (sort.Word n) x → HasSort (sort.Word n) y → number_of x ≡ number_of y → same_value x y ≡ true
same_words n x y h k e =
    let i : h.0 ≡ k.0 = ap number_of (sym h.1) ∙ e ∙ ap number_of k.1 in
    rw (h.1, k.1) (and_from (n == n) (h.0 == k.0) (eq-eqb n n refl) (eq-eqb h.0 k.0 i))

module _ (nodes : List Node) (image : ℕ → Option ℕ) (Here : ℕ → Type 0) (val : ℕ → Value) (arrays : List ℕ) (moves : List Move) (origins : List of.Start) (landings : List Landing) (g : Graph) (gates : List Gate) (starts : List Start)
    (net : IsNetwork nodes image Here val arrays moves origins landings g gates starts) where
  -- a trip by the moves of the edges of a trail, all of whose atoms are false
  pub record Comes (i a : ℕ) (js : List ℕ) (b : ℕ) : Type 0 where
    pub trip : Trip
    pub is : trip_of nodes i a (moves_at moves js) ≡ Some trip
    pub to : slice_get arrays b ≡ Some trip.to
    pub falses : some_true val trip.unless ≡ false

  comes : (i k : ℕ) → number_of (val i) ≡ k → (here : ℕ) (js : List ℕ) (b a : ℕ) → slice_get arrays here ≡ Some a → IsTrail g.edges.items gates k here js b → Comes i a js b
  comes i k n here [] b a at h = record { trip = record { to = a; unless = [] }; is = refl; to = ap (slice_get arrays) (sym h) ∙ at; falses = refl }
  comes i k n here (j ∷ js) b a at h =
      let edge = net.edges j h.0 h.1 in
      let from : edge.2.from ≡ a = let x : Some edge.2.from ≡ Some a = sym edge.2.is_from ∙ ap (slice_get arrays) h.2 ∙ at in cc in
      let w = edge.2.turns i in
      let move : slice_index_or moves j no_move ≡ edge.0 = read_is moves j edge.0 no_move edge.1 in
      let turn : turn_of nodes i a (slice_index_or moves j no_move) ≡ Some w.0 = rw (move, sym from) w.1 in
      let no : atom_true val w.0.unless ≡ false = w.3 (ap (passes (gate_at gates h.0.gate)) n ∙ h.3) in
      let rest = comes i k n h.0.to js b edge.2.to edge.2.is_to h.4 in
      let rest' : trip_of nodes i w.0.to (moves_at moves js) ≡ Some rest.trip = ap (λ t. trip_of nodes i t (moves_at moves js)) w.2 ∙ rest.is in
      record {
        trip = record { to = rest.trip.to; unless = w.0.unless ∷ rest.trip.unless };
        is = ap (λ o. then_trip o (λ to. trip_of nodes i to (moves_at moves js))) turn ∙ ap (longer w.0.unless) rest';
        to = rest.to;
        falses = or_both (atom_true val w.0.unless) (some_true val rest.trip.unless) no rest.falses;
      }

  module _ (rows : List Row) (p : ℕ) (clash : IsClash g gates starts rows p) where
    -- the access of a row comes to its array
    pub record Arrives (r : Row) (a : Access) : Type 0 where
      pub arrival : Arrival
      pub is : arrival_of nodes a ≡ Some arrival
      pub falses : some_true val arrival.unless ≡ false
      pub array : slice_get arrays r.array ≡ Some arrival.landing.array
      pub index : arrival.landing.index ≡ (landing_at landings r.start).index
      pub value : arrival.landing.value ≡ (landing_at landings r.start).value

    arrives : (q : ℕ) (r : Row) (js : List ℕ) (a : Access) → slice_get rows q ≡ Some r → IsWayOf g gates starts rows q js → IsAccessOf nodes moves landings r js a → Arrives r a
    arrives q r js a e way is =
        let h = start_is nodes image Here val arrays moves origins landings g gates starts net rows clash.derived clash.started q r e in
        let s = h.2 in
        let l : Landing = landing_at landings r.start in
        let c = comes l.index (index_in starts r) (sym s.index) (start_at starts r.start).array js r.array l.array s.array (way r e) in
        let land : landing_of nodes a.start ≡ Some l = is.starts in
        let path : trip_of nodes l.index l.array a.path ≡ Some c.trip = ap (trip_of nodes l.index l.array) is.path ∙ c.is in
        record {
          arrival = record { landing = record l { array = c.trip.to }; unless = c.trip.unless };
          is = ap (λ o. from_landing nodes o a.path) land ∙ ap (arrive l) path;
          falses = c.falses;
          array = c.to;
          index = refl;
          value = refl;
        }

    pub clash_false : (q : ℕ) (left right : Row) (ls rs : List ℕ) → slice_get rows p ≡ Some left → slice_get rows q ≡ Some right → length rows ≡ q + 1 → IsWayOf g gates starts rows p ls → IsWayOf g gates starts rows q rs
        → (a b : Access) → IsAccessOf nodes moves landings left ls a → IsAccessOf nodes moves landings right rs b → (atoms : List Atom) × (atoms_of nodes (Arrays a b) ≡ Some atoms) × (some_true val atoms ≡ false)
    clash_false q left right ls rs el er len wl wr a b fa fb =
        let last : clash.last ≡ q = omega (arith, clash.more, len) in
        let l : clash.left ≡ left = let x : Some clash.left ≡ Some left = sym clash.at_left ∙ el in cc in
        let r : clash.right ≡ right = let x : Some clash.right ≡ Some right = sym clash.at_right ∙ ap (slice_get rows) last ∙ er in cc in
        let A = arrives p left ls a el wl fa in
        let B = arrives q right rs b er wr fb in
        let array : left.array ≡ right.array = ap (λ z. z.array) (sym l) ∙ clash.array ∙ ap (λ z. z.array) r in
        let index : index_in starts left ≡ index_in starts right = ap (index_in starts) (sym l) ∙ clash.index ∙ ap (index_in starts) r in
        let value : value_in starts left ≡ value_in starts right → ⊥ = λ z. clash.value (ap (value_in starts) l ∙ z ∙ ap (value_in starts) (sym r)) in
        let same : A.arrival.landing.array ≡ B.arrival.landing.array = let x : Some A.arrival.landing.array ≡ Some B.arrival.landing.array = sym A.array ∙ ap (slice_get arrays) array ∙ B.array in cc in
        let sl = stands nodes image Here val arrays moves origins landings g gates starts net rows clash.derived clash.started p left el in
        let sr = stands nodes image Here val arrays moves origins landings g gates starts net rows clash.derived clash.started q right er in
        let il = index_is nodes image Here val arrays moves origins landings g gates starts net rows clash.derived clash.started p left el in
        let ir = index_is nodes image Here val arrays moves origins landings g gates starts net rows clash.derived clash.started q right er in
        let vl = value_is nodes image Here val arrays moves origins landings g gates starts net rows clash.derived clash.started p left el in
        let vr = value_is nodes image Here val arrays moves origins landings g gates starts net rows clash.derived clash.started q right er in
        let numbers : number_of (val (landing_at landings left.start).index) ≡ number_of (val (landing_at landings right.start).index) = sym il ∙ index ∙ ir in
        let words : same_value (val (landing_at landings left.start).index) (val (landing_at landings right.start).index) ≡ true = indexes left right array sl sr numbers in
        let other : same_value (val (landing_at landings left.start).value) (val (landing_at landings right.start).value) ≡ false = other_numbers (val (landing_at landings left.start).value) (val (landing_at landings right.start).value) (λ z. value (vl ∙ z ∙ sym vr)) in
        clash_is_false nodes val a b A.arrival B.arrival A.is B.is A.falses B.falses same
        (rw (A.index, B.index) words) (rw (A.value, B.value) other) where
          indexes : (x y : Row) → x.array ≡ y.array → Stands nodes image Here val arrays moves origins landings g gates starts net rows clash.derived clash.started x → Stands nodes image Here val arrays moves origins landings g gates starts net rows clash.derived clash.started y → number_of (val (landing_at landings x.start).index) ≡ number_of (val (landing_at landings y.start).index) → same_value (val (landing_at landings x.start).index) (val (landing_at landings y.start).index) ≡ true
          indexes x y e sx sy n =
              let w : sort.Word sx.index.width ≡ sort.Word sy.index.width = sym sx.index.array ∙ ap (λ z. index_sort (sort_of nodes (slice_index_or arrays z 0))) e ∙ sy.index.array in
              let m : sx.index.width ≡ sy.index.width = cc in
              same_words sy.index.width (val (landing_at landings x.start).index) (val (landing_at landings y.start).index) (subst (λ k. HasSort (sort.Word k) (val (landing_at landings x.start).index)) m sx.index.index) sy.index.index n
